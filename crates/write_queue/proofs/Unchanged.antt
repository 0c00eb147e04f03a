-- Calls that change neither the files nor what is queued.
use Rattle.std.proofs.Common.{◌≡◌, ◌≤◌, ℕ, List, refl, sym, subst, arith}
use Rattle.std.proofs.lemmas.List.{append-nil}
use Rattle.disk_model.specs.Disk.{Files, Disk, Exchange, IsDisk, Runs, Stays, Same, In, Torn, SaysFront}
use Rattle.disk_model.specs.Exchanged.{with_exchange, runs_with_exchange}
use Rattle.disk_model.specs.Fused.{runs_with_faults}
use Rattle.disk_model.specs.Moments.{runs_silent, stays_here}
use Rattle.disk_model.specs.Call.{Call}
use Rattle.disk_model.specs.Calls.{disk_after, disk_start}
use Rattle.disk_model.specs.CallLaws.{torn_none}
use Rattle.disk_model.specs.declared.machine.FileNo.{FileNo}
use Rattle.write_queue.specs.Before.{Makes, disk_by, lawful_by}

module _ (exchange : Exchange) (first : Files) (calls later : List Call) (now now' : Files) (df df' sf sf' : ℕ) (same_calls : later ≡ calls) (same_files : now' ≡ now) (d : df ≤ df') (s : sf ≤ sf') (made : Makes first calls (now)) where
  abbrev old : Disk
  old = disk_by first calls (now) df sf

  abbrev new : Disk
  new = disk_by first later now' df' sf'

  pub still_makes : Makes first later now'
  still_makes = subst (λ (l : List Call). Makes first l now') (sym same_calls) (subst (λ (f : Files). Makes first calls f) (sym same_files) made)

  counts : (step : Files → Files → Type 0) (says : List ℕ → List ℕ → Type 0) → Runs step says old old → Runs step says (with_exchange exchange old) (with_exchange exchange new)
  counts step says run = runs_with_exchange exchange old new step says (
      subst (λ (l : List Call). Runs step says old (disk_by first l now' df' sf')) (sym same_calls)
      (subst (λ (f : Files). Runs step says old (disk_by first calls f df' sf')) (sym same_files)
      (runs_with_faults old old step says df df' sf sf' d s run)))

  lawful : IsDisk old
  lawful = lawful_by first calls (now) df sf made

  pub looks : Stays (with_exchange exchange old) (with_exchange exchange new)
  looks = counts Same Same (stays_here old lawful)

  pub writes_nothing : (file : FileNo) (at n : ℕ) → Runs (In file (Torn at n)) Same (with_exchange exchange old) (with_exchange exchange new)
  writes_nothing file at n = counts (In file (Torn at n)) Same
      (runs_silent old (In file (Torn at n)) Same (λ c. record { changed = torn_none at n (c file); others = λ other is_other. refl }) refl lawful)

  pub says_nothing : (bytes : List ℕ) → Runs Same (SaysFront bytes) (with_exchange exchange old) (with_exchange exchange new)
  says_nothing bytes = counts Same (SaysFront bytes)
      (runs_silent old Same (SaysFront bytes) (λ c. refl) (0, omega arith, sym (append-nil (disk_after (disk_start first) calls).said)) lawful)
