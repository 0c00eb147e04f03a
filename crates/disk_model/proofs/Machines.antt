-- Calls of a machine in memory that change nothing on its disk.
use Rattle.std.proofs.Common.{ℕ, List, ◌≤◌, refl, sym, arith}
use Rattle.std.proofs.lemmas.List.{append-nil}
use Rattle.disk_model.specs.Disk.{IsDisk, Runs, Stays, Same, In, Torn, SaysFront}
use Rattle.disk_model.specs.Fused.{with_faults, runs_with_faults}
use Rattle.disk_model.specs.Moments.{runs_silent, stays_here}
use Rattle.disk_model.specs.CallLaws.{is_disk, torn_none}
use Rattle.disk_model.specs.Recorded.{calls_of, first_of, reads_of, synced_of}
use Rattle.disk_model.specs.Store.{recorded}
use Rattle.disk_model.specs.declared.machine.FileNo.{FileNo}
use Rattle.disk_model.specs.declared.mem_disk.MemDisk.{MemDisk}

module _ (d : MemDisk) where
  lawful : IsDisk (recorded d)
  lawful = is_disk (first_of d.files) (calls_of d.history) (reads_of d.files) (synced_of d.files) d.said.bytes.items 0 0 d.matches

  pub looks : (df df' sf sf' : ℕ) → df ≤ df' → sf ≤ sf' → Stays (with_faults (recorded d) df sf) (with_faults (recorded d) df' sf')
  looks df df' sf sf' a b = runs_with_faults (recorded d) (recorded d) Same Same df df' sf sf' a b (stays_here (recorded d) lawful)

  pub writes_nothing : (file : FileNo) (at n : ℕ) (df df' sf : ℕ) → df ≤ df' → Runs (In file (Torn at n)) Same (with_faults (recorded d) df sf) (with_faults (recorded d) df' sf)
  writes_nothing file at n df df' sf a = runs_with_faults (recorded d) (recorded d) (In file (Torn at n)) Same df df' sf sf a (omega arith)
      (runs_silent (recorded d) (In file (Torn at n)) Same (λ c. record { changed = torn_none at n (c file); others = λ other is_other. refl }) refl lawful)

  pub says_nothing : (bytes : List ℕ) (df sf sf' : ℕ) → sf ≤ sf' → Runs Same (SaysFront bytes) (with_faults (recorded d) df sf) (with_faults (recorded d) df sf')
  says_nothing bytes df sf sf' b = runs_with_faults (recorded d) (recorded d) Same (SaysFront bytes) df df sf sf' (omega arith) b
      (runs_silent (recorded d) Same (SaysFront bytes) (λ c. refl) (0, omega arith, sym (append-nil d.said.bytes.items)) lawful)
