-- A backup is started.
use Rattle.std.proofs.Common.{◌≡◌, ◌∙◌, ℕ, [], Some, sym, ap, subst, arith}
use Rattle.std.specs.Prelude.{◌↔◌, IfOk, IsTrue, Result, Ok, Err, Bool, false}
use Rattle.disk_model.specs.Disk.{Files, Disk, Stays}
use Rattle.disk_model.specs.Moments.{told_agrees}
use Rattle.disk_model.specs.declared.machine.Failed.{Failed}
use Rattle.disk_model.specs.declared.machine.FileNo.TheVariants.{Objects}
use Rattle.oper_core.specs.Cell.{Cell}
use Rattle.oper_core.specs.Meaning.{Meaning}
use Rattle.oper_core.specs.declared.bounds.Bounds.{Bounds}
use Rattle.formats.specs.Objects.{BeginsStore, bounds_of}
use Rattle.formats.specs.declared.params.Params.{Params}
use Rattle.explain_core.specs.Backup.{IsCopied}
use Rattle.explain_core.specs.World.{World, run}
use Rattle.running_store.specs.Calls.{IsFailed, ending_of_force}
use Rattle.running_store.specs.Courses.{force_steps}
use Rattle.store_engine.specs.Calls.{IsForcing}
use Rattle.store_engine.specs.Engine.{EngineView, ShowsIn}
use Rattle.store_engine.specs.Grouping.{ungrouped}
use Rattle.store_engine.specs.Store.{meaning_in}
use Rattle.backup_copy.specs.Calls.{BeginsNone, backup_of_force}
use Rattle.backup_copy.specs.Copies.{Copies}
use Rattle.backup_copy.specs.Target.{IsPartCopy}
use Rattle.backup_copy.specs.declared.backup_err.BackupErr.{BackupErr}
use Rattle.backup_copy.specs.declared.backup_err.BackupErr.TheVariants.{DiskFault}
use Rattle.backup_copy.proofs.Shown.{shows_copied}

-- what holds where a test answers well
pub if_judged : {A : Type 0} (P : A → Type 0) (r j : Result A BackupErr) (value : A) → r ≡ j → r ≡ Ok value → P value → IfOk j P
if_judged {A} P r j value same was here = subst (λ (x : Result A BackupErr). IfOk x P) (sym was ∙ same) here

-- a target in which no store begins that was looked at
pub looked_none : (old new : Disk) (there : Bool) → there ≡ false → Stays old new → ((files : Files) → new.agrees files → IsTrue there ↔ BeginsStore (files Objects)) → old.tells_files → BeginsNone old.reads
looked_none old new there none kept begins told found = let is = (begins old.reads (told_agrees kept told)).1 found in cc (is, none)

-- a force that failed counted that
pub force_counted : {P : Type 0} (answer : Result ℕ Failed) (e : BackupErr) → backup_of_force answer ≡ Err e → (IsFailed (ending_of_force answer) → P) → (DiskFault ≡ e) × P
force_counted (Ok n) e is fault = cc
force_counted (Err failed) e is fault = (ap (λ (r : Result ℕ BackupErr). error_or r) is, fault tt)
  where
    error_or : Result ℕ BackupErr → BackupErr
    error_or (Ok n) = DiskFault
    error_or (Err k) = k

module _ {O : Type 0} (meaning : Bounds → Meaning O) (p : Params) (w : World O) where
  abbrev m : Meaning O
  m = meaning_in meaning p

  abbrev pub forced_world : World O
  forced_world = run m w (force_steps m w)

  -- a force that was done shows the world after it
  pub force_shows : (old new : Disk) (before after : EngineView) (answer : Result ℕ Failed) (n : ℕ) → backup_of_force answer ≡ Ok n → IsForcing meaning old new before after answer → ShowsIn meaning p old before w → ShowsIn meaning p new after forced_world
  force_shows old new before after (Ok k) n is forcing shows = (forcing.takes.follows p w shows).1.shows
  force_shows old new before after (Err e) n is forcing shows = cc

  -- and a target laid out has no object of it yet
  pub begun : (new : Disk) (between after : EngineView) (t : Disk) (q : Params) → ((b : Bounds) (w : World O) (cells : ℕ → Cell) → IsCopied (meaning b) w 0 cells) → ShowsIn meaning p new between forced_world → after ≡ record between { copied = Some 0 }
      → q ≡ p → (t.tells_files → (cells : ℕ → Cell) → IsPartCopy q 0 cells t) → Copies meaning p new after forced_world t
  begun new between after t q none shows is same target =
      let cells : ℕ → Cell = λ x. record { lsn = 0; value = [] } in
      record {
        shows = subst (λ (e : EngineView). ShowsIn meaning p new e forced_world) (sym is) (shows_copied meaning p new between forced_world shows (Some 0));
        done = 0;
        so_far = ap (λ (e : EngineView). e.copied) is;
        within = omega arith;
        cells = cells;
        copied = none (bounds_of p) (ungrouped forced_world) cells;
        target = λ told. subst (λ (x : Params). IsPartCopy x 0 cells t) same (target told cells);
      }
