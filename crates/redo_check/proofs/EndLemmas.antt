-- The last line.
use Rattle.std.proofs.Common.{◌≡◌, ◌≢◌, ◌⊎◌, inl, inr, ℕ, List, [], ◌++◌, refl, sym, subst}
use Rattle.std.specs.Prelude.{⊤}
use Rattle.std.proofs.lemmas.List.{append-nil}
use Rattle.disk_model.specs.Disk.{Files, SaysFront}
use Rattle.disk_model.specs.declared.machine.FileNo.{FileNo}
use Rattle.redo_check.specs.Checking.{Ends, IsLastLine, IsRestart, SaysLines, SaysNoMore, restart_line}
use Rattle.tool_output.specs.Found.{IsStopped}
use Rattle.tool_output.specs.Lines.{damaged, not_a_store, stop_line}
use Rattle.redo_check.specs.Checking.IsLastLine.{broken, no_store, none_said}
use Rattle.redo_check.specs.declared.restart.Restart.{Restart}
use Rattle.tool_output.specs.declared.status.Status.{Status}
use Rattle.tool_output.specs.declared.status.Status.TheVariants as statuses
use Rattle.tool_output.specs.declared.stop.Stop.{Stop}
use Rattle.tool_output.specs.declared.stop.Stop.TheVariants as stops

-- how it ends where all checks hold
abbrev IsOfWhole : Status → Type 0
IsOfWhole statuses.Done = ⊤
IsOfWhole statuses.Memory = ⊤
IsOfWhole statuses.SayFault = ⊤
IsOfWhole status = ⊥

of_whole : (status : Status) → (status ≡ statuses.Done) ⊎ ((status ≡ statuses.Memory) ⊎ (status ≡ statuses.SayFault)) → IsOfWhole status
of_whole status (inl is) = subst IsOfWhole (sym is) tt
of_whole status (inr (inl is)) = subst IsOfWhole (sym is) tt
of_whole status (inr (inr is)) = subst IsOfWhole (sym is) tt

-- of files without a fault
pub ends_whole : (files : Files) (before after : List ℕ) (it : Restart) (status : Status) → IsRestart files it → (status ≡ statuses.Done) ⊎ ((status ≡ statuses.Memory) ⊎ (status ≡ statuses.SayFault))
    → (status ≡ statuses.Done → after ≡ before ++ restart_line it) → Ends files before after status
ends_whole files before after it statuses.Done is one said = (it, is, said refl)
ends_whole files before after it statuses.NotAStore is one said = absurd (of_whole statuses.NotAStore one)
ends_whole files before after it statuses.Damaged is one said = absurd (of_whole statuses.Damaged one)
ends_whole files before after it statuses.DiskFault is one said = tt
ends_whole files before after it statuses.SayFault is one said = tt
ends_whole files before after it statuses.Memory is one said = tt

-- where no restart may be made
pub ends_stopped : (files : Files) (before after : List ℕ) (stop : Stop) (status : Status) → IsStopped files stop → (status ≡ statuses.NotAStore → (stop ≡ stops.NotAStore) × (after ≡ before ++ not_a_store))
    → (status ≡ statuses.Damaged → (file : FileNo) × (place : ℕ) × (stop ≡ stops.Damaged file place) × (after ≡ before ++ damaged file place)) → status ≢ statuses.Done → Ends files before after status
ends_stopped files before after stop statuses.Done is none damage undone = absurd (undone refl)
ends_stopped files before after stop statuses.NotAStore is none damage undone = let told = none refl in (subst (IsStopped files) told.0 is, told.1)
ends_stopped files before after stop statuses.Damaged is none damage undone = let told = damage refl in (told.0, told.1, subst (IsStopped files) told.2 is, told.3)
ends_stopped files before after stop statuses.DiskFault is none damage undone = tt
ends_stopped files before after stop statuses.SayFault is none damage undone = tt
ends_stopped files before after stop statuses.Memory is none damage undone = tt

-- the line that a stop means
pub last_of_stop : (files : Files) (stop : Stop) → IsStopped files stop → IsLastLine files (stop_line stop)
last_of_stop files stops.NotAStore is = no_store is refl
last_of_stop files (stops.Damaged file place) is = broken file place is refl
last_of_stop files stops.DiskFault is = none_said refl
last_of_stop files stops.SayFault is = none_said refl
last_of_stop files stops.Memory is = none_said refl

-- the lines, and no last one
pub no_last : (files : Files) (before after : List ℕ) → (after ≡ before) ⊎ ((text : List ℕ) × SaysLines files text × SaysFront text before after) → SaysNoMore files before after
no_last files before after (inl same) = inl same
no_last files before after (inr (text, lines, front)) = inr (record {
  text = text;
  lines = lines;
  last = [];
  last_is = none_said refl;
  front = subst (λ (l : List ℕ). SaysFront l before after) (sym (append-nil text)) front;
})
