-- The records from an LSN on, and the LSN after the first of some records.
use Rattle.std.proofs.Common.{◌≡◌, ◌∙◌, sym, ap, subst, ℕ, ◌+◌, ◌≤◌, List, [], ◌∷◌, ◌++◌, refl, arith, inl, inr}
use Rattle.std.proofs.lemmas.Bool.{cases_Bool, cond-true, cond-false}
use Rattle.disk_model.specs.Disk.{Files}
use Rattle.oper_core.specs.Meaning.{Meaning}
use Rattle.formats.specs.Records.{Rise}
use Rattle.formats.specs.declared.params.Params.{Params}
use Rattle.formats.specs.declared.record.Record.{Record}
use Rattle.formats.specs.declared.record.Record.TheVariants.{Command, Identity, Checkpoint}
use Rattle.log_records.specs.Rewriting.{is_from_lsn, from_lsn}
use Rattle.stable_objects.specs.SlotsView.{SlotsView}
use Rattle.explain_core.specs.World.{World}
use Rattle.analysis_pass.specs.Analysis.{PlanView}
use Rattle.redo_pass.specs.Redo.{IsRedoDue}
use Rattle.redo_pass.specs.Rising.{AreMembers}
use Rattle.redo_pass.proofs.Members.{members_from_lsn}

-- of the records from an LSN on all are from it on
from_lsn_twice : {O : Type 0} (from : ℕ) (records : List (Record O)) → from_lsn from (from_lsn from records) ≡ from_lsn from records
from_lsn_twice from [] = refl
from_lsn_twice {O} from (r ∷ records) = elim (cases_Bool (is_from_lsn from r)) [
  | inl stays ↦
      let kept : from_lsn from (r ∷ records) ≡ r ∷ from_lsn from records = cond-true _ _ _ stays in
      let again : from_lsn from (r ∷ from_lsn from records) ≡ r ∷ from_lsn from (from_lsn from records) = cond-true _ _ _ stays in
      ap (λ (l : List (Record O)). from_lsn from l) kept ∙ again ∙ ap (λ (l : List (Record O)). r ∷ l) (from_lsn_twice from records) ∙ sym kept
  | inr goes ↦
      let left : from_lsn from (r ∷ records) ≡ from_lsn from records = cond-false _ _ _ goes in
      ap (λ (l : List (Record O)). from_lsn from l) left ∙ from_lsn_twice from records ∙ sym left
]

-- those that are due are the members of the world's history from the plan's start on
pub due_members : {O : Type 0} (m : Meaning O) (p : Params) (files : Files) (slots : SlotsView) (plan : PlanView) (stable : List (Record O)) (w : World O)
    → IsRedoDue m p files slots plan (from_lsn plan.start stable) w → AreMembers w.history plan.start (from_lsn plan.start stable)
due_members m p files slots plan stable w due =
    subst (λ (l : List (Record _)). AreMembers w.history plan.start l) (from_lsn_twice plan.start stable)
    (members_from_lsn plan.start w.history due.from (from_lsn plan.start stable) due.members (omega (arith, due.start, due.low)) (omega (arith, due.start, due.found.sound.next.1)))

-- the LSN from which on those after a record rise
abbrev pub behind : {O : Type 0} → ℕ → Record O → ℕ
behind low (Command lsn op) = lsn + 1
behind low (Identity lsn x value) = lsn + 1
behind low (Checkpoint t) = low

-- and those after some records
abbrev pub reached : {O : Type 0} → ℕ → List (Record O) → ℕ
reached low [] = low
reached low (r ∷ records) = reached (behind low r) records

pub reached_more : {O : Type 0} (low : ℕ) (records : List (Record O)) (r : Record O) → reached low (records ++ r ∷ []) ≡ behind (reached low records) r
reached_more low [] r = refl
reached_more low (s ∷ records) r = reached_more (behind low s) records r

pub reached_rise : {O : Type 0} (low end : ℕ) (records more : List (Record O)) → low ≤ end → Rise low end (records ++ more) → (reached low records ≤ end) × Rise (reached low records) end more
reached_rise low end [] more le rise = (le, rise)
reached_rise low end (Command lsn op ∷ records) more le rise = reached_rise (lsn + 1) end records more (omega (arith, rise.1)) rise.2
reached_rise low end (Identity lsn x value ∷ records) more le rise = reached_rise (lsn + 1) end records more (omega (arith, rise.1)) rise.2
reached_rise low end (Checkpoint t ∷ records) more le rise = reached_rise low end records more le rise
