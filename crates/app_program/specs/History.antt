-- What happens to one machine, and what it comes to: however feeds and steps alternate, the machine does what it does on all
-- that was fed.
use Rattle.std.proofs.Common.{◌≡◌, ℕ, suc, ◌+◌, Option, None, Some, List, [], ◌∷◌, ◌++◌, refl, sym, subst, ◌∙◌, append_assoc, arith}
use Rattle.std.specs.Prelude.{⊤, is_none, if◌then◌else◌, option_and_then}
use Rattle.std.proofs.lemmas.List.{append-nil}
use Rattle.oper_core.specs.declared.bounds.Bounds.{Bounds}
use Rattle.app_program.specs.Machine.{Machine, machine, new_machine, step}
use Rattle.app_program.specs.MachineLaws.{first_of, machine_more, machine_next}
use Rattle.app_program.specs.OneCode.{AreBytes}
use Rattle.app_program.specs.State.{fed, machine_of, state_code}
use Rattle.app_program.specs.Table.{feed_check, step_check, stepped}
use Rattle.app_program.specs.declared.instruction.Instruction.{Instruction}

-- it is fed bytes, or does a step
pub data Event : Type 0 where
  Feeding : (bytes : List ℕ) → Event
  Stepping : Event

-- all that was fed, and how many steps there were
abbrev pub all_fed : List Event → List ℕ
all_fed [] = []
all_fed (Feeding bytes ∷ events) = bytes ++ all_fed events
all_fed (Stepping ∷ events) = all_fed events

abbrev pub step_count : List Event → ℕ
step_count [] = 0
step_count (Feeding bytes ∷ events) = step_count events
step_count (Stepping ∷ events) = step_count events + 1

-- what is fed consists of bytes
abbrev pub FeedsBytes : List Event → Type 0
FeedsBytes [] = ⊤
FeedsBytes (Feeding bytes ∷ events) = AreBytes bytes × FeedsBytes events
FeedsBytes (Stepping ∷ events) = FeedsBytes events

-- the machine after one event; none where it can't do the step
abbrev pub happened : List Instruction → Machine → Event → Option Machine
happened program m (Feeding bytes) = Some (fed m bytes)
happened program m Stepping = step program m

-- and after several
abbrev pub all_happened : List Instruction → Machine → List Event → Option Machine
all_happened program m [] = Some m
all_happened program m (event ∷ events) = option_and_then (λ n. all_happened program n events) (happened program m event)

-- the value of an object after an accepted operation on it, by the program that is the value p; none where it is refused
abbrev pub value_after : Bounds → List ℕ → List ℕ → Event → Option (List ℕ)
value_after b p a (Feeding x) = if is_none (feed_check b a x) then Some (state_code (fed (machine_of a) x)) else None
value_after b p a Stepping = if is_none (step_check b a p) then Some (state_code (stepped a p)) else None

-- and after several
abbrev pub value_after_all : Bounds → List ℕ → List ℕ → List Event → Option (List ℕ)
value_after_all b p a [] = Some a
value_after_all b p a (event ∷ events) = option_and_then (λ v. value_after_all b p v events) (value_after b p a event)

-- from a machine that k steps on some input lead to, the events lead to what as many steps more on all the input lead to
runs_on : (program : List Instruction) (events : List Event) (input : List ℕ) (k : ℕ) (m n : Machine) → machine program input k ≡ Some m
    → all_happened program m events ≡ Some n → machine program (input ++ all_fed events) (k + step_count events) ≡ Some n
runs_on program [] input k m n before e =
    let count : k ≡ k + 0 = omega arith in
    subst (λ (all : List ℕ). machine program all (k + 0) ≡ Some n) (sym (append-nil input))
    (subst (λ (j : ℕ). machine program input j ≡ Some n) count (before ∙ e))
runs_on program (Feeding bytes ∷ events) input k m n before e =
    let more = machine_more bytes program input k m before in
    subst (λ (all : List ℕ). machine program all (k + step_count events) ≡ Some n) (append_assoc input bytes (all_fed events))
    (runs_on program events (input ++ bytes) k (fed m bytes) n more e)
runs_on program (Stepping ∷ events) input k m n before e =
    let at = first_of (λ t. all_happened program t events) (step program m) n e in
    let more = machine_next program input k m at.0 before at.1 in
    let count : suc k + step_count events ≡ k + (step_count events + 1) = omega arith in
    subst (λ (j : ℕ). machine program (input ++ all_fed events) j ≡ Some n) count (runs_on program events input (suc k) at.0 n more at.2)

-- a machine without input at first does on what it is fed what it does on all of it
pub runs_on_all : (program : List Instruction) (events : List Event) (m : Machine) → all_happened program (new_machine []) events ≡ Some m
    → machine program (all_fed events) (step_count events) ≡ Some m
runs_on_all program events m e =
    let count : 0 + step_count events ≡ step_count events = omega arith in
    subst (λ (j : ℕ). machine program (all_fed events) j ≡ Some m) count (runs_on program events [] 0 (new_machine []) m refl e)
