-- A world but for its open group, and the steps that leave a group as it is.
use Rattle.std.proofs.Common.{◌≡◌, ◌∙◌, sym, subst, ap, ℕ, List, [], ◌∷◌, ◌++◌, refl, Option, None, Some}
use Rattle.std.specs.Prelude.{⊤}
use Rattle.oper_core.specs.Meaning.{Meaning}
use Rattle.explain_core.specs.RunLaws.{Begins, begins-each}
use Rattle.explain_core.specs.World.{World, Step, step, run}
use Rattle.explain_core.specs.World.Step.{Begin, End, Append, Block_gate, Checkpoint, Slot_gate, Removal, Header_gate, Replay, Crash}

-- the same world with no group open
abbrev pub ungrouped : {O : Type 0} → World O → World O
ungrouped w = record w { group = None }

-- it is the world itself where none is
pub ungrouped_alone : {O : Type 0} (w : World O) → w.group ≡ None → ungrouped w ≡ w
ungrouped_alone w none = λ i. record w { group = sym none i }

-- within a group only commands are appended; outside groups any step is taken that opens none
abbrev pub IsInside : {O : Type 0} → Option ℕ → Step O → Type 0
IsInside group Begin = ⊥
IsInside group End = ⊥
IsInside group (Append member) = ⊤
IsInside group Block_gate = group ≡ None
IsInside group Checkpoint = group ≡ None
IsInside group (Slot_gate node x) = group ≡ None
IsInside group (Removal node) = group ≡ None
IsInside group (Header_gate base) = group ≡ None
IsInside group Replay = group ≡ None
IsInside group Crash = ⊥

abbrev pub AreInside : {O : Type 0} → Option ℕ → List (Step O) → Type 0
AreInside group [] = ⊤
AreInside group (s ∷ steps) = IsInside group s × AreInside group steps

-- after such steps the same group is open, and each leads to the same world but for the group
pub record StaysInside {O : Type 0} (m : Meaning O) (w : World O) (steps : List (Step O)) : Type 0 where
  pub group : (run m w steps).group ≡ w.group
  pub same : ungrouped (run m w steps) ≡ run m (ungrouped w) steps

module _ {O : Type 0} (m : Meaning O) where
  step_group : (group : Option ℕ) (w : World O) (s : Step O) → IsInside group s → (step m w s).group ≡ w.group
  unfolding step
  step_group group w Begin is = absurd is
  step_group group w End is = absurd is
  step_group group w (Append member) is = refl
  step_group group w Block_gate is = refl
  step_group group w Checkpoint is = refl
  step_group group w (Slot_gate node x) is = refl
  step_group group w (Removal node) is = refl
  step_group group w (Header_gate base) is = refl
  step_group group w Replay is = refl
  step_group group w Crash is = absurd is

  step_same : (group : Option ℕ) (w : World O) (s : Step O) → IsInside group s → ungrouped (step m w s) ≡ step m (ungrouped w) s
  unfolding step
  step_same group w Begin is = absurd is
  step_same group w End is = absurd is
  step_same group w (Append member) is = refl
  step_same group w Block_gate is = refl
  step_same group w Checkpoint is = refl
  step_same group w (Slot_gate node x) is = refl
  step_same group w (Removal node) is = refl
  step_same group w (Header_gate base) is = refl
  step_same group w Replay is = refl
  step_same group w Crash is = absurd is

  pub stays_inside : (group : Option ℕ) (w : World O) (steps : List (Step O)) → AreInside group steps → StaysInside m w steps
  unfolding run
  stays_inside group w [] are = record { group = refl; same = refl }
  stays_inside group w (s ∷ steps) are =
      let rest = stays_inside group (step m w s) steps are.1 in
      record {
        group = rest.group ∙ step_group group w s are.0;
        same = rest.same ∙ ap (λ (v : World O). run m v steps) (step_same group w s are.0);
      }

  -- within a group no checkpoint is taken
  step_waits : (begun : ℕ) (w : World O) (s : Step O) → IsInside (Some begun) s → (step m w s).pending ≡ w.pending
  unfolding step
  step_waits begun w Begin is = absurd is
  step_waits begun w End is = absurd is
  step_waits begun w (Append member) is = refl
  step_waits begun w Block_gate is = cc is
  step_waits begun w Checkpoint is = cc is
  step_waits begun w (Slot_gate node x) is = refl
  step_waits begun w (Removal node) is = refl
  step_waits begun w (Header_gate base) is = cc is
  step_waits begun w Replay is = refl
  step_waits begun w Crash is = absurd is

  pub same_waits : (begun : ℕ) (w : World O) (steps : List (Step O)) → AreInside (Some begun) steps → (run m w steps).pending ≡ w.pending
  unfolding run
  same_waits begun w [] are = refl
  same_waits begun w (s ∷ steps) are = same_waits begun (step m w s) steps are.1 ∙ step_waits begun w s are.0

module _ {O : Type 0} (group : Option ℕ) where
  -- so are some of them
  pub front_inside : (steps taken : List (Step O)) → Begins steps taken → AreInside group steps → AreInside group taken
  front_inside steps taken begins are = begins-each (IsInside group) (AreInside group) tt (λ s more one rest. (one, rest)) (λ s more both. both) steps taken begins are
