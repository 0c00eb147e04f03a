-- What every turn of a redo keeps.
use Rattle.std.proofs.Common.{◌≡◌, ◌∙◌, sym, ap, subst, ℕ, zero, suc, Bool, true, false, List, [], ◌∷◌, ◌++◌, length, refl, nat_le, if◌then◌else◌}
use Rattle.std.specs.Prelude.{⊤, max}
use Rattle.oper_core.specs.Meaning.{Meaning}
use Rattle.explain_core.specs.History.{Member}
use Rattle.explain_core.specs.RunLaws.{run-append}
use Rattle.explain_core.specs.World.{IsAllStable, World, Step, step, run}
use Rattle.explain_core.specs.World.Step.{Begin, End, Append, Block_gate, Checkpoint, Slot_gate, Removal, Header_gate, Replay, Crash}
use Rattle.explain_core.specs.declared.marks.Marks.{Marks}
use Rattle.explain_core.specs.RoundGates.{Gate, gates_of, removals_of}
use Rattle.explain_core.specs.Turns.{free_gates, must_install, thin_turn, turn, turns}
use Rattle.explain_core.specs.TurnLaws.{by_thin_turn, turns_next, turns_none}

-- the log is as it was, and so is the group
pub record IsLogKept {O : Type 0} (w v : World O) : Type 0 where
  pub history : v.history ≡ w.history
  pub forced : v.forced ≡ w.forced
  pub tables : v.tables ≡ w.tables
  pub base : v.base ≡ w.base
  pub group : v.group ≡ w.group

pub kept_none : {O : Type 0} (w : World O) → IsLogKept w w
kept_none w = record { history = refl; forced = refl; tables = refl; base = refl; group = refl }

pub kept_twice : {O : Type 0} (u v w : World O) → IsLogKept u v → IsLogKept v w → IsLogKept u w
kept_twice u v w first second = record {
  history = second.history ∙ first.history;
  forced = second.forced ∙ first.forced;
  tables = second.tables ∙ first.tables;
  base = second.base ∙ first.base;
  group = second.group ∙ first.group;
}

-- so all is stable as before
pub kept_stable : {O : Type 0} (w v : World O) → IsLogKept w v → IsAllStable w → IsAllStable v
kept_stable {O} w v kept stable = (kept.forced ∙ stable.0 ∙ ap (λ (h : List (Member O)). length h) (sym kept.history), kept.group ∙ stable.1)

-- steps of a redo
abbrev pub IsQuiet : {O : Type 0} → Step O → Type 0
IsQuiet Begin = ⊥
IsQuiet End = ⊥
IsQuiet (Append member) = ⊥
IsQuiet Block_gate = ⊥
IsQuiet Checkpoint = ⊥
IsQuiet (Slot_gate node x) = ⊤
IsQuiet (Removal node) = ⊤
IsQuiet (Header_gate base) = ⊥
IsQuiet Replay = ⊤
IsQuiet Crash = ⊥

abbrev pub AreQuiet : {O : Type 0} → List (Step O) → Type 0
AreQuiet [] = ⊤
AreQuiet (s ∷ steps) = IsQuiet s × AreQuiet steps

step_kept : {O : Type 0} (m : Meaning O) (w : World O) (s : Step O) → IsQuiet s → IsLogKept w (step m w s)
unfolding step
step_kept m w Begin q = absurd q
step_kept m w End q = absurd q
step_kept m w (Append member) q = absurd q
step_kept m w Block_gate q = absurd q
step_kept m w Checkpoint q = absurd q
step_kept m w (Slot_gate node x) q = record { history = refl; forced = refl; tables = refl; base = refl; group = refl }
step_kept m w (Removal node) q = record { history = refl; forced = refl; tables = refl; base = refl; group = refl }
step_kept m w (Header_gate base) q = absurd q
step_kept m w Replay q = record { history = refl; forced = refl; tables = refl; base = refl; group = refl }
step_kept m w Crash q = absurd q

pub run_kept : {O : Type 0} (m : Meaning O) (w : World O) (steps : List (Step O)) → AreQuiet steps → IsLogKept w (run m w steps)
unfolding run
run_kept m w [] q = kept_none w
run_kept m w (s ∷ steps) q = kept_twice w (step m w s) (run m (step m w s) steps) (step_kept m w s q.0) (run_kept m (step m w s) steps q.1)

quiet_if : {O : Type 0} (b : Bool) (xs ys : List (Step O)) → AreQuiet xs → AreQuiet ys → AreQuiet (if b then xs else ys)
quiet_if true xs ys p q = p
quiet_if false xs ys p q = q

quiet_append : {O : Type 0} (xs ys : List (Step O)) → AreQuiet xs → AreQuiet ys → AreQuiet (xs ++ ys)
quiet_append [] ys first second = second
quiet_append (s ∷ xs) ys first second = (first.0, quiet_append xs ys first.1 second)

quiet_gates : (O : Type 0) (gates : List Gate) → AreQuiet {O = O} (gates_of gates)
quiet_gates O [] = tt
quiet_gates O (g ∷ gates) = (tt, quiet_gates O gates)

quiet_removals : (O : Type 0) (gates : List Gate) → AreQuiet {O = O} (removals_of gates)
quiet_removals O [] = tt
quiet_removals O (g ∷ gates) = (tt, quiet_removals O gates)

quiet_thin : {O : Type 0} (m : Meaning O) (most : ℕ) (w : World O) → AreQuiet (thin_turn m most w)
quiet_thin {O} m most w =
    let gates = free_gates m (max 1 most) w in
    by_thin_turn m (λ (l : List (Step O)). AreQuiet l) most w (λ thin some. quiet_append (gates_of gates) (removals_of gates) (quiet_gates O gates) (quiet_removals O gates)) (λ thin none. (tt, tt)) (λ no_thin. tt)

pub quiet_turn : {O : Type 0} (m : Meaning O) (marks : Marks) (w : World O) → AreQuiet (turn m marks w)
quiet_turn m marks w =
    quiet_if (must_install m marks w) (thin_turn m marks.most w) (if nat_le w.next (length w.history) then Replay ∷ [] else []) (quiet_thin m marks.most w)
    (quiet_if (nat_le w.next (length w.history)) (Replay ∷ []) [] (tt, tt) tt)

module _ {O : Type 0} (m : Meaning O) (marks : Marks) where
  pub run_next : (n : ℕ) (w : World O) → run m (run m w (turn m marks w)) (turns m marks n (run m w (turn m marks w))) ≡ run m w (turns m marks (suc n) w)
  run_next n w = sym (run-append m w (turn m marks w) (turns m marks n (run m w (turn m marks w)))) ∙ ap (run m w) (sym (turns_next m marks n w))

  pub run_zero : (w : World O) → w ≡ run m w (turns m marks 0 w)
  unfolding run
  run_zero w = sym (ap (run m w) (turns_none m marks w))

  pub turns_kept : (n : ℕ) (w : World O) → IsLogKept w (run m w (turns m marks n w))
  turns_kept zero w = subst (λ (v : World O). IsLogKept w v) (run_zero w) (kept_none w)
  turns_kept (suc n) w =
      let v = run m w (turn m marks w) in
      subst (λ (u : World O). IsLogKept w u) (run_next n w) (kept_twice w v (run m v (turns m marks n v)) (run_kept m w (turn m marks w) (quiet_turn m marks w)) (turns_kept n v))
