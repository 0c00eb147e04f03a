-- Turns one after the other.
use Rattle.std.proofs.Common.{◌≡◌, ◌∙◌, sym, ap, ℕ, zero, suc, ◌+◌, ◌≤◌, List, [], ◌∷◌, ◌++◌, length, refl, arith, nat_le, if◌then◌else◌}
use Rattle.std.specs.Prelude.{IsTrue, IsFalse, max}
use Rattle.std.proofs.lemmas.Bool.{cond_both, cond-true, cond-false, le-leb}
use Rattle.std.proofs.lemmas.List.{append-nil, append_assoc}
use Rattle.oper_core.specs.Meaning.{Meaning}
use Rattle.explain_core.specs.RunLaws.{run-append}
use Rattle.explain_core.specs.World.{World, Step, step, run}
use Rattle.explain_core.specs.World.Step.{Removal, Replay}
use Rattle.explain_core.specs.Turns.{free_round, has_thin, must_install, thin_has_work, thin_node, thin_turn, turn, turns}
use Rattle.explain_core.specs.declared.marks.Marks.{Marks}

-- what holds of a round where the thin node has work, of its removal where it has none, and of no step where no node is thin, holds
-- of a turn that logs nothing
pub by_thin_turn : {O : Type 0} (m : Meaning O) (P : List (Step O) → Type 0) (most : ℕ) (w : World O) → (IsTrue (has_thin m w) → IsTrue (thin_has_work m w) → P (free_round m (max 1 most) w))
    → (IsTrue (has_thin m w) → IsFalse (thin_has_work m w) → P (Removal (thin_node m w) ∷ [])) → (IsFalse (has_thin m w) → P []) → P (thin_turn m most w)
by_thin_turn {O} m P most w round removal nothing =
    let gated : List (Step O) = free_round m (max 1 most) w in
    let alone : List (Step O) = Removal (thin_node m w) ∷ [] in
    cond_both (has_thin m w) (if thin_has_work m w then gated else alone) [] P (λ thin. cond_both (thin_has_work m w) gated alone P (λ some. round thin some) (λ none. removal thin none)) nothing

-- no step changes nothing
pub run_none : {O : Type 0} (m : Meaning O) (w : World O) → run m w [] ≡ w
unfolding run
run_none m w = refl

module _ {O : Type 0} (m : Meaning O) (marks : Marks) where
  -- a turn, and those after it
  pub turns_next : (n : ℕ) (w : World O) → turns m marks (suc n) w ≡ turn m marks w ++ turns m marks n (run m w (turn m marks w))
  unfolding turns
  turns_next n w = refl

  pub turns_none : (w : World O) → turns m marks 0 w ≡ []
  unfolding turns
  turns_none w = refl

  -- turns in two parts
  pub turns_join : (a b : ℕ) (w : World O) → turns m marks (a + b) w ≡ turns m marks a w ++ turns m marks b (run m w (turns m marks a w))
  turns_join zero b w =
      let here : run m w (turns m marks 0 w) ≡ w = ap (run m w) (turns_none w) ∙ run_none m w in
      ap (λ (k : ℕ). turns m marks k w) (omega arith)
      ∙ sym (ap (turns m marks b) here)
      ∙ sym (ap (λ (xs : List (Step O)). xs ++ turns m marks b (run m w (turns m marks 0 w))) (turns_none w))
  turns_join (suc a) b w =
      let t = turn m marks w in
      let v = run m w t in
      ap (λ (k : ℕ). turns m marks k w) (omega arith)
      ∙ turns_next (a + b) w
      ∙ ap (λ (xs : List (Step O)). t ++ xs) (turns_join a b v)
      ∙ sym (append_assoc t (turns m marks a v) (turns m marks b (run m v (turns m marks a v))))
      ∙ ap (λ (u : World O). (t ++ turns m marks a v) ++ turns m marks b u) (sym (run-append m w t (turns m marks a v)))
      ∙ sym (ap (λ (xs : List (Step O)). xs ++ turns m marks b (run m w xs)) (turns_next a w))

  pub run_join : (a b : ℕ) (w : World O) → run m w (turns m marks (a + b) w) ≡ run m (run m w (turns m marks a w)) (turns m marks b (run m w (turns m marks a w)))
  run_join a b w = ap (run m w) (turns_join a b w) ∙ run-append m w (turns m marks a w) (turns m marks b (run m w (turns m marks a w)))

  -- one turn
  pub one_turn : (w : World O) → turns m marks 1 w ≡ turn m marks w
  one_turn w = turns_next 0 w ∙ ap (λ (xs : List (Step O)). turn m marks w ++ xs) (turns_none (run m w (turn m marks w))) ∙ append-nil (turn m marks w)

  -- it is a replay, where nothing is to be installed
  pub replay_turn : (w : World O) → IsFalse (must_install m marks w) → w.next ≤ length w.history → turn m marks w ≡ Replay ∷ []
  replay_turn w none old = cond-false (must_install m marks w) _ _ none ∙ cond-true (nat_le w.next (length w.history)) _ _ (le-leb _ _ old)

  pub install_turn : (w : World O) → IsTrue (must_install m marks w) → turn m marks w ≡ thin_turn m marks.most w
  install_turn w must = cond-true (must_install m marks w) _ _ must

  pub run_replay : (w : World O) → IsFalse (must_install m marks w) → w.next ≤ length w.history → run m w (turns m marks 1 w) ≡ step m w Replay
  unfolding run
  run_replay w none old = ap (run m w) (one_turn w ∙ replay_turn w none old)

  pub run_install : (w : World O) → IsTrue (must_install m marks w) → run m w (turns m marks 1 w) ≡ run m w (thin_turn m marks.most w)
  run_install w must = ap (run m w) (one_turn w ∙ install_turn w must)
