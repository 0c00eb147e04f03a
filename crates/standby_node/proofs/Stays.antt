-- What is stable of a store stays, whatever steps it takes.
use Rattle.std.proofs.Common.{◌≡◌, ◌∙◌, sym, ap, ℕ, zero, suc, ◌+◌, ◌≤◌, Some, List, [], ◌∷◌, ◌++◌, length, take, drop, arith, append_assoc, length-append, length-take, take-append-drop}
use Rattle.std.specs.Prelude.{slice_get}
use Rattle.std.proofs.Math.Seq.{take-length}
use Rattle.std.proofs.lemmas.List.{append-nil, take-append-le, take-take}
use Rattle.oper_core.specs.Meaning.{Meaning}
use Rattle.explain_core.specs.History.{Member, with_lsn}
use Rattle.explain_core.specs.World.{Step, World, run, step}
use Rattle.explain_core.specs.World.Step.{Begin, End, Append, Block_gate, Checkpoint, Slot_gate, Removal, Header_gate, Replay, Crash}
use Rattle.standby_node.specs.OnePrimary.{IsFront, stable_in}

pub front_of_front : {A : Type 0} (xs ys zs : List A) → IsFront xs ys → IsFront ys zs → IsFront xs zs
front_of_front {A} xs ys zs one two = (one.0 ++ two.0, two.1 ∙ ap (λ (l : List A). l ++ two.0) one.1 ∙ append_assoc xs one.0 two.0)

-- the first items of a list are a front of it
pub take_front : {A : Type 0} (n : ℕ) (xs : List A) → IsFront (take n xs) xs
take_front n xs = (drop n xs, sym (take-append-drop n xs))

-- an item of a front stands in all of the list
pub front_at : {A : Type 0} (front more : List A) (i : ℕ) (x : A) → slice_get front i ≡ Some x → slice_get (front ++ more) i ≡ Some x
front_at [] more i x is = cc
front_at (y ∷ front) more zero x is = is
front_at (y ∷ front) more (suc i) x is = front_at front more i x is

module _ {O : Type 0} where
  pub front_with_lsn : (front all : List (Member O)) → IsFront front all → (n : ℕ) (member : Member O) → with_lsn front n ≡ Some member → with_lsn all n ≡ Some member
  front_with_lsn front all is zero member there = cc
  front_with_lsn front all is (suc n) member there = ap (λ (h : List (Member O)). slice_get h n) is.1 ∙ front_at front is.0 n member there

module _ {O : Type 0} (m : Meaning O) where
  -- the stable members of one world are a front of another's, which has no more stable ones than members
  pub record IsGrown (w v : World O) : Type 0 where
    pub front : IsFront (stable_in w) (stable_in v)
    pub within : v.forced ≤ length v.history

  -- all of it is a front of itself
  whole_front : (h : List (Member O)) → IsFront h h
  whole_front h = ([], sym (append-nil h))

  step_grown : (w : World O) (s : Step O) → w.forced ≤ length w.history → IsGrown w (step m w s)
  unfolding step
  step_grown w Begin within = record { front = whole_front (stable_in w); within = within }
  step_grown w End within = record { front = whole_front (stable_in w); within = within }
  step_grown w (Append member) within = record {
    front = ([], take-append-le w.forced w.history (member ∷ []) within ∙ sym (append-nil (stable_in w)));
    within = omega (arith, within, length-append w.history (member ∷ []));
  }
  step_grown w Block_gate within = record { front = (drop w.forced w.history, take-length w.history ∙ sym (take-append-drop w.forced w.history)); within = omega arith }
  step_grown w Checkpoint within = record { front = whole_front (stable_in w); within = within }
  step_grown w (Slot_gate node x) within = record { front = whole_front (stable_in w); within = within }
  step_grown w (Removal node) within = record { front = whole_front (stable_in w); within = within }
  step_grown w (Header_gate base) within = record { front = whole_front (stable_in w); within = within }
  step_grown w Replay within = record { front = whole_front (stable_in w); within = within }
  step_grown w Crash within = record {
    front = ([], take-take w.forced w.forced w.history (omega arith) ∙ sym (append-nil (stable_in w)));
    within = omega (arith, within, length-take w.forced w.history);
  }

  pub run_grown : (w : World O) (steps : List (Step O)) → w.forced ≤ length w.history → IsGrown w (run m w steps)
  unfolding run
  run_grown w [] within = record { front = whole_front (stable_in w); within = within }
  run_grown w (s ∷ steps) within =
      let one = step_grown w s within in
      let rest = run_grown (step m w s) steps one.within in
      record { front = front_of_front (stable_in w) (stable_in (step m w s)) (stable_in (run m (step m w s) steps)) one.front rest.front; within = rest.within }
