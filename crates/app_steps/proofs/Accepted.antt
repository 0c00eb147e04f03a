-- The commands of a history are accepted, one after the other, and leave values that are not too long.
use Rattle.std.proofs.Common.{◌≡◌, ◌∙◌, sym, subst, ap, ℕ, suc, ◌+◌, ◌≤◌, Bool, true, false, cond, inl, inr, List, [], ◌∷◌, ◌++◌, All, length, Option, Some, arith}
use Rattle.std.specs.Prelude.{⊤, ◌||◌, ◌==◌, IfSome, fold, if◌then◌else◌, slice_get}
use Rattle.std.proofs.lemmas.Bool.{cases_Bool, eqb-true}
use Rattle.std.proofs.lemmas.List.Elements.{All-head, All-tail}
use mathlib.Core.Path.{fun_ext}
use Rattle.oper_core.specs.State.{State, is_among, start, value_for}
use Rattle.oper_core.specs.Meaning.{Accepts, IsLawful, Meaning, after, read_values, state_after}
use Rattle.oper_core.specs.MeaningLaws.{or_else-none, read_values-fit}
use Rattle.explain_core.specs.History.{IsHistory, IsMember, Member, commands_of, made_by, value_at}
use Rattle.explain_core.specs.History.Member.{Command, Identity}

module _ {O : Type 0} (m : Meaning O) where
  -- each of the commands is accepted after those before it
  abbrev pub AreAccepted : State → List O → Type 0
  AreAccepted s [] = ⊤
  AreAccepted s (op ∷ ops) = Accepts m s op × AreAccepted (after m s op) ops

  -- ---- the commands of a history

  -- an identity write changes nothing
  unchanged : (s : State) (y : ℕ) (v : List ℕ) (x : ℕ) → v ≡ s y → made_by m (Some (Identity y v)) s x ≡ s x
  unchanged s y v x is = elim (cases_Bool (x == y)) [
    | inl same ↦ ap (λ (b : Bool). if (b || false) then (if b then v else []) else s x) same ∙ is ∙ ap s (sym (eqb-true x y same))
    | inr other ↦ ap (λ (b : Bool). if (b || false) then (if b then v else []) else s x) other
  ]

  module _ (h : List (Member O)) (is : IsHistory m h) where
    abbrev at : ℕ → State
    at n x = value_at m h n x

    rest_accepted : (rest : List (Member O)) (n : ℕ) → ((i : ℕ) → slice_get h (n + i) ≡ slice_get rest i) → AreAccepted (at n) (commands_of rest)
    rest_accepted [] n same = tt
    rest_accepted (Command op ∷ rest) n same =
        let here : slice_get h n ≡ Some (Command op) = ap (λ (k : ℕ). slice_get h k) (omega arith) ∙ same 0 in
        let one : Accepts m (at n) op = subst (λ (o : Option (Member O)). IfSome o (λ member. IsMember m (at n) member)) here (is n) in
        let next : at (suc n) ≡ after m (at n) op = ap {B = State} (λ (o : Option (Member O)) (x : ℕ). made_by m o (at n) x) here in
        (one, subst (λ (s : State). AreAccepted s (commands_of rest)) next (rest_accepted rest (suc n) (λ i. ap (λ (k : ℕ). slice_get h k) (omega arith) ∙ same (suc i))))
    rest_accepted (Identity y v ∷ rest) n same =
        let here : slice_get h n ≡ Some (Identity y v) = ap (λ (k : ℕ). slice_get h k) (omega arith) ∙ same 0 in
        let one : IsMember m (at n) (Identity y v) = subst (λ (o : Option (Member O)). IfSome o (λ member. IsMember m (at n) member)) here (is n) in
        let next : at (suc n) ≡ at n = fun_ext (λ x. ap (λ (o : Option (Member O)). made_by m o (at n) x) here ∙ unchanged (at n) y v x one.1) in
        subst (λ (s : State). AreAccepted s (commands_of rest)) next (rest_accepted rest (suc n) (λ i. ap (λ (k : ℕ). slice_get h k) (omega arith) ∙ same (suc i)))

    pub history_accepted : AreAccepted start (commands_of h)
    history_accepted = rest_accepted h 0 (λ i. ap (λ (k : ℕ). slice_get h k) (omega arith))

  -- ---- some first commands, and the others

  pub front_accepted : (before since : List O) (s : State) → AreAccepted s (before ++ since) → AreAccepted s before
  front_accepted [] since s accepted = tt
  front_accepted (op ∷ before) since s accepted = (accepted.0, front_accepted before since (after m s op) accepted.1)

  pub back_accepted : (before since : List O) (s : State) → AreAccepted s (before ++ since) → AreAccepted (fold (after m) s before) since
  back_accepted [] since s accepted = accepted
  back_accepted (op ∷ before) since s accepted = back_accepted before since (after m s op) accepted.1

  -- ---- values

  either : (b : Bool) (u v : List ℕ) → length u ≤ m.cap → length v ≤ m.cap → length (cond b u v) ≤ m.cap
  either true u v one two = one
  either false u v one two = two

  written_short : (x : ℕ) (objects : List ℕ) (values : List (List ℕ)) → All (λ v. length v ≤ m.cap) values → length (value_for x objects values) ≤ m.cap
  written_short x [] values short = omega arith
  written_short x (y ∷ objects) [] short = omega arith
  written_short x (y ∷ objects) (v ∷ values) short =
      either (x == y) v (value_for x objects values) (All-head (λ u. length u ≤ m.cap) v values short) (written_short x objects values (All-tail (λ u. length u ≤ m.cap) v values short))

  pub accepted_short : IsLawful m → (commands : List O) (s : State) → ((x : ℕ) → length (s x) ≤ m.cap) → AreAccepted s commands
      → (x : ℕ) → length (fold (after m) s commands x) ≤ m.cap
  accepted_short law [] s short accepted x = short x
  accepted_short law (op ∷ ops) s short accepted x =
      let values : List (List ℕ) = m.effect op (read_values m s op) in
      let made = (law.made op (read_values m s op) (or_else-none (m.shape op) (m.check op (read_values m s op)) accepted.0).0 (read_values-fit m s op short)).1 in
      accepted_short law ops (after m s op) (λ y. either (is_among y (m.writes op)) (value_for y (m.writes op) values) (s y) (written_short y (m.writes op) values made) (short y)) accepted.1 x

-- so after some first commands of a history no value is too long
pub values_fit : {O : Type 0} (m : Meaning O) → IsLawful m → (h : List (Member O)) → IsHistory m h → (before since : List O) → commands_of h ≡ before ++ since
    → (x : ℕ) → length (state_after m before x) ≤ m.cap
values_fit {O} m law h is before since same x =
    accepted_short m law before start (λ y. omega arith) (front_accepted m before since start (subst (λ (l : List O). AreAccepted m start l) same (history_accepted m h is))) x
