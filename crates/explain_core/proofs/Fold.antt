-- The last values of a history are the state after its commands.
use Rattle.std.proofs.Common.{◌≡◌, ◌∙◌, sym, subst, ℕ, suc, ◌+◌, Bool, false, List, [], ◌∷◌, length, ap, arith, inl, inr, Option, Some}
use Rattle.std.specs.Prelude.{◌||◌, ◌==◌, slice_get, IfSome, if◌then◌else◌, fold}
use Rattle.std.proofs.lemmas.Bool.{cases_Bool, eqb-true}
use mathlib.Core.Path.{fun_ext}
use Rattle.oper_core.specs.State.{State}
use Rattle.oper_core.specs.Meaning.{Meaning, after, state_after}
use Rattle.explain_core.specs.History.{Member, IsHistory, IsMember, value_at, made_by, commands_of}
use Rattle.explain_core.specs.History.Member.{Command, Identity}

-- an identity write changes nothing
identity-still : {O : Type 0} (m : Meaning O) (y : ℕ) (v : List ℕ) (s : State) (x : ℕ) → v ≡ s y → made_by m (Some (Identity y v)) s x ≡ s x
identity-still m y v s x e = elim (cases_Bool (x == y)) [
  | inl q ↦
      let same : x ≡ y = eqb-true x y q in
      ap (λ (b : Bool). if (b || false) then (if b then v else []) else s x) q ∙ e ∙ ap s (sym same)
  | inr q ↦ ap (λ (b : Bool). if (b || false) then (if b then v else []) else s x) q
]

-- from the state after n members on, the commands give what the members give
fold-rest : {O : Type 0} (m : Meaning O) (h : List (Member O)) → IsHistory m h → (rest : List (Member O)) (n : ℕ) → ((i : ℕ) → slice_get h (n + i) ≡ slice_get rest i) → n + length rest ≡ length h → (x : ℕ) → fold (after m) (λ y. value_at m h n y) (commands_of rest) x ≡ value_at m h (length h) x
fold-rest m h e [] n same long x = ap (λ k. value_at m h k x) (omega (arith, long))
fold-rest {O} m h e (Command op ∷ rest) n same long x =
    let here : slice_get h n ≡ Some (Command op) = ap (λ k. slice_get h k) (omega arith) ∙ same 0 in
    ap (λ (o : Option (Member O)). fold (after m) (λ y. made_by m o (λ z. value_at m h n z) y) (commands_of rest) x) (sym here)
    ∙ fold-rest m h e rest (suc n) (λ i. ap (λ k. slice_get h k) (omega arith) ∙ same (suc i)) (omega (arith, long)) x
fold-rest {O} m h e (Identity y v ∷ rest) n same long x =
    let here : slice_get h n ≡ Some (Identity y v) = ap (λ k. slice_get h k) (omega arith) ∙ same 0 in
    let is : IsMember m (λ z. value_at m h n z) (Identity y v) = subst (λ (o : Option (Member O)). IfSome o (λ member. IsMember m (λ z. value_at m h n z) member)) here (e n) in
    let still : (λ (z : ℕ). value_at m h n z) ≡ (λ (z : ℕ). value_at m h (suc n) z) = fun_ext (λ z. sym (ap (λ (o : Option (Member O)). made_by m o (λ u. value_at m h n u) z) here ∙ identity-still m y v (λ u. value_at m h n u) z is.1)) in
    ap (λ (s : State). fold (after m) s (commands_of rest) x) still
    ∙ fold-rest m h e rest (suc n) (λ i. ap (λ k. slice_get h k) (omega arith) ∙ same (suc i)) (omega (arith, long)) x

pub state_after-commands_of : {O : Type 0} (m : Meaning O) (h : List (Member O)) → IsHistory m h → (x : ℕ) → state_after m (commands_of h) x ≡ value_at m h (length h) x
state_after-commands_of m h e x = fold-rest m h e h 0 (λ i. ap (λ k. slice_get h k) (omega arith)) (omega arith) x
