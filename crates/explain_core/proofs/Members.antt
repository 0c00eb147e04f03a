-- What the members of a lawful history write.
use Rattle.std.proofs.Common.{◌≡◌, subst, sym, ℕ, zero, suc, ◌<◌, List, [], ◌∷◌, length, refl, arith, Option, Some}
use Rattle.std.specs.Prelude.{IsTrue, ◌==◌, All, slice_get, IfSome}
use Rattle.std.proofs.lemmas.Bool.{or_left, eq-eqb}
use Rattle.std.proofs.lemmas.List.Elements.{All-head}
use Rattle.oper_core.specs.State.{State, is_among}
use Rattle.oper_core.specs.Meaning.{Meaning, IsLawful}
use Rattle.explain_core.specs.History.{Member, IsHistory, IsMember, accesses_of, value_at, writes_of, writes_some}
use Rattle.explain_core.specs.History.Member.{Command, Identity}
use Rattle.explain_core.specs.GraphLaws.{accepted-in_grammar}

-- the first of some objects
first-among : (n : ℕ) (xs : List ℕ) → 0 < length xs → All (λ x. x < n) xs → (x : ℕ) × (x < n) × IsTrue (is_among x xs)
first-among n [] lt below = absurd (omega arith)
first-among n (x ∷ xs) lt below = (x, All-head (λ x. x < n) x xs below, or_left (x == x) _ (eq-eqb x x refl))

-- an identity write writes its object
itself-among : (x : ℕ) → IsTrue (is_among x (x ∷ []))
itself-among x = or_left (x == x) _ (eq-eqb x x refl)

-- each member writes some object
pub writes-some : {O : Type 0} (m : Meaning O) → IsLawful m → (before : State) (member : Member O) → IsMember m before member → (x : ℕ) × (x < m.objects) × IsTrue (is_among x (writes_of m member))
writes-some m law before (Command op) h = let is = accepted-in_grammar m before op h in first-among m.objects (m.writes op) (law.writes_some op is) (law.writes_below op is)
writes-some m law before (Identity x v) h = (x, h.0, itself-among x)

pub slice_get-some : {X : Type 0} (xs : List X) (i : ℕ) → i < length xs → (x : X) × (slice_get xs i ≡ Some x)
slice_get-some [] i lt = absurd (omega arith)
slice_get-some (x ∷ xs) zero lt = (x, refl)
slice_get-some (x ∷ xs) (suc i) lt = slice_get-some xs i (omega arith)

-- each member writes some object
pub writes-any : {O : Type 0} (m : Meaning O) → IsLawful m → (h : List (Member O)) (k : ℕ) → IsHistory m h → k < length h → (x : ℕ) × (x < m.objects) × IsTrue ((accesses_of m h).writes (suc k) x)
writes-any {O} m law h k e lt =
    let got = slice_get-some h k lt in
    let w = writes-some m law (λ x. value_at m h k x) got.0 (subst (λ (q : Option (Member O)). IfSome q (λ member. IsMember m (λ x. value_at m h k x) member)) got.1 (e k)) in
    (w.0, w.1, subst (λ (o : Option (Member O)). IsTrue (writes_some m o w.0)) (sym got.1) w.2)
