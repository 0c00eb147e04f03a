-- What a sound world accesses and has is within its bounds and its end.
use Rattle.std.proofs.Common.{◌≡◌, sym, subst, ℕ, zero, suc, ◌<◌, ◌≤◌, false, List, [], ◌∷◌, length, take, refl, ap, arith, inl, inr, Option, None, Some}
use Rattle.std.specs.Prelude.{IsTrue, IsFalse, ◌==◌, All, slice_get, IfSome}
use Rattle.std.proofs.lemmas.Bool.{cases_lt, both_ways, or_cases, eqb-true, and_parts}
use Rattle.std.proofs.lemmas.Option.{slice_get_past}
use Rattle.std.proofs.lemmas.List.Elements.{All-head, All-tail}
use Rattle.oper_core.specs.State.{State, is_among}
use Rattle.oper_core.specs.Meaning.{Meaning, IsLawful, IsInGrammar, Accepts}
use Rattle.oper_core.specs.MeaningLaws.{or_else-none}
use Rattle.install_order.specs.Computed.{IsWithin}
use Rattle.explain_core.specs.History.{Member, IsMember, accesses_of, value_at, with_lsn, reads_some, writes_some}
use Rattle.explain_core.specs.History.Member.{Command, Identity}
use Rattle.explain_core.specs.World.{World, graph_access, end_of}
use Rattle.explain_core.specs.Sound.{IsSound}

-- an accepted command is in the grammar
pub accepted-in_grammar : {O : Type 0} (m : Meaning O) (s : State) (op : O) → Accepts m s op → IsInGrammar m op
accepted-in_grammar m s op e = (or_else-none (m.shape op) _ e).0

among-below : (n : ℕ) (xs : List ℕ) (x : ℕ) → All (λ x. x < n) xs → IsTrue (is_among x xs) → x < n
among-below n [] x below there = absurd (both_ways _ refl there)
among-below n (y ∷ xs) x below there = elim (or_cases (x == y) _ there) [
  | inl e ↦ subst (λ (k : ℕ). k < n) (sym (eqb-true x y e)) (All-head (λ x. x < n) y xs below)
  | inr more ↦ among-below n xs x (All-tail (λ x. x < n) y xs below) more
]

-- a written object is below the bound
pub writes-below : {O : Type 0} (m : Meaning O) → IsLawful m → (before : State) (o : Option (Member O)) → IfSome o (λ member. IsMember m before member) → (x : ℕ) → IsTrue (writes_some m o x) → x < m.objects
writes-below m law before None h x w = absurd (both_ways _ refl w)
writes-below m law before (Some (Command op)) h x w = among-below m.objects (m.writes op) x (law.writes_below op (accepted-in_grammar m before op h)) w
writes-below m law before (Some (Identity y v)) h x w = elim (or_cases (x == y) false w) [
  | inl e ↦ let q : x ≡ y = eqb-true x y e in omega (arith, h.0)
  | inr none ↦ absurd (both_ways _ refl none)
]

-- past the end there is no member
pub with_lsn-past : {O : Type 0} (h : List (Member O)) (n : ℕ) → length h < n → with_lsn h n ≡ None
with_lsn-past h zero lt = refl
with_lsn-past h (suc n) lt = slice_get_past h n (omega arith)

pub no-writes : {O : Type 0} (m : Meaning O) (h : List (Member O)) (k x : ℕ) → length h < k → IsFalse ((accesses_of m h).writes k x)
no-writes m h k x lt = ap (λ o. writes_some m o x) (with_lsn-past h k lt)

pub no-reads : {O : Type 0} (m : Meaning O) (h : List (Member O)) (k x : ℕ) → length h < k → IsFalse ((accesses_of m h).reads k x)
no-reads m h k x lt = ap (λ o. reads_some m o x) (with_lsn-past h k lt)

written-below : {O : Type 0} (m : Meaning O) → IsLawful m → (w : World O) → IsSound m w → (n x : ℕ) → IsTrue ((accesses_of m w.history).writes n x) → x < m.objects
written-below m law w s zero x e = absurd (both_ways _ refl e)
written-below m law w s (suc n) x e = writes-below m law (λ y. value_at m w.history n y) (slice_get w.history n) (s.history n) x e

pub graph-within : {O : Type 0} (m : Meaning O) → IsLawful m → (w : World O) → IsSound m w → IsWithin (graph_access m w) m.objects (end_of w)
graph-within m law w s =
    let a = accesses_of m w.history in
    record {
      writes_lsn = λ n x e. elim (cases_lt (length w.history) n) [
        | inl lt ↦ absurd (both_ways _ (no-writes m w.history n x lt) (and_parts (w.graph n) (a.writes n x) e).1)
        | inr le ↦ omega arith
      ];
      writes_object = λ n x e. written-below m law w s n x (and_parts (w.graph n) (a.writes n x) e).1;
      reads_lsn = λ n x e. elim (cases_lt (length w.history) n) [
        | inl lt ↦ absurd (both_ways _ (no-reads m w.history n x lt) (and_parts (w.graph n) (a.reads n x) e).1)
        | inr le ↦ omega arith
      ];
    }

pub slice_get-take : {X : Type 0} (h : List X) (f i : ℕ) → i < f → slice_get (take f h) i ≡ slice_get h i
slice_get-take h zero i lt = absurd (omega arith)
slice_get-take [] (suc f) i lt = refl
slice_get-take (x ∷ xs) (suc f) zero lt = refl
slice_get-take (x ∷ xs) (suc f) (suc i) lt = slice_get-take xs f i (omega arith)

-- a front has the same members
pub with_lsn-take : {O : Type 0} (h : List (Member O)) (f n : ℕ) → n ≤ f → with_lsn (take f h) n ≡ with_lsn h n
with_lsn-take h f zero le = refl
with_lsn-take h f (suc n) le = slice_get-take h f n (omega arith)
