-- Minimal nodes of a few members, by tests that compute.
use Rattle.std.proofs.Common.{◌≡◌, subst, ℕ, zero, suc, Bool, not, List, [], ◌∷◌, length, inl, inr}
use Rattle.std.specs.Prelude.{IsTrue, ◌||◌, ◌&&◌, ◌==◌}
use Rattle.std.specs.List.{list_any, list_all}
use Rattle.std.proofs.lemmas.Bool.{cases_Bool, both_ways, or_cases, and_parts, eqb-true, not-true}
use Rattle.oper_core.specs.State.{is_among}
use Rattle.install_order.specs.Order.{Access, Edge, Reaches, IsMinimal, NoEdgeInto, flush_set_of}
use Rattle.install_order.specs.Order.Reaches.{Here, Then}
use Rattle.install_order.specs.Entries.{set_of}
use Rattle.install_order.specs.Computed.{IsWithin, edge_test, is_flushed}
use Rattle.install_order.specs.ListLaws.{any-gives, all-gives, all_below, all_below-gives, second}
use Rattle.install_order.specs.NodeLaws.{test-gives, test-from, edge-start, walk-on, walk-in, flushed-iff}

-- one reaches n in at most so many steps over members
abbrev pub reached : (ℕ → ℕ → Bool) → List ℕ → ℕ → ℕ → ℕ → Bool
reached e members one zero n = one == n
reached e members one (suc k) n = reached e members one k n || list_any (λ m. reached e members one k m && e m n) members

pub reached-ahead : (a : Access) (e : ℕ → ℕ → Bool) → ((o p : ℕ) → IsTrue (e o p) → Edge a o p) → (members : List ℕ) (one k n : ℕ) → IsTrue (reached e members one k n) → Reaches a one n
reached-ahead a e edge members one zero n there = subst (λ (j : ℕ). Reaches a one j) (eqb-true one n there) Here
reached-ahead a e edge members one (suc k) n there = elim (or_cases (reached e members one k n) _ there) [
  | inl old ↦ reached-ahead a e edge members one k n old
  | inr new ↦
      let m = any-gives (λ m. reached e members one k m && e m n) members new in
      let u = and_parts (reached e members one k m.0) _ m.1 in
      Then m.0 n (reached-ahead a e edge members one k m.0 u.0) (edge m.0 n u.1)
]

pub reached-back : (a : Access) (e : ℕ → ℕ → Bool) → ((o p : ℕ) → IsTrue (e o p) → Edge a p o) → (members : List ℕ) (one k n : ℕ) → IsTrue (reached e members one k n) → Reaches a n one
reached-back a e edge members one zero n there = subst (λ (j : ℕ). Reaches a j one) (eqb-true one n there) Here
reached-back a e edge members one (suc k) n there = elim (or_cases (reached e members one k n) _ there) [
  | inl old ↦ reached-back a e edge members one k n old
  | inr new ↦
      let m = any-gives (λ m. reached e members one k m && e m n) members new in
      let u = and_parts (reached e members one k m.0) _ m.1 in
      walk-on a n m.0 one (Then n m.0 Here (edge m.0 n u.1)) (reached-back a e edge members one k m.0 u.0)
]

-- the first of the LSNs, or 0
abbrev pub first : List ℕ → ℕ
first [] = 0
first (x ∷ xs) = x

-- the first member reaches all and is reached from all, over members alone
abbrev pub are_joined : (ℕ → ℕ → Bool) → List ℕ → Bool
are_joined e members =
    is_among (first members) members
    && list_all (λ n. reached e members (first members) (length members) n && reached (λ m n. e n m) members (first members) (length members) n) members

pub are_joined-gives : (a : Access) (e : ℕ → ℕ → Bool) (members : List ℕ) → ((o p : ℕ) → IsTrue (e o p) → Edge a o p) → IsTrue (are_joined e members) →
    IsTrue (is_among (first members) members) × ((n : ℕ) → IsTrue (is_among n members) → Reaches a (first members) n × Reaches a n (first members))
are_joined-gives a e members edge is =
    let one = first members in
    let u = and_parts (is_among one members) _ is in (
      u.0,
      λ n there.
          let r = and_parts _ _ (all-gives (λ n. reached e members one (length members) n && reached (λ m n. e n m) members one (length members) n) members n u.1 there) in
          (reached-ahead a e edge members one (length members) n r.0, reached-back a (λ m n. e n m) (λ o p. edge p o) members one (length members) n r.1),
    )

-- no edge leads from outside into the members
abbrev pub is_free : Access → ℕ → ℕ → List ℕ → Bool
is_free a objects end members = list_all (λ p. all_below end (λ o. is_among o members || not (edge_test a objects end o p))) members

pub is_free-gives : (a : Access) (objects end : ℕ) (members : List ℕ) → IsWithin a objects end → IsTrue (is_free a objects end members) → NoEdgeInto a (set_of members)
is_free-gives a objects end members is e o p out there edge =
    let row = all-gives (λ p. all_below end (λ o. is_among o members || not (edge_test a objects end o p))) members p e there in
    elim (or_cases (is_among o members) _ (all_below-gives end (λ o. is_among o members || not (edge_test a objects end o p)) o row (edge-start a objects end o p is edge))) [
      | inl held ↦ both_ways _ out held
      | inr none ↦ both_ways _ (not-true _ none) (test-from a objects end o p is edge)
    ]

-- the members are a minimal node
abbrev pub is_minimal : Access → ℕ → ℕ → List ℕ → Bool
is_minimal a objects end members = are_joined (edge_test a objects end) members && is_free a objects end members

-- nothing outside reaches a set with no edge into it, so the members that are joined are all of their node
pub is_minimal-gives : (a : Access) (objects end : ℕ) (members : List ℕ) → IsWithin a objects end → IsTrue (is_minimal a objects end members) → IsMinimal a (set_of members)
is_minimal-gives a objects end members is e =
    let u = and_parts (are_joined (edge_test a objects end) members) _ e in
    let joined = are_joined-gives a (edge_test a objects end) members (λ o p. test-gives a objects end o p) u.0 in
    let free = is_free-gives a objects end members is u.1 in (
      (
        first members,
        joined.0,
        joined.1,
        λ n to from. elim (cases_Bool (is_among n members)) [
          | inl held ↦ held
          | inr out ↦ absurd (both_ways _ (walk-in a (set_of members) n (first members) free out from) joined.0)
        ],
      ),
      free,
    )

-- of the node's flush set is x alone
abbrev pub flushes_only : Access → ℕ → ℕ → (ℕ → Bool) → ℕ → Bool
flushes_only a objects end node x = all_below objects (λ y. not (is_flushed a end node y) || y == x)

pub flushes_only-gives : (a : Access) (objects end : ℕ) (node : ℕ → Bool) (x : ℕ) → IsWithin a objects end → IsTrue (flushes_only a objects end node x) → (y : ℕ) → flush_set_of a node y → y ≡ x
flushes_only-gives a objects end node x is e y f =
    eqb-true y x (second (is_flushed a end node y) (y == x) (all_below-gives objects (λ y. not (is_flushed a end node y) || y == x) y e (is.writes_object f.0 y f.2.0)) ((flushed-iff a objects end node y is).1 f))
