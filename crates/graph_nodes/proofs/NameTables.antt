-- The names of nodes, of which a table has the first.
use Rattle.std.proofs.Common.{◌≡◌, ◌∙◌, ap, sym, ℕ, zero, suc, ◌+◌, ◌<◌, ◌≤◌, List, [], ◌∷◌, ◌++◌, length, length-append, refl, arith, inl, inr}
use Rattle.std.specs.Prelude.{slice_set}
use Rattle.std.proofs.lemmas.Bool.{cases_eq, cases_lt}
use Rattle.std.proofs.lemmas.List.{ext_get_or, get_or-set_same, get_or-set_other, length-set}
use Rattle.std.proofs.Math.ListN.{get_or-eq_default}
use Rattle.graph_nodes.specs.Arcs.{name_at}
use Rattle.graph_nodes.specs.Named.{names_of}
use Rattle.graph_nodes.proofs.Found.{node-read}
use Rattle.graph_nodes.proofs.Slot.{read-left, read-last}

pub names-count : (name : List ℕ) (n : ℕ) → length (names_of name n) ≡ n
names-count name zero = refl
names-count name (suc n) = omega (arith, length-append (names_of name n) (name_at name n ∷ []), names-count name n)

name-below : (name : List ℕ) (n m : ℕ) → m < n → name_at (names_of name n) m ≡ name_at name m
name-below name zero m lt = absurd (omega (arith, lt))
name-below name (suc n) m lt =
    let ns = names_of name n in
    let v = name_at name n in
    elim (cases_eq m n) [
      | inl q ↦
          let e : m ≡ length ns = q ∙ sym (names-count name n) in
          ap (λ (k : ℕ). name_at (ns ++ v ∷ []) k) e ∙ read-last ns v (length ns) ∙ ap (λ (k : ℕ). name_at name k) (sym q)
      | inr ne ↦ read-left ns m v m (omega (arith, lt, ne, names-count name n)) ∙ name-below name n m (omega (arith, lt, ne))
    ]

-- a node that the table has not has the name of its own slot
pub name-same : (name : List ℕ) (n m : ℕ) → length name ≤ n → name_at (names_of name n) m ≡ name_at name m
name-same name n m le = elim (cases_lt m n) [
  | inl lt ↦ name-below name n m lt
  | inr ge ↦ get_or-eq_default (names_of name n) m (omega (arith, ge, names-count name n)) ∙ sym (get_or-eq_default name m (omega (arith, ge, le)))
]

same-names : (a b : List ℕ) → length a ≡ length b → ((m : ℕ) → m < length a → name_at a m ≡ name_at b m) → a ≡ b
same-names a b e f = ext_get_or 0 a b e (λ m lt. node-read a m lt ∙ f m lt ∙ sym (node-read b m (omega (arith, lt, e))))

pub names-as : (a b : List ℕ) (n : ℕ) → ((m : ℕ) → name_at a m ≡ name_at b m) → names_of a n ≡ names_of b n
names-as a b zero f = refl
names-as a b (suc n) f = ap (λ (xs : List ℕ). xs ++ name_at a n ∷ []) (names-as a b n f) ∙ ap (λ (k : ℕ). names_of b n ++ k ∷ []) (f n)

pub names-set : (name : List ℕ) (n m v : ℕ) → length name ≤ n → m < length name → names_of (slice_set name m v) n ≡ slice_set (names_of name n) m v
names-set name n m v le lt =
    let ns = names_of name n in
    let new = slice_set name m v in
    let size : length (slice_set ns m v) ≡ n = length-set ns m v ∙ names-count name n in
    let at : (i : ℕ) → name_at (names_of new n) i ≡ name_at new i = λ i. name-same new n i (omega (arith, le, length-set name m v)) in
    same-names (names_of new n) (slice_set ns m v) (names-count new n ∙ sym size) (λ i low. elim (cases_eq i m) [
      | inl q ↦ at i ∙ ap (λ (k : ℕ). name_at new k) q ∙ get_or-set_same name m v m lt ∙ sym (ap (λ (k : ℕ). name_at (slice_set ns m v) k) q ∙ get_or-set_same ns m v m (omega (arith, le, lt, names-count name n)))
      | inr ne ↦ at i ∙ get_or-set_other name m i v i ne ∙ sym (get_or-set_other ns m i v i ne ∙ name-same name n i le)
    ])

-- to set the name that a node has anyway changes nothing
pub names-own : (name : List ℕ) (n m : ℕ) → length name ≤ n → length name ≤ m → names_of name n ≡ slice_set (names_of name n) m m
names-own name n m le past =
    let ns = names_of name n in
    same-names ns (slice_set ns m m) (sym (length-set ns m m)) (λ i low. elim (cases_eq i m) [
      | inl q ↦ name-same name n i le ∙ get_or-eq_default name i (omega (arith, past, q)) ∙ sym (ap (λ (k : ℕ). name_at (slice_set ns m m) k) q ∙ get_or-set_same ns m m m (omega (arith, low, q)) ∙ sym q)
      | inr ne ↦ sym (get_or-set_other ns m i m i ne)
    ])

-- one node more
pub names-more : (name : List ℕ) (n : ℕ) → length name ≤ n → names_of name (n + 1) ≡ names_of name n ++ length (names_of name n) ∷ []
names-more name n le =
    let e : n + 1 ≡ suc n = omega arith in
    ap (λ (k : ℕ). names_of name k) e ∙ ap (λ (k : ℕ). names_of name n ++ k ∷ []) (get_or-eq_default name n le ∙ sym (names-count name n))
