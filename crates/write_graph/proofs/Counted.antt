-- How many entries are left where some slots are taken out.
use Rattle.std.proofs.Common.{◌≡◌, ◌∙◌, ap, sym, ℕ, zero, suc, ◌+◌, ◌<◌, Bool, true, false, not, List, [], ◌∷◌, length, refl, arith, inl, inr}
use Rattle.std.specs.Prelude.{IsTrue, IsFalse, ◌==◌, ◌&&◌, ◌||◌, ◌↔◌, nat_eq, slice_index}
use Rattle.std.specs.List.{filter, IsDistinct, AllByRecursion}
use Rattle.std.proofs.lemmas.Bool.{cases_Bool, both_ways, or_left, or_right, or_cases, and_parts, and_from, eqb-true, eq-eqb, not_from_false, false_from_ne_true}
use Rattle.std.proofs.lemmas.Map.Keys.{IsDistinct-tail, IsDistinct-head}
use Rattle.oper_core.specs.State.{is_among}
use Rattle.install_order.specs.declared.entry.Entry.{Entry}
use Rattle.graph_nodes.specs.Arcs.{node_at, held_at}
use Rattle.graph_nodes.specs.Named.{Graph}
use Rattle.graph_nodes.specs.Removed.{IsRemoved}
use Rattle.write_graph.specs.Graph.{lsns}
use Rattle.write_graph.specs.Cells.{chosen_entries, held_entries}
use Rattle.write_graph.specs.Naming.{AreClimbing, IsSlotOf}
use Rattle.write_graph.proofs.Numbers.{chosen-here, chosen-off, chosen-same, chosen-filter}
use Rattle.write_graph.proofs.Removed.{in_node, in-node, node-in, held-after}

-- two tests that pass together are equal
pub same-test : (p q : Bool) → (IsTrue p → IsTrue q) → (IsTrue q → IsTrue p) → p ≡ q
same-test true q to from = sym (to refl)
same-test false true to from = from refl
same-test false false to from = refl

and-true : (b : Bool) → (b && true) ≡ b
and-true true = refl
and-true false = refl

and-false : (b : Bool) → (b && false) ≡ false
and-false true = refl
and-false false = refl

flip : (p q : Bool) → (p && q) ≡ (q && p)
flip true q = sym (and-true q)
flip false q = sym (and-false q)

suc-eq : (i j : ℕ) → (suc i == suc j) ≡ (i == j)
suc-eq i j = same-test (suc i == suc j) (i == j) (λ t. eq-eqb i j (omega (arith, eqb-true (suc i) (suc j) t))) (λ t. eq-eqb (suc i) (suc j) (ap suc (eqb-true i j t)))

suc-zero : (i : ℕ) → (suc i == zero) ≡ false
suc-zero i = false_from_ne_true _ (λ t. omega (arith, eqb-true (suc i) zero t))

-- the slots that pass, but not x
abbrev pub but : (ℕ → Bool) → ℕ → ℕ → Bool
but t x i = t i && not (i == x)

chosen-less : (t : ℕ → Bool) (entries : List Entry) (x : ℕ) → x < length entries → IsTrue (t x) → length (chosen_entries t entries) ≡ suc (length (chosen_entries (but t x) entries))
chosen-less t [] x lt there = absurd (omega (arith, lt))
chosen-less t (e ∷ entries) zero lt there =
    let off : but t zero zero ≡ false = ap (λ (b : Bool). t zero && not b) (eq-eqb zero zero refl) ∙ and-false (t zero) in
    let rest : chosen_entries (λ i. but t zero (suc i)) entries ≡ chosen_entries (λ i. t (suc i)) entries = chosen-same (λ i. but t zero (suc i)) (λ i. t (suc i)) entries (λ i low. ap (λ (b : Bool). t (suc i) && not b) (suc-zero i) ∙ and-true (t (suc i))) in
    ap length (chosen-here t e entries there) ∙ ap suc (ap length (sym rest) ∙ ap length (sym (chosen-off (but t zero) e entries off)))
chosen-less t (e ∷ entries) (suc x) lt there =
    let r = chosen-less (λ i. t (suc i)) entries x (omega (arith, lt)) there in
    let rest : chosen_entries (λ i. but t (suc x) (suc i)) entries ≡ chosen_entries (but (λ i. t (suc i)) x) entries = chosen-same (λ i. but t (suc x) (suc i)) (but (λ i. t (suc i)) x) entries (λ i low. ap (λ (b : Bool). t (suc i) && not b) (suc-eq i x)) in
    let here : but t (suc x) zero ≡ t zero = ap (λ (b : Bool). t zero && not b) (false_from_ne_true (zero == suc x) (λ q. omega (arith, eqb-true zero (suc x) q))) ∙ and-true (t zero) in
    elim (cases_Bool (t zero)) [
      | inl yes_0 ↦ ap length (chosen-here t e entries yes_0) ∙ ap suc (r ∙ ap suc (ap length (sym rest))) ∙ ap suc (ap length (sym (chosen-here (but t (suc x)) e entries (here ∙ yes_0))))
      | inr off ↦ ap length (chosen-off t e entries off) ∙ r ∙ ap suc (ap length (sym rest)) ∙ ap suc (ap length (sym (chosen-off (but t (suc x)) e entries (here ∙ off))))
    ]

apart : (x : ℕ) (xs : List ℕ) → AllByRecursion (λ y. nat_eq x y ≡ false) xs → IsTrue (is_among x xs) → ⊥
apart x [] all t = both_ways _ refl t
apart x (y ∷ xs) all t = elim (or_cases (x == y) (is_among x xs) t) [ inl e ↦ both_ways _ all.0 e | inr r ↦ apart x xs all.1 r ]

-- the slots that pass and are none of these
abbrev pub without : (ℕ → Bool) → List ℕ → ℕ → Bool
without t xs i = t i && not (is_among i xs)

but-more : (t p q : Bool) → ((t && not q) && not p) ≡ (t && not (p || q))
but-more true true true = refl
but-more true true false = refl
but-more true false true = refl
but-more true false false = refl
but-more false p q = refl

pub chosen-without : (t : ℕ → Bool) (entries : List Entry) (xs : List ℕ) → IsDistinct nat_eq xs → ((i : ℕ) → IsTrue (is_among i xs) → (i < length entries) × IsTrue (t i)) →
    length (chosen_entries t entries) ≡ length (chosen_entries (without t xs) entries) + length xs
chosen-without t entries [] once held = omega (arith, ap length (chosen-same t (without t []) entries (λ i lt. sym (and-true (t i)))))
chosen-without t entries (x ∷ xs) once held =
    let here = held x (or_left (x == x) (is_among x xs) (eq-eqb x x refl)) in
    let was = chosen-without t entries xs (IsDistinct-tail nat_eq x xs once) (λ i there. held i (or_right (i == x) (is_among i xs) there)) in
    let off : IsFalse (is_among x xs) = false_from_ne_true _ (λ there. apart x xs (IsDistinct-head nat_eq x xs once) there) in
    let less = chosen-less (without t xs) entries x here.0 (and_from _ _ here.1 (not_from_false _ off)) in
    let same = ap length (chosen-same (but (without t xs) x) (without t (x ∷ xs)) entries (λ i lt. but-more (t i) (i == x) (is_among i xs))) in
    omega (arith, was, less, same)

-- the slots that are held after a removal
pub left-count : (entries : List Entry) (old new : Graph) (slot : ℕ) (xs : List ℕ) → IsRemoved old (node_at old.node slot) new → IsDistinct nat_eq xs → ((i : ℕ) → IsTrue (is_among i xs) ↔ (node_at old.node i ≡ node_at old.node slot)) →
    ((i : ℕ) → node_at old.node i ≡ node_at old.node slot → (i < length entries) × IsTrue (held_at old.held i)) → length (held_entries old.held entries) ≡ length (held_entries new.held entries) + length xs
left-count entries old new slot xs is once among held =
    let m = node_at old.node slot in
    let count = chosen-without (held_at old.held) entries xs once (λ i there. held i ((among i).0 there)) in
    let same : (i : ℕ) → is_among i xs ≡ in_node old m i = λ i. same-test (is_among i xs) (in_node old m i) (λ t. node-in old m i ((among i).0 t)) (λ t. (among i).1 (in-node old m i t)) in
    let all = ap length (chosen-same (without (held_at old.held) xs) (held_at new.held) entries (λ i lt. ap (λ (b : Bool). held_at old.held i && not b) (same i) ∙ flip (held_at old.held i) (not (in_node old m i)) ∙ sym (held-after old m new is i))) in
    omega (arith, count, all)

-- after a removal the LSNs climb as before
pub climbing-left : (old new : Graph) (m : ℕ) (ns : List ℕ) → IsRemoved old m new → AreClimbing old.held ns → AreClimbing new.held ns
climbing-left old new m ns is climbs = record {
  never_fall = climbs.never_fall;
  above_held = λ i j there lt below. climbs.above_held i j (and_parts (not (in_node old m i)) (held_at old.held i) (sym (held-after old m new is i) ∙ there)).1 lt below;
}

-- what is left of the entries is what is outside the node
pub left-entries : (entries : List Entry) (old new : Graph) (n : ℕ) (node : ℕ → Bool) (s : IsSlotOf entries old n node) → IsRemoved old (node_at old.node s.slot) new →
    held_entries new.held entries ≡ filter (λ e. not (node e.lsn)) (held_entries old.held entries)
left-entries entries old new n node s is =
    let m = node_at old.node s.slot in
    chosen-filter (held_at new.held) (held_at old.held) node entries (λ i lt. elim (cases_Bool (held_at old.held i)) [
      | inr off ↦ held-after old m new is i ∙ ap (λ (b : Bool). not (in_node old m i) && b) off ∙ and-false (not (in_node old m i)) ∙ sym (ap (λ (b : Bool). b && not (node (slice_index (lsns entries) i))) off)
      | inl held ↦
          let same : in_node old m i ≡ node (slice_index (lsns entries) i) = same-test (in_node old m i) (node (slice_index (lsns entries) i)) (λ t. (s.members i held).1 (in-node old m i t)) (λ t. node-in old m i ((s.members i held).0 t)) in
          held-after old m new is i ∙ flip (not (in_node old m i)) (held_at old.held i) ∙ ap (λ (b : Bool). held_at old.held i && not b) same
    ])
