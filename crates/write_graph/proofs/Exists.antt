-- Where there is an entry, there is a minimal node.
use Rattle.std.proofs.Common.{◌≡◌, ℕ, zero, suc, ◌+◌, ◌<◌, ◌≤◌, List, [], ◌∷◌, refl, arith, inl, inr}
use Rattle.std.specs.Prelude.{IsTrue, ◌&&◌, ◌==◌}
use Rattle.std.proofs.lemmas.Bool.{both_ways, or_left, or_cases, and_parts, eqb-true, eq-eqb}
use Rattle.oper_core.specs.State.{is_among}
use Rattle.install_order.specs.declared.entry.Entry.{Entry}
use Rattle.install_order.specs.Computed.{IsWithin, edge_test, node_of, least_below}
use Rattle.install_order.specs.Entries.{accesses, writes_at, reads_at}
use Rattle.install_order.specs.NodeLaws.{minimal-exists, name-is, node-is, walk-on}
use Rattle.write_graph.specs.Graph.{lsns, NamesMinimal, IsLeast}
use Rattle.write_graph.proofs.Held.{edge-held, reached-held}

-- an LSN above all of a list
above : (xs : List ℕ) → (top : ℕ) × ((x : ℕ) → IsTrue (is_among x xs) → x < top)
above [] = (zero, λ x there. absurd (both_ways _ refl there))
above (y ∷ ys) =
    let r = above ys in (
      r.0 + suc y,
      λ x there. elim (or_cases (x == y) (is_among x ys) there) [
        | inl e ↦ let q : x ≡ y = eqb-true x y e in omega arith
        | inr more ↦ let q : x < r.0 = r.1 x more in omega arith
      ],
    )

-- all accesses are of numbers and objects below some
within : (entries : List Entry) → (objects : ℕ) × (end : ℕ) × IsWithin (accesses entries) objects end
within [] = (
  zero,
  zero,
  record {
    writes_lsn = λ n x w. absurd (both_ways _ refl w);
    writes_object = λ n x w. absurd (both_ways _ refl w);
    reads_lsn = λ n x r. absurd (both_ways _ refl r);
  },
)
within (e ∷ entries) =
    let rest = within entries in
    let top = above e.writes in (
      rest.0 + top.0,
      rest.1 + suc e.lsn,
      record {
        writes_lsn = λ n x w. elim (or_cases ((e.lsn == n) && is_among x e.writes) (writes_at entries n x) w) [
          | inl here ↦ let q : e.lsn ≡ n = eqb-true e.lsn n (and_parts (e.lsn == n) _ here).0 in omega arith
          | inr more ↦ let q : n < rest.1 = rest.2.writes_lsn n x more in omega arith
        ];
        writes_object = λ n x w. elim (or_cases ((e.lsn == n) && is_among x e.writes) (writes_at entries n x) w) [
          | inl here ↦ let q : x < top.0 = top.1 x (and_parts (e.lsn == n) (is_among x e.writes) here).1 in omega arith
          | inr more ↦ let q : x < rest.0 = rest.2.writes_object n x more in omega arith
        ];
        reads_lsn = λ n x r. elim (or_cases ((e.lsn == n) && is_among x e.reads) (reads_at entries n x) r) [
          | inl here ↦ let q : e.lsn ≡ n = eqb-true e.lsn n (and_parts (e.lsn == n) _ here).0 in omega arith
          | inr more ↦ let q : n < rest.1 = rest.2.reads_lsn n x more in omega arith
        ];
      },
    )

-- the LSNs of entries, up to one above them all
minimal-named : (entries : List Entry) (objects end top : ℕ) → IsWithin (accesses entries) objects end → end ≤ top → ((n : ℕ) → IsTrue (is_among n (lsns entries)) → n < top) →
    (c : ℕ) → IsTrue (is_among c (lsns entries)) → (n : ℕ) × NamesMinimal entries n
minimal-named entries objects end top is le below c there =
    let a = accesses entries in
    let wide : IsWithin a objects top = record {
      writes_lsn = λ n x w. let q : n < end = is.writes_lsn n x w in omega arith;
      writes_object = is.writes_object;
      reads_lsn = λ n x r. let q : n < end = is.reads_lsn n x r in omega arith;
    } in
    let m = minimal-exists a objects top (λ n. is_among n (lsns entries)) wide (λ o p edge. (edge-held entries o p edge).0) below c there in
    let node = node_of (edge_test a objects top) top m.0 in
    let itself = (node-is a objects top m.0 wide).1 in
    let name = name-is node top m.0 itself (below m.0 m.1) in
    let one = m.2.0.0 in
    let walk = walk-on a m.0 one (least_below top node) (m.2.0.2 m.0 itself).1 (m.2.0.2 (least_below top node) name.0).0 in
    (least_below top node, (node, record { held = reached-held entries m.0 (least_below top node) walk m.1; is_node = m.2.0; is_name = name }, m.2.1))

pub some-minimal : (e : Entry) (entries : List Entry) → (n : ℕ) × NamesMinimal (e ∷ entries) n
some-minimal e entries =
    let w = within (e ∷ entries) in
    let top = above (lsns (e ∷ entries)) in
    minimal-named (e ∷ entries) w.0 w.1 (w.1 + top.0) w.2 (omega arith) (λ n there. let q : n < top.0 = top.1 n there in omega arith) e.lsn (or_left (e.lsn == e.lsn) _ (eq-eqb e.lsn e.lsn refl))

-- where no LSN names a minimal node, there is no entry
pub none-left : (entries : List Entry) → ((k : ℕ) → zero ≤ k → NamesMinimal entries k → ⊥) → entries ≡ []
none-left [] none = refl
none-left (e ∷ entries) none = let m = some-minimal e entries in absurd (none m.0 (omega arith) m.1)

-- the least of those at or above zero is the least
pub least-of-all : (P : ℕ → Type 0) (n : ℕ) → IsLeast (λ k. (zero ≤ k) × P k) n → IsLeast P n
least-of-all P n is = (is.0.1, λ k p. is.1 k (omega arith, p))
