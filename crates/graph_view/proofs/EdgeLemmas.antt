-- The test of an edge is its definition.
use Rattle.std.proofs.Common.{◌≡◌, subst, ℕ, Bool, List, refl, arith}
use Rattle.std.specs.Prelude.{IsTrue, ◌↔◌, ◌&&◌, ◌==◌, nat_lt, nat_le}
use Rattle.std.specs.List.{list_any}
use Rattle.std.proofs.lemmas.Bool.{both_ways, false_from_ne_true, and_parts, and_from, eqb-true, eq-eqb, lt-ltb, ltb-true, le-leb, leb-true, not-true, not_from_false}
use Rattle.oper_core.specs.State.{is_among}
use Rattle.install_order.specs.ListLaws.{any-gives, in-from}
use Rattle.install_order.specs.declared.entry.Entry.{Entry}
use Rattle.install_order.specs.Order.{Edge}
use Rattle.install_order.specs.Order.Edge.{Read_write, Write_write, Lost_version}
use Rattle.install_order.specs.Entries.{writes_at, accesses}
use Rattle.graph_view.specs.declared.kind.Kind.{Kind}
use Rattle.graph_view.specs.declared.kind.Kind.TheVariants.{ReadWrite, WriteWrite, LostVersion}
use Rattle.graph_view.specs.Edges.{IsEdge, kind_of, is_over, has_edge}

-- an entry of a list writes x
writes-from : (entries : List Entry) (x : ℕ) (e : Entry) → ((u : Entry → Bool) → IsTrue (u e) → IsTrue (list_any u entries)) → IsTrue (is_among x e.writes) → IsTrue (writes_at entries e.lsn x)
writes-from entries x e there writes = there (λ f. (f.lsn == e.lsn) && is_among x f.writes) (and_from _ _ (eq-eqb e.lsn e.lsn refl) writes)

-- over an object that p writes there is an edge where the test passes
over_gives : (entries : List Entry) (kind : Kind) (o p x : ℕ) → IsTrue (writes_at entries p x) → IsTrue (is_over entries kind o p x) → IsEdge entries kind o p
over_gives entries ReadWrite o p x writes is = let u = and_parts _ _ is in (Read_write x (ltb-true _ _ u.0) u.1 writes, refl)
over_gives entries WriteWrite o p x writes is = let u = and_parts _ _ is in (Write_write x (ltb-true _ _ u.0) u.1 writes, refl)
over_gives entries LostVersion o p x writes is =
    let u = and_parts _ _ is in
    let v = and_parts _ _ u.1 in
    let w = and_parts _ _ v.1 in
    let more = any-gives (λ e. nat_le o e.lsn && is_among x e.writes) entries w.1 in
    let m = and_parts _ _ more.1 in (
      Lost_version x more.0.lsn (ltb-true _ _ u.0) writes
          (λ n low high. false_from_ne_true _ (λ wn.
          let q = any-gives (λ e. (e.lsn == n) && is_among x e.writes) entries wn in
          let k = and_parts _ _ q.1 in
          let same : q.0.lsn ≡ n = eqb-true q.0.lsn n k.0 in
          both_ways _ (not-true _ w.0) (q.2 (λ e. nat_lt p e.lsn && (nat_lt e.lsn o && is_among x e.writes)) (and_from _ _ (lt-ltb p q.0.lsn (omega arith)) (and_from _ _ (lt-ltb q.0.lsn o (omega arith)) k.1)))))
          v.0 (leb-true _ _ m.0) (writes-from entries x more.0 more.2 m.1),
      refl,
    )

gives : (entries : List Entry) (kind : Kind) (o p : ℕ) → IsTrue (has_edge entries kind o p) → IsEdge entries kind o p
gives entries kind o p is =
    let e = any-gives (λ e. (e.lsn == p) && list_any (is_over entries kind o p) e.writes) entries is in
    let u = and_parts _ _ e.1 in
    let x = any-gives (is_over entries kind o p) e.0.writes u.1 in
    over_gives entries kind o p x.0 (e.2 (λ f. (f.lsn == p) && is_among x.0 f.writes) (and_from _ _ u.0 (in-from x.0 e.0.writes x.2))) x.1

-- where p writes x, the test on x passes that on the edge
has : (entries : List Entry) (kind : Kind) (o p x : ℕ) → IsTrue (writes_at entries p x) → IsTrue (is_over entries kind o p x) → IsTrue (has_edge entries kind o p)
has entries kind o p x writes is =
    let e = any-gives (λ e. (e.lsn == p) && is_among x e.writes) entries writes in
    let u = and_parts _ _ e.1 in
    let y = any-gives (λ y. x == y) e.0.writes u.1 in
    e.2 (λ f. (f.lsn == p) && list_any (is_over entries kind o p) f.writes) (and_from _ _ u.0 (y.2 (is_over entries kind o p) (subst (λ (z : ℕ). IsTrue (is_over entries kind o p z)) (eqb-true x y.0 y.1) is)))

passes : (entries : List Entry) (o p : ℕ) (edge : Edge (accesses entries) o p) → IsTrue (has_edge entries (kind_of edge) o p)
passes entries o p (Read_write x before reads writes) = has entries ReadWrite o p x writes (and_from _ _ (lt-ltb o p before) reads)
passes entries o p (Write_write x before first second) = has entries WriteWrite o p x second (and_from _ _ (lt-ltb o p before) first)
passes entries o p (Lost_version x more before writes none reads from overwrites) =
    let m = any-gives (λ e. (e.lsn == more) && is_among x e.writes) entries overwrites in
    let k = and_parts _ _ m.1 in
    let same : m.0.lsn ≡ more = eqb-true m.0.lsn more k.0 in
    has entries LostVersion o p x writes (and_from _ _ (lt-ltb p o before) (and_from _ _ reads (and_from _ _
    (not_from_false _ (false_from_ne_true _ (λ some.
    let q = any-gives (λ e. nat_lt p e.lsn && (nat_lt e.lsn o && is_among x e.writes)) entries some in
    let u = and_parts _ _ q.1 in
    let v = and_parts _ _ u.1 in
    both_ways _ (none q.0.lsn (ltb-true _ _ u.0) (ltb-true _ _ v.0)) (writes-from entries x q.0 q.2 v.1))))
    (m.2 (λ e. nat_le o e.lsn && is_among x e.writes) (and_from _ _ (le-leb o m.0.lsn (omega arith)) k.1)))))

pub edge_exactly : (entries : List Entry) (kind : Kind) (o p : ℕ) → IsTrue (has_edge entries kind o p) ↔ IsEdge entries kind o p
edge_exactly entries kind o p = (gives entries kind o p, λ (edge, is). subst (λ (k : Kind). IsTrue (has_edge entries k o p)) is (passes entries o p edge))
