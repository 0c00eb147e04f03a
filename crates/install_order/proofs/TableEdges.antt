-- The edges of a table are right where a test of them passes.
use Rattle.std.proofs.Common.{◌≡◌, subst, ℕ, ◌<◌, Bool, not, List}
use Rattle.std.specs.Prelude.{IsTrue, ◌||◌, ◌&&◌, ◌==◌, ◌↔◌, nat_lt}
use Rattle.std.specs.List.{list_all}
use Rattle.std.proofs.lemmas.Bool.{and_parts, eqb-true, ltb-true}
use Rattle.oper_core.specs.State.{is_among}
use Rattle.install_order.specs.declared.entry.Entry.{Entry}
use Rattle.install_order.specs.Order.{Access, within, Edge}
use Rattle.install_order.specs.Entries.{accesses}
use Rattle.install_order.specs.Computed.{IsWithin, edge_test}
use Rattle.install_order.specs.NodeLaws.{test-gives, test-from, edge-start, edge-end}
use Rattle.install_order.specs.Tables.{Arrow, is_listed}
use Rattle.install_order.specs.ListLaws.{any-gives, all-gives, all_below, all_below-gives, second}

-- the entries' LSNs and objects are below these
abbrev pub is_within : List Entry → ℕ → ℕ → Bool
is_within entries objects end = list_all (λ e. nat_lt e.lsn end && list_all (λ x. nat_lt x objects) e.writes) entries

pub within-gives : (entries : List Entry) (objects end : ℕ) → IsTrue (is_within entries objects end) → IsWithin (accesses entries) objects end
within-gives entries objects end e =
    let row : Entry → Bool = λ e. nat_lt e.lsn end && list_all (λ x. nat_lt x objects) e.writes in
    record {
      writes_lsn = λ n x w.
          let m = any-gives (λ e. (e.lsn == n) && is_among x e.writes) entries w in
          let same : m.0.lsn ≡ n = eqb-true m.0.lsn n (and_parts _ _ m.1).0 in
          subst (λ (k : ℕ). k < end) same (ltb-true _ _ (and_parts _ _ (m.3 row e)).0);
      writes_object = λ n x w.
          let m = any-gives (λ e. (e.lsn == n) && is_among x e.writes) entries w in
          ltb-true _ _ (all-gives (λ x. nat_lt x objects) m.0.writes x (and_parts _ _ (m.3 row e)).1 (and_parts _ _ m.1).1);
      reads_lsn = λ n x r.
          let m = any-gives (λ e. (e.lsn == n) && is_among x e.reads) entries r in
          let same : m.0.lsn ≡ n = eqb-true m.0.lsn n (and_parts _ _ m.1).0 in
          subst (λ (k : ℕ). k < end) same (ltb-true _ _ (and_parts _ _ (m.3 row e)).0);
    }

-- the same of the operations that are left
pub within-left : (chosen : ℕ → Bool) (a : Access) (objects end : ℕ) → IsWithin a objects end → IsWithin (within chosen a) objects end
within-left chosen a objects end is = record {
  writes_lsn = λ n x w. is.writes_lsn n x (and_parts (chosen n) _ w).1;
  writes_object = λ n x w. is.writes_object n x (and_parts (chosen n) _ w).1;
  reads_lsn = λ n x r. is.reads_lsn n x (and_parts (chosen n) _ r).1;
}

-- the arrows are the edges
abbrev pub are_edges : Access → ℕ → ℕ → List Arrow → Bool
are_edges a objects end arrows =
    list_all (λ e. edge_test a objects end e.from e.to) arrows
    && all_below end (λ o. all_below end (λ p. not (edge_test a objects end o p) || is_listed arrows o p))

pub are_edges-gives : (a : Access) (objects end : ℕ) (arrows : List Arrow) → IsWithin a objects end → IsTrue (are_edges a objects end arrows) → (o p : ℕ) → IsTrue (is_listed arrows o p) ↔ Edge a o p
are_edges-gives a objects end arrows is e o p =
    let u = and_parts (list_all (λ e. edge_test a objects end e.from e.to) arrows) _ e in (
      (λ there.
          let m = any-gives (λ e. (e.from == o) && (e.to == p)) arrows there in
          let v = and_parts _ _ m.1 in
          let edge : Edge a m.0.from m.0.to = test-gives a objects end m.0.from m.0.to (m.3 (λ e. edge_test a objects end e.from e.to) u.0) in
          subst (λ (k : ℕ). Edge a o k) (eqb-true m.0.to p v.1) (subst (λ (k : ℕ). Edge a k m.0.to) (eqb-true m.0.from o v.0) edge)),
      (λ edge.
          let row = all_below-gives end (λ o. all_below end (λ p. not (edge_test a objects end o p) || is_listed arrows o p)) o u.1 (edge-start a objects end o p is edge) in
          let cell = all_below-gives end (λ p. not (edge_test a objects end o p) || is_listed arrows o p) p row (edge-end a objects end o p is edge) in
          second (edge_test a objects end o p) (is_listed arrows o p) cell (test-from a objects end o p is edge)),
    )
