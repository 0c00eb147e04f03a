-- The nodes of a table are right where a test of them passes.
use Rattle.std.proofs.Common.{◌≡◌, ◌∙◌, sym, subst, ℕ, Bool, not, List, [], ◌∷◌, ◌++◌, inl, inr}
use Rattle.std.specs.Prelude.{IsTrue, ◌||◌, ◌&&◌, ◌==◌, ◌↔◌}
use Rattle.std.specs.List.{list_all}
use Rattle.std.proofs.lemmas.List.Folds.{list_any-append}
use Rattle.std.proofs.lemmas.Bool.{both_ways, or_cases, or_left, or_right, and_parts, eqb-true, not-true}
use Rattle.oper_core.specs.State.{is_among}
use Rattle.install_order.specs.declared.entry.Entry.{Entry}
use Rattle.install_order.specs.Order.{Access, within, Edge, Reaches, IsNode, flush_set_of}
use Rattle.install_order.specs.Order.Reaches.{Here, Then}
use Rattle.install_order.specs.Entries.{accesses, set_of}
use Rattle.install_order.specs.Computed.{IsWithin, is_flushed}
use Rattle.install_order.specs.NodeLaws.{flushed-iff}
use Rattle.install_order.specs.Tables.{Arrow, Row, is_listed, AreNodes, IsTable}
use Rattle.install_order.specs.ListLaws.{any-gives, all-gives, all_below, all_below-gives, second}
use Rattle.install_order.specs.Checks.{first, are_joined, are_joined-gives, is_free, is_free-gives}
use Rattle.install_order.proofs.TableEdges.{is_within, within-gives, within-left, are_edges, are_edges-gives}

-- a list that has the end of each edge that begins in it, and the beginning of each that ends in it
abbrev holds_ends : List Arrow → List ℕ → Bool
holds_ends arrows front = list_all (λ g. not (is_among g.from front) || is_among g.to front) arrows

abbrev holds_starts : List Arrow → List ℕ → Bool
holds_starts arrows back = list_all (λ g. not (is_among g.to back) || is_among g.from back) arrows

stays-in : (a : Access) (arrows : List Arrow) (front : List ℕ) → ((o p : ℕ) → Edge a o p → IsTrue (is_listed arrows o p)) → IsTrue (holds_ends arrows front) → (o p : ℕ) → IsTrue (is_among o front) → Reaches a o p → IsTrue (is_among p front)
stays-in a arrows front listed e o p there Here = there
stays-in a arrows front listed e o p there (Then m q walk edge) =
    let g = any-gives (λ e. (e.from == m) && (e.to == q)) arrows (listed m q edge) in
    let u = and_parts _ _ g.1 in
    let from : m ≡ g.0.from = sym (eqb-true g.0.from m u.0) in
    let held = subst (λ (j : ℕ). IsTrue (is_among j front)) from (stays-in a arrows front listed e o m there walk) in
    subst (λ (j : ℕ). IsTrue (is_among j front)) (eqb-true g.0.to q u.1) (second (is_among g.0.from front) (is_among g.0.to front) (g.3 (λ g. not (is_among g.from front) || is_among g.to front) e) held)

comes-from : (a : Access) (arrows : List Arrow) (back : List ℕ) → ((o p : ℕ) → Edge a o p → IsTrue (is_listed arrows o p)) → IsTrue (holds_starts arrows back) → (o p : ℕ) → IsTrue (is_among p back) → Reaches a o p → IsTrue (is_among o back)
comes-from a arrows back listed e o p there Here = there
comes-from a arrows back listed e o p there (Then m q walk edge) =
    let g = any-gives (λ e. (e.from == m) && (e.to == q)) arrows (listed m q edge) in
    let u = and_parts _ _ g.1 in
    let to : q ≡ g.0.to = sym (eqb-true g.0.to q u.1) in
    let held = second (is_among g.0.to back) (is_among g.0.from back) (g.3 (λ g. not (is_among g.to back) || is_among g.from back) e) (subst (λ (j : ℕ). IsTrue (is_among j back)) to there) in
    comes-from a arrows back listed e o m (subst (λ (j : ℕ). IsTrue (is_among j back)) (eqb-true g.0.from m u.0) held) walk

-- the members are one node, where the earlier and the later ones are all others
abbrev is_node : List Arrow → List ℕ → List ℕ → List ℕ → Bool
is_node arrows earlier members later =
    are_joined (is_listed arrows) members
    && (holds_ends arrows (members ++ later)
    && (holds_starts arrows (earlier ++ members)
    && list_all (λ n. not (is_among n earlier)) later))

is_node-gives : (a : Access) (arrows : List Arrow) (earlier members later : List ℕ) → ((o p : ℕ) → IsTrue (is_listed arrows o p) ↔ Edge a o p) → IsTrue (is_node arrows earlier members later) → IsNode a (set_of members)
is_node-gives a arrows earlier members later iff e =
    let one = first members in
    let u = and_parts (are_joined (is_listed arrows) members) _ e in
    let joined = are_joined-gives a (is_listed arrows) members (λ o p. (iff o p).0) u.0 in
    let w = and_parts (holds_ends arrows (members ++ later)) _ u.1 in
    let x = and_parts (holds_starts arrows (earlier ++ members)) _ w.1 in
    let front : IsTrue (is_among one (members ++ later)) = list_any-append (λ y. one == y) members later ∙ or_left _ _ joined.0 in
    let back : IsTrue (is_among one (earlier ++ members)) = list_any-append (λ y. one == y) earlier members ∙ or_right _ _ joined.0 in (
      one,
      joined.0,
      joined.1,
      (λ n to from.
          let in_front = sym (list_any-append (λ y. n == y) members later) ∙ stays-in a arrows (members ++ later) (λ o p. (iff o p).1) w.0 one n front to in
          let in_back = sym (list_any-append (λ y. n == y) earlier members) ∙ comes-from a arrows (earlier ++ members) (λ o p. (iff o p).1) x.0 n one back from in
          elim (or_cases (is_among n members) _ in_front) [
            | inl held ↦ held
            | inr after ↦ elim (or_cases (is_among n earlier) _ in_back) [
              | inl before ↦ absurd (both_ways _ (not-true _ (all-gives (λ n. not (is_among n earlier)) later n x.1 after)) before)
              | inr held ↦ held
            ]
          ]),
    )

-- the objects are the flush set
abbrev is_flush_set : Access → ℕ → ℕ → Row → Bool
is_flush_set a objects end row =
    list_all (is_flushed a end (set_of row.members)) row.flush_set
    && all_below objects (λ x. not (is_flushed a end (set_of row.members) x) || is_among x row.flush_set)

is_flush_set-gives : (a : Access) (objects end : ℕ) (row : Row) → IsWithin a objects end → IsTrue (is_flush_set a objects end row) → (x : ℕ) → IsTrue (is_among x row.flush_set) ↔ flush_set_of a (set_of row.members) x
is_flush_set-gives a objects end row is e x =
    let members = set_of row.members in
    let u = and_parts (list_all (is_flushed a end members) row.flush_set) _ e in
    let iff = flushed-iff a objects end members x is in (
      (λ there. iff.0 (all-gives (is_flushed a end members) row.flush_set x u.0 there)),
      (λ f. second (is_flushed a end members x) (is_among x row.flush_set) (all_below-gives objects (λ x. not (is_flushed a end members x) || is_among x row.flush_set) x u.1 (is.writes_object f.0 x f.2.0)) (iff.1 f)),
    )

abbrev members_of : List Row → List ℕ
members_of [] = []
members_of (row ∷ rows) = row.members ++ members_of rows

abbrev are_nodes : Access → ℕ → ℕ → List Arrow → List ℕ → List Row → Bool
are_nodes a objects end arrows earlier [] = all_below end (λ n. all_below objects (λ x. not (a.writes n x) || is_among n earlier))
are_nodes a objects end arrows earlier (row ∷ rows) =
    is_node arrows earlier row.members (members_of rows)
    && (is_free (within (λ n. not (is_among n earlier)) a) objects end row.members
    && (is_flush_set a objects end row
    && are_nodes a objects end arrows (earlier ++ row.members) rows))

are_nodes-gives : (a : Access) (objects end : ℕ) (arrows : List Arrow) → IsWithin a objects end → ((o p : ℕ) → IsTrue (is_listed arrows o p) ↔ Edge a o p) → (earlier : List ℕ) (rows : List Row) → IsTrue (are_nodes a objects end arrows earlier rows) → AreNodes a earlier rows
are_nodes-gives a objects end arrows is iff earlier [] e = λ n x w.
    second (a.writes n x) (is_among n earlier) (all_below-gives objects (λ x. not (a.writes n x) || is_among n earlier) x (all_below-gives end (λ n. all_below objects (λ x. not (a.writes n x) || is_among n earlier)) n e (is.writes_lsn n x w)) (is.writes_object n x w)) w
are_nodes-gives a objects end arrows is iff earlier (row ∷ rows) e =
    let u = and_parts (is_node arrows earlier row.members (members_of rows)) _ e in
    let v = and_parts (is_free (within (λ n. not (is_among n earlier)) a) objects end row.members) _ u.1 in
    let w = and_parts (is_flush_set a objects end row) _ v.1 in (
      is_node-gives a arrows earlier row.members (members_of rows) iff u.0,
      is_free-gives (within (λ n. not (is_among n earlier)) a) objects end row.members (within-left (λ n. not (is_among n earlier)) a objects end is) v.0,
      is_flush_set-gives a objects end row is w.0,
      are_nodes-gives a objects end arrows is iff (earlier ++ row.members) rows w.1,
    )

abbrev pub is_table : ℕ → ℕ → List Entry → List Arrow → List Row → Bool
is_table objects end entries arrows rows =
    is_within entries objects end
    && (are_edges (accesses entries) objects end arrows && are_nodes (accesses entries) objects end arrows [] rows)

pub table-is : (objects end : ℕ) (entries : List Entry) (arrows : List Arrow) (rows : List Row) → IsTrue (is_table objects end entries arrows rows) → IsTable entries arrows rows
table-is objects end entries arrows rows e =
    let u = and_parts (is_within entries objects end) _ e in
    let v = and_parts (are_edges (accesses entries) objects end arrows) _ u.1 in
    let is = within-gives entries objects end u.0 in
    let iff = are_edges-gives (accesses entries) objects end arrows is v.0 in
    record { edges = iff; nodes = are_nodes-gives (accesses entries) objects end arrows is iff [] rows v.1 }
