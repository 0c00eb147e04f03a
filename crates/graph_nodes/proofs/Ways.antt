-- The nodes on the way from one node to another, as a search within one level finds them.
use Rattle.std.proofs.Common.{◌≡◌, ◌∙◌, ap, sym, subst, ℕ, ◌/◌, ◌<◌, ◌≤◌, List, length, refl, arith, inl, inr}
use Rattle.std.specs.Prelude.{IsTrue, IsFalse, ◌==◌, Bool, true, false, Option, Some}
use Rattle.std.proofs.lemmas.Bool.{cases_eq, both_ways, eqb-true, eq-eqb}
use Rattle.oper_core.specs.State.{is_among}
use Rattle.install_order.specs.Digraph.{Walk, AreNodes, AreLevels, IsReached, AreWhole}
use Rattle.install_order.specs.Digraph.Walk.{Here, Then}
use Rattle.install_order.specs.MergeLaws.{walk-on, walk-levels, found-or-stop, found-way, closure-way}
use Rattle.number_lists.specs.Lists.{Lists}
use Rattle.graph_nodes.specs.Arcs.{arc_at, node_at, IsArc}
use Rattle.graph_nodes.specs.Into.{AreInto}
use Rattle.graph_nodes.specs.Kept.{AreOnWalks, AreOnWay, IsApart, IsKeptWay, IsSearchable, IsToldWay}
use Rattle.graph_nodes.specs.Levels.{AreLevelled, AreReady, level_at}
use Rattle.graph_nodes.specs.Search.{IsBehind, IsOwn, IsSearched}
use Rattle.graph_nodes.specs.Spread.{IsSpread}
use Rattle.graph_nodes.proofs.Options.{some-of, of-some}

-- the level of a slot's node
abbrev pub slot_level : List ℕ → List ℕ → ℕ → ℕ
slot_level node level i = level_at level (node_at node i)

module _ (arcs : List (Option ℕ)) (node level : List ℕ) (near : Lists) (nodes : AreNodes (IsArc arcs) (node_at node)) (are : AreLevelled arcs node level near) where
  pub levels : AreLevels (IsArc arcs) (slot_level node level)
  levels i j arc =
      let from : slot_level node level (arc.0 / 8) ≡ slot_level node level i = ap (λ (k : ℕ). slot_level node level k) arc.1 in
      omega (arith, are.rise arc.0 j arc.2, from)

  -- an arc between slots of two nodes of one level is one between the nodes
  near-arc : (o p : ℕ) → IsArc arcs o p → (node_at node o ≡ node_at node p → ⊥) → slot_level node level o ≡ slot_level node level p → IsBehind arcs node near (node_at node o) (node_at node p)
  near-arc o p arc apart even =
      let start : node_at node (arc.0 / 8) ≡ node_at node o = ap (λ (k : ℕ). node_at node k) arc.1 in
      (arc.0, are.there arc.0 p arc.2 (λ e. apart (sym start ∙ e)) (ap (λ (k : ℕ). level_at level k) start ∙ even), (of-some (arc_at arcs arc.0) p arc.2, start))

  -- the end of such an arc
  end-of : (m n : ℕ) → IsBehind arcs node near m n → (c : ℕ) × (j : ℕ) × (arc_at arcs c ≡ Some j) × (node_at node (c / 8) ≡ m) × (node_at node j ≡ n) × (level_at level m ≡ level_at level n)
  end-of m n behind =
      let end = some-of (arc_at arcs behind.0) behind.2.0 in
      let both = (are.only n behind.0 behind.1).1 end.0 end.1 in
      (behind.0, end.0, end.1, behind.2.1, both.0, ap (λ (k : ℕ). level_at level k) (sym behind.2.1) ∙ both.1)

  -- a walk between nodes is one between their slots
  near-lift : (m n i j : ℕ) → Walk (IsBehind arcs node near) m n → node_at node i ≡ m → node_at node j ≡ n → Walk (IsArc arcs) i j
  near-lift m n i j Here at_i at_j = ((nodes i j).0 (at_i ∙ sym at_j)).0
  near-lift m n i j (Then k q walk behind) at_i at_j =
      let e = end-of k q behind in
      let start : Walk (IsArc arcs) i (e.0 / 8) = near-lift m k i (e.0 / 8) walk at_i e.3 in
      let step : Walk (IsArc arcs) i e.1 = Then (e.0 / 8) e.1 start (e.0, refl, e.2) in
      walk-on (IsArc arcs) i e.1 j step ((nodes e.1 j).0 (e.4 ∙ sym at_j)).0

  -- and stays at its level
  near-level : (m n : ℕ) → Walk (IsBehind arcs node near) m n → level_at level m ≡ level_at level n
  near-level m n Here = refl
  near-level m n (Then k q walk behind) = near-level m k walk ∙ (end-of k q behind).5

  near-found : (v w vs ws : ℕ) (found : List ℕ) → IsSearched arcs node near v w found → node_at node vs ≡ v → node_at node ws ≡ w → IsReached (IsArc arcs) (slot_level node level) (λ s. node_at node s == node_at node ws) (λ i. is_among (node_at node i) found) vs
  near-found v w vs ws found is ev ew = record {
    start = subst (λ (k : ℕ). IsTrue (is_among k found)) (sym ev) is.start;
    sound = λ i t. let walk = is.sound (node_at node i) t in (near-lift (node_at node i) v i vs walk refl ev, near-level (node_at node i) v walk ∙ ap (λ (k : ℕ). level_at level k) (sym ev));
    closed = λ o p arc t goes at. elim (cases_eq (node_at node o) (node_at node p)) [
      | inl e ↦ subst (λ (k : ℕ). IsTrue (is_among k found)) (sym e) t
      | inr ne ↦
          let at_p : slot_level node level p ≡ slot_level node level vs = near-level (node_at node p) v (is.sound (node_at node p) t) ∙ ap (λ (k : ℕ). level_at level k) (sym ev) in
          is.closed (node_at node p) (node_at node o) t (λ e. both_ways _ goes (eq-eqb (node_at node p) (node_at node ws) (e ∙ sym ew))) (near-arc o p arc ne (at ∙ sym at_p))
    ];
  }

  near-whole : (found : List ℕ) → AreWhole (node_at node) (λ i. is_among (node_at node i) found)
  near-whole found i j e t = subst (λ (k : ℕ). IsTrue (is_among k found)) e t

  -- a walk ends at the node of a slot
  near-where : (w n : ℕ) → ((c j : ℕ) → arc_at arcs c ≡ Some j → j < length node) → IsOwn arcs node w → Walk (IsBehind arcs node near) w n → (s : ℕ) × (s < length node) × (node_at node s ≡ n)
  near-where w n ends own Here = (w, own.slot, own.self)
  near-where w n ends own (Then m q walk behind) = let e = end-of m q behind in (e.1, ends e.0 e.1 e.2, e.4)

  fits-at : (v w vs ws : ℕ) → level_at level v ≤ level_at level w → node_at node vs ≡ v → node_at node ws ≡ w → slot_level node level vs ≤ slot_level node level ws
  fits-at v w vs ws le ev ew =
      let at_v : slot_level node level vs ≡ level_at level v = ap (λ (k : ℕ). level_at level k) ev in
      let at_w : slot_level node level ws ≡ level_at level w = ap (λ (k : ℕ). level_at level k) ew in
      omega (arith, at_v, at_w, le)

  -- what was taken of what was found are the nodes on the way
  pub way-taken : (v w : ℕ) (found taken : List ℕ) → ((c j : ℕ) → arc_at arcs c ≡ Some j → j < length node) → IsOwn arcs node w → level_at level v ≤ level_at level w → IsSearched arcs node near v w found → IsTrue (is_among w found) → IsSpread (IsBehind arcs node near) w found taken → AreOnWalks arcs node v w taken
  way-taken v w found taken ends own le is held spread = record {
    start = spread.start;
    slots = λ n t. elim (spread.sound n t) [
      | inl e ↦ (w, own.slot, own.self ∙ sym e)
      | inr r ↦ near-where w n ends own r.1
    ];
    way = λ vs ws i ev ew.
        let E = IsArc arcs in
        let f = near-found v w vs ws found is ev ew in
        let le_s = fits-at v w vs ws le ev ew in
        let law = found-way E (node_at node) (slot_level node level) (λ k. is_among (node_at node k) found) vs ws i levels f nodes (near-whole found) le_s in
        -- what was taken is at the level of w
        let at_w : (o : ℕ) → IsTrue (is_among (node_at node o) taken) → slot_level node level o ≡ level_at level w = λ o t. elim (spread.sound (node_at node o) t) [
          | inl e ↦ ap (λ (k : ℕ). level_at level k) e
          | inr r ↦ sym (near-level w (node_at node o) r.1)
        ] in (
          (λ t. elim (spread.sound (node_at node i) t) [
            | inl e ↦ (((nodes i ws).0 (e ∙ sym ew)).1, (f.sound i (subst (λ (k : ℕ). IsTrue (is_among k found)) (sym e) held)).0)
            | inr r ↦ (near-lift w (node_at node i) ws i r.1 ew refl, (f.sound i r.0).0)
          ]),
          (λ both. closure-way E (node_at node) (slot_level node level) (λ k. is_among (node_at node k) found) (λ k. is_among (node_at node k) taken) vs ws i levels f nodes (near-whole found) le_s
              (subst (λ (k : ℕ). IsTrue (is_among k taken)) (sym ew) spread.start)
              (λ o p arc t g. elim (cases_eq (node_at node o) (node_at node p)) [
                | inl e ↦ subst (λ (k : ℕ). IsTrue (is_among k taken)) e t
                | inr ne ↦
                    let up = levels o p arc in
                    let at_p = (f.sound p g).1 in
                    let at_v : slot_level node level vs ≡ level_at level v = ap (λ (k : ℕ). level_at level k) ev in
                    spread.closed (node_at node o) (node_at node p) t g (near-arc o p arc ne (omega (arith, up, at_w o t, at_p, at_v, le)))
              ]) both.0 (law.0 both).1),
        );
  }

  -- where w was not found, it does not reach v
  pub not-found : (v w : ℕ) (found : List ℕ) → level_at level v ≤ level_at level w → IsSearched arcs node near v w found → IsFalse (is_among w found) → IsApart arcs node v w
  not-found v w found le is out = inr (λ i j ei ej walk.
      let f = near-found v w j i found is ej ei in
      elim (found-or-stop (IsArc arcs) (slot_level node level) (λ s. node_at node s == node_at node i) (λ k. is_among (node_at node k) found) j i j levels f f.start (fits-at v w j i le ej ei) walk) [
        | inl t ↦ both_ways _ out (subst (λ (k : ℕ). IsTrue (is_among k found)) ei t)
        | inr s ↦ both_ways _ out (subst (λ (k : ℕ). IsTrue (is_among k found)) (eqb-true (node_at node s.0) (node_at node i) s.1 ∙ ei) s.2)
      ])

  -- where v is below w, w does not reach it
  pub below-apart : (v w : ℕ) → level_at level v < level_at level w → IsApart arcs node v w
  below-apart v w lt = inr (λ i j ei ej walk.
      let up = walk-levels (IsArc arcs) (slot_level node level) i j levels walk in
      let at_i : slot_level node level i ≡ level_at level w = ap (λ (k : ℕ). level_at level k) ei in
      let at_j : slot_level node level j ≡ level_at level v = ap (λ (k : ℕ). level_at level k) ej in
      omega (arith, up, at_i, at_j, lt))

  -- the end of an arc of the lists of all arcs
  led-end : (into : Lists) (v w : ℕ) → AreInto arcs node into → IsBehind arcs node into v w → (c : ℕ) × (j : ℕ) × (arc_at arcs c ≡ Some j) × (node_at node (c / 8) ≡ v) × (node_at node j ≡ w)
  led-end into v w is behind = let end = some-of (arc_at arcs behind.0) behind.2.0 in (behind.0, end.0, end.1, behind.2.1, (is.only w behind.0 behind.1).1 end.0 end.1)

  -- w does not reach a node from which an arc leads to it
  pub led-apart : (into : Lists) (v w : ℕ) → AreInto arcs node into → IsBehind arcs node into v w → IsApart arcs node v w
  led-apart into v w is behind = elim (cases_eq v w) [
    | inl e ↦ inl e
    | inr ne ↦ inr (λ i j ei ej walk.
        let e = led-end into v w is behind in
        let out : Walk (IsArc arcs) (e.0 / 8) e.1 = Then (e.0 / 8) e.1 Here (e.0, refl, e.2) in
        let back : Walk (IsArc arcs) e.1 (e.0 / 8) = walk-on (IsArc arcs) e.1 i (e.0 / 8) ((nodes e.1 i).0 (e.4 ∙ sym ei)).0
        (walk-on (IsArc arcs) i j (e.0 / 8) walk ((nodes j (e.0 / 8)).0 (ej ∙ sym e.3)).0) in
        ne (sym e.3 ∙ (nodes (e.0 / 8) e.1).1 (out, back) ∙ e.4))
  ]

  -- and is not below it
  pub led-fits : (into : Lists) (v w : ℕ) → AreInto arcs node into → IsBehind arcs node into v w → level_at level v ≤ level_at level w
  led-fits into v w is behind =
      let e = led-end into v w is behind in
      let at_v : level_at level (node_at node (e.0 / 8)) ≡ level_at level v = ap (λ (k : ℕ). level_at level k) e.3 in
      let at_w : level_at level (node_at node e.1) ≡ level_at level w = ap (λ (k : ℕ). level_at level k) e.4 in
      omega (arith, are.rise e.0 e.1 e.2, at_v, at_w)

-- what a search of the lists reads
pub searchable-of : (arcs : List (Option ℕ)) (node : List ℕ) (members : Lists) (level : List ℕ) (near : Lists) (end room level_room : ℕ) → AreReady arcs node members level near room level_room → end ≡ length node → IsSearchable arcs node near end room
searchable-of arcs node members level near end room level_room is e = record {
  lists = omega (arith, e, is.linkable.sizes.near_lists);
  cells = λ n c t. let r = is.levelled.only n c t in (r.0, omega (arith, r.0, is.linkable.sizes.cells));
  below = λ i lt. omega (arith, e, is.linkable.below i lt);
  fit = omega (arith, is.fit, is.linkable.sizes.near_items);
}

pub way-kept : (arcs : List (Option ℕ)) (node : List ℕ) (v w : ℕ) (ahead ns : List ℕ) (reaches : Bool) → IsToldWay arcs node v w ahead reaches → IsKeptWay reaches ahead ns → AreOnWay arcs node v w ns
way-kept arcs node v w ahead ns true told kept = inr (subst (λ (xs : List ℕ). AreOnWalks arcs node v w xs) (sym kept) told)
way-kept arcs node v w ahead ns false told kept = inl (told, kept)
