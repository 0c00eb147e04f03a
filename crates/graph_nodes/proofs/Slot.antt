-- One slot more.
use Rattle.std.proofs.Common.{◌≡◌, ◌∙◌, ap, sym, subst, ℕ, zero, suc, ◌+◌, ◌<◌, ◌≤◌, List, [], ◌∷◌, ◌++◌, length, length-append, refl, arith, inl, inr}
use Rattle.std.specs.Prelude.{IsTrue, ◌==◌, ◌/◌, ◌^◌, Bool, true, Option, None, IsSome, slice_index_or, false}
use Rattle.std.proofs.lemmas.Bool.{cases_eq, cases_lt, both_ways, or_left, or_cases, eqb-true, eq-eqb}
use Rattle.std.proofs.Math.ListN.{get_or-eq_default}
use Rattle.oper_core.specs.State.{is_among}
use Rattle.number_lists.specs.Lists.{Lists, list_at, IsWider, IsLonger, IsPushed}
use Rattle.number_lists.specs.Members.{Members}
use Rattle.graph_nodes.specs.Arcs.{arc_at, node_at, name_at, held_at, IsArc}
use Rattle.graph_nodes.specs.Into.{AreLed}
use Rattle.graph_nodes.specs.Named.{Naming, AreNamed}
use Rattle.graph_nodes.specs.Merge.{IsFiled}
use Rattle.graph_nodes.specs.Kept.{IsKept, HasRoom, no_arcs, AreCellsAdded}
use Rattle.graph_nodes.proofs.Ordered.{nodes-iff, same-nodes, slot-of}

-- no cells have arcs
nones-at : (n c : ℕ) → arc_at (no_arcs n) c ≡ None
nones-at zero c = refl
nones-at (suc n) zero = refl
nones-at (suc n) (suc c) = nones-at n c

-- the arcs are the same
pub arc-same : (arcs : List (Option ℕ)) (n c : ℕ) → arc_at (arcs ++ no_arcs n) c ≡ arc_at arcs c
arc-same [] n c = nones-at n c
arc-same (a ∷ arcs) n zero = refl
arc-same (a ∷ arcs) n (suc c) = arc-same arcs n c

pub read-left : (node : List ℕ) (i v d : ℕ) → i < length node → slice_index_or (node ++ v ∷ []) i d ≡ slice_index_or node i d
read-left [] i v d lt = absurd (omega arith)
read-left (x ∷ node) zero v d lt = refl
read-left (x ∷ node) (suc i) v d lt = read-left node i v d (omega arith)

pub read-last : (node : List ℕ) (v d : ℕ) → slice_index_or (node ++ v ∷ []) (length node) d ≡ v
read-last [] v d = refl
read-last (x ∷ node) v d = read-last node v d

-- the nodes are the same
pub node-same : (node : List ℕ) (i : ℕ) → node_at (node ++ length node ∷ []) i ≡ node_at node i
node-same node i = elim (cases_lt i (length node)) [
  | inl lt ↦ read-left node i (length node) i lt
  | inr ge ↦ elim (cases_eq i (length node)) [
    | inl q ↦ ap (λ (k : ℕ). node_at (node ++ length node ∷ []) k) q ∙ read-last node (length node) (length node) ∙ sym q ∙ sym (get_or-eq_default node i ge)
    | inr ne ↦ get_or-eq_default (node ++ length node ∷ []) i (omega (arith, ge, length-append node (length node ∷ []))) ∙ sym (get_or-eq_default node i ge)
  ]
]

pub past-empty : (ls : List (List ℕ)) (j : ℕ) → length ls ≤ j → list_at ls j ≡ []
past-empty [] j le = refl
past-empty (xs ∷ ls) zero le = absurd (omega (arith, le))
past-empty (xs ∷ ls) (suc j) le = past-empty ls j (omega (arith, le))

filed-more : (node : List ℕ) (a b c d : Lists) → IsFiled node a → length a.lists ≡ length node → IsWider a b → IsLonger b c → IsPushed c (length node) (length node) d → IsFiled (node ++ length node ∷ []) d
filed-more node a b c d filed count wide long push =
    let n = length node in
    let new = node ++ n ∷ [] in
    let size : length new ≡ n + 1 = length-append node (n ∷ []) in
    let same : (j : ℕ) → list_at c.lists j ≡ list_at a.lists j = λ j. long.here j ∙ wide.here j in
    let at_n : list_at d.lists n ≡ n ∷ [] = push.here ∙ ap (λ (xs : List ℕ). n ∷ xs) (same n ∙ past-empty a.lists n (omega (arith, count))) in
    let other : (j : ℕ) → (j ≡ n → ⊥) → list_at d.lists j ≡ list_at a.lists j = λ j ne. push.others j ne ∙ same j in
    let none_at_n : (k : ℕ) → IsTrue (is_among k (list_at a.lists n)) → ⊥ = λ k t. both_ways _ refl (subst (λ (xs : List ℕ). IsTrue (is_among k xs)) (past-empty a.lists n (omega (arith, count))) t) in
    record {
      there = λ i lt. elim (cases_eq i n) [
        | inl q ↦
            let name : node_at new i ≡ n = ap (λ (k : ℕ). node_at new k) q ∙ read-last node n n in
            subst (λ (j : ℕ). IsTrue (is_among i (list_at d.lists j))) (sym name) (subst (λ (xs : List ℕ). IsTrue (is_among i xs)) (sym at_n) (or_left (i == n) _ (eq-eqb i n q)))
        | inr ne ↦
            let low : i < n = omega (arith, lt, size) in
            let was = filed.there i low in
            let off : node_at node i ≡ n → ⊥ = λ q. none_at_n i (subst (λ (j : ℕ). IsTrue (is_among i (list_at a.lists j))) q was) in
            subst (λ (j : ℕ). IsTrue (is_among i (list_at d.lists j))) (sym (node-same node i)) (subst (λ (xs : List ℕ). IsTrue (is_among i xs)) (sym (other (node_at node i) off)) was)
      ];
      only = λ m i t. elim (cases_eq m n) [
        | inl q ↦ elim (or_cases (i == n) (is_among i []) (subst (λ (xs : List ℕ). IsTrue (is_among i xs)) (ap (λ (j : ℕ). list_at d.lists j) q ∙ at_n) t)) [
          | inl e ↦
              let at : i ≡ n = eqb-true i n e in
              (omega (arith, at, size), ap (λ (k : ℕ). node_at new k) at ∙ read-last node n n ∙ sym q)
          | inr r ↦ absurd (both_ways _ refl r)
        ]
        | inr ne ↦
            let r = filed.only m i (subst (λ (xs : List ℕ). IsTrue (is_among i xs)) (other m ne) t) in
            (omega (arith, r.0, size), node-same node i ∙ r.1)
      ];
    }

-- the slots before are held as they were
pub held-same : (held : List Bool) (i : ℕ) → i < length held → held_at (held ++ true ∷ []) i ≡ held_at held i
held-same [] i lt = absurd (omega arith)
held-same (h ∷ held) zero lt = refl
held-same (h ∷ held) (suc i) lt = held-same held i (omega arith)

pub held-last : (held : List Bool) → IsTrue (held_at (held ++ true ∷ []) (length held))
held-last [] = refl
held-last (h ∷ held) = held-last held

-- all but the last are held as they were, past the end too
pub held-other : (held : List Bool) (i : ℕ) → (i ≡ length held → ⊥) → held_at (held ++ true ∷ []) i ≡ held_at held i
held-other held i ne = elim (cases_lt i (length held)) [
  | inl lt ↦ held-same held i lt
  | inr ge ↦ get_or-eq_default (held ++ true ∷ []) false (omega (arith, ge, ne, length-append held (true ∷ []))) ∙ sym (get_or-eq_default held false ge)
]

named-slot : (node name names : List ℕ) → AreNamed node name → length name ≡ length node → names ≡ name ++ length node ∷ [] → AreNamed (node ++ length node ∷ []) names
named-slot node name names are size e =
    let new = node ++ length node ∷ [] in
    let same : (m : ℕ) → name_at names m ≡ name_at name m = λ m. ap (λ (xs : List ℕ). name_at xs m) (e ∙ ap (λ (n : ℕ). name ++ n ∷ []) (sym size)) ∙ node-same name m in
    let at : (i : ℕ) → name_at names (node_at new i) ≡ name_at name (node_at node i) = λ i. same (node_at new i) ∙ ap (λ (m : ℕ). name_at name m) (node-same node i) in
    record {
      least = λ i. omega (arith, at i, are.least i);
      member = λ i. ap (λ (m : ℕ). node_at new m) (at i) ∙ node-same node (name_at name (node_at node i)) ∙ are.member i ∙ sym (node-same node i);
    }

-- the lists are the same, and so are the arcs
led-slot : (arcs more : List (Option ℕ)) (node : List ℕ) (ia ic : Lists) → AreLed arcs node ia → ((c : ℕ) → arc_at more c ≡ arc_at arcs c) → length arcs ≤ length more → ((j : ℕ) → list_at ic.lists j ≡ list_at ia.lists j) → AreLed more (node ++ length node ∷ []) ic
led-slot arcs more node ia ic led arc le lists =
    let new = node ++ length node ∷ [] in
    let was : (m c : ℕ) → IsTrue (is_among c (list_at ic.lists m)) → IsTrue (is_among c (list_at ia.lists m)) = λ m c t. subst (λ (xs : List ℕ). IsTrue (is_among c xs)) (lists m) t in
    let is : (m c : ℕ) → IsTrue (is_among c (list_at ia.lists m)) → IsTrue (is_among c (list_at ic.lists m)) = λ m c t. subst (λ (xs : List ℕ). IsTrue (is_among c xs)) (sym (lists m)) t in
    record {
      leads = record {
        there = λ c j a out. subst (λ (m : ℕ). IsTrue (is_among c (list_at ic.lists m))) (sym (node-same node j))
            (is (node_at node j) c (led.leads.there c j (sym (arc c) ∙ a) (λ e. out (node-same node (c / 8) ∙ e ∙ sym (node-same node j)))));
        only = λ m c t. let r = led.leads.only m c (was m c t) in (omega (arith, r.0, le), λ j a. node-same node j ∙ r.1 j (sym (arc c) ∙ a));
      };
      live = λ m c t.
          let d = led.live m c (was m c t) in
          (d.0, is m d.0 d.1, (subst (λ (a : Option ℕ). IsSome a) (sym (arc d.0)) d.2.0, λ e. d.2.1 (sym (node-same node (d.0 / 8)) ∙ e)));
    }

pub kept-slot : (arcs more : List (Option ℕ)) (node : List ℕ) (held : List Bool) (name names : List ℕ) (ma mb mc md ia ib ic : Lists) → IsKept arcs node held name ma ia → length node < 2 ^ 28 → names ≡ name ++ length node ∷ [] → IsWider ma mb → IsLonger mb mc → IsPushed mc (length node) (length node) md → IsWider ia ib →
    AreCellsAdded 8 arcs more ib ic → IsKept more (node ++ length node ∷ []) (held ++ true ∷ []) names md ic
kept-slot arcs more node held name names ma mb mc md ia ib ic kept few e wide long push wide_into cells =
    let n = length node in
    let new = node ++ n ∷ [] in
    let size : length new ≡ n + 1 = length-append node (n ∷ []) in
    let arc : (c : ℕ) → arc_at more c ≡ arc_at arcs c = λ c. ap (λ (xs : List (Option ℕ)). arc_at xs c) cells.arcs ∙ arc-same arcs 8 c in
    let lists : (j : ℕ) → list_at ic.lists j ≡ list_at ia.lists j = λ j. cells.here j ∙ wide_into.here j in
    let count : length more ≡ length arcs + 8 = ap length cells.arcs ∙ length-append arcs (no_arcs 8) in
    record {
      nodes = nodes-iff (IsArc arcs) (IsArc more) (node_at new)
          (λ i j. ((λ a. (a.0, a.1, sym (arc a.0) ∙ a.2)), (λ a. (a.0, a.1, arc a.0 ∙ a.2))))
          (same-nodes (IsArc arcs) (node_at node) (node_at new) (node-same node) kept.nodes);
      own = λ i. ap (λ (k : ℕ). node_at new k) (node-same node i) ∙ node-same node (node_at node i) ∙ kept.own i ∙ sym (node-same node i);
      filed = filed-more node ma mb mc md kept.filed kept.range.member_lists wide long push;
      named = named-slot node name names kept.named kept.range.names e;
      led = led-slot arcs more node ia ic kept.led arc (omega (arith, count)) lists;
      lost = λ m c t none.
          let was = subst (λ (xs : List ℕ). IsTrue (is_among c xs)) (lists m) t in
          let low = slot-of c n (omega (arith, (kept.led.leads.only m c was).0, kept.range.cells)) in
          held-same held (c / 8) (omega (arith, low, kept.range.holds)) ∙ kept.lost m c was (sym (arc c) ∙ none);
      range = record {
        cells = omega (arith, count, size, kept.range.cells);
        ends = λ c j a. omega (arith, kept.range.ends c j (sym (arc c) ∙ a), size);
        nodes = λ i lt. elim (cases_lt i n) [
          | inl low ↦ omega (arith, node-same node i, kept.range.nodes i low, size)
          | inr ge ↦ omega (arith, node-same node i, get_or-eq_default node i ge, lt)
        ];
        holds = omega (arith, length-append held (true ∷ []), kept.range.holds, size);
        names = omega (arith, ap length e, length-append name (n ∷ []), kept.range.names, size);
        member_lists = omega (arith, push.same.lists, long.lists, wide.lists, kept.range.member_lists, size);
        into_lists = omega (arith, cells.lists, wide_into.lists, kept.range.into_lists, size);
        member_items = omega (arith, push.same.items, long.items, wide.items, kept.range.member_items, size);
        into_items = omega (arith, cells.items, wide_into.items, kept.range.into_items, count);
        small = omega (arith, size, few);
      };
    }

-- more room changes nothing
kept-lists : (arcs : List (Option ℕ)) (node : List ℕ) (held : List Bool) (name : List ℕ) (ma mb ia ib : Lists) → IsKept arcs node held name ma ia → mb.lists ≡ ma.lists → mb.items ≡ ma.items → ib.lists ≡ ia.lists → ib.items ≡ ia.items → IsKept arcs node held name mb ib
kept-lists arcs node held name ma mb ia ib kept el ei fl fi = record {
  nodes = kept.nodes;
  own = kept.own;
  filed = record {
    there = λ i lt. subst (λ (ls : List (List ℕ)). IsTrue (is_among i (list_at ls (node_at node i)))) (sym el) (kept.filed.there i lt);
    only = λ m i t. kept.filed.only m i (subst (λ (ls : List (List ℕ)). IsTrue (is_among i (list_at ls m))) el t);
  };
  named = kept.named;
  led = record {
    leads = record {
      there = λ c j arc out. subst (λ (ls : List (List ℕ)). IsTrue (is_among c (list_at ls (node_at node j)))) (sym fl) (kept.led.leads.there c j arc out);
      only = λ m c t. kept.led.leads.only m c (subst (λ (ls : List (List ℕ)). IsTrue (is_among c (list_at ls m))) fl t);
    };
    live = λ m c t.
        let d = kept.led.live m c (subst (λ (ls : List (List ℕ)). IsTrue (is_among c (list_at ls m))) fl t) in
        (d.0, subst (λ (ls : List (List ℕ)). IsTrue (is_among d.0 (list_at ls m))) (sym fl) d.1, d.2);
  };
  lost = λ m c t none. kept.lost m c (subst (λ (ls : List (List ℕ)). IsTrue (is_among c (list_at ls m))) fl t) none;
  range = record {
    cells = kept.range.cells;
    ends = kept.range.ends;
    nodes = kept.range.nodes;
    holds = kept.range.holds;
    names = kept.range.names;
    member_lists = ap length el ∙ kept.range.member_lists;
    into_lists = ap length fl ∙ kept.range.into_lists;
    member_items = ei ∙ kept.range.member_items;
    into_items = fi ∙ kept.range.into_items;
    small = kept.range.small;
  };
}

pub kept-room : (arcs a : List (Option ℕ)) (node b : List ℕ) (held h : List Bool) (name n : List ℕ) (ma mb ia ib : Lists) → IsKept arcs node held name ma ia → a ≡ arcs → b ≡ node → h ≡ held → n ≡ name → mb.lists ≡ ma.lists → mb.items ≡ ma.items → ib.lists ≡ ia.lists → ib.items ≡ ia.items → IsKept a b h n mb ib
kept-room arcs a node b held h name n ma mb ia ib kept ea eb eh en el ei fl fi =
    subst (λ (xs : List (Option ℕ)). IsKept xs b h n mb ib) (sym ea)
    (subst (λ (xs : List ℕ). IsKept arcs xs h n mb ib) (sym eb)
    (subst (λ (xs : List Bool). IsKept arcs node xs n mb ib) (sym eh)
    (subst (λ (xs : List ℕ). IsKept arcs node held xs mb ib) (sym en)
    (kept-lists arcs node held name ma mb ia ib kept el ei fl fi))))

-- no capacity is less
pub room-more : (room slots more a b c d e f i j : ℕ) (na nb : Naming) (ma mb ia ib : Lists) (fa fb ta tb : Members) → more ≡ slots → a ≤ b → c ≤ d → e ≤ f → i ≤ j → na.room ≤ nb.room → ma.list_room ≤ mb.list_room → ma.item_room ≤ mb.item_room → ia.list_room ≤ ib.list_room → ia.item_room ≤ ib.item_room →
    room ≤ fb.room → room ≤ tb.room → HasRoom room slots a c e i na ma ia fa ta → HasRoom room more b d f j nb mb ib fb tb
room-more room slots more a b c d e f i j na nb ma mb ia ib fa fb ta tb same ab cd ef ij nn ml mi il ii fr tr is = record {
  arcs = omega (arith, is.arcs, same, ab);
  node = omega (arith, is.node, same, cd);
  held = omega (arith, is.held, same, ef);
  name = omega (arith, is.name, nn);
  scratch = omega (arith, is.scratch, same, ij);
  member_lists = omega (arith, is.member_lists, ml);
  members = omega (arith, is.members, mi);
  into_lists = omega (arith, is.into_lists, il);
  into = omega (arith, is.into, ii);
  found = fr;
  ahead = tr;
}
