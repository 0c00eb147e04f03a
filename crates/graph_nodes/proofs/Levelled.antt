-- The levels of nodes after an arc, a slot more, and a removal.
use Rattle.std.proofs.Common.{◌≡◌, ◌≢◌, ◌∙◌, ap, sym, subst, ℕ, ◌+◌, ◌*◌, ◌/◌, ◌<◌, ◌≤◌, List, [], ◌∷◌, ◌++◌, length, length-append, refl, arith, inl, inr}
use Rattle.std.specs.Prelude.{IsTrue, ◌⊎◌, Bool, true, Option, None, Some, slice_set}
use Rattle.std.proofs.lemmas.Bool.{cases_eq, cases_Bool, both_ways, cond-true, cond-false}
use Rattle.std.proofs.lemmas.List.{get_or-set_other, length-set}
use Rattle.oper_core.specs.State.{is_among}
use Rattle.install_order.specs.Digraph.{AreNodes}
use Rattle.install_order.specs.MergeLaws.{walk-levels}
use Rattle.number_lists.specs.Lists.{Lists, list_at, IsFree, IsWider, AreAdded}
use Rattle.graph_nodes.specs.Arcs.{arc_at, node_at, held_at, IsArc}
use Rattle.graph_nodes.specs.Into.{AreLost, AreCleared}
use Rattle.graph_nodes.specs.Merge.{gathered, AreMoved}
use Rattle.graph_nodes.specs.Removed.{AreReleased, AreAlone}
use Rattle.graph_nodes.specs.Named.{Naming}
use Rattle.graph_nodes.specs.Kept.{AreJoined, AreOnWay, IsKept, no_arcs}
use Rattle.graph_nodes.specs.Levels.{AreLevelled, AreLinked, AreReady, AreStillLevelled, HaveLevels, HasLevelRoom, IsLinkable, level_at}
use Rattle.graph_nodes.proofs.Options.{none-some}
use Rattle.graph_nodes.proofs.Cleared.{arc-was}
use Rattle.graph_nodes.proofs.Gone.{AreOfNode, start-out, end-out}
use Rattle.graph_nodes.proofs.Ordered.{cell-free, names-all, set-end, slot-of, way-end}
use Rattle.graph_nodes.proofs.Slot.{arc-same, held-same, node-same}
use Rattle.graph_nodes.proofs.Ways.{levels, slot_level}

pub linkable-kept : (arcs : List (Option ℕ)) (node : List ℕ) (held : List Bool) (name : List ℕ) (members into near : Lists) → IsKept arcs node held name members into → length near.lists ≡ length node → near.items ≡ length arcs → IsLinkable arcs node members near
linkable-kept arcs node held name members into near kept f g = record {
  ends = λ c j arc. let lt = kept.range.ends c j arc in (lt, kept.range.nodes j lt);
  below = kept.range.nodes;
  filed = kept.filed;
  sizes = record {
    cells = kept.range.cells;
    small = kept.range.small;
    member_lists = kept.range.member_lists;
    member_items = kept.range.member_items;
    near_lists = f;
    near_items = g;
  };
}

-- the tables of a graph are what a search reads
pub ready-at : (arcs a : List (Option ℕ)) (node b : List ℕ) (held : List Bool) (name : List ℕ) (members into : Lists) (level : List ℕ) (near : Lists) (room level_room : ℕ) → IsKept arcs node held name members into → HaveLevels arcs node held level near → 8 * length node ≤ room → length node ≤ level_room → a ≡ arcs → b ≡ node → AreReady a b members level near room level_room
ready-at arcs a node b held name members into level near room level_room kept have wide deep ea eb =
    subst (λ (xs : List (Option ℕ)). AreReady xs b members level near room level_room) (sym ea)
    (subst (λ (xs : List ℕ). AreReady arcs xs members level near room level_room) (sym eb)
    record {
      nodes = kept.nodes;
      levelled = have.levelled;
      linkable = linkable-kept arcs node held name members into near kept have.lists have.items;
      fit = omega (arith, kept.range.cells, wide);
      deep = deep;
    })

-- the same tables
pub have-as : (arcs a : List (Option ℕ)) (node b : List ℕ) (held h : List Bool) (level n : List ℕ) (near m : Lists) → HaveLevels arcs node held level near → a ≡ arcs → b ≡ node → h ≡ held → n ≡ level → m.lists ≡ near.lists → m.items ≡ near.items → HaveLevels a b h n m
have-as arcs a node b held h level n near m have ea eb eh en el ei =
    subst (λ (xs : List (Option ℕ)). HaveLevels xs b h n m) (sym ea)
    (subst (λ (xs : List ℕ). HaveLevels arcs xs h n m) (sym eb)
    (subst (λ (xs : List Bool). HaveLevels arcs node xs n m) (sym eh)
    (subst (λ (xs : List ℕ). HaveLevels arcs node held xs m) (sym en)
    record {
      levelled = record {
        rise = have.levelled.rise;
        there = λ c j arc apart even. subst (λ (ls : List (List ℕ)). IsTrue (is_among c (list_at ls (node_at node j)))) (sym el) (have.levelled.there c j arc apart even);
        only = λ k c t. have.levelled.only k c (subst (λ (ls : List (List ℕ)). IsTrue (is_among c (list_at ls k))) el t);
      };
      lost = λ k c t. have.lost k c (subst (λ (ls : List (List ℕ)). IsTrue (is_among c (list_at ls k))) el t);
      lists = ap length el ∙ have.lists;
      items = ei ∙ have.items;
    })))

pub have-none : (level : List ℕ) (near : Lists) → level ≡ [] → near.lists ≡ [] → near.items ≡ 0 → HaveLevels [] [] [] level near
have-none level near e f g =
    let no : (m c : ℕ) → IsTrue (is_among c (list_at near.lists m)) → ⊥ = λ m c t. both_ways _ refl (subst (λ (ls : List (List ℕ)). IsTrue (is_among c (list_at ls m))) f t) in
    record {
      levelled = record {
        rise = λ c j arc. absurd (none-some j arc);
        there = λ c j arc. absurd (none-some j arc);
        only = λ m c t. absurd (no m c t);
      };
      lost = λ m c t. absurd (no m c t);
      lists = ap length f;
      items = g;
    }

-- no capacity is less
pub level-room-more : (room slots more a b : ℕ) (na nb : Lists) → more ≡ slots → a ≤ b → na.list_room ≤ nb.list_room → na.item_room ≤ nb.item_room → HasLevelRoom room slots a na → HasLevelRoom room more b nb
level-room-more room slots more a b na nb same ab lr ir is = record { level = omega (arith, is.level, same, ab); lists = omega (arith, is.lists, lr); items = omega (arith, is.items, ir) }

module _ (arcs : List (Option ℕ)) (old new : List ℕ) (held : List Bool) (level : List ℕ) (na nb nc : Lists) (ns : List ℕ) (one c to : ℕ) (nodes : AreNodes (IsArc arcs) (node_at old)) (are : AreLevelled arcs old level na) (lost : AreLost arcs held na) (lt : c < length arcs) (none : arc_at arcs c ≡ None)
    (holds : IsTrue (held_at held (c / 8))) (way : AreOnWay arcs old (node_at old (c / 8)) (node_at old to) ns) (is : (ns ≡ []) ⊎ IsTrue (is_among one ns)) (at : (i : ℕ) → node_at new i ≡ gathered ns one (node_at old i))
    (fits : (node_at old (c / 8) ≡ node_at old to) ⊎ (level_at level (node_at old (c / 8)) ≤ level_at level (node_at old to))) (moved : AreMoved (gathered ns one) na nb) where
  nothing : (m : ℕ) → ns ≡ [] → IsTrue (is_among m ns) → ⊥
  nothing m e t = both_ways _ refl (subst (λ (xs : List ℕ). IsTrue (is_among m xs)) e t)

  -- the start of the arc is not above its end
  low : level_at level (node_at old (c / 8)) ≤ level_at level (node_at old to)
  low = elim fits [ inl e ↦ omega (arith, ap (λ (m : ℕ). level_at level m) e) | inr le ↦ le ]

  -- so all on the way are of one level
  flat : (m : ℕ) → IsTrue (is_among m ns) → level_at level m ≡ level_at level (node_at old to)
  flat m t = elim way [
    | inl none_on ↦ absurd (nothing m none_on.1 t)
    | inr on ↦
        let s = on.slots m t in
        let both = (on.way (c / 8) to s.0 refl refl).0 (subst (λ (k : ℕ). IsTrue (is_among k ns)) (sym s.2) t) in
        let up = walk-levels (IsArc arcs) (slot_level old level) to s.0 (levels arcs old level na nodes are) both.0 in
        let down = walk-levels (IsArc arcs) (slot_level old level) s.0 (c / 8) (levels arcs old level na nodes are) both.1 in
        let here : slot_level old level s.0 ≡ level_at level m = ap (λ (k : ℕ). level_at level k) s.2 in
        omega (arith, up, down, here, low)
  ]

  gathered-level : (m : ℕ) → level_at level (gathered ns one m) ≡ level_at level m
  gathered-level m = elim (cases_Bool (is_among m ns)) [
    | inl t ↦
        let held_one : IsTrue (is_among one ns) = elim is [ inl e ↦ absurd (nothing m e t) | inr u ↦ u ] in
        ap (λ (k : ℕ). level_at level k) (cond-true (is_among m ns) one m t) ∙ flat one held_one ∙ sym (flat m t)
    | inr f ↦ ap (λ (k : ℕ). level_at level k) (cond-false (is_among m ns) one m f)
  ]

  new-level : (i : ℕ) → level_at level (node_at new i) ≡ level_at level (node_at old i)
  new-level i = ap (λ (k : ℕ). level_at level k) (at i) ∙ gathered-level (node_at old i)

  old-arc : (d j : ℕ) → d ≢ c → arc_at (slice_set arcs c (Some to)) d ≡ Some j → arc_at arcs d ≡ Some j
  old-arc d j ne arc = sym (get_or-set_other arcs c d (Some to) None ne) ∙ arc

  pub near-free : IsFree nb.lists c
  near-free = cell-free arcs held na nb (gathered ns one) c none holds lost moved

  pub levelled-inserted : AreLinked (λ d. d ≡ c) (slice_set arcs c (Some to)) new level nb nc → AreLevelled (slice_set arcs c (Some to)) new level nc
  levelled-inserted link = record {
    rise = λ d j arc. elim (cases_eq d c) [
      | inl q ↦
          let end : to ≡ j = set-end arcs c to d j lt q arc in
          let start : level_at level (node_at new (d / 8)) ≡ level_at level (node_at old (c / 8)) = ap (λ (k : ℕ). level_at level (node_at new (k / 8))) q ∙ new-level (c / 8) in
          let stop : level_at level (node_at new j) ≡ level_at level (node_at old to) = ap (λ (k : ℕ). level_at level (node_at new k)) (sym end) ∙ new-level to in
          omega (arith, start, stop, low)
      | inr ne ↦ omega (arith, are.rise d j (old-arc d j ne arc), new-level (d / 8), new-level j)
    ];
    there = λ d j arc apart even. elim (cases_eq d c) [
      | inl q ↦ link.there (node_at new j) d q record { to = j; arc = arc; end = refl; apart = apart; even = even }
      | inr ne ↦
          let old_apart : node_at old (d / 8) ≡ node_at old j → ⊥ = λ e. apart (at (d / 8) ∙ ap (λ (k : ℕ). gathered ns one k) e ∙ sym (at j)) in
          let old_even = sym (new-level (d / 8)) ∙ even ∙ new-level j in
          let was = moved.there (node_at old j) d (are.there d j (old-arc d j ne arc) old_apart old_even) in
          link.kept (node_at new j) d (subst (λ (m : ℕ). IsTrue (is_among d (list_at nb.lists m))) (sym (at j)) was)
    ];
    only = λ m d t. elim (link.only m d t) [
      | inl o ↦
          let b = moved.only m d o in
          let a = are.only b.0 d b.1 in
          let ne : d ≢ c = λ q. absurd (near-free m (subst (λ (k : ℕ). IsTrue (is_among k (list_at nb.lists m))) q o)) in (
            omega (arith, a.0, length-set arcs c (Some to)),
            (λ j arc.
                let both = a.1 j (old-arc d j ne arc) in (
                  at j ∙ ap (λ (k : ℕ). gathered ns one k) both.0 ∙ b.2,
                  new-level (d / 8) ∙ both.1 ∙ sym (gathered-level b.0) ∙ ap (λ (k : ℕ). level_at level k) b.2,
                )),
          )
      | inr s ↦ (
        omega (arith, s.0, lt, length-set arcs c (Some to)),
        (λ j arc.
            let same : Some s.1.to ≡ Some j = sym s.1.arc ∙ arc in
            let end : s.1.to ≡ j = cc in
            (ap (λ (k : ℕ). node_at new k) (sym end) ∙ s.1.end, s.1.even)),
      )
    ];
  }

  pub lost-inserted : AreLinked (λ d. d ≡ c) (slice_set arcs c (Some to)) new level nb nc → AreLost (slice_set arcs c (Some to)) held nc
  lost-inserted link m k t gone = elim (link.only m k t) [
    | inl o ↦
        let b = moved.only m k o in
        elim (cases_eq k c) [
          | inl q ↦ absurd (near-free m (subst (λ (d : ℕ). IsTrue (is_among d (list_at nb.lists m))) q o))
          | inr ne ↦ lost b.0 k b.1 (sym (get_or-set_other arcs c k (Some to) None ne) ∙ gone)
        ]
    | inr s ↦ absurd (none-some s.1.to (sym gone ∙ s.1.arc))
  ]

moved-as : (f g : ℕ → ℕ) (a b : Lists) → ((m : ℕ) → f m ≡ g m) → AreMoved f a b → AreMoved g a b
moved-as f g a b same are = record {
  there = λ m k t. subst (λ (j : ℕ). IsTrue (is_among k (list_at b.lists j))) (same m) (are.there m k t);
  only = λ m k t. let r = are.only m k t in (r.0, r.1, sym (same r.0) ∙ r.2);
  same = are.same;
}

-- what all on the way are merged into is the end's new node
gathered-end : (ns : List ℕ) (one end w m : ℕ) → (ns ≡ []) ⊎ IsTrue (is_among w ns) → end ≡ gathered ns one w → gathered ns end m ≡ gathered ns one m
gathered-end ns one end w m is e = elim (cases_Bool (is_among m ns)) [
  | inl t ↦ elim is [
    | inl none ↦ absurd (both_ways _ refl (subst (λ (xs : List ℕ). IsTrue (is_among m xs)) none t))
    | inr held ↦ cond-true (is_among m ns) end m t ∙ e ∙ cond-true (is_among w ns) one w held ∙ sym (cond-true (is_among m ns) one m t)
  ]
  | inr f ↦ cond-false (is_among m ns) end m f ∙ sym (cond-false (is_among m ns) one m f)
]

-- a cell without an arc is in no list that it was not in
pub lost-still : (arcs : List (Option ℕ)) (node : List ℕ) (held : List Bool) (level new : List ℕ) (na nb : Lists) → AreLost arcs held na → AreStillLevelled arcs node level new na nb → AreLost arcs held nb
lost-still arcs node held level new na nb lost still m c t none = lost m c (still.lost m c t none) none

pub still-at : (a arcs : List (Option ℕ)) (b node level raised : List ℕ) (near na : Lists) → a ≡ arcs → b ≡ node → AreStillLevelled a b level raised near na → AreStillLevelled arcs node level raised near na
still-at a arcs b node level raised near na ea eb still = subst (λ (xs : List ℕ). AreStillLevelled arcs xs level raised near na) eb (subst (λ (xs : List (Option ℕ)). AreStillLevelled xs b level raised near na) ea still)

-- the levels after an arc
pub have-inserted : (arcs : List (Option ℕ)) (old new : List ℕ) (held : List Bool) (name names : Naming) (ma mb ia ib : Lists) (level raised : List ℕ) (near na nb nc : Lists) (c to : ℕ) (join : AreJoined arcs (node_at old (c / 8)) (node_at old to) old new name names ma mb ia ib) → IsKept arcs old held name.name ma ia → HaveLevels arcs old held level near →
    c < length arcs → arc_at arcs c ≡ None → IsTrue (held_at held (c / 8)) → to < length old → (node_at old (c / 8) ≡ node_at old to) ⊎ (level_at raised (node_at old (c / 8)) ≤ level_at raised (node_at old to)) → AreStillLevelled arcs old level raised near na → AreMoved (gathered join.0 (node_at new to)) na nb →
    AreLinked (λ d. d ≡ c) (slice_set arcs c (Some to)) new raised nb nc → HaveLevels (slice_set arcs c (Some to)) new held raised nc
have-inserted arcs old new held name names ma mb ia ib level raised near na nb nc c to join kept have lt none holds low fits still moved link =
    let ns = join.0 in
    let way = join.1 in
    let one = join.2.0 in
    let is = join.2.1 in
    let are = join.2.3 in
    let v = node_at old (c / 8) in
    let w = node_at old to in
    let at = names-all arcs old new held name.name ma ia v to one ns kept low way are.size are.node in
    let into_one : AreMoved (gathered ns one) na nb = moved-as (gathered ns (node_at new to)) (gathered ns one) na nb (λ m. gathered-end ns one (node_at new to) w m (way-end arcs old v w ns way) (at to)) moved in
    let lost = lost-still arcs old held level raised near na have.lost still in
    record {
      levelled = levelled-inserted arcs old new held raised na nb nc ns one c to kept.nodes still.levelled lost lt none holds way is at fits into_one link;
      lost = lost-inserted arcs old new held raised na nb nc ns one c to kept.nodes still.levelled lost lt none holds way is at fits into_one link;
      lists = link.same.lists ∙ moved.same.lists ∙ still.same.lists ∙ have.lists ∙ sym are.size;
      items = link.same.items ∙ moved.same.items ∙ still.same.items ∙ have.items ∙ sym (length-set arcs c (Some to));
    }

-- one more slot, whose node is at the lowest level
pub have-slot : (arcs more : List (Option ℕ)) (node : List ℕ) (held : List Bool) (level : List ℕ) (na nb nc : Lists) → HaveLevels arcs node held level na → length held ≡ length node → length arcs ≡ 8 * length node → more ≡ arcs ++ no_arcs 8 → IsWider na nb → AreAdded 8 nb nc → HaveLevels more (node ++ length node ∷ []) (held ++ true ∷ []) level nc
have-slot arcs more node held level na nb nc have holds size e wide add =
    let n = length node in
    let arc : (c : ℕ) → arc_at more c ≡ arc_at arcs c = λ c. ap (λ (xs : List (Option ℕ)). arc_at xs c) e ∙ arc-same arcs 8 c in
    let lists : (j : ℕ) → list_at nc.lists j ≡ list_at na.lists j = λ j. add.here j ∙ wide.here j in
    let count : length more ≡ length arcs + 8 = ap length e ∙ length-append arcs (no_arcs 8) in
    let was : (m c : ℕ) → IsTrue (is_among c (list_at nc.lists m)) → IsTrue (is_among c (list_at na.lists m)) = λ m c t. subst (λ (xs : List ℕ). IsTrue (is_among c xs)) (lists m) t in
    let at : (i : ℕ) → level_at level (node_at (node ++ n ∷ []) i) ≡ level_at level (node_at node i) = λ i. ap (λ (m : ℕ). level_at level m) (node-same node i) in
    record {
      levelled = record {
        rise = λ c j a. omega (arith, have.levelled.rise c j (sym (arc c) ∙ a), at (c / 8), at j);
        there = λ c j a apart even. subst (λ (m : ℕ). IsTrue (is_among c (list_at nc.lists m))) (sym (node-same node j))
            (subst (λ (xs : List ℕ). IsTrue (is_among c xs)) (sym (lists (node_at node j)))
            (have.levelled.there c j (sym (arc c) ∙ a) (λ q. apart (node-same node (c / 8) ∙ q ∙ sym (node-same node j))) (sym (at (c / 8)) ∙ even ∙ at j)));
        only = λ m c t. let r = have.levelled.only m c (was m c t) in (omega (arith, r.0, count), λ j a. let both = r.1 j (sym (arc c) ∙ a) in (node-same node j ∙ both.0, at (c / 8) ∙ both.1));
      };
      lost = λ m c t none.
          let in_na = was m c t in
          let low = slot-of c n (omega (arith, (have.levelled.only m c in_na).0, size)) in
          held-same held (c / 8) (omega (arith, low, holds)) ∙ have.lost m c in_na (sym (arc c) ∙ none);
      lists = omega (arith, add.lists, wide.lists, have.lists, length-append node (n ∷ []));
      items = omega (arith, add.items, wide.items, have.items, count);
    }

-- the slots of a minimal node are held no more
module _ (arcs left : List (Option ℕ)) (old new : List ℕ) (n : ℕ) (slots : List ℕ) (into led_into : Lists) (are : AreOfNode arcs old n slots) (clear : AreCleared (λ c. IsTrue (is_among (c / 8) slots)) arcs left into led_into) (alone : AreAlone slots old new) where
  begins : (c j : ℕ) → arc_at left c ≡ Some j → node_at new (c / 8) ≡ node_at old (c / 8)
  begins c j arc = alone.rest (c / 8) (start-out arcs left old new n slots into led_into are clear alone c j arc)

  ends : (c j : ℕ) → arc_at left c ≡ Some j → node_at new j ≡ node_at old j
  ends c j arc = alone.rest j (end-out arcs left old new n slots into led_into are clear alone c j arc)

  was : (c j : ℕ) → arc_at left c ≡ Some j → arc_at arcs c ≡ Some j
  was c j arc = arc-was (λ k. IsTrue (is_among (k / 8) slots)) arcs left into led_into c j clear arc

  pub have-gone : (held holds : List Bool) (level : List ℕ) (near : Lists) → HaveLevels arcs old held level near → AreReleased slots held holds → HaveLevels left new holds level near
  have-gone held holds level near have rel =
      let at : (c j : ℕ) → arc_at left c ≡ Some j → level_at level (node_at new (c / 8)) ≡ level_at level (node_at old (c / 8)) = λ c j arc. ap (λ (m : ℕ). level_at level m) (begins c j arc) in
      let to : (c j : ℕ) → arc_at left c ≡ Some j → level_at level (node_at new j) ≡ level_at level (node_at old j) = λ c j arc. ap (λ (m : ℕ). level_at level m) (ends c j arc) in
      record {
        levelled = record {
          rise = λ c j arc. omega (arith, have.levelled.rise c j (was c j arc), at c j arc, to c j arc);
          there = λ c j arc apart even. subst (λ (k : ℕ). IsTrue (is_among c (list_at near.lists k))) (sym (ends c j arc))
              (have.levelled.there c j (was c j arc) (λ e. apart (begins c j arc ∙ e ∙ sym (ends c j arc))) (sym (at c j arc) ∙ even ∙ to c j arc));
          only = λ m c t. let r = have.levelled.only m c t in (omega (arith, r.0, clear.size), λ j arc. let both = r.1 j (was c j arc) in (ends c j arc ∙ both.0, at c j arc ∙ both.1));
        };
        lost = λ m c t none. elim (cases_Bool (is_among (c / 8) slots)) [
          | inl s ↦ rel.done (c / 8) s
          | inr f ↦
              let gone : arc_at arcs c ≡ None = elim (clear.rest c) [ inl same ↦ sym same ∙ none | inr s ↦ absurd (both_ways _ f s) ] in
              rel.rest (c / 8) (λ s. both_ways _ f s) ∙ have.lost m c t gone
        ];
        lists = have.lists ∙ sym alone.size;
        items = have.items ∙ sym clear.size;
      }
