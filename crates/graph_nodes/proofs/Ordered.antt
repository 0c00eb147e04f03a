-- The nodes with one arc more.
use Rattle.std.proofs.Common.{◌≡◌, ◌≢◌, ◌∙◌, ap, sym, subst, ℕ, ◌*◌, ◌/◌, ◌<◌, List, [], length, refl, arith, inl, inr}
use Rattle.std.specs.Prelude.{IsTrue, if◌then◌else◌, IsFalse, ◌==◌, ◌↔◌, ◌⊎◌, Bool, Option, None, Some, slice_index_or, slice_set}
use Rattle.std.proofs.lemmas.Bool.{cases_eq, cases_lt, cases_Bool, both_ways, or_left, or_right, or_cases, eqb-true, eq-eqb, cond-true, cond-false, false_from_ne_true}
use Rattle.std.proofs.lemmas.List.{get_or-set_same, get_or-set_other, length-set, get_or_default}
use Rattle.std.proofs.Math.ListN.{get_or-eq_default}
use Rattle.oper_core.specs.State.{is_among}
use Rattle.install_order.specs.Digraph.{Walk, Joined, AreNodes, with_arc, merged}
use Rattle.install_order.specs.Digraph.Walk.{Here, Then}
use Rattle.install_order.specs.MergeLaws.{walk-on, joined-more, nodes-stay, nodes-merged}
use Rattle.number_lists.specs.Lists.{Lists, list_at, IsFree, IsPushed}
use Rattle.graph_nodes.specs.Arcs.{arc_at, node_at, name_at, held_at, IsArc, IsFromOutside, AreCells}
use Rattle.graph_nodes.specs.Into.{AreInto, IsLive, AreLed, AreLost, IsSettled}
use Rattle.graph_nodes.specs.Named.{Naming, AreNamed, AreNamesMerged}
use Rattle.graph_nodes.specs.Merge.{gathered, AreMoved}
use Rattle.graph_nodes.specs.Kept.{AreGathered, AreJoined, AreOnWay, AreOwn, IsApart, IsKept}
use Rattle.graph_nodes.proofs.Options.{none-some, some-of, of-some}
use Rattle.graph_nodes.proofs.Settled.{settled-into, settled-fewer}

pub same-nodes : (E : ℕ → ℕ → Type 0) (f g : ℕ → ℕ) → ((i : ℕ) → g i ≡ f i) → AreNodes E f → AreNodes E g
same-nodes E f g same are i j = (
  (λ e. (are i j).0 (sym (same i) ∙ e ∙ same j)),
  (λ joined. same i ∙ (are i j).1 joined ∙ sym (same j)),
)

walk-same : (E F : ℕ → ℕ → Type 0) (i j : ℕ) → ((i j : ℕ) → E i j → F i j) → Walk E i j → Walk F i j
walk-same E F i j same Here = Here
walk-same E F i j same (Then m q walk arc) = Then m q (walk-same E F i m same walk) (same m q arc)

-- the nodes of the same arcs are the same
pub nodes-iff : (E F : ℕ → ℕ → Type 0) (node : ℕ → ℕ) → ((i j : ℕ) → F i j ↔ E i j) → AreNodes E node → AreNodes F node
nodes-iff E F node same are i j = (
  (λ e. let both = (are i j).0 e in (walk-same E F i j (λ k l. (same k l).1) both.0, walk-same E F j i (λ k l. (same k l).1) both.1)),
  (λ joined. (are i j).1 (walk-same F E i j (λ k l. (same k l).0) joined.0, walk-same F E j i (λ k l. (same k l).0) joined.1)),
)

-- an arc within a node leaves the nodes as they are
nodes-inside : (E : ℕ → ℕ → Type 0) (node : ℕ → ℕ) (v w : ℕ) → AreNodes E node → node v ≡ node w → AreNodes (with_arc E v w) node
nodes-inside E node v w are same i j =
    let across : Walk E v w = ((are v w).0 same).0 in (
      (λ e. (joined-more E v w i j).1 (inl ((are i j).0 e))),
      (λ joined. elim ((joined-more E v w i j).0 joined) [
        | inl old ↦ (are i j).1 old
        | inr on ↦ (are i j).1 (walk-on E i v j on.0.1 (walk-on E v w j across on.1.0), walk-on E j v i on.1.1 (walk-on E v w i across on.0.0))
      ]),
    )

-- where w does not reach v, or is its node, the nodes stay
nodes-apart : (arcs : List (Option ℕ)) (node : List ℕ) (vs ws : ℕ) → AreNodes (IsArc arcs) (node_at node) → IsApart arcs node (node_at node vs) (node_at node ws) → AreNodes (with_arc (IsArc arcs) vs ws) (node_at node)
nodes-apart arcs node vs ws nodes is = elim is [
  | inl same ↦ nodes-inside (IsArc arcs) (node_at node) vs ws nodes same
  | inr none ↦ nodes-stay (IsArc arcs) (node_at node) vs ws nodes (none ws vs refl refl)
]

-- a node on the way is the node of a slot
pub way-slot : (arcs : List (Option ℕ)) (node : List ℕ) (v w n : ℕ) (ns : List ℕ) → AreOnWay arcs node v w ns → IsTrue (is_among n ns) → (s : ℕ) × (s < length node) × (node_at node s ≡ n)
way-slot arcs node v w n ns way t = elim way [
  | inl none ↦ absurd (both_ways _ refl (subst (λ (xs : List ℕ). IsTrue (is_among n xs)) none.1 t))
  | inr on ↦ on.slots n t
]

-- where there are nodes on the way, the end of the arc is one
pub way-end : (arcs : List (Option ℕ)) (node : List ℕ) (v w : ℕ) (ns : List ℕ) → AreOnWay arcs node v w ns → (ns ≡ []) ⊎ IsTrue (is_among w ns)
way-end arcs node v w ns way = elim way [ inl none ↦ inl none.1 | inr on ↦ inr on.start ]

-- the nodes after the merge are those with the arc
pub nodes-joined : (arcs : List (Option ℕ)) (old new : List ℕ) (vs ws one : ℕ) (ns : List ℕ) → AreNodes (IsArc arcs) (node_at old) → AreOnWay arcs old (node_at old vs) (node_at old ws) ns → (ns ≡ []) ⊎ IsTrue (is_among one ns) → ((i : ℕ) → node_at new i ≡ gathered ns one (node_at old i)) → AreNodes (with_arc (IsArc arcs) vs ws) (node_at new)
nodes-joined arcs old new vs ws one ns nodes way is at = elim way [
  | inl none ↦ same-nodes (with_arc (IsArc arcs) vs ws) (node_at old) (node_at new)
      (λ i. at i ∙ ap (λ (xs : List ℕ). gathered xs one (node_at old i)) none.1)
      (nodes-apart arcs old vs ws nodes none.0)
  | inr some ↦
      let held : IsTrue (is_among one ns) = elim is [
        | inl e ↦ absurd (both_ways _ refl (subst (λ (xs : List ℕ). IsTrue (is_among (node_at old ws) xs)) e some.start))
        | inr t ↦ t
      ] in
      let slot = some.slots one held in
      same-nodes (with_arc (IsArc arcs) vs ws) (merged (λ i. is_among (node_at old i) ns) (node_at old) slot.0) (node_at new)
      (λ i. at i ∙ ap (λ (k : ℕ). if is_among (node_at old i) ns then k else node_at old i) (sym slot.2))
      (nodes-merged (IsArc arcs) (node_at old) (λ i. is_among (node_at old i) ns) vs ws slot.0 nodes (λ i. some.way vs ws i refl refl) (subst (λ (k : ℕ). IsTrue (is_among k ns)) (sym slot.2) held))
]

-- the arcs after the cell got its own
pub arcs-more : (arcs : List (Option ℕ)) (c to i j : ℕ) → c < length arcs → arc_at arcs c ≡ None → IsArc (slice_set arcs c (Some to)) i j ↔ with_arc (IsArc arcs) (c / 8) to i j
arcs-more arcs c to i j lt none = (
  (λ arc. elim (cases_eq arc.0 c) [
    | inl q ↦
        let here : Some to ≡ Some j = sym (get_or-set_same arcs c (Some to) None lt) ∙ ap (λ (k : ℕ). arc_at (slice_set arcs c (Some to)) k) (sym q) ∙ arc.2 in
        let end : to ≡ j = cc in
        inr (sym arc.1 ∙ ap (λ (k : ℕ). k / 8) q, sym end)
    | inr ne ↦ inl (arc.0, arc.1, sym (get_or-set_other arcs c arc.0 (Some to) None ne) ∙ arc.2)
  ]),
  (λ s. elim s [
    | inl old ↦
        let ne : old.0 ≢ c = λ q. absurd (none-some j (sym none ∙ ap (λ (k : ℕ). arc_at arcs k) (sym q) ∙ old.2)) in
        (old.0, old.1, get_or-set_other arcs c old.0 (Some to) None ne ∙ old.2)
    | inr new ↦ (c, sym new.0, get_or-set_same arcs c (Some to) None lt ∙ ap (λ (k : ℕ). Some k) (sym new.1))
  ]),
)

-- where the arc of the cell leads that got one
pub set-end : (arcs : List (Option ℕ)) (c to d j : ℕ) → c < length arcs → d ≡ c → arc_at (slice_set arcs c (Some to)) d ≡ Some j → to ≡ j
set-end arcs c to d j lt q arc =
    let here : Some to ≡ Some j = sym (get_or-set_same arcs c (Some to) None lt) ∙ ap (λ (k : ℕ). arc_at (slice_set arcs c (Some to)) k) (sym q) ∙ arc in
    cc

-- what is in a list after a push was in it, or is what was pushed
pushed-was : (ib ic : Lists) (n c m k : ℕ) → IsPushed ib n c ic → IsTrue (is_among k (list_at ic.lists m)) → IsTrue (is_among k (list_at ib.lists m)) ⊎ ((k ≡ c) × (m ≡ n))
pushed-was ib ic n c m k push t = elim (cases_eq m n) [
  | inl q ↦ elim (or_cases (k == c) (is_among k (list_at ib.lists n)) (subst (λ (ys : List ℕ). IsTrue (is_among k ys)) (ap (λ (j : ℕ). list_at ic.lists j) q ∙ push.here) t)) [
    | inl e ↦ inr (eqb-true k c e, q)
    | inr r ↦ inl (subst (λ (j : ℕ). IsTrue (is_among k (list_at ib.lists j))) (sym q) r)
  ]
  | inr ne ↦ inl (subst (λ (ys : List ℕ). IsTrue (is_among k ys)) (push.others m ne) t)
]

-- the tables after the merge and the arc
pub into-more : (arcs : List (Option ℕ)) (old new : List ℕ) (ia ib ic : Lists) (name : ℕ → ℕ) (c to : ℕ) → c < length arcs → arc_at arcs c ≡ None → IsFree ib.lists c → AreInto arcs old ia → ((i : ℕ) → node_at new i ≡ name (node_at old i)) → AreMoved name ia ib → IsPushed ib (node_at new to) c ic →
    AreInto (slice_set arcs c (Some to)) new ic
into-more arcs old new ia ib ic name c to lt none free are at moved push =
    let set = slice_set arcs c (Some to) in
    let stays : (m k : ℕ) → IsTrue (is_among k (list_at ib.lists m)) → IsTrue (is_among k (list_at ic.lists m)) = λ m k t. elim (cases_eq m (node_at new to)) [
      | inl q ↦ subst (λ (ys : List ℕ). IsTrue (is_among k ys)) (sym (ap (λ (j : ℕ). list_at ic.lists j) q ∙ push.here)) (or_right (k == c) _ (subst (λ (j : ℕ). IsTrue (is_among k (list_at ib.lists j))) q t))
      | inr ne ↦ subst (λ (ys : List ℕ). IsTrue (is_among k ys)) (sym (push.others m ne)) t
    ] in
    record {
      there = λ d j arc out. elim (cases_eq d c) [
        | inl q ↦
            let end : to ≡ j = set-end arcs c to d j lt q arc in
            subst (λ (k : ℕ). IsTrue (is_among d (list_at ic.lists (node_at new k)))) end
            (subst (λ (ys : List ℕ). IsTrue (is_among d ys)) (sym push.here) (or_left (d == c) _ (eq-eqb d c q)))
        | inr ne ↦
            let old_arc : arc_at arcs d ≡ Some j = sym (get_or-set_other arcs c d (Some to) None ne) ∙ arc in
            let old_out : node_at old (d / 8) ≡ node_at old j → ⊥ = λ e. out (at (d / 8) ∙ ap name e ∙ sym (at j)) in
            stays (node_at new j) d (subst (λ (m : ℕ). IsTrue (is_among d (list_at ib.lists m))) (sym (at j)) (moved.there (node_at old j) d (are.there d j old_arc old_out)))
      ];
      only = λ m d t. elim (pushed-was ib ic (node_at new to) c m d push t) [
        | inl r ↦
            let b = moved.only m d r in
            let a = are.only b.0 d b.1 in
            let ne : d ≢ c = λ q. absurd (free m (subst (λ (k : ℕ). IsTrue (is_among k (list_at ib.lists m))) q r)) in
            (omega (arith, a.0, length-set arcs c (Some to)), λ j arc. at j ∙ ap name (a.1 j (sym (get_or-set_other arcs c d (Some to) None ne) ∙ arc)) ∙ b.2)
        | inr e ↦ (
          omega (arith, e.0, lt, length-set arcs c (Some to)),
          (λ j arc. ap (λ (k : ℕ). node_at new k) (sym (set-end arcs c to d j lt e.0 arc)) ∙ sym e.1),
        )
      ];
    }

way-below : (arcs : List (Option ℕ)) (node : List ℕ) (held : List Bool) (name : List ℕ) (members into : Lists) (v ws n : ℕ) (ns : List ℕ) → IsKept arcs node held name members into → ws < length node → AreOnWay arcs node v (node_at node ws) ns → IsTrue (is_among n ns) → n < length node
way-below arcs node held name members into v ws n ns kept low way t =
    let s = way-slot arcs node v (node_at node ws) n ns way t in
    omega (arith, kept.range.nodes s.0 s.1, s.2)

-- the names are those of all numbers, also past the end
pub names-all : (arcs : List (Option ℕ)) (old new : List ℕ) (held : List Bool) (name : List ℕ) (members into : Lists) (v ws one : ℕ) (ns : List ℕ) → IsKept arcs old held name members into → ws < length old → AreOnWay arcs old v (node_at old ws) ns → length new ≡ length old →
    ((i : ℕ) → i < length old → node_at new i ≡ gathered ns one (node_at old i)) → (i : ℕ) → node_at new i ≡ gathered ns one (node_at old i)
names-all arcs old new held name members into v ws one ns kept low way size at i = elim (cases_lt i (length old)) [
  | inl lt ↦ at i lt
  | inr ge ↦
      let past_old : node_at old i ≡ i = get_or-eq_default old i ge in
      let past_new : node_at new i ≡ i = get_or-eq_default new i (omega (arith, ge, size)) in
      let out : IsFalse (is_among (node_at old i) ns) = false_from_ne_true _ (λ t.
      let r = way-below arcs old held name members into v ws (node_at old i) ns kept low way t in
      omega (arith, r, past_old, ge)) in
      past_new ∙ sym past_old ∙ sym (cond-false (is_among (node_at old i) ns) one (node_at old i) out)
]

pub slot-of : (c n : ℕ) → c < 8 * n → c / 8 < n
slot-of c n lt = omega (arith, lt)

-- a cell without an arc whose slot is held is in no list
pub cell-free : (arcs : List (Option ℕ)) (held : List Bool) (ia ib : Lists) (name : ℕ → ℕ) (c : ℕ) → arc_at arcs c ≡ None → IsTrue (held_at held (c / 8)) → AreLost arcs held ia → AreMoved name ia ib → IsFree ib.lists c
cell-free arcs held ia ib name c none holds lost moved m t =
    let b = moved.only m c t in
    both_ways _ (lost b.0 c b.1 none) holds

named-below : (ns : List ℕ) (one m end : ℕ) → (IsTrue (is_among m ns) → one < end) → m < end → gathered ns one m < end
named-below ns one m end low lm = elim (cases_Bool (is_among m ns)) [
  | inl t ↦ omega (arith, cond-true (is_among m ns) one m t, low t)
  | inr f ↦ omega (arith, cond-false (is_among m ns) one m f, lm)
]

-- what all on the way are merged into is below the end
one-below : (arcs : List (Option ℕ)) (node : List ℕ) (held : List Bool) (name : List ℕ) (members into : Lists) (v ws one m : ℕ) (ns : List ℕ) → IsKept arcs node held name members into → ws < length node → AreOnWay arcs node v (node_at node ws) ns → (ns ≡ []) ⊎ IsTrue (is_among one ns) → IsTrue (is_among m ns) → one < length node
one-below arcs node held name members into v ws one m ns kept low way is t = elim is [
  | inl e ↦ absurd (both_ways _ refl (subst (λ (xs : List ℕ). IsTrue (is_among m xs)) e t))
  | inr u ↦ way-below arcs node held name members into v ws one ns kept low way u
]

-- a list that is not that of the arc's end is as it was before the merge
pub list-was : (ns : List ℕ) (one w m k : ℕ) → (ns ≡ []) ⊎ IsTrue (is_among w ns) → (m ≡ gathered ns one w → ⊥) → gathered ns one k ≡ m → k ≡ m
list-was ns one w m k is off e = elim (cases_Bool (is_among k ns)) [
  | inl t ↦ elim is [
    | inl none ↦ absurd (both_ways _ refl (subst (λ (xs : List ℕ). IsTrue (is_among k xs)) none t))
    | inr held ↦ absurd (off (sym e ∙ cond-true (is_among k ns) one k t ∙ sym (cond-true (is_among w ns) one w held)))
  ]
  | inr f ↦ sym (cond-false (is_among k ns) one k f) ∙ e
]

-- where there is something in such a list, one of its arcs comes from another node
live-was : (arcs : List (Option ℕ)) (old new : List ℕ) (ia ib : Lists) (ns : List ℕ) (one c to m : ℕ) → AreInto arcs old ia → IsLive arcs old m ia → ((i : ℕ) → node_at new i ≡ gathered ns one (node_at old i)) → AreMoved (gathered ns one) ia ib →
    arc_at arcs c ≡ None → (ns ≡ []) ⊎ IsTrue (is_among (node_at old to) ns) → (m ≡ node_at new to → ⊥) → IsLive (slice_set arcs c (Some to)) new m ib
live-was arcs old new ia ib ns one c to m are live at moved none is off k t =
    let w = node_at old to in
    let off_w : m ≡ gathered ns one w → ⊥ = λ e. off (e ∙ sym (at to)) in
    let b = moved.only m k t in
    let from_m : b.0 ≡ m = list-was ns one w m b.0 is off_w b.2 in
    let d = live k (subst (λ (j : ℕ). IsTrue (is_among k (list_at ia.lists j))) from_m b.1) in
    let stays : gathered ns one m ≡ m = ap (λ (j : ℕ). gathered ns one j) (sym from_m) ∙ b.2 in
    let arc = some-of (arc_at arcs d.0) d.2.0 in
    let ne : d.0 ≢ c = λ q. absurd (none-some arc.0 (sym none ∙ ap (λ (j : ℕ). arc_at arcs j) (sym q) ∙ arc.1)) in
    let same : arc_at (slice_set arcs c (Some to)) d.0 ≡ Some arc.0 = get_or-set_other arcs c d.0 (Some to) None ne ∙ arc.1 in (
      d.0,
      subst (λ (j : ℕ). IsTrue (is_among d.0 (list_at ib.lists j))) stays (moved.there m d.0 d.1),
      (of-some (arc_at (slice_set arcs c (Some to)) d.0) arc.0 same, (λ e. d.2.1 (list-was ns one w m (node_at old (d.0 / 8)) is off_w (sym (at (d.0 / 8)) ∙ e)))),
    )

pub led-more : (arcs : List (Option ℕ)) (old new : List ℕ) (ia ib ic id : Lists) (ns : List ℕ) (one c to : ℕ) → c < length arcs → arc_at arcs c ≡ None → IsFree ib.lists c → AreLed arcs old ia → ((i : ℕ) → node_at new i ≡ gathered ns one (node_at old i)) → AreMoved (gathered ns one) ia ib →
    (ns ≡ []) ⊎ IsTrue (is_among (node_at old to) ns) → IsPushed ib (node_at new to) c ic → IsSettled (slice_set arcs c (Some to)) new (node_at new to) ic id → AreLed (slice_set arcs c (Some to)) new id
led-more arcs old new ia ib ic id ns one c to lt none free led at moved is push settle =
    let set = slice_set arcs c (Some to) in record {
      leads = settled-into set new (node_at new to) ic id (into-more arcs old new ia ib ic (gathered ns one) c to lt none free led.leads at moved push) settle;
      live = λ m. elim (cases_eq m (node_at new to)) [
        | inl q ↦ subst (λ (k : ℕ). IsLive set new k id) (sym q) settle.live
        | inr ne ↦
            let same : list_at id.lists m ≡ list_at ib.lists m = settle.others m ne ∙ push.others m ne in
            subst (λ (ys : List ℕ). (k : ℕ) → IsTrue (is_among k ys) → (d : ℕ) × IsTrue (is_among d ys) × IsFromOutside set new d m) (sym same)
            (live-was arcs old new ia ib ns one c to m led.leads (led.live m) at moved none is ne)
      ];
    }

lost-more : (arcs : List (Option ℕ)) (held : List Bool) (new : List ℕ) (ia ib ic id : Lists) (name : ℕ → ℕ) (c to n : ℕ) → c < length arcs → AreLost arcs held ia → AreMoved name ia ib → IsPushed ib n c ic → IsSettled (slice_set arcs c (Some to)) new n ic id → AreLost (slice_set arcs c (Some to)) held id
lost-more arcs held new ia ib ic id name c to n lt lost moved push settle m k t gone =
    let set = slice_set arcs c (Some to) in
    elim (cases_eq k c) [
      | inl q ↦ absurd (none-some to (sym gone ∙ ap (λ (j : ℕ). arc_at set j) q ∙ get_or-set_same arcs c (Some to) None lt))
      | inr ne ↦
          let was : arc_at arcs k ≡ None = sym (get_or-set_other arcs c k (Some to) None ne) ∙ gone in
          elim (pushed-was ib ic n c m k push (settled-fewer set new n ic id m k settle t)) [
            | inl r ↦ let b = moved.only m k r in lost b.0 k b.1 was
            | inr e ↦ absurd (ne e.0)
          ]
    ]

-- each node is still stood for by a slot of its own
own-more : (arcs : List (Option ℕ)) (old new : List ℕ) (held : List Bool) (name : List ℕ) (members into : Lists) (v to one : ℕ) (ns : List ℕ) → IsKept arcs old held name members into → to < length old → AreOnWay arcs old v (node_at old to) ns → (ns ≡ []) ⊎ IsTrue (is_among one ns) →
    ((i : ℕ) → node_at new i ≡ gathered ns one (node_at old i)) → AreOwn new
own-more arcs old new held name members into v to one ns kept low way is at i = elim (cases_Bool (is_among (node_at old i) ns)) [
  | inl t ↦
      let held_one : IsTrue (is_among one ns) = elim is [ inl e ↦ absurd (both_ways _ refl (subst (λ (xs : List ℕ). IsTrue (is_among (node_at old i) xs)) e t)) | inr u ↦ u ] in
      let slot = way-slot arcs old v (node_at old to) one ns way held_one in
      let own_one : node_at old one ≡ one = ap (λ (k : ℕ). node_at old k) (sym slot.2) ∙ kept.own slot.0 ∙ slot.2 in
      let here : node_at new i ≡ one = at i ∙ cond-true (is_among (node_at old i) ns) one (node_at old i) t in
      ap (λ (k : ℕ). node_at new k) here ∙ at one ∙ ap (λ (k : ℕ). gathered ns one k) own_one ∙ cond-true (is_among one ns) one one held_one ∙ sym here
  | inr f ↦
      let here : node_at new i ≡ node_at old i = at i ∙ cond-false (is_among (node_at old i) ns) one (node_at old i) f in
      ap (λ (k : ℕ). node_at new k) here ∙ at (node_at old i) ∙ ap (λ (k : ℕ). gathered ns one k) (kept.own i) ∙ cond-false (is_among (node_at old i) ns) one (node_at old i) f ∙ sym here
]

-- the names after the merge
named-more : (arcs : List (Option ℕ)) (old new : List ℕ) (held : List Bool) (name names : Naming) (members into : Lists) (v to one : ℕ) (ns : List ℕ) → IsKept arcs old held name.name members into → to < length old → AreOnWay arcs old v (node_at old to) ns → (ns ≡ []) ⊎ IsTrue (is_among one ns) →
    AreNamesMerged ns one name names → ((i : ℕ) → node_at new i ≡ gathered ns one (node_at old i)) → AreNamed new names.name
named-more arcs old new held name names members into v to one ns kept low way is are at =
    let held_one : (i : ℕ) → IsTrue (is_among (node_at old i) ns) → IsTrue (is_among one ns) = λ i t. elim is [ inl e ↦ absurd (both_ways _ refl (subst (λ (xs : List ℕ). IsTrue (is_among (node_at old i) xs)) e t)) | inr u ↦ u ] in
    let here : (i : ℕ) → IsTrue (is_among (node_at old i) ns) → node_at new i ≡ one = λ i t. at i ∙ cond-true (is_among (node_at old i) ns) one (node_at old i) t in
    let stay : (i : ℕ) → IsFalse (is_among (node_at old i) ns) → node_at new i ≡ node_at old i = λ i f. at i ∙ cond-false (is_among (node_at old i) ns) one (node_at old i) f in
    let same : (i : ℕ) → IsFalse (is_among (node_at old i) ns) → name_at names.name (node_at new i) ≡ name_at name.name (node_at old i) = λ i f. ap (λ (k : ℕ). name_at names.name k) (stay i f) ∙ are.rest (node_at old i) (λ t. both_ways _ f t) in
    record {
      least = λ i. elim (cases_Bool (is_among (node_at old i) ns)) [
        | inl t ↦ omega (arith, ap (λ (k : ℕ). name_at names.name k) (here i t), are.least (node_at old i) t, kept.named.least i)
        | inr f ↦ omega (arith, same i f, kept.named.least i)
      ];
      member = λ i. elim (cases_Bool (is_among (node_at old i) ns)) [
        | inl t ↦
            let from = are.from (held_one i t) in
            let slot = way-slot arcs old v (node_at old to) from.0 ns way from.1 in
            let was : node_at old (name_at name.name from.0) ≡ from.0 = ap (λ (k : ℕ). node_at old (name_at name.name k)) (sym slot.2) ∙ kept.named.member slot.0 ∙ slot.2 in
            let name_is : name_at names.name (node_at new i) ≡ name_at name.name from.0 = ap (λ (k : ℕ). name_at names.name k) (here i t) ∙ from.2 in
            ap (λ (k : ℕ). node_at new k) name_is ∙ at (name_at name.name from.0) ∙ ap (λ (k : ℕ). gathered ns one k) was ∙ cond-true (is_among from.0 ns) one from.0 from.1 ∙ sym (here i t)
        | inr f ↦
            let was : node_at old (name_at name.name (node_at old i)) ≡ node_at old i = kept.named.member i in
            ap (λ (k : ℕ). node_at new k) (same i f) ∙ at (name_at name.name (node_at old i)) ∙ ap (λ (k : ℕ). gathered ns one k) was ∙ cond-false (is_among (node_at old i) ns) one (node_at old i) f ∙ sym (stay i f)
      ];
    }

pub kept-inserted : (arcs : List (Option ℕ)) (old new : List ℕ) (held : List Bool) (name names : Naming) (ma mb ia ib ic id : Lists) (c to : ℕ) → IsKept arcs old held name.name ma ia → c < length arcs → arc_at arcs c ≡ None → IsTrue (held_at held (c / 8)) → to < length old →
    AreJoined arcs (node_at old (c / 8)) (node_at old to) old new name names ma mb ia ib → IsPushed ib (node_at new to) c ic → IsSettled (slice_set arcs c (Some to)) new (node_at new to) ic id → IsKept (slice_set arcs c (Some to)) new held names.name mb id
kept-inserted arcs old new held name names ma mb ia ib ic id c to kept lt none holds low join push settle =
    let ns = join.0 in
    let way = join.1 in
    let one = join.2.0 in
    let is = join.2.1 in
    let named = join.2.2 in
    let are = join.2.3 in
    let at = names-all arcs old new held name.name ma ia (node_at old (c / 8)) to one ns kept low way are.size are.node in
    let set = slice_set arcs c (Some to) in
    let free = cell-free arcs held ia ib (gathered ns one) c none holds kept.lost are.into in
    let end_in = way-end arcs old (node_at old (c / 8)) (node_at old to) ns way in
    record {
      nodes = nodes-iff (with_arc (IsArc arcs) (c / 8) to) (IsArc set) (node_at new) (λ i j. arcs-more arcs c to i j lt none) (nodes-joined arcs old new (c / 8) to one ns kept.nodes way is at);
      own = own-more arcs old new held name.name ma ia (node_at old (c / 8)) to one ns kept low way is at;
      filed = are.filed;
      named = named-more arcs old new held name names ma ia (node_at old (c / 8)) to one ns kept low way is named at;
      led = led-more arcs old new ia ib ic id ns one c to lt none free kept.led at are.into end_in push settle;
      lost = lost-more arcs held new ia ib ic id (gathered ns one) c to (node_at new to) lt kept.lost are.into push settle;
      range = record {
        cells = length-set arcs c (Some to) ∙ kept.range.cells ∙ ap (λ (n : ℕ). 8 * n) (sym are.size);
        ends = λ d j arc. elim (cases_eq d c) [
          | inl q ↦ let end : to ≡ j = set-end arcs c to d j lt q arc in omega (arith, end, low, are.size)
          | inr ne ↦ omega (arith, kept.range.ends d j (sym (get_or-set_other arcs c d (Some to) None ne) ∙ arc), are.size)
        ];
        nodes = λ i li.
            let li_old : i < length old = omega (arith, li, are.size) in
            let r = named-below ns one (node_at old i) (length old) (one-below arcs old held name.name ma ia (node_at old (c / 8)) to one (node_at old i) ns kept low way is) (kept.range.nodes i li_old) in
            omega (arith, r, are.node i li_old, are.size);
        holds = kept.range.holds ∙ sym are.size;
        names = named.size ∙ kept.range.names ∙ sym are.size;
        member_lists = are.members.lists ∙ kept.range.member_lists ∙ sym are.size;
        into_lists = settle.same.lists ∙ push.same.lists ∙ are.into.same.lists ∙ kept.range.into_lists ∙ sym are.size;
        member_items = are.members.items ∙ kept.range.member_items ∙ sym are.size;
        into_items = settle.same.items ∙ push.same.items ∙ are.into.same.items ∙ kept.range.into_items ∙ sym (length-set arcs c (Some to));
        small = omega (arith, are.size, kept.range.small);
      };
    }

no-walk : (i j : ℕ) → Walk (IsArc []) i j → i ≡ j
no-walk i j Here = refl
no-walk i j (Then m q walk arc) = absurd (none-some q arc.2)

pub kept-none : (name : List ℕ) (members into : Lists) → name ≡ [] → members.lists ≡ [] → into.lists ≡ [] → members.items ≡ 0 → into.items ≡ 0 → IsKept [] [] [] name members into
kept-none name members into n e f g h =
    let no : (ls : List (List ℕ)) (m k : ℕ) → ls ≡ [] → IsTrue (is_among k (list_at ls m)) → ⊥ = λ ls m k q t. both_ways _ refl (subst (λ (xs : List (List ℕ)). IsTrue (is_among k (list_at xs m))) q t) in
    let names : (i : ℕ) → name_at name i ≡ i = λ i. ap (λ (xs : List ℕ). name_at xs i) n in
    record {
      nodes = λ i j. (
        (λ same. subst (λ (k : ℕ). Joined (IsArc []) i k) same (Here, Here)),
        (λ joined. no-walk i j joined.0),
      );
      own = λ i. refl;
      filed = record { there = λ i lt. absurd (omega arith); only = λ m i t. absurd (no members.lists m i e t) };
      named = record { least = λ i. omega (arith, names i); member = λ i. names i };
      led = record {
        leads = record { there = λ c j arc. absurd (none-some j arc); only = λ m c t. absurd (no into.lists m c f t) };
        live = λ m c t. absurd (no into.lists m c f t);
      };
      lost = λ m c t. absurd (no into.lists m c f t);
      range = record {
        cells = refl;
        ends = λ c j arc. absurd (none-some j arc);
        nodes = λ i lt. absurd (omega arith);
        holds = refl;
        names = ap length n;
        member_lists = ap length e;
        into_lists = ap length f;
        member_items = g;
        into_items = h;
        small = omega arith;
      };
    }

-- what is read of a slot's node
pub value-at : (node : List ℕ) (i x : ℕ) → i < length node → x ≡ slice_index_or node i x → x ≡ node_at node i
value-at node i x lt e = e ∙ get_or_default node i x i lt

pub slot-in : (c n cells : ℕ) → cells ≡ 8 * n → c < cells → c / 8 < n
slot-in c n cells e lt = slot-of c n (omega (arith, e, lt))

-- the nodes on the way were found, and made one
abbrev pub joined-at : (arcs a : List (Option ℕ)) (old n o : List ℕ) (x v y w : ℕ) (ns new : List ℕ) (name names : Naming) (ma mb ia ib : Lists) → a ≡ arcs → n ≡ old → o ≡ old → x ≡ v → y ≡ w → AreOnWay a n x y ns → AreGathered ns o new name names ma mb ia ib → AreJoined arcs v w old new name names ma mb ia ib
joined-at arcs a old n o x v y w ns new name names ma mb ia ib ea en eo ev ew way gathered = (
  ns,
  subst (λ (k : ℕ). AreOnWay arcs old v k ns) ew
      (subst (λ (k : ℕ). AreOnWay arcs old k y ns) ev
      (subst (λ (xs : List ℕ). AreOnWay arcs xs x y ns) en
      (subst (λ (xs : List (Option ℕ)). AreOnWay xs n x y ns) ea way))),
  subst (λ (xs : List ℕ). AreGathered ns xs new name names ma mb ia ib) eo gathered,
)

pub joined-below : (arcs : List (Option ℕ)) (old new : List ℕ) (held : List Bool) (name names : Naming) (ma mb ia ib : Lists) (v to : ℕ) → IsKept arcs old held name.name ma ia → to < length old → AreJoined arcs v (node_at old to) old new name names ma mb ia ib → node_at new to < length ib.lists
joined-below arcs old new held name names ma mb ia ib v to kept low join =
    let r = named-below join.0 join.2.0 (node_at old to) (length old) (one-below arcs old held name.name ma ia v to join.2.0 (node_at old to) join.0 kept low join.1 join.2.1) (kept.range.nodes to low) in
    omega (arith, r, join.2.3.node to low, join.2.3.into.same.lists, kept.range.into_lists)

-- the cells of a list are there
pub led-cells : (arcs : List (Option ℕ)) (node : List ℕ) (into : Lists) (n : ℕ) → length arcs ≡ 8 * length node → AreInto arcs node into → AreCells arcs node (list_at into.lists n)
led-cells arcs node into n size are c t = let lt = (are.only n c t).0 in (lt, slot-of c (length node) (omega (arith, lt, size)))

-- the cells are there after the cell got its arc
pub pushed-cells : (arcs : List (Option ℕ)) (old new : List ℕ) (held : List Bool) (name names : Naming) (ma mb ia ib ic : Lists) (c to m : ℕ) → IsKept arcs old held name.name ma ia → c < length arcs → arc_at arcs c ≡ None → IsTrue (held_at held (c / 8)) → to < length old →
    AreJoined arcs (node_at old (c / 8)) (node_at old to) old new name names ma mb ia ib → IsPushed ib (node_at new to) c ic → AreCells (slice_set arcs c (Some to)) new (list_at ic.lists m)
pushed-cells arcs old new held name names ma mb ia ib ic c to m kept lt none holds low join push =
    let ns = join.0 in
    let one = join.2.0 in
    let are = join.2.3 in
    let at = names-all arcs old new held name.name ma ia (node_at old (c / 8)) to one ns kept low join.1 are.size are.node in
    let free = cell-free arcs held ia ib (gathered ns one) c none holds kept.lost are.into in
    led-cells (slice_set arcs c (Some to)) new ic m (length-set arcs c (Some to) ∙ kept.range.cells ∙ ap (λ (n : ℕ). 8 * n) (sym are.size)) (into-more arcs old new ia ib ic (gathered ns one) c to lt none free kept.led.leads at are.into push)
