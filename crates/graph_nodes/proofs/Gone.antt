-- The graph without the slots of a minimal node.
use Rattle.std.proofs.Common.{◌≡◌, ◌∙◌, ap, sym, subst, ℕ, ◌*◌, ◌/◌, ◌<◌, List, length, refl, arith, inl, inr}
use Rattle.std.specs.Prelude.{IsTrue, IsFalse, ◌↔◌, Bool, Option, Some}
use Rattle.std.proofs.lemmas.Bool.{cases_lt, cases_Bool, both_ways, false_from_ne_true}
use Rattle.std.proofs.Math.ListN.{get_or-eq_default}
use Rattle.oper_core.specs.State.{is_among}
use Rattle.install_order.specs.Digraph.{Walk, Joined, AreNodes, outside}
use Rattle.install_order.specs.Digraph.Walk.{Here, Then}
use Rattle.install_order.specs.RemovalLaws.{nodes-left}
use Rattle.number_lists.specs.Lists.{Lists, list_at, AreAsMany}
use Rattle.graph_nodes.specs.Arcs.{arc_at, node_at, name_at, IsArc}
use Rattle.graph_nodes.specs.Merge.{IsFiled}
use Rattle.graph_nodes.specs.Into.{AreLed, AreLost, AreCleared}
use Rattle.graph_nodes.specs.Named.{Graph, IsMinimal, AreNamed}
use Rattle.graph_nodes.specs.Removed.{AreReleased, AreAlone, IsRemoved}
use Rattle.graph_nodes.specs.Kept.{AreOwn, IsKept}
use Rattle.graph_nodes.proofs.Options.{none-some, some-of}
use Rattle.graph_nodes.proofs.Cleared.{arc-was}

-- what is known of the slots, which are those of the node n
pub record AreOfNode (arcs : List (Option ℕ)) (node : List ℕ) (n : ℕ) (slots : List ℕ) : Type 0 where
  pub there : (i : ℕ) → node_at node i ≡ n → IsTrue (is_among i slots)
  pub only : (i : ℕ) → IsTrue (is_among i slots) → node_at node i ≡ n
  pub minimal : IsMinimal arcs node n

pub of-node : (arcs : List (Option ℕ)) (node : List ℕ) (n : ℕ) (slots : List ℕ) (members : Lists) → IsFiled node members → n < length node → slots ≡ list_at members.lists n → IsMinimal arcs node n → AreOfNode arcs node n slots
of-node arcs node n slots members filed low e minimal = record {
  there = λ i at. elim (cases_lt i (length node)) [
    | inl lt ↦ subst (λ (xs : List ℕ). IsTrue (is_among i xs)) (sym e) (subst (λ (k : ℕ). IsTrue (is_among i (list_at members.lists k))) at (filed.there i lt))
    | inr ge ↦ absurd (omega (arith, ge, low, at, get_or-eq_default node i ge))
  ];
  only = λ i t. (filed.only n i (subst (λ (xs : List ℕ). IsTrue (is_among i xs)) e t)).1;
  minimal = minimal;
}

module _ (arcs left : List (Option ℕ)) (old new : List ℕ) (n : ℕ) (slots : List ℕ) (into led_into : Lists) (are : AreOfNode arcs old n slots) (clear : AreCleared (λ c. IsTrue (is_among (c / 8) slots)) arcs left into led_into) (alone : AreAlone slots old new) where
  -- an arc that is left starts outside the node
  pub start-out : (c j : ℕ) → arc_at left c ≡ Some j → IsTrue (is_among (c / 8) slots) → ⊥
  start-out c j arc t = none-some j (sym (clear.done c t) ∙ arc)

  -- and ends outside it
  pub end-out : (c j : ℕ) → arc_at left c ≡ Some j → IsTrue (is_among j slots) → ⊥
  end-out c j arc t =
      let was = arc-was (λ k. IsTrue (is_among (k / 8) slots)) arcs left into led_into c j clear arc in
      start-out c j arc (are.there (c / 8) (are.minimal (c / 8) j (c, refl, was) (are.only j t)))

  -- the arcs that are left are those that start outside
  arcs-left : (i j : ℕ) → IsArc left i j ↔ outside (λ k. is_among k slots) (IsArc arcs) i j
  arcs-left i j = (
    (λ arc. (
      false_from_ne_true _ (λ t. start-out arc.0 j arc.2 (subst (λ (k : ℕ). IsTrue (is_among k slots)) (sym arc.1) t)),
      (arc.0, arc.1, arc-was (λ k. IsTrue (is_among (k / 8) slots)) arcs left into led_into arc.0 j clear arc.2),
    )),
    (λ both. (
      both.1.0,
      both.1.1,
      elim (clear.rest both.1.0) [
        | inl same ↦ same ∙ both.1.2
        | inr t ↦ absurd (both_ways _ both.0 (subst (λ (k : ℕ). IsTrue (is_among k slots)) both.1.1 t))
      ],
    )),
  )

  -- no walk leads away from a slot of the node
  no-way : (i p : ℕ) → IsTrue (is_among i slots) → Walk (IsArc left) i p → p ≡ i
  no-way i p t Here = refl
  no-way i p t (Then m q walk arc) =
      let at = no-way i m t walk in
      absurd (start-out arc.0 q arc.2 (subst (λ (k : ℕ). IsTrue (is_among k slots)) (sym (arc.1 ∙ at)) t))

  walk-as : (E F : ℕ → ℕ → Type 0) (i j : ℕ) → ((i j : ℕ) → E i j → F i j) → Walk E i j → Walk F i j
  walk-as E F i j same Here = Here
  walk-as E F i j same (Then m q walk arc) = Then m q (walk-as E F i m same walk) (same m q arc)

  stays : (i : ℕ) → IsFalse (is_among i slots) → node_at new i ≡ node_at old i
  stays i f = alone.rest i (λ t. both_ways _ f t)

  -- a slot outside is stood for by another outside
  out-own : (i : ℕ) → AreOwn old → IsFalse (is_among i slots) → IsFalse (is_among (node_at old i) slots)
  out-own i own f = false_from_ne_true _ (λ t. both_ways _ f (are.there i (sym (own i) ∙ are.only (node_at old i) t)))

  nodes-gone : AreOwn old → AreNodes (IsArc arcs) (node_at old) → AreNodes (IsArc left) (node_at new)
  nodes-gone own nodes i j = elim (cases_Bool (is_among i slots)) [
    | inl ti ↦ elim (cases_Bool (is_among j slots)) [
      | inl tj ↦ (
        (λ e. subst (λ (k : ℕ). Joined (IsArc left) i k) (sym (alone.done i ti) ∙ e ∙ alone.done j tj) (Here, Here)),
        (λ joined. ap (λ (k : ℕ). node_at new k) (sym (no-way i j ti joined.0))),
      )
      | inr fj ↦ (
        (λ e. absurd (both_ways _ (out-own j own fj) (subst (λ (k : ℕ). IsTrue (is_among k slots)) (sym (alone.done i ti) ∙ e ∙ stays j fj) ti))),
        (λ joined. ap (λ (k : ℕ). node_at new k) (sym (no-way i j ti joined.0))),
      )
    ]
    | inr fi ↦ elim (cases_Bool (is_among j slots)) [
      | inl tj ↦ (
        (λ e. absurd (both_ways _ (out-own i own fi) (subst (λ (k : ℕ). IsTrue (is_among k slots)) (sym (alone.done j tj) ∙ sym e ∙ stays i fi) tj))),
        (λ joined. ap (λ (k : ℕ). node_at new k) (no-way j i tj joined.1)),
      )
      | inr fj ↦
          let E = outside (λ k. is_among k slots) (IsArc arcs) in
          let law = nodes-left (IsArc arcs) (node_at old) (λ k. is_among k slots) i j nodes (λ o p arc t. are.there o (are.minimal o p arc (are.only p t))) fi fj in (
            (λ e. let both = law.0 (sym (stays i fi) ∙ e ∙ stays j fj) in (walk-as E (IsArc left) i j (λ k l. (arcs-left k l).1) both.0, walk-as E (IsArc left) j i (λ k l. (arcs-left k l).1) both.1)),
            (λ joined. stays i fi ∙ law.1 (walk-as (IsArc left) E i j (λ k l. (arcs-left k l).0) joined.0, walk-as (IsArc left) E j i (λ k l. (arcs-left k l).0) joined.1) ∙ sym (stays j fj)),
          )
    ]
  ]

  own-gone : AreOwn old → AreOwn new
  own-gone own i = elim (cases_Bool (is_among i slots)) [
    | inl t ↦ ap (λ (k : ℕ). node_at new k) (alone.done i t)
    | inr f ↦ ap (λ (k : ℕ). node_at new k) (stays i f) ∙ stays (node_at old i) (out-own i own f) ∙ own i ∙ sym (stays i f)
  ]

  named-gone : (name names : List ℕ) → AreOwn old → AreNamed old name → AreAlone slots name names → AreNamed new names
  named-gone name names own named rest =
      let at : (i : ℕ) → IsFalse (is_among i slots) → name_at names (node_at new i) ≡ name_at name (node_at old i) = λ i f. ap (λ (k : ℕ). name_at names k) (stays i f) ∙ rest.rest (node_at old i) (λ t. both_ways _ (out-own i own f) t) in
      let self : (i : ℕ) → IsTrue (is_among i slots) → name_at names (node_at new i) ≡ i = λ i t. ap (λ (k : ℕ). name_at names k) (alone.done i t) ∙ rest.done i t in
      record {
        least = λ i. elim (cases_Bool (is_among i slots)) [
          | inl t ↦ omega (arith, self i t)
          | inr f ↦ omega (arith, at i f, named.least i)
        ];
        member = λ i. elim (cases_Bool (is_among i slots)) [
          | inl t ↦ ap (λ (k : ℕ). node_at new k) (self i t)
          | inr f ↦
              let m = name_at name (node_at old i) in
              let out : IsFalse (is_among m slots) = false_from_ne_true _ (λ t. both_ways _ f (are.there i (sym (named.member i) ∙ are.only m t))) in
              ap (λ (k : ℕ). node_at new k) (at i f) ∙ stays m out ∙ named.member i ∙ sym (stays i f)
        ];
      }

  led-gone : AreLed left old led_into → AreLed left new led_into
  led-gone led =
      let begins : (c j : ℕ) → arc_at left c ≡ Some j → node_at new (c / 8) ≡ node_at old (c / 8) = λ c j arc. alone.rest (c / 8) (start-out c j arc) in
      let ends : (c j : ℕ) → arc_at left c ≡ Some j → node_at new j ≡ node_at old j = λ c j arc. alone.rest j (end-out c j arc) in
      record {
        leads = record {
          there = λ c j arc out. subst (λ (k : ℕ). IsTrue (is_among c (list_at led_into.lists k))) (sym (ends c j arc)) (led.leads.there c j arc (λ e. out (begins c j arc ∙ e ∙ sym (ends c j arc))));
          only = λ m c t. let r = led.leads.only m c t in (r.0, λ j arc. ends c j arc ∙ r.1 j arc);
        };
        live = λ m c t.
            let d = led.live m c t in
            let arc = some-of (arc_at left d.0) d.2.0 in
            (d.0, d.1, (d.2.0, λ e. d.2.1 (sym (begins d.0 arc.0 arc.1) ∙ e)));
      }

  lost-gone : (held holds : List Bool) → AreLost arcs held into → AreReleased slots held holds → AreLost left holds led_into
  lost-gone held holds lost rel m c t none = elim (cases_Bool (is_among (c / 8) slots)) [
    | inl u ↦ rel.done (c / 8) u
    | inr f ↦
        let same : arc_at left c ≡ arc_at arcs c = elim (clear.rest c) [ inl s ↦ s | inr u ↦ absurd (both_ways _ f u) ] in
        rel.rest (c / 8) (λ u. both_ways _ f u) ∙ lost m c (clear.fewer m c t) (sym same ∙ none)
  ]

  pub kept-gone : (held holds : List Bool) (name names : List ℕ) (members scattered : Lists) → IsKept arcs old held name members into → AreReleased slots held holds → AreLed left old led_into → AreAlone slots name names → IsFiled new scattered → AreAsMany members scattered →
      IsKept left new holds names scattered led_into
  kept-gone held holds name names members scattered kept rel led named filed same = record {
    nodes = nodes-gone kept.own kept.nodes;
    own = own-gone kept.own;
    filed = filed;
    named = named-gone name names kept.own kept.named named;
    led = led-gone led;
    lost = lost-gone held holds kept.lost rel;
    range = record {
      cells = clear.size ∙ kept.range.cells ∙ ap (λ (k : ℕ). 8 * k) (sym alone.size);
      ends = λ c j arc. omega (arith, kept.range.ends c j (arc-was (λ k. IsTrue (is_among (k / 8) slots)) arcs left into led_into c j clear arc), alone.size);
      nodes = λ i lt. elim (cases_Bool (is_among i slots)) [
        | inl t ↦ omega (arith, alone.done i t, lt)
        | inr f ↦ omega (arith, stays i f, kept.range.nodes i (omega (arith, lt, alone.size)), alone.size)
      ];
      holds = rel.size ∙ kept.range.holds ∙ sym alone.size;
      names = named.size ∙ kept.range.names ∙ sym alone.size;
      member_lists = same.lists ∙ kept.range.member_lists ∙ sym alone.size;
      into_lists = clear.same.lists ∙ kept.range.into_lists ∙ sym alone.size;
      member_items = same.items ∙ kept.range.member_items ∙ sym alone.size;
      into_items = clear.same.items ∙ kept.range.into_items ∙ sym clear.size;
      small = omega (arith, alone.size, kept.range.small);
    };
  }

  pub removed-gone : (held holds : List Bool) (room : ℕ) → AreReleased slots held holds → IsRemoved record { arcs = arcs; node = old; held = held; room = room } n record { arcs = left; node = new; held = holds; room = room }
  removed-gone held holds room rel = record {
    arcs_gone = λ c e. clear.done c (are.there (c / 8) e);
    arcs_left = λ c ne. elim (clear.rest c) [ inl same ↦ same | inr t ↦ absurd (ne (are.only (c / 8) t)) ];
    held_gone = λ i e. rel.done i (are.there i e);
    held_left = λ i ne. rel.rest i (λ t. ne (are.only i t));
    node_gone = λ i e. alone.done i (are.there i e);
    node_left = λ i ne. alone.rest i (λ t. ne (are.only i t));
    cells = clear.size;
    slots = alone.size;
    room = refl;
  }

-- the same, with other names for the lists
pub released-as : (s t : List ℕ) (o p new : List Bool) → s ≡ t → o ≡ p → AreReleased s o new → AreReleased t p new
released-as s t o p new e f is = subst (λ (xs : List ℕ). AreReleased xs p new) e (subst (λ (xs : List Bool). AreReleased s xs new) f is)

pub alone-as : (s t o p new : List ℕ) → s ≡ t → o ≡ p → AreAlone s o new → AreAlone t p new
alone-as s t o p new e f is = subst (λ (xs : List ℕ). AreAlone xs p new) e (subst (λ (xs : List ℕ). AreAlone s xs new) f is)

pub cleared-of : (s t : List ℕ) (o p new : List (Option ℕ)) (ia ib : Lists) → s ≡ t → o ≡ p → AreCleared (λ c. IsTrue (is_among (c / 8) s)) o new ia ib → AreCleared (λ c. IsTrue (is_among (c / 8) t)) p new ia ib
cleared-of s t o p new ia ib e f is = subst (λ (xs : List ℕ). AreCleared (λ c. IsTrue (is_among (c / 8) xs)) p new ia ib) e (subst (λ (xs : List (Option ℕ)). AreCleared (λ c. IsTrue (is_among (c / 8) s)) xs new ia ib) f is)

pub removed-as : (g : Graph) (m k : ℕ) (arcs a : List (Option ℕ)) (node b : List ℕ) (held h : List Bool) (room : ℕ) → a ≡ arcs → b ≡ node → h ≡ held → m ≡ k → IsRemoved g m record { arcs = arcs; node = node; held = held; room = room } → IsRemoved g k record { arcs = a; node = b; held = h; room = room }
removed-as g m k arcs a node b held h room ea eb eh em is =
    subst (λ (xs : List (Option ℕ)). IsRemoved g k record { arcs = xs; node = b; held = h; room = room }) (sym ea)
    (subst (λ (xs : List ℕ). IsRemoved g k record { arcs = arcs; node = xs; held = h; room = room }) (sym eb)
    (subst (λ (xs : List Bool). IsRemoved g k record { arcs = arcs; node = node; held = xs; room = room }) (sym eh)
    (subst (λ (j : ℕ). IsRemoved g j record { arcs = arcs; node = node; held = held; room = room }) em is)))

pub nodes-as : (arcs a : List (Option ℕ)) (node b : List ℕ) → a ≡ arcs → b ≡ node → AreNodes (IsArc arcs) (node_at node) → AreNodes (IsArc a) (node_at b)
nodes-as arcs a node b ea eb is = subst (λ (xs : List ℕ). AreNodes (IsArc a) (node_at xs)) (sym eb) (subst (λ (xs : List (Option ℕ)). AreNodes (IsArc xs) (node_at node)) (sym ea) is)
