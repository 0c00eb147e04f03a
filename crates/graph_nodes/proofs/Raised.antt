-- How nodes are raised.
use Rattle.std.proofs.Common.{◌≡◌, ◌≢◌, ◌∙◌, ap, sym, subst, ℕ, zero, suc, ◌+◌, ◌/◌, ◌<◌, ◌≤◌, List, [], ◌∷◌, ◌++◌, length, refl, arith, inl, inr}
use Rattle.std.specs.Prelude.{IsTrue, IsFalse, ◌⊎◌, Option, Some, slice_index}
use Rattle.std.proofs.lemmas.Bool.{cases_eq, cases_lt, cases_Bool, both_ways}
use Rattle.oper_core.specs.State.{is_among}
use Rattle.number_lists.specs.Lists.{Lists, list_at, AreAsMany, IsCleared, IsFree}
use Rattle.graph_nodes.specs.Arcs.{arc_at, node_at}
use Rattle.graph_nodes.specs.Into.{IsSettled}
use Rattle.graph_nodes.specs.Ahead.{AreAhead}
use Rattle.graph_nodes.specs.Levels.{AreLevelled, AreLifted, AreLinked, ArePruned, AreReady, AreStillLevelled, IsRaisedTo, level_at}
use Rattle.graph_nodes.proofs.Found.{among-place, place-among}
use Rattle.graph_nodes.proofs.Joined.{many-same, many-twice}
use Rattle.graph_nodes.proofs.Linked.{linkable-same}
use Rattle.graph_nodes.proofs.Options.{none-some, of-some}
use Rattle.graph_nodes.proofs.Read.{arc-cell}
use Rattle.graph_nodes.proofs.Settled.{settled-fewer}

-- a nought more is the level of a node that had none
pub level-push : (level : List ℕ) (m : ℕ) → level_at (level ++ 0 ∷ []) m ≡ level_at level m
level-push [] zero = refl
level-push [] (suc m) = refl
level-push (l ∷ level) zero = refl
level-push (l ∷ level) (suc m) = level-push level m

-- the first so many of these nodes are lifted
pub record IsLifting (ahead : List ℕ) (l i : ℕ) (old now : List ℕ) (old_near near : Lists) : Type 0 where
  pub done : (k : ℕ) → k < i → level_at now (slice_index ahead k) ≡ l
  pub rest : (m : ℕ) → (level_at now m ≡ level_at old m) ⊎ IsTrue (is_among m ahead)
  pub cleared : (k : ℕ) → k < i → list_at near.lists (slice_index ahead k) ≡ []
  pub others : (m : ℕ) → (list_at near.lists m ≡ list_at old_near.lists m) ⊎ IsTrue (is_among m ahead)
  pub same : AreAsMany old_near near

pub lift-none : (ahead : List ℕ) (l : ℕ) (level : List ℕ) (near : Lists) → IsLifting ahead l 0 level level near near
lift-none ahead l level near = record { done = λ k lt. absurd (omega (arith, lt)); rest = λ m. inl refl; cleared = λ k lt. absurd (omega (arith, lt)); others = λ m. inl refl; same = many-same near }

pub lift-on : (ahead : List ℕ) (l i n : ℕ) (old now new : List ℕ) (old_near near new_near : Lists) → IsLifting ahead l i old now old_near near → n ≡ slice_index ahead i → i < length ahead → level_at new n ≡ l → ((m : ℕ) → m ≢ n → level_at new m ≡ level_at now m) → IsCleared near n new_near → IsLifting ahead l (i + 1) old new old_near new_near
lift-on ahead l i n old now new old_near near new_near is e lt at off clear =
    let here : IsTrue (is_among n ahead) = subst (λ (k : ℕ). IsTrue (is_among k ahead)) (sym e) (place-among ahead i lt) in
    record {
      done = λ k below. elim (cases_eq (slice_index ahead k) n) [
        | inl q ↦ ap (λ (m : ℕ). level_at new m) q ∙ at
        | inr ne ↦ elim (cases_eq k i) [
          | inl q ↦ absurd (ne (ap (λ (m : ℕ). slice_index ahead m) q ∙ sym e))
          | inr other ↦ off (slice_index ahead k) ne ∙ is.done k (omega (arith, below, other))
        ]
      ];
      rest = λ m. elim (cases_eq m n) [
        | inl q ↦ inr (subst (λ (k : ℕ). IsTrue (is_among k ahead)) (sym q) here)
        | inr ne ↦ elim (is.rest m) [ inl s ↦ inl (off m ne ∙ s) | inr s ↦ inr s ]
      ];
      cleared = λ k below. elim (cases_eq (slice_index ahead k) n) [
        | inl q ↦ ap (λ (m : ℕ). list_at new_near.lists m) q ∙ clear.here
        | inr ne ↦ elim (cases_eq k i) [
          | inl q ↦ absurd (ne (ap (λ (m : ℕ). slice_index ahead m) q ∙ sym e))
          | inr other ↦ clear.others (slice_index ahead k) ne ∙ is.cleared k (omega (arith, below, other))
        ]
      ];
      others = λ m. elim (cases_eq m n) [
        | inl q ↦ inr (subst (λ (k : ℕ). IsTrue (is_among k ahead)) (sym q) here)
        | inr ne ↦ elim (is.others m) [ inl s ↦ inl (clear.others m ne ∙ s) | inr s ↦ inr s ]
      ];
      same = many-twice old_near near new_near is.same clear.same;
    }

pub lift-end : (ahead : List ℕ) (l i : ℕ) (old now : List ℕ) (old_near near : Lists) → i ≡ length ahead → IsLifting ahead l i old now old_near near → AreLifted ahead l old now old_near near
lift-end ahead l i old now old_near near e is = record {
  done = λ m t. let p = among-place m ahead t in ap (λ (k : ℕ). level_at now k) (sym p.2) ∙ is.done p.0 (omega (arith, e, p.1));
  rest = λ m none. elim (is.rest m) [ inl s ↦ s | inr s ↦ absurd (none s) ];
  cleared = λ m t. let p = among-place m ahead t in ap (λ (k : ℕ). list_at near.lists k) (sym p.2) ∙ is.cleared p.0 (omega (arith, e, p.1));
  others = λ m none. elim (is.others m) [ inl s ↦ s | inr s ↦ absurd (none s) ];
  same = is.same;
}

pub still-none : (arcs : List (Option ℕ)) (node level : List ℕ) (near : Lists) → AreLevelled arcs node level near → AreStillLevelled arcs node level level near near
still-none arcs node level near are = record { levelled = are; lost = λ m c t none. t; same = many-same near }

pub still-twice : (arcs : List (Option ℕ)) (node a b c : List ℕ) (na nb nc : Lists) → AreStillLevelled arcs node a b na nb → AreStillLevelled arcs node b c nb nc → AreStillLevelled arcs node a c na nc
still-twice arcs node a b c na nb nc f g = record {
  levelled = g.levelled;
  lost = λ m k t none. f.lost m k (g.lost m k t none) none;
  same = many-twice na nb nc f.same g.same;
}

-- what is read is there still
pub ready-on : (arcs : List (Option ℕ)) (node : List ℕ) (members : Lists) (a b : List ℕ) (na nb : Lists) (r s ra rb : ℕ) → AreReady arcs node members a na r ra → AreStillLevelled arcs node a b na nb → r ≤ s → ra ≤ rb → AreReady arcs node members b nb s rb
ready-on arcs node members a b na nb r s ra rb is still le more = record {
  nodes = is.nodes;
  levelled = still.levelled;
  linkable = linkable-same arcs node members na nb still.same is.linkable;
  fit = omega (arith, is.fit, le);
  deep = omega (arith, is.deep, more);
}

nothing : (xs : List ℕ) (c : ℕ) → xs ≡ [] → IsTrue (is_among c xs) → ⊥
nothing xs c e t = both_ways _ refl (subst (λ (ys : List ℕ). IsTrue (is_among c ys)) e t)

module _ (arcs : List (Option ℕ)) (node level new : List ℕ) (near mid : Lists) (l w : ℕ) (ahead : List ℕ) (are : AreLevelled arcs node level near) (found : AreAhead arcs node level l w ahead) (lift : AreLifted ahead l level new near mid) where
  -- an arc from a lifted node leads to a lifted one, or to one that was at the level
  leads-in : (c j : ℕ) → arc_at arcs c ≡ Some j → IsTrue (is_among (node_at node (c / 8)) ahead) → level_at level (node_at node j) < l → IsTrue (is_among (node_at node j) ahead)
  leads-in c j arc t low = found.closed (node_at node (c / 8)) (node_at node j) t (c, j, refl, arc, refl) low

  out : (m : ℕ) → IsFalse (is_among m ahead) → IsTrue (is_among m ahead) → ⊥
  out m f t = both_ways _ f t

  was : (m c : ℕ) → IsFalse (is_among m ahead) → IsTrue (is_among c (list_at mid.lists m)) → IsTrue (is_among c (list_at near.lists m))
  was m c f t = subst (λ (xs : List ℕ). IsTrue (is_among c xs)) (lift.others m (out m f)) t

  -- a cell of a lifted node that has an arc is in no list
  pub lifted-free : (c j : ℕ) → IsTrue (is_among (node_at node (c / 8)) ahead) → arc_at arcs c ≡ Some j → IsFree mid.lists c
  lifted-free c j s arc m t = elim (cases_Bool (is_among m ahead)) [
    | inl tm ↦ nothing (list_at mid.lists m) c (lift.cleared m tm) t
    | inr fm ↦
        let o = (are.only m c (was m c fm t)).1 j arc in
        let low = found.low (node_at node (c / 8)) s in
        let end : level_at level (node_at node j) ≡ level_at level m = ap (λ (k : ℕ). level_at level k) o.0 in
        out m fm (subst (λ (k : ℕ). IsTrue (is_among k ahead)) o.0 (leads-in c j arc s (omega (arith, low, o.1, end))))
  ]

  rise : (c j : ℕ) → arc_at arcs c ≡ Some j → level_at new (node_at node (c / 8)) ≤ level_at new (node_at node j)
  rise c j arc =
      let s = node_at node (c / 8) in
      let t = node_at node j in
      let before = are.rise c j arc in
      elim (cases_Bool (is_among s ahead)) [
        | inl ts ↦ elim (cases_Bool (is_among t ahead)) [
          | inl tt ↦ omega (arith, lift.done s ts, lift.done t tt)
          | inr ft ↦ elim (cases_lt (level_at level t) l) [
            | inl low ↦ absurd (out t ft (leads-in c j arc ts low))
            | inr ge ↦ omega (arith, lift.done s ts, lift.rest t (out t ft), ge)
          ]
        ]
        | inr fs ↦ elim (cases_Bool (is_among t ahead)) [
          | inl tt ↦ omega (arith, lift.rest s (out s fs), lift.done t tt, before, found.low t tt)
          | inr ft ↦ omega (arith, lift.rest s (out s fs), lift.rest t (out t ft), before)
        ]
      ]

  pub raised-still : (last : Lists) → AreLinked (λ c. IsTrue (is_among (node_at node (c / 8)) ahead)) arcs node new mid last → AreStillLevelled arcs node level new near last
  raised-still last link = record {
    levelled = record {
      rise = rise;
      there = λ c j arc apart even.
          let s = node_at node (c / 8) in
          let t = node_at node j in
          elim (cases_Bool (is_among s ahead)) [
            | inl ts ↦ link.there t c ts record { to = j; arc = arc; end = refl; apart = apart; even = even }
            | inr fs ↦ elim (cases_Bool (is_among t ahead)) [
              | inl tt ↦ absurd (omega (arith, lift.rest s (out s fs), lift.done t tt, even, are.rise c j arc, found.low t tt))
              | inr ft ↦
                  let same : level_at level s ≡ level_at level t = sym (lift.rest s (out s fs)) ∙ even ∙ lift.rest t (out t ft) in
                  link.kept t c (subst (λ (xs : List ℕ). IsTrue (is_among c xs)) (sym (lift.others t (out t ft))) (are.there c j arc apart same))
            ]
          ];
      only = λ m c t. elim (link.only m c t) [
        | inl o ↦ elim (cases_Bool (is_among m ahead)) [
          | inl tm ↦ absurd (nothing (list_at mid.lists m) c (lift.cleared m tm) o)
          | inr fm ↦
              let r = are.only m c (was m c fm o) in (
                r.0,
                (λ j arc.
                    let both = r.1 j arc in
                    let s = node_at node (c / 8) in
                    elim (cases_Bool (is_among s ahead)) [
                      | inl ts ↦ absurd (lifted-free c j ts arc m o)
                      | inr fs ↦ (both.0, lift.rest s (out s fs) ∙ both.1 ∙ sym (lift.rest m (out m fm)))
                    ]),
              )
        ]
        | inr s ↦ (
          arc-cell arcs c s.1.to s.1.arc,
          (λ j arc.
              let same : Some s.1.to ≡ Some j = sym s.1.arc ∙ arc in
              let end : s.1.to ≡ j = cc in
              (ap (λ (k : ℕ). node_at node k) (sym end) ∙ s.1.end, s.1.even)),
        )
      ];
    };
    lost = λ m c t none. elim (link.only m c t) [
      | inl o ↦ elim (cases_Bool (is_among m ahead)) [
        | inl tm ↦ absurd (nothing (list_at mid.lists m) c (lift.cleared m tm) o)
        | inr fm ↦ was m c fm o
      ]
      | inr s ↦ absurd (none-some s.1.to (sym none ∙ s.1.arc))
    ];
    same = many-twice near mid last lift.same link.same;
  }

  pub raised-to : IsRaisedTo w l level new
  raised-to = record {
    reached = omega (arith, lift.done w found.start);
    each = λ m. elim (cases_Bool (is_among m ahead)) [ inl t ↦ inr (lift.done m t) | inr f ↦ inl (lift.rest m (out m f)) ];
  }

pub raised-none : (w l : ℕ) (level : List ℕ) → l ≤ level_at level w → IsRaisedTo w l level level
raised-none w l level le = record { reached = le; each = λ m. inl refl }

-- what is raised to the level of v, or above it, is not below v
pub raised-fits : (v w l : ℕ) (old new : List ℕ) → level_at old v ≤ l → IsRaisedTo w l old new → level_at new v ≤ level_at new w
raised-fits v w l old new le is = elim (is.each v) [ inl same ↦ omega (arith, same, le, is.reached) | inr at ↦ omega (arith, at, is.reached) ]

pub pruned-none : (arcs : List (Option ℕ)) (node : List ℕ) (a : Lists) → ArePruned arcs node a a
pruned-none arcs node a = record { kept = λ m c j t arc off. t; fewer = λ m c t. t; same = many-same a }

pub pruned-on : (arcs : List (Option ℕ)) (node : List ℕ) (n : ℕ) (a b c : Lists) → ArePruned arcs node a b → IsSettled arcs node n b c → ArePruned arcs node a c
pruned-on arcs node n a b c was is = record {
  kept = λ m k j t arc off. elim (cases_eq m n) [
    | inl q ↦ subst (λ (i : ℕ). IsTrue (is_among k (list_at c.lists i))) (sym q) (is.kept k (subst (λ (i : ℕ). IsTrue (is_among k (list_at b.lists i))) q (was.kept m k j t arc off)) (of-some (arc_at arcs k) j arc, (λ e. off (e ∙ sym q))))
    | inr ne ↦ subst (λ (xs : List ℕ). IsTrue (is_among k xs)) (sym (is.others m ne)) (was.kept m k j t arc off)
  ];
  fewer = λ m k t. was.fewer m k (settled-fewer arcs node n b c m k is t);
  same = many-twice a b c was.same is.same;
}

pub pruned-still : (arcs : List (Option ℕ)) (node level : List ℕ) (a b : Lists) → AreLevelled arcs node level a → ArePruned arcs node a b → AreStillLevelled arcs node level level a b
pruned-still arcs node level a b are is = record {
  levelled = record {
    rise = are.rise;
    there = λ c j arc apart even. is.kept (node_at node j) c j (are.there c j arc apart even) arc apart;
    only = λ m c t. are.only m c (is.fewer m c t);
  };
  lost = λ m c t none. is.fewer m c t;
  same = is.same;
}
