-- A replay keeps a world sound.
use Rattle.std.proofs.Common.{◌≡◌, ◌∙◌, sym, subst, ℕ, suc, ◌+◌, ◌<◌, ◌≤◌, Bool, List, length, refl, ap, arith, inl, inr}
use Rattle.std.specs.Prelude.{IsTrue, IsFalse, ◌⊎◌, ◌||◌, ◌&&◌, nat_lt, nat_le, ◌==◌, slice_get}
use Rattle.std.proofs.lemmas.Bool.{cases_eq, cases_Bool, both_ways, or_left, or_right, or_cases, eq-eqb, eqb-true, and_parts, and_from, lt-ltb, ltb-true, le-leb, leb-true, and_left}
use Rattle.install_order.specs.Order.{IsClosed}
use Rattle.install_order.specs.Computed.{some_below}
use Rattle.install_order.specs.NodeLaws.{some-from}
use Rattle.oper_core.specs.Meaning.{Meaning, IsLawful}
use Rattle.explain_core.specs.History.{Member, accesses_of, value_at, made_by, with_lsn}
use Rattle.oper_core.specs.Cell.{Cell}
use Rattle.explain_core.specs.Explains.{Explains}
use Rattle.explain_core.specs.World.{World, step, plan_of, set_by, is_redone}
use Rattle.explain_core.specs.World.Step.{Replay}
use Rattle.explain_core.specs.Sound.{IsSound, SkipsNothing, and_below}
use Rattle.explain_core.proofs.Core.{slots-whole}
use Rattle.explain_core.proofs.Members.{writes-any}
use Rattle.explain_core.proofs.Crash.{plan_fits, base-within}
use Rattle.explain_core.proofs.Set.{IsSetAt, Explains-fresh, Explains-old, read-right, made_by-same, late-none}
use Rattle.explain_core.proofs.Append.{set_at, set_not}
use Rattle.explain_core.specs.GraphLaws.{writes-below}

-- an object is set, or kept
abbrev Redone : {O : Type 0} (m : Meaning O) (w : World O) (c : ℕ → Cell) (x : ℕ) → Type 0
Redone m w c x =
    (IsTrue (is_redone m w x) × IsTrue ((accesses_of m w.history).writes w.next x) × ((w.cache x).lsn < w.next) × ((plan_of w.tables w.base).redo_from x ≤ w.next) × ((c x).lsn ≡ w.next))
    ⊎ (IsFalse (is_redone m w x) × (c x ≡ w.cache x))

redone : {O : Type 0} (m : Meaning O) (w : World O) (x : ℕ) → Redone m w (step m w Replay).cache x
unfolding step
redone m w x =
    let a = accesses_of m w.history in
    elim (cases_Bool (is_redone m w x)) [
      | inl e ↦
          let p = and_parts (a.writes w.next x) (nat_lt (w.cache x).lsn w.next && nat_le ((plan_of w.tables w.base).redo_from x) w.next) e in
          let q = and_parts (nat_lt (w.cache x).lsn w.next) (nat_le ((plan_of w.tables w.base).redo_from x) w.next) p.1 in
          inl (e, p.0, ltb-true _ _ q.0, leb-true _ _ q.1, ap (λ (cell : Cell). cell.lsn) (set_at m (with_lsn w.history w.next) (is_redone m w) w.next w.next w.cache x _ e refl refl))
      | inr e ↦ inr (e, set_not m (with_lsn w.history w.next) (is_redone m w) w.next w.cache x e)
    ]

is_redone-from : {O : Type 0} (m : Meaning O) (w : World O) (x : ℕ) → IsTrue ((accesses_of m w.history).writes w.next x) → (w.cache x).lsn < w.next → (plan_of w.tables w.base).redo_from x ≤ w.next → IsTrue (is_redone m w x)
is_redone-from m w x wr lt le = and_from _ _ wr (and_from _ _ (lt-ltb _ _ lt) (le-leb _ _ le))

-- what the next LSN makes, where it is not installed, is what it made in the history
made-suc : {O : Type 0} (m : Meaning O) (h : List (Member O)) (i : ℕ → Bool) (c : ℕ → Cell) (x j : ℕ) → IsClosed (accesses_of m h) i → IsFalse (i (suc j)) → Explains (accesses_of m h) (value_at m h) (and_below (suc j) i) c → IsTrue ((accesses_of m h).writes (suc j) x) → made_by m (with_lsn h (suc j)) (λ y. (c y).value) x ≡ value_at m h (suc j) x
made-suc m h i c x j closed out e wr = made_by-same m (slice_get h j) (λ y. (c y).value) (λ y. value_at m h j y) x (λ y r. read-right m h i j c closed out e y r) wr

made-right : {O : Type 0} (m : Meaning O) (h : List (Member O)) (i : ℕ → Bool) (c : ℕ → Cell) (x j k : ℕ) → k ≡ suc j → IsClosed (accesses_of m h) i → IsFalse (i k) → Explains (accesses_of m h) (value_at m h) (and_below k i) c → IsTrue ((accesses_of m h).writes k x) → made_by m (with_lsn h k) (λ y. (c y).value) x ≡ value_at m h k x
made-right {O} m h i c x j k q = subst (λ (k : ℕ). IsClosed (accesses_of m h) i → IsFalse (i k) → Explains (accesses_of m h) (value_at m h) (and_below k i) c → IsTrue ((accesses_of m h).writes k x) → made_by m (with_lsn h k) (λ y. (c y).value) x ≡ value_at m h k x) (sym q) (made-suc m h i c x j)

pub replay_sound : {O : Type 0} (m : Meaning O) → IsLawful m → (w : World O) (j : ℕ) → w.next ≡ suc j → w.next ≤ length w.history → IsSound m w → IsSound m (step m w Replay)
unfolding step
replay_sound {O} m law w j next old s =
    let h = w.history in
    let a = accesses_of m h in
    let k = w.next in
    let plan = plan_of w.tables w.base in
    let redo = is_redone m w in
    let after : ℕ → Cell = set_by m (with_lsn h k) redo k w.cache in
    let graph : ℕ → Bool = λ n. ((n == k) && some_below m.objects redo) || w.graph n in
    let case : (x : ℕ) → Redone m w after x = redone m w in
    let whole : Explains a (value_at m h) w.installed w.slots = slots-whole m h w.forced w.installed w.slots s.forced s.installed s.slots in
    let fits : SkipsNothing a w.installed w.base (w.forced + 1) plan = plan_fits a w.installed w.base (w.forced + 1) w.tables (base-within w.installed w.base w.forced s.below_base s.installed) s.below_base s.tables in
    let all_set : IsFalse (w.installed k) → (x : ℕ) → IsTrue (a.writes k x) → IsTrue (redo x) = λ out x wr.
    is_redone-from m w x wr
    (elim (s.cache.origin x) [ inl z ↦ omega (arith, z.0, next) | inr g ↦ late-none a w.installed k (w.cache x).lsn x whole.closed out (inr wr) g.0 g.1 ])
    (fits.before k x out wr) in
    let upto : (n : ℕ) → IsTrue (graph n) → n ≤ k = λ n e. elim (or_cases ((n == k) && some_below m.objects redo) (w.graph n) e) [
      | inl new ↦ let q : n ≡ k = eqb-true n k (and_parts (n == k) _ new).0 in omega arith
      | inr was ↦ omega (arith, (s.graph n was).1)
    ] in
    let set : IsFalse (w.installed k) → IsSetAt a (value_at m h) k w.cache after = λ out x. elim (cases_Bool (a.writes k x)) [
      | inl wr ↦ inl (wr, set_at m (with_lsn h k) redo k k w.cache x (value_at m h k x) (all_set out x wr) refl (made-right m h w.installed w.cache x j k next whole.closed out s.cache wr))
      | inr none ↦ inr (none, set_not m (with_lsn h k) redo k w.cache x (and_left (a.writes k x) _ none))
    ] in
    let below : (x : ℕ) → IsTrue (a.writes k x) → x < m.objects = λ x wr. writes-below m law (λ y. value_at m h j y) (slice_get h j) (s.history j) x (subst (λ (n : ℕ). IsTrue (a.writes n x)) next wr) in
    record {
      history = s.history;
      forced = s.forced;
      installed = s.installed;
      slots = s.slots;
      tables = s.tables;
      pending = s.pending;
      base = s.base;
      below_base = s.below_base;
      counted = s.counted;
      all_stable = λ le. s.all_stable old;
      graph = λ n e. elim (or_cases ((n == k) && some_below m.objects redo) (w.graph n) e) [
        | inl new ↦ let q : n ≡ k = eqb-true n k (and_parts (n == k) _ new).0 in (omega (arith, s.next.0), omega arith)
        | inr was ↦ ((s.graph n was).0, omega (arith, (s.graph n was).1))
      ];
      next = (omega (arith, s.next.0), omega arith);
      passed = λ n lt off. elim (cases_eq n k) [
        | inl q ↦
            let out : IsFalse (w.installed k) = subst (λ (n : ℕ). IsFalse (w.installed n)) q off in
            let any = writes-any m law h j s.history (omega arith) in
            let wrote : IsTrue (a.writes k any.0) = subst (λ (n : ℕ). IsTrue (a.writes n any.0)) (sym next) any.2 in
            or_left _ (w.graph n) (and_from (n == k) _ (eq-eqb n k q) (some-from m.objects redo any.0 any.1 (all_set out any.0 wrote)))
        | inr ne ↦ or_right _ (w.graph n) (s.passed n (omega arith) off)
      ];
      cache = subst (λ (n : ℕ). Explains a (value_at m h) (and_below n w.installed) after) (omega arith) (elim (cases_Bool (w.installed k)) [
        | inl there ↦ Explains-old a (value_at m h) w.installed k w.cache after there s.cache (λ x. elim (case x) [ inl t ↦ inl (t.1, t.2, t.4) | inr f ↦ inr f.1 ])
        | inr out ↦ Explains-fresh a (value_at m h) w.installed k w.cache after whole.closed out s.cache (set out)
      ]);
      cache_right = λ x off. elim (case x) [
        | inl t ↦
            let out : IsFalse (w.installed k) = subst (λ (n : ℕ). IsFalse (w.installed n)) t.4 off in
            elim (set out x) [
              | inl u ↦ subst (λ (cell : Cell). cell.value ≡ value_at m h cell.lsn x) (sym u.1) refl
              | inr u ↦ absurd (both_ways _ u.0 t.1)
            ]
        | inr f ↦ subst (λ (cell : Cell). cell.value ≡ value_at m h cell.lsn x) (sym f.1)
            (s.cache_right x (subst (λ (cell : Cell). IsFalse (w.installed cell.lsn)) f.1 off))
      ];
      cache_late = λ n x e off wr. elim (case x) [
        | inl t ↦ subst (λ (i : ℕ). n ≤ i) (sym t.4) (upto n e)
        | inr f ↦ subst (λ (cell : Cell). n ≤ cell.lsn) (sym f.1) (elim (or_cases ((n == k) && some_below m.objects redo) (w.graph n) e) [
          | inl new ↦
              let q : n ≡ k = eqb-true n k (and_parts (n == k) _ new).0 in
              absurd (both_ways _ f.0 (all_set (subst (λ (n : ℕ). IsFalse (w.installed n)) q off) x (subst (λ (n : ℕ). IsTrue (a.writes n x)) q wr)))
          | inr was ↦ s.cache_late n x was off wr
        ])
      ];
      dirty = λ x ne. elim (case x) [
        | inl t ↦ subst (λ (i : ℕ). ((w.slots x).lsn < i) × IsTrue (graph i) × ((n : ℕ) → IsTrue (graph n) → IsTrue (a.writes n x) → n ≤ i) × (k + 1 ≤ length h → plan.redo_from x ≤ i)) (sym t.4) (
          elim (cases_eq (w.slots x).lsn (w.cache x).lsn) [ inl q ↦ omega (arith, t.2) | inr other ↦ omega (arith, (s.dirty x other).0, t.2) ],
          or_left _ (w.graph k) (and_from (k == k) _ (eq-eqb k k refl) (some-from m.objects redo x (below x t.1) t.0)),
          (λ n e wr. upto n e),
          (λ le. t.3),
        )
        | inr f ↦
            let d = s.dirty x (λ q. ne (q ∙ sym (ap (λ (cell : Cell). cell.lsn) f.1))) in
            subst (λ (cell : Cell). ((w.slots x).lsn < cell.lsn) × IsTrue (graph cell.lsn) × ((n : ℕ) → IsTrue (graph n) → IsTrue (a.writes n x) → n ≤ cell.lsn) × (k + 1 ≤ length h → plan.redo_from x ≤ cell.lsn)) (sym f.1) (
              d.0,
              or_right _ (w.graph (w.cache x).lsn) d.1,
              (λ n e wr. elim (or_cases ((n == k) && some_below m.objects redo) (w.graph n) e) [
                | inl new ↦
                    let q : n ≡ k = eqb-true n k (and_parts (n == k) _ new).0 in
                    let low : (w.cache x).lsn < k = (s.graph (w.cache x).lsn d.1).1 in
                    absurd (both_ways _ f.0 (is_redone-from m w x (subst (λ (n : ℕ). IsTrue (a.writes n x)) q wr) low (omega (arith, d.3 old))))
                | inr was ↦ d.2 n was wr
              ]),
              (λ le. d.3 old),
            )
      ];
      group = s.group;
    }
