-- The opening of a slot's gate and the removal of a node keep a world sound.
use Rattle.std.proofs.Common.{◌≡◌, ◌∙◌, sym, subst, ℕ, ◌+◌, ◌<◌, ◌≤◌, Bool, not, List, [], ◌∷◌, length, take, refl, ap, arith, inl, inr}
use Rattle.std.specs.Prelude.{IsTrue, IsFalse, ◌⊎◌, ◌||◌, ◌≢◌, ◌==◌, nat_lt, if◌then◌else◌}
use Rattle.std.specs.List.{AllByRecursion}
use Rattle.std.proofs.lemmas.List.{take_all}
use Rattle.std.proofs.lemmas.Bool.{cases_Bool, or_left, or_right, or_cases, or_parts, false_from_ne_true, and_parts, and_from, eqb-true, eqb-false, not_from_false, lt-ltb}
use Rattle.install_order.specs.Order.{Access, NoEdgeInto}
use Rattle.oper_core.specs.Meaning.{Meaning}
use Rattle.explain_core.specs.History.{Member, accesses_of, value_at}
use Rattle.oper_core.specs.Cell.{Cell}
use Rattle.explain_core.specs.Explains.{Explains}
use Rattle.explain_core.specs.World.{World, Starts, step, end_of, graph_access, work_of}
use Rattle.explain_core.specs.World.Step.{Slot_gate, Removal}
use Rattle.explain_core.specs.Sound.{IsSound, SkipsNothing, and_below}
use Rattle.explain_core.proofs.Core.{Explains-same, slots-whole}
use Rattle.explain_core.proofs.Install.{MayInstall, Explains-install}

-- a sound world's slots and cache allow to install a ready node
may-install : {O : Type 0} (m : Meaning O) (w : World O) (node : ℕ → Bool) → IsSound m w → ((n : ℕ) → IsTrue (node n) → IsTrue (w.graph n)) → NoEdgeInto (graph_access m w) node → MayInstall (accesses_of m w.history) (value_at m w.history) w.installed node w.graph w.slots w.cache w.next
may-install m w node s inside none = record {
  explained = slots-whole m w.history w.forced w.installed w.slots s.forced s.installed s.slots;
  first = s.below_base 0 (omega (arith, s.base));
  inside = inside;
  no_edge = none;
  bound = λ n e. (s.graph n e).1;
  cover = λ n lt out. s.passed n lt out;
  late = s.cache_late;
  made = λ x ne. elim (s.cache.origin x) [ inl z ↦ absurd (omega (arith, z.0, (s.dirty x ne).0)) | inr h ↦ h.1 ];
  dirty = λ x ne. let d = s.dirty x ne in (d.0, d.1, d.2);
  right = s.cache_right;
}

fits-more : (a : Access) (i j : ℕ → Bool) (base end : ℕ) (t : Starts) → SkipsNothing a i base end t → SkipsNothing a (λ n. j n || i n) base end t
fits-more a i j base end t f = record { before = λ n x out w. f.before n x (or_parts (j n) (i n) out).1 w; start = f.start; from_base = f.from_base; next_from_base = f.next_from_base; next_within = f.next_within }

all_fit-more : (a : Access) (i j : ℕ → Bool) (base end : ℕ) (ts : List Starts) → AllByRecursion (SkipsNothing a i base end) ts → AllByRecursion (SkipsNothing a (λ n. j n || i n) base end) ts
all_fit-more a i j base end [] f = tt
all_fit-more a i j base end (t ∷ ts) f = (fits-more a i j base end t f.0, all_fit-more a i j base end ts f.1)

-- below k nothing changes by installing members below k
same-with : (i j : ℕ → Bool) (k : ℕ) → ((n : ℕ) → IsTrue (j n) → n < k) → (n : ℕ) → and_below k i n ≡ and_below k (λ n. j n || i n) n
same-with i j k below n = elim (cases_Bool (j n)) [
  | inl there ↦ or_left (nat_lt n k) (i n) (lt-ltb n k (below n there)) ∙ sym (or_left (nat_lt n k) _ (lt-ltb n k (below n there)))
  | inr off ↦ ap (λ (b : Bool). nat_lt n k || b) (sym (ap (λ (b : Bool). b || i n) off))
]

-- the stable slots, where all members are stable
whole-stable : {O : Type 0} (m : Meaning O) (h : List (Member O)) (f : ℕ) (i : ℕ → Bool) (s : ℕ → Cell) → f ≡ length h → Explains (accesses_of m h) (value_at m h) i s → Explains (accesses_of m (take f h)) (value_at m (take f h)) i s
whole-stable {O} m h f i s q e = subst (λ (k : List (Member O)). Explains (accesses_of m k) (value_at m k) i s) (sym (take_all f h (omega arith))) e

installed-within : {O : Type 0} (m : Meaning O) (w : World O) (node : ℕ → Bool) → IsSound m w → w.forced ≡ length w.history → ((n : ℕ) → IsTrue (node n) → IsTrue (w.graph n)) → (n : ℕ) → IsTrue (node n || w.installed n) → n ≤ w.forced
installed-within m w node s all inside n e = elim (or_cases (node n) (w.installed n) e) [
  | inl there ↦ omega (arith, (s.graph n (inside n there)).1, s.next.1)
  | inr old ↦ s.installed n old
]

pub slot_sound : {O : Type 0} (m : Meaning O) (w : World O) (node : ℕ → Bool) (x : ℕ) → ((n : ℕ) → IsTrue (node n) → IsTrue (w.graph n)) → NoEdgeInto (graph_access m w) node → w.forced ≡ length w.history → work_of m w node x → ((y : ℕ) → work_of m w node y → y ≡ x) → IsSound m w → IsSound m (step m w (Slot_gate node x))
unfolding step
slot_sound {O} m w node x inside none all work only s =
    let a = accesses_of m w.history in
    let slots : ℕ → Cell = λ y. if y == x then w.cache x else w.slots y in
    let split : (y : ℕ) → ((y ≡ x) × (slots y ≡ w.cache y)) ⊎ ((y ≢ x) × (slots y ≡ w.slots y)) = λ y. elim (cases_Bool (y == x)) [
      | inl e ↦ let q : y ≡ x = eqb-true y x e in inl (q, ap (λ (b : Bool). if b then w.cache x else w.slots y) e ∙ ap w.cache (sym q))
      | inr e ↦ inr (eqb-false y x e, ap (λ (b : Bool). if b then w.cache x else w.slots y) e)
    ] in
    record {
      history = s.history;
      forced = s.forced;
      installed = installed-within m w node s all inside;
      slots = whole-stable m w.history w.forced (λ n. node n || w.installed n) slots all
          (Explains-install a (value_at m w.history) w.installed node w.graph w.slots w.cache w.next (may-install m w node s inside none) slots
          (λ y. elim (split y) [
            | inl q ↦ let here : work_of m w node y = subst (λ (z : ℕ). work_of m w node z) (sym q.0) work in inr (q.1, here.0, here.1)
            | inr q ↦ inl (q.1, λ f ne. q.0 (only y (f, ne)))
          ]));
      tables = all_fit-more a w.installed node w.base (w.forced + 1) w.tables s.tables;
      pending = all_fit-more a w.installed node w.base (end_of w) w.pending s.pending;
      base = s.base;
      below_base = λ n lt. or_right (node n) (w.installed n) (s.below_base n lt);
      counted = s.counted;
      all_stable = s.all_stable;
      graph = s.graph;
      next = s.next;
      passed = λ n lt out. s.passed n lt (or_parts (node n) (w.installed n) out).1;
      cache = Explains-same a (value_at m w.history) (and_below w.next w.installed) (and_below w.next (λ n. node n || w.installed n)) w.cache (same-with w.installed node w.next (λ n e. (s.graph n (inside n e)).1)) s.cache;
      cache_right = λ y out. s.cache_right y (or_parts (node (w.cache y).lsn) (w.installed (w.cache y).lsn) out).1;
      cache_late = λ n y e out wr. s.cache_late n y e (or_parts (node n) (w.installed n) out).1 wr;
      dirty = λ y ne. elim (split y) [
        | inl q ↦ absurd (ne (ap (λ (cell : Cell). cell.lsn) q.1))
        | inr q ↦
            let d = s.dirty y (λ e. ne (ap (λ (cell : Cell). cell.lsn) q.1 ∙ e)) in
            (subst (λ (cell : Cell). cell.lsn < (w.cache y).lsn) (sym q.1) d.0, d.1, d.2, d.3)
      ];
      group = s.group;
    }

pub removal_sound : {O : Type 0} (m : Meaning O) (w : World O) (node : ℕ → Bool) → ((n : ℕ) → IsTrue (node n) → IsTrue (w.graph n)) → NoEdgeInto (graph_access m w) node → w.forced ≡ length w.history → ((y : ℕ) → work_of m w node y → ⊥) → IsSound m w → IsSound m (step m w (Removal node))
unfolding step
removal_sound {O} m w node inside none all idle s =
    let a = accesses_of m w.history in
    let may = may-install m w node s inside none in
    record {
      history = s.history;
      forced = s.forced;
      installed = installed-within m w node s all inside;
      slots = whole-stable m w.history w.forced (λ n. node n || w.installed n) w.slots all
          (Explains-install a (value_at m w.history) w.installed node w.graph w.slots w.cache w.next may w.slots (λ y. inl (refl, λ f ne. idle y (f, ne))));
      tables = all_fit-more a w.installed node w.base (w.forced + 1) w.tables s.tables;
      pending = all_fit-more a w.installed node w.base (end_of w) w.pending s.pending;
      base = s.base;
      below_base = λ n lt. or_right (node n) (w.installed n) (s.below_base n lt);
      counted = s.counted;
      all_stable = s.all_stable;
      graph = λ n e. s.graph n (and_parts (w.graph n) (not (node n)) e).0;
      next = s.next;
      passed = λ n lt out.
          let off = or_parts (node n) (w.installed n) out in
          and_from (w.graph n) (not (node n)) (s.passed n lt off.1) (not_from_false (node n) off.0);
      cache = Explains-same a (value_at m w.history) (and_below w.next w.installed) (and_below w.next (λ n. node n || w.installed n)) w.cache (same-with w.installed node w.next (λ n e. (s.graph n (inside n e)).1)) s.cache;
      cache_right = λ y out. s.cache_right y (or_parts (node (w.cache y).lsn) (w.installed (w.cache y).lsn) out).1;
      cache_late = λ n y e out wr. s.cache_late n y (and_parts (w.graph n) (not (node n)) e).0 (or_parts (node n) (w.installed n) out).1 wr;
      dirty = λ y ne.
          let d = s.dirty y ne in
          let off : IsFalse (node (w.cache y).lsn) = false_from_ne_true _ (λ there. idle y (
            (
              (w.cache y).lsn,
              there,
              (
                and_from (w.graph (w.cache y).lsn) (a.writes (w.cache y).lsn y) d.1 (may.made y ne),
                λ later lt. false_from_ne_true _ (λ e. let p = and_parts (w.graph later) (a.writes later y) e in absurd (omega (arith, d.2 later p.0 p.1))),
              ),
            ),
            ne,
          )) in (
            d.0,
            and_from (w.graph (w.cache y).lsn) (not (node (w.cache y).lsn)) d.1 (not_from_false _ off),
            (λ n e wr. d.2 n (and_parts (w.graph n) (not (node n)) e).0 wr),
            d.3,
          );
      group = s.group;
    }
