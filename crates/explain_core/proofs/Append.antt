-- An append keeps a world sound.
use Rattle.std.proofs.Common.{◌≡◌, ◌∙◌, sym, subst, ℕ, suc, ◌+◌, ◌-◌, ◌<◌, ◌≤◌, Bool, List, [], ◌∷◌, ◌++◌, length, take, refl, ap, arith, inl, inr, Option, Some, length-append}
use Rattle.std.specs.Prelude.{IsTrue, IsFalse, ◌||◌, ◌==◌, slice_get, IfSome}
use Rattle.std.specs.List.{AllByRecursion}
use Rattle.std.proofs.lemmas.Bool.{cases_lt, cases_eq, cases_Bool, both_ways, or_left, or_right, or_cases, eq-eqb, eqb-true, false_from_ne_true}
use Rattle.std.proofs.lemmas.List.{take-append-le}
use Rattle.std.proofs.lemmas.Option.{slice_get_past}
use mathlib.Core.Path.{fun_ext}
use Rattle.install_order.specs.Order.{Access, IsClosed, IsExposed}
use Rattle.oper_core.specs.State.{is_among}
use Rattle.oper_core.specs.Meaning.{Meaning, Accepts}
use Rattle.explain_core.specs.History.{commands_of, Member, accesses_of, value_at, writes_of, made_by, writes_some, IsHistory, IsMember}
use Rattle.explain_core.specs.History.Member.{Command, Identity}
use Rattle.oper_core.specs.Cell.{Cell}
use Rattle.explain_core.specs.Explains.{Explains}
use Rattle.explain_core.specs.World.{World, Starts, step, IsLive, end_of, plan_of, MayAppend, set_by}
use Rattle.explain_core.specs.World.Step.{Append}
use Rattle.explain_core.specs.Sound.{IsSound, SkipsNothing, and_below}
use Rattle.explain_core.proofs.Basics.{IsFront, front-append, value_at-append, value_at-same, slice_get-front, slice_get-last}
use Rattle.explain_core.proofs.Groups.{group-append}
use Rattle.explain_core.proofs.Core.{Explains-more, slots-whole}
use Rattle.explain_core.proofs.Crash.{history-at}
use Rattle.explain_core.proofs.Gate.{all_fit-later}
use Rattle.explain_core.proofs.Set.{IsSetAt, Explains-fresh, read-right, made_by-same, value_at-still, in-below, in-cases, out-parts}
use Rattle.explain_core.specs.GraphLaws.{no-writes}

-- the cell that is set, and one that is not
pub set_at : {O : Type 0} (m : Meaning O) (o : Option (Member O)) (chosen : ℕ → Bool) (n k : ℕ) (c : ℕ → Cell) (x : ℕ) (v : List ℕ) → IsTrue (chosen x) → n ≡ k → made_by m o (λ y. (c y).value) x ≡ v → set_by m o chosen n c x ≡ record { lsn = k; value = v }
set_at m o chosen n k c x v e q made = rw (e, q, made) refl

pub set_not : {O : Type 0} (m : Meaning O) (o : Option (Member O)) (chosen : ℕ → Bool) (n : ℕ) (c : ℕ → Cell) (x : ℕ) → IsFalse (chosen x) → set_by m o chosen n c x ≡ c x
set_not m o chosen n c x e = rw e refl

-- in a live world the cache is the map
pub live-map : {O : Type 0} (m : Meaning O) (h : List (Member O)) (i : ℕ → Bool) (c : ℕ → Cell) → ((k : ℕ) → IsTrue (i k) → k ≤ length h) → Explains (accesses_of m h) (value_at m h) (and_below (suc (length h)) i) c → (x : ℕ) → (c x).value ≡ value_at m h (length h) x
live-map m h i c inside e x =
    let n = length h in
    let a = accesses_of m h in
    let shown : IsExposed a (and_below (suc n) i) x = λ p out w. absurd (both_ways _ (no-writes m h p x (out-parts (suc n) i p out).0) w) in
    let early : (c x).lsn ≤ n = elim (e.origin x) [
      | inl z ↦ omega (arith, z.0)
      | inr g ↦ elim (in-cases (suc n) i (c x).lsn g.0) [ inl lt ↦ omega arith | inr there ↦ inside _ there ]
    ] in
    e.right x shown ∙ sym (value_at-still m h x (c x).lsn n early (λ k lt le. e.last x shown k lt (in-below (suc n) i k (omega arith))))

pub lsn-within : (a : Access) (v : ℕ → ℕ → List ℕ) (n : ℕ) (i : ℕ → Bool) (c : ℕ → Cell) → ((k : ℕ) → IsTrue (i k) → k ≤ n) → Explains a v i c → (x : ℕ) → (c x).lsn ≤ n
lsn-within a v n i c inside e x = elim (e.origin x) [ inl z ↦ omega (arith, z.0) | inr g ↦ inside _ g.0 ]

-- a history with one more member
history-append : {O : Type 0} (m : Meaning O) (h : List (Member O)) (member : Member O) → IsHistory m h → IsMember m (λ x. value_at m h (length h) x) member → IsHistory m (h ++ member ∷ [])
history-append {O} m h member e new k =
    let g = h ++ member ∷ [] in
    let front : (n : ℕ) → n ≤ length h → (λ (x : ℕ). value_at m h n x) ≡ (λ (x : ℕ). value_at m g n x) = λ n le. value_at-same m h g n (λ i lt. sym (slice_get-front h (member ∷ []) i (omega arith))) in
    elim (cases_lt k (length h)) [
      | inl lt ↦ history-at m (slice_get h k) (slice_get g k) (λ x. value_at m h k x) (λ x. value_at m g k x) (sym (slice_get-front h (member ∷ []) k lt)) (front k (omega arith)) (e k)
      | inr ge ↦ elim (cases_eq k (length h)) [
        | inl q ↦ subst (λ (n : ℕ). IfSome (slice_get g n) (λ mm. IsMember m (λ x. value_at m g n x) mm)) (sym q)
            (history-at m (Some member) (slice_get g (length h)) (λ x. value_at m h (length h) x) (λ x. value_at m g (length h) x) (sym (slice_get-last h member)) (front (length h) (omega arith)) new)
        | inr ne ↦ subst (λ (o : Option (Member O)). IfSome o (λ mm. IsMember m (λ x. value_at m g k x) mm)) (sym (slice_get_past g k (omega (arith, length-append h (member ∷ []))))) tt
      ]
    ]

-- the appended member is in its place
may-member : {O : Type 0} (m : Meaning O) (w : World O) (before : ℕ → List ℕ) (member : Member O) → ((x : ℕ) → (w.cache x).value ≡ before x) → MayAppend m w member → IsMember m before member
may-member {O} m w before (Command op) same may = subst (λ (state : ℕ → List ℕ). Accepts m state op) (fun_ext same) may
may-member m w before (Identity x v) same may = (may.0, may.1 ∙ same x)

-- the checkpoints skip nothing of the longer history either
fits-append : {O : Type 0} (m : Meaning O) (h t : List (Member O)) (i : ℕ → Bool) (base end : ℕ) (table : Starts) → end ≤ length h + 1 → SkipsNothing (accesses_of m h) i base end table → SkipsNothing (accesses_of m (h ++ t)) i base end table
fits-append m h t i base end table le f = record {
  before = λ n x out w. elim (cases_lt (length h) n) [
    | inl lt ↦ omega (arith, f.start x, f.next_within)
    | inr ge ↦ f.before n x out ((front-append m h t).writes n x ge ∙ w)
  ];
  start = f.start;
  from_base = f.from_base;
  next_from_base = f.next_from_base;
  next_within = f.next_within;
}

all_fit-append : {O : Type 0} (m : Meaning O) (h t : List (Member O)) (i : ℕ → Bool) (base end : ℕ) (tables : List Starts) → end ≤ length h + 1 → AllByRecursion (SkipsNothing (accesses_of m h) i base end) tables → AllByRecursion (SkipsNothing (accesses_of m (h ++ t)) i base end) tables
all_fit-append m h t i base end [] le f = tt
all_fit-append m h t i base end (x ∷ xs) le f = (fits-append m h t i base end x le f.0, all_fit-append m h t i base end xs le f.1)

-- the cache after the append has the writes of the member as the history has them
set-append : {O : Type 0} (m : Meaning O) (h : List (Member O)) (member : Member O) (i : ℕ → Bool) (c : ℕ → Cell) →
    IsClosed (accesses_of m (h ++ member ∷ [])) i → IsFalse (i (suc (length h))) →
    Explains (accesses_of m (h ++ member ∷ [])) (value_at m (h ++ member ∷ [])) (and_below (suc (length h)) i) c →
    IsSetAt (accesses_of m (h ++ member ∷ [])) (value_at m (h ++ member ∷ [])) (suc (length h)) c (set_by m (Some member) (λ x. is_among x (writes_of m member)) (length h + 1) c)
set-append {O} m h member i c closed out e x =
    let n = length h in
    let g = h ++ member ∷ [] in
    let here : slice_get g n ≡ Some member = slice_get-last h member in
    let lsn : length h + 1 ≡ suc (length h) = omega arith in
    let writes : (accesses_of m g).writes (suc n) x ≡ is_among x (writes_of m member) = ap (λ o. writes_some m o x) here in
    elim (cases_Bool (is_among x (writes_of m member))) [
      | inl there ↦
          let wrote : IsTrue ((accesses_of m g).writes (suc n) x) = writes ∙ there in
          let made : made_by m (Some member) (λ y. (c y).value) x ≡ value_at m g (suc n) x =
          subst (λ (o : Option (Member O)). made_by m o (λ y. (c y).value) x ≡ value_at m g (suc n) x) here
          (made_by-same m (slice_get g n) (λ y. (c y).value) (λ y. value_at m g n y) x (λ y r. read-right m g i n c closed out e y r) wrote) in
          inl (wrote, set_at m (Some member) (λ x. is_among x (writes_of m member)) (length h + 1) (suc n) c x (value_at m g (suc n) x) there lsn made)
      | inr none ↦ inr (writes ∙ none, set_not m (Some member) (λ x. is_among x (writes_of m member)) (length h + 1) c x none)
    ]

pub append_sound : {O : Type 0} (m : Meaning O) (w : World O) (member : Member O) → IsLive w → MayAppend m w member → IsSound m w → IsSound m (step m w (Append member))
unfolding step
append_sound {O} m w member live may s =
    let h = w.history in
    let n = length h in
    let g = h ++ member ∷ [] in
    let a = accesses_of m h in
    let b = accesses_of m g in
    let long : length g ≡ n + 1 = length-append h (member ∷ []) in
    let next : w.next ≡ suc n = omega (arith, s.next.1) in
    let lsn : n + 1 ≡ suc n = omega arith in
    let inside : (k : ℕ) → IsTrue (w.installed k) → k ≤ n = λ k e. omega (arith, s.installed k e, s.forced) in
    let front : IsFront a b n = front-append m h (member ∷ []) in
    let out : IsFalse (w.installed (suc n)) = false_from_ne_true _ (λ e. absurd (omega (arith, inside (suc n) e))) in
    let cache : Explains a (value_at m h) (and_below (suc n) w.installed) w.cache = subst (λ (k : ℕ). Explains a (value_at m h) (and_below k w.installed) w.cache) next s.cache in
    let within : (k : ℕ) → IsTrue (and_below (suc n) w.installed k) → k ≤ n = λ k e. elim (in-cases (suc n) w.installed k e) [ inl lt ↦ omega arith | inr there ↦ inside k there ] in
    let wide : Explains b (value_at m g) (and_below (suc n) w.installed) w.cache = Explains-more a b (value_at m h) (value_at m g) n (and_below (suc n) w.installed) w.cache front (λ k x le. sym (value_at-append m h (member ∷ []) k x le)) within cache in
    let stable : take w.forced g ≡ take w.forced h = take-append-le w.forced h (member ∷ []) s.forced in
    let slots : Explains (accesses_of m (take w.forced g)) (value_at m (take w.forced g)) w.installed w.slots = subst (λ (k : List (Member O)). Explains (accesses_of m k) (value_at m k) w.installed w.slots) (sym stable) s.slots in
    let slots_whole : Explains b (value_at m g) w.installed w.slots = slots-whole m g w.forced w.installed w.slots (omega (arith, s.forced)) s.installed slots in
    let closed : IsClosed b w.installed = slots_whole.closed in
    let graph : ℕ → Bool = λ k. (k == end_of w) || w.graph k in
    let after : ℕ → Cell = set_by m (Some member) (λ x. is_among x (writes_of m member)) (end_of w) w.cache in
    let upto : (k : ℕ) → IsTrue (graph k) → k ≤ suc n = λ k e. elim (or_cases (k == end_of w) (w.graph k) e) [
      | inl new ↦ let q : k ≡ n + 1 = eqb-true k (n + 1) new in omega arith
      | inr old ↦ omega (arith, (s.graph k old).1)
    ] in
    let not_new : (k x : ℕ) → IsTrue (graph k) → IsTrue (b.writes k x) → IsFalse (b.writes (suc n) x) → IsTrue (w.graph k) = λ k x e wr none. elim (or_cases (k == end_of w) (w.graph k) e) [
      | inl new ↦ let q : k ≡ suc n = eqb-true k (n + 1) new ∙ lsn in absurd (both_ways _ none (subst (λ (j : ℕ). IsTrue (b.writes j x)) q wr))
      | inr old ↦ old
    ] in
    let set : IsSetAt b (value_at m g) (suc n) w.cache after = set-append m h member w.installed w.cache closed out wide in
    record {
      history = history-append m h member s.history (may-member m w (λ x. value_at m h n x) member (live-map m h w.installed w.cache inside cache) may);
      forced = omega (arith, s.forced);
      installed = s.installed;
      slots = slots;
      tables = all_fit-append m h (member ∷ []) w.installed w.base (w.forced + 1) w.tables (omega (arith, s.forced)) s.tables;
      pending = all_fit-later b w.installed w.base (n + 1) (length g + 1) w.pending (omega arith) (all_fit-append m h (member ∷ []) w.installed w.base (n + 1) w.pending (omega arith) s.pending);
      base = s.base;
      below_base = s.below_base;
      counted = s.counted ∙ sym (ap (λ (l : List (Member O)). length (commands_of l)) (take-append-le (w.base - 1) h (member ∷ []) (omega (arith, s.next.0, s.next.1))));
      all_stable = λ old. absurd (omega arith);
      graph = λ k e. elim (or_cases (k == end_of w) (w.graph k) e) [
        | inl new ↦ let q : k ≡ n + 1 = eqb-true k (n + 1) new in (omega (arith, s.next.0), omega arith)
        | inr old ↦ ((s.graph k old).0, omega (arith, (s.graph k old).1))
      ];
      next = (omega (arith, s.next.0), omega arith);
      passed = λ k lt off. elim (cases_eq k (n + 1)) [
        | inl q ↦ or_left (k == end_of w) (w.graph k) (eq-eqb k (n + 1) q)
        | inr ne ↦ or_right (k == end_of w) (w.graph k) (s.passed k (omega arith) off)
      ];
      cache = subst (λ (k : ℕ). Explains b (value_at m g) (and_below k w.installed) after) (omega arith) (Explains-fresh b (value_at m g) w.installed (suc n) w.cache after closed out wide set);
      cache_right = λ x off. elim (set x) [
        | inl t ↦ subst (λ (cell : Cell). cell.value ≡ value_at m g cell.lsn x) (sym t.1) refl
        | inr f ↦ subst (λ (cell : Cell). cell.value ≡ value_at m g cell.lsn x) (sym f.1)
            (s.cache_right x (subst (λ (cell : Cell). IsFalse (w.installed cell.lsn)) f.1 off) ∙ sym (value_at-append m h (member ∷ []) (w.cache x).lsn x (lsn-within a (value_at m h) n (and_below (suc n) w.installed) w.cache within cache x)))
      ];
      cache_late = λ k x e off wr. elim (set x) [
        | inl t ↦ subst (λ (cell : Cell). k ≤ cell.lsn) (sym t.1) (upto k e)
        | inr f ↦ subst (λ (cell : Cell). k ≤ cell.lsn) (sym f.1) (
            let old = not_new k x e wr f.0 in s.cache_late k x old off (front.writes k x (omega (arith, (s.graph k old).1)) ∙ wr))
      ];
      dirty = λ x ne. elim (set x) [
        | inl t ↦ subst (λ (cell : Cell). ((w.slots x).lsn < cell.lsn) × IsTrue (graph cell.lsn) × ((k : ℕ) → IsTrue (graph k) → IsTrue (b.writes k x) → k ≤ cell.lsn) × (w.next + 1 ≤ length g → (plan_of w.tables w.base).redo_from x ≤ cell.lsn)) (sym t.1) (
          omega (arith, lsn-within b (value_at m g) n w.installed w.slots inside slots_whole x),
          or_left (suc n == end_of w) (w.graph (suc n)) (eq-eqb (suc n) (n + 1) (omega arith)),
          (λ k e wr. upto k e),
          (λ le. absurd (omega arith)),
        )
        | inr f ↦
            let d = s.dirty x (λ q. ne (q ∙ sym (ap (λ (cell : Cell). cell.lsn) f.1))) in
            subst (λ (cell : Cell). ((w.slots x).lsn < cell.lsn) × IsTrue (graph cell.lsn) × ((k : ℕ) → IsTrue (graph k) → IsTrue (b.writes k x) → k ≤ cell.lsn) × (w.next + 1 ≤ length g → (plan_of w.tables w.base).redo_from x ≤ cell.lsn)) (sym f.1) (
              d.0,
              or_right ((w.cache x).lsn == end_of w) (w.graph (w.cache x).lsn) d.1,
              (λ k e wr. let old = not_new k x e wr f.0 in d.2 k old (front.writes k x (omega (arith, (s.graph k old).1)) ∙ wr)),
              (λ le. absurd (omega arith)),
            )
      ];
      group = group-append m w member may s.group;
    }
