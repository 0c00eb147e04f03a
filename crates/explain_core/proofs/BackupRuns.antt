-- What is copied stays explained while the world goes on.
use Rattle.std.proofs.Common.{◌≡◌, ◌∙◌, sym, subst, ap, ℕ, ◌+◌, ◌<◌, ◌≤◌, Bool, false, List, [], ◌∷◌, ◌++◌, length, take, refl, arith, inl, inr, Option}
use Rattle.std.specs.Prelude.{IsTrue, ◌⊎◌, ◌≢◌, ◌==◌, ◌||◌, if◌then◌else◌}
use Rattle.std.specs.List.{AllByRecursion}
use Rattle.std.proofs.lemmas.Bool.{cases_lt, cases_Bool, both_ways, or_right, or_cases, and_parts, and_from, eqb-true, eqb-false, not_from_false, false_from_ne_true}
use Rattle.install_order.specs.Order.{Access}
use Rattle.oper_core.specs.Meaning.{Meaning}
use Rattle.explain_core.specs.History.{Member, accesses_of, value_at, reads_some, writes_some}
use Rattle.oper_core.specs.Cell.{Cell}
use Rattle.explain_core.specs.Explains.{Explains}
use Rattle.explain_core.specs.World.{World, Step, Starts, step, IsAllowed, plan_of, work_of}
use Rattle.explain_core.specs.World.Step.{Begin, End, Append, Block_gate, Checkpoint, Slot_gate, Removal, Header_gate, Replay, Crash}
use Rattle.explain_core.specs.Sound.{IsSound, SkipsNothing}
use Rattle.explain_core.specs.Stable.{IsStableOf}
use Rattle.explain_core.specs.Backup.{IsCopied, IsIdentityAt, MayWhileCopied, with_next, installed_in_copy, copy_of, backup_of}
use Rattle.explain_core.proofs.Basics.{front-append, front-take, with_lsn-front}
use Rattle.explain_core.specs.GraphLaws.{with_lsn-take}
use Rattle.explain_core.proofs.Core.{slots-whole}
use Rattle.explain_core.proofs.Crash.{plan_fits}
use Rattle.explain_core.proofs.OneState.{sound-stands}
use Rattle.explain_core.proofs.CopiedSlots.{IsBlind, newer-is, Explains-copy}

-- an identity write reads nothing, and writes its object alone
identity-blind : {O : Type 0} (m : Meaning O) (h : List (Member O)) (n x : ℕ) → IsIdentityAt h n x → IsBlind (accesses_of m h) n x
identity-blind {O} m h n x is = record {
  reads = λ y. ap (λ (o : Option (Member O)). reads_some m o y) is.1;
  only = λ y wr. elim (or_cases (y == x) false (sym (ap (λ (o : Option (Member O)). writes_some m o y) is.1) ∙ wr)) [
    | inl e ↦ eqb-true y x e
    | inr none ↦ absurd (both_ways _ refl none)
  ];
}

-- nothing is copied yet
pub copied-none : {O : Type 0} (m : Meaning O) (w : World O) (cells : ℕ → Cell) → IsCopied m w 0 cells
copied-none m w cells = record { origin = λ x lt. absurd (omega arith); since = λ x lt. absurd (omega arith) }

whole : {O : Type 0} (m : Meaning O) (w : World O) → IsSound m w → Explains (accesses_of m w.history) (value_at m w.history) w.installed w.slots
whole m w s = slots-whole m w.history w.forced w.installed w.slots s.forced s.installed s.slots

with_next-is : {O : Type 0} (w : World O) (copied : ℕ) (cells : ℕ → Cell) (x : ℕ) → x < copied + 1 → ((x ≡ copied) × (with_next w copied cells x ≡ w.slots x)) ⊎ ((x < copied) × (with_next w copied cells x ≡ cells x))
with_next-is w copied cells x lt = elim (cases_Bool (x == copied)) [
  | inl e ↦ inl (eqb-true x copied e, ap (λ (b : Bool). if b then w.slots x else cells x) e)
  | inr e ↦ let ne : x ≢ copied = eqb-false x copied e in inr (omega (arith, lt, ne), ap (λ (b : Bool). if b then w.slots x else cells x) e)
]

-- one more object is copied
pub copied-more : {O : Type 0} (m : Meaning O) (w : World O) (copied : ℕ) (cells : ℕ → Cell) → IsSound m w → IsCopied m w copied cells → IsCopied m w (copied + 1) (with_next w copied cells)
copied-more m w copied cells s c =
    let a = accesses_of m w.history in
    record {
      origin = λ x lt. elim (with_next-is w copied cells x lt) [
        | inl new ↦ subst (λ (cell : Cell). ((cell.lsn ≡ 0) × (cell.value ≡ [])) ⊎ (IsTrue (w.installed cell.lsn) × IsTrue (a.writes cell.lsn x))) (sym new.1) ((whole m w s).origin x)
        | inr old ↦ subst (λ (cell : Cell). ((cell.lsn ≡ 0) × (cell.value ≡ [])) ⊎ (IsTrue (w.installed cell.lsn) × IsTrue (a.writes cell.lsn x))) (sym old.1) (c.origin x old.0)
      ];
      since = λ x lt. elim (with_next-is w copied cells x lt) [
        | inl new ↦ inl new.1
        | inr old ↦ subst (λ (cell : Cell). (cell ≡ w.slots x) ⊎ ((cell.lsn < (w.slots x).lsn) × (w.base ≤ (w.slots x).lsn) × IsIdentityAt w.history (w.slots x).lsn x)) (sym old.1) (c.since x old.0)
      ];
    }

-- more members are installed
installed-more : {O : Type 0} (m : Meaning O) (w : World O) (node : ℕ → Bool) (copied : ℕ) (cells : ℕ → Cell) → IsCopied m w copied cells → (x : ℕ) → x < copied →
    (((cells x).lsn ≡ 0) × ((cells x).value ≡ [])) ⊎ (IsTrue (node (cells x).lsn || w.installed (cells x).lsn) × IsTrue ((accesses_of m w.history).writes (cells x).lsn x))
installed-more m w node copied cells c x lt = elim (c.origin x lt) [
  | inl z ↦ inl z
  | inr g ↦ inr (or_right (node (cells x).lsn) (w.installed (cells x).lsn) g.0, g.1)
]

-- the slot of a copied object is set from a node of one identity write: that is the version in the cache
slot-set : {O : Type 0} (m : Meaning O) (w : World O) (node : ℕ → Bool) (x : ℕ) (copied : ℕ) (cells : ℕ → Cell) → IsSound m w → work_of m w node x → x < copied → (n y : ℕ) → ((k : ℕ) → IsTrue (node k) → k ≡ n) → IsIdentityAt w.history n y →
    IsCopied m w copied cells → ((cells x).lsn < (w.cache x).lsn) × (w.base ≤ (w.cache x).lsn) × IsIdentityAt w.history (w.cache x).lsn x
slot-set {O} m w node x copied cells s work lt n y single is c =
    let a = accesses_of m w.history in
    let d = s.dirty x work.1 in
    let top = (w.cache x).lsn in
    let k = work.0.0 in
    let writes : IsTrue (w.graph k) × IsTrue (a.writes k x) = and_parts (w.graph k) (a.writes k x) work.0.2.0 in
    let made : IsTrue (a.writes top x) = elim (s.cache.origin x) [ inl z ↦ absurd (omega (arith, z.0, d.0)) | inr h ↦ h.1 ] in
    let low : k ≤ top = d.2 k writes.0 writes.1 in
    let same : k ≡ top = elim (cases_lt k top) [
      | inl early ↦ absurd (both_ways _ (work.0.2.1 top early) (and_from (w.graph top) (a.writes top x) d.1 made))
      | inr late ↦ omega (arith, low, late)
    ] in
    let here : n ≡ top = sym (single k work.0.1) ∙ same in
    let object : x ≡ y = (identity-blind m w.history n y is).only x (subst (λ (j : ℕ). IsTrue (a.writes j x)) (sym here) made) in
    let at : IsIdentityAt w.history top x = subst (λ (z : ℕ). IsIdentityAt w.history top z) (sym object) (subst (λ (j : ℕ). IsIdentityAt w.history j y) here is) in (
      elim (c.since x lt) [ inl q ↦ omega (arith, ap (λ (cell : Cell). cell.lsn) q, d.0) | inr set ↦ omega (arith, set.0, d.0) ],
      (s.graph top d.1).0,
      at,
    )

slot-is : {O : Type 0} (w : World O) (x y : ℕ) → ((y ≡ x) × ((if y == x then w.cache x else w.slots y) ≡ w.cache x)) ⊎ ((if y == x then w.cache x else w.slots y) ≡ w.slots y)
slot-is w x y = elim (cases_Bool (y == x)) [
  | inl e ↦ inl (eqb-true y x e, ap (λ (b : Bool). if b then w.cache x else w.slots y) e)
  | inr e ↦ inr (ap (λ (b : Bool). if b then w.cache x else w.slots y) e)
]

-- a step of the world leaves what is copied
pub copied-step : {O : Type 0} (m : Meaning O) (w : World O) (t : Step O) (copied : ℕ) (cells : ℕ → Cell) → IsSound m w → IsAllowed m w t → MayWhileCopied w copied t → IsCopied m w copied cells → IsCopied m (step m w t) copied cells
unfolding step
copied-step m w Begin copied cells s may rule c = record { origin = c.origin; since = c.since }
copied-step m w End copied cells s may rule c = record { origin = c.origin; since = c.since }
copied-step {O} m w (Append member) copied cells s may rule c =
    let h = w.history in
    let g = h ++ member ∷ [] in
    let front = front-append m h (member ∷ []) in
    let inside : (k : ℕ) → IsTrue (w.installed k) → k ≤ length h = λ k e. omega (arith, s.installed k e, s.forced) in
    record {
      origin = λ x lt. elim (c.origin x lt) [
        | inl z ↦ inl z
        | inr i ↦ inr (i.0, sym (front.writes (cells x).lsn x (inside (cells x).lsn i.0)) ∙ i.1)
      ];
      since = λ x lt. elim (c.since x lt) [
        | inl q ↦ inl q
        | inr set ↦
            let n = (w.slots x).lsn in
            let low : n ≤ length h = elim (s.slots.origin x) [ inl z ↦ omega (arith, z.0) | inr i ↦ inside n i.0 ] in
            inr (set.0, set.1, (set.2.0, sym (with_lsn-front h (member ∷ []) n low) ∙ set.2.1))
      ];
    }
copied-step m w Block_gate copied cells s may rule c = record { origin = c.origin; since = c.since }
copied-step m w Checkpoint copied cells s may rule c = record { origin = c.origin; since = c.since }
copied-step m w (Slot_gate node x) copied cells s may rule c = record {
  origin = installed-more m w node copied cells c;
  since = λ y lt. elim (slot-is w x y) [
    | inr q ↦ subst (λ (cell : Cell). (cells y ≡ cell) ⊎ (((cells y).lsn < cell.lsn) × (w.base ≤ cell.lsn) × IsIdentityAt w.history cell.lsn y)) (sym q) (c.since y lt)
    | inl q ↦
        let there : x < copied = omega (arith, lt, q.0) in
        let one = rule there in
        let set = slot-set m w node x copied cells s may.1 there one.0 one.1 one.2 one.3 c in
        subst (λ (cell : Cell). (cells y ≡ cell) ⊎ (((cells y).lsn < cell.lsn) × (w.base ≤ cell.lsn) × IsIdentityAt w.history cell.lsn y)) (sym q.1)
        (subst (λ (z : ℕ). (cells z ≡ w.cache x) ⊎ (((cells z).lsn < (w.cache x).lsn) × (w.base ≤ (w.cache x).lsn) × IsIdentityAt w.history (w.cache x).lsn z)) (sym q.0) (inr set))
  ];
}
copied-step m w (Removal node) copied cells s may rule c = record { origin = installed-more m w node copied cells c; since = c.since }
copied-step m w (Header_gate base) copied cells s may rule c = absurd rule
copied-step m w Replay copied cells s may rule c = record { origin = c.origin; since = c.since }
copied-step m w Crash copied cells s may rule c = absurd rule

-- the parts of the copy, over the stable history
module _ {O : Type 0} (m : Meaning O) (w : World O) (copied : ℕ) (cells : ℕ → Cell) (s : IsSound m w) (c : IsCopied m w copied cells) where
  abbrev f : ℕ
  f = w.forced

  abbrev h : List (Member O)
  h = take f w.history

  abbrev a : Access
  a = accesses_of m h

  low_slot : (x : ℕ) → (w.slots x).lsn ≤ f
  low_slot x = elim (s.slots.origin x) [ inl z ↦ omega (arith, z.0) | inr i ↦ s.installed _ i.0 ]

  within : (n : ℕ) → IsTrue (w.installed n) → n < f + 1
  within n e = omega (arith, s.installed n e)

  origin : (x : ℕ) → x < copied → (((cells x).lsn ≡ 0) × ((cells x).value ≡ [])) ⊎ (IsTrue (w.installed (cells x).lsn) × IsTrue (a.writes (cells x).lsn x))
  origin x lt = elim (c.origin x lt) [
    | inl z ↦ inl z
    | inr i ↦ inr (i.0, (front-take m w.history f s.forced).writes (cells x).lsn x (s.installed _ i.0) ∙ i.1)
  ]

  since : (x : ℕ) → x < copied → (cells x ≡ w.slots x) ⊎ (((cells x).lsn < (w.slots x).lsn) × IsBlind a (w.slots x).lsn x)
  since x lt = elim (c.since x lt) [
    | inl q ↦ inl q
    | inr set ↦ inr (set.0, identity-blind m h (w.slots x).lsn x (set.2.0, with_lsn-take w.history f (w.slots x).lsn (low_slot x) ∙ set.2.1))
  ]

  pub copy-explained : Explains a (value_at m h) (installed_in_copy m w copied cells) (backup_of copied cells w.slots)
  copy-explained = Explains-copy a (value_at m h) w.installed (f + 1) copied cells w.slots s.slots within origin since

  -- what the copy is too old for is in the log
  from_base : (n : ℕ) → n < w.base → IsTrue (installed_in_copy m w copied cells n)
  from_base n lt = and_from (w.installed n) _ (s.below_base n lt) (not_from_false _ (false_from_ne_true _ (λ new.
      let is = newer-is a (value_at m h) w.installed (f + 1) copied cells w.slots s.slots within origin since n new in
      elim (c.since is.0 is.1) [
        | inl q ↦ omega (arith, is.2, is.3, ap (λ (cell : Cell). cell.lsn) q)
        | inr set ↦ omega (arith, is.2, set.1, lt)
      ])))

  pub copy-stands : (tables : List Starts) → AllByRecursion (SkipsNothing a (installed_in_copy m w copied cells) w.base (length h + 1)) tables → IsStableOf m (copy_of w copied cells tables) h (installed_in_copy m w copied cells)
  copy-stands tables fit =
      let live = sound-stands m w s in
      record {
        base = live.base;
        reached = live.reached;
        records = live.records;
        counted = live.counted;
        members = live.members;
        within = λ n e. live.within n (and_parts (w.installed n) _ e).0;
        below = from_base;
        slots = copy-explained;
        tables = fit;
      }

  pub copy-fits : SkipsNothing a (installed_in_copy m w copied cells) w.base (length h + 1) (plan_of [] w.base)
  copy-fits = plan_fits a (installed_in_copy m w copied cells) w.base (length h + 1) [] (sound-stands m w s).reached from_base tt
