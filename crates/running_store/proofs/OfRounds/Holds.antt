-- Objects whose gates were opened are held in their slots and become clean, one after the other.
use Rattle.std.proofs.Common.{◌≡◌, ◌≢◌, ◌⊎◌, ⊎_elim, inl, inr, ◌<◌, ◌+◌, ℕ, zero, suc, Bool, true, false, Option, Some, None, List, [], ◌∷◌, length, take, refl, sym, ◌∙◌, ap, subst, arith}
use Rattle.std.specs.Prelude.{◌==◌, ◌||◌, IsTrue, IsFalse, slice_index}
use Rattle.std.proofs.lemmas.Bool.{both_ways, cases_Bool, cases_eq, eq-eqb, ne_eqb}
use Rattle.oper_core.specs.Cell.{Cell}
use Rattle.oper_core.specs.State.{is_among}
use Rattle.dirty_cache.specs.Contents.{Contents, IsSameOrForgotten, held, is_dirty}
use Rattle.dirty_cache.specs.declared.entry.Entry.{Entry as Pair}
use Rattle.stable_objects.specs.HoldLaws.{held_as, held_more, held_none}
use Rattle.stable_objects.specs.Ready.{AreHeld, IsHeld}
use Rattle.stable_objects.specs.SlotsView.{lsn_in}
use Rattle.running_store.specs.Laid.Flushed.{IsFlushed}
use Rattle.running_store.specs.Parts.InUse.{dirty_held}
use Rattle.running_store.specs.Laid.{Laid, cell_or}
use Rattle.running_store.specs.Calls.RoundCalls.{AreFlushed, AreLater, cached_in}

or_front : (b c d : Bool) → (b || (c || d)) ≡ (c || (b || d))
or_front true true d = refl
or_front true false d = refl
or_front false c d = refl

next_suc : (y i : ℕ) (xs : List ℕ) → i < length xs → is_among y (take (suc i) xs) ≡ ((y == slice_index xs i) || is_among y (take i xs))
next_suc y i [] lt = absurd (omega (arith, lt))
next_suc y zero (z ∷ zs) lt = refl
next_suc y (suc i) (z ∷ zs) lt = ap (λ (b : Bool). (y == z) || b) (next_suc y i zs (omega (arith, lt))) ∙ or_front (y == z) (y == slice_index zs i) (is_among y (take i zs))

-- the first i + 1 are the first i and the next
pub next_among : (y i : ℕ) (xs : List ℕ) → i < length xs → is_among y (take (i + 1) xs) ≡ ((y == slice_index xs i) || is_among y (take i xs))
next_among y i xs lt = let on : i + 1 ≡ suc i = omega arith in ap (λ (n : ℕ). is_among y (take n xs)) on ∙ next_suc y i xs lt

-- none is flushed yet
pub flushed_none : (laid : Laid) → AreFlushed laid laid []
flushed_none laid = record {
  layout = refl;
  lsns_kept = λ x pair among had. absurd (both_ways _ refl among);
  other_lsns = λ x off. refl;
  entries = λ x among. absurd (both_ways _ refl among);
  clean = λ x among. absurd (both_ways _ refl among);
  others = λ x off. record { entry = inl refl; dirty = refl };
}

-- the same objects, in another list
pub flushed_as : (before after : Laid) (done more : List ℕ) → ((y : ℕ) → is_among y more ≡ is_among y done) → AreFlushed before after done → AreFlushed before after more
flushed_as before after done more same was = record {
  layout = was.layout;
  lsns_kept = λ x pair among had. was.lsns_kept x pair (sym (same x) ∙ among) had;
  other_lsns = λ x off. was.other_lsns x (sym (same x) ∙ off);
  entries = λ x among. was.entries x (sym (same x) ∙ among);
  clean = λ x among. was.clean x (sym (same x) ∙ among);
  others = λ x off. was.others x (sym (same x) ∙ off);
}

-- what stays of an entry, over two calls
same_twice : (a b c : Contents) (y : ℕ) → IsSameOrForgotten a b y → IsSameOrForgotten b c y → IsSameOrForgotten a c y
same_twice a b c y first second = record {
  entry = ⊎_elim
      (λ kept. ⊎_elim (λ was. inl (kept ∙ was)) (λ gone. inr (gone.0, kept ∙ gone.1)) first.entry)
      (λ gone. inr (sym first.dirty ∙ gone.0, gone.1))
      second.entry;
  dirty = second.dirty ∙ first.dirty;
}

-- what is dirty is not forgotten
pub dirty_kept : (a b : Contents) (y : ℕ) → IsSameOrForgotten a b y → is_dirty a y ≡ true → held b y ≡ held a y
dirty_kept a b y is dirty = ⊎_elim (λ same. same) (λ gone. absurd (both_ways _ gone.0 dirty)) is.entry

-- one more is flushed, that was not yet
module _ (before mid after : Laid) (done more : List ℕ) (x : ℕ) (was : AreFlushed before mid done) (off : IsFalse (is_among x done)) (dirty : is_dirty mid.cache x ≡ true) (is : IsFlushed mid after x)
    (next : (y : ℕ) → is_among y more ≡ ((y == x) || is_among y done)) where
  beside : (y : ℕ) → y ≢ x → is_among y more ≡ is_among y done
  beside y other = next y ∙ ap (λ (b : Bool). b || is_among y done) (ne_eqb y x other)

  here : IsTrue (is_among x more)
  here = next x ∙ ap (λ (b : Bool). b || is_among x done) (eq-eqb x x refl)

  apart : (y : ℕ) → IsFalse (is_among y more) → y ≢ x
  apart y none same = both_ways _ none (subst (λ (z : ℕ). IsTrue (is_among z more)) (sym same) here)

  still : (y : ℕ) → y ≢ x → IsSameOrForgotten mid.cache after.cache y
  still y other = is.others y (ne_eqb x y (λ same. other (sym same)))

  pub dirty_first : is_dirty before.cache x ≡ true
  dirty_first = sym (was.others x off).dirty ∙ dirty

  pub held_first : held mid.cache x ≡ held before.cache x
  held_first = dirty_kept before.cache mid.cache x (was.others x off) dirty_first

  both : (o p q : Option Pair) → (p ≡ o) ⊎ (p ≡ None) → (q ≡ p) ⊎ (q ≡ None) → (q ≡ o) ⊎ (q ≡ None)
  both o p q first second = ⊎_elim (λ kept. ⊎_elim (λ same. inl (kept ∙ same)) (λ none. inr (kept ∙ none)) first) (λ none. inr none) second

  pub flushed_more : AreFlushed before after more
  flushed_more = record {
    layout = is.layout ∙ was.layout;
    lsns_kept = λ y pair among had. elim (cases_eq y x) [
      | inl same ↦ subst (λ (z : ℕ). held before.cache z ≡ Some pair → lsn_in after.slots z ≡ pair.lsn) (sym same) (λ there. is.lsn pair (held_first ∙ there)) had
      | inr other ↦ is.other_lsns y other ∙ was.lsns_kept y pair (sym (beside y other) ∙ among) had
    ];
    other_lsns = λ y none. let other = apart y none in is.other_lsns y other ∙ was.other_lsns y (sym (beside y other) ∙ none);
    entries = λ y among. elim (cases_eq y x) [
      | inl same ↦ subst (λ (z : ℕ). (held after.cache z ≡ held before.cache z) ⊎ (held after.cache z ≡ None)) (sym same) (both (held before.cache x) (held mid.cache x) (held after.cache x) (inl held_first) is.entry)
      | inr other ↦
          both (held before.cache y) (held mid.cache y) (held after.cache y) (was.entries y (sym (beside y other) ∙ among))
          (⊎_elim (λ kept. inl kept) (λ gone. inr gone.1) (still y other).entry)
    ];
    clean = λ y among. elim (cases_eq y x) [
      | inl same ↦ subst (λ (z : ℕ). is_dirty after.cache z ≡ false) (sym same) is.clean
      | inr other ↦ (still y other).dirty ∙ was.clean y (sym (beside y other) ∙ among)
    ];
    others = λ y none. let other = apart y none in same_twice before.cache mid.cache after.cache y (was.others y (sym (beside y other) ∙ none)) (still y other);
  }

-- what is dirty still is later than its slot
pub still_later : (before after : Laid) (done : List ℕ) → AreFlushed before after done → AreLater before → AreLater after
still_later before after done was later x pair dirty had = elim (cases_Bool (is_among x done)) [
  | inl among ↦ absurd (both_ways _ (was.clean x among) dirty)
  | inr off ↦
      let then = sym (was.others x off).dirty ∙ dirty in
      let found = later x pair then (sym (dirty_kept before.cache after.cache x (was.others x off) then) ∙ had) in
      (omega (arith, found.0, was.other_lsns x off), found.1)
]

-- the pair that is cached
pub cached_is : (cache : Contents) (x : ℕ) (pair : Pair) → held cache x ≡ Some pair → cached_in cache x ≡ record { lsn = pair.lsn; value = pair.bytes }
cached_is cache x pair had = ap (λ (o : Option Pair). cell_or o (record { lsn = 0; value = [] })) had

-- so far these of them are held
pub record HaveHeld (before now : Laid) (done : List ℕ) : Type 0 where
  pub flushed : AreFlushed before now done
  pub held_in : AreHeld before.slots now.slots done (cached_in before.cache)

pub have_none : (laid : Laid) → HaveHeld laid laid []
have_none laid = record { flushed = flushed_none laid; held_in = held_none laid.slots (cached_in laid.cache) }

-- and one more, which was dirty at first
module _ (before mid after : Laid) (objects : List ℕ) (i : ℕ) (lt : i < length objects) (was : HaveHeld before mid (take i objects)) (dirty : is_dirty before.cache (slice_index objects i) ≡ true) where
  abbrev x : ℕ
  x = slice_index objects i

  next : (y : ℕ) → is_among y (take (i + 1) objects) ≡ ((y == x) || is_among y (take i objects))
  next y = next_among y i objects lt

  pub have_more : (is_dirty mid.cache x ≡ false → after ≡ mid) → (is_dirty mid.cache x ≡ true → IsFlushed mid after x) → ((pair : Pair) → is_dirty mid.cache x ≡ true → held mid.cache x ≡ Some pair → IsHeld mid.slots after.slots x pair.lsn (length pair.bytes))
      → HaveHeld before after (take (i + 1) objects)
  have_more idle flushes holds = elim (cases_Bool (is_among x (take i objects))) [
    | inl among ↦
        let same : (y : ℕ) → is_among y (take (i + 1) objects) ≡ is_among y (take i objects) = λ y. next y ∙ either y (cases_eq y x) among in
        subst (λ (l : Laid). HaveHeld before l (take (i + 1) objects)) (sym (idle (was.flushed.clean x among))) (record {
          flushed = flushed_as before mid (take i objects) (take (i + 1) objects) same was.flushed;
          held_in = held_as before.slots mid.slots (take i objects) (take (i + 1) objects) (cached_in before.cache) same was.held_in;
        })
    | inr off ↦
        let now : is_dirty mid.cache x ≡ true = (was.flushed.others x off).dirty ∙ dirty in
        let is = flushes now in
        let found = dirty_held mid.cache x now in
        let pair : Pair = found.0 in
        let cell = cached_is before.cache x pair (sym (held_first before mid after (take i objects) (take (i + 1) objects) x was.flushed off now is next) ∙ found.1) in
        record {
          flushed = flushed_more before mid after (take i objects) (take (i + 1) objects) x was.flushed off now is next;
          held_in = held_more before.slots mid.slots after.slots (take i objects) (take (i + 1) objects) (cached_in before.cache) x was.held_in off
              (subst (λ (c : Cell). IsHeld mid.slots after.slots x c.lsn (length c.value)) (sym cell) (holds pair now found.1)) next;
        }
  ]
    where
      either : (y : ℕ) → (y ≡ x) ⊎ (y ≢ x) → IsTrue (is_among x (take i objects)) → ((y == x) || is_among y (take i objects)) ≡ is_among y (take i objects)
      either y (inl same) among = ap (λ (b : Bool). b || is_among y (take i objects)) (eq-eqb y x same) ∙ sym (subst (λ (z : ℕ). IsTrue (is_among z (take i objects))) (sym same) among)
      either y (inr other) among = ap (λ (b : Bool). b || is_among y (take i objects)) (ne_eqb y x other)
