-- What a call leaves of the objects that only takes memory and reads slots.
use Rattle.std.proofs.Common.{◌≡◌, ◌∙◌, sym, subst, ap, ℕ, ◌<◌, ◌≤◌, false, List, inl, inr, ◌⊎◌, Option, Some, None, refl, arith}
use Rattle.std.proofs.lemmas.Bool.{both_ways, cases_lt}
use Rattle.oper_core.specs.Cell.{Cell}
use Rattle.oper_core.specs.Meaning.{Meaning}
use Rattle.formats.specs.declared.params.Params.{Params}
use Rattle.stable_objects.specs.SlotsView.{SlotsView, lsn_in}
use Rattle.dirty_cache.specs.Contents.{held, is_dirty}
use Rattle.dirty_cache.specs.declared.entry.Entry.{Entry as Pair}
use Rattle.explain_core.specs.World.{World}
use Rattle.standing.specs.Standing.{stored}
use Rattle.running_store.specs.Laid.{Laid, IsLaidOn, KeepsCells, cell_or}
use Rattle.running_store.specs.Parts.Joins.{stored_here, cell_shown}
use Rattle.running_store.specs.Parts.{Volatile, ShowsVolatile, AreInUse, cell_at, volatile}

-- the pair is that of a clean object, with the LSN of its slot
pub record IsRead (laid : Laid) (x : ℕ) (pair : Pair) : Type 0 where
  pub below : x < laid.slots.params.objects
  pub clean : is_dirty laid.cache x ≡ false
  pub lsn : pair.lsn ≡ lsn_in laid.slots x

-- The same objects are dirty. What is cached was, or it was read from the slots; so a clean object may be cached, or
-- forgotten.
pub record IsFetched (before after : Laid) : Type 0 where
  pub slots : after.slots ≡ before.slots
  pub dirty : (x : ℕ) → is_dirty after.cache x ≡ is_dirty before.cache x
  pub held : (x : ℕ) (pair : Pair) → held after.cache x ≡ Some pair → (held before.cache x ≡ Some pair) ⊎ IsRead before x pair

-- the same pairs are cached
pub fetched-same : (before after : Laid) → after.slots ≡ before.slots → ((x : ℕ) → is_dirty after.cache x ≡ is_dirty before.cache x)
    → ((x : ℕ) → held after.cache x ≡ held before.cache x) → IsFetched before after
fetched-same before after slots dirty same = record { slots = slots; dirty = dirty; held = λ x pair had. inl (sym (same x) ∙ had) }

read_before : (before mid : Laid) (x : ℕ) (pair : Pair) → mid.slots ≡ before.slots → is_dirty mid.cache x ≡ is_dirty before.cache x → IsRead mid x pair → IsRead before x pair
read_before before mid x pair slots dirty read = record {
  below = subst (λ (s : SlotsView). x < s.params.objects) slots read.below;
  clean = sym dirty ∙ read.clean;
  lsn = read.lsn ∙ ap (λ (s : SlotsView). lsn_in s x) slots;
}

pub fetched-twice : (before mid after : Laid) → IsFetched before mid → IsFetched mid after → IsFetched before after
fetched-twice before mid after one two = record {
  slots = two.slots ∙ one.slots;
  dirty = λ x. two.dirty x ∙ one.dirty x;
  held = λ x pair had. elim (two.held x pair had) [
    | inl was ↦ one.held x pair was
    | inr read ↦ inr (read_before before mid x pair one.slots (one.dirty x) read)
  ];
}

-- a store in use is in use still
pub fetched-in_use : (p : Params) (next : ℕ) (it : Volatile) (after : Laid) → AreInUse p next it → IsFetched it.objects after → AreInUse p next (volatile after it.entries)
fetched-in_use p next it after used is = record {
  params = ap (λ (s : SlotsView). s.params) is.slots ∙ used.params;
  low = used.low;
  above = used.above;
  dirty = λ x pair dirty had. elim (is.held x pair had) [
    | inl was ↦
        let found = used.dirty x pair (sym (is.dirty x) ∙ dirty) was in
        (subst (λ (s : SlotsView). lsn_in s x < pair.lsn) (sym is.slots) found.0, found.1)
    | inr read ↦ absurd (both_ways _ read.clean (sym (is.dirty x) ∙ dirty))
  ];
  clean = λ x pair clean had. elim (is.held x pair had) [
    | inl was ↦ used.clean x pair (sym (is.dirty x) ∙ clean) was ∙ ap (λ (s : SlotsView). lsn_in s x) (sym is.slots)
    | inr read ↦ read.lsn ∙ ap (λ (s : SlotsView). lsn_in s x) (sym is.slots)
  ];
}

-- past the last object of the store nothing is cached
past_last : (p : Params) (laid : Laid) (file : List ℕ) (x : ℕ) → ((pair : Pair) → held laid.cache x ≡ Some pair → x < p.objects) → p.objects ≤ x → cell_at p laid file x ≡ stored p file x
past_last p laid file x below past = by_entry (held laid.cache x) refl
  where
    by_entry : (o : Option Pair) → held laid.cache x ≡ o → cell_or (held laid.cache x) (stored p file x) ≡ stored p file x
    by_entry None none = ap (λ (o : Option Pair). cell_or o (stored p file x)) none
    by_entry (Some pair) had = absurd (omega (arith, below pair had, past))

module _ {O : Type 0} (m : Meaning O) (p : Params) (file : List ℕ) (it : Volatile) (after : Laid) (w : World O) (shows : ShowsVolatile m p file it w) (is : IsFetched it.objects after) (keeps : KeepsCells file it.objects after) where
  below_after : (x : ℕ) (pair : Pair) → held after.cache x ≡ Some pair → x < p.objects
  below_after x pair had = elim (is.held x pair had) [
    | inl was ↦ shows.below x pair was
    | inr read ↦ subst (λ (q : Params). x < q.objects) shows.params read.below
  ]

  params_after : after.slots.params ≡ p
  params_after = ap (λ (s : SlotsView). s.params) is.slots ∙ shows.params

  cell_after : (x : ℕ) → cell_at p after file x ≡ w.cache x
  cell_after x = elim (cases_lt x p.objects) [
    | inl below ↦
        ap (λ (c : Cell). cell_or (held after.cache x) c) (stored_here p file x below)
        ∙ keeps x (subst (λ (q : Params). x < q.objects) (sym shows.params) below)
        ∙ cell_shown m p file it w shows x below
    | inr past ↦ past_last p after file x (below_after x) past ∙ sym (past_last p it.objects file x (shows.below x) past) ∙ shows.cache x
  ]

  -- a store that shows a world shows it still
  pub fetched-shows : IsLaidOn after file → ShowsVolatile m p file (volatile after it.entries) w
  fetched-shows laid = record {
    params = params_after;
    laid = laid;
    below = below_after;
    slots = shows.slots;
    cache = cell_after;
    dirty = λ x dirty. shows.dirty x (sym (is.dirty x) ∙ dirty);
    members = shows.members;
    accesses = shows.accesses;
    identities = shows.identities;
  }
