-- What the flush of an object leaves.
use Rattle.std.specs.Prelude.{◌≡◌, ◌≢◌, ◌⊎◌, ◌<◌, ℕ, true, false, nat_eq, None, Some}
use Rattle.dirty_cache.specs.Contents.{held, is_dirty, IsSameOrForgotten}
use Rattle.dirty_cache.specs.declared.entry.Entry.{Entry as Pair}
use Rattle.stable_objects.specs.SlotsView.{lsn_in, layout_of}
use Rattle.running_store.specs.Laid.{Laid}

-- each slot's LSN is below this LSN
abbrev pub AreEarly : ℕ → Laid → Type 0
AreEarly next objects = (x : ℕ) → x < objects.slots.params.objects → lsn_in objects.slots x < next

-- x is flushed: its slot has the LSN that is cached, and it is clean, or forgotten; other clean objects may be
-- forgotten, and all else is as it was
pub record IsFlushed (before after : Laid) (x : ℕ) : Type 0 where
  pub layout : layout_of after.slots ≡ layout_of before.slots
  pub lsn : (pair : Pair) → held before.cache x ≡ Some pair → lsn_in after.slots x ≡ pair.lsn
  pub other_lsns : (y : ℕ) → y ≢ x → lsn_in after.slots y ≡ lsn_in before.slots y
  pub entry : (held after.cache x ≡ held before.cache x) ⊎ (held after.cache x ≡ None)
  pub clean : is_dirty after.cache x ≡ false
  pub others : (y : ℕ) → nat_eq x y ≡ false → IsSameOrForgotten before.cache after.cache y

-- no object becomes dirty
abbrev pub DirtiesNone : Laid → Laid → Type 0
DirtiesNone before after = (x : ℕ) → is_dirty after.cache x ≡ true → is_dirty before.cache x ≡ true
