-- How long the values of objects are, as far as memory tells, and the next one that is empty.
use Rattle.std.specs.Prelude.{◌≡◌, ◌≢◌, ◌<◌, ◌≤◌, ◌==◌, ℕ, if◌then◌else◌, List, length, Bool, Option, None, Some, MatchOption}
use Rattle.oper_core.specs.State.{is_among, value_for}
use Rattle.stable_objects.specs.SlotsView.{length_in}
use Rattle.dirty_cache.specs.Contents.{held, is_dirty}
use Rattle.dirty_cache.specs.declared.entry.Entry.{Entry}
use Rattle.number_lists.specs.Marks.{mark_at}
use Rattle.running_store.specs.Laid.{Laid, AreCached}

-- the length of a cached value
abbrev pub entry_length : Option Entry → ℕ
entry_length None = 0
entry_length (Some entry) = length entry.bytes

-- the length of an object's value, for which no file is read: that of a dirty one is cached, that of another is in its slot
abbrev pub length_at : Laid → ℕ → ℕ
length_at laid x = if is_dirty laid.cache x then entry_length (held laid.cache x) else length_in laid.slots x

-- of so many objects, whose values have these lengths, x is the first at or above a number that is empty
pub record IsFirstEmpty (objects : ℕ) (long : ℕ → ℕ) (from x : ℕ) : Type 0 where
  pub below : x < objects
  pub above : from ≤ x
  pub here : long x ≡ 0
  pub least : (y : ℕ) → from ≤ y → y < x → long y ≢ 0

-- the first of them at or above a number that is empty, if there is one
abbrev pub IsNextEmpty : ℕ → (ℕ → ℕ) → ℕ → Option ℕ → Type 0
IsNextEmpty objects long from found = MatchOption found ((y : ℕ) → from ≤ y → y < objects → long y ≢ 0) (IsFirstEmpty objects long from)

-- there is a mark for each of so many objects, which says whether its value is empty
pub record AreEmpties (objects : ℕ) (long : ℕ → ℕ) (marks : List Bool) : Type 0 where
  pub count : length marks ≡ objects
  pub each : (x : ℕ) → x < objects → mark_at marks x ≡ (long x == 0)

-- what is cached is of objects that there are, and the marks say which objects are empty
pub record AreKept (laid : Laid) (marks : List Bool) : Type 0 where
  pub cached : AreCached laid.slots.params laid.cache
  pub empties : AreEmpties laid.slots.params.objects (length_at laid) marks

-- the marks, with those of these objects by the values beside them
abbrev pub with_marks : (ℕ → Bool) → List ℕ → List (List ℕ) → ℕ → Bool
with_marks marks objects values x = if is_among x objects then (length (value_for x objects values) == 0) else marks x
