-- The objects of a store in use: a cache, laid over the slots.
pub mod Laws
pub mod Lengths
pub mod LengthLaws
pub mod LongSlot
pub mod Lent
pub mod Limits
pub mod Among
pub mod Early
pub mod Flushed
pub mod Fetched
pub mod Ran
use Rattle.std.specs.Prelude.{◌≡◌, ◌<◌, ◌≤◌, ℕ, IsSome, if◌then◌else◌, List, length, Option, None, Some, false}
use Rattle.oper_core.specs.State.{State, value_for, is_among}
use Rattle.oper_core.specs.Cell.{Cell}
use Rattle.formats.specs.Objects.{IsInRange, cell_of}
use Rattle.formats.specs.declared.params.Params.{Params}
use Rattle.stable_objects.specs.SlotsView.{SlotsView, lsn_in, AreOf}
use Rattle.stable_objects.specs.Spares.{spare_lsn}
use Rattle.dirty_cache.specs.Contents.{Contents, cell_of_entry, held, is_dirty}
use Rattle.dirty_cache.specs.declared.entry.Entry.{Entry}

-- the slots, and what is cached
pub record Laid : Type 0 where
  pub slots : SlotsView
  pub cache : Contents

-- a cached pair, or else another
abbrev pub cell_or : Option Entry → Cell → Cell
cell_or None cell = cell
cell_or (Some entry) cell = cell_of_entry entry

-- an object's pair: that of the cache, or else that of its slots in the objects file
abbrev pub cell_in : Laid → List ℕ → ℕ → Cell
cell_in laid file x = cell_or (held laid.cache x) (cell_of x file)

-- the values of the objects
abbrev pub values_in : Laid → List ℕ → State
values_in laid file x = (cell_in laid file x).value

abbrev pub lsn_or : Option Entry → ℕ → ℕ
lsn_or None lsn = lsn
lsn_or (Some entry) lsn = entry.lsn

-- an object's LSN, for which no file is read
abbrev pub object_lsn : Laid → ℕ → ℕ
object_lsn laid x = lsn_or (held laid.cache x) (lsn_in laid.slots x)

-- what is cached is of objects that there are, and none of it is too long
pub record AreCached (p : Params) (cache : Contents) : Type 0 where
  pub in_range : IsInRange p
  pub each : (x : ℕ) (entry : Entry) → held cache x ≡ Some entry → (x < p.objects) × (length entry.bytes ≤ p.cap)

-- the slots are those of the objects file, and a clean object has the pair of its slot
pub record IsLaidOn (laid : Laid) (file : List ℕ) : Type 0 where
  pub slots : AreOf laid.slots file
  pub clean : (x : ℕ) (entry : Entry) → is_dirty laid.cache x ≡ false → held laid.cache x ≡ Some entry
      → cell_of x file ≡ cell_of_entry entry

-- the slot that doesn't hold an object is closed, if the object is cached
abbrev pub HasClosedSpare : Laid → ℕ → Type 0
HasClosedSpare laid x = IsSome (held laid.cache x) → spare_lsn laid.slots x ≡ 0

-- each object has the pair that it had
abbrev pub KeepsCells : List ℕ → Laid → Laid → Type 0
KeepsCells file before after = (x : ℕ) → x < before.slots.params.objects → cell_in after file x ≡ cell_in before file x

-- what is cached, with these values under this LSN at the objects beside them
abbrev pub with_entries : (ℕ → Option Entry) → ℕ → List ℕ → List (List ℕ) → ℕ → Option Entry
with_entries entries lsn objects values x = if is_among x objects then Some (record { lsn = lsn; bytes = value_for x objects values }) else entries x

-- the same, at those of the objects that are chosen
abbrev pub with_chosen : (ℕ → Option Entry) → ℕ → List ℕ → List ℕ → List (List ℕ) → ℕ → Option Entry
with_chosen entries lsn chosen objects values x = if is_among x chosen then with_entries entries lsn objects values x else entries x
