-- What the flush of several objects together leaves, and the course that it takes.
use Rattle.std.specs.Prelude.{◌≡◌, ◌⊎◌, ◌<◌, ◌^◌, ℕ, true, false, IsTrue, IsFalse, None, Some, List, []}
use Rattle.disk_model.specs.Disk.{Disk}
use Rattle.oper_core.specs.Cell.{Cell}
use Rattle.oper_core.specs.Meaning.{Meaning}
use Rattle.oper_core.specs.State.{is_among}
use Rattle.oper_core.specs.declared.bounds.Bounds.{Bounds}
use Rattle.formats.specs.declared.params.Params.{Params}
use Rattle.dirty_cache.specs.Contents.{Contents, IsSameOrForgotten, held, is_dirty}
use Rattle.dirty_cache.specs.declared.entry.Entry.{Entry as Pair}
use Rattle.stable_objects.specs.Replacing.{IsFilled}
use Rattle.stable_objects.specs.SlotsView.{lsn_in, layout_of}
use Rattle.stable_objects.specs.Spares.{spare_lsn, spare_place}
use Rattle.explain_core.specs.RoundGates.{Gate, gates_of}
use Rattle.explain_core.specs.World.{AreAllowed, World, run}
use Rattle.running_store.specs.Courses.{Course, and_then, course, force_course, force_steps}
use Rattle.running_store.specs.Courses.Stop.{Through}
use Rattle.running_store.specs.Laid.{Laid, cell_or}
use Rattle.running_store.specs.Parts.{Parts, Shows, meaning_in}
use Rattle.running_store.specs.Steps.RoundImages.{objects_of}

-- the pair that is cached of an object, where one is
abbrev pub cached_in : Contents → ℕ → Cell
cached_in cache x = cell_or (held cache x) (record { lsn = 0; value = [] })

-- each dirty object has a later LSN than its slot, and one that a slot can have
abbrev pub AreLater : Laid → Type 0
AreLater laid = (x : ℕ) (pair : Pair) → is_dirty laid.cache x ≡ true → held laid.cache x ≡ Some pair → (lsn_in laid.slots x < pair.lsn) × (pair.lsn < 2 ^ 62)

-- what is cached of these objects stands in the slots that don't hold them, of those that are closed
abbrev pub AreFilled : Laid → List ℕ → List ℕ → Type 0
AreFilled laid objects file = (x : ℕ) (pair : Pair) → IsTrue (is_among x objects) → held laid.cache x ≡ Some pair → spare_lsn laid.slots x ≡ 0
    → IsFilled (spare_place laid.slots x) pair.lsn pair.bytes file

-- These objects are flushed: their slots have the LSNs that were cached, and they are clean, or forgotten; other clean
-- objects may be forgotten, and all else is as it was.
pub record AreFlushed (before after : Laid) (objects : List ℕ) : Type 0 where
  pub layout : layout_of after.slots ≡ layout_of before.slots
  pub lsns_kept : (x : ℕ) (pair : Pair) → IsTrue (is_among x objects) → held before.cache x ≡ Some pair → lsn_in after.slots x ≡ pair.lsn
  pub other_lsns : (x : ℕ) → IsFalse (is_among x objects) → lsn_in after.slots x ≡ lsn_in before.slots x
  pub entries : (x : ℕ) → IsTrue (is_among x objects) → (held after.cache x ≡ held before.cache x) ⊎ (held after.cache x ≡ None)
  pub clean : (x : ℕ) → IsTrue (is_among x objects) → is_dirty after.cache x ≡ false
  pub others : (x : ℕ) → IsFalse (is_among x objects) → IsSameOrForgotten before.cache after.cache x

-- all that waits is forced, and then gates are opened that are a function of the world
abbrev pub gates_course : {O : Type 0} → Meaning O → (World O → List Gate) → World O → ℕ → Course O
gates_course m gates w used = and_then m w (force_course m w used) (λ v used. course (gates_of (gates v)) used Through)

-- in each world that is shown, after a force, these gates are those of the objects, in their order, and may be opened
abbrev pub AreGatesFor : {O : Type 0} → (Bounds → Meaning O) → Disk → Parts → List ℕ → (Meaning O → World O → List Gate) → Type 0
AreGatesFor {O} meaning d it objects gates = (p : Params) (w : World O) → let m = meaning_in meaning p in Shows m p d it w →
    let v = run m w (force_steps m w) in (objects_of (gates m v) ≡ objects) × AreAllowed m v (gates_of (gates m v))
