-- Laws of objects in a cache over slots: when each has the pair that it had.
use Rattle.std.proofs.Common.{◌≡◌, ℕ, ◌<◌, List, Option, None, Some, IsSome, sym, ◌∙◌, subst, refl}
use Rattle.oper_core.specs.Cell.{Cell}
use Rattle.formats.specs.Objects.{cell_of}
use Rattle.stable_objects.specs.SlotsView.{SlotsView, lsn_in}
use Rattle.stable_objects.specs.SlotLaws.{lsn_is}
use Rattle.dirty_cache.specs.Contents.{held}
use Rattle.dirty_cache.specs.declared.entry.Entry.{Entry}
use Rattle.running_store.specs.Laid.{Laid, IsLaidOn, KeepsCells, cell_or, cell_in, values_in, lsn_or, object_lsn}

-- the same is cached
pub cells_same : (file : List ℕ) (old new : Laid) → new.slots ≡ old.slots → ((x : ℕ) → held new.cache x ≡ held old.cache x) → KeepsCells file old new
cells_same file old new slots same x below = λ i. cell_or (same x i) (cell_of x file)

pub cells_twice : (file : List ℕ) (old mid new : Laid) → mid.slots ≡ old.slots → KeepsCells file old mid → KeepsCells file mid new → KeepsCells file old new
cells_twice file old mid new slots first second x below = second x (subst (λ (s : SlotsView). x < s.params.objects) (sym slots) below) ∙ first x below

-- the value of an object that is cached is no matter of a file
same_value : (entry : Option Entry) (one other : Cell) → IsSome entry → (cell_or entry one).value ≡ (cell_or entry other).value
same_value None one other some = cc
same_value (Some entry) one other some = refl

pub cached_value : (laid : Laid) (x : ℕ) (one other : List ℕ) → IsSome (held laid.cache x) → values_in laid one x ≡ values_in laid other x
cached_value laid x one other some = same_value (held laid.cache x) (cell_of x one) (cell_of x other) some

-- the LSN that is reported without the file is that of the pair
cell_lsn_or : (h : Option Entry) (lsn : ℕ) (cell : Cell) → lsn ≡ cell.lsn → lsn_or h lsn ≡ (cell_or h cell).lsn
cell_lsn_or None lsn cell same = same
cell_lsn_or (Some e) lsn cell same = refl

pub lsn_told : (file : List ℕ) (laid : Laid) (x : ℕ) → IsLaidOn laid file → x < laid.slots.params.objects → object_lsn laid x ≡ (cell_in laid file x).lsn
lsn_told file laid x is below =
    cell_lsn_or (held laid.cache x) (lsn_in laid.slots x) (cell_of x file) (lsn_is laid.slots file x is.slots below)
