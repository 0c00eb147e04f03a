-- What a command that is done leaves of the objects.
use Rattle.std.specs.Prelude.{◌≡◌, ◌||◌, ℕ, List, Option}
use Rattle.oper_core.specs.Meaning.{Meaning}
use Rattle.oper_core.specs.State.{is_among}
use Rattle.oper_core.specs.declared.bounds.Bounds.{Bounds}
use Rattle.dirty_cache.specs.Contents.{held, is_dirty}
use Rattle.running_store.specs.Laid.{Laid, with_entries}
use Rattle.running_store.specs.Laid.Lent.{inputs_in}
use Rattle.running_store.specs.Parts.{meaning_in}

-- the objects that it writes have the values that it makes of what it reads, under this LSN, and are dirty
pub record HasRun {O : Type 0} (meaning : Bounds → Meaning O) (old new : Laid) (lsn : ℕ) (op : O) (copies : Option (List (List ℕ))) : Type 0 where
  pub entries : (x : ℕ) → held new.cache x ≡ with_entries (held old.cache) lsn ((meaning_in meaning old.slots.params).writes op)
      ((meaning_in meaning old.slots.params).effect op (inputs_in old.cache ((meaning_in meaning old.slots.params).reads op) copies)) x
  pub dirty : (x : ℕ) → is_dirty new.cache x ≡ (is_among x ((meaning_in meaning old.slots.params).writes op) || is_dirty old.cache x)
