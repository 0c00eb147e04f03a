-- What a redo enters of a record: values that are made again, and an entry of the graph. Nothing is logged.
use Rattle.std.proofs.Common.{◌≡◌, ℕ, List, [], ◌∷◌, ◌++◌}
use Rattle.std.specs.Prelude.{◌&&◌, ◌||◌, Result, Ok, Err}
use Rattle.oper_core.specs.State.{is_among}
use Rattle.dirty_cache.specs.Contents.{held, is_dirty}
use Rattle.install_order.specs.declared.entry.Entry.{Entry}
use Rattle.running_store.specs.Calls.Commands.{IsLeft}
use Rattle.running_store.specs.Laid.{IsLaidOn, with_chosen}
use Rattle.running_store.specs.Parts.{Volatile}
use Rattle.running_store.specs.StoreView.{StoreView}

-- Some objects that the entry's member writes are set: they are cached under its LSN, each with the value made for it,
-- and are dirty; and the graph has the entry.
pub record IsEntered (before after : Volatile) (due : List ℕ) (e : Entry) (made : List (List ℕ)) : Type 0 where
  pub slots : after.objects.slots ≡ before.objects.slots
  pub held : (x : ℕ) → held after.objects.cache x ≡ with_chosen (held before.objects.cache) e.lsn due e.writes made x
  pub dirty : (x : ℕ) → is_dirty after.objects.cache x ≡ ((is_among x due && is_among x e.writes) || is_dirty before.objects.cache x)
  pub entries : after.entries ≡ before.entries ++ e ∷ []

-- A store's objects and graph are those after it, and all else of the store is as it was.
pub record IsEntry (before after : StoreView) (due : List ℕ) (e : Entry) (made : List (List ℕ)) : Type 0 where
  pub entered : IsEntered before.parts.volatile after.parts.volatile due e made
  pub laid : (file : List ℕ) → IsLaidOn before.parts.volatile.objects file → IsLaidOn after.parts.volatile.objects file
  pub log : after.parts.log ≡ before.parts.log
  pub counted : after.identities ≡ before.identities
  pub flag : after.broken ≡ before.broken

-- For want of memory nothing is entered, and the log too is as it was.
pub record IsNotEntered (before after : StoreView) : Type 0 where
  pub left : IsLeft before after
  pub log : after.parts.log ≡ before.parts.log

abbrev pub HasEntered : {T E : Type 0} → StoreView → StoreView → List ℕ → Entry → List (List ℕ) → Result T E → Type 0
HasEntered before after due e made (Ok value) = IsEntry before after due e made
HasEntered before after due e made (Err err) = IsNotEntered before after
