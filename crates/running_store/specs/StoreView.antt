-- A running store, as contracts see it.
use Rattle.std.specs.Prelude.{◌-◌, ◌≤◌, ℕ, Bool, List}
use Rattle.formats.specs.declared.layout.Layout.{Layout}
use Rattle.formats.specs.declared.params.Params.{Params}
use Rattle.install_order.specs.declared.entry.Entry.{Entry}
use Rattle.log_blocks.specs.LogView.{used_of}
use Rattle.log_records.specs.RecordLog.{RecordLogView}
use Rattle.stable_objects.specs.SlotsView.{layout_of}
use Rattle.running_store.specs.Laid.{Laid}
use Rattle.running_store.specs.Parts.{Parts, parts}
use Rattle.running_store.specs.Taking.{ArePartsInUse}

pub record StoreView : Type 0 where
  -- its log, its objects, and the entries of its write graph
  pub parts : Parts
  -- so many identity writes were logged since it was opened
  pub identities : ℕ
  -- a call was answered that the disk failed
  pub broken : Bool

-- the store that these parts make
abbrev pub view_of : RecordLogView → Laid → List Entry → ℕ → Bool → StoreView
view_of log objects entries identities broken = record { parts = parts log objects entries; identities = identities; broken = broken }

-- the LSNs of the store
abbrev pub store_params : StoreView → Params
store_params store = store.parts.volatile.objects.slots.params

-- where its slots stand
abbrev pub store_layout : StoreView → Layout
store_layout store = layout_of store.parts.volatile.objects.slots

-- the number of its next record
abbrev pub next_of : StoreView → ℕ
next_of store = store.parts.log.next

-- so many numbers are given from one store to the next: in a call that logs nothing else with a number, so many identity
-- writes
abbrev pub logged_since : StoreView → StoreView → ℕ
logged_since before after = next_of after - next_of before

-- the length of its log, what waits for a force counted
abbrev pub log_length : StoreView → ℕ
log_length store = used_of store.parts.log.log

-- What holds of a store that is not broken: its parts are in use, and no more identity writes were logged than there are
-- LSNs below the next.
pub record IsUsable (it : Parts) (identities : ℕ) : Type 0 where
  pub in_use : ArePartsInUse it
  pub counted : identities ≤ it.log.next
