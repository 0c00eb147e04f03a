-- What the replay of one record reads, and what it changes: in memory, and of a world.
use Rattle.std.specs.Prelude.{◌≡◌, ◌<◌, ◌&&◌, ◌||◌, ⊤, ℕ, Bool, true, false, nat_lt, nat_le, if◌then◌else◌, All, Some, List, [], ◌∷◌, ◌++◌}
use Rattle.disk_model.specs.Disk.{Disk}
use Rattle.oper_core.specs.Meaning.{Meaning}
use Rattle.oper_core.specs.State.{is_among, value_for}
use Rattle.dirty_page_table.specs.RedoStarts.{redo_from}
use Rattle.dirty_page_table.specs.declared.table.DirtyPageTable.{DirtyPageTable}
use Rattle.formats.specs.declared.record.Record.{Record}
use Rattle.formats.specs.declared.record.Record.TheVariants.{Command, Identity, Checkpoint}
use Rattle.dirty_cache.specs.Contents.{held, is_dirty}
use Rattle.install_order.specs.Computed.{some_below}
use Rattle.install_order.specs.declared.entry.Entry.{Entry}
use Rattle.write_graph.specs.Graph.{lsns}
use Rattle.explain_core.specs.History.{Member, with_lsn, writes_of}
use Rattle.explain_core.specs.History.Member.{Command as a_command, Identity as an_identity}
use Rattle.explain_core.specs.World.{World, step, is_redone, plan_of}
use Rattle.explain_core.specs.World.Step.{Replay}
use Rattle.standing.specs.Members.{table_of}
use Rattle.running_store.specs.Calls.Fetches.{IsFetch}
use Rattle.running_store.specs.Laid.{IsLaidOn, Laid, object_lsn}
use Rattle.running_store.specs.Parts.{Volatile, entry_of}
use Rattle.running_store.specs.StoreView.{StoreView}

-- the objects that a record reads: those that its command reads, or none
abbrev pub read_by : {O : Type 0} → Meaning O → Record O → List ℕ
read_by m (Command lsn op) = m.reads op
read_by m (Identity lsn x value) = []
read_by m (Checkpoint checkpoint) = []

-- A redo of the record with the LSN n sets x: the record writes x, whose LSN is below n, and the table does not
-- start x later.
abbrev pub is_due : DirtyPageTable → Laid → ℕ → List ℕ → ℕ → Bool
is_due table laid n writes x = is_among x writes && (nat_lt (object_lsn laid x) n && nat_le (redo_from table x) n)

-- the entries with one more, where some object was set; else the same
abbrev pub with_entry : Bool → List Entry → Entry → List Entry
with_entry true entries e = entries ++ e ∷ []
with_entry false entries e = entries

-- The member that is next in the world is replayed: exactly the objects that the world's replay sets are cached under its
-- LSN, with the values made, and they are dirty; the graph has an entry of it exactly where there are such objects.
pub record IsReplayed {O : Type 0} (m : Meaning O) (w : World O) (it : Member O) (made : List (List ℕ)) (before after : Volatile) : Type 0 where
  pub slots : after.objects.slots ≡ before.objects.slots
  pub held : (x : ℕ) → held after.objects.cache x
      ≡ (if is_redone m w x then Some (record { lsn = w.next; bytes = value_for x (writes_of m it) made }) else held before.objects.cache x)
  pub dirty : (x : ℕ) → is_dirty after.objects.cache x ≡ (is_redone m w x || is_dirty before.objects.cache x)
  pub entries : after.entries ≡ with_entry (some_below m.objects (is_redone m w)) before.entries (entry_of m w.next it)

-- Objects were set in memory by a record whose LSN is below each of these, or none were: the slots and the log stay, and what is
-- laid on a file is so still.
pub record IsInMemory (before after : StoreView) (within : ℕ → Type 0) : Type 0 where
  pub slots : after.parts.volatile.objects.slots ≡ before.parts.volatile.objects.slots
  pub log : after.parts.log ≡ before.parts.log
  pub identities : after.identities ≡ before.identities
  pub flag : after.broken ≡ before.broken
  pub laid : (file : List ℕ) → IsLaidOn before.parts.volatile.objects file → IsLaidOn after.parts.volatile.objects file
  pub entries : (k : ℕ) → within k → All (λ n. n < k) (lsns before.parts.volatile.entries) → All (λ n. n < k) (lsns after.parts.volatile.entries)

-- slots were read before that
pub record IsReplay (old new : Disk) (before after : StoreView) (within : ℕ → Type 0) (failed : Type 0) : Type 0 where
  pub here : StoreView
  pub read : IsFetch old new before here failed
  pub set : IsInMemory here after within

-- the member has the next LSN to replay in the world, and the table is that of the world's plan
pub record IsNext {O : Type 0} (w : World O) (table : DirtyPageTable) (n : ℕ) (it : Member O) : Type 0 where
  pub here : n ≡ w.next
  pub member_is : with_lsn w.history n ≡ Some it
  pub plan : table_of table ≡ plan_of w.tables w.base

-- the record is the next to be replayed; a checkpoint always is
abbrev pub IsNextRecord : {O : Type 0} → World O → DirtyPageTable → Record O → Type 0
IsNextRecord w table (Command lsn op) = IsNext w table lsn (a_command op)
IsNextRecord w table (Identity lsn x value) = IsNext w table lsn (an_identity x value)
IsNextRecord w table (Checkpoint checkpoint) = ⊤

-- the world after the replay of a record; a checkpoint is passed over
abbrev pub after_record : {O : Type 0} → Meaning O → World O → Record O → World O
after_record m w (Command lsn op) = step m w Replay
after_record m w (Identity lsn x value) = step m w Replay
after_record m w (Checkpoint checkpoint) = w
