-- Which world the parts of a running store show.
pub mod InUse
pub mod Joins
pub mod Stored
pub mod Reads
pub mod Unchanged
use Rattle.std.specs.Prelude.{◌≡◌, ◌≢◌, ◌+◌, ◌-◌, ◌<◌, ◌≤◌, ◌^◌, ◌||◌, ◌&&◌, ◌==◌, ℕ, Bool, true, false, All, Some, List, [], ◌∷◌, ◌++◌, take, drop}
use Rattle.std.specs.List.{list_any}
use Rattle.disk_model.specs.Disk.{Disk, IsSettled}
use Rattle.disk_model.specs.declared.machine.FileNo.TheVariants.{Objects}
use Rattle.oper_core.specs.Cell.{Cell}
use Rattle.oper_core.specs.State.{is_among}
use Rattle.oper_core.specs.Meaning.{Meaning}
use Rattle.oper_core.specs.declared.bounds.Bounds.{Bounds}
use Rattle.formats.specs.Objects.{bounds_of}
use Rattle.formats.specs.Records.{record_code}
use Rattle.formats.specs.declared.params.Params.{Params}
use Rattle.formats.specs.declared.record.Record.{Record}
use Rattle.formats.specs.declared.record.Record.TheVariants.{Command as Logged_command, Identity as Logged_identity}
use Rattle.log_records.specs.RecordLog.{RecordLogView, Keeps, counts}
use Rattle.stable_objects.specs.SlotsView.{lsn_in}
use Rattle.dirty_cache.specs.Contents.{held, is_dirty}
use Rattle.dirty_cache.specs.declared.entry.Entry.{Entry as Pair}
use Rattle.install_order.specs.declared.entry.Entry.{Entry}
use Rattle.install_order.specs.Entries.{accesses}
use Rattle.write_graph.specs.Graph.{lsns}
use Rattle.explain_core.specs.History.{Member, reads_of, writes_of}
use Rattle.explain_core.specs.History.Member.{Command, Identity}
use Rattle.explain_core.specs.World.{World, NoGroup, graph_access}
use Rattle.explain_core.specs.Sound.{IsSound}
use Rattle.standing.specs.Members.{members_of, tables_in}
use Rattle.standing.specs.Standing.{stored, FilesShow}
use Rattle.running_store.specs.Courses.{is_identity_at}
use Rattle.running_store.specs.Running.{IsRunning}
use Rattle.running_store.specs.Laid.{Laid, IsLaidOn, cell_or, with_entries}

-- what operations mean in a store with these numbers
abbrev pub meaning_in : {O : Type 0} → (Bounds → Meaning O) → Params → Meaning O
meaning_in meaning p = meaning (bounds_of p)

-- what is in memory beside the log: the objects, and the entries of the write graph
pub record Volatile : Type 0 where
  pub objects : Laid
  pub entries : List Entry

-- what is in memory
pub record Parts : Type 0 where
  pub log : RecordLogView
  pub volatile : Volatile

abbrev pub volatile : Laid → List Entry → Volatile
volatile objects entries = record { objects = objects; entries = entries }

abbrev pub parts : RecordLogView → Laid → List Entry → Parts
parts log objects entries = record { log = log; volatile = volatile objects entries }

-- an object's pair as `cell_in` has it; past the last object of the store that of `stored`
abbrev pub cell_at : Params → Laid → List ℕ → ℕ → Cell
cell_at p objects file x = cell_or (held objects.cache x) (stored p file x)

-- The objects are laid on the file, whose slots have the world's cells, and are in all the world's cache; what is cached
-- is of objects that there are, and is dirty exactly where the world's two LSNs differ. The entries are the members
-- of the world's graph, with what these read and write, and which of them are identity writes. Whether anything is left to replay is not said, nor is anything of
-- the log.
pub record ShowsVolatile {O : Type 0} (m : Meaning O) (p : Params) (file : List ℕ) (it : Volatile) (w : World O) : Type 0 where
  pub params : it.objects.slots.params ≡ p
  pub laid : IsLaidOn it.objects file
  pub below : (x : ℕ) (pair : Pair) → held it.objects.cache x ≡ Some pair → x < p.objects
  pub slots : (x : ℕ) → stored p file x ≡ w.slots x
  pub cache : (x : ℕ) → cell_at p it.objects file x ≡ w.cache x
  pub dirty : (x : ℕ) → is_dirty it.objects.cache x ≡ true → (w.slots x).lsn ≢ (w.cache x).lsn
  pub members : (n : ℕ) → is_among n (lsns it.entries) ≡ w.graph n
  pub accesses : accesses it.entries ≡ graph_access m w
  pub identities : (n : ℕ) → list_any (λ e. (e.lsn == n) && e.identity) it.entries ≡ (w.graph n && is_identity_at w.history n)

-- The log in force has the stable members from the base on and the stable checkpoints, and the others wait in its buffer.
pub record ShowsLog {O : Type 0} (m : Meaning O) (d : Disk) (log : RecordLogView) (w : World O) : Type 0 where
  pub stable : List (Record O)
  pub pending : List (Record O)
  pub keeps : Keeps m d log stable pending
  pub base : log.log.header.base ≡ w.base
  pub commands_before : log.log.header.commands ≡ w.commands_before
  pub forced : members_of stable ≡ drop (w.base - 1) (take w.forced w.history)
  pub waiting : members_of pending ≡ drop w.forced w.history
  pub tables : tables_in stable ≡ w.tables
  pub pending_tables : tables_in pending ≡ w.pending

-- Parts and files show a sound world in which nothing is left to replay and no group is open. The machine reports its
-- files, and is settled.
pub record Shows {O : Type 0} (m : Meaning O) (p : Params) (d : Disk) (it : Parts) (w : World O) : Type 0 where
  pub told : d.tells_files
  pub running : IsRunning m w
  pub bounds : it.log.bounds ≡ bounds_of p
  pub store : ShowsVolatile m p (d.reads Objects) it.volatile w
  pub log : ShowsLog m d it.log w

-- Store and files show a sound world in which no group is open, perhaps in the middle of a redo: the files show what is
-- stable of it. The machine reports its files, and is settled.
pub record VolatileShows {O : Type 0} (m : Meaning O) (p : Params) (d : Disk) (it : Volatile) (w : World O) : Type 0 where
  pub told : d.tells_files
  pub settled : IsSettled d
  pub sound : IsSound m w
  pub alone : NoGroup w
  pub store : ShowsVolatile m p (d.reads Objects) it w
  pub files : FilesShow m p d.reads w

-- What holds of a store in memory on every machine, with this next LSN, which is above every LSN in the graph: a
-- dirty object's LSN is above that of its slot and below the next LSN, and a clean one has that of its slot.
pub record AreInUse (p : Params) (next : ℕ) (it : Volatile) : Type 0 where
  pub params : it.objects.slots.params ≡ p
  pub low : next ≤ 2 ^ 62
  pub above : All (λ n. n < next) (lsns it.entries)
  pub dirty : (x : ℕ) (pair : Pair) → is_dirty it.objects.cache x ≡ true → held it.objects.cache x ≡ Some pair
      → (lsn_in it.objects.slots x < pair.lsn) × (pair.lsn < next)
  pub clean : (x : ℕ) (pair : Pair) → is_dirty it.objects.cache x ≡ false → held it.objects.cache x ≡ Some pair → pair.lsn ≡ lsn_in it.objects.slots x

-- a member with its LSN, as the log has it
abbrev pub record_of : {O : Type 0} → ℕ → Member O → Record O
record_of lsn (Command op) = Logged_command lsn op
record_of lsn (Identity x value) = Logged_identity lsn x value

abbrev pub is_identity : {O : Type 0} → Member O → Bool
is_identity (Command op) = false
is_identity (Identity x value) = true

-- the entry of the write graph of a member with this LSN
abbrev pub entry_of : {O : Type 0} → Meaning O → ℕ → Member O → Entry
entry_of m lsn member = record { lsn = lsn; reads = reads_of m member; writes = writes_of m member; identity = is_identity member }

-- A member is appended, a command or an identity write: its record waits, each object that it writes is cached under its
-- LSN with the value made, and the graph has an entry of it.
pub record IsAppended {O : Type 0} (m : Meaning O) (before after : Parts) (member : Member O) (made : List (List ℕ)) : Type 0 where
  pub log : after.log ≡ record before.log {
    log = record before.log.log { pending = before.log.log.pending ++ record_code m (record_of before.log.next member); room = after.log.log.room };
    next = before.log.next + 1;
    accepted = before.log.accepted + counts (record_of before.log.next member);
  }
  pub slots : after.volatile.objects.slots ≡ before.volatile.objects.slots
  pub held : (x : ℕ) → held after.volatile.objects.cache x ≡ with_entries (held before.volatile.objects.cache) before.log.next (writes_of m member) made x
  pub dirty : (x : ℕ) → is_dirty after.volatile.objects.cache x ≡ (is_among x (writes_of m member) || is_dirty before.volatile.objects.cache x)
  pub entries : after.volatile.entries ≡ before.volatile.entries ++ entry_of m before.log.next member ∷ []
