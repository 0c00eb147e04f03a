-- The records of a log's payloads: one after the other, without padding.
use Rattle.std.specs.Prelude.{◌≡◌, ◌<◌, ◌≤◌, ◌+◌, ◌^◌, ⊤, ℕ, Option, None, Some, List, [], ◌∷◌, ◌++◌, length, map, All}
use Rattle.std.specs.List.{flat_map}
use Rattle.std.specs.Option.{option_or}
use Rattle.std.specs.List.Sorted.{IsStrictlyIncreasing}
use Rattle.byteorder.specs.Endian.{little_bytes}
use Rattle.oper_core.specs.Meaning.{Meaning, IsInGrammar}
use Rattle.dirty_page_table.specs.declared.table.DirtyPageTable.{DirtyPageTable}
use Rattle.dirty_page_table.specs.Codec.{IsTable, table_code}
use Rattle.disk_model.specs.Disk.{Files}
use Rattle.disk_model.specs.declared.machine.FileNo.{FileNo}
use Rattle.formats.specs.InForce.{IsInForce}
use Rattle.formats.specs.Log.{Header, IsWholeLog}
use Rattle.formats.specs.declared.record.Record.{Record}
use Rattle.formats.specs.declared.record.Record.TheVariants.{Command, Identity, Checkpoint}

-- a command is the kind 1, its LSN, and the operation's code; an identity write is the kind 2, its LSN, the object,
-- the length of its value, and the value; a checkpoint is the kind 3 and its table
abbrev pub record_code : {O : Type 0} → Meaning O → Record O → List ℕ
record_code m (Command lsn op) = 1 ∷ (little_bytes 8 lsn ++ m.code op)
record_code m (Identity lsn x value) = 2 ∷ (little_bytes 8 lsn ++ (little_bytes 4 x ++ (little_bytes 4 (length value) ++ value)))
record_code m (Checkpoint table) = 3 ∷ table_code table

-- a record is in the grammar: its operation is, or its object is there and its value within CAP, or its table is
-- (that a number is the next one, and below 2^62, is no part of the grammar, but of the record's place: IsPlaced)
abbrev pub IsRecord : {O : Type 0} → Meaning O → Record O → Type 0
IsRecord m (Command lsn op) = (lsn < 2 ^ 64) × IsInGrammar m op
IsRecord m (Identity lsn x value) = (lsn < 2 ^ 64) × (x < m.objects) × (length value ≤ m.cap)
IsRecord m (Checkpoint table) = IsTable table

-- The checkpoint stands where the next LSN is this one: it names that LSN, its objects rise and are there, and each
-- redo start is from the base on and before that LSN.
pub record IsCheckpointAt {O : Type 0} (m : Meaning O) (base next : ℕ) (table : DirtyPageTable) : Type 0 where
  pub next_is : table.next ≡ next
  pub rising : IsStrictlyIncreasing (map (λ s. s.0) table.starts)
  pub there : All (λ s. s.0 < m.objects) table.starts
  pub from_base : All (λ s. base ≤ s.1) table.starts
  pub before : All (λ s. s.1 < next) table.starts

-- a record is right in its place, where the next LSN is this one: it has that LSN, which a store may give, or it
-- is a checkpoint for it
abbrev pub IsPlaced : {O : Type 0} → Meaning O → ℕ → ℕ → Record O → Type 0
IsPlaced m base next (Command lsn op) = (lsn ≡ next) × (lsn < 2 ^ 62)
IsPlaced m base next (Identity lsn x value) = (lsn ≡ next) × (lsn < 2 ^ 62)
IsPlaced m base next (Checkpoint table) = IsCheckpointAt m base next table

-- the next LSN after a record: a checkpoint takes none
abbrev pub next_behind : {O : Type 0} → ℕ → Record O → ℕ
next_behind next (Command lsn op) = next + 1
next_behind next (Identity lsn x value) = next + 1
next_behind next (Checkpoint table) = next

-- the LSN that a record has; a checkpoint has none
abbrev pub lsn_of : {O : Type 0} → Record O → Option ℕ
lsn_of (Command lsn op) = Some lsn
lsn_of (Identity lsn x value) = Some lsn
lsn_of (Checkpoint table) = None

-- the next LSN after records
abbrev pub next_after : {O : Type 0} → ℕ → List (Record O) → ℕ
next_after next [] = next
next_after next (r ∷ records) = next_after (next_behind next r) records

-- records in their grammar, each right in its place
abbrev pub AreRecords : {O : Type 0} → Meaning O → ℕ → ℕ → List (Record O) → Type 0
AreRecords m base next [] = ⊤
AreRecords m base next (r ∷ records) = IsRecord m r × IsPlaced m base next r × AreRecords m base (next_behind next r) records

-- the payload that holds these records
abbrev pub payload_of : {O : Type 0} → Meaning O → List (Record O) → List ℕ
payload_of m records = flat_map (record_code m) records

-- the operations of the commands
abbrev pub commands_of : {O : Type 0} → List (Record O) → List O
commands_of [] = []
commands_of (Command lsn op ∷ records) = op ∷ commands_of records
commands_of (Identity lsn x value ∷ records) = commands_of records
commands_of (Checkpoint table ∷ records) = commands_of records

-- the LSNs of the records with an LSN rise, from one LSN on and below another
abbrev pub Rise : {O : Type 0} → ℕ → ℕ → List (Record O) → Type 0
Rise low end [] = ⊤
Rise low end (Command lsn op ∷ records) = (low ≤ lsn) × (lsn < end) × Rise (lsn + 1) end records
Rise low end (Identity lsn x value ∷ records) = (low ≤ lsn) × (lsn < end) × Rise (lsn + 1) end records
Rise low end (Checkpoint table ∷ records) = Rise low end records

-- the table of the last checkpoint among the records
abbrev pub last_checkpoint : {O : Type 0} → List (Record O) → Option DirtyPageTable
last_checkpoint [] = None
last_checkpoint (Command lsn op ∷ records) = last_checkpoint records
last_checkpoint (Identity lsn x value ∷ records) = last_checkpoint records
last_checkpoint (Checkpoint table ∷ records) = option_or (last_checkpoint records) (Some table)

-- the records of all blocks, in their order
abbrev pub records_of : {O : Type 0} → List (List (Record O)) → List (Record O)
records_of groups = flat_map (λ group. group) groups

-- a log of these records, a group for each block
pub record IsRecordLog {O : Type 0} (m : Meaning O) (header : Header) (groups : List (List (Record O))) (file : List ℕ) : Type 0 where
  pub log : IsWholeLog header (map (payload_of m) groups) file
  pub placed : AreRecords m header.base header.base (records_of groups)

-- the log in force stands in this file, with this header, and these are its records
pub record HoldsRecordLog {O : Type 0} (m : Meaning O) (active : FileNo) (header : Header) (groups : List (List (Record O))) (files : Files) : Type 0 where
  pub in_force : IsInForce active header.epoch files
  pub log : IsRecordLog m header groups (files active)
