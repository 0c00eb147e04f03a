-- What a log of records holds, in its files and in the buffer after them.
use Rattle.std.specs.Prelude.{◌≡◌, ◌⊎◌, ◌<◌, ◌≤◌, ◌^◌, ℕ, ◌+◌, List, [], ◌∷◌, ◌++◌, length, map}
use Rattle.disk_model.specs.Disk.{Files, Disk, In, IsSettled}
use Rattle.oper_core.specs.Meaning.{Meaning, IsSmall}
use Rattle.oper_core.specs.declared.bounds.Bounds.{Bounds}
use Rattle.formats.specs.InForce.{IsInForce}
use Rattle.formats.specs.Log.{Header, IsHeader, end_of}
use Rattle.formats.specs.Records.{payload_of, records_of, commands_of, next_after, AreRecords, IsRecordLog, HoldsRecordLog}
use Rattle.formats.specs.declared.record.Record.{Record}
use Rattle.log_blocks.specs.LogView.{LogView}

-- a log of records, as contracts see it
pub record RecordLogView : Type 0 where
  pub bounds : Bounds
  pub log : LogView
  -- the number of the next record
  pub next : ℕ
  -- so many commands were accepted since the store was made
  pub accepted : ℕ
  -- so many of them are stable
  pub forced : ℕ

-- the bounds are small, and the LSNs of the log's header, of the next record and of the accepted commands are within
-- their ranges
pub record IsCounted (b : Bounds) (h : Header) (accepted next : ℕ) : Type 0 where
  pub small : IsSmall b
  pub in_range : IsHeader h
  pub base : h.base ≤ next
  pub last : next ≤ 2 ^ 62
  -- each of them has an LSN before the next
  pub count : accepted < next

-- a file is a log of these records
pub record HoldsRecords {O : Type 0} (m : Meaning O) (header : Header) (records : List (Record O)) (file : List ℕ) : Type 0 where
  pub groups : List (List (Record O))
  pub log : IsRecordLog m header groups file
  pub records_are : records_of groups ≡ records

-- The log in force and the buffer after it hold these records: the stable ones, and those that wait for a force.
pub record Keeps {O : Type 0} (m : Meaning O) (d : Disk) (log : RecordLogView) (stable pending : List (Record O)) : Type 0 where
  pub settled : IsSettled d
  pub in_force : IsInForce log.log.active log.log.header.epoch d.reads
  pub groups : List (List (Record O))
  pub file : IsRecordLog m log.log.header groups (d.reads log.log.active)
  pub stable_are : records_of groups ≡ stable
  pub place : log.log.end ≡ end_of (map (payload_of m) groups)
  pub pending_are : log.log.pending ≡ payload_of m pending
  pub placed : AreRecords m log.log.header.base log.log.header.base (stable ++ pending)
  pub next_is : log.next ≡ next_after log.log.header.base (stable ++ pending)
  pub accepted_are : log.accepted ≡ log.log.header.commands + length (commands_of (stable ++ pending))
  pub forced_are : log.forced ≡ log.log.header.commands + length (commands_of stable)

-- what a crash within a force leaves: the log holds the stable records, or all; all else is as it was
pub record IsForcedPartly {O : Type 0} (m : Meaning O) (d : Disk) (log : RecordLogView) (stable pending : List (Record O)) (files : Files) (said : List ℕ) : Type 0 where
  pub each_file : In log.log.active (λ old new. HoldsRecords m log.log.header stable new ⊎ HoldsRecords m log.log.header (stable ++ pending) new) d.reads files
  pub nothing_said : said ≡ d.said

-- how many commands a record is
abbrev pub counts : {O : Type 0} → Record O → ℕ
counts r = length (commands_of (r ∷ []))

-- these files hold the log, and its next LSN is the one after their records
pub record IsHeldIn {O : Type 0} (m : Meaning O) (files : Files) (log : RecordLogView) : Type 0 where
  pub groups : List (List (Record O))
  pub file : HoldsRecordLog m log.log.active log.log.header groups files
  pub next : log.next ≡ next_after log.log.header.base (records_of groups)

-- a log that was loaded: the files hold its records, and nothing waits
pub record IsLoaded {O : Type 0} (m : Meaning O) (b : Bounds) (old new : Disk) (log : RecordLogView) : Type 0 where
  pub groups : List (List (Record O))
  pub file : HoldsRecordLog m log.log.active log.log.header groups old.reads
  pub bounds : log.bounds ≡ b
  pub keeps : IsSettled old → Keeps m new log (records_of groups) []
