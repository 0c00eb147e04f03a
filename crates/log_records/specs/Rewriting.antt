-- What a rewrite of a log of records leaves.
use Rattle.std.specs.Prelude.{◌≡◌, ◌≢◌, ⊤, ◌⊎◌, ◌<◌, ◌≤◌, ◌+◌, ◌^◌, ℕ, Bool, false, not, nat_le, nat_lt, ◌&&◌, if◌then◌else◌, List, [], ◌∷◌, ◌++◌, length, map, filter, Result, OnErr, OnOk, IfErr}
use Rattle.disk_model.specs.Disk.{Files, Disk, In, Any, IsSettled, LeavesOnly, Stays}
use Rattle.disk_model.specs.declared.machine.FileNo.{FileNo}
use Rattle.dirty_page_table.specs.declared.table.DirtyPageTable.{DirtyPageTable}
use Rattle.oper_core.specs.Meaning.{Meaning}
use Rattle.formats.specs.InForce.{other_of}
use Rattle.formats.specs.Log.{Header}
use Rattle.formats.specs.Records.{record_code, payload_of, records_of, commands_of, IsRecord, IsPlaced, HoldsRecordLog}
use Rattle.formats.specs.declared.read_err.ReadErr.{ReadErr}
use Rattle.formats.specs.declared.read_err.ReadErr.TheVariants as of_read
use Rattle.formats.specs.declared.record.Record.{Record}
use Rattle.formats.specs.declared.record.Record.TheVariants.{Command, Identity, Checkpoint}
use Rattle.log_blocks.specs.LogView.{LogView, used_of}
use Rattle.log_blocks.specs.Rewriting.{next_header, rewritten, file_length}
use Rattle.log_records.specs.RecordLog.{RecordLogView, Keeps}
use Rattle.log_records.specs.declared.rewrite_err.RewriteErr.{RewriteErr}
use Rattle.log_records.specs.declared.rewrite_err.RewriteErr.TheVariants.{DiskFault, LogFull, Damaged, Exhausted, Memory}

-- a record has an LSN, from this one on
abbrev pub is_from_lsn : {O : Type 0} → ℕ → Record O → Bool
is_from_lsn from (Command lsn op) = nat_le from lsn
is_from_lsn from (Identity lsn x value) = nat_le from lsn
is_from_lsn from (Checkpoint table) = false

-- the commands and identity writes from an LSN on
abbrev pub from_lsn : {O : Type 0} → ℕ → List (Record O) → List (Record O)
from_lsn from records = filter (is_from_lsn from) records

-- a record has an LSN, from this one on and below that one
abbrev pub is_between : {O : Type 0} → ℕ → ℕ → Record O → Bool
is_between from end (Command lsn op) = nat_le from lsn && nat_lt lsn end
is_between from end (Identity lsn x value) = nat_le from lsn && nat_lt lsn end
is_between from end (Checkpoint table) = false

-- the commands and identity writes from an LSN on, below another
abbrev pub between_lsns : {O : Type 0} → ℕ → ℕ → List (Record O) → List (Record O)
between_lsns from end records = filter (is_between from end) records

-- all records but those from an LSN on
abbrev pub left_out : {O : Type 0} → ℕ → List (Record O) → List (Record O)
left_out from records = filter (λ r. not (is_from_lsn from r)) records

-- the records of the new log, where the old one has these: those with an LSN from its base on, and then this checkpoint
abbrev pub rewritten_records : {O : Type 0} → ℕ → DirtyPageTable → List (Record O) → List (Record O)
rewritten_records base table records = from_lsn base records ++ Checkpoint table ∷ []

-- Records in blocks, of which the first begins with those in hand: a record goes into the block of the one before it,
-- where that then has at most 2^30 bytes, and else begins the next.
abbrev pub blocks_behind : {O : Type 0} → Meaning O → List (Record O) → List (Record O) → List (List (Record O))
blocks_behind m hand [] = hand ∷ []
blocks_behind m hand (r ∷ records) =
    if nat_le (length (payload_of m (hand ++ r ∷ []))) (2 ^ 30) then blocks_behind m (hand ++ r ∷ []) records else hand ∷ blocks_behind m (r ∷ []) records

-- blocks are as full as whole records allow: the first record of the next one had no room
abbrev pub AreFull : {O : Type 0} → Meaning O → List (List (Record O)) → Type 0
AreFull m [] = ⊤
AreFull m (g ∷ []) = ⊤
AreFull m (g ∷ [] ∷ groups) = ⊥
AreFull m (g ∷ (r ∷ h) ∷ groups) = (2 ^ 30 < length (payload_of m g) + length (record_code m r)) × AreFull m ((r ∷ h) ∷ groups)

-- records in blocks, each as full as whole records allow
abbrev pub in_full_blocks : {O : Type 0} → Meaning O → List (Record O) → List (List (Record O))
in_full_blocks m records = blocks_behind m [] records

-- the bytes of the blocks of records of these lengths after so many bytes of a block in hand, whose head is not counted
abbrev pub blocks_length : ℕ → List ℕ → ℕ
blocks_length filled [] = 0
blocks_length filled (n ∷ lengths) = if nat_lt (2 ^ 30) (filled + n) then 5 + n + blocks_length n lengths else n + blocks_length (filled + n) lengths

-- the lengths of the codes of records
abbrev pub code_lengths : {O : Type 0} → Meaning O → List (Record O) → List ℕ
code_lengths m records = map (λ r. length (record_code m r)) records

-- the payloads of the new log
abbrev pub new_payloads : {O : Type 0} → Meaning O → ℕ → DirtyPageTable → List (Record O) → List (List ℕ)
new_payloads m base table stable = map (payload_of m) (in_full_blocks m (rewritten_records base table stable))

-- how many commands were accepted before its base
abbrev pub commands_before : {O : Type 0} → LogView → ℕ → List (Record O) → ℕ
commands_before log base stable = log.header.commands + length (commands_of (left_out base stable))

-- the log file after the rewrite
abbrev pub rewritten_log : {O : Type 0} → Meaning O → LogView → ℕ → DirtyPageTable → List (Record O) → LogView
rewritten_log m log base table stable = rewritten log base (commands_before log base stable) (new_payloads m base table stable)

-- A log may be rewritten from this base on, with this checkpoint: nothing waits, the base is a number of the log or the next
-- one, and the checkpoint is right after the records from there on, and goes into a block.
pub record IsRewritable {O : Type 0} (m : Meaning O) (log : RecordLogView) (base : ℕ) (table : DirtyPageTable) : Type 0 where
  pub waits : log.log.pending ≡ []
  pub low : log.log.header.base ≤ base
  pub high : base ≤ log.next
  pub place : IsPlaced m base log.next (Checkpoint table)
  pub grammar : IsRecord m (Checkpoint table)
  pub short : length (record_code m (Checkpoint table)) ≤ 2 ^ 30

-- the log in force stands in this file, with this header, and holds these records
pub record HoldsInForce {O : Type 0} (m : Meaning O) (active : FileNo) (header : Header) (records : List (Record O)) (files : Files) : Type 0 where
  pub groups : List (List (Record O))
  pub log : HoldsRecordLog m active header groups files
  pub records_are : records_of groups ≡ records

-- What a crash within a rewrite leaves: the log in force is the old one, or, whole, the new one in the other file. The
-- objects and the old log are as they were, and nothing was said.
pub record IsRewrittenPartly {O : Type 0} (m : Meaning O) (d : Disk) (log : LogView) (base : ℕ) (table : DirtyPageTable) (stable : List (Record O)) (files : Files) (said : List ℕ) : Type 0 where
  pub others : In (other_of log.active) Any d.reads files
  pub in_force : HoldsInForce m log.active log.header stable files
      ⊎ HoldsInForce m (other_of log.active) (next_header log base (commands_before log base stable)) (rewritten_records base table stable) files
  pub nothing_said : said ≡ d.said

-- What a crash within a rewrite leaves that fails: the log in force is the old one. The objects and the old log are as they
-- were, and nothing was said.
pub record IsOldLog {O : Type 0} (m : Meaning O) (d : Disk) (log : LogView) (stable : List (Record O)) (files : Files) (said : List ℕ) : Type 0 where
  pub others : In (other_of log.active) Any d.reads files
  pub in_force : HoldsInForce m log.active log.header stable files
  pub nothing_said : said ≡ d.said

-- The log keeps the records that it had. All that was done is on the disk, and no other log was in force at any moment.
pub record IsRefused {O : Type 0} (m : Meaning O) (before after : Disk) (log : RecordLogView) : Type 0 where
  pub kept : before.tells_files → (stable : List (Record O)) → Keeps m before log stable [] → Keeps m after log stable []
  pub settled : IsSettled before → IsSettled after
  pub any_moment : before.tells_moments → (stable : List (Record O)) → Keeps m before log stable [] → LeavesOnly before after (IsOldLog m before log.log stable)

-- over files that are reported, and hold these records, the number is the length of the new log file
abbrev pub IsNewLength : {O : Type 0} → Meaning O → Disk → RecordLogView → ℕ → DirtyPageTable → ℕ → Type 0
IsNewLength {O = O} m d log base table n = d.tells_files → (stable : List (Record O)) → Keeps m d log stable [] → n ≡ file_length (new_payloads m base table stable)

-- and over such files that length is at most this one
abbrev pub IsWithinLength : {O : Type 0} → Meaning O → Disk → RecordLogView → ℕ → DirtyPageTable → ℕ → Type 0
IsWithinLength {O = O} m d log base table most = d.tells_files → (stable : List (Record O)) → Keeps m d log stable [] → file_length (new_payloads m base table stable) ≤ most

-- Why a rewrite fails: at the last epoch; or else by a fault of the disk, by damage in the old log, out of memory,
-- or where the new file would have more bytes than it may have.
abbrev pub RewriteFails : Type 0 → (FileNo → ℕ → Type 0) → (ℕ → Type 0) → LogView → ℕ → RewriteErr → Type 0
RewriteFails rises fault length_is log most DiskFault = rises × (log.header.epoch < 2 ^ 62)
RewriteFails rises fault length_is log most (LogFull used need limit) = (used ≡ used_of log) × length_is need × (limit ≡ most) × (limit < need) × (log.header.epoch < 2 ^ 62)
RewriteFails rises fault length_is log most (Damaged file place) = fault file place × (log.header.epoch < 2 ^ 62)
RewriteFails rises fault length_is log most (Exhausted epoch) = (epoch ≡ log.header.epoch) × (epoch ≡ 2 ^ 62)
RewriteFails rises fault length_is log most Memory = log.header.epoch < 2 ^ 62

-- it reports damage in the old log
abbrev pub FindsDamage : RewriteErr → Type 0
FindsDamage DiskFault = ⊥
FindsDamage (LogFull used need limit) = ⊥
FindsDamage (Damaged file place) = ⊤
FindsDamage (Exhausted epoch) = ⊥
FindsDamage Memory = ⊥

-- a rewrite that could not read the old log
abbrev pub rewrite_from_read : ReadErr → RewriteErr
rewrite_from_read of_read.DiskFault = DiskFault
rewrite_from_read (of_read.Damaged file place) = Damaged file place
rewrite_from_read of_read.Memory = Memory

-- How a rewrite of this log ends. Where it fails the log is as it was, and is in force, unless a fault of the disk is reported.
-- Where the new file would have more bytes than it may have no file is changed. It succeeds only before the last epoch, and with a
-- file of at most so many bytes.
pub record IsRewriteEnd {O T : Type 0} (m : Meaning O) (before after : Disk) (log now : RecordLogView) (base : ℕ) (table : DirtyPageTable) (most : ℕ) (result : Result T RewriteErr) : Type 0 where
  pub kept : OnErr result (now ≡ log)
  pub refused : IfErr result (λ e. e ≢ DiskFault → IsRefused m before after log)
  pub long : before.tells_files → (stable : List (Record O)) → Keeps m before log stable [] → most < file_length (new_payloads m base table stable) → Stays before after
  pub made : OnOk result ((log.log.header.epoch < 2 ^ 62) × IsWithinLength m before log base table most)
