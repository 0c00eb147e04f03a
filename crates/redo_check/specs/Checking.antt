-- What is said of a store, and how it ends.
use Rattle.std.specs.Prelude.{◌≡◌, ⊤, ◌<◌, ◌≤◌, ◌+◌, ◌*◌, ◌-◌, ◌^◌, ◌++◌, ◌⊎◌, ℕ, List, [], None, Some, codes, map, min, true, false}
use Rattle.analysis_pass.specs.Analysis.{least_start, plan_table}
use Rattle.disk_model.specs.Disk.{Files, SaysFront}
use Rattle.disk_model.specs.declared.machine.FileNo.{FileNo}
use Rattle.disk_model.specs.declared.machine.FileNo.TheVariants.{Objects}
use Rattle.formats.specs.Bytes.{IsClosedAt}
use Rattle.formats.specs.FirstFault.{IsDamaged}
use Rattle.formats.specs.Image.{IsOpenSlot}
use Rattle.formats.specs.InForce.{HoldsLog}
use Rattle.formats.specs.Log.{Header, end_of}
use Rattle.formats.specs.Objects.{lsn_at, place_in}
use Rattle.formats.specs.Records.{HoldsRecordLog, next_after, payload_of, records_of}
use Rattle.formats.specs.declared.record.Record.{Record}
use Rattle.log_records.specs.Loading.{IsLoadFault}
use Rattle.op_codec.specs.AllOps.{all_meaning}
use Rattle.oper_core.specs.Meaning.{Meaning}
use Rattle.oper_core.specs.declared.bounds.Bounds.{Bounds}
use Rattle.script_lines.specs.Replies.{spaced}
use Rattle.redo_check.specs.Files.{IsLogLine, bounds_said, files_lines}
use Rattle.redo_check.specs.Lines.{line, number_line}
use Rattle.tool_output.specs.Lines.{damaged, not_a_store}
use Rattle.redo_check.specs.declared.records.Records.{Records}
use Rattle.redo_check.specs.declared.restart.Restart.{Restart}
use Rattle.tool_output.specs.declared.status.Status.{Status}
use Rattle.tool_output.specs.declared.status.Status.TheVariants as statuses
use Rattle.tool_output.specs.Found.{HasStore}

-- the log in force stands in this file, and ends at this place
abbrev pub EndsLog : Files → FileNo → ℕ → Type 0
EndsLog files active end = (header : Header) × (payloads : List (List ℕ)) × HoldsLog active header payloads files × (end ≡ end_of payloads)

-- the files hold a log of records with these counts
pub record HasRecords {O : Type 0} (m : Meaning O) (files : Files) (it : Records) : Type 0 where
  pub active : FileNo
  pub header : Header
  pub groups : List (List (Record O))
  pub log : HoldsRecordLog m active header groups files
  pub here : it.file ≡ active
  pub end : it.end ≡ end_of (map (payload_of m) groups)
  pub some : 1 ≤ it.next
  pub next : it.next ≡ next_after header.base (records_of groups)
  -- a redo starts at the least redo start of the last check
  pub start : it.start ≡ least_start (plan_table header.base (records_of groups)).next (plan_table header.base (records_of groups)).starts

-- the line of the records of a store of these bounds: the number after the last one; or where the first fault of the logs is
pub data IsRecordsOf (files : Files) (b : Bounds) (text : List ℕ) : Type 0 where
  whole : (it : Records) → HasRecords (all_meaning b) files it → text ≡ number_line it.file it.end (codes "next number") it.next true → IsRecordsOf files b text
  broken : (file : FileNo) (place : ℕ) → IsLoadFault (all_meaning b) files file place → text ≡ line file place (codes "records") false → IsRecordsOf files b text

-- the same where the objects file says the bounds; else there is none
pub data IsRecordsLine (files : Files) (text : List ℕ) : Type 0 where
  none_said : bounds_said (files Objects) ≡ None → text ≡ [] → IsRecordsLine files text
  by_bounds : (b : Bounds) → bounds_said (files Objects) ≡ Some b → IsRecordsOf files b text → IsRecordsLine files text

-- The files have no fault: each check of each of them holds, and no slot has a number that no record of the log has. This is
-- what a restart does with them.
pub record IsRestart (files : Files) (it : Restart) : Type 0 where
  pub store : HasStore files it.bounds
  pub records : HasRecords (all_meaning it.bounds) files it.records
  pub none_late : (x s : ℕ) → IsOpenSlot (files Objects) x s → lsn_at (place_in (files Objects) x s) (files Objects) < it.records.next

-- the memory that is told, reckoned from counts: 160 bytes for each record, and for values those of all objects at CAP bytes each, or
-- 64 MiB where that is less. It is no bound: values that wait in nodes of several objects, or were only read, are left out. (The
-- greatest number that is said is 2^64 - 1.)
abbrev pub memory : Restart → ℕ
memory it = min (min ((it.records.next - it.records.start) * 160) (2 ^ 64 - 1) + min (it.bounds.objects * it.bounds.cap) (2 ^ 26)) (2 ^ 64 - 1)

-- the line of it: the number at which the redo begins, how many records it does again, how many bytes of the log it reads, and
-- the memory that is reckoned for it
abbrev pub restart_line : Restart → List ℕ
restart_line it =
    codes "restart from" ++ spaced it.records.start ++ codes " records" ++ spaced (it.records.next - it.records.start) ++ codes " bytes" ++ spaced it.records.end ++ codes " memory" ++ spaced (memory it) ++ codes "\n"

-- a status that says what the files are
abbrev pub HasVerdict : Status → Type 0
HasVerdict statuses.Done = ⊤
HasVerdict statuses.NotAStore = ⊤
HasVerdict statuses.Damaged = ⊤
HasVerdict status = ⊥

-- the last line, by the status: what a restart does; that there is no store; the first fault of the files
abbrev pub Ends : Files → List ℕ → List ℕ → Status → Type 0
Ends files before after statuses.Done = (it : Restart) × IsRestart files it × (after ≡ before ++ restart_line it)
Ends files before after statuses.NotAStore = IsClosedAt 0 (files Objects) × (after ≡ before ++ not_a_store)
Ends files before after statuses.Damaged = (file : FileNo) × (place : ℕ) × IsDamaged all_meaning files file place × (after ≡ before ++ damaged file place)
Ends files before after status = ⊤

-- the lines of the three files, each by itself, that of the logs' blocks, and that of the records
pub record SaysLines (files : Files) (text : List ℕ) : Type 0 where
  pub blocks : List ℕ
  pub blocks_are : IsLogLine files blocks
  pub records : List ℕ
  pub records_are : IsRecordsLine files records
  pub is : text ≡ files_lines files ++ blocks ++ records

-- these lines were said, and then the last one
pub record Checks (files : Files) (before after : List ℕ) (status : Status) : Type 0 where
  pub text : List ℕ
  pub lines : SaysLines files text
  pub ends : Ends files (before ++ text) after status

-- the last line, where one is said: what a restart does; that there is no store; or the first fault of the files
pub data IsLastLine (files : Files) (text : List ℕ) : Type 0 where
  none_said : text ≡ [] → IsLastLine files text
  restarts : (it : Restart) → IsRestart files it → text ≡ restart_line it → IsLastLine files text
  no_store : IsClosedAt 0 (files Objects) → text ≡ not_a_store → IsLastLine files text
  broken : (file : FileNo) (place : ℕ) → IsDamaged all_meaning files file place → text ≡ damaged file place → IsLastLine files text

-- a front of these lines and of the last one was said
pub record SaysPart (files : Files) (before after : List ℕ) : Type 0 where
  pub text : List ℕ
  pub lines : SaysLines files text
  pub last : List ℕ
  pub last_is : IsLastLine files last
  pub front : SaysFront (text ++ last) before after

-- nothing else was said
abbrev pub SaysNoMore : Files → List ℕ → List ℕ → Type 0
SaysNoMore files before after = (after ≡ before) ⊎ SaysPart files before after
