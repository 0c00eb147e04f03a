-- When a line gets an answer, as a plain map would answer it.
use Rattle.std.specs.Prelude.{◌≡◌, ℕ, ◌+◌, ◌^◌, ◌<◌, ◌≤◌, ◌++◌, ◌⊎◌, ⊤, Bool, true, false, IsTrue, List, [], length, Option, None}
use Rattle.std.specs.Option.{is_some}
use Rattle.oper_core.specs.declared.refusal.Refusal.TheVariants.{NoObject}
use Rattle.disk_model.specs.Disk.{Files}
use Rattle.formats.specs.Image.{EndsAt, NextIs}
use Rattle.store_engine.specs.Engine.{EpochIs, group_bytes, needed_in}
use Rattle.formats.specs.declared.params.Params.{Params}
use Rattle.op_codec.specs.AllOps.{all_meaning}
use Rattle.script_lines.specs.Grammar.{Request, AsksFor, IsBad}
use Rattle.script_lines.specs.declared.line.Line.TheVariants.{Run as run, Ask, Force as force, Keep, Group, Save, Stat as asks_stat, Skip as skip}
use Rattle.script_lines.specs.declared.line.Question.TheVariants.{Get as get}
use Rattle.script_lines.specs.declared.line.Upkeep.TheVariants.{Install as install, Drain as drain, Trim as trim}
use Rattle.script_lines.specs.declared.line.Grouping.TheVariants.{Begin as begin_group, End as end_group, Abort as abort_group}
use Rattle.script_lines.specs.declared.line.Saving.TheVariants.{Start as bstart, Copy as bcopy, Finish as bfinish}
use Rattle.script_lines.specs.Replies.{Reply, ok, ran, value, pairs, forced, bad, refused, bad_tree, tree_full, denied, in_group, no_group, full, end, object_value, command_count, stat, copied, saved, backup_denied, summary, absent, counted, silence}
use Rattle.script_lines.specs.declared.denial.Denial.{Denial}
use Rattle.script_lines.specs.declared.denial.Denial.TheVariants.{BadHash, BadMap}
use Rattle.script_lines.specs.declared.backup_denial.BackupDenial.{BackupDenial}
use Rattle.script_lines.specs.declared.backup_denial.BackupDenial.TheVariants.{InBackup, NoBackup, AlreadyStore, NotCopied}
use Rattle.shell_base.specs.Store.{Command, meaning_in, state_of, record_length, Stands}
use Rattle.script_run.specs.Groups.{size_of}
use Rattle.script_run.specs.Made.{made, AsksMade, AsksBehind, AsksTree}

-- the line asks for this one command
-- (a relation, since two operations of the log are asked by no line)
abbrev pub AsksCommand : List ℕ → Command → Type 0
AsksCommand line op = AsksFor line (run op)

-- a request that adds no command, and changes the files or the log
abbrev pub IsUpkeep : Request → Type 0
IsUpkeep (Keep upkeep) = ⊤
IsUpkeep request = ⊥

-- one that may use up the numbers of records, or the epochs of logs
abbrev pub IsNumbered : Request → Type 0
IsNumbered (Keep install) = ⊤
IsNumbered (Keep drain) = ⊤
IsNumbered (Keep trim) = ⊤
IsNumbered request = ⊥

-- one for which the log, or that of a backup, may have no room
abbrev pub IsLogged : Request → Type 0
IsLogged (Save bfinish) = ⊤
IsLogged request = IsUpkeep request

-- the log has no room for a command, or for what a request adds that adds no command: a log that is rewritten, or that of a
-- backup, is longer than it may be, any other record does not fit after those that are there
abbrev pub IsOver : Request → ℕ → ℕ → ℕ → Type 0
IsOver (Keep trim) used need limit = limit < need
IsOver (Save bfinish) used need limit = limit < need
IsOver request used need limit = limit < used + need

-- one that makes a backup
abbrev pub IsOfBackup : Request → Type 0
IsOfBackup (Save saving) = ⊤
IsOfBackup request = ⊥

-- one that no group allows: it may force, or makes a backup
abbrev pub IsBarred : Request → Type 0
IsBarred (Group begin_group) = ⊤
IsBarred force = ⊤
IsBarred (Save saving) = ⊤
IsBarred request = IsUpkeep request

-- one that asks for an open group
abbrev pub IsClosing : Request → Type 0
IsClosing (Group end_group) = ⊤
IsClosing (Group abort_group) = ⊤
IsClosing request = ⊥

-- one that is refused so by how far a backup is
abbrev pub IsDenied : BackupDenial → Request → Type 0
IsDenied InBackup (Save bstart) = ⊤
IsDenied InBackup (Keep trim) = ⊤
IsDenied NoBackup (Save (bcopy count)) = ⊤
IsDenied NoBackup (Save bfinish) = ⊤
IsDenied AlreadyStore (Save bstart) = ⊤
IsDenied NotCopied (Save bfinish) = ⊤
IsDenied why request = ⊥

-- one that adds no command and is done, where the open group began after so many commands, or none is open (`group`)
abbrev pub IsGranted : Option ℕ → Request → Type 0
IsGranted group (Group begin_group) = group ≡ None
IsGranted group (Group end_group) = IsTrue (is_some group)
IsGranted group (Group abort_group) = IsTrue (is_some group)
IsGranted group (Save bstart) = group ≡ None
IsGranted group request = IsUpkeep request × (group ≡ None)

-- a question may meet this in a hash file or a map
abbrev pub IsMet : Denial → Type 0
IsMet BadHash = ⊤
IsMet BadMap = ⊤
IsMet why = ⊥

-- The line gets this answer after the commands, where the open group began after so many of them, or none is open (`group`), and
-- adds these.
abbrev pub Replies : Params → Option ℕ → List Command → List ℕ → Reply → List Command → Type 0
Replies p group commands line ok added =
    (AsksMade p commands line (made added ok) × (length (commands ++ added) < 2 ^ 62))
    ⊎ ((request : Request) × IsGranted group request × AsksFor line request × (added ≡ []))
Replies p group commands line (ran k) added = AsksMade p commands line (made added (ran k))
Replies p group commands line (value bytes) added =
    (((object : ℕ) × AsksFor line (Ask (get object)) × (object < p.objects) × (bytes ≡ state_of p commands object))
    ⊎ AsksTree p commands line (value bytes)) × (added ≡ [])
Replies p group commands line (pairs pair others) added = AsksTree p commands line (pairs pair others) × (added ≡ [])
Replies p group commands line (forced n) added = AsksFor line force × (group ≡ None) × (n ≡ length commands) × (added ≡ [])
Replies p group commands line bad added = IsBad line × (added ≡ [])
Replies p group commands line (refused why) added =
    AsksMade p commands line (made added (refused why))
    ⊎ ((((object : ℕ) × AsksFor line (Ask (get object)) × (p.objects ≤ object) × (why ≡ NoObject)) ⊎ AsksTree p commands line (refused why)) × (added ≡ []))
Replies p group commands line bad_tree added = AsksMade p commands line (made added bad_tree) ⊎ (AsksTree p commands line bad_tree × (added ≡ []))
Replies p group commands line tree_full added = AsksMade p commands line (made added tree_full)
Replies p group commands line (denied why) added = AsksMade p commands line (made added (denied why)) ⊎ (IsMet why × AsksTree p commands line (denied why) × (added ≡ []))
Replies p group commands line absent added = AsksTree p commands line absent × (added ≡ [])
Replies p group commands line (counted n) added = AsksTree p commands line (counted n) × (added ≡ [])
Replies p group commands line in_group added = (request : Request) × IsBarred request × AsksFor line request × IsTrue (is_some group) × (added ≡ [])
Replies p group commands line no_group added = (request : Request) × IsClosing request × AsksFor line request × (group ≡ None) × (added ≡ [])
Replies p group commands line (full used need limit) added =
    ((op : Command) × AsksBehind p commands line added op × (need ≡ needed_in (size_of group (commands ++ added)) (record_length p op)) × (limit ≡ p.limit) × (limit < used + need))
    ⊎ ((request : Request) × IsLogged request × AsksFor line request × (group ≡ None) × (limit ≡ 2 ^ 48) × IsOver request used need limit × (added ≡ []))
Replies p group commands line (end number) added =
    (((op : Command) × AsksBehind p commands line added op)
    ⊎ ((request : Request) × IsNumbered request × AsksFor line request × (group ≡ None) × (added ≡ []))) × (number ≡ 2 ^ 62)
Replies p group commands line (stat counts) added =
    AsksFor line asks_stat × (counts.accepted ≡ length commands) × (counts.forced ≤ length commands) × (added ≡ [])
Replies p group commands line (copied now) added = (count : ℕ) × AsksFor line (Save (bcopy count)) × (group ≡ None) × (added ≡ [])
Replies p group commands line (saved n) added = AsksFor line (Save bfinish) × (group ≡ None) × (n ≡ length commands) × (added ≡ [])
Replies p group commands line (backup_denied why) added = (request : Request) × IsDenied why request × AsksFor line request × (group ≡ None) × (added ≡ [])
Replies p group commands line silence added = AsksFor line skip × (added ≡ [])
Replies p group commands line (object_value object bytes) added = ⊥
Replies p group commands line (command_count n) added = ⊥
Replies p group commands line (summary totals) added = ⊥

-- what the number of an `end` is: after a trim the epoch of the log in force, else the number that comes next
abbrev pub IsLast : Params → Files → Request → ℕ → Type 0
IsLast p files (Keep trim) number = EpochIs files number
IsLast p files request number = NextIs (meaning_in p) files number

-- What an answer to the line says of each image of its moment, while these commands of an open group wait, those that the line
-- has added too: the files have none of them.
abbrev pub IsTrueIn : Params → Files → List Command → List ℕ → Reply → Type 0
IsTrueIn p files ops line (full used need limit) = (place : ℕ) × EndsAt files place × (used ≡ place + group_bytes all_meaning p ops)
IsTrueIn p files ops line (end number) = (request : Request) × AsksFor line request × ((last : ℕ) × IsLast p files request last × (number ≡ last + length ops))
IsTrueIn p files ops line (stat counts) = (commands : List Command) × Stands p files commands × (length commands ≡ counts.forced)
IsTrueIn p files ops line reply = ⊤

-- an answer that the status reports
abbrev pub is_refusing : Reply → Bool
is_refusing ok = false
is_refusing (ran k) = false
is_refusing (pairs pair others) = false
is_refusing (value bytes) = false
is_refusing (forced n) = false
is_refusing (object_value object bytes) = false
is_refusing (command_count n) = false
is_refusing (summary totals) = false
is_refusing (stat counts) = false
is_refusing (copied now) = false
is_refusing (saved n) = false
is_refusing absent = false
is_refusing (counted n) = false
is_refusing silence = false
is_refusing reply = true

-- an answer that says that the log is full
abbrev pub IsFull : Reply → Type 0
IsFull (full used need limit) = ⊤
IsFull reply = ⊥
