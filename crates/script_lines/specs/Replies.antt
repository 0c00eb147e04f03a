-- The replies to lines, what a dump says, and the texts.
use Rattle.std.specs.Prelude.{⊤, ℕ, ◌<◌, ◌^◌, ◌+◌, ◌/◌, ◌%◌, ◌++◌, List, [], ◌∷◌, codes, if◌then◌else◌, nat_lt}
use Rattle.std.specs.List.{flat_map}
use Rattle.std.specs.Fmt.{decimal}
use Rattle.oper_core.specs.declared.refusal.Refusal.{Refusal}
use Rattle.oper_core.specs.declared.refusal.Refusal.TheVariants.{NoPages, NoObject, Same, BadPlace, BadWidth, NotApp, NotCode, Halted, NoInput, NotNode, NoKey, NodeFull, TooLarge}
use Rattle.script_lines.specs.declared.denial.Denial.{Denial}
use Rattle.script_lines.specs.declared.denial.Denial.TheVariants.{BadHash, HashFull, NoRoom, BadMap, MapFull, TooLong}
use Rattle.script_lines.specs.declared.backup_denial.BackupDenial.{BackupDenial}
use Rattle.script_lines.specs.declared.backup_denial.BackupDenial.TheVariants.{InBackup, NoBackup, AlreadyStore, NotCopied}
use Rattle.script_lines.specs.declared.answer.Answer.{Answer}
use Rattle.script_lines.specs.declared.answer.StatLine.{StatLine}
use Rattle.script_lines.specs.declared.answer.Totals.{Totals}
use Rattle.script_lines.specs.declared.answer.Answer.TheVariants.{Done, Value, Forced, Bad, Refused, Full, End, Object, Commands, Stat, Ran, Pairs, BadTree, TreeFull, Denied, InGroup, NoGroup, Copied, Saved, BackupDenied, Summary, Absent, Counted, Entries}

-- a key and its value
abbrev pub Pair : Type 0
Pair = List ℕ × List ℕ

-- what a line may be reported, and the lines of a dump
pub data Reply : Type 0 where
  ok : Reply
  value : List ℕ → Reply
  forced : ℕ → Reply
  bad : Reply
  refused : Refusal → Reply
  -- the log's length, the length that the record needs, and the limit
  full : ℕ → ℕ → ℕ → Reply
  -- the number that no record may have
  end : ℕ → Reply
  -- an object of a dump, and its value
  object_value : ℕ → List ℕ → Reply
  -- how many commands a dumped store was given
  command_count : ℕ → Reply
  -- the counts of the store
  stat : StatLine → Reply
  -- so many steps of an application were done
  ran : ℕ → Reply
  -- a first pair of a tree or a map, and the others
  pairs : Pair → List Pair → Reply
  -- the range of objects is no tree
  bad_tree : Reply
  -- the tree has too few free objects
  tree_full : Reply
  -- a call on a hash file or a map is refused
  denied : Denial → Reply
  -- a group is open
  in_group : Reply
  -- no group is open
  no_group : Reply
  -- so many objects are copied into the backup
  copied : ℕ → Reply
  -- the backup is a store, which was given so many commands
  saved : ℕ → Reply
  -- a line of a backup, or a trim while one goes on, is refused
  backup_denied : BackupDenial → Reply
  -- the key of a map is not there
  absent : Reply
  -- so many keys of a map were counted
  counted : ℕ → Reply
  -- what a generated script did
  summary : Totals → Reply
  -- nothing: the line is skipped
  silence : Reply

-- the pairs of a tree or a map: where there are none, the reply is that of an empty value
abbrev pub pairs_reply : List Pair → Reply
pairs_reply [] = value []
pairs_reply (pair ∷ others) = pairs pair others

-- the reply that an answer of the program is
abbrev pub reply_of : Answer → Reply
reply_of Done = ok
reply_of (Value bytes) = value bytes.now
reply_of (Forced n) = forced n
reply_of Bad = bad
reply_of (Refused refusal) = refused refusal
reply_of (Full used need limit) = full used need limit
reply_of (End number) = end number
reply_of (Object object bytes) = object_value object bytes.now
reply_of (Commands n) = command_count n
reply_of (Stat counts) = stat counts
reply_of (Ran n) = ran n
reply_of (Pairs found) = pairs_reply found.now
reply_of BadTree = bad_tree
reply_of TreeFull = tree_full
reply_of (Denied why) = denied why
reply_of InGroup = in_group
reply_of NoGroup = no_group
reply_of (Copied n) = copied n
reply_of (Saved n) = saved n
reply_of (BackupDenied why) = backup_denied why
reply_of (Summary totals) = summary totals
reply_of Absent = absent
reply_of (Counted n) = counted n
reply_of (Entries found) = pairs_reply found.now

-- a lower-case hexadecimal digit
abbrev pub hex_glyph : ℕ → ℕ
hex_glyph n = if nat_lt n 10 then 48 + n else 87 + n

-- the two digits of a byte
abbrev pub hex_pair : ℕ → List ℕ
hex_pair byte = hex_glyph (byte / 16) ∷ hex_glyph (byte % 16) ∷ []

-- two digits for each byte, or `-` for none
abbrev pub hex_text : List ℕ → List ℕ
hex_text [] = codes "-"
hex_text (byte ∷ bytes) = flat_map hex_pair (byte ∷ bytes)

-- the name of a refusal
abbrev pub name_of : Refusal → List ℕ
name_of NoPages = codes "NoPages"
name_of NoObject = codes "NoObject"
name_of Same = codes "Same"
name_of BadPlace = codes "BadPlace"
name_of BadWidth = codes "BadWidth"
name_of NotApp = codes "NotApp"
name_of NotCode = codes "NotCode"
name_of Halted = codes "Halted"
name_of NoInput = codes "NoInput"
name_of NotNode = codes "NotNode"
name_of NoKey = codes "NoKey"
name_of NodeFull = codes "NodeFull"
name_of TooLarge = codes "TooLarge"

-- the name of a hash file's refusal, or a map's
abbrev pub denial_name : Denial → List ℕ
denial_name BadHash = codes "BadHash"
denial_name HashFull = codes "HashFull"
denial_name NoRoom = codes "NoRoom"
denial_name BadMap = codes "BadMap"
denial_name MapFull = codes "MapFull"
denial_name TooLong = codes "TooLong"

-- and of a backup's
abbrev pub backup_denial_name : BackupDenial → List ℕ
backup_denial_name InBackup = codes "InBackup"
backup_denial_name NoBackup = codes "NoBackup"
backup_denial_name AlreadyStore = codes "AlreadyStore"
backup_denial_name NotCopied = codes "NotCopied"

-- a number in digits after a space
abbrev pub spaced : ℕ → List ℕ
spaced n = 32 ∷ decimal n

-- the numbers of a store's counts, in the order in which they are said
abbrev pub numbers_of : StatLine → List ℕ
numbers_of c = c.nodes ∷ c.dirty ∷ c.uninstalled ∷ c.forced ∷ c.accepted ∷ c.used ∷ c.identities ∷ []

-- a key and its value in hexadecimal
abbrev pub pair_text : Pair → List ℕ
pair_text pair = flat_map hex_pair pair.0 ++ 58 ∷ flat_map hex_pair pair.1

-- a pair after a space
abbrev pub spaced_pair : Pair → List ℕ
spaced_pair pair = 32 ∷ pair_text pair

-- the text of a reply
unfoldable pub text_of : Reply → List ℕ
text_of ok = codes "ok"
text_of (value bytes) = hex_text bytes
text_of (forced n) = codes "forced " ++ decimal n
text_of bad = codes "bad"
text_of (refused refusal) = codes "refused " ++ name_of refusal
text_of (full used need limit) = codes "full " ++ decimal used ++ 32 ∷ decimal need ++ 32 ∷ decimal limit
text_of (end number) = codes "end " ++ decimal number
text_of (object_value object bytes) = decimal object ++ 32 ∷ hex_text bytes
text_of (command_count n) = codes "commands " ++ decimal n
text_of (stat counts) = codes "stat" ++ flat_map spaced (numbers_of counts)
text_of (ran n) = codes "ran " ++ decimal n
text_of (pairs pair others) = pair_text pair ++ flat_map spaced_pair others
text_of bad_tree = codes "refused BadTree"
text_of tree_full = codes "refused TreeFull"
text_of (denied why) = codes "refused " ++ denial_name why
text_of in_group = codes "refused InGroup"
text_of no_group = codes "refused NoGroup"
text_of (copied n) = codes "copied " ++ decimal n
text_of (saved n) = codes "saved " ++ decimal n
text_of (backup_denied why) = codes "refused " ++ backup_denial_name why
text_of (summary totals) = codes "demo seed " ++ decimal totals.seed ++ codes " steps " ++ decimal totals.steps ++ codes " lines " ++ decimal totals.lines
    ++ codes " bytes " ++ decimal totals.bytes ++ codes " accepted " ++ decimal totals.accepted ++ codes " refused " ++ decimal totals.refused ++ codes " sum " ++ decimal totals.sum
text_of absent = codes "none"
text_of (counted n) = codes "counted " ++ decimal n
text_of silence = []

-- each number has at most 64 bits
abbrev pub AreSmall : List ℕ → Type 0
AreSmall [] = ⊤
AreSmall (n ∷ ns) = (n < 2 ^ 64) × AreSmall ns

-- the numbers of a reply have at most 64 bits
abbrev pub HasSmallNumbers : Reply → Type 0
HasSmallNumbers (forced n) = n < 2 ^ 64
HasSmallNumbers (full used need limit) = (used < 2 ^ 64) × (need < 2 ^ 64) × (limit < 2 ^ 64)
HasSmallNumbers (end number) = number < 2 ^ 64
HasSmallNumbers (object_value object bytes) = object < 2 ^ 64
HasSmallNumbers (command_count n) = n < 2 ^ 64
HasSmallNumbers (stat counts) = AreSmall (numbers_of counts)
HasSmallNumbers (ran n) = n < 2 ^ 64
HasSmallNumbers (copied n) = n < 2 ^ 64
HasSmallNumbers (saved n) = n < 2 ^ 64
HasSmallNumbers (counted n) = n < 2 ^ 64
HasSmallNumbers (summary t) = AreSmall (t.seed ∷ t.steps ∷ t.lines ∷ t.bytes ∷ t.accepted ∷ t.refused ∷ t.sum ∷ [])
HasSmallNumbers reply = ⊤

-- a reply's text and a newline, or nothing
abbrev pub said_line : Reply → List ℕ
said_line silence = []
said_line reply = text_of reply ++ 10 ∷ []
