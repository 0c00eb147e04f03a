-- The lines of a script, and what each may ask.
use Rattle.std.specs.Prelude.{◌≡◌, ℕ, ◌+◌, ◌*◌, ◌-◌, ◌^◌, ◌<◌, ◌≤◌, ◌⊎◌, ◌++◌, List, [], ◌∷◌, Option, Some, None, codes, if◌then◌else◌, ◌==◌, nat_le, nat_lt, length, IsTrue}
use Rattle.std.specs.Fmt.{decimal}
use Rattle.std.specs.Str.{bytes_eq}
use Rattle.key_entries.specs.Short.{is_short}
use Rattle.app_program.specs.declared.program_op.ProgramOp.TheVariants.{Step, Feed, Drain as DrainTo}
use Rattle.op_codec.specs.AllOps.{plain, program}
use Rattle.op_meaning.specs.declared.plain_op.PlainOp.TheVariants.{Put, Copy, Append, Cut, Sort, Swap, Exec, AppRead, AppWrite}
use Rattle.script_lines.specs.declared.line.Line.{Line}
use Rattle.script_lines.specs.declared.line.Line.TheVariants.{Run, Make, Ask, Force, Keep, Group, Save, Stat, Skip}
use Rattle.script_lines.specs.declared.line.Making.TheVariants.{AppRun, ProgramRun, TreeInsert, TreeDelete, HashPut, HashDelete, Map as ChangeMap}
use Rattle.script_lines.specs.declared.line.MapChange.{MapChange}
use Rattle.script_lines.specs.declared.line.MapChange.TheVariants.{Set, Delete}
use Rattle.script_lines.specs.declared.line.MapQuestion.{MapQuestion}
use Rattle.script_lines.specs.declared.line.MapQuestion.TheVariants as map_questions
use Rattle.script_lines.specs.declared.line.Question.TheVariants.{Get, TreeGet, TreeRange, HashGet, Map as AskMap}
use Rattle.script_lines.specs.declared.line.Upkeep.TheVariants.{Install, Drain, Checkpoint, Trim}
use Rattle.script_lines.specs.declared.line.Grouping.TheVariants.{Abort, Begin, End}
use Rattle.script_lines.specs.declared.line.Saving.TheVariants.{Start, Copy as CopyOn, Finish}

-- one byte more in front of the first text
abbrev pub before_first : ℕ → List (List ℕ) → List (List ℕ)
before_first byte [] = (byte ∷ []) ∷ []
before_first byte (text ∷ texts) = (byte ∷ text) ∷ texts

-- a line ends by byte 10 or by the end; a last line of no bytes is no line
abbrev pub lines_of : List ℕ → List (List ℕ)
lines_of [] = []
lines_of (byte ∷ rest) = if byte == 10 then [] ∷ lines_of rest else before_first byte (lines_of rest)

-- a text cut at each space
abbrev pub pieces_of : List ℕ → List (List ℕ)
pieces_of [] = [] ∷ []
pieces_of (byte ∷ rest) = if byte == 32 then [] ∷ pieces_of rest else before_first byte (pieces_of rest)

-- those that are not empty
abbrev pub filled : List (List ℕ) → List (List ℕ)
filled [] = []
filled ([] ∷ texts) = filled texts
filled ((byte ∷ text) ∷ texts) = (byte ∷ text) ∷ filled texts

-- the fields of a text: the pieces that its spaces part, but for empty ones
abbrev pub fields_of : List ℕ → List (List ℕ)
fields_of text = filled (pieces_of text)

-- a line without the byte 13 that may stand at its end
abbrev pub without_return : List ℕ → List ℕ
without_return [] = []
without_return (byte ∷ []) = if byte == 13 then [] else byte ∷ []
without_return (byte ∷ next ∷ rest) = byte ∷ without_return (next ∷ rest)

-- the value of a hexadecimal digit of either case
abbrev pub hex_digit : ℕ → Option ℕ
hex_digit c =
    if nat_lt c 48 then None
    else if nat_le c 57 then Some (c - 48)
    else if nat_lt c 65 then None
    else if nat_le c 70 then Some (c - 55)
    else if nat_lt c 97 then None
    else if nat_le c 102 then Some (c - 87)
    else None

-- the byte of two digits' values
abbrev pub hex_byte : Option ℕ → Option ℕ → Option ℕ
hex_byte (Some high) (Some low) = Some (16 * high + low)
hex_byte high low = None

-- two digits for each byte
pub data IsHexOf : List ℕ → List ℕ → Type 0 where
  none : IsHexOf [] []
  byte : {high low b : ℕ} {text bytes : List ℕ} → hex_byte (hex_digit high) (hex_digit low) ≡ Some b → IsHexOf text bytes → IsHexOf (high ∷ low ∷ text) (b ∷ bytes)

-- `-` for no bytes, or two digits for each of some
abbrev pub IsHex : List ℕ → List ℕ → Type 0
IsHex text bytes = ((text ≡ codes "-") × (bytes ≡ [])) ⊎ ((0 < length text) × IsHexOf text bytes)

-- what a line may ask: what the program's `Line` says
abbrev pub Request : Type 0
Request = Line

-- the fields after a word, one after the other, and what they make
pub data Form : Type 0 where
  -- no field more: this is asked
  asks : Request → Form
  number : (ℕ → Form) → Form
  -- the bytes of a value
  hex : (List ℕ → Form) → Form
  -- a key, or the value of one
  short : (List ℕ → Form) → Form
  -- the key of a map, or the value of one
  long : (List ℕ → Form) → Form

abbrev pub one : (ℕ → Request) → Form
one make = number (λ x. asks (make x))

abbrev pub two : (ℕ → ℕ → Request) → Form
two make = number (λ x. one (make x))

abbrev pub three : (ℕ → ℕ → ℕ → Request) → Form
three make = number (λ x. two (make x))

-- an object and its value
abbrev pub object_and_value : (ℕ → List ℕ → Request) → Form
object_and_value make = number (λ x. hex (λ bytes. asks (make x bytes)))

-- a range of objects and a key
abbrev pub range_and_key : (ℕ → ℕ → List ℕ → Request) → Form
range_and_key make = number (λ low. number (λ high. short (λ key. asks (make low high key))))

-- a range of objects and a key with its value, or two keys
abbrev pub range_and_two : (ℕ → ℕ → List ℕ → List ℕ → Request) → Form
range_and_two make = number (λ low. number (λ high. short (λ key. short (λ other. asks (make low high key other)))))

-- a range of objects, and what follows it
abbrev pub of_range : (ℕ → ℕ → Form) → Form
of_range form = number (λ low. number (λ high. form low high))

-- and a key of a map
abbrev pub map_key : (ℕ → ℕ → List ℕ → Request) → Form
map_key make = of_range (λ low high. long (λ key. asks (make low high key)))

-- and a key with its value, or two keys
abbrev pub map_two : (ℕ → ℕ → List ℕ → List ℕ → Request) → Form
map_two make = of_range (λ low high. long (λ key. long (λ other. asks (make low high key other))))

-- and two keys, and how many pairs at most
abbrev pub map_limit : (ℕ → ℕ → List ℕ → List ℕ → ℕ → Request) → Form
map_limit make = of_range (λ low high. long (λ from. long (λ to. number (λ limit. asks (make low high from to limit)))))

-- a word, and the fields after it with what they make
pub record Row : Type 0 where
  pub word : List ℕ
  pub form : Form

abbrev pub row : List ℕ → Form → Row
row word form = record { word = word; form = form }

-- The lines, one row each: those that are asked of the store,
abbrev pub store_rows : List Row
store_rows =
    row (codes "get") (one (λ x. Ask (Get x)))
    ∷ row (codes "force") (asks Force)
    ∷ row (codes "install") (asks (Keep Install))
    ∷ row (codes "drain") (asks (Keep Drain))
    ∷ row (codes "checkpoint") (asks (Keep Checkpoint))
    ∷ row (codes "trim") (asks (Keep Trim))
    ∷ row (codes "begin") (asks (Group Begin))
    ∷ row (codes "end") (asks (Group End))
    ∷ row (codes "abort") (asks (Group Abort))
    ∷ row (codes "stat") (asks Stat)
    ∷ row (codes "bstart") (asks (Save Start))
    ∷ row (codes "bcopy") (one (λ count. Save (CopyOn count)))
    ∷ row (codes "bfinish") (asks (Save Finish))
    ∷ []

-- before these those that are asked of a hash file,
abbrev pub hash_rows : List Row
hash_rows =
    row (codes "hset") (range_and_two (λ low high key value. Make (HashPut low high key value)))
    ∷ row (codes "hget") (range_and_key (λ low high key. Ask (HashGet low high key)))
    ∷ row (codes "hdel") (range_and_key (λ low high key. Make (HashDelete low high key)))
    ∷ store_rows

-- before these those that are asked of a tree, or for several steps of an application,
abbrev pub made_rows : List Row
made_rows =
    row (codes "arun") (two (λ app steps. Make (AppRun app steps)))
    ∷ row (codes "tinsert") (range_and_two (λ low high key value. Make (TreeInsert low high key value)))
    ∷ row (codes "tget") (range_and_key (λ low high key. Ask (TreeGet low high key)))
    ∷ row (codes "tdelete") (range_and_key (λ low high key. Make (TreeDelete low high key)))
    ∷ row (codes "trange") (range_and_two (λ low high from to. Ask (TreeRange low high from to)))
    ∷ hash_rows

-- before these those that are asked of an application,
abbrev pub program_rows : List Row
program_rows =
    row (codes "exec") (one (λ app. Run (plain (Exec app))))
    ∷ row (codes "aread") (two (λ app x. Run (plain (AppRead app x))))
    ∷ row (codes "awrite") (two (λ app x. Run (plain (AppWrite app x))))
    ∷ row (codes "pexec") (two (λ app p. Run (program (Step app p))))
    ∷ row (codes "pread") (two (λ app x. Run (program (Feed app x))))
    ∷ row (codes "pwrite") (two (λ app x. Run (program (DrainTo app x))))
    ∷ row (codes "prun") (three (λ app p steps. Make (ProgramRun app p steps)))
    ∷ made_rows

-- a map of these objects is changed, or asked
abbrev pub change_map : ℕ → ℕ → MapChange → Request
change_map low high change = Make (ChangeMap low high change)

abbrev pub ask_map : ℕ → ℕ → MapQuestion → Request
ask_map low high question = Ask (AskMap low high question)

-- before these those that are asked of a map,
abbrev pub map_rows : List Row
map_rows =
    row (codes "mset") (map_two (λ low high key value. change_map low high (Set key value)))
    ∷ row (codes "mget") (map_key (λ low high key. ask_map low high (map_questions.Get key)))
    ∷ row (codes "mdel") (map_key (λ low high key. change_map low high (Delete key)))
    ∷ row (codes "mrange") (map_limit (λ low high from to limit. ask_map low high (map_questions.Range from to limit)))
    ∷ row (codes "mback") (map_limit (λ low high from to limit. ask_map low high (map_questions.Back from to limit)))
    ∷ row (codes "mcount") (map_two (λ low high from to. ask_map low high (map_questions.Count from to)))
    ∷ row (codes "mnext") (map_key (λ low high key. ask_map low high (map_questions.Next key)))
    ∷ row (codes "mprev") (map_key (λ low high key. ask_map low high (map_questions.Prev key)))
    ∷ program_rows

-- and before all of these those that are one command on plain values.
abbrev pub rows : List Row
rows =
    row (codes "put") (object_and_value (λ x bytes. Run (plain (Put x bytes))))
    ∷ row (codes "copy") (two (λ x y. Run (plain (Copy x y))))
    ∷ row (codes "append") (two (λ x y. Run (plain (Append x y))))
    ∷ row (codes "cut") (three (λ x y place. Run (plain (Cut x y place))))
    ∷ row (codes "sort") (three (λ x y width. Run (plain (Sort x y width))))
    ∷ row (codes "swap") (two (λ x y. Run (plain (Swap x y))))
    ∷ map_rows

-- the form of the fields after a word, if a row has it
abbrev pub form_in : List Row → List ℕ → Option Form
form_in [] word = None
form_in (r ∷ others) word = if bytes_eq word r.word then Some r.form else form_in others word

-- a text says a number
abbrev pub SaysNumber : ℕ → List ℕ → Type 0
SaysNumber n text = (text ≡ decimal n) × (n < 2 ^ 32)

-- a text says a key, or the value of one
abbrev pub SaysShort : List ℕ → List ℕ → Type 0
SaysShort bytes text = IsHex text bytes × IsTrue (is_short bytes)

-- a text says the key of a map, or the value of one
abbrev pub SaysLong : List ℕ → List ℕ → Type 0
SaysLong bytes text = IsHex text bytes × IsTrue (nat_lt (length bytes) 65536)

-- the texts say the fields of the form, one each, and this is what they make
abbrev pub Makes : Form → List (List ℕ) → Request → Type 0
Makes (asks made) [] request = request ≡ made
Makes (asks made) (text ∷ texts) request = ⊥
Makes (number form) [] request = ⊥
Makes (number form) (text ∷ texts) request = (n : ℕ) × SaysNumber n text × Makes (form n) texts request
Makes (hex form) [] request = ⊥
Makes (hex form) (text ∷ texts) request = (bytes : List ℕ) × IsHex text bytes × Makes (form bytes) texts request
Makes (short form) [] request = ⊥
Makes (short form) (text ∷ texts) request = (bytes : List ℕ) × SaysShort bytes text × Makes (form bytes) texts request
Makes (long form) [] request = ⊥
Makes (long form) (text ∷ texts) request = (bytes : List ℕ) × SaysLong bytes text × Makes (form bytes) texts request

-- the form makes this of the texts, if there is one
abbrev pub MakesIf : Option Form → List (List ℕ) → Request → Type 0
MakesIf None texts request = ⊥
MakesIf (Some form) texts request = Makes form texts request

-- a word that begins a comment
abbrev pub IsComment : List ℕ → Type 0
IsComment word = (comment : List ℕ) × (word ≡ codes "#" ++ comment)

-- the fields ask this: none at all, and a comment, ask nothing
abbrev pub AreOf : Request → List (List ℕ) → Type 0
AreOf request [] = request ≡ Skip
AreOf request (word ∷ texts) = (IsComment word × (request ≡ Skip)) ⊎ MakesIf (form_in rows word) texts request

-- a line has at most so many bytes
abbrev pub IsShort : List ℕ → Type 0
IsShort line = length line ≤ 40000

-- the line asks this
pub record AsksFor (line : List ℕ) (request : Request) : Type 0 where
  pub short : IsShort line
  pub fields : AreOf request (fields_of (without_return line))

-- the line asks nothing
abbrev pub IsBad : List ℕ → Type 0
IsBad line = (request : Request) → AsksFor line request → ⊥

-- what was found of the texts after a word: what the form makes of them, and nothing exactly where it makes nothing
abbrev pub IsRead : Option Form → List (List ℕ) → Option Request → Type 0
IsRead form texts None = (request : Request) → MakesIf form texts request → ⊥
IsRead form texts (Some request) = MakesIf form texts request

-- whatever is read of the rest by its form is what is read of all by this one
abbrev pub ReadsAs : Form → List (List ℕ) → Form → List (List ℕ) → Type 0
ReadsAs rest others form texts = (given : Option Request) → IsRead (Some rest) others given → IsRead (Some form) texts given
