-- The entries of the commands that the lines of a script ask for, all of them taken as accepted.
use Rattle.std.specs.Prelude.{◌≡◌, ◌≤◌, ⊤, ℕ, ◌+◌, ◌^◌, false, List, [], ◌∷◌, ◌++◌, length, Option, Some, None}
use Rattle.disk_model.specs.Disk.{Rises}
use Rattle.install_order.specs.declared.entry.Entry.{Entry}
use Rattle.oper_core.specs.Meaning.{Meaning}
use Rattle.op_codec.specs.AllOps.{AllOps, all_meaning}
use Rattle.script_lines.specs.Grammar.{Request, AsksFor, IsBad, lines_of}
use Rattle.script_lines.specs.declared.read_error.ReadError.{ReadError}
use Rattle.script_lines.specs.declared.read_error.ReadError.TheVariants.{ReadFault, TooLong, Memory}
use Rattle.script_lines.specs.declared.line.Line.TheVariants.{Run, Make, Ask, Force, Keep, Group, Save, Stat, Skip}
use Rattle.graph_view.specs.declared.accesses.Accesses.{Accesses}
use Rattle.graph_view.specs.declared.asked.Asked.{Asked}
use Rattle.graph_view.specs.declared.asked.Asked.TheVariants.{Command, Nothing, Several, Bad}
use Rattle.graph_view.specs.declared.draw_error.DrawError.{DrawError}
use Rattle.graph_view.specs.declared.draw_error.DrawError.TheVariants as errors
use Rattle.graph_view.specs.Dot.{IsGraph}

-- the operations of a store, in any bounds: what they read and write is the same in all
abbrev meaning : Meaning AllOps
meaning = all_meaning (record { objects = 0; cap = 0; more = false })

-- what an operation reads, and what it writes
abbrev pub accesses_of : AllOps → Accesses
accesses_of op = record { reads = meaning.reads op; writes = meaning.writes op }

-- what a request is to the write graph: how many commands a run of an application or a change of a tree makes depends on the
-- values; all others but the operations make none
abbrev pub asked_by : Request → Asked
asked_by (Run op) = Command (accesses_of op)
asked_by (Make making) = Several
asked_by (Ask question) = Nothing
asked_by Force = Nothing
asked_by (Keep upkeep) = Nothing
asked_by (Group grouping) = Nothing
asked_by (Save saving) = Nothing
asked_by Stat = Nothing
asked_by Skip = Nothing

-- what a line is to the write graph
abbrev pub IsAsked : List ℕ → Asked → Type 0
IsAsked line Bad = IsBad line
IsAsked line asked = (request : Request) × AsksFor line request × (asked_by request ≡ asked)

-- the entry of a command
abbrev pub entry_of : ℕ → Accesses → Entry
entry_of n accesses = record { lsn = n; reads = accesses.reads; writes = accesses.writes; identity = false }

-- the lines ask for these commands, numbered from n on, and for nothing that is refused
pub data AreEntries : ℕ → List (List ℕ) → List Entry → Type 0 where
  no_line : {n : ℕ} → AreEntries n [] []
  command : {n : ℕ} {line : List ℕ} {lines : List (List ℕ)} {entries : List Entry} (accesses : Accesses)
      → IsAsked line (Command accesses) → AreEntries (n + 1) lines entries → AreEntries n (line ∷ lines) (entry_of n accesses ∷ entries)
  nothing : {n : ℕ} {line : List ℕ} {lines : List (List ℕ)} {entries : List Entry}
      → IsAsked line Nothing → AreEntries n lines entries → AreEntries n (line ∷ lines) entries

-- the text draws the write graph of all commands of the lines, numbered from 1 on
abbrev pub IsGraphOf : List (List ℕ) → List ℕ → Type 0
IsGraphOf lines text = (entries : List Entry) × AreEntries 1 lines entries × IsGraph entries text

-- The first line that is refused has this number, from 1 on, and is this to the write graph: all lines before it ask for
-- commands, or for nothing.
pub record IsFirstRefused (lines : List (List ℕ)) (n : ℕ) (why : Asked) : Type 0 where
  pub before : List (List ℕ)
  pub line : List ℕ
  pub after : List (List ℕ)
  pub split : lines ≡ before ++ line ∷ after
  pub number : n ≡ length before + 1
  pub is : IsAsked line why
  pub entries : List Entry
  pub accepted : AreEntries 1 before entries

-- why the lines of an input are not drawn
abbrev pub IsCause : List ℕ → DrawError → Type 0
IsCause input (errors.Bad n) = IsFirstRefused (lines_of input) n Bad
IsCause input (errors.Several n) = IsFirstRefused (lines_of input) n Several
IsCause input (errors.Read TooLong) = 2 ^ 40 ≤ length input
IsCause input (errors.Read error) = ⊤

-- a fault of the input is told only where the source counted one
abbrev pub CountsRead : ℕ → ℕ → ReadError → Type 0
CountsRead before after ReadFault = Rises before after
CountsRead before after error = ⊤

-- the same where no graph is printed
abbrev pub CountsFault : ℕ → ℕ → DrawError → Type 0
CountsFault before after (errors.Read error) = CountsRead before after error
CountsFault before after error = ⊤

-- what one line asks was added to the entries before it
abbrev pub IsAdded : List Entry → Asked → List Entry → Type 0
IsAdded before (Command accesses) after = after ≡ before ++ entry_of (length before + 1) accesses ∷ []
IsAdded before Nothing after = after ≡ before
IsAdded before asked after = ⊥

-- why what the line of the number asks was not added
abbrev pub IsRefused : Asked → ℕ → DrawError → Type 0
IsRefused asked n (errors.Bad line) = (line ≡ n) × (asked ≡ Bad)
IsRefused asked n (errors.Several line) = (line ≡ n) × (asked ≡ Several)
IsRefused asked n (errors.Read error) = error ≡ Memory

-- old is what was left, new what is left after a line was taken, if there was one
abbrev pub IsNextAsked : Option Asked → List ℕ → List ℕ → Type 0
IsNextAsked None old new = lines_of old ≡ []
IsNextAsked (Some asked) old new = (line : List ℕ) × IsAsked line asked × (lines_of old ≡ line ∷ lines_of new)
