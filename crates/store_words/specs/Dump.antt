-- What a dump says.
use Rattle.std.specs.Prelude.{◌≡◌, ℕ, zero, suc, List, [], ◌∷◌, ◌++◌, length, take, ◌≢◌}
use Rattle.std.specs.List.{flat_map}
use Rattle.disk_model.specs.Disk.{Files, Disk, LeavesOnly, IsSettled}
use Rattle.formats.specs.declared.params.Params.{Params}
use Rattle.oper_core.specs.State.{State}
use Rattle.script_lines.specs.Replies.{Reply, object_value, command_count, said_line}
use Rattle.standing.specs.Standing.{FilesShow}
use Rattle.store_engine.specs.Engine.{InEachImage}
use Rattle.restart.specs.Starts.{OrAtStart}
use Rattle.shell_base.specs.Store.{Command, Stands, state_of, meaning_in, Opens}
use Rattle.shell_base.specs.declared.budget.Budget.{Budget}
use Rattle.shell_base.specs.Again.{IsStartRefused}
use Rattle.shell_base.specs.Judging.{JudgesFiles, ReadsNoStore}
use Rattle.shell_base.specs.First.{Stage, IsFirst, TableMoment}
use Rattle.shell_base.specs.Status.{IsOfDump}
use Rattle.shell_base.specs.declared.status.Status.{Status}
use Rattle.shell_base.specs.declared.status.Status.TheVariants.{Done, NotAStore, Damaged, DiskFault, RestartMemory}

-- the row of an object: none where it is empty
abbrev pub row_of : ℕ → List ℕ → List Reply
row_of x [] = []
row_of x (byte ∷ bytes) = object_value x (byte ∷ bytes) ∷ []

-- the rows of the objects below n, rising
abbrev pub rows_below : State → ℕ → List Reply
rows_below s zero = []
rows_below s (suc n) = rows_below s n ++ row_of n (s n)

-- the rows of all objects, and the number of commands
abbrev pub table_of : State → ℕ → ℕ → List ℕ
table_of s objects commands = flat_map said_line (rows_below s objects ++ command_count commands ∷ [])

-- a dump of a store that stands for the commands
abbrev pub dump_of : Params → List Command → List ℕ
dump_of p commands = table_of (state_of p commands) p.objects (length commands)

-- a moment of a dump: the files stand for the commands, and a beginning of the dump was said after these bytes
pub record DumpMoment (p : Params) (commands : List Command) (before : List ℕ) (files : Files) (said : List ℕ) : Type 0 where
  pub stands : Stands p files commands
  pub count : ℕ
  pub said_is : said ≡ before ++ take count (dump_of p commands)

-- A dump of files that stand for commands as they are read.
pub record IsDumpOn (budget : Budget) (p : Params) (commands : List Command) (old new : Disk) (status : Status) : Type 0 where
  -- what a crash at any moment leaves is what one at the start could leave, or it stands for these commands
  pub images : old.tells_moments → LeavesOnly old new (OrAtStart old (DumpMoment p commands old.said))
  pub from_settled : old.tells_moments → IsSettled old → LeavesOnly old new (DumpMoment p commands old.said)
  -- a beginning of their table was said: all of it with status 0
  pub said : (count : ℕ) × (new.said ≡ old.said ++ take count (dump_of p commands))
  pub all : status ≡ Done → new.said ≡ old.said ++ dump_of p commands
  pub store : (status ≢ NotAStore) × (status ≢ Damaged)
  -- but where the disk may have failed, or memory the opening, the machine is settled then, and the files stand for these
  -- commands
  pub settled : status ≢ DiskFault → status ≢ RestartMemory → IsSettled new
  pub stands : status ≢ DiskFault → status ≢ RestartMemory → InEachImage new (λ files. Stands p files commands)
  -- where the restart was refused memory, the files stand for these commands still
  pub unopened : old.tells_moments → status ≡ RestartMemory → IsStartRefused budget p commands old new
  -- the restart takes its course, and nothing else is done: a crash at any moment leaves what one at the start could leave,
  -- or the world after some first steps of it, and with status 0 the files show the world after all of it
  pub steps : old.tells_moments → (first : Stage) → (is : IsFirst budget p commands old first) → LeavesOnly old new (OrAtStart old (TableMoment budget p commands old first is))
  pub shows : (first : Stage) → IsFirst budget p commands old first → status ≡ Done → FilesShow (meaning_in p) p new.reads first.world

-- A dump of any files.
pub record IsDumpCall (budget : Budget) (old new : Disk) (status : Status) : Type 0 where
  pub table : (p : Params) (commands : List Command) → Opens p old commands → IsDumpOn budget p commands old new status
  pub settled : status ≡ Done → IsSettled new
  pub ends : IsOfDump status
  pub judged : old.tells_files → JudgesFiles old new status
  pub read : status ≡ NotAStore → ReadsNoStore new
