-- What a demo does: the generated script is answered on a store of its own, and what was said is counted.
use Rattle.std.specs.Prelude.{◌≡◌, ◌≢◌, ◌*◌, ◌%◌, ◌^◌, ◌==◌, ◌&&◌, ◌||◌, ⊤, ℕ, Bool, List, [], ◌++◌, codes, length, count_by, sum_by, false}
use Rattle.std.specs.List.{flat_map, starts_with, enumerate_from, slice_split}
use Rattle.disk_model.specs.Disk.{Disk, Runs, Stays, Same, SaysFront}
use Rattle.disk_model.specs.Growing.{disk_of}
use Rattle.disk_model.specs.declared.grow_mem.GrowMem.{GrowMem}
use Rattle.formats.specs.declared.params.Params.{Params}
use Rattle.script_lines.specs.Grammar.{lines_of}
use Rattle.script_lines.specs.Replies.{Reply, summary, said_line}
use Rattle.script_lines.specs.declared.answer.Totals.{Totals}
use Rattle.script_lines.specs.DemoScript.{script_of}
use Rattle.shell_base.specs.declared.budget.Budget.TheVariants.{Usual}
use Rattle.shell_base.specs.Store.{Command, IsNewStore}
use Rattle.shell_base.specs.Keeps.{KeepsFiles}
use Rattle.shell_base.specs.First.{Stage, IsFirst}
use Rattle.shell_base.specs.declared.status.Status.{Status}
use Rattle.shell_base.specs.declared.status.Status.TheVariants.{Done, SayFault, Memory}
use Rattle.script_run.specs.Replies.{is_refusing}
use Rattle.script_run.specs.Answers.{Answers}
use Rattle.script_run.specs.Groups.{Account, account_of}
use Rattle.script_run.specs.Printed.{texts_of}
use Rattle.script_run.specs.Stages.{AllGoBy, PacedStage, unpaced}
use Rattle.script_run.specs.declared.tending.Tending.TheVariants.{ByHand}

-- the numbers of its store
abbrev pub demo_params : Params
demo_params = record { objects = 16; cap = 64; limit = 536870912; more = false }

-- A script of these lines gets these answers on a new store of these numbers, in memory, and adds these commands. They are
-- those of the plain map, and go by the stages of the store, from the one that a usual restart makes of it: so `full` comes exactly
-- where what is asked for does not fit.
pub record IsAnsweredAnew (script : List (List ℕ)) (replies : List Reply) (added : List Command) : Type 0 where
  pub waits : List (List Command)
  pub account : Account
  pub answers : Answers demo_params (account_of []) script replies waits account
  pub added_is : added ≡ account.commands
  pub machine : GrowMem
  pub new : IsNewStore demo_params (disk_of machine).reads
  pub first : Stage
  pub is_first : IsFirst Usual demo_params [] (disk_of machine) first
  pub last : PacedStage
  pub goes : AllGoBy ByHand demo_params (unpaced first) script replies last

-- A script of these lines was answered on a new store: these bytes were said, and so many commands accepted.
pub record IsPlayed (script : List (List ℕ)) (said : List ℕ) (accepted : ℕ) : Type 0 where
  pub replies : List Reply
  pub added : List Command
  pub answered : IsAnsweredAnew script replies added
  pub said_is : said ≡ flat_map said_line replies
  pub accepted_is : accepted ≡ length added

-- each byte times its offset, counted from 1, added up
abbrev pub weighed : List ℕ → ℕ
weighed bytes = sum_by (λ (it : ℕ × ℕ). it.0 * it.1) (enumerate_from 1 bytes)

-- The totals are those of the answers to the script of a seed with so many steps.
pub record AreTotals (seed steps : ℕ) (totals : Totals) : Type 0 where
  pub seed_is : totals.seed ≡ seed
  pub steps_is : totals.steps ≡ steps
  pub replies : List Reply
  pub added : List Command
  pub answered : IsAnsweredAnew (lines_of (script_of seed steps)) replies added
  -- one for each line that is answered; a skipped line is not
  pub lines : totals.lines ≡ length (texts_of replies)
  pub bytes : totals.bytes ≡ length (flat_map said_line replies)
  pub accepted : totals.accepted ≡ length added
  pub refused : totals.refused ≡ count_by is_refusing replies
  pub sum : totals.sum ≡ weighed (flat_map said_line replies) % 2 ^ 64

-- the line that says the totals
abbrev pub SaysTotals : ℕ → ℕ → List ℕ → Type 0
SaysTotals seed steps line = (totals : Totals) × AreTotals seed steps totals × (line ≡ said_line (summary totals))

-- how a demo may end
abbrev pub IsOfDemo : Status → Type 0
IsOfDemo Done = ⊤
IsOfDemo SayFault = ⊤
IsOfDemo Memory = ⊤
IsOfDemo status = ⊥

-- A demo leaves the files alone. It says the totals of its script, or a beginning of them where the output fails, or
-- nothing, where memory runs out.
pub record IsDemo (seed steps : ℕ) (old new : Disk) (status : Status) : Type 0 where
  pub ends : IsOfDemo status
  pub keeps : KeepsFiles old new
  pub short : status ≡ Memory → Stays old new
  -- at each moment a beginning of the line was said
  pub totals : status ≢ Memory → (line : List ℕ) × SaysTotals seed steps line
      × Runs Same (SaysFront line) old new × (old.tells_files → status ≡ Done → new.said ≡ old.said ++ line)

-- the bytes that a run has said, taken apart

abbrev pub is_newline : ℕ → Bool
is_newline byte = byte == 10

-- the text of an answer that the status reports
abbrev pub is_refusal : List ℕ → Bool
is_refusal text =
    ((starts_with (λ (a b : ℕ). a == b) text (codes "refused ") || starts_with (λ (a b : ℕ). a == b) text (codes "full "))
    || starts_with (λ (a b : ℕ). a == b) text (codes "end "))
    || (length text == 3 && starts_with (λ (a b : ℕ). a == b) text (codes "bad"))

abbrev pub refusal_count : List ℕ → ℕ
refusal_count bytes = count_by is_refusal (slice_split is_newline bytes)
