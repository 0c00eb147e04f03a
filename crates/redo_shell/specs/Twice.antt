-- A call whose restart was refused memory, and the same call again with the least budget, as one call.
use Rattle.std.specs.Prelude.{◌≡◌, ◌≢◌, ◌⊎◌, ◌++◌, ℕ, Bool, List}
use Rattle.disk_model.specs.Disk.{Files, Disk, LeavesOnly, IsSettled}
use Rattle.formats.specs.declared.params.Params.{Params}
use Rattle.restart.specs.Starts.{OrAtStart}
use Rattle.script_lines.specs.Grammar.{lines_of}
use Rattle.command_words.specs.declared.asked.Asked.{Asked}
use Rattle.command_words.specs.declared.asked.Asked.TheVariants.{Init, Run, Dump, Demo, Upgrade, Ship, Follow}
use Rattle.store_engine.specs.Engine.{InEachImage}
use Rattle.shell_base.specs.Again.{StandsStill}
use Rattle.shell_base.specs.First.{OpeningMoment, TableMoment, Stage, IsFirst}
use Rattle.shell_base.specs.Status.{IsCut}
use Rattle.shell_base.specs.Store.{Command}
use Rattle.shell_base.specs.declared.budget.Budget.TheVariants.{Least, Usual}
use Rattle.shell_base.specs.declared.status.Status.{Status}
use Rattle.shell_base.specs.declared.status.Status.TheVariants.{Done, DoneWithRefusals, NotAStore, Damaged, DiskFault, RestartMemory}
use Rattle.store_words.specs.Dump.{dump_of, DumpMoment}
use Rattle.store_words.specs.Upgrading.{GrowthMoment, UpgradeMoment}
use Rattle.standby_words.specs.Following.{FollowingMoment, FollowsFrom, HasEnded, StandbyMoment}
use Rattle.standby_words.specs.Shipping.{ShipMoment}
use Rattle.script_run.specs.Answers.{Moment, SaysTruly}
use Rattle.script_run.specs.Courses.{RunMoment}
use Rattle.script_run.specs.Run.{IsComplete, MomentSoFar}
use Rattle.script_run.specs.Tended.{tending_of}
use Rattle.script_run.specs.declared.tending.Tending.{Tending}

module _ (p : Params) (commands : List Command) (old mid new : Disk) where
  -- By the courses of both, from each stage that the first restart may make of the files and each that the second one may make of
  -- what the first has left: a crash leaves what one at the start could leave, or the world after some first steps of the first
  -- restart, or what is then said of the second call.
  abbrev pub StepsTwice : ((again : Stage) → IsFirst Least p commands mid again → Files → List ℕ → Type 0) → Type 0
  StepsTwice Then = (first : Stage) → (is : IsFirst Usual p commands old first) → (again : Stage) → (here : IsFirst Least p commands mid again)
      → LeavesOnly old new (OrAtStart old (λ files said. OpeningMoment Usual p commands old first is files said ⊎ Then again here files said))

  -- A run of a script of these lines, begun on `old`. Its restart was refused memory, which left `mid`; begun again it ends with
  -- this status.
  pub record IsRunTwice (tending : Tending) (script : List (List ℕ)) (status : Status) : Type 0 where
    -- what a crash at any moment of either leaves is what a crash at the start could leave, or it stands for these commands and a
    -- beginning of those that the script has added, and what was said is the answers to the script's lines
    pub images : LeavesOnly old new (OrAtStart old (Moment p commands script old.said))
    pub from_settled : IsSettled old → LeavesOnly old new (Moment p commands script old.said)
    pub opened : status ≢ DiskFault → status ≢ RestartMemory → InEachImage new (λ files. Moment p commands script old.said files new.said)
    pub unclosed : IsCut status → LeavesOnly old new (OrAtStart old (MomentSoFar p commands script old.said))
    pub unclosed_from_settled : IsSettled old → IsCut status → LeavesOnly old new (MomentSoFar p commands script old.said)
    pub unclosed_now : IsCut status → status ≢ RestartMemory → InEachImage new (λ files. MomentSoFar p commands script old.said files new.said)
    -- what was said is the answers to the script's lines, from each stage that the second restart may make of the files
    pub first : (first : Stage) × IsFirst Least p commands mid first
    pub answers : (first : Stage) → IsFirst Least p commands mid first → SaysTruly tending p first commands script old new
    pub steps : StepsTwice (λ again here. RunMoment tending Least p commands mid again here script)
    pub complete : (first : Stage) → IsFirst Least p commands mid first → (status ≡ Done) ⊎ (status ≡ DoneWithRefusals) → IsComplete tending p first old new commands script status
    -- where the second restart was refused memory too, the files stand for these commands still
    pub unopened : status ≡ RestartMemory → StandsStill p commands old new
    pub store : (status ≢ NotAStore) × (status ≢ Damaged)

  -- A stream is followed, of which the second call takes these bytes, to the end of the input or not (`ended`).
  pub record IsFollowTwice (same : Bool) (ended : Type 0) (bytes : List ℕ) (status : Status) : Type 0 where
    pub images : (first : Stage) → IsFirst Least p commands mid first → LeavesOnly old new (OrAtStart old (StandbyMoment p commands first.world.history bytes old new))
    -- from each stage that the second restart may make of the files it is followed as by one call, and compared where that is asked
    pub first : (first : Stage) × IsFirst Least p commands mid first
    pub follows_it : (first : Stage) → IsFirst Least p commands mid first → FollowsFrom same ended bytes p first.world.history first.world old new status
    pub steps : StepsTwice (λ again here. FollowingMoment Least p commands mid again here bytes new)

-- What the two make of files that stand for commands, by what was asked: what a crash at any moment of either leaves is what a
-- crash at the start could leave, or what one call leaves. The input had `left` at the start, where its source reports that; of one
-- that does not the same holds of some script.
abbrev pub IsCallTwice : Asked → Params → List Command → Type 0 → List ℕ → Disk → Disk → Disk → Status → Type 0
IsCallTwice (Run tend) p commands told left old mid new status = (told → IsRunTwice p commands old mid new (tending_of tend) (lines_of left) status) × ((script : List (List ℕ)) × IsRunTwice p commands old mid new (tending_of tend) script status)
IsCallTwice Dump p commands told left old mid new status = LeavesOnly old new (OrAtStart old (DumpMoment p commands old.said)) × (status ≡ Done → new.said ≡ old.said ++ dump_of p commands)
    × StepsTwice p commands old mid new (λ again here. TableMoment Least p commands mid again here)
IsCallTwice (Upgrade q) p commands told left old mid new status = LeavesOnly old new (OrAtStart old (UpgradeMoment p q commands mid.reads old.said))
    × StepsTwice p commands old mid new (λ again here. GrowthMoment Least p q commands mid again here)
IsCallTwice (Ship from) p commands told left old mid new status = LeavesOnly old new (OrAtStart old (ShipMoment p commands from old.said))
    × StepsTwice p commands old mid new (λ again here. TableMoment Least p commands mid again here)
IsCallTwice (Follow same) p commands told left old mid new status = (bytes : List ℕ) × (rest : List ℕ) × (told → left ≡ bytes ++ rest) × IsFollowTwice p commands old mid new same (HasEnded told left rest) bytes status
-- these open no store that is there
IsCallTwice (Init q) p commands told left old mid new status = ⊥
IsCallTwice (Demo seed steps) p commands told left old mid new status = ⊥
