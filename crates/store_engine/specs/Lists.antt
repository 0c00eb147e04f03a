-- Several commands, one after the other, on an engine that stands for commands.
use Rattle.std.specs.Prelude.{◌≡◌, ◌⊎◌, ◌+◌, ◌≤◌, ⊤, ℕ, List, [], ◌∷◌, ◌++◌, length, take, drop, Option, None, Some}
use Rattle.std.specs.Option.{is_some}
use Rattle.disk_model.specs.Disk.{Disk, Files, LeavesOnly, Passes}
use Rattle.disk_model.specs.declared.machine.FileNo.TheVariants.{Objects}
use Rattle.oper_core.specs.Meaning.{Meaning}
use Rattle.oper_core.specs.declared.bounds.Bounds.{Bounds}
use Rattle.oper_core.specs.declared.refusal.Refusal.{Refusal}
use Rattle.formats.specs.declared.params.Params.{Params}
use Rattle.formats.specs.declared.read_err.ReadErr.{ReadErr}
use Rattle.stable_objects.specs.Reading.{IsLongValue}
use Rattle.explain_core.specs.History.{commands_of}
use Rattle.explain_core.specs.Taken.{IsAfterSome}
use Rattle.explain_core.specs.World.{World, run}
use Rattle.standing.specs.Moments.{TakesSome}
use Rattle.running_store.specs.Calls.{IsFailed}
use Rattle.running_store.specs.Courses.{Course, Stop, and_then, course}
use Rattle.running_store.specs.Courses.Stop.{Through, Full, At_end, Worn}
use Rattle.running_store.specs.Taking.{Ending}
use Rattle.running_store.specs.Taking.Ending.{Done, Stopped, Short, Failed}
use Rattle.execution.specs.Answers.{ending_of_error}
use Rattle.execution.specs.Courses.{append_course}
use Rattle.execution.specs.Failures.{exec_from_read}
use Rattle.execution.specs.declared.exec_err.ExecErr.{ExecErr}
use Rattle.execution.specs.declared.exec_err.ExecErr.TheVariants.{Refused, LogFull, LsnEnd, DiskFault, Damaged, Memory}
use Rattle.store_engine.specs.Engine.{EngineView, Between, IsAttached, IsEngineCall, ShowsIn, forced_in, group_size, needed_in, params_of, used_in}
use Rattle.store_engine.specs.Store.{meaning_in, record_length, refusal_after}

-- how a call ends that answers this error, or none: one that is refused has done all that it does
abbrev pub ending_of : Option ExecErr → Ending
ending_of None = Done
ending_of (Some e) = ending_of_error e

-- a read that fails in the terms of a command, or none
abbrev pub as_exec : Option ReadErr → Option ExecErr
as_exec None = None
as_exec (Some e) = Some (exec_from_read e)

-- the number of commands of the open group with some more
abbrev pub larger : Option ℕ → ℕ → Option ℕ
larger None more = None
larger (Some size) more = Some (size + more)

-- it ended before all was done
abbrev pub IsUnfinished : Ending → Type 0
IsUnfinished Done = ⊥
IsUnfinished (Stopped stop) = ⊤
IsUnfinished Short = ⊤
IsUnfinished Failed = ⊤

-- memory or the disk ended it
abbrev pub IsCutOff : Ending → Type 0
IsCutOff Done = ⊥
IsCutOff (Stopped stop) = ⊥
IsCutOff Short = ⊤
IsCutOff Failed = ⊤

-- it is not the answer that a file is damaged
abbrev pub IsUndamaged : Option ExecErr → Type 0
IsUndamaged None = ⊤
IsUndamaged (Some (Refused refusal)) = ⊤
IsUndamaged (Some (LogFull used need limit)) = ⊤
IsUndamaged (Some (LsnEnd lsn)) = ⊤
IsUndamaged (Some DiskFault) = ⊤
IsUndamaged (Some (Damaged file place)) = ⊥
IsUndamaged (Some Memory) = ⊤

-- Where the answer is that a file is damaged at a place, it is the objects file, and all files that agree with what was read have
-- there the length of a value that is longer than so many bytes, or goes past the end of the file.
abbrev pub IsReadAsLong : Disk → ℕ → Option ExecErr → Type 0
IsReadAsLong new cap None = ⊤
IsReadAsLong new cap (Some (Refused refusal)) = ⊤
IsReadAsLong new cap (Some (LogFull used need limit)) = ⊤
IsReadAsLong new cap (Some (LsnEnd lsn)) = ⊤
IsReadAsLong new cap (Some DiskFault) = ⊤
IsReadAsLong new cap (Some (Damaged file place)) = (file ≡ Objects) × (slot : ℕ) × ((files : Files) → new.agrees files → IsLongValue cap slot (files Objects) place)
IsReadAsLong new cap (Some Memory) = ⊤

module _ {O : Type 0} (m : Meaning O) where
  -- the course of commands that nothing refuses, one after the other, in a log with this limit: it ends where one of them
  -- is stopped; within a group nothing is forced then
  abbrev pub commands_course : ℕ → List O → World O → ℕ → Course O
  commands_course limit [] w used = course [] used Through
  commands_course limit (op ∷ ops) w used = and_then m w (append_course m (is_some w.group) limit op w used) (λ v used. commands_course limit ops v used)

  -- this is the world after the whole course, and this is how long the log is then
  pub record IsBehind (w : World O) (c : Course O) (now : World O) (used : ℕ) : Type 0 where
    pub world_is : now ≡ run m w c.steps
    pub used_is : used ≡ c.used

  -- Done or stopped, a call that ends so has taken the whole course, and the course says so; short of memory, it has taken
  -- some first steps of it; after a fault nothing is said.
  abbrev pub EndsBy : World O → Course O → World O → ℕ → Ending → Type 0
  EndsBy w c now used Done = (c.stop ≡ Through) × IsBehind w c now used
  EndsBy w c now used (Stopped stop) = (c.stop ≡ stop) × IsBehind w c now used
  EndsBy w c now used Short = IsAfterSome m (λ v. now ≡ v) w c.steps
  EndsBy w c now used Failed = ⊤

-- What holds on every machine of a call that runs commands and fetches objects, and answers this error or none: what holds
-- of every call, and no identity write is logged; where the machine reports its files and the engine is attached to them,
-- none is damaged, and where one is called so, it was read so.
pub record AreCalls {O : Type 0} (meaning : Bounds → Meaning O) (old new : Disk) (before after : EngineView) (error : Option ExecErr) : Type 0 where
  pub call : IsEngineCall meaning (params_of before).limit old new before after 0 (ending_of error)
  pub undamaged : old.tells_files → IsAttached meaning old before → IsUndamaged error
  pub damaged : IsReadAsLong new (params_of before).cap error

module _ {O : Type 0} (meaning : Bounds → Meaning O) (p : Params) where
  -- what is said of a command for which the log has no room: how many bytes it needs, with so many commands in the open
  -- group, and the limit
  abbrev pub IsNeed : Option ℕ → O → Stop → Type 0
  IsNeed size op Through = ⊥
  IsNeed size op (Full used need limit) = (need ≡ needed_in size (record_length meaning p op)) × (limit ≡ p.limit)
  IsNeed size op (At_end lsn) = ⊤
  IsNeed size op (Worn epoch) = ⊥

  -- of these commands the one after the first `done` was stopped so; before the first the open group had so many
  pub record IsStoppedAt (size : Option ℕ) (ops : List O) (done : ℕ) (stop : Stop) : Type 0 where
    pub op : O
    pub rest : List O
    pub here : drop done ops ≡ op ∷ rest
    pub need : IsNeed (larger size done) op stop

  -- After the commands this command comes next of those that are to come, unless it is refused there.
  abbrev pub ComesNext : List O → O → List O → Type 0
  ComesNext commands op ops = ((refusal : Refusal) × (refusal_after meaning p commands op ≡ Some refusal)) ⊎ ((more : List O) × (ops ≡ op ∷ more))

  -- engine and files show a world with these commands, so far along the course of the operations as the call's end says
  pub record HasReached (d : Disk) (engine : EngineView) (w : World O) (used : ℕ) (ops commands : List O) (ending : Ending) : Type 0 where
    pub world : World O
    pub shows : ShowsIn meaning p d engine world
    pub commands_are : commands_of world.history ≡ commands
    pub ends : EndsBy (meaning_in meaning p) w (commands_course (meaning_in meaning p) p.limit ops w used) world (used_in engine) ending

  -- A call on an engine and files that show the world, which has these commands, was to add the operations to them, one
  -- after the other, and has added the first `done`: all of them where it is done. Unless the disk failed, engine and files
  -- then show a world that has these too, in the same group or none, and no fewer commands are forced: as many, or, where no
  -- group is open, at least those before it. A crash at any moment of it leaves such a front of them, and the world after some
  -- first steps of their course.
  pub record AddsFront (old new : Disk) (before after : EngineView) (w : World O) (commands ops : List O) (ending : Ending) : Type 0 where
    pub time : Passes old new
    pub done : ℕ
    pub front : done ≤ length ops
    pub all : ending ≡ Done → done ≡ length ops
    pub kept : IsFailed ending ⊎ HasReached new after w (used_in before) ops (commands ++ take done ops) ending
    pub rising : IsFailed ending ⊎ (forced_in before ≤ forced_in after)
    pub which : IsFailed ending ⊎ ((forced_in after ≡ forced_in before) ⊎ ((before.group ≡ None) × (length commands ≤ forced_in after)))
    pub group : after.group ≡ before.group
    pub size : group_size after ≡ larger (group_size before) done
    pub stopped : (stop : Stop) → ending ≡ Stopped stop → IsStoppedAt (group_size before) ops done stop
    pub identities : after.identities ≡ before.identities
    pub images : old.tells_moments → LeavesOnly old new (Between meaning p old before.group (forced_in before) (length commands) (commands ++ take done ops))
    pub steps : old.tells_moments → TakesSome (meaning_in meaning p) p old new w (commands_course (meaning_in meaning p) p.limit ops w (used_in before)).steps
