-- Which answer a command gets, in a world.
use Rattle.std.specs.Prelude.{◌≡◌, ◌⊎◌, ◌+◌, ◌<◌, ◌≤◌, ◌^◌, ⊤, ℕ, Bool, false, length, Result, Ok, Err, None, Some}
use Rattle.oper_core.specs.Meaning.{Meaning, IsInGrammar}
use Rattle.explain_core.specs.History.{commands_of}
use Rattle.explain_core.specs.World.{World, end_of}
use Rattle.running_store.specs.Courses.{Stop, grown}
use Rattle.running_store.specs.Courses.Stop.{Through, Full, At_end}
use Rattle.running_store.specs.Taking.{Ending}
use Rattle.running_store.specs.Taking.Ending.{Done, Stopped, Short, Failed}
use Rattle.running_store.specs.Calls.Commands.{command_length}
use Rattle.execution.specs.Courses.{needed, refusal_in}
use Rattle.execution.specs.declared.exec_err.ExecErr.{ExecErr}
use Rattle.execution.specs.declared.exec_err.ExecErr.TheVariants.{Refused, DiskFault, Damaged, LogFull, LsnEnd, Memory}

-- How a command ended, in the terms of its course: one that is refused has taken all of its course, which is none.
abbrev pub ending_of_error : ExecErr → Ending
ending_of_error (Refused refusal) = Done
ending_of_error DiskFault = Failed
ending_of_error (Damaged file place) = Short
ending_of_error (LogFull used need limit) = Stopped (Full used need limit)
ending_of_error (LsnEnd lsn) = Stopped (At_end lsn)
ending_of_error Memory = Short

abbrev pub ending_of_exec : {T : Type 0} → Result T ExecErr → Ending
ending_of_exec (Ok value) = Done
ending_of_exec (Err e) = ending_of_error e

-- what stops a command that is answered so
abbrev pub stop_of_exec : ExecErr → Stop
stop_of_exec (Refused refusal) = Through
stop_of_exec DiskFault = Through
stop_of_exec (Damaged file place) = Through
stop_of_exec (LogFull used need limit) = Full used need limit
stop_of_exec (LsnEnd lsn) = At_end lsn
stop_of_exec Memory = Through

module _ {O : Type 0} (grouped : Bool) (m : Meaning O) (limit : ℕ) (w : World O) (used : ℕ) (op : O) where
  -- its record fits in a log of this length, in which it begins a block where nothing waits
  abbrev pub Fits : Type 0
  Fits = grown m w used (command_length m op) ≤ limit

  -- it does not
  abbrev pub IsTooLong : Type 0
  IsTooLong = limit < grown m w used (command_length m op)

  -- Why a command gets its answer in this world, with a log of this length: it is refused; or else its record does not fit;
  -- or else no LSN is left for it; or else it is done, and is the next command. No two of these hold at once, so each
  -- answer comes exactly where its cause holds, but that a fault may stand in the place of the second and the third where no
  -- group is open, and of any for a command that reads objects, and out of memory in that of any. No file is damaged.
  abbrev pub HasCauseIn : Result ℕ ExecErr → Type 0
  HasCauseIn (Ok n) = (refusal_in m w op ≡ None) × Fits × (end_of w < 2 ^ 62) × (n ≡ length (commands_of w.history) + 1)
  HasCauseIn (Err (Refused refusal)) = refusal_in m w op ≡ Some refusal
  HasCauseIn (Err (LogFull held need most)) = (refusal_in m w op ≡ None) × IsTooLong × (held ≡ used) × (need ≡ needed m grouped w (command_length m op)) × (most ≡ limit)
  HasCauseIn (Err (LsnEnd lsn)) = (refusal_in m w op ≡ None) × Fits × (2 ^ 62 ≤ end_of w) × (lsn ≡ end_of w)
  HasCauseIn (Err DiskFault) = (IsInGrammar m op × (0 < length (m.reads op))) ⊎ ((grouped ≡ false) × (refusal_in m w op ≡ None) × (IsTooLong ⊎ (2 ^ 62 ≤ end_of w)))
  HasCauseIn (Err (Damaged file place)) = ⊥
  HasCauseIn (Err Memory) = ⊤
