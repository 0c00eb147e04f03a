-- The steps of an application that are accepted, one after the other.
use Rattle.std.specs.Prelude.{◌≡◌, ◌≢◌, ⊤, ℕ, zero, suc, Bool, true, false, List, [], ◌∷◌, ◌++◌, is_some, if◌then◌else◌, replicate, Some, Result, Ok, Err}
use Rattle.oper_core.specs.declared.refusal.Refusal.{Refusal}
use Rattle.oper_core.specs.declared.refusal.Refusal.TheVariants.{Halted, NoInput, TooLarge}
use Rattle.formats.specs.declared.params.Params.{Params}
use Rattle.op_codec.specs.AllOps.{AllOps, all_meaning, plain, program}
use Rattle.op_meaning.specs.declared.plain_op.PlainOp.TheVariants.{Exec, AppRead, AppWrite}
use Rattle.app_program.specs.declared.program_op.ProgramOp.TheVariants.{Step, Feed, Drain}
use Rattle.execution.specs.declared.exec_err.ExecErr.{ExecErr}
use Rattle.execution.specs.declared.exec_err.ExecErr.TheVariants.{Refused, LogFull, LsnEnd, DiskFault, Damaged, Memory}
use Rattle.store_engine.specs.Store.{refusal_after}

-- one step of the application in this object
abbrev pub step_of : ℕ → AllOps
step_of app = plain (Exec app)

-- the value of this object as more input of the application, and its output as the value of this object
abbrev pub feed_of : ℕ → ℕ → AllOps
feed_of app from = plain (AppRead app from)

abbrev pub drain_of : ℕ → ℕ → AllOps
drain_of app to = plain (AppWrite app to)

-- one step of the interpreted application in this object, by the program in the other
abbrev pub program_step : ℕ → ℕ → AllOps
program_step app code = program (Step app code)

-- the value of this object as more input of the interpreted application, and its output as the value of this object
abbrev pub program_feed : ℕ → ℕ → AllOps
program_feed app from = program (Feed app from)

abbrev pub program_drain : ℕ → ℕ → AllOps
program_drain app to = program (Drain app to)

-- a step that is refused so ends a run, also where it is the first; otherwise the first refuses the run
abbrev pub ends_a_run : Refusal → Bool
ends_a_run Halted = true
ends_a_run NoInput = true
ends_a_run TooLarge = true
ends_a_run refusal = false

-- A run has done some steps and its next is refused, or fails: it answers how many were done, but where the first is refused
-- in a way that ends no run, and where it fails, it answers why.
abbrev pub EndsSo : ℕ → ExecErr → Result ℕ ExecErr → Type 0
EndsSo done e (Ok n) = (n ≡ done) × ((refusal : Refusal) × (e ≡ Refused refusal) × (done ≡ 0 → ends_a_run refusal ≡ true))
EndsSo done e (Err f) = (f ≡ e) × ((refusal : Refusal) → e ≡ Refused refusal → (done ≡ 0) × (ends_a_run refusal ≡ false))

module _ (p : Params) where
  -- after the commands so many steps are accepted one after the other, at most n
  abbrev pub steps_accepted : List AllOps → AllOps → ℕ → ℕ
  steps_accepted commands step zero = 0
  steps_accepted commands step (suc n) = if is_some (refusal_after all_meaning p commands step) then 0 else suc (steps_accepted (commands ++ step ∷ []) step n)

  -- these steps
  abbrev pub steps : List AllOps → AllOps → ℕ → List AllOps
  steps commands step n = replicate (steps_accepted commands step n) step

  -- a step is asked for, and the first one is refused so, which ends no run
  pub record IsRefusedAtOnce (commands : List AllOps) (step : AllOps) (n : ℕ) (refusal : Refusal) : Type 0 where
    pub some : n ≢ 0
    pub first : refusal_after all_meaning p commands step ≡ Some refusal
    pub no_end : ends_a_run refusal ≡ false

  -- What a run of at most n steps answers: how many it did, or why it did none; the log, memory or the disk may end it
  -- before.
  abbrev pub HasAnswer : List AllOps → AllOps → ℕ → Result ℕ ExecErr → Type 0
  HasAnswer commands step n (Ok k) = (k ≡ steps_accepted commands step n) × ((refusal : Refusal) → IsRefusedAtOnce commands step n refusal → ⊥)
  HasAnswer commands step n (Err (Refused refusal)) = IsRefusedAtOnce commands step n refusal
  HasAnswer commands step n (Err (LogFull used need limit)) = ⊤
  HasAnswer commands step n (Err (LsnEnd number)) = ⊤
  HasAnswer commands step n (Err DiskFault) = ⊤
  HasAnswer commands step n (Err (Damaged file place)) = ⊤
  HasAnswer commands step n (Err Memory) = ⊤
