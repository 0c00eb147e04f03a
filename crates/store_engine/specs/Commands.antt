-- What the engine's `exec` and `fetch` say, which calls that run several commands are made of.
use Rattle.std.specs.Prelude.{◌≡◌, ◌⊎◌, ◌∷◌, ◌++◌, [], ℕ, List, Option, Some, Result, OnOk, OnErr, IfSome, IsErrOf}
use Rattle.std.specs.Option.{is_some}
use Rattle.disk_model.specs.Disk.{Disk, LeavesOnly}
use Rattle.oper_core.specs.Meaning.{Meaning}
use Rattle.oper_core.specs.declared.bounds.Bounds.{Bounds}
use Rattle.formats.specs.declared.params.Params.{Params}
use Rattle.formats.specs.declared.read_err.ReadErr.{ReadErr}
use Rattle.formats.specs.declared.read_err.ReadErr.TheVariants.{DiskFault}
use Rattle.explain_core.specs.World.{World}
use Rattle.execution.specs.Answers as of_world
use Rattle.execution.specs.Answers.{ending_of_exec}
use Rattle.execution.specs.Courses.{exec_course}
use Rattle.execution.specs.declared.exec_err.ExecErr.{ExecErr}
use Rattle.execution.specs.declared.exec_err.ExecErr.TheVariants as of_exec
use Rattle.store_engine.specs.Engine.{EngineView, Between, HasCause, Holds, IsEngineCall, IsEngineFetch, IsOutcome, Kept, ShowsIn, TakesIn, accepted_in, forced_in, group_size, params_of, used_in}
use Rattle.store_engine.specs.Failures.{IsFetchFailure}
use Rattle.store_engine.specs.Store.{meaning_in}

module _ {O : Type 0} (meaning : Bounds → Meaning O) (old new : Disk) (before after : EngineView) where
  -- a command was run
  pub record HasRun (op : O) (result : Result ℕ ExecErr) : Type 0 where
    pub call : IsEngineCall meaning (params_of before).limit old new before after 0 (ending_of_exec result)
    pub takes : TakesIn meaning old new before after (λ m w used. exec_course m (is_some w.group) (params_of before).limit op w used) (ending_of_exec result)
    pub ok : (p : Params) (commands : List O) → Holds meaning p old before commands → OnOk result (Kept meaning p before new after (commands ++ op ∷ []))
    pub err : (p : Params) (commands : List O) → Holds meaning p old before commands → OnErr result (IsErrOf result of_exec.DiskFault ⊎ Kept meaning p before new after commands)
    pub images : old.tells_moments → (p : Params) (commands : List O) → Holds meaning p old before commands → LeavesOnly old new (Between meaning p old before.group (forced_in before) (accepted_in before) commands)
    pub in_world : (p : Params) (w : World O) → ShowsIn meaning p old before w → of_world.HasCauseIn (is_some w.group) (meaning_in meaning p) p.limit w (used_in before) op result
    pub on_map : (p : Params) (commands : List O) → Holds meaning p old before commands → HasCause meaning (group_size before) p commands op result
    pub outcome : IsOutcome meaning old new before after.parts op result

  -- an object was fetched, if there is one, and this error was answered or none
  pub record HasFetched (object : ℕ) (error : Option ReadErr) : Type 0 where
    pub call : IsEngineFetch meaning old new before after (error ≡ Some DiskFault)
    pub params : params_of after ≡ params_of before
    pub shows : (p : Params) (w : World O) → ShowsIn meaning p old before w → (error ≡ Some DiskFault) ⊎ ShowsIn meaning p new after w
    pub cause : IfSome error (IsFetchFailure old new before object)
