-- What a run asks of the commands before it is given where they were accepted and consist of bytes.
use Rattle.std.proofs.Common.{◌≡◌, sym, subst, ℕ, List, [], ◌∷◌, ◌++◌, append_assoc, Result, Ok, Err}
use Rattle.std.specs.Prelude.{IfOk}
use Rattle.std.proofs.lemmas.List.Elements.{All-cons, All-head, All-nil, All-tail}
use Rattle.oper_core.specs.State.{State, start}
use Rattle.formats.specs.Objects.{IsInRange, bounds_of}
use Rattle.formats.specs.declared.params.Params.{Params}
use Rattle.op_codec.specs.AllOps.{AllOps, all_meaning}
use Rattle.op_codec.specs.declared.sum.Sum.TheVariants.{First, Second}
use Rattle.app_program.specs.OneCode.{AreBytes}
use Rattle.app_program.specs.declared.program_op.ProgramOp.TheVariants.{Step, Feed}
use Rattle.execution.specs.declared.exec_err.ExecErr.{ExecErr}
use Rattle.store_engine.specs.Store.{meaning_in, state_of}
use Rattle.app_steps.specs.Programs.{AreOfBytes, AreOfProgram, HasOnlyThese, IsFeedOrStep, IsOfProgram, IsValue, RunsOn, RunsOnBytes}
use Rattle.app_steps.proofs.Accepted.{AreAccepted}
use Rattle.app_steps.proofs.ByteLists.{no_bytes}
use Rattle.app_steps.proofs.ProgramRuns.{after_one}
use Rattle.app_steps.proofs.ValueBytes.{commands_bytes}

module _ (p : Params) where
  abbrev IsBytes : AllOps → Type 0
  IsBytes op = AreBytes ((meaning_in all_meaning p).code op)

  front_bytes : (before since : List AllOps) → AreOfBytes p (before ++ since) → AreOfBytes p before
  front_bytes [] since are = All-nil IsBytes
  front_bytes (op ∷ before) since are =
      All-cons IsBytes op before (All-head IsBytes op (before ++ since) are) (front_bytes before since (All-tail IsBytes op (before ++ since) are))

  -- after commands of bytes each value consists of bytes
  pub value_bytes : (commands : List AllOps) → AreOfBytes p commands → (x : ℕ) → AreBytes (state_of all_meaning p commands x)
  value_bytes commands are = commands_bytes (bounds_of p) commands start are (λ x. no_bytes)

  module _ (app : ℕ) (code : List ℕ) where
    of_program : (before : List AllOps) (op : AllOps) → ((x : ℕ) → AreBytes (state_of all_meaning p before x)) → IsFeedOrStep p app code before op → IsOfProgram p app code before op
    of_program before (Second (Second (First (Feed a x)))) are is = are x
    of_program before (Second (Second (First (Step a q)))) are is = is
    of_program before op are is = absurd is

    pub given : (ops before : List AllOps) → AreAccepted (meaning_in all_meaning p) (state_of all_meaning p before) ops → AreOfBytes p (before ++ ops)
        → HasOnlyThese p app code before ops → AreOfProgram p app code before ops
    given [] before accepted are only = tt
    given (op ∷ ops) before accepted are only = (
      (λ written. (accepted.0, of_program before op (value_bytes before (front_bytes before (op ∷ ops) are)) (only.0 written))),
      given ops (before ++ op ∷ []) (subst (λ (s : State). AreAccepted (meaning_in all_meaning p) s ops) (sym (after_one p app code before op)) accepted.1)
          (subst (λ (l : List AllOps). AreOfBytes p l) (sym (append_assoc before (op ∷ []) ops)) are) only.1,
    )

-- so a run goes on with what the program does
pub ran_on_bytes : (p : Params) (commands : List AllOps) (app q : ℕ) (r : Result ℕ ExecErr) → IfOk r (λ k. RunsOn p app q commands k) → IsInRange p
    → (AreOfBytes p commands → IsValue p (state_of all_meaning p commands q))
    → ((before since : List AllOps) → commands ≡ before ++ since → AreOfBytes p commands → HasOnlyThese p app (state_of all_meaning p commands q) before since → AreOfProgram p app (state_of all_meaning p commands q) before since)
    → IfOk r (λ k. RunsOnBytes p app q commands k)
ran_on_bytes p commands app q (Err e) runs range value are = tt
ran_on_bytes p commands app q (Ok k) runs range value are = λ before since same bytes empty only. runs before since same range (value bytes) empty (are before since same bytes only)
