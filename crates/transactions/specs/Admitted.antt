-- What is answered of a command that is to be staged.
use Rattle.std.specs.Prelude.{◌≡◌, ◌++◌, ◌∷◌, [], ⊤, ℕ, List, None, Some, Result, Ok, Err}
use Rattle.oper_core.specs.State.{State}
use Rattle.oper_core.specs.Meaning.{Meaning, read_values, refusal_of}
use Rattle.oper_core.specs.declared.bounds.Bounds.{Bounds}
use Rattle.formats.specs.declared.params.Params.{Params}
use Rattle.dirty_cache.specs.Contents.{Contents}
use Rattle.execution.specs.declared.exec_err.ExecErr.{ExecErr}
use Rattle.execution.specs.declared.exec_err.ExecErr.TheVariants.{Refused, LogFull, LsnEnd, DiskFault, Damaged, Memory}
use Rattle.store_engine.specs.Store.{refusal_after}
use Rattle.transactions.specs.Staged.{IsStaged}

-- on this state nothing refuses it, and these are the values that it makes; or it is refused so; the log, which has no part in it, stops
-- none
abbrev pub IsAdmitted : {O : Type 0} → Meaning O → State → O → Result (List (List ℕ)) ExecErr → Type 0
IsAdmitted m s op (Ok made) = (refusal_of m s op ≡ None) × (made ≡ m.effect op (read_values m s op))
IsAdmitted m s op (Err (Refused refusal)) = refusal_of m s op ≡ Some refusal
IsAdmitted m s op (Err (LogFull used need limit)) = ⊥
IsAdmitted m s op (Err (LsnEnd lsn)) = ⊥
IsAdmitted m s op (Err DiskFault) = ⊤
IsAdmitted m s op (Err (Damaged file place)) = ⊤
IsAdmitted m s op (Err Memory) = ⊤

-- Where commands were staged on a store with these, and one more was to be: it is staged too, where nothing refuses it after them all;
-- it is refused so; and in each case but the first the staged ones are as they were. Nothing is logged, so the log stops none.
abbrev pub HasStaged : {O : Type 0} → (Bounds → Meaning O) → Params → List O → List O → List O → ℕ → Contents → O → Result (Unit {0}) ExecErr → Type 0
HasStaged meaning p commands before ops bytes made op (Ok value) = (refusal_after meaning p (commands ++ before) op ≡ None) × (ops ≡ before ++ op ∷ []) × IsStaged meaning p commands ops bytes made
HasStaged meaning p commands before ops bytes made op (Err (Refused refusal)) = (refusal_after meaning p (commands ++ before) op ≡ Some refusal) × (ops ≡ before) × IsStaged meaning p commands ops bytes made
HasStaged meaning p commands before ops bytes made op (Err (LogFull used need limit)) = ⊥
HasStaged meaning p commands before ops bytes made op (Err (LsnEnd lsn)) = ⊥
HasStaged meaning p commands before ops bytes made op (Err DiskFault) = (ops ≡ before) × IsStaged meaning p commands ops bytes made
HasStaged meaning p commands before ops bytes made op (Err (Damaged file place)) = (ops ≡ before) × IsStaged meaning p commands ops bytes made
HasStaged meaning p commands before ops bytes made op (Err Memory) = (ops ≡ before) × IsStaged meaning p commands ops bytes made
