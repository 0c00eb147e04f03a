-- The numbers that C is told.
use Rattle.std.specs.Prelude.{ℕ, Option, None, Some, Result, Ok, Err}
use Rattle.write_queue.specs.Codes.{file_number}
use Rattle.oper_core.specs.declared.refusal.Refusal.{Refusal}
use Rattle.oper_core.specs.declared.refusal.Refusal.TheVariants as refusals
use Rattle.formats.specs.declared.read_err.ReadErr.{ReadErr}
use Rattle.formats.specs.declared.read_err.ReadErr.TheVariants as reading
use Rattle.stable_objects.specs.declared.open_err.OpenErr.{OpenErr}
use Rattle.stable_objects.specs.declared.open_err.OpenErr.TheVariants as opening
use Rattle.execution.specs.declared.exec_err.ExecErr.{ExecErr}
use Rattle.execution.specs.declared.exec_err.ExecErr.TheVariants as commands
use Rattle.store_engine.specs.declared.init_err.InitErr.{InitErr}
use Rattle.store_engine.specs.declared.init_err.InitErr.TheVariants as laying_out
use Rattle.store_engine.specs.declared.work_err.WorkErr.{WorkErr}
use Rattle.store_engine.specs.declared.work_err.WorkErr.TheVariants as work
use Rattle.embed_c.specs.declared.answer.Answer.{Answer}

-- a number, with three beside it
abbrev pub telling : ℕ → ℕ → ℕ → ℕ → Answer
telling n a b c = record { number = n; detail = record { first = a; second = b; third = c } }

abbrev pub alone : ℕ → Answer
alone n = telling n 0 0 0

abbrev pub done_answer : Answer
done_answer = alone 0

abbrev pub number_of_refusal : Refusal → ℕ
number_of_refusal refusals.NoObject = 32
number_of_refusal refusals.Same = 33
number_of_refusal refusals.BadPlace = 34
number_of_refusal refusals.BadWidth = 35
number_of_refusal refusals.NotApp = 36
number_of_refusal refusals.NoInput = 37
number_of_refusal refusals.NotNode = 38
number_of_refusal refusals.NoKey = 39
number_of_refusal refusals.NodeFull = 40
number_of_refusal refusals.TooLarge = 41
number_of_refusal refusals.NotCode = 42
number_of_refusal refusals.Halted = 43
number_of_refusal refusals.NoPages = 50

abbrev pub of_exec : ExecErr → Answer
of_exec (commands.Refused why) = alone (number_of_refusal why)
of_exec commands.DiskFault = alone 5
of_exec (commands.Damaged file place) = telling 4 (file_number file) place 0
of_exec (commands.LogFull used need limit) = telling 16 used need limit
of_exec (commands.LsnEnd n) = telling 17 n 0 0
of_exec commands.Memory = alone 8

abbrev pub of_read : ReadErr → Answer
of_read reading.DiskFault = alone 5
of_read (reading.Damaged file place) = telling 4 (file_number file) place 0
of_read reading.Memory = alone 8

abbrev pub of_work : WorkErr → Answer
of_work (work.InGroup size) = telling 18 size 0 0
of_work (work.InBackup copied) = telling 20 copied 0 0
of_work (work.LogFull used need limit) = telling 16 used need limit
of_work (work.LsnEnd n) = telling 17 n 0 0
of_work (work.Exhausted epoch) = telling 17 epoch 0 0
of_work work.DiskFault = alone 5
of_work (work.Damaged file place) = telling 4 (file_number file) place 0
of_work work.Memory = alone 8

abbrev pub of_open : OpenErr → Answer
of_open opening.NotAStore = alone 3
of_open opening.DiskFault = alone 5
of_open (opening.Damaged file place) = telling 4 (file_number file) place 0
of_open opening.Memory = alone 8

abbrev pub of_init : InitErr → Answer
of_init laying_out.AlreadyStore = alone 6
of_init laying_out.DiskFault = alone 5

-- a call was done, or not for this cause
abbrev pub told : {T E : Type 0} → (E → Answer) → Result T E → Answer
told of (Ok value) = done_answer
told of (Err cause) = of cause

-- an object's value was read; there is no such object; or it was not read
abbrev pub told_value : Result (Option ℕ) ReadErr → Answer
told_value (Ok (Some n)) = done_answer
told_value (Ok None) = alone 32
told_value (Err cause) = of_read cause

-- a group was closed; none is open; or the store is broken
abbrev pub told_end : Result (Option ℕ) WorkErr → Answer
told_end (Ok (Some n)) = done_answer
told_end (Ok None) = alone 19
told_end (Err cause) = of_work cause
