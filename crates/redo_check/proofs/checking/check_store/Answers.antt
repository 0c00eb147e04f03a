use Rattle.std.proofs.Common.{List, ℕ, inr, subst}
use Rattle.disk_model.specs.Disk.{Files}
use Rattle.redo_check.specs.Checking.{Ends, IsLastLine}
use Rattle.tool_output.specs.Saying.{says_then}
use Rattle.tool_output.specs.Faults.{StopsBy}
use Rattle.redo_check.proofs.EndLemmas.{no_last}
use Rattle.tool_output.specs.FaultLaws.{faults_later}
use Rattle.tool_output.specs.FrontLaws.{front_behind}
use Rattle.redo_check.proofs.checking.check_store.Goals as goal

pub returns-in-Ok-clause-keeps : goal.returns-in-Ok-clause-keeps
returns-in-Ok-clause-keeps g c = says_then c.say_files.ensures.runs c.end_checked.ensures.runs

pub returns-in-Ok-clause-checks : goal.returns-in-Ok-clause-checks
returns-in-Ok-clause-checks g c told verdict =
    let run = c.say_files.ensures.runs in
    let mid = g.M.Machine.disk c.say_files.new.machine in
    let new = g.M.Machine.disk c.end_checked.new.machine in
    let found = c.in-Ok.ensures.said told in
    record {
      text = found.0;
      lines = found.1;
      ends = subst (λ (s : List ℕ). Ends (g.M.Machine.disk c.args.machine.now).reads s new.said c.end_checked.result) found.2
          (subst (λ (f : Files). Ends f mid.said new.said c.end_checked.result) (run.reads told) (c.end_checked.ensures.ends (run.time.files_told.0 told)));
    }

pub returns-in-Ok-clause-faults : goal.returns-in-Ok-clause-faults
returns-in-Ok-clause-faults g c = faults_later (g.M.Machine.disk c.args.machine.now) (g.M.Machine.disk c.say_files.new.machine) (g.M.Machine.disk c.end_checked.new.machine) c.end_checked.result c.say_files.ensures.runs.time c.end_checked.ensures.faults

pub returns-in-Err-DiskFault-clause-faults : goal.returns-in-Err-DiskFault-clause-faults
returns-in-Err-DiskFault-clause-faults g c = subst (StopsBy (g.M.Machine.disk c.args.machine.now) (g.M.Machine.disk c.say_files.new.machine) (λ file place. ⊥)) c.in-Err-DiskFault.field-0-is c.in-Err-DiskFault.ensures.cause

pub returns-in-Err-SayFault-clause-faults : goal.returns-in-Err-SayFault-clause-faults
returns-in-Err-SayFault-clause-faults g c = subst (StopsBy (g.M.Machine.disk c.args.machine.now) (g.M.Machine.disk c.say_files.new.machine) (λ file place. ⊥)) c.in-Err-SayFault.field-0-is c.in-Err-SayFault.ensures.cause

pub returns-in-Err-NotAStore-clause-checks : goal.returns-in-Err-NotAStore-clause-checks
returns-in-Err-NotAStore-clause-checks g c told verdict = absurd (subst (StopsBy (g.M.Machine.disk c.args.machine.now) (g.M.Machine.disk c.say_files.new.machine) (λ file place. ⊥)) c.in-Err-NotAStore.field-0-is c.in-Err-NotAStore.ensures.cause)

pub returns-in-Err-Damaged-clause-checks : goal.returns-in-Err-Damaged-clause-checks
returns-in-Err-Damaged-clause-checks g c told verdict = absurd (subst (StopsBy (g.M.Machine.disk c.args.machine.now) (g.M.Machine.disk c.say_files.new.machine) (λ file place. ⊥)) c.in-Err-Damaged.field-0-is c.in-Err-Damaged.ensures.cause)

pub returns-in-Err-Memory-clause-faults : goal.returns-in-Err-Memory-clause-faults
returns-in-Err-Memory-clause-faults g c = tt

pub returns-in-Ok-clause-front : goal.returns-in-Ok-clause-front
returns-in-Ok-clause-front g c told =
    let run = c.say_files.ensures.runs in
    let found = c.in-Ok.ensures.said told in
    let (last, is, front) = c.end_checked.ensures.front (run.time.files_told.0 told) in
    inr (record {
      text = found.0;
      lines = found.1;
      last = last;
      last_is = subst (λ (f : Files). IsLastLine f last) (run.reads told) is;
      front = front_behind found.0 last _ _ _ found.2 front;
    })

pub returns-in-Err-NotAStore-clause-front : goal.returns-in-Err-NotAStore-clause-front
returns-in-Err-NotAStore-clause-front g c told = no_last _ _ _ (c.say_files.ensures.front told)

pub returns-in-Err-Damaged-clause-front : goal.returns-in-Err-Damaged-clause-front
returns-in-Err-Damaged-clause-front g c told = no_last _ _ _ (c.say_files.ensures.front told)

pub returns-in-Err-DiskFault-clause-front : goal.returns-in-Err-DiskFault-clause-front
returns-in-Err-DiskFault-clause-front g c told = no_last _ _ _ (c.say_files.ensures.front told)

pub returns-in-Err-SayFault-clause-front : goal.returns-in-Err-SayFault-clause-front
returns-in-Err-SayFault-clause-front g c told = no_last _ _ _ (c.say_files.ensures.front told)

pub returns-in-Err-Memory-clause-front : goal.returns-in-Err-Memory-clause-front
returns-in-Err-Memory-clause-front g c told = no_last _ _ _ (c.say_files.ensures.front told)
