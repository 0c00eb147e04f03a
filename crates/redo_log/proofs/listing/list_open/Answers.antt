use Rattle.std.proofs.Common.{◌++◌, ◌∙◌, List, ℕ, ap, subst, sym}
use Rattle.op_codec.specs.AllOps.{all_meaning}
use Rattle.redo_log.specs.Fronts.{IsDamage}
use Rattle.tool_output.specs.Lines.{damaged}
use Rattle.tool_output.specs.Found.{IsLogStopped}
use Rattle.tool_output.specs.Saying.{says_then}
use Rattle.tool_output.specs.FaultLaws.{stopped_counted}
use Rattle.redo_log.proofs.ListLemmas.{no_last, stopped_part}
use Rattle.redo_log.proofs.listing.list_open.Goals as goal

pub returns-in-Err-clause-keeps : goal.returns-in-Err-clause-keeps
returns-in-Err-clause-keeps g c = says_then c.list_log.ensures.runs c.end_stopped.ensures.runs

pub returns-in-Err-clause-listed : goal.returns-in-Err-clause-listed
returns-in-Err-clause-listed g c told store done = absurd (c.end_stopped.ensures.undone done)

pub returns-in-Err-clause-a_store : goal.returns-in-Err-clause-a_store
returns-in-Err-clause-a_store g c told store none =
    let is = c.end_stopped.ensures.no_store (c.list_log.ensures.runs.time.files_told.0 told) none in
    subst (IsLogStopped (g.M.Machine.disk c.args.machine.now).reads) is.0 (c.in-Err.ensures.cause told store)

pub returns-in-Err-clause-damaged : goal.returns-in-Err-clause-damaged
returns-in-Err-clause-damaged g c told store done =
    let is = c.end_stopped.ensures.damaged (c.list_log.ensures.runs.time.files_told.0 told) done in
    let lines = c.in-Err.ensures.damage told store (subst IsDamage (sym is.2) tt) in
    record {
      file = is.0;
      place = is.1;
      is = subst (IsLogStopped (g.M.Machine.disk c.args.machine.now).reads) is.2 (c.in-Err.ensures.cause told store);
      lines = lines.0;
      lines_are = lines.1;
      said = is.3 ∙ ap (λ (l : List ℕ). l ++ damaged is.0 is.1) lines.2;
    }

pub returns-in-Err-clause-faults : goal.returns-in-Err-clause-faults
returns-in-Err-clause-faults g c = stopped_counted (g.M.Machine.disk c.args.machine.now) (g.M.Machine.disk c.list_log.new.machine) (g.M.Machine.disk c.end_stopped.new.machine) c.in-Err.stop c.end_stopped.result c.list_log.ensures.runs.time c.end_stopped.ensures.runs.time c.in-Err.ensures.faults c.end_stopped.ensures.faults

pub returns-in-Ok-clause-front : goal.returns-in-Ok-clause-front
returns-in-Ok-clause-front g c told store = no_last c.args.choice (all_meaning c.args.b) (g.M.Machine.disk c.args.machine.now).reads _ _ store.0 (c.list_log.ensures.front told)

pub returns-in-Err-clause-front : goal.returns-in-Err-clause-front
returns-in-Err-clause-front g c told store =
    stopped_part c.args.choice (all_meaning c.args.b) (g.M.Machine.disk c.args.machine.now).reads _ _ _ c.in-Err.stop store.0 (c.in-Err.ensures.cause told store) (c.list_log.ensures.front told) (c.in-Err.ensures.damage told store)
    (c.end_stopped.ensures.front (c.list_log.ensures.runs.time.files_told.0 told))
