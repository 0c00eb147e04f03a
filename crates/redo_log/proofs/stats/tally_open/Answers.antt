use Rattle.std.proofs.Common.{◌∙◌, ◌++◌, List, ℕ, ap, subst, sym}
use Rattle.tool_output.specs.FaultLaws.{stopped_counted}
use Rattle.tool_output.specs.Found.{IsLogStopped}
use Rattle.tool_output.specs.Lines.{damaged}
use Rattle.tool_output.specs.Saying.{says_then}
use Rattle.redo_log.specs.Fronts.{IsDamage}
use Rattle.redo_log.proofs.CountLemmas.{stopped_tally}
use Rattle.redo_log.proofs.stats.tally_open.Goals as goal

pub returns-in-Ok-clause-counted : goal.returns-in-Ok-clause-counted
returns-in-Ok-clause-counted g c told store done = c.in-Ok.ensures.counted told store

pub returns-in-Err-clause-keeps : goal.returns-in-Err-clause-keeps
returns-in-Err-clause-keeps g c = says_then c.say_tally.ensures.runs c.end_stopped.ensures.runs

pub returns-in-Err-clause-counted : goal.returns-in-Err-clause-counted
returns-in-Err-clause-counted g c told store done = absurd (c.end_stopped.ensures.undone done)

pub returns-in-Err-clause-a_store : goal.returns-in-Err-clause-a_store
returns-in-Err-clause-a_store g c told store none =
    let is = c.end_stopped.ensures.no_store (c.say_tally.ensures.runs.time.files_told.0 told) none in
    subst (IsLogStopped (g.M.Machine.disk c.args.machine.now).reads) is.0 (c.in-Err.ensures.cause told store)

pub returns-in-Err-clause-damaged : goal.returns-in-Err-clause-damaged
returns-in-Err-clause-damaged g c told store done =
    let is = c.end_stopped.ensures.damaged (c.say_tally.ensures.runs.time.files_told.0 told) done in (
      is.0,
      is.1,
      subst (IsLogStopped (g.M.Machine.disk c.args.machine.now).reads) is.2 (c.in-Err.ensures.cause told store),
      is.3 ∙ ap (λ (l : List ℕ). l ++ damaged is.0 is.1) (c.in-Err.ensures.damage told (subst IsDamage (sym is.2) tt)),
    )

pub returns-in-Err-clause-front : goal.returns-in-Err-clause-front
returns-in-Err-clause-front g c told store =
    stopped_tally c.args.choice (g.M.Machine.disk c.args.machine.now).reads _ _ _ c.in-Err.stop (c.in-Err.ensures.cause told store) (c.say_tally.ensures.front told store) (c.in-Err.ensures.damage told) (c.end_stopped.ensures.front (c.say_tally.ensures.runs.time.files_told.0 told))

pub returns-in-Err-clause-faults : goal.returns-in-Err-clause-faults
returns-in-Err-clause-faults g c = stopped_counted (g.M.Machine.disk c.args.machine.now) (g.M.Machine.disk c.say_tally.new.machine) (g.M.Machine.disk c.end_stopped.new.machine) c.in-Err.stop c.end_stopped.result c.say_tally.ensures.runs.time c.end_stopped.ensures.runs.time c.in-Err.ensures.faults c.end_stopped.ensures.faults
