use Rattle.std.proofs.Common.{◌≡◌, refl, rules, subst, sym}
use Rattle.disk_model.specs.Disk.{SaysFront}
use Rattle.disk_model.specs.Moments.{stays_here}
use Rattle.tool_output.specs.Lines.{stop_line}
use Rattle.tool_output.specs.Saying.{says_front, says_nothing}
use Rattle.tool_output.specs.declared.stop.Stop.{Stop}
use Rattle.tool_output.specs.declared.stop.Stop.TheVariants as stops
use Rattle.tool_output.specs.FaultLaws.{hands_on}
use Rattle.tool_output.specs.FrontLaws.{nothing_said}
use Rattle.tool_output.proofs.ending.end_stopped.Goals as goal

pub returns-in-NotAStore-clause-runs : goal.returns-in-NotAStore-clause-runs
returns-in-NotAStore-clause-runs g c = says_front _ c.end_with.ensures.runs

pub returns-in-DiskFault-clause-runs : goal.returns-in-DiskFault-clause-runs
returns-in-DiskFault-clause-runs g c = says_nothing (stays_here (g.M.Machine.disk c.args.machine.now) (g.met.M.Machine.lawful c.args.machine.now))

pub returns-in-SayFault-clause-runs : goal.returns-in-SayFault-clause-runs
returns-in-SayFault-clause-runs g c = says_nothing (stays_here (g.M.Machine.disk c.args.machine.now) (g.met.M.Machine.lawful c.args.machine.now))

pub returns-in-Memory-clause-runs : goal.returns-in-Memory-clause-runs
returns-in-Memory-clause-runs g c = says_nothing (stays_here (g.M.Machine.disk c.args.machine.now) (g.met.M.Machine.lawful c.args.machine.now))

pub returns-in-NotAStore-clause-faults : goal.returns-in-NotAStore-clause-faults
returns-in-NotAStore-clause-faults g c = hands_on (g.M.Machine.disk c.args.machine.now) (g.M.Machine.disk c.end_with.new.machine) c.args.stop c.end_with.result (c.end_with.ensures.faults tt)

pub returns-in-Damaged-clause-faults : goal.returns-in-Damaged-clause-faults
returns-in-Damaged-clause-faults g c = hands_on (g.M.Machine.disk c.args.machine.now) (g.M.Machine.disk c.end_damaged.new.machine) c.args.stop c.end_damaged.result c.end_damaged.ensures.faults

pub returns-in-NotAStore-clause-front : goal.returns-in-NotAStore-clause-front
returns-in-NotAStore-clause-front g c told =
    let same : c.args.stop ≡ stops.NotAStore = search rules in
    subst (λ (stop : Stop). SaysFront (stop_line stop) (g.M.Machine.disk c.args.machine.now).said (g.M.Machine.disk c.end_with.new.machine).said) (sym same) (c.end_with.ensures.runs.said told)

pub returns-in-Damaged-clause-front : goal.returns-in-Damaged-clause-front
returns-in-Damaged-clause-front g c told =
    let same : c.args.stop ≡ stops.Damaged c.in-Damaged.file c.in-Damaged.place = search rules in
    subst (λ (stop : Stop). SaysFront (stop_line stop) (g.M.Machine.disk c.args.machine.now).said (g.M.Machine.disk c.end_damaged.new.machine).said) (sym same) (c.end_damaged.ensures.front told)

pub returns-in-DiskFault-clause-front : goal.returns-in-DiskFault-clause-front
returns-in-DiskFault-clause-front g c told = nothing_said (stop_line c.args.stop) _ _ refl

pub returns-in-SayFault-clause-front : goal.returns-in-SayFault-clause-front
returns-in-SayFault-clause-front g c told = nothing_said (stop_line c.args.stop) _ _ refl

pub returns-in-Memory-clause-front : goal.returns-in-Memory-clause-front
returns-in-Memory-clause-front g c told = nothing_said (stop_line c.args.stop) _ _ refl
