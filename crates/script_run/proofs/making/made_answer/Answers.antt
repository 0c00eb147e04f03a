use Rattle.std.proofs.Common.{sym, subst}
use Rattle.script_lines.specs.declared.line.Line.TheVariants.{Make}
use Rattle.script_lines.specs.declared.line.Making.{Making}
use Rattle.script_run.specs.Found.{IsMade}
use Rattle.script_run.proofs.making.made_answer.Goals as goal

pub returns-in-AppRun : goal.returns-in-AppRun
returns-in-AppRun g c =
    subst (λ (m : Making). IsMade (g.M.Machine.disk c.args.machine.now) (g.M.Machine.disk c.run_steps.new.machine) c.args.engine.now c.run_steps.new.engine (Make m) c.run_steps.result)
    (sym c.in-AppRun.is) c.run_steps.ensures

pub returns-in-ProgramRun : goal.returns-in-ProgramRun
returns-in-ProgramRun g c =
    subst (λ (m : Making). IsMade (g.M.Machine.disk c.args.machine.now) (g.M.Machine.disk c.run_program.new.machine) c.args.engine.now c.run_program.new.engine (Make m) c.run_program.result)
    (sym c.in-ProgramRun.is) c.run_program.ensures

pub returns-in-TreeInsert : goal.returns-in-TreeInsert
returns-in-TreeInsert g c =
    subst (λ (m : Making). IsMade (g.M.Machine.disk c.args.machine.now) (g.M.Machine.disk c.insert.new.machine) c.args.engine.now c.insert.new.engine (Make m) c.insert.result)
    (sym c.in-TreeInsert.is) c.insert.ensures

pub returns-in-TreeDelete : goal.returns-in-TreeDelete
returns-in-TreeDelete g c =
    subst (λ (m : Making). IsMade (g.M.Machine.disk c.args.machine.now) (g.M.Machine.disk c.delete.new.machine) c.args.engine.now c.delete.new.engine (Make m) c.delete.result)
    (sym c.in-TreeDelete.is) c.delete.ensures

pub returns-in-HashPut : goal.returns-in-HashPut
returns-in-HashPut g c =
    subst (λ (m : Making). IsMade (g.M.Machine.disk c.args.machine.now) (g.M.Machine.disk c.hash_put.new.machine) c.args.engine.now c.hash_put.new.engine (Make m) c.hash_put.result)
    (sym c.in-HashPut.is) c.hash_put.ensures

pub returns-in-HashDelete : goal.returns-in-HashDelete
returns-in-HashDelete g c =
    subst (λ (m : Making). IsMade (g.M.Machine.disk c.args.machine.now) (g.M.Machine.disk c.hash_delete.new.machine) c.args.engine.now c.hash_delete.new.engine (Make m) c.hash_delete.result)
    (sym c.in-HashDelete.is) c.hash_delete.ensures

pub returns-in-Map : goal.returns-in-Map
returns-in-Map g c =
    subst (λ (m : Making). IsMade (g.M.Machine.disk c.args.machine.now) (g.M.Machine.disk c.map_changed.new.machine) c.args.engine.now c.map_changed.new.engine (Make m) c.map_changed.result)
    (sym c.in-Map.is) c.map_changed.ensures
