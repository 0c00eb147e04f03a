use Rattle.std.proofs.Common.{subst, sym}
use Rattle.script_lines.specs.declared.line.Line.TheVariants.{Make}
use Rattle.script_lines.specs.declared.line.Making.TheVariants.{Map}
use Rattle.script_lines.specs.declared.line.MapChange.{MapChange}
use Rattle.script_run.specs.Found.{IsMade}
use Rattle.script_run.proofs.map_making.map_changed.Goals as goal

pub returns-in-Set : goal.returns-in-Set
returns-in-Set g c =
    subst (λ (m : MapChange). IsMade (g.M.Machine.disk c.args.machine.now) (g.M.Machine.disk c.map_set.new.machine) c.args.engine.now c.map_set.new.engine (Make (Map c.args.low c.args.high m)) c.map_set.result)
    (sym c.in-Set.is) c.map_set.ensures

pub returns-in-Delete : goal.returns-in-Delete
returns-in-Delete g c =
    subst (λ (m : MapChange). IsMade (g.M.Machine.disk c.args.machine.now) (g.M.Machine.disk c.map_delete.new.machine) c.args.engine.now c.map_delete.new.engine (Make (Map c.args.low c.args.high m)) c.map_delete.result)
    (sym c.in-Delete.is) c.map_delete.ensures
