use Rattle.std.proofs.lemmas.Result.{IfOk-from_err}
use Rattle.script_lines.specs.declared.read_error.ReadError.TheVariants.{Memory as OutOfMemory}
use Rattle.graph_view.specs.declared.draw_error.DrawError.TheVariants as errors
use Rattle.graph_view.proofs.LineLemmas.{handed_on}
use Rattle.graph_view.proofs.drawing.draw_script.Goals as goal

pub returns-in_err-commands-clause-graph : goal.returns-in_err-commands-clause-graph
returns-in_err-commands-clause-graph g c = λ told. IfOk-from_err c.from_residual.result _ c.from_residual.ensures.0

pub returns-in_err-commands-clause-cause : goal.returns-in_err-commands-clause-cause
returns-in_err-commands-clause-cause g c = λ told. handed_on c.from_residual.result (errors.Read OutOfMemory) _ c.from_residual.ensures.1 tt

pub returns-in_err-into_dot-in-Ok-clause-graph : goal.returns-in_err-into_dot-in-Ok-clause-graph
returns-in_err-into_dot-in-Ok-clause-graph g c = λ told. IfOk-from_err c.from_residual-in_err-into_dot-in-Ok.result _ c.from_residual-in_err-into_dot-in-Ok.ensures.0

pub returns-in_err-into_dot-in-Ok-clause-cause : goal.returns-in_err-into_dot-in-Ok-clause-cause
returns-in_err-into_dot-in-Ok-clause-cause g c = λ told. handed_on c.from_residual-in_err-into_dot-in-Ok.result (errors.Read OutOfMemory) _ c.from_residual-in_err-into_dot-in-Ok.ensures.1 tt

pub returns-in_ok-into_dot-in-Ok-clause-graph : goal.returns-in_ok-into_dot-in-Ok-clause-graph
returns-in_ok-into_dot-in-Ok-clause-graph g c = λ told. (c.read_script.new.commands, c.in-Ok.ensures.entries told, c.in_ok-into_dot-in-Ok.ensures)

pub returns-in_err-commands-clause-some : goal.returns-in_err-commands-clause-some
returns-in_err-commands-clause-some g c = IfOk-from_err c.from_residual.result _ c.from_residual.ensures.0

pub returns-in_err-into_dot-in-Ok-clause-some : goal.returns-in_err-into_dot-in-Ok-clause-some
returns-in_err-into_dot-in-Ok-clause-some g c = IfOk-from_err c.from_residual-in_err-into_dot-in-Ok.result _ c.from_residual-in_err-into_dot-in-Ok.ensures.0

pub returns-in_ok-into_dot-in-Ok-clause-some : goal.returns-in_ok-into_dot-in-Ok-clause-some
returns-in_ok-into_dot-in-Ok-clause-some g c = (c.read_script.new.commands, c.in_ok-into_dot-in-Ok.ensures)

pub returns-in_err-commands-clause-faults : goal.returns-in_err-commands-clause-faults
returns-in_err-commands-clause-faults g c = handed_on c.from_residual.result (errors.Read OutOfMemory) _ c.from_residual.ensures.1 tt

pub returns-in_err-into_dot-in-Ok-clause-faults : goal.returns-in_err-into_dot-in-Ok-clause-faults
returns-in_err-into_dot-in-Ok-clause-faults g c = handed_on c.from_residual-in_err-into_dot-in-Ok.result (errors.Read OutOfMemory) _ c.from_residual-in_err-into_dot-in-Ok.ensures.1 tt

pub returns-in-Err-clause-faults : goal.returns-in-Err-clause-faults
returns-in-Err-clause-faults g c = c.in-Err.ensures.faults
