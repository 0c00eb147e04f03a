use Rattle.script_lines.specs.declared.read_error.ReadError.TheVariants.{Memory as OutOfMemory}
use Rattle.graph_view.specs.declared.draw_error.DrawError.TheVariants as errors
use Rattle.graph_view.proofs.LineLemmas.{handed_on}
use Rattle.graph_view.proofs.drawing.read_script.Goals as goal

pub returns-in_err-lines-clause-cause : goal.returns-in_err-lines-clause-cause
returns-in_err-lines-clause-cause g c = λ told. handed_on c.from_residual.result (errors.Read OutOfMemory) _ c.from_residual.ensures.1 tt

pub returns-in_err-lines-clause-faults : goal.returns-in_err-lines-clause-faults
returns-in_err-lines-clause-faults g c = handed_on c.from_residual.result (errors.Read OutOfMemory) _ c.from_residual.ensures.1 tt
