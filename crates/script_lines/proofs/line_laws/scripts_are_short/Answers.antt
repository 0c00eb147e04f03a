use Rattle.script_lines.proofs.DemoShort.{length-script}
use Rattle.script_lines.proofs.line_laws.scripts_are_short.Goals as goal

pub returns : goal.returns
returns c = length-script
