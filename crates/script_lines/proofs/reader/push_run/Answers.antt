use Rattle.std.proofs.Common.{◌∙◌, arith}
use Rattle.script_lines.proofs.LineLemmas.{stored_front}
use Rattle.script_lines.proofs.reader.push_run.Goals as goal

pub returns-clause-line : goal.returns-clause-line
returns-clause-line c =
    c.in_ok-extend_from_slice.ensures.items
    ∙ stored_front 40001 c.args.line.now.items c.args.run.now c.min-count.result c.requires (omega (arith, c.len.ensures, c.min-count.ensures, c.args.line.now.ok.0))
