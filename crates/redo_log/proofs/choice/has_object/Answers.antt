use Rattle.std.proofs.Common.{◌∙◌, ap, sym}
use Rattle.formats.specs.declared.record.Record.{Record}
use Rattle.op_codec.specs.AllOps.{AllOps, all_meaning}
use Rattle.redo_log.specs.Choosing.{has_object}
use Rattle.redo_log.proofs.choice.has_object.Goals as goal

pub returns-in-Command : goal.returns-in-Command
returns-in-Command c = λ b. c.touches.ensures b ∙ ap (λ (r : Record AllOps). has_object (all_meaning b) c.args.object r) (sym c.in-Command.is)
