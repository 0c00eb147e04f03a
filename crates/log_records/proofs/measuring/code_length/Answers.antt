use Rattle.std.proofs.Common.{◌∙◌, refl, sym, arith}
use Rattle.log_records.proofs.Measures.{checkpoint_long}
use Rattle.log_records.proofs.measuring.code_length.Goals as goal

pub checkpoint_length-requires : goal.checkpoint_length-requires
checkpoint_length-requires g c = omega (arith, checkpoint_long (g.O.Oper.meaning c.requires.0) c.args.it.now c.in-Checkpoint.table c.in-Checkpoint.table.starts c.in-Checkpoint.is refl, c.requires.1)

pub returns-in-Checkpoint : goal.returns-in-Checkpoint
returns-in-Checkpoint g c b = c.checkpoint_length.ensures ∙ sym (checkpoint_long (g.O.Oper.meaning b) c.args.it.now c.in-Checkpoint.table c.in-Checkpoint.table.starts c.in-Checkpoint.is refl)
