use Rattle.std.proofs.Common.{ℕ, List, ◌++◌, subst}
use Rattle.log_blocks.specs.Writing.{HasPut}
use Rattle.log_blocks.proofs.log_writer.LogWriter.begin_block.Goals as goal

pub returns-clause-put : goal.returns-clause-put
returns-clause-put g c told front has =
    subst (λ (l : List ℕ). HasPut (g.M.Machine.disk c.put.new.machine) c.put.new.self (front ++ l)) c.block_head.ensures (c.in_ok-put.ensures.put told front has)
