use Rattle.log_blocks.specs.Payloads.{ahead}
use Rattle.files_tests.proofs.copies.blocks_in.Given as goal

abbrev pub decreases-loop-all : goal.decreases-loop-all
decreases-loop-all l = ahead l.reader.records.payloads
