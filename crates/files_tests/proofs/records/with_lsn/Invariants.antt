use Rattle.log_records.specs.LsnReader.{left_of}
use Rattle.files_tests.proofs.records.with_lsn.Given as goal

abbrev pub decreases-loop-found : goal.decreases-loop-found
decreases-loop-found g l = left_of l.reader
