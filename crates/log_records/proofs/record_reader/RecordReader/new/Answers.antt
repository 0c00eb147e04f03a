use Rattle.log_records.proofs.Passing.{reading_none}
use Rattle.log_records.proofs.record_reader.RecordReader.new.Goals as goal

pub returns-clause-reading : goal.returns-clause-reading
returns-clause-reading g c =
    reading_none (g.O.Oper.meaning c.args.b) (g.M.Machine.disk c.reader.new.machine) c.args.log.now _ c.in_ok-reader.ensures.file c.base.ensures c.base-2.ensures c.in_ok-reader.ensures.starts
