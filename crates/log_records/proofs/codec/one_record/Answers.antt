use Rattle.log_records.specs.CodecLaws.{has_codes, same_record}
use Rattle.log_records.proofs.codec.one_record.Goals as goal

pub returns : goal.returns
returns g c b bytes first second small one two = same_record (g.O.Oper.meaning b) (has_codes (g.O.Oper.meaning b) b small (g.met.O.Oper.bounded b) (g.met.O.Oper.lawful b small)) first second bytes one two
