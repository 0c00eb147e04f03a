use Rattle.std.proofs.Common.{arith}
use Rattle.log_records.proofs.Reading.{no_bytes, no_kind}
use Rattle.log_records.proofs.codec.decode.Goals as goal

pub returns-then-bytes-eq0-clause-none : goal.returns-then-bytes-eq0-clause-none
returns-then-bytes-eq0-clause-none g c = no_bytes (g.O.Oper.meaning c.args.b) c.args.bytes.now (omega arith)

pub returns-clause-none : goal.returns-clause-none
returns-clause-none g c = no_kind (g.O.Oper.meaning c.args.b) c.args.bytes.now (λ is. omega (arith, is)) (λ is. omega (arith, is)) (λ is. omega (arith, is))
