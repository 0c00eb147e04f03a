use Rattle.std.specs.Prelude.{None, Some}
use Rattle.transactions.proofs.Reading.{fetch_failed, fetch_fails, fetched_reads, reads_so}
use Rattle.transactions.proofs.seeing.see.Goals as goal

pub returns-in-Ok-clause-reads : goal.returns-in-Ok-clause-reads
returns-in-Ok-clause-reads g c =
    let disk = g.M.Machine.disk in
    reads_so g.O.Oper.meaning (disk c.args.machine.now) (disk c.fetch.new.machine) c.args.engine.now c.fetch.new.self _ _ (λ is. cc is) (λ none. absurd none)
    (fetched_reads g.O.Oper.meaning (disk c.args.machine.now) (disk c.fetch.new.machine) c.args.engine.now c.fetch.new.self c.args.object None c.in-Ok.ensures.fetched)

pub returns-in-Err-clause-reads : goal.returns-in-Err-clause-reads
returns-in-Err-clause-reads g c =
    let disk = g.M.Machine.disk in
    reads_so g.O.Oper.meaning (disk c.args.machine.now) (disk c.fetch.new.machine) c.args.engine.now c.fetch.new.self _ _ (λ is. fetch_fails c.in-Err.e is c.into.result c.into.ensures) (λ failed. fetch_failed c.in-Err.e c.into.result c.into.ensures failed)
    (fetched_reads g.O.Oper.meaning (disk c.args.machine.now) (disk c.fetch.new.machine) c.args.engine.now c.fetch.new.self c.args.object (Some c.in-Err.e) c.in-Err.ensures.fetched)
