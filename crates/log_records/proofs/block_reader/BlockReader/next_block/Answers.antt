use Rattle.std.proofs.Common.{sym, subst}
use Rattle.std.proofs.lemmas.Result.{err_from_is_err_and}
use Rattle.disk_model.specs.Disk.{Rises}
use Rattle.formats.specs.Reading.{FailsBy}
use Rattle.log_records.specs.BlockReader.{BlockReaderView, IsReadingBlocks}
use Rattle.log_records.specs.Loading.{IsTailFault}
use Rattle.log_records.proofs.block_reader.BlockReader.next_block.Goals as goal

pub returns-in_err-more-clause-cause : goal.returns-in_err-more-clause-cause
returns-in_err-more-clause-cause g c log given is =
    let old = g.M.Machine.disk c.args.m.now in
    let new = g.M.Machine.disk c.push_block.new.m in
    let own = subst (λ (v : BlockReaderView). IsReadingBlocks (g.O.Oper.meaning v.records.bounds) old log v given) (sym c.self.view_is) is in
    let p = err_from_is_err_and c.from_residual.result c.from_residual.ensures.1 in
    rw (p.1, p.2) (subst (λ (v : BlockReaderView). FailsBy (Rises old.disk_faults new.disk_faults) (IsTailFault (g.O.Oper.meaning v.records.bounds) new log) c.in_err-more.field-0.0) c.self.view_is (c.in_err-more.ensures.cause log given own))
