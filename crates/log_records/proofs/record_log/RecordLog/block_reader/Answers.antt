use Rattle.std.proofs.Common.{[], refl, subst}
use Rattle.log_records.specs.BlockReader.{BlockReaderView, IsReadingBlocks}
use Rattle.log_records.specs.RecordLog.{RecordLogView}
use Rattle.log_records.proofs.record_log.RecordLog.block_reader.Goals as goal

pub returns-clause-reading : goal.returns-clause-reading
returns-clause-reading g c =
    let new = g.M.Machine.disk c.new.new.m in
    let it : BlockReaderView = record { records = c.in_ok-new.field-0; from = c.args.from } in
    subst (λ (v : RecordLogView). IsReadingBlocks (g.O.Oper.meaning v.bounds) new v.log it []) c.self.view_is (record {
      groups = [];
      given_are = refl;
      reading = record { reading = c.in_ok-new.ensures.reading; stands = λ files agree payloads whole. (payloads, c.in_ok-new.ensures.starts files agree payloads whole) };
    })
