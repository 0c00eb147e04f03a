use Rattle.disk_model.specs.Moments.{told_agrees}
use Rattle.log_blocks.specs.Reading.{fails_on}
use Rattle.log_records.specs.CodecLaws.{has_codes}
use Rattle.tool_output.specs.FaultLaws.{only_counted}
use Rattle.redo_log.proofs.RecordLemmas.{all_readable, same_log}
use Rattle.redo_log.proofs.listing.check_records.Goals as goal

pub returns-in-Ok-clause-whole : goal.returns-in-Ok-clause-whole
returns-in-Ok-clause-whole g c told small =
    let b = c.args.b in
    let m = g.O.Oper.meaning b in
    let codes = has_codes m b small (g.met.O.Oper.bounded b) (g.met.O.Oper.lawful b small) in
    let files = (g.M.Machine.disk c.args.machine.now).reads in
    let loaded = (c.in-Ok.ensures.read told).0 in
    (λ active header groups holds grammar. same_log m codes active _ header _ groups loaded.groups files holds grammar loaded.file, all_readable m codes _ _ loaded.groups files loaded.file)

pub returns-in-Err-clause-cause : goal.returns-in-Err-clause-cause
returns-in-Err-clause-cause g c told =
    let files = (g.M.Machine.disk c.args.machine.now).reads in
    fails_on _ _ _ _ c.in-Err.cause (λ risen. tt) (λ file place is. is files (told_agrees c.load_checked.ensures.kept told)) c.in-Err.ensures.cause

pub returns-in-Err-clause-fault : goal.returns-in-Err-clause-fault
returns-in-Err-clause-fault g c = only_counted _ _ c.in-Err.cause c.in-Err.ensures.cause
