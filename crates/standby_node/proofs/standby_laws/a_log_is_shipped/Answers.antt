use Rattle.formats.specs.Objects.{bounds_of}
use Rattle.log_records.specs.CodecLaws.{has_codes}
use Rattle.standing.specs.OneStable.{small_store}
use Rattle.disk_model.specs.declared.machine.FileNo.TheVariants.{Objects}
use Rattle.standby_node.proofs.Logged.{engine_shipped, files_shipped}
use Rattle.standby_node.proofs.standby_laws.a_log_is_shipped.Goals as goal

pub returns-clause-engine : goal.returns-clause-engine
returns-clause-engine g c = λ p now engine w from bytes shows reached are. engine_shipped g.O.Oper.meaning p (g.M.Machine.disk now) engine w from bytes shows reached are

pub returns-clause-files : goal.returns-clause-files
returns-clause-files g c = λ p files w active header groups from shows holds reached.
    let b = bounds_of p in
    let small = small_store p (files Objects) shows.objects in
    files_shipped (g.O.Oper.meaning b) p files w active header groups from (has_codes (g.O.Oper.meaning b) b small (g.met.O.Oper.bounded b) (g.met.O.Oper.lawful b small)) shows holds reached
