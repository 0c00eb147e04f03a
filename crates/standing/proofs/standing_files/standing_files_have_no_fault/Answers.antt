use Rattle.disk_model.specs.declared.machine.FileNo.TheVariants.{Objects}
use Rattle.formats.specs.Objects.{bounds_of}
use Rattle.log_records.specs.CodecLaws.{has_codes}
use Rattle.standing.specs.OneStable.{small_store}
use Rattle.standing.proofs.NoFault.{none_late, no_fault_at}
use Rattle.standing.proofs.standing_files.standing_files_have_no_fault.Goals as goal

pub returns : goal.returns
returns g c = record {
  whole = λ p files commands file place it.
      let b = bounds_of p in
      let small = small_store p (files Objects) it.holds.objects in
      no_fault_at g.O.Oper.meaning p files commands it (has_codes (g.O.Oper.meaning b) b small (g.met.O.Oper.bounded b) (g.met.O.Oper.lawful b small)) file place;
  late = λ p files commands it x s. none_late g.O.Oper.meaning p files commands it x s;
}
