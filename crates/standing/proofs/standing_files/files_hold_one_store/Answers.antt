use Rattle.std.proofs.Common.{subst, sym}
use Rattle.disk_model.specs.declared.machine.FileNo.TheVariants.{Objects}
use Rattle.formats.specs.Objects.{bounds_of}
use Rattle.formats.specs.declared.params.Params.{Params}
use Rattle.log_records.specs.CodecLaws.{has_codes}
use Rattle.stable_objects.specs.Laws.{one_store}
use Rattle.standing.specs.OneStable.{small_store, one_stable}
use Rattle.standing.specs.Standing.{HoldsStable}
use Rattle.standing.proofs.standing_files.files_hold_one_store.Goals as goal

pub returns : goal.returns
returns g c = record {
  params = λ p q files a b holds also. one_store p q (files Objects) holds.objects also.objects;
  parts = λ p q files a b holds also.
      let m = g.O.Oper.meaning (bounds_of p) in
      let small = small_store p (files Objects) holds.objects in
      let codes = has_codes m (bounds_of p) small (g.met.O.Oper.bounded (bounds_of p)) (g.met.O.Oper.lawful (bounds_of p) small) in
      one_stable m codes p files a b holds
      (subst (λ (r : Params). HoldsStable (g.O.Oper.meaning (bounds_of r)) r files b) (sym (one_store p q (files Objects) holds.objects also.objects)) also);
}
