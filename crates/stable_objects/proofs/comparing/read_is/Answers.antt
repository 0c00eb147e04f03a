use Rattle.std.proofs.Common.{length}
use Rattle.std.proofs.lemmas.Bool.Decides.{Decides-eqb}
use Rattle.std.proofs.lemmas.Slice.Eq.{slice_eq-Decides}
use Rattle.disk_model.specs.Moments.{told_agrees}
use Rattle.disk_model.specs.declared.machine.FileNo.TheVariants.{Objects}
use Rattle.stable_objects.proofs.Compared.{read_same}
use Rattle.stable_objects.proofs.comparing.read_is.Goals as goal

pub returns-then-read-bytes-clause-stands : goal.returns-then-read-bytes-clause-stands
returns-then-read-bytes-clause-stands g c told same =
    let d = slice_eq-Decides Decides-eqb c.read.new.into _ c.eq.result c.eq.ensures in
    read_same ((g.M.Machine.disk c.args.machine.now).reads Objects) c.read.new.into c.args.bytes.now c.args.place (length c.args.into.now) c.in_ok-read.read c.requires c.read.auto.into c.if-read-bytes.true
    (c.in_ok-read.ensures.bytes _ (told_agrees c.read.ensures.kept told)) (d.0 same)
