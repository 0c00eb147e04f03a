use Rattle.std.proofs.Common.{◌≡◌, ◌+◌, length, subst, arith}
use Rattle.disk_model.specs.Disk.{Files, read_of}
use Rattle.disk_model.specs.declared.machine.FileNo.TheVariants.{Objects}
use Rattle.stable_objects.proofs.Compared.{filled_here}
use Rattle.stable_objects.proofs.comparing.is_filled.Goals as goal

pub returns-clause-filled : goal.returns-clause-filled
returns-clause-filled g c told same =
    let old = g.M.Machine.disk c.args.machine.now in
    let kept = c.bytes_stand.ensures.kept in
    let value = c.args.value.now in
    filled_here c.args.place c.args.lsn value c.head_of.result (old.reads Objects) (omega (arith, c.ranges.lsn.fits)) (omega (arith, c.requires.short)) c.head_of.ensures
    (c.in_ok-bytes_stand.ensures.stands told c.if-not-branch.false)
    (subst (λ (f : Files). read_of (f Objects) (c.args.place + 13) (length value) ≡ value) (kept.reads told) (c.in_ok-stands.ensures.stands (kept.time.files_told.0 told) same))
