use Rattle.std.proofs.Common.{List, ℕ, sym, ◌∙◌, ap}
use Rattle.disk_model.specs.declared.machine.FileNo.TheVariants.{Objects}
use Rattle.formats.specs.Bytes.{byte_at}
use Rattle.stable_objects.proofs.Bytes.{byte_written}
use Rattle.stable_objects.proofs.replacing.close_slot.Goals as goal

pub returns-in_ok-write_through-clause-closed : goal.returns-in_ok-write_through-clause-closed
returns-in_ok-write_through-clause-closed g c told was is_open =
    let old = g.M.Machine.disk c.args.machine.now in
    let written = (c.in_ok-write_through.ensures.written told).changed in
    let closed = ap (λ (l : List ℕ). byte_at c.args.place l) written ∙ byte_written c.args.place 0 (old.reads Objects) in
    absurd (cc (sym closed ∙ is_open))
