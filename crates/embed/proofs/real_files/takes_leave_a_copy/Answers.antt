use Rattle.std.proofs.Common.{subst, sym}
use Rattle.disk_model.specs.Disk.{Disk}
use Rattle.op_codec.specs.AllOps.{all_meaning}
use Rattle.backup_copy.specs.Copies.{Copies}
use Rattle.write_queue.specs.Before.{exchanged}
use Rattle.write_queue.specs.Memory.{disk_of}
use Rattle.embed.proofs.Exchanged.{copied_so, copies_so, looks_so}
use Rattle.embed.proofs.real_files.takes_leave_a_copy.Goals as goal

pub returns-clause-source : goal.returns-clause-source
returns-clause-source g c = λ p old new engine w target same copies.
    let on : Disk = g.M.Machine.disk target in
    subst (λ (d : Disk). Copies all_meaning p d engine w on) (sym (looks_so old new same)) (copies_so (exchanged new.past) (disk_of old) all_meaning engine p w on copies)

pub returns-clause-target : goal.returns-clause-target
returns-clause-target g c = λ p source engine w old new same copies.
    let of : Disk = g.M.Machine.disk source in
    subst (λ (t : Disk). Copies all_meaning p of engine w t) (sym (looks_so old new same)) (copied_so (exchanged new.past) (disk_of old) all_meaning engine p w of copies)
