use Rattle.std.proofs.Common.{[], ◌∷◌, refl, sym}
use Rattle.disk_model.specs.Disk.{written_over}
use Rattle.stable_objects.proofs.Bytes.{held_first}
use Rattle.stable_objects.proofs.Upgraded.Filled.{put_with_byte}
use Rattle.stable_objects.proofs.slot_laws.a_byte_is_written_later.Goals as goal

pub returns-clause-put : goal.returns-clause-put
returns-clause-put c = put_with_byte

pub returns-clause-gate : goal.returns-clause-gate
returns-clause-gate c file = sym (held_first 1 file (written_over 0 (1 ∷ []) file) refl)
