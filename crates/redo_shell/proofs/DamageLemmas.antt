-- The first check that fails is said.
use Rattle.std.proofs.Common.{◌≡◌, ◌↔◌, ◌++◌, ℕ, ◌∙◌}
use Rattle.disk_model.specs.Disk.{Disk, Files}
use Rattle.disk_model.specs.declared.machine.FileNo.{FileNo}
use Rattle.disk_model.specs.declared.machine.FileNo.TheVariants.{Objects}
use Rattle.op_codec.specs.AllOps.{all_meaning}
use Rattle.formats.specs.Bytes.{IsOpenAt}
use Rattle.formats.specs.FirstFault.{IsDamaged}
use Rattle.shell_base.specs.Notices.{damaged}
use Rattle.shell_base.specs.Store.{IsWellFormed}
use Rattle.shell_base.specs.declared.status.Status.{Status}
use Rattle.shell_base.specs.declared.status.Status.TheVariants.{Damaged}

-- of damaged files one check fails first, and files that meet their format are not damaged
pub record HasOneDamage (files : Files) : Type 0 where
  pub place : (file other : FileNo) (place at : ℕ) → IsDamaged all_meaning files file place → IsDamaged all_meaning files other at → (file ≡ other) × (place ≡ at)
  pub none : (file : FileNo) (place : ℕ) → IsWellFormed files → IsDamaged all_meaning files file place → ⊥

-- where a damage is reported exactly of damaged files, with some place, the place that is said is the one that they have
pub first_said : (old new : Disk) (status : Status) → HasOneDamage old.reads → (status ≡ Damaged) ↔ (IsOpenAt 0 (old.reads Objects) × (IsWellFormed old.reads → ⊥))
    → (status ≡ Damaged → (file : FileNo) × (place : ℕ) × IsDamaged all_meaning old.reads file place × (new.reads ≡ old.reads) × (new.said ≡ old.said ++ damaged file place))
    → (file : FileNo) (place : ℕ) → IsDamaged all_meaning old.reads file place → (status ≡ Damaged) × (new.said ≡ old.said ++ damaged file place)
first_said old new status one exactly told file place damage =
    let is = exactly.1 (damage.gate, λ image. one.none file place image damage) in
    let here = told is in
    let same = one.place here.0 file here.1 place here.2 damage in
    (is, here.4 ∙ (λ i. old.said ++ damaged (same.0 i) (same.1 i)))
