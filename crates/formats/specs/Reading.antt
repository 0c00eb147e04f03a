-- Why a call that reads fails.
use Rattle.std.specs.Prelude.{⊤, ℕ}
use Rattle.disk_model.specs.declared.machine.FileNo.{FileNo}
use Rattle.formats.specs.declared.read_err.ReadErr.{ReadErr}
use Rattle.formats.specs.declared.read_err.ReadErr.TheVariants.{DiskFault, Damaged, Memory}

-- by a fault of the disk, which then counts it, by a fault in a file, or out of memory
abbrev pub FailsBy : Type 0 → (FileNo → ℕ → Type 0) → ReadErr → Type 0
FailsBy rises fault DiskFault = rises
FailsBy rises fault (Damaged file place) = fault file place
FailsBy rises fault Memory = ⊤

-- it reports damage
abbrev pub TellsDamage : ReadErr → Type 0
TellsDamage DiskFault = ⊥
TellsDamage (Damaged file place) = ⊤
TellsDamage Memory = ⊥
