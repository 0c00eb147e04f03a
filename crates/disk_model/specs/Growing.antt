-- What proofs know of files in memory that grows, and what a call that fails does to them.
use Rattle.std.specs.Prelude.{◌≡◌, ◌+◌, ◌-◌, ◌^◌, ℕ, List, min}
use Rattle.disk_model.specs.ByFile.{part_of}
use Rattle.disk_model.specs.Disk.{Files, Disk}
use Rattle.disk_model.specs.FilesTold.{files_told}
use Rattle.disk_model.specs.declared.grow_mem.GrowMem.{GrowMem}

-- what reads give
abbrev pub files_of : GrowMem → Files
files_of m file = (part_of m.files file).items

abbrev pub said_by : GrowMem → List ℕ
said_by m = m.said.items

abbrev pub disk_of : GrowMem → Disk
disk_of m = files_told (files_of m) (said_by m) m.disk_faults m.say_faults

-- the same counts of faults
pub record HasSameFaults (old new : GrowMem) : Type 0 where
  pub disk_faults : new.disk_faults ≡ old.disk_faults
  pub say_faults : new.say_faults ≡ old.say_faults

-- the files and the bytes said are as before
pub record HoldsTheSame (old new : GrowMem) : Type 0 where
  pub files : files_of new ≡ files_of old
  pub said : said_by new ≡ said_by old

-- a write that fails: it changes nothing but the count of disk faults
pub record FailsToWrite (old new : GrowMem) : Type 0 where
  pub unchanged : HoldsTheSame old new
  pub disk_faults : new.disk_faults ≡ min (old.disk_faults + 1) (2 ^ 64 - 1)
  pub say_faults : new.say_faults ≡ old.say_faults

-- a call of `say` that fails: it changes nothing but the count of output faults
pub record FailsToSay (old new : GrowMem) : Type 0 where
  pub unchanged : HoldsTheSame old new
  pub disk_faults : new.disk_faults ≡ old.disk_faults
  pub say_faults : new.say_faults ≡ min (old.say_faults + 1) (2 ^ 64 - 1)
