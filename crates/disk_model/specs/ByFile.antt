-- A part for each of the three files.
use Rattle.std.specs.Borrow.{Lends, MutBor, Fml, RattleType}
use Rattle.disk_model.specs.declared.machine.FileNo.{FileNo}
use Rattle.disk_model.specs.declared.machine.FileNo.TheVariants.{Objects, LogA, LogB}
use Rattle.disk_model.specs.declared.by_file.ByFile.{ByFile}
use Rattle.disk_model.specs.contracts.by_file.ByFile.{the_row}

module _ {T : Type 0} where
  -- the part for this file
  abbrev pub part_of : ByFile T → FileNo → T
  part_of all Objects = all.objects
  part_of all LogA = all.log_a
  part_of all LogB = all.log_b

  -- all, with this part for the file
  abbrev pub with_part : FileNo → T → ByFile T → ByFile T
  with_part Objects this all = record all { objects = this }
  with_part LogA this all = record all { log_a = this }
  with_part LogB this all = record all { log_b = this }

-- once the borrow r ends, the part for the file is what r shows last
abbrev pub lends_part : (T : RattleType) → MutBor (ByFile T.Denot) → FileNo → MutBor T.Denot → Fml
lends_part T all file r = Lends (the_row T) T all r (λ this. with_part file this all.now)
