use Rattle.disk_model.specs.declared.machine.FileNo.TheVariants.{Objects, LogA, LogB}
use Rattle.disk_model.proofs.mem_files.MemFiles.crash.Goals as goal

pub crash-requires : goal.crash-requires
crash-requires c = c.requires Objects

pub crash-requires-2 : goal.crash-requires-2
crash-requires-2 c = c.requires LogA

pub crash-requires-3 : goal.crash-requires-3
crash-requires-3 c = c.requires LogB
