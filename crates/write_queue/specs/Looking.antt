-- What calls make of one file.
use Rattle.std.specs.Prelude.{ℕ, List, [], ◌∷◌}
use Rattle.disk_model.specs.Disk.{written_over}
use Rattle.disk_model.specs.Call.{Call, Write, Sync, Say}
use Rattle.disk_model.specs.Calls.{changed}
use Rattle.disk_model.specs.declared.machine.FileNo.{FileNo}

-- what a call makes of a file that holds these bytes
abbrev pub file_step : FileNo → Call → List ℕ → List ℕ
file_step file (Write other at bytes) old = changed other (written_over at bytes old) (λ f. old) file
file_step file (Sync other) old = old
file_step file (Say bytes) old = old

-- and what calls make of it, one after the other
abbrev pub file_after : FileNo → List ℕ → List Call → List ℕ
file_after file old [] = old
file_after file old (call ∷ calls) = file_after file (file_step file call old) calls
