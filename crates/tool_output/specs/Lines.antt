-- The last lines.
use Rattle.std.specs.Prelude.{ℕ, ◌++◌, List, [], codes}
use Rattle.disk_model.specs.declared.machine.FileNo.{FileNo}
use Rattle.disk_model.specs.declared.machine.FileNo.TheVariants.{Objects, LogA, LogB}
use Rattle.script_lines.specs.Replies.{spaced}
use Rattle.tool_output.specs.declared.stop.Stop.{Stop}
use Rattle.tool_output.specs.declared.stop.Stop.TheVariants as stops

abbrev pub name_of_file : FileNo → List ℕ
name_of_file Objects = codes "objects"
name_of_file LogA = codes "log_a"
name_of_file LogB = codes "log_b"

abbrev pub not_a_store : List ℕ
not_a_store = codes "not a store\n"

abbrev pub damaged : FileNo → ℕ → List ℕ
damaged file place = codes "damaged " ++ name_of_file file ++ spaced place ++ codes "\n"

-- the line that a stop means, where it means one
abbrev pub stop_line : Stop → List ℕ
stop_line stops.NotAStore = not_a_store
stop_line (stops.Damaged file place) = damaged file place
stop_line stop = []
