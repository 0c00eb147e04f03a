-- The lines of the three files.
use Rattle.std.proofs.Common.{◌≡◌, ◌++◌, ◌∙◌, [], List, ℕ, ap, length}
use Rattle.disk_model.specs.Disk.{Files}
use Rattle.disk_model.specs.Padded.{padded}
use Rattle.disk_model.specs.declared.machine.FileNo.{FileNo}
use Rattle.disk_model.specs.declared.machine.FileNo.TheVariants.{LogA, LogB, Objects}
use Rattle.redo_check.specs.Files.{files_lines, log_file_lines, objects_lines}
use Rattle.redo_check.specs.Lines.{log_lines}

-- one file after the other
pub all_files : (files : Files) (start one two three : List ℕ) → start ≡ [] → one ≡ start ++ objects_lines (files Objects) → two ≡ one ++ log_file_lines LogA (files LogA) → three ≡ two ++ log_file_lines LogB (files LogB) → three ≡ files_lines files
all_files files start one two three none first second third =
    third ∙ ap (λ (l : List ℕ). l ++ log_file_lines LogB (files LogB)) (second ∙ ap (λ (l : List ℕ). l ++ log_file_lines LogA (files LogA)) (first ∙ ap (λ (l : List ℕ). l ++ objects_lines (files Objects)) none))

-- the lines of a log file that was read
pub log_said : (file : FileNo) (bytes head : List ℕ) (size : ℕ) (old text : List ℕ) → size ≡ length bytes → head ≡ padded bytes 0 33 → text ≡ old ++ log_lines file size head → text ≡ old ++ log_file_lines file bytes
log_said file bytes head size old text long read said = said ∙ λ i. old ++ log_lines file (long i) (read i)
