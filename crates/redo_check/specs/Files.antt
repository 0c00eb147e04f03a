-- The lines of a store's files, each by itself.
use Rattle.std.specs.Prelude.{◌≡◌, ℕ, ◌++◌, ◌&&◌, if◌then◌else◌, List, [], Option, None, Some, codes, length, true, false}
use Rattle.disk_model.specs.Disk.{Files}
use Rattle.disk_model.specs.Padded.{padded}
use Rattle.disk_model.specs.declared.machine.FileNo.{FileNo}
use Rattle.disk_model.specs.declared.machine.FileNo.TheVariants.{Objects, LogA, LogB}
use Rattle.formats.specs.FirstFault.{IsFirstLogFault}
use Rattle.formats.specs.InForce.{HoldsLog}
use Rattle.formats.specs.Log.{Header, end_of}
use Rattle.formats.specs.Objects.{bounds_of, form_in, is_second, is_set, params_at}
use Rattle.formats.specs.declared.form.Form.{Form}
use Rattle.oper_core.specs.declared.bounds.Bounds.{Bounds}
use Rattle.redo_check.specs.Lines.{has_cap, has_count, head_lines, is_placed, line, log_lines, numbers_lines}
use Rattle.redo_check.specs.Slots.{slots_lines}

-- the version of a file with this header: 1, 2, or 3 where the switch beside N is set; 2 where the header does not say where N
-- stands
abbrev pub version_of : List ℕ → List ℕ → ℕ
version_of head file = if is_second head then (if is_placed head && is_set (form_in head).numbers file then 3 else 2) else 1

-- the numbers where this form has them; and, where N and CAP are within their ranges, the slots
abbrev pub behind_lines : Form → List ℕ → List ℕ
behind_lines form file =
    let p = params_at 0 (padded file form.numbers 12) in
    numbers_lines form p ++ (if has_count form p && has_cap form p then slots_lines (record { params = p; first = form.first }) file else [])

-- the lines of an objects file, as far as it says where things stand
abbrev pub objects_lines : List ℕ → List ℕ
objects_lines file =
    let head = padded file 0 17 in
    head_lines (version_of head file) head ++ (if is_placed head then behind_lines (form_in head) file else [])

-- the bounds of the store, where these are within their ranges
abbrev pub bounds_after : Form → List ℕ → Option Bounds
bounds_after form file =
    let p = params_at 0 (padded file form.numbers 12) in
    if has_count form p && has_cap form p then Some (bounds_of p) else None

abbrev pub bounds_said : List ℕ → Option Bounds
bounds_said file = if is_placed (padded file 0 17) then bounds_after (form_in (padded file 0 17)) file else None

-- the lines of a log file's header
abbrev pub log_file_lines : FileNo → List ℕ → List ℕ
log_file_lines file bytes = log_lines file (length bytes) (padded bytes 0 33)

-- those of the three files
abbrev pub files_lines : Files → List ℕ
files_lines files = objects_lines (files Objects) ++ log_file_lines LogA (files LogA) ++ log_file_lines LogB (files LogB)

-- the line of the logs' blocks: where the log in force ends; or where the first check of the logs fails
pub data IsLogLine (files : Files) (text : List ℕ) : Type 0 where
  ends : (active : FileNo) (header : Header) (payloads : List (List ℕ)) → HoldsLog active header payloads files → text ≡ line active (end_of payloads) (codes "end of the log in force") true → IsLogLine files text
  fails : (file : FileNo) (place : ℕ) → IsFirstLogFault files file place → text ≡ line file place (codes "logs") false → IsLogLine files text
