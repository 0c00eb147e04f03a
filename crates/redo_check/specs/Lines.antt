-- The lines of checks: each says a file, a place in it, what stands there, and whether that is as it has to be.
use Rattle.std.specs.Prelude.{ℕ, ◌+◌, ◌*◌, ◌^◌, ◌++◌, ◌&&◌, ◌||◌, not, Bool, true, nat_eq, nat_lt, nat_le, if◌then◌else◌, List, [], ◌∷◌, codes, take, drop}
use Rattle.std.specs.Str.{bytes_eq}
use Rattle.disk_model.specs.declared.machine.FileNo.{FileNo}
use Rattle.disk_model.specs.declared.machine.FileNo.TheVariants.{Objects}
use Rattle.formats.specs.Bytes.{byte_at, number_at}
use Rattle.formats.specs.Objects.{form_in, is_second}
use Rattle.formats.specs.declared.form.Form.{Form}
use Rattle.formats.specs.declared.params.Params.{Params}
use Rattle.script_lines.specs.Replies.{spaced}
use Rattle.tool_output.specs.Lines.{name_of_file}

abbrev pub verdict : Bool → List ℕ
verdict good = if good then codes " ok\n" else codes " bad\n"

-- a line
abbrev pub line : FileNo → ℕ → List ℕ → Bool → List ℕ
line file place what good = name_of_file file ++ spaced place ++ 32 ∷ what ++ verdict good

-- a line that says a number
abbrev pub number_line : FileNo → ℕ → List ℕ → ℕ → Bool → List ℕ
number_line file place what number good = line file place (what ++ spaced number) good

-- The objects file: its first 17 bytes.

-- the gate, the magic, and the version
abbrev pub begin_lines : ℕ → List ℕ → List ℕ
begin_lines version head =
    number_line Objects 0 (codes "gate") (byte_at 0 head) (nat_eq (byte_at 0 head) 1) ++ line Objects 1 (codes "magic") (bytes_eq (take 7 (drop 1 head)) (codes "RDOOBJ0"))
    ++ number_line Objects 8 (codes "version") version true

-- versions 2 and 3: the bounds of the smaller store that was there before
abbrev pub older_lines : List ℕ → List ℕ
older_lines head =
    number_line Objects 9 (codes "old N") (number_at 4 9 head) (nat_le (number_at 4 9 head) 4096) ++ number_line Objects 13 (codes "old CAP") (number_at 4 13 head) (nat_le (number_at 4 13 head) 16384)

abbrev pub head_lines : ℕ → List ℕ → List ℕ
head_lines version head = begin_lines version head ++ (if is_second head then older_lines head else [])

-- they say where the store's numbers stand
abbrev pub is_placed : List ℕ → Bool
is_placed head = nat_le (form_in head).older.objects 4096 && nat_le (form_in head).older.cap 16384

-- The store's numbers: N and CAP are within their ranges, and so is LIMIT. The switch beside N is set in no file of version 1.
abbrev pub has_count : Form → Params → Bool
has_count form p = nat_le 1 p.objects && nat_le p.objects form.most.objects && nat_le form.older.objects p.objects && (form.most.more || not p.more)

abbrev pub has_cap : Form → Params → Bool
has_cap form p = nat_le 16 p.cap && nat_le p.cap form.most.cap && nat_le form.older.cap p.cap

abbrev pub has_limit : Params → Bool
has_limit p = nat_le (2 * p.cap + 4096) p.limit && nat_le p.limit 536870912

abbrev pub numbers_lines : Form → Params → List ℕ
numbers_lines form p =
    number_line Objects form.numbers (codes "N") p.objects (has_count form p) ++ number_line Objects (form.numbers + 4) (codes "CAP") p.cap (has_cap form p)
    ++ number_line Objects (form.numbers + 8) (codes "LIMIT") p.limit (has_limit p)

-- A log file: its length, and its first 33 bytes.

-- a number of a header is within its range
abbrev pub is_numbered : ℕ → Bool
is_numbered n = nat_le 1 n && nat_le n (2 ^ 62)

-- what the header of a log says whose gate is open
abbrev pub header_lines : FileNo → ℕ → List ℕ → List ℕ
header_lines file size head =
    line file 1 (codes "magic") (bytes_eq (take 8 (drop 1 head)) (codes "RDOLOG01")) ++ number_line file 9 (codes "epoch") (number_at 8 9 head) (is_numbered (number_at 8 9 head))
    ++ number_line file 17 (codes "base") (number_at 8 17 head) (is_numbered (number_at 8 17 head)) ++ number_line file 25 (codes "commands") (number_at 8 25 head) (nat_lt (number_at 8 25 head) (number_at 8 17 head))
    ++ line file 33 (codes "first gate") (nat_lt 33 size)

abbrev pub log_lines : FileNo → ℕ → List ℕ → List ℕ
log_lines file size head =
    number_line file 0 (codes "length") size (nat_lt 0 size) ++ number_line file 0 (codes "gate") (byte_at 0 head) true ++ (if nat_eq (byte_at 0 head) 1 then header_lines file size head else [])
