-- What the program says besides answers: one line before it ends.
use Rattle.std.specs.Prelude.{ℕ, List, [], ◌∷◌, ◌++◌, codes}
use Rattle.std.specs.Fmt.{decimal}
use Rattle.std.specs.List.{flat_map}
use Rattle.disk_model.specs.declared.machine.FileNo.{FileNo}
use Rattle.disk_model.specs.declared.machine.FileNo.TheVariants.{Objects, LogA, LogB}

-- a text and a newline
abbrev pub with_newline : List ℕ → List ℕ
with_newline text = text ++ 10 ∷ []

-- the files are no store
abbrev pub not_a_store : List ℕ
not_a_store = with_newline (codes "not a store")

-- there is a store already
abbrev pub already_a_store : List ℕ
already_a_store = with_newline (codes "already a store")

-- the store is of version 2 already
abbrev pub already_version_two : List ℕ
already_version_two = with_newline (codes "already version 2")

-- the store has so many objects, of at most so many bytes
abbrev pub smaller : ℕ → ℕ → List ℕ
smaller objects cap = with_newline (codes "smaller " ++ decimal objects ++ 32 ∷ decimal cap)

-- the words ask nothing
abbrev pub usage : List ℕ
usage = with_newline (codes "usage: redo init N CAP LIMIT [--pages] | run [--tend] | dump | demo --seed S --steps T | upgrade N CAP LIMIT [--pages] | ship FROM | follow [--same]")

-- the name of a file
abbrev pub name_of_file : FileNo → List ℕ
name_of_file Objects = codes "objects"
name_of_file LogA = codes "log_a"
name_of_file LogB = codes "log_b"

-- a file breaks its format at a place
abbrev pub damaged : FileNo → ℕ → List ℕ
damaged file place = with_newline (codes "damaged " ++ name_of_file file ++ 32 ∷ decimal place)

-- a text, and numbers after it, each behind a space
abbrev pub spaced : ℕ → List ℕ
spaced n = 32 ∷ decimal n

abbrev pub with_lsn : List ℕ → List ℕ → List ℕ
with_lsn text numbers = with_newline (text ++ flat_map spaced numbers)

-- the log begins with this number
abbrev pub gone : ℕ → List ℕ
gone base = with_lsn (codes "gone") (base ∷ [])

-- so many commands were accepted since the store was made
abbrev pub followed : ℕ → List ℕ
followed commands = with_lsn (codes "followed") (commands ∷ [])

-- the stream has no frame, or no record, at this place
abbrev pub bad_frame : ℕ → List ℕ
bad_frame place = with_lsn (codes "stream BadFrame") (place ∷ [])

-- a record has this number where that one is next
abbrev pub gap : ℕ → ℕ → List ℕ
gap expected got = with_lsn (codes "stream Gap") (expected ∷ got ∷ [])

-- the record of this number is not what may come next, or another one is there
abbrev pub differs : ℕ → List ℕ
differs number = with_lsn (codes "stream Differs") (number ∷ [])

-- the record of this number is no longer in the log
abbrev pub unknown : ℕ → List ℕ
unknown number = with_lsn (codes "stream Unknown") (number ∷ [])

-- the stream ends within the frame at this place
abbrev pub short : ℕ → List ℕ
short place = with_lsn (codes "stream Short") (place ∷ [])

-- of the log so many bytes are used, so many more are needed, and so many it may have
abbrev pub full : ℕ → ℕ → ℕ → List ℕ
full used need limit = with_lsn (codes "full") (used ∷ need ∷ limit ∷ [])
