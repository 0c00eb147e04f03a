-- What the bytes said report, as whoever reads the output has them.
use Rattle.std.specs.Prelude.{◌<◌, ◌^◌, ◌==◌, ℕ, List, [], ◌∷◌, Contains, if◌then◌else◌}
use Rattle.script_lines.specs.Replies.{Reply, forced, saved, silence, text_of}

-- one byte more in front of the first line, where there is one
abbrev pub before_line : ℕ → List (List ℕ) → List (List ℕ)
before_line byte [] = []
before_line byte (line ∷ lines) = (byte ∷ line) ∷ lines

-- The lines that end by a newline. Bytes after the last newline are no line yet.
abbrev pub whole_lines : List ℕ → List (List ℕ)
whole_lines [] = []
whole_lines (byte ∷ rest) = if byte == 10 then [] ∷ whole_lines rest else before_line byte (whole_lines rest)

-- the texts of replies, of which a skipped line has none
abbrev pub texts_of : List Reply → List (List ℕ)
texts_of [] = []
texts_of (silence ∷ replies) = texts_of replies
texts_of (reply ∷ replies) = text_of reply ∷ texts_of replies

-- a whole line says so by this answer of a number of 64 bits
abbrev pub SaysNumber : (ℕ → Reply) → List ℕ → ℕ → Type 0
SaysNumber answer bytes n = (n < 2 ^ 64) × Contains (whole_lines bytes) (text_of (answer n))

-- that so many commands are forced
-- (read off the bytes: who reads the output has whole lines, and no list of answers)
abbrev pub SaysForced : List ℕ → ℕ → Type 0
SaysForced bytes n = SaysNumber forced bytes n

-- that a backup has so many commands
abbrev pub SaysSaved : List ℕ → ℕ → Type 0
SaysSaved bytes n = SaysNumber saved bytes n
