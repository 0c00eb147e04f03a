-- What a reader of lines has still to give.
use Rattle.std.specs.Prelude.{◌≡◌, ◌≢◌, ⊤, ℕ, Bool, if◌then◌else◌, ◌+◌, ◌-◌, ◌^◌, ◌<◌, ◌++◌, List, [], ◌∷◌, length, take}
use Rattle.script_lines.specs.Grammar.{lines_of, IsShort}
use Rattle.script_lines.specs.Reader.{Reader}
use Rattle.script_lines.specs.declared.next.Next.{Next}
use Rattle.script_lines.specs.declared.next.Next.TheVariants.{Line, Long, End}

-- the line that was taken: the stored bytes, or one that is too long to be stored
abbrev pub IsLine : Next → List ℕ → List ℕ → Type 0
IsLine Line stored line = (line ≡ stored) × IsShort line
IsLine Long stored line = 40000 < length line
IsLine End stored line = ⊥

-- old is what was left, new what is left after a line was taken
abbrev pub IsNext : Next → List ℕ → List ℕ → List ℕ → Type 0
IsNext End stored old new = (lines_of old ≡ []) × (lines_of new ≡ [])
IsNext Line stored old new = (line : List ℕ) × IsLine Line stored line × (lines_of old ≡ line ∷ lines_of new)
IsNext Long stored old new = (line : List ℕ) × IsLine Long stored line × (lines_of old ≡ line ∷ lines_of new)

-- these many bytes were taken off the front
pub record ReadsOn (old new : List ℕ) (before after : ℕ) : Type 0 where
  pub bytes : List ℕ
  pub front : old ≡ bytes ++ new
  pub count : after ≡ before + length bytes

-- the most bytes that a reader may still give as lines
abbrev pub still_to_give : Reader → ℕ
still_to_give reader = 2 ^ 40 - reader.taken + length reader.ahead

-- no byte is a newline
abbrev pub IsPlain : List ℕ → Type 0
IsPlain [] = ⊤
IsPlain (byte ∷ bytes) = (byte ≢ 10) × IsPlain bytes

-- a run of bytes went from ahead into the line: all of them, or those before a newline, which went too
pub record TakesRun (old new : Reader) (ended : Bool) : Type 0 where
  pub run : List ℕ
  pub plain : IsPlain run
  pub front : old.ahead ≡ run ++ (if ended then 10 ∷ new.ahead else new.ahead)
  pub line : new.line ≡ take 40001 (old.line ++ run)
