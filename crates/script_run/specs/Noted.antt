-- What a run notes of its script beside its answers.
use Rattle.std.specs.Prelude.{◌≡◌, ◌⊎◌, ◌+◌, ◌^◌, ◌<◌, ◌++◌, ℕ, List, [], ◌∷◌, length, Option, None, Some, Bool, Result, IfOk, IsErr}
use Rattle.std.specs.List.{AllByRecursion}
use Rattle.script_lines.specs.Grammar.{IsBad, lines_of}
use Rattle.script_lines.specs.Reading.{IsLine}
use Rattle.script_lines.specs.declared.next.Next.{Next}
use Rattle.shell_base.specs.declared.stop.Stop.{Stop}
use Rattle.shell_base.specs.declared.status.Status.{Status}
use Rattle.shell_base.specs.declared.status.Status.TheVariants.{Done, DoneWithRefusals}

-- so many lines were taken, those that get no answer too, and the first of them that is bad has this number
pub record Noted : Type 0 where
  pub lines : ℕ
  pub first_bad : Option ℕ

-- no line was taken
abbrev pub none_noted : Noted
none_noted = record { lines = 0; first_bad = None }

-- the line of this number, counted from 1, is bad, and none before it
pub record IsFirstBadAt (number : ℕ) (lines : List (List ℕ)) : Type 0 where
  pub before : List (List ℕ)
  pub line : List ℕ
  pub after : List (List ℕ)
  pub lines_are : lines ≡ before ++ line ∷ after
  pub number_is : number ≡ length before + 1
  pub bad : IsBad line
  pub fine : AllByRecursion (λ other. IsBad other → ⊥) before

-- the first of the lines that is bad has this number, or none is
abbrev pub IsFirstBad : Option ℕ → List (List ℕ) → Type 0
IsFirstBad None lines = AllByRecursion (λ line. IsBad line → ⊥) lines
IsFirstBad (Some number) lines = IsFirstBadAt number lines

-- the notes are of the lines of the script before these
pub record NotesFront (script todo : List (List ℕ)) (noted : Noted) : Type 0 where
  pub lines : List (List ℕ)
  pub script_is : script ≡ lines ++ todo
  pub count : noted.lines ≡ length lines
  pub first : IsFirstBad noted.first_bad lines

-- what was found first stays
abbrev pub or_this : Option ℕ → ℕ → Option ℕ
or_this None number = Some number
or_this (Some first) number = Some first

-- one line more was taken, that which a reader has found
pub record TakesLine (next : Next) (stored : List ℕ) (old new : Noted) : Type 0 where
  pub lines : new.lines ≡ old.lines + 1
  pub first_bad : (line : List ℕ) → IsLine next stored line
      → (IsBad line × (new.first_bad ≡ or_this old.first_bad new.lines)) ⊎ ((IsBad line → ⊥) × (new.first_bad ≡ old.first_bad))

-- it was taken, or the call failed
abbrev pub TakesLineIf : Result Bool Stop → Next → List ℕ → Noted → Noted → Type 0
TakesLineIf result next stored old new = TakesLine next stored old new ⊎ (IsErr result × (new ≡ old))

-- What was taken of a script's input, which had `left` at the start and has `rest` at the end: all of it where the script was
-- answered. What is noted is of the lines that were taken.
pub record TakesScript (left rest : List ℕ) (noted : Noted) (result : Result Bool Stop) : Type 0 where
  pub todo : List (List ℕ)
  pub front : NotesFront (lines_of left) todo noted
  pub all : IfOk result (λ _. (todo ≡ []) × (rest ≡ []) × (length left < 2 ^ 40))

-- What is noted of a script by a run that ends with this status: it is of some first lines, and with status 0 or 1 of all.
pub record HasNoted (script : List (List ℕ)) (noted : Noted) (status : Status) : Type 0 where
  pub todo : List (List ℕ)
  pub front : NotesFront script todo noted
  pub all : (status ≡ Done) ⊎ (status ≡ DoneWithRefusals) → todo ≡ []

-- what a run makes of its input, by its status: with 0 or 1 it is read to its end
pub record TakesInput (left rest : List ℕ) (noted : Noted) (status : Status) : Type 0 where
  pub all : (status ≡ Done) ⊎ (status ≡ DoneWithRefusals) → (rest ≡ []) × (length left < 2 ^ 40)
  pub notes : HasNoted (lines_of left) noted status
