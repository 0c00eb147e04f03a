-- What the words of the command line ask.
use Rattle.std.specs.Prelude.{◌≡◌, ℕ, ◌<◌, ◌^◌, Bool, true, false, List, [], Option, None, Some, codes, position}
use Rattle.std.specs.Str.{bytes_eq}
use Rattle.std.specs.Str.Parse.{IsNumeral, digits_value, without_leading_plus}
use Rattle.clap.specs.Words.{Row, Text, fault_of, first_of, matches_of, one_of}
use Rattle.redo_log.specs.Commands.{redo_log}
use Rattle.redo_log.specs.Kinds.{kind_words}
use Rattle.redo_log.specs.declared.asked.Asked.{Asked}

-- a text is a numeral below 2^k, perhaps after a plus
abbrev pub IsNumberBelow : ℕ → Text → Type 0
IsNumberBelow k text = IsNumeral 10 (without_leading_plus text) × (digits_value 10 (without_leading_plus text) < 2 ^ k)

-- the number of an option: none where it is not there, else that of its text
abbrev pub IsNumber : ℕ → Option Text → Option ℕ → Type 0
IsNumber k None n = n ≡ None
IsNumber k (Some text) n = IsNumberBelow k text × (n ≡ Some (digits_value 10 (without_leading_plus text)))

-- the kind of an option: none where it is not there, else the one whose word is its text
abbrev pub kind_number : Text → Option ℕ
kind_number text = position (λ word. bytes_eq text word) kind_words

abbrev pub IsKind : Option Text → Option ℕ → Type 0
IsKind None k = k ≡ None
IsKind (Some text) k = (k ≡ kind_number text) × (kind_number text ≡ None → ⊥)

-- an option without a value is there, by the text that clap gives it
abbrev pub IsFlag : Option Text → Bool → Type 0
IsFlag None is = is ≡ false
IsFlag (Some text) is = (text ≡ codes "true" → is ≡ true) × (text ≡ codes "false" → is ≡ false)

-- the options of the words have these values
pub record Gives (rows : List Row) (it : Asked) : Type 0 where
  pub from : IsNumber 64 (one_of (codes "from") rows) it.choice.from
  pub to : IsNumber 64 (one_of (codes "to") rows) it.choice.to
  pub object : IsNumber 32 (one_of (codes "object") rows) it.choice.object
  pub kind : IsKind (first_of (codes "kind") rows) it.choice.kind
  pub stats : IsFlag (one_of (codes "stats") rows) it.stats
  pub glance : IsFlag (one_of (codes "glance") rows) it.glance

-- The words, the program's name first, ask this: clap finds no fault in them, and their options have these values.
pub record Asks (words : List Text) (it : Asked) : Type 0 where
  pub faultless : fault_of redo_log words ≡ []
  pub gives : Gives (matches_of redo_log words) it
