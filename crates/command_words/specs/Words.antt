-- What the words of the command line ask.
use Rattle.std.specs.Prelude.{◌≡◌, ◌≢◌, ⊤, ℕ, ◌<◌, ◌≤◌, ◌^◌, Bool, true, false, List, [], ◌∷◌, Option, Some, codes, if◌then◌else◌}
use Rattle.std.specs.Fmt.{decimal}
use Rattle.std.specs.Str.Parse.{IsNumeral, digits_value, without_leading_plus}
use Rattle.formats.specs.Objects.{IsInRange}
use Rattle.clap.specs.Words.{Row, Text, fault_of, one_of, subcommand_of}
use Rattle.command_words.specs.Commands.{redo}
use Rattle.formats.specs.declared.params.Params.{Params}
use Rattle.command_words.specs.declared.asked.Asked.{Asked}
use Rattle.command_words.specs.declared.asked.Asked.TheVariants.{Init, Run, Dump, Demo, Upgrade, Ship, Follow}

-- the value of the argument of this name is a numeral of n, perhaps after a plus
pub record Gives (rows : List Row) (id : Text) (n : ℕ) : Type 0 where
  pub text : Text
  pub value : one_of id rows ≡ Some text
  pub numeral : IsNumeral 10 (without_leading_plus text)
  pub number : digits_value 10 (without_leading_plus text) ≡ n

-- the flag of this name is among the words, or is not
abbrev pub IsGiven : List Row → Text → Bool → Type 0
IsGiven rows id true = one_of id rows ≡ Some (codes "true")
IsGiven rows id false = one_of id rows ≢ Some (codes "true")

-- the values are the numbers of a store, or those of a script
abbrev pub GivesParams : List Row → Params → Type 0
GivesParams rows p = Gives rows (codes "N") p.objects × Gives rows (codes "CAP") p.cap × Gives rows (codes "LIMIT") p.limit × IsGiven rows (codes "pages") p.more

abbrev pub GivesDemo : List Row → ℕ → ℕ → Type 0
GivesDemo rows seed steps = Gives rows (codes "seed") seed × Gives rows (codes "steps") steps

-- the numbers of a store in digits, and the flag where it admits the operations on pages
abbrev pub words_of : Params → List Text
words_of p = decimal p.objects ∷ decimal p.cap ∷ decimal p.limit ∷ (if p.more then codes "--pages" ∷ [] else [])

-- the subcommand of this name, with these values, is for this
abbrev pub IsFor : Asked → Text → List Row → Type 0
IsFor (Run tend) name rows = (name ≡ codes "run") × IsGiven rows (codes "tend") tend
IsFor Dump name rows = name ≡ codes "dump"
IsFor (Init params) name rows = (name ≡ codes "init") × GivesParams rows params
IsFor (Upgrade params) name rows = (name ≡ codes "upgrade") × GivesParams rows params
IsFor (Demo seed steps) name rows = (name ≡ codes "demo") × GivesDemo rows seed steps
IsFor (Ship from) name rows = (name ≡ codes "ship") × Gives rows (codes "FROM") from
IsFor (Follow same) name rows = (name ≡ codes "follow") × IsGiven rows (codes "same") same

-- the numbers are in their ranges
abbrev pub IsAllowed : Asked → Type 0
IsAllowed (Run tend) = ⊤
IsAllowed Dump = ⊤
IsAllowed (Init params) = IsInRange params
IsAllowed (Upgrade params) = IsInRange params
IsAllowed (Demo seed steps) = (seed < 2 ^ 64) × (steps ≤ 1000000)
IsAllowed (Ship from) = (1 ≤ from) × (from < 2 ^ 62)
IsAllowed (Follow same) = ⊤

-- the subcommand that was named asks this
pub record NamesForm (named : Option (Text × List Row)) (asked : Asked) : Type 0 where
  pub name : Text
  pub rows : List Row
  pub is : named ≡ Some (name, rows)
  pub for : IsFor asked name rows
  pub allowed : IsAllowed asked

-- The words, the program's name first, ask this: clap finds no fault in them, and the subcommand that they name asks it.
pub record Asks (words : List Text) (asked : Asked) : Type 0 where
  pub faultless : fault_of redo words ≡ []
  pub named : NamesForm (subcommand_of redo words) asked
