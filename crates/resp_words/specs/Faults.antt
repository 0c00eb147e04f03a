-- Why parts of a command are bad.
use Rattle.std.specs.Prelude.{◌≡◌, ◌≢◌, ◌<◌, ◌≤◌, false, ℕ, List, ◌∷◌, ◌++◌, length}
use Rattle.std.specs.List.{AllByRecursion, flat_map}
use Rattle.resp_words.specs.Commands.{IsBulk, IsShort, bulk}
use Rattle.resp_words.specs.Reading.{IsBad}
use Rattle.resp_words.specs.Runs.{AllPass, is_plain}
use Rattle.resp_words.specs.declared.protocol_error.ProtocolError.{ProtocolError}
use Rattle.resp_words.specs.declared.protocol_error.ProtocolError.TheVariants.{NoDollar, BadLength, LongLine, BadByte}

-- no word begins the bytes: they begin with another byte than a dollar sign, or what follows it is bad
abbrev pub IsBulkFault : List ℕ → ProtocolError → Type 0
IsBulkFault bytes (NoDollar got) = (rest : List ℕ) × (bytes ≡ got ∷ rest) × (got ≢ 36)
IsBulkFault bytes BadLength = (rest : List ℕ) × (bytes ≡ 36 ∷ rest)
IsBulkFault bytes other = ⊥

-- after fewer words than there should be
pub record IsBulksFault (count most : ℕ) (bytes : List ℕ) (error : ProtocolError) : Type 0 where
  pub words : List (List ℕ)
  pub rest : List ℕ
  pub is : bytes ≡ flat_map bulk words ++ rest
  pub fewer : length words < count
  pub short : AllByRecursion (IsShort most) words
  pub bad : IsBad (IsBulk most) rest
  pub fault : IsBulkFault rest error

-- no line begins the bytes: it is too long, or another byte stands in it
abbrev pub IsLineFault : ℕ → List ℕ → ProtocolError → Type 0
IsLineFault most bytes LongLine = (line rest : List ℕ) × (bytes ≡ line ++ rest) × AllPass is_plain line × (most ≤ length line)
IsLineFault most bytes BadByte = (line : List ℕ) × (byte : ℕ) × (rest : List ℕ) × (bytes ≡ line ++ byte ∷ rest) × AllPass is_plain line × (byte ≢ 10) × (is_plain byte ≡ false) × (length line < most)
IsLineFault most bytes other = ⊥
