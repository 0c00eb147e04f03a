-- Commands as bytes.
use Rattle.std.specs.Prelude.{◌≡◌, ◌≢◌, ◌<◌, ◌≤◌, false, ◌⊎◌, ⊤, ℕ, List, [], ◌∷◌, ◌++◌, length, map}
use Rattle.std.specs.Fmt.{decimal}
use Rattle.std.specs.List.{AllByRecursion, flat_map}
use Rattle.resp_words.specs.declared.found.Command.{Command}
use Rattle.resp_words.specs.declared.found.Found.{Found}
use Rattle.resp_words.specs.declared.found.Found.TheVariants.{Whole, More, Bad}
use Rattle.resp_words.specs.declared.limits.Limits.{Limits}
use Rattle.resp_words.specs.declared.protocol_error.ProtocolError.{ProtocolError}
use Rattle.resp_words.specs.declared.protocol_error.ProtocolError.TheVariants.{BadCount, NoDollar, BadLength, LongLine, BadByte}
use Rattle.resp_words.specs.Lines.{AreWords, IsPlainLine}
use Rattle.resp_words.specs.Reading.{Begins, IsBad, IsFront, IsRead}
use Rattle.resp_words.specs.Runs.{AllPass, is_plain}

-- a text and the end of its line
abbrev pub ended : List ℕ → List ℕ
ended text = text ++ 13 ∷ 10 ∷ []

-- a word: a dollar sign, its length, and its bytes
abbrev pub bulk : List ℕ → List ℕ
bulk word = 36 ∷ (ended (decimal (length word)) ++ ended word)

-- a command in the array form: a star, how many words it has, and each of them
abbrev pub command_bytes : List (List ℕ) → List ℕ
command_bytes words = 42 ∷ (ended (decimal (length words)) ++ flat_map bulk words)

-- the end of a line, which means nothing
abbrev pub IsLineEnd : List ℕ → ⊤ → Type 0
IsLineEnd text nothing = text ≡ 13 ∷ 10 ∷ []

-- a number up to this one
pub record IsNumberLine (most : ℕ) (text : List ℕ) (n : ℕ) : Type 0 where
  pub is : text ≡ ended (decimal n)
  pub small : n ≤ most

-- so many bytes
pub record IsEnded (count : ℕ) (text word : List ℕ) : Type 0 where
  pub is : text ≡ ended word
  pub long : length word ≡ count

abbrev pub IsShort : ℕ → List ℕ → Type 0
IsShort most word = length word ≤ most

-- a word of at most so many bytes
pub record IsBulk (most : ℕ) (text word : List ℕ) : Type 0 where
  pub is : text ≡ bulk word
  pub short : IsShort most word

-- so many such words
pub record AreBulks (count most : ℕ) (text : List ℕ) (words : List (List ℕ)) : Type 0 where
  pub is : text ≡ flat_map bulk words
  pub all : length words ≡ count
  pub short : AllByRecursion (IsShort most) words

-- words that the limits allow
pub record IsWithin (limits : Limits) (words : List (List ℕ)) : Type 0 where
  pub count : length words ≤ limits.words
  pub short : AllByRecursion (IsShort limits.bytes) words

pub record IsArray (limits : Limits) (text : List ℕ) (words : List (List ℕ)) : Type 0 where
  pub is : text ≡ command_bytes words
  pub within : IsWithin limits words

-- the first byte is no star, if there is one
abbrev pub BeginsOtherwise : List ℕ → Type 0
BeginsOtherwise [] = ⊤
BeginsOtherwise (byte ∷ bytes) = byte ≢ 42

-- a command in one line, which is its words with blanks between them
pub record IsLine (limits : Limits) (text : List ℕ) (words : List (List ℕ)) : Type 0 where
  pub line : List ℕ
  pub is : IsPlainLine limits.line text line
  pub other : BeginsOtherwise line
  pub parts : AreWords line words

-- what the words of a command may be written as
abbrev pub IsCommand : Limits → List ℕ → List (List ℕ) → Type 0
IsCommand limits text words = IsArray limits text words ⊎ IsLine limits text words

abbrev pub words_of : Command → List (List ℕ)
words_of command = map (λ word. word.now) command.words.items

-- the bytes begin with a command, which has these words and takes so many bytes
pub record IsFound (limits : Limits) (bytes : List ℕ) (words : List (List ℕ)) (used : ℕ) : Type 0 where
  pub text : List ℕ
  pub later : List ℕ
  pub means : IsCommand limits text words
  pub is : bytes ≡ text ++ later
  pub long : used ≡ length text

-- behind a count and fewer words than it tells stands this
pub record IsInArray (limits : Limits) (bytes rest : List ℕ) : Type 0 where
  pub count : ℕ
  pub words : List (List ℕ)
  pub is : bytes ≡ 42 ∷ (ended (decimal count) ++ (flat_map bulk words ++ rest))
  pub fewer : length words < count
  pub small : count ≤ limits.words
  pub short : AllByRecursion (IsShort limits.bytes) words

-- behind a part of a line, which is no array, stands this
pub record IsInLine (bytes line rest : List ℕ) : Type 0 where
  pub is : bytes ≡ line ++ rest
  pub other : BeginsOtherwise bytes
  pub plain : AllPass is_plain line

-- why no command begins with the bytes; no two of these hold at once
abbrev pub HasCause : Limits → List ℕ → ProtocolError → Type 0
HasCause limits bytes BadCount = (rest : List ℕ) × (bytes ≡ 42 ∷ rest) × IsBad (IsNumberLine limits.words) rest
HasCause limits bytes (NoDollar got) = (rest : List ℕ) × IsInArray limits bytes (got ∷ rest) × (got ≢ 36)
HasCause limits bytes BadLength = (rest : List ℕ) × IsInArray limits bytes (36 ∷ rest) × IsBad (IsBulk limits.bytes) (36 ∷ rest)
HasCause limits bytes LongLine = (line rest : List ℕ) × IsInLine bytes line rest × (limits.line ≤ length line)
HasCause limits bytes BadByte = (line : List ℕ) × (byte : ℕ) × (rest : List ℕ) × IsInLine bytes line (byte ∷ rest) × (byte ≢ 10) × (is_plain byte ≡ false) × (length line < limits.line)

-- They begin with a command; they are the front of one; or no command begins with them, whatever comes, for this cause. No two
-- of these hold at once.
abbrev pub Finds : Limits → List ℕ → Found Command → Type 0
Finds limits bytes (Whole command) = IsFound limits bytes (words_of command) command.used
Finds limits bytes More = IsFront (IsCommand limits) bytes
Finds limits bytes (Bad error) = IsBad (IsCommand limits) bytes × HasCause limits bytes error

-- what was found is these words, which take so many bytes
abbrev pub IsThis : List (List ℕ) → ℕ → Found Command → Type 0
IsThis words used (Whole command) = (words_of command ≡ words) × (command.used ≡ used)
IsThis words used More = ⊥
IsThis words used (Bad error) = ⊥

-- two answers are one
abbrev pub Agree : Found Command → Found Command → Type 0
Agree (Whole command) other = IsThis (words_of command) command.used other
Agree More other = other ≡ More
Agree (Bad error) (Bad other) = error ≡ other
Agree (Bad error) (Whole command) = ⊥
Agree (Bad error) More = ⊥

-- the bytes are these commands, and a rest that begins with no whole one
abbrev pub AreCommands : Limits → List ℕ → List (List (List ℕ)) → List ℕ → Type 0
AreCommands limits bytes [] rest = (bytes ≡ rest) × (Begins (IsCommand limits) rest → ⊥)
AreCommands limits bytes (words ∷ commands) rest = (later : List ℕ) × IsRead (IsCommand limits) bytes words later × AreCommands limits later commands rest
