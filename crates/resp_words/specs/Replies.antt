-- What a client is answered, and its bytes.
use Rattle.std.specs.Prelude.{⊤, ℕ, ℤ, ◌<◌, ◌^◌, ◌||◌, ◌==◌, if◌then◌else◌, List, [], ◌∷◌, ◌++◌, Option, Some, None, codes, length, map}
use Rattle.std.specs.Fmt.{decimal, signed_decimal}
use lib.Signed.{mag}
use Rattle.resp_words.specs.Commands.{ended}
use Rattle.resp_words.specs.declared.reply.Reply.{Reply}
use Rattle.resp_words.specs.declared.reply.Reply.TheVariants.{Simple, Error, Integer, Bulk, Null, Array, NullArray}

pub data Said : Type 0 where
  status : List ℕ → Said
  error : List ℕ → Said
  integer : ℤ → Said
  -- a value, or that there is none
  value : Option (List ℕ) → Said
  -- the head of an array of so many replies, which follow it, or that there is none
  array : Option ℕ → Said

abbrev pub said : Reply → Said
said (Simple text) = status text.now
said (Error text) = error text.now
said (Integer number) = integer number
said (Bulk bytes) = value (Some bytes.now)
said Null = value None
said (Array count) = array (Some count)
said NullArray = array None

-- a byte that would end the line is a space
abbrev pub byte_in_line : ℕ → ℕ
byte_in_line byte = if byte == 13 || byte == 10 then 32 else byte

-- a text in one line
abbrev pub in_line : List ℕ → List ℕ
in_line text = map byte_in_line text

-- the byte that tells what is said
abbrev pub mark_of : Said → ℕ
mark_of (status text) = 43
mark_of (error text) = 45
mark_of (integer number) = 58
mark_of (value found) = 36
mark_of (array count) = 42

-- the line behind it
abbrev pub line_of : Said → List ℕ
line_of (status text) = in_line text
line_of (error text) = in_line text
line_of (integer number) = signed_decimal number
line_of (value (Some bytes)) = decimal (length bytes)
line_of (value None) = codes "-1"
line_of (array (Some count)) = decimal count
line_of (array None) = codes "-1"

-- what follows that line
abbrev pub body_of : Said → List ℕ
body_of (value (Some bytes)) = ended bytes
body_of other = []

abbrev pub reply_bytes : Said → List ℕ
reply_bytes it = mark_of it ∷ (ended (line_of it) ++ body_of it)

-- what a client reads of it
abbrev pub heard : Said → Said
heard (status text) = status (in_line text)
heard (error text) = error (in_line text)
heard other = other

-- its numbers fit
abbrev pub IsSmall : Said → Type 0
IsSmall (integer number) = mag number < 2 ^ 63
IsSmall (value (Some bytes)) = length bytes < 2 ^ 32
IsSmall (array (Some count)) = count < 2 ^ 32
IsSmall other = ⊤
