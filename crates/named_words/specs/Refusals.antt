-- Why a command is refused, in Redis's words.
use Rattle.std.specs.Prelude.{ℕ, ◌+◌, ◌-◌, nat_lt, List, [], ◌∷◌, ◌++◌, codes, length, map, take, if◌then◌else◌}
use Rattle.std.specs.Char.{to_ascii_uppercase}
use Rattle.named_words.specs.Verbs.{name_of, name_part}
use Rattle.named_words.specs.declared.refusal.Refusal.{Refusal}
use Rattle.named_words.specs.declared.verb.Verb.{Verb}
use Rattle.named_words.specs.declared.refusal.Refusal.TheVariants.{Unknown, UnknownPart, WrongCount, WrongPartCount, Syntax, NoNumber, NoDecrement, Overflow, NoCursor, NoDatabase, NoTimeout, NegativeTimeout, TooLarge, NoName, SameName}

-- the words behind the first between quotes, up to some 128 bytes
abbrev pub shown_behind : ℕ → List (List ℕ) → List ℕ
shown_behind shown [] = []
shown_behind shown (word ∷ words) =
    let front = take (128 - shown) word in
    if nat_lt shown 128 then 39 ∷ (front ++ (codes "' " ++ shown_behind (shown + (length front + 3)) words)) else []

abbrev pub first_of : List (List ℕ) → List ℕ
first_of [] = []
first_of (word ∷ words) = word

abbrev pub others_of : List (List ℕ) → List (List ℕ)
others_of [] = []
others_of (word ∷ words) = words

abbrev pub unknown_text : List (List ℕ) → List ℕ
unknown_text words =
    codes "ERR unknown command '" ++ (take 128 (first_of words) ++ (codes "', with args beginning with: " ++ shown_behind 0 (others_of words)))

abbrev pub second_of : List (List ℕ) → List ℕ
second_of (name ∷ part ∷ words) = part
second_of words = []

abbrev pub unknown_part_text : Verb → List (List ℕ) → List ℕ
unknown_part_text verb words =
    codes "ERR unknown subcommand '" ++ (take 128 (second_of words) ++ (codes "'. Try " ++ (map to_ascii_uppercase (name_of verb) ++ codes " HELP.")))

abbrev pub count_text : List ℕ → List ℕ
count_text name = codes "ERR wrong number of arguments for '" ++ (name ++ codes "' command")

-- what is answered to a command of these words
abbrev pub text_of : Refusal → List (List ℕ) → List ℕ
text_of Unknown words = unknown_text words
text_of (UnknownPart verb) words = unknown_part_text verb words
text_of (WrongCount verb) words = count_text (name_of verb)
text_of (WrongPartCount part) words = count_text (name_part part)
text_of Syntax words = codes "ERR syntax error"
text_of NoNumber words = codes "ERR value is not an integer or out of range"
text_of NoDecrement words = codes "ERR decrement would overflow"
text_of Overflow words = codes "ERR increment or decrement would overflow"
text_of NoCursor words = codes "ERR invalid cursor"
text_of NoDatabase words = codes "ERR DB index is out of range"
text_of NoTimeout words = codes "ERR timeout is not an integer or out of range"
text_of NegativeTimeout words = codes "ERR timeout is negative"
text_of TooLarge words = codes "ERR string exceeds maximum allowed size (proto-max-bulk-len)"
text_of NoName words = codes "ERR no such key"
text_of SameName words = codes "ERR source and destination objects are the same"
