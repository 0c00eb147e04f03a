-- What requests do to names and their values, and what is answered.
use Rattle.std.specs.Prelude.{ℕ, ℤ, pos, ◌+◌, ◌*◌, ◌/◌, ◌%◌, ◌^◌, Bool, true, false, not, ◌&&◌, ◌||◌, ◌==◌, nat_le, nat_lt, bit_xor, Option, Some, None, is_some, Result, Ok, Err, List, [], ◌∷◌, ◌++◌, codes, length, map, slice_get, if◌then◌else◌}
use Rattle.std.specs.Cmp.Lexicographic.{slice_cmp}
use Rattle.std.specs.FinMap.{FinMap, from_entries, get, insert, keys, remove}
use Rattle.std.specs.Fmt.{decimal, signed_decimal}
use Rattle.std.specs.List.{filter}
use Rattle.std.specs.Ordering.{nat_cmp}
use Rattle.std.specs.Str.{bytes_eq}
use Rattle.resp_words.specs.Replies.{Said, array, error, integer, status, value}
use Rattle.named_words.specs.Numbers.{incremented_by}
use Rattle.named_words.specs.Patterns.{matches}
use Rattle.named_words.specs.Ranges.{part_of}
use Rattle.named_words.specs.Refusals.{text_of}
use Rattle.named_words.specs.Requests.{NamesAsked, add_to, any_name, append_to, copy, count_names, count_there, delete_all, get_all, get_and_delete, get_and_set, get_value, length_of, names_like, part, rename, scan, set_all, set_missing, set_value}
use Rattle.named_words.specs.declared.refusal.Refusal.{Refusal}
use Rattle.named_words.specs.declared.refusal.Refusal.TheVariants.{NoName, SameName, TooLarge}
use Rattle.named_words.specs.declared.when.When.{When}
use Rattle.named_words.specs.declared.when.When.TheVariants.{Always, Missing, There}

abbrev pub Names : Type 0
Names = FinMap (slice_cmp nat_cmp) (List ℕ)

-- how many bytes a name has at most, and a value
pub record Sizes : Type 0 where
  pub name : ℕ
  pub value : ℕ

-- a name is given a value, or is taken away with its value
pub data Change : Type 0 where
  put : List ℕ → List ℕ → Change
  take : List ℕ → Change

abbrev pub changed : Names → Change → Names
changed names (put name bytes) = insert names name bytes
changed names (take name) = remove names name

-- one change after the other
abbrev pub after : Names → List Change → Names
after names [] = names
after names (change ∷ changes) = after (changed names change) changes

-- what a request changes, and what it is answered
abbrev pub Outcome : Type 0
Outcome = List Change × List Said

abbrev pub answered : Said → Outcome
answered said = ([], said ∷ [])

abbrev pub refused : Refusal → Outcome
refused refusal = answered (error (text_of refusal []))

abbrev pub is_short : Sizes → List ℕ → List ℕ → Bool
is_short sizes name bytes = nat_le (length name) sizes.name && nat_le (length bytes) sizes.value

-- a name is given a value, where both are short
abbrev pub given : Sizes → List ℕ → List ℕ → Said → Outcome
given sizes name bytes said = if is_short sizes name bytes then (put name bytes ∷ [], said ∷ []) else refused TooLarge

abbrev pub or_empty : Option (List ℕ) → List ℕ
or_empty (Some bytes) = bytes
or_empty None = []

abbrev pub done : Said
done = status (codes "OK")

-- as a number: 1 for yes
abbrev pub counted : Bool → ℕ
counted true = 1
counted false = 0

abbrev pub number : ℕ → Said
number n = integer (pos n)

-- a SET sets
abbrev pub sets : When → Bool → Bool
sets Always is_there = true
sets Missing is_there = not is_there
sets There is_there = is_there

-- the value before, where it is asked for; else whether it was set
abbrev pub set_answer : Bool → Bool → Option (List ℕ) → Said
set_answer true is_set before = value before
set_answer false true before = done
set_answer false false before = value None

abbrev pub set_by : Sizes → List ℕ → List ℕ → When → Bool → Option (List ℕ) → Outcome
set_by sizes name bytes when back before =
    if sets when (is_some before) then given sizes name bytes (set_answer back true before) else answered (set_answer back false before)

-- names and values in turn
abbrev pub are_short : Sizes → List (List ℕ) → Bool
are_short sizes (name ∷ bytes ∷ words) = is_short sizes name bytes && are_short sizes words
are_short sizes words = true

abbrev pub puts_of : List (List ℕ) → List Change
puts_of (name ∷ bytes ∷ words) = put name bytes ∷ puts_of words
puts_of words = []

-- how many of the names are there, each as often as it is asked
abbrev pub there_of : Names → List (List ℕ) → ℕ
there_of names [] = 0
there_of names (name ∷ others) = counted (is_some (get names name)) + there_of names others

-- those of the names that are there, each once
abbrev pub gone_of : Names → List (List ℕ) → List (List ℕ)
gone_of names [] = []
gone_of names (name ∷ others) = if is_some (get names name) then name ∷ gone_of (remove names name) others else gone_of names others

abbrev pub takes : List (List ℕ) → List Change
takes names = map (λ name. take name) names

-- what a value comes to by an INCRBY
abbrev pub add_by : Sizes → List ℕ → Result ℤ Refusal → Outcome
add_by sizes name (Ok sum) = given sizes name (signed_decimal sum) (integer sum)
add_by sizes name (Err refusal) = refused refusal

-- what is there for a COPY, and whether it may be put there
abbrev pub copy_by : Sizes → List ℕ → Option (List ℕ) → Bool → Outcome
copy_by sizes to None free = answered (number 0)
copy_by sizes to (Some bytes) false = answered (number 0)
copy_by sizes to (Some bytes) true = given sizes to bytes (number 1)

-- a RENAME of what is there
abbrev pub rename_by : Sizes → List ℕ → List ℕ → Option (List ℕ) → Outcome
rename_by sizes from to None = refused NoName
rename_by sizes from to (Some bytes) =
    if bytes_eq from to then answered done
    else if is_short sizes to bytes then (take from ∷ put to bytes ∷ [], done ∷ [])
    else refused TooLarge

-- a list of names
abbrev pub listed : List (List ℕ) → List Said
listed names = array (Some (length names)) ∷ map (λ name. value (Some name)) names

-- where a name stands in a scan: a number below 2 ^ 63 made of its bytes (FNV-1a, halved)
abbrev pub hash_from : ℕ → List ℕ → ℕ
hash_from hash [] = hash
hash_from hash (byte ∷ bytes) = hash_from (bit_xor hash byte * 1099511628211 % 2 ^ 64) bytes

abbrev pub place_of : List ℕ → ℕ
place_of name = hash_from 14695981039346656037 name / 2

-- the names from a cursor on, and their places in order
abbrev pub names_from : Names → ℕ → List (List ℕ)
names_from names cursor = filter (λ name. nat_le cursor (place_of name)) (keys names)

abbrev pub places_of : List (List ℕ) → List ℕ
places_of names = keys (from_entries {R = nat_cmp} (map (λ name. (place_of name, true)) names))

-- the cursor behind so many places: the next place, or 0 where there is none
abbrev pub or_end : Option ℕ → ℕ
or_end (Some place) = place
or_end None = 0

abbrev pub cursor_behind : ℕ → List (List ℕ) → ℕ
cursor_behind count names = or_end (slice_get (places_of names) count)

abbrev pub names_below : ℕ → List (List ℕ) → List (List ℕ)
names_below cursor names = filter (λ name. cursor == 0 || nat_lt (place_of name) cursor) names

abbrev pub alike : Option (List ℕ) → List (List ℕ) → List (List ℕ)
alike None names = names
alike (Some pattern) names = filter (matches pattern) names

-- A scan answers the names of so many places, and where the next one begins. A name that is there all the time is answered, since
-- its place stays.
abbrev pub scanned : List (List ℕ) → Option (List ℕ) → ℕ → List Said
scanned names pattern count =
    let next = cursor_behind count names in
    array (Some 2) ∷ value (Some (decimal next)) ∷ listed (alike pattern (names_below next names))

-- one of the names, by a number that was drawn
abbrev pub drawn : List (List ℕ) → ℕ → Said
drawn names draw = value (slice_get names (draw % length names))

-- what a request changes and is answered; one of the names is drawn by a number
abbrev pub does : Sizes → ℕ → NamesAsked → Names → Outcome
does sizes draw (get_value name) names = answered (value (get names name))
does sizes draw (set_value name bytes when back) names = set_by sizes name bytes when back (get names name)
does sizes draw (set_missing name bytes) names = if is_some (get names name) then answered (number 0) else given sizes name bytes (number 1)
does sizes draw (get_and_set name bytes) names = given sizes name bytes (value (get names name))
does sizes draw (get_and_delete name) names = (takes (gone_of names (name ∷ [])), value (get names name) ∷ [])
does sizes draw (get_all asked) names = ([], array (Some (length asked)) ∷ map (λ name. value (get names name)) asked)
does sizes draw (set_all words) names = if are_short sizes words then (puts_of words, done ∷ []) else refused TooLarge
does sizes draw (delete_all asked) names = (takes (gone_of names asked), number (length (gone_of names asked)) ∷ [])
does sizes draw (count_there asked) names = answered (number (there_of names asked))
does sizes draw (length_of name) names = answered (number (length (or_empty (get names name))))
does sizes draw (append_to name more) names =
    let whole = or_empty (get names name) ++ more in
    given sizes name whole (number (length whole))
does sizes draw (part name from to) names = answered (value (Some (part_of (or_empty (get names name)) from to)))
does sizes draw (add_to name by) names = add_by sizes name (incremented_by (get names name) by)
does sizes draw (copy from to replace) names =
    if bytes_eq from to then refused SameName else copy_by sizes to (get names from) (replace || not (is_some (get names to)))
does sizes draw (rename from to) names = rename_by sizes from to (get names from)
does sizes draw any_name names = answered (drawn (keys names) draw)
does sizes draw count_names names = answered (number (length (keys names)))
does sizes draw (scan cursor pattern count) names = ([], scanned (names_from names cursor) pattern count)
does sizes draw (names_like pattern) names = ([], listed (filter (matches pattern) (keys names)))

-- The answers to requests, one after the other, with the numbers that are drawn
abbrev pub answers_to : Sizes → List (ℕ × NamesAsked) → Names → List Said
answers_to sizes [] names = []
answers_to sizes (request ∷ requests) names =
    let outcome = does sizes request.0 request.1 names in
    outcome.1 ++ answers_to sizes requests (after names outcome.0)
