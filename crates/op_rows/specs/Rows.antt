-- Operations that name objects and numbers, as rows of a table.
use Rattle.std.specs.Prelude.{ℕ, ◌^◌, Bool, true, not, nat_le, nat_lt, ◌&&◌, Option, None, Some, List, [], ◌∷◌, ◌++◌, length, map, flat_map, slice_index_or, unwrap_or}
use Rattle.std.specs.List.{list_all}
use Rattle.byteorder.specs.Endian.{little_bytes}
use Rattle.oper_core.specs.State.{is_among}
use Rattle.oper_core.specs.Meaning.{Meaning, or_else, unless}
use Rattle.oper_core.specs.declared.bounds.Bounds.{Bounds}
use Rattle.oper_core.specs.declared.refusal.Refusal.{Refusal}
use Rattle.oper_core.specs.declared.refusal.Refusal.TheVariants.{NoObject, Same, BadPlace, TooLarge}

-- no object is named twice
abbrev pub are_apart : List ℕ → Bool
are_apart [] = true
are_apart (x ∷ objects) = not (is_among x objects) && are_apart objects

-- the objects are there, and no two are one. (Each number has four bytes in the code, and so in each operation: none is
-- ever refused for it.)
-- (its refusal BadPlace, and those of numbers of more than four bytes, are met by no operation of the program)
abbrev pub named : Bounds → List ℕ → List ℕ → Option Refusal
named b objects numbers =
    or_else (unless (list_all (λ x. nat_lt x b.objects) objects) NoObject)
    (or_else (unless (are_apart objects) Same) (unless (list_all (λ n. nat_lt n (2 ^ 32)) numbers) BadPlace))

-- what an operation names: all that is in its code, and which of the objects it reads and writes
pub record Names : Type 0 where
  -- the first byte of its code
  pub tag : ℕ
  -- what stands in its code after the tag: objects and numbers of four bytes each, and a text, if it has one
  pub objects : List ℕ
  pub numbers : List ℕ
  pub text : Option (List ℕ)
  pub reads : List ℕ
  pub writes : List ℕ

-- names without numbers and text
abbrev pub objects_alone : ℕ → List ℕ → List ℕ → List ℕ → Names
objects_alone tag objects reads writes = record { tag = tag; objects = objects; numbers = []; text = None; reads = reads; writes = writes }

-- names with one number
abbrev pub with_number : ℕ → List ℕ → ℕ → List ℕ → List ℕ → Names
with_number tag objects number reads writes = record { tag = tag; objects = objects; numbers = number ∷ []; text = None; reads = reads; writes = writes }

-- a number, or none, as a list
abbrev pub listed_number : Option ℕ → List ℕ
listed_number None = []
listed_number (Some n) = n ∷ []

-- the text, or no bytes where it has none
abbrev pub text_of : Names → List ℕ
text_of names = unwrap_or names.text []

-- what stands in its code after the tag, but for the text
abbrev pub all_numbers : Names → List ℕ
all_numbers names = names.objects ++ names.numbers

-- a code that is a tag, and numbers of four bytes each
abbrev pub numbers_code : ℕ → List ℕ → List ℕ
numbers_code tag numbers = tag ∷ flat_map (little_bytes 4) numbers

-- a text stands after its length
abbrev pub text_code : Option (List ℕ) → List ℕ
text_code None = []
text_code (Some text) = little_bytes 4 (length text) ++ text

abbrev pub names_code : Names → List ℕ
names_code names = numbers_code names.tag (all_numbers names) ++ text_code names.text

-- the first refusal that needs no value
abbrev pub names_shape : Bounds → Names → Option Refusal
names_shape b names = or_else (named b names.objects names.numbers) (unless (nat_le (length (text_of names)) b.cap) TooLarge)

-- the value of the first object that is read, and of the second
abbrev pub first : List (List ℕ) → List ℕ
first values = slice_index_or values 0 []

abbrev pub second : List (List ℕ) → List ℕ
second values = slice_index_or values 1 []

-- what is made where nothing is refused; else each of the values is empty
abbrev pub if_applicable : Option Refusal → List (List ℕ) → List (List ℕ)
if_applicable None made = made
if_applicable (Some r) made = map (λ v. []) made

-- one operation of the table
pub record Row : Type 0 where
  pub names : Names
  -- the first refusal on the values of the read objects
  pub check : Bounds → List (List ℕ) → Option Refusal
  -- the new values, where nothing is refused
  pub made : List (List ℕ) → List (List ℕ)

-- what operations mean of which each has a row
abbrev pub rows_meaning : {O : Type 0} → (O → Row) → Bounds → Meaning O
rows_meaning row b = record {
  objects = b.objects;
  cap = b.cap;
  reads = λ op. (row op).names.reads;
  writes = λ op. (row op).names.writes;
  shape = λ op. names_shape b (row op).names;
  check = λ op. (row op).check b;
  effect = λ op values. if_applicable ((row op).check b values) ((row op).made values);
  is_encodable = λ op. nat_lt (length (text_of (row op).names)) (2 ^ 32);
  code = λ op. names_code (row op).names;
}
