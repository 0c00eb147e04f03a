-- The table of the lines' forms, and the grammar.
use Rattle.std.specs.Prelude.{◌≡◌, ℕ, suc, List, [], ◌∷◌, length, map}
use Rattle.script_lines.specs.Grammar.{Form, Row, asks, fields_of, number, hex, long, short}
use Rattle.script_lines.specs.declared.forms.LineForm.{LineForm}

-- so many fields follow the word
abbrev pub count_of : Form → ℕ
count_of (asks made) = 0
count_of (number form) = suc (count_of (form 0))
count_of (hex form) = suc (count_of (form []))
count_of (short form) = suc (count_of (form []))
count_of (long form) = suc (count_of (form []))

-- A word, and how many fields follow it.
pub record Head : Type 0 where
  pub word : List ℕ
  pub fields : ℕ

-- that of a row
abbrev pub head_of : Row → Head
head_of row = record { word = row.word; fields = count_of row.form }

-- that of a text: its first field, and how many follow
abbrev pub head_in : List (List ℕ) → Head
head_in [] = record { word = []; fields = 0 }
head_in (word ∷ names) = record { word = word; fields = length names }

-- the entries are those of these rows, one after the other: each has the row's word, and a name for each field after it
abbrev pub AreForms : List Row → List LineForm → Type 0
AreForms rows forms = map head_of rows ≡ map (λ (form : LineForm). head_in (fields_of form.text.now)) forms
