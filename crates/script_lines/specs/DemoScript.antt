-- The script of a demo: lines that look random, and are the same for each seed.
use Rattle.std.specs.Prelude.{ℕ, zero, suc, ◌+◌, ◌++◌, List, [], ◌∷◌, map, codes, slice_index_or}
use Rattle.std.specs.List.{flat_map, range_with_len}
use Rattle.script_lines.specs.declared.kind.Kind.{Kind}
use Rattle.script_lines.specs.declared.kind.Kind.TheVariants.{Put, Copy, Append, Cut, Sort, Swap, AppRead, Exec, AppWrite, Get, Upkeep}
use Rattle.script_lines.specs.Replies.{hex_text, spaced}
use Rattle.script_lines.specs.Draws.{next, draw, after_draws, bytes_from}

-- a word, and numbers after it
abbrev pub line : List ℕ → List ℕ → List ℕ
line word numbers = word ++ flat_map spaced numbers

-- the object gets these bytes
abbrev pub put_line : ℕ → List ℕ → List ℕ
put_line a bytes = line (codes "put") (a ∷ []) ++ 32 ∷ hex_text bytes

-- the object is reported
abbrev pub get_line : ℕ → List ℕ
get_line x = line (codes "get") (x ∷ [])

-- the kinds of lines, by the number that a step draws first
abbrev pub kinds : List Kind
kinds =
    Put ∷ Put ∷ Put ∷ Put ∷ Put ∷ Copy ∷ Copy ∷ Append ∷ Cut ∷ Sort ∷ Swap ∷ AppRead ∷ Exec ∷ AppWrite ∷ Get ∷ Upkeep ∷ []

abbrev pub kind_of : ℕ → Kind
kind_of k = slice_index_or kinds k Upkeep

-- what is asked of the whole store, by a number
abbrev pub upkeep_word : ℕ → List ℕ
upkeep_word n = slice_index_or (codes "install" ∷ codes "drain" ∷ codes "checkpoint" ∷ []) n (codes "force")

-- the line of the kind for the objects a and b; g is the number before what the line itself draws
abbrev pub text_of : Kind → ℕ → ℕ → ℕ → List ℕ
text_of Put a b g = put_line a (bytes_from (draw 17 g) (next g))
text_of Copy a b g = line (codes "copy") (a ∷ b ∷ [])
text_of Append a b g = line (codes "append") (a ∷ b ∷ [])
text_of Cut a b g = line (codes "cut") (a ∷ b ∷ draw 17 g ∷ [])
text_of Sort a b g = line (codes "sort") (a ∷ b ∷ (1 + draw 3 g) ∷ [])
text_of Swap a b g = line (codes "swap") (a ∷ b ∷ [])
text_of AppRead a b g = line (codes "aread") (a ∷ b ∷ [])
text_of Exec a b g = line (codes "exec") (a ∷ [])
text_of AppWrite a b g = line (codes "awrite") (a ∷ b ∷ [])
text_of Get a b g = get_line a
text_of Upkeep a b g = upkeep_word (draw 4 g)

-- how many draws the line itself makes
abbrev pub own_draws : Kind → ℕ → ℕ
own_draws Put g = suc (draw 17 g)
own_draws Cut g = 1
own_draws Sort g = 1
own_draws Upkeep g = 1
own_draws kind g = 0

-- the line of a step that begins at g: its kind and its two objects are drawn first, in this order
abbrev pub line_at : ℕ → List ℕ
line_at g = text_of (kind_of (draw 16 g)) (draw 16 (after_draws 1 g)) (draw 16 (after_draws 2 g)) (after_draws 3 g)

-- the number after a step that begins at g
abbrev pub behind : ℕ → ℕ
behind g = after_draws (own_draws (kind_of (draw 16 g)) (after_draws 3 g)) (after_draws 3 g)

-- the lines of so many steps, the first of which begins at g
abbrev pub lines_from : ℕ → ℕ → List (List ℕ)
lines_from zero g = []
lines_from (suc steps) g = line_at g ∷ lines_from steps (behind g)

-- the lines that end every script: all is made stable and installed, and each object is reported
abbrev pub closing : List (List ℕ)
closing = codes "force" ∷ codes "drain" ∷ map get_line (range_with_len 0 16)

-- a line and its newline
abbrev pub ended : List ℕ → List ℕ
ended text = text ++ 10 ∷ []

-- the bytes of the script of a seed, with so many steps
unfoldable pub script_of : ℕ → ℕ → List ℕ
script_of seed steps = flat_map ended (lines_from steps seed ++ closing)
