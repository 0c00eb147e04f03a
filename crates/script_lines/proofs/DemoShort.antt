-- How long the lines of the script may be.
use Rattle.std.proofs.Common.{◌≡◌, ap, refl, ℕ, zero, suc, ◌+◌, ◌*◌, ◌<◌, ◌≤◌, List, [], ◌∷◌, ◌++◌, length, map, length-append, lit<, arith}
use Rattle.std.proofs.Math.Nat.{mod-lt}
use Rattle.std.proofs.lemmas.Fmt.{length-decimal-le}
use Rattle.std.specs.Prelude.{codes}
use Rattle.std.specs.List.{flat_map, range_with_len}
use Rattle.std.specs.Fmt.{decimal}
use Rattle.script_lines.specs.declared.kind.Kind.{Kind}
use Rattle.script_lines.specs.declared.kind.Kind.TheVariants.{Put, Copy, Append, Cut, Sort, Swap, AppRead, Exec, AppWrite, Get, Upkeep}
use Rattle.script_lines.specs.Draws.{next, draw, after_draws, bytes_from}
use Rattle.script_lines.specs.Replies.{hex_pair, hex_text, spaced}
use Rattle.script_lines.specs.DemoScript.{line, put_line, upkeep_word, text_of, kind_of, line_at, behind, lines_from, get_line, closing, ended, script_of}

drawn : (m g : ℕ) → 0 < m → draw m g < m
unfolding draw
drawn m g some = mod-lt _ some

length-spaced : (n : ℕ) → n < 100 → length (spaced n) ≤ 3
length-spaced n small =
    let digits : length (decimal n) ≤ 2 = length-decimal-le 2 n (lit< tt) small (omega arith) in
    omega arith

length-one : (word : List ℕ) (a : ℕ) → a < 100 → length (line word (a ∷ [])) ≤ length word + 3
length-one word a h =
    let n = length-spaced a h in
    simp length-append (omega arith)

length-two : (word : List ℕ) (a b : ℕ) → a < 100 → b < 100 → length (line word (a ∷ b ∷ [])) ≤ length word + 6
length-two word a b h i =
    let n = length-spaced a h in
    let m = length-spaced b i in
    simp length-append (omega arith)

length-three : (word : List ℕ) (a b c : ℕ) → a < 100 → b < 100 → c < 100 → length (line word (a ∷ b ∷ c ∷ [])) ≤ length word + 9
length-three word a b c h i j =
    let n = length-spaced a h in
    let m = length-spaced b i in
    let k = length-spaced c j in
    simp length-append (omega arith)

length-bytes_from : (n g : ℕ) → length (bytes_from n g) ≡ n
length-bytes_from zero g = refl
length-bytes_from (suc n) g = ap suc (length-bytes_from n (next g))

length-hex : (bytes : List ℕ) → length (flat_map hex_pair bytes) ≡ 2 * length bytes
length-hex [] = refl
length-hex (byte ∷ bytes) = let rest = length-hex bytes in omega arith

length-hex_text : (bytes : List ℕ) → length bytes ≤ 16 → length (hex_text bytes) ≤ 32
length-hex_text [] h = omega arith
length-hex_text (byte ∷ bytes) h = let all = length-hex (byte ∷ bytes) in omega arith

length-put : (a n g : ℕ) → a < 100 → n < 17 → length (put_line a (bytes_from n g)) ≤ 39
length-put a n g h i =
    let front = length-one (codes "put") a h in
    let count = length-bytes_from n g in
    let hex : length (hex_text (bytes_from n g)) ≤ 32 = length-hex_text (bytes_from n g) (omega arith) in
    let both = length-append (line (codes "put") (a ∷ [])) (32 ∷ hex_text (bytes_from n g)) in
    omega arith

length-upkeep : (n : ℕ) → length (upkeep_word n) ≤ 39
length-upkeep zero = omega arith
length-upkeep (suc zero) = omega arith
length-upkeep (suc (suc zero)) = omega arith
length-upkeep (suc (suc (suc n))) = omega arith

length-text : (kind : Kind) (a b g : ℕ) → a < 100 → b < 100 → length (text_of kind a b g) ≤ 39
length-text Put a b g h i = length-put a (draw 17 g) (next g) h (drawn 17 g (lit< tt))
length-text Copy a b g h i = let n = length-two (codes "copy") a b h i in omega arith
length-text Append a b g h i = let n = length-two (codes "append") a b h i in omega arith
length-text Cut a b g h i =
    let c = drawn 17 g (lit< tt) in
    let n = length-three (codes "cut") a b (draw 17 g) h i (omega arith) in
    omega arith
length-text Sort a b g h i =
    let c = drawn 3 g (lit< tt) in
    let n = length-three (codes "sort") a b (1 + draw 3 g) h i (omega arith) in
    omega arith
length-text Swap a b g h i = let n = length-two (codes "swap") a b h i in omega arith
length-text AppRead a b g h i = let n = length-two (codes "aread") a b h i in omega arith
length-text Exec a b g h i = let n = length-one (codes "exec") a h in omega arith
length-text AppWrite a b g h i = let n = length-two (codes "awrite") a b h i in omega arith
length-text Get a b g h i = let n = length-one (codes "get") a h in omega arith
length-text Upkeep a b g h i = length-upkeep (draw 4 g)

length-line_at : (g : ℕ) → length (line_at g) ≤ 39
length-line_at g =
    let a = drawn 16 (after_draws 1 g) (lit< tt) in
    let b = drawn 16 (after_draws 2 g) (lit< tt) in
    length-text (kind_of (draw 16 g)) _ _ (after_draws 3 g) (omega arith) (omega arith)

length-gets : (n a : ℕ) → a + n < 100 → length (flat_map ended (map get_line (range_with_len a n))) ≤ 7 * n
length-gets zero a h = omega arith
length-gets (suc n) a h =
    let one = length-one (codes "get") a (omega arith) in
    let rest = length-gets n (a + 1) (omega arith) in
    let both = length-append (ended (get_line a)) (flat_map ended (map get_line (range_with_len (a + 1) n))) in
    let newline = length-append (get_line a) (10 ∷ []) in
    omega arith

length-lines : (steps g : ℕ) → length (flat_map ended (lines_from steps g ++ closing)) ≤ 40 * (steps + 18)
length-lines zero g = let gets = length-gets 16 0 (lit< tt) in omega arith
length-lines (suc steps) g =
    let first = length-line_at g in
    let rest = length-lines steps (behind g) in
    let both = length-append (ended (line_at g)) (flat_map ended (lines_from steps (behind g) ++ closing)) in
    let newline = length-append (line_at g) (10 ∷ []) in
    omega arith

pub length-script : (seed steps : ℕ) → length (script_of seed steps) ≤ 40 * (steps + 18)
unfolding script_of
length-script seed steps = length-lines steps seed
