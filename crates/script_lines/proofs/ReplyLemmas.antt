-- A text is that of one reply.
use Rattle.std.proofs.Common.{◌≡◌, ◌≢◌, ◌+◌, ◌*◌, ◌/◌, ◌%◌, ◌^◌, ◌<◌, ◌≤◌, ◌++◌, List, ℕ, [], ◌∷◌, length, drop, get_or, if◌then◌else◌, ◌==◌, refl, sym, ◌∙◌, ap, ◌⊎◌, inl, inr, ⊎_elim, append_assoc, arith, Bool, true, false, codes}
use Rattle.std.proofs.lemmas.Bool.Decides.{nat_tests}
use Rattle.std.proofs.lemmas.List.{append-nil}
use Rattle.std.proofs.lemmas.Fmt.{decimal_injective, decimal_nonempty, digits_decimal}
use Rattle.std.specs.List.{flat_map}
use Rattle.std.specs.Fmt.{decimal}
use Rattle.std.specs.Str.{bytes_eq, all_ascii_digits}
use Rattle.std.specs.Char.{is_ascii_digit}
use Rattle.oper_core.specs.declared.refusal.Refusal.{Refusal}
use Rattle.oper_core.specs.declared.refusal.Refusal.TheVariants.{NoPages, NoObject, Same, BadPlace, BadWidth, NotApp, NotCode, Halted, NoInput, NotNode, NoKey, NodeFull, TooLarge}
use Rattle.script_lines.specs.Replies.{Reply, ok, value, forced, bad, refused, full, end, object_value, command_count, stat, ran, pairs, bad_tree, tree_full, denied, in_group, no_group, copied, saved, backup_denied, summary, absent, counted, silence, Pair, pair_text, spaced_pair, pairs_reply, spaced, numbers_of, AreSmall, HasSmallNumbers, hex_glyph, hex_pair, hex_text, backup_denial_name, denial_name, name_of, text_of, reply_of, said_line}
use Rattle.script_lines.specs.declared.denial.Denial.{Denial}
use Rattle.script_lines.specs.declared.denial.Denial.TheVariants.{BadHash, HashFull, NoRoom, BadMap, MapFull, TooLong}
use Rattle.script_lines.specs.declared.backup_denial.BackupDenial.{BackupDenial}
use Rattle.script_lines.specs.declared.backup_denial.BackupDenial.TheVariants.{InBackup, NoBackup, AlreadyStore, NotCopied}
use Rattle.script_lines.specs.declared.answer.Answer.{Answer}
use Rattle.script_lines.specs.declared.answer.StatLine.{StatLine}
use Rattle.script_lines.specs.declared.answer.Totals.{Totals}
use Rattle.script_lines.specs.declared.answer.Answer.TheVariants.{Done, Value, Forced, Bad, Refused, Full, End, Object, Commands, Stat, Ran, Pairs, BadTree, TreeFull, Denied, InGroup, NoGroup, Copied, Saved, BackupDenied, Summary, Absent, Counted, Entries}
use Rattle.script_lines.proofs.NumberLemmas.{own}

-- some byte of the text is this one
abbrev has : ℕ → List ℕ → Bool
has mark [] = false
has mark (b ∷ text) = if b == mark then true else has mark text

-- the kinds of reply distinguished by a number
abbrev kind : Reply → ℕ
kind ok = 0
kind (value bytes) = 1
kind (forced n) = 2
kind bad = 3
kind (refused refusal) = 20
kind (full used need limit) = 5
kind (end n) = 6
kind (object_value object bytes) = 7
kind (command_count n) = 8
kind (stat counts) = 9
kind (ran n) = 10
kind (pairs pair others) = 11
kind bad_tree = 21
kind tree_full = 22
kind in_group = 23
kind no_group = 24
kind (denied why) = 25
kind (backup_denied why) = 26
kind (copied n) = 13
kind (saved n) = 14
kind (summary totals) = 12
kind absent = 15
kind (counted n) = 16
kind silence = 1

-- a refusal of a tree, of a group, of a hash file, of a map or of a backup has a name of its own; those of hash files and maps
-- have one number here, and so have those of a backup
abbrev number_of_name : List ℕ → ℕ
number_of_name name =
    if bytes_eq name (codes "BadTree") then 1
    else if bytes_eq name (codes "TreeFull") then 2
    else if bytes_eq name (codes "InGroup") then 3
    else if bytes_eq name (codes "NoGroup") then 4
    else if bytes_eq name (codes "BadHash") then 5
    else if bytes_eq name (codes "HashFull") then 5
    else if bytes_eq name (codes "NoRoom") then 5
    else if bytes_eq name (codes "BadMap") then 5
    else if bytes_eq name (codes "MapFull") then 5
    else if bytes_eq name (codes "TooLong") then 5
    else if bytes_eq name (codes "InBackup") then 6
    else if bytes_eq name (codes "NoBackup") then 6
    else if bytes_eq name (codes "AlreadyStore") then 6
    else if bytes_eq name (codes "NotCopied") then 6
    else 0

-- the kind of a text without a colon: by three of its bytes, its length, the name behind `refused`, and whether it has a space
abbrev kind_by : ℕ → ℕ → ℕ → ℕ → ℕ → Bool → ℕ
kind_by first second fourth size name spaced =
    if second == 107 then 0
    else if second == 117 then 5
    else if second == 110 then 6
    else if second == 116 then 9
    else if second == 111 then (if first == 102 then 2 else if first == 110 then 15 else if fourth == 105 then 13 else if fourth == 110 then 16 else 8)
    else if second == 101 then (if fourth == 117 then 20 + name else if fourth == 111 then 12 else 1)
    else if second == 97 then (if fourth == 32 then 10 else if spaced then 14 else if size == 3 then 3 else 1)
    else if spaced then 7
    else 1

abbrev plain_kind : List ℕ → ℕ
plain_kind text = kind_by (get_or text 0 0) (get_or text 1 0) (get_or text 3 0) (length text) (number_of_name (drop 8 text)) (has 32 text)

abbrev kind_of : List ℕ → ℕ
kind_of text = if has 58 text then 11 else plain_kind text

kind_value : (first second fourth size name : ℕ) (spaced : Bool) → second ≤ 102 → fourth ≤ 102 → fourth ≢ 32 → size ≢ 3 → spaced ≡ false → kind_by first second fourth size name spaced ≡ 1
kind_value first second fourth size name spaced low fourth_low other even none = grind (arith, nat_tests)

kind_object : (first second fourth size name : ℕ) (spaced : Bool) → second ≤ 57 → spaced ≡ true → kind_by first second fourth size name spaced ≡ 7
kind_object first second fourth size name spaced low some = grind (arith, nat_tests)

-- a byte that a text lacks
lacks_on : (mark b : ℕ) (text : List ℕ) → b ≢ mark → has mark text ≡ false → has mark (b ∷ text) ≡ false
lacks_on mark b text other none = grind (arith, nat_tests)

lacks_both : (mark : ℕ) (front rest : List ℕ) → has mark front ≡ false → has mark rest ≡ false → has mark (front ++ rest) ≡ false
lacks_both mark [] rest none lacks = lacks
lacks_both mark (b ∷ front) rest none lacks = let there = lacks_both mark front rest (grind (arith, nat_tests)) lacks in grind (arith, nat_tests)

has_behind : (mark : ℕ) (front rest : List ℕ) → has mark (front ++ mark ∷ rest) ≡ true
has_behind mark [] rest = grind (arith, nat_tests)
has_behind mark (b ∷ front) rest = let there = has_behind mark front rest in grind (arith, nat_tests)

-- hexadecimal text
glyph_low : (n : ℕ) → hex_glyph (n % 16) ≤ 102
glyph_low n = let small : n % 16 < 16 = omega arith in grind (arith, nat_tests)

glyph_high : (n : ℕ) → 48 ≤ hex_glyph n
glyph_high n = grind (arith, nat_tests)

glyph_one : (m n : ℕ) → hex_glyph m ≡ hex_glyph n → m ≡ n
glyph_one m n same = grind (arith, nat_tests)

glyph_other : (n : ℕ) → hex_glyph n ≢ 58
glyph_other n is = grind (arith, nat_tests)

lacks_in : (mark : ℕ) → ((n : ℕ) → hex_glyph n ≢ mark) → (bytes : List ℕ) → has mark (flat_map hex_pair bytes) ≡ false
lacks_in mark other [] = refl
lacks_in mark other (b ∷ bytes) =
    lacks_on mark (hex_glyph (b / 16)) (hex_glyph (b % 16) ∷ flat_map hex_pair bytes) (other (b / 16))
    (lacks_on mark (hex_glyph (b % 16)) (flat_map hex_pair bytes) (other (b % 16)) (lacks_in mark other bytes))

no_space_in : (bytes : List ℕ) → has 32 (flat_map hex_pair bytes) ≡ false
no_space_in bytes = lacks_in 32 (λ n is. omega (arith, glyph_high n, is)) bytes

no_colon_in : (bytes : List ℕ) → has 58 (flat_map hex_pair bytes) ≡ false
no_colon_in bytes = lacks_in 58 glyph_other bytes

no_colon_hex : (bytes : List ℕ) → has 58 (hex_text bytes) ≡ false
no_colon_hex [] = refl
no_colon_hex (b ∷ bytes) = no_colon_in (b ∷ bytes)

even_size : (bytes : List ℕ) → length (flat_map hex_pair bytes) ≡ 2 * length bytes
even_size [] = refl
even_size (b ∷ bytes) = omega (arith, even_size bytes)

fourth_low : (b : ℕ) (bytes : List ℕ) → get_or (flat_map hex_pair (b ∷ bytes)) 3 0 ≤ 102
fourth_low b [] = omega arith
fourth_low b (c ∷ bytes) = glyph_low c

fourth_other : (b : ℕ) (bytes : List ℕ) → get_or (flat_map hex_pair (b ∷ bytes)) 3 0 ≢ 32
fourth_other b [] is = omega (arith, is)
fourth_other b (c ∷ bytes) is = omega (arith, glyph_high (c % 16), is)

hex_kind : (bytes : List ℕ) → plain_kind (hex_text bytes) ≡ 1
hex_kind [] = refl
hex_kind (b ∷ bytes) =
    let text = flat_map hex_pair (b ∷ bytes) in
    kind_value (get_or text 0 0) (get_or text 1 0) (get_or text 3 0) (length text) (number_of_name (drop 8 text)) (has 32 text) (glyph_low b) (fourth_low b bytes) (fourth_other b bytes) (λ is. omega (arith, is, even_size (b ∷ bytes))) (no_space_in (b ∷ bytes))

pairs_one : (u v : List ℕ) → flat_map hex_pair u ≡ flat_map hex_pair v → u ≡ v
pairs_one [] [] same = refl
pairs_one [] (c ∷ v) same = absurd cc
pairs_one (b ∷ u) [] same = absurd cc
pairs_one (b ∷ u) (c ∷ v) same =
    let high : b / 16 ≡ c / 16 = glyph_one _ _ (ap (λ (l : List ℕ). get_or l 0 0) same) in
    let low : b % 16 ≡ c % 16 = glyph_one _ _ (ap (λ (l : List ℕ). get_or l 1 0) same) in
    let rest = pairs_one u v (ap (λ (l : List ℕ). drop 2 l) same) in
    let byte : b ≡ c = omega (arith, high, low) in
    cc

hex_text_one : (u v : List ℕ) → hex_text u ≡ hex_text v → u ≡ v
hex_text_one [] [] same = refl
hex_text_one [] (c ∷ v) same = absurd cc
hex_text_one (b ∷ u) [] same = absurd cc
hex_text_one (b ∷ u) (c ∷ v) same = pairs_one (b ∷ u) (c ∷ v) same

-- numbers in digits
head_digit : (d : ℕ) (ds : List ℕ) → all_ascii_digits (d ∷ ds) ≡ true → (is_ascii_digit d ≡ true) × (all_ascii_digits ds ≡ true)
head_digit d ds are = (grind (arith, nat_tests), grind (arith, nat_tests))

digit_high : (d : ℕ) → is_ascii_digit d ≡ true → (48 ≤ d) × (d ≤ 57)
digit_high d is = (grind (arith, nat_tests), grind (arith, nat_tests))

lacks_digits : (mark : ℕ) (digits : List ℕ) → (mark < 48) ⊎ (57 < mark) → all_ascii_digits digits ≡ true → has mark digits ≡ false
lacks_digits mark [] outside are = refl
lacks_digits mark (d ∷ digits) outside are =
    let both = head_digit d digits are in
    let high = digit_high d both.0 in
    lacks_on mark d digits (λ is. ⊎_elim (λ (low : mark < 48). omega (arith, low, high.0, is)) (λ (up : 57 < mark). omega (arith, up, high.1, is)) outside) (lacks_digits mark digits outside both.1)

no_space_decimal : (n : ℕ) → n < 2 ^ 64 → has 32 (decimal n) ≡ false
no_space_decimal n small = lacks_digits 32 (decimal n) (inl (omega arith)) (digits_decimal own n small)

no_colon_decimal : (n : ℕ) → n < 2 ^ 64 → has 58 (decimal n) ≡ false
no_colon_decimal n small = lacks_digits 58 (decimal n) (inr (omega arith)) (digits_decimal own n small)

-- a number, and more after a space
no_colon_more : (n : ℕ) (rest : List ℕ) → n < 2 ^ 64 → has 58 rest ≡ false → has 58 (decimal n ++ 32 ∷ rest) ≡ false
no_colon_more n rest small none = lacks_both 58 (decimal n) (32 ∷ rest) (no_colon_decimal n small) (lacks_on 58 32 rest (λ is. omega (arith, is)) none)

no_colon_spaced : (numbers : List ℕ) → AreSmall numbers → has 58 (flat_map spaced numbers) ≡ false
no_colon_spaced [] small = refl
no_colon_spaced (n ∷ numbers) small =
    lacks_on 58 32 (decimal n ++ flat_map spaced numbers) (λ is. omega (arith, is)) (lacks_both 58 (decimal n) (flat_map spaced numbers) (no_colon_decimal n small.0) (no_colon_spaced numbers small.1))

second_low : (digits rest : List ℕ) → all_ascii_digits digits ≡ true → 0 < length digits → get_or (digits ++ 32 ∷ rest) 1 0 ≤ 57
second_low [] rest are some = absurd (omega arith)
second_low (d ∷ []) rest are some = omega arith
second_low (d ∷ e ∷ digits) rest are some = (digit_high e (head_digit e digits (head_digit d (e ∷ digits) are).1).0).1

object_kind : (n : ℕ) (rest : List ℕ) → n < 2 ^ 64 → plain_kind (decimal n ++ 32 ∷ rest) ≡ 7
object_kind n rest small =
    let text = decimal n ++ 32 ∷ rest in
    kind_object (get_or text 0 0) (get_or text 1 0) (get_or text 3 0) (length text) (number_of_name (drop 8 text)) (has 32 text) (second_low (decimal n) rest (digits_decimal own n small) (decimal_nonempty n small)) (has_behind 32 (decimal n) rest)

-- the text up to the first such byte, and after it
parted : (mark : ℕ) (p q u v : List ℕ) → has mark p ≡ false → has mark q ≡ false → p ++ mark ∷ u ≡ q ++ mark ∷ v → (p ≡ q) × (u ≡ v)
parted mark [] [] u v none other same = (refl, cc)
parted mark [] (c ∷ q) u v none other same = absurd (let is : mark ≡ c = cc in grind (arith, nat_tests))
parted mark (b ∷ p) [] u v none other same = absurd (let is : b ≡ mark = cc in grind (arith, nat_tests))
parted mark (b ∷ p) (c ∷ q) u v none other same =
    let first : b ≡ c = cc in
    let rest = parted mark p q u v (grind (arith, nat_tests)) (grind (arith, nat_tests)) cc in
    (cc, rest.1)

number_parted : (m n : ℕ) (u v : List ℕ) → m < 2 ^ 64 → n < 2 ^ 64 → decimal m ++ 32 ∷ u ≡ decimal n ++ 32 ∷ v → (m ≡ n) × (u ≡ v)
number_parted m n u v small little same =
    let both = parted 32 (decimal m) (decimal n) u v (no_space_decimal m small) (no_space_decimal n little) same in
    (decimal_injective m n small little both.0, both.1)

-- pairs are told by their text

-- a value, and nothing or more pairs after it
value_alone : (u v : List ℕ) (q : Pair) (qs : List Pair) → flat_map hex_pair u ++ [] ≡ flat_map hex_pair v ++ flat_map spaced_pair (q ∷ qs) → ⊥
value_alone u v q qs same =
    let none : has 32 (flat_map hex_pair u) ≡ false = no_space_in u in
    let some : has 32 (flat_map hex_pair v ++ 32 ∷ (pair_text q ++ flat_map spaced_pair qs)) ≡ true = has_behind 32 (flat_map hex_pair v) (pair_text q ++ flat_map spaced_pair qs) in
    let both : has 32 (flat_map hex_pair u) ≡ has 32 (flat_map hex_pair v ++ 32 ∷ (pair_text q ++ flat_map spaced_pair qs)) = ap (has 32) (sym (append-nil (flat_map hex_pair u)) ∙ same) in
    cc

key_parted : (p q : Pair) (u v : List ℕ) → pair_text p ++ u ≡ pair_text q ++ v → (p.0 ≡ q.0) × (flat_map hex_pair p.1 ++ u ≡ flat_map hex_pair q.1 ++ v)
key_parted p q u v same =
    let whole = sym (append_assoc (flat_map hex_pair p.0) (58 ∷ flat_map hex_pair p.1) u) ∙ same ∙ append_assoc (flat_map hex_pair q.0) (58 ∷ flat_map hex_pair q.1) v in
    let both = parted 58 (flat_map hex_pair p.0) (flat_map hex_pair q.0) (flat_map hex_pair p.1 ++ u) (flat_map hex_pair q.1 ++ v) (no_colon_in p.0) (no_colon_in q.0) whole in
    (pairs_one p.0 q.0 both.0, both.1)

pair_is : (p q : Pair) → p.0 ≡ q.0 → p.1 ≡ q.1 → p ≡ q
pair_is p q keys values = λ i. (keys i, values i)

pairs_told : (p q : Pair) (ps qs : List Pair) → pair_text p ++ flat_map spaced_pair ps ≡ pair_text q ++ flat_map spaced_pair qs → (p ≡ q) × (ps ≡ qs)
pairs_told p q [] [] same =
    let key = key_parted p q [] [] same in
    let values = pairs_one p.1 q.1 (sym (append-nil (flat_map hex_pair p.1)) ∙ key.1 ∙ append-nil (flat_map hex_pair q.1)) in
    (pair_is p q key.0 values, refl)
pairs_told p q [] (y ∷ qs) same = absurd (value_alone p.1 q.1 y qs (key_parted p q [] (flat_map spaced_pair (y ∷ qs)) same).1)
pairs_told p q (x ∷ ps) [] same = absurd (value_alone q.1 p.1 x ps (sym (key_parted p q (flat_map spaced_pair (x ∷ ps)) [] same).1))
pairs_told p q (x ∷ ps) (y ∷ qs) same =
    let key = key_parted p q (flat_map spaced_pair (x ∷ ps)) (flat_map spaced_pair (y ∷ qs)) same in
    let both = parted 32 (flat_map hex_pair p.1) (flat_map hex_pair q.1) (pair_text x ++ flat_map spaced_pair ps) (pair_text y ++ flat_map spaced_pair qs) (no_space_in p.1) (no_space_in q.1) key.1 in
    let rest = pairs_told x y ps qs both.1 in
    let others : x ∷ ps ≡ y ∷ qs = cc (rest.0, rest.1) in
    (pair_is p q key.0 (pairs_one p.1 q.1 both.0), others)

-- as many numbers, each after a space, are told by their text
spaced_one : (m n : List ℕ) → AreSmall m → AreSmall n → length m ≡ length n → flat_map spaced m ≡ flat_map spaced n → m ≡ n
spaced_one [] [] p q like same = refl
spaced_one [] (b ∷ n) p q like same = absurd (omega (arith, like))
spaced_one (a ∷ m) [] p q like same = absurd (omega (arith, like))
spaced_one (a ∷ []) (b ∷ []) p q like same =
    let whole : decimal a ++ [] ≡ decimal b ++ [] = ap (λ (l : List ℕ). drop 1 l) same in
    let first = decimal_injective a b p.0 q.0 (sym (append-nil (decimal a)) ∙ whole ∙ append-nil (decimal b)) in
    ap (λ (x : ℕ). x ∷ []) first
spaced_one (a ∷ []) (b ∷ d ∷ n) p q like same = absurd (omega (arith, like))
spaced_one (a ∷ c ∷ m) (b ∷ []) p q like same = absurd (omega (arith, like))
spaced_one (a ∷ c ∷ m) (b ∷ d ∷ n) p q like same =
    let both = number_parted a b (decimal c ++ flat_map spaced m) (decimal d ++ flat_map spaced n) p.0 q.0 (ap (λ (l : List ℕ). drop 1 l) same) in
    let others = spaced_one (c ∷ m) (d ∷ n) p.1 q.1 (omega (arith, like)) (ap (λ (l : List ℕ). 32 ∷ l) both.1) in
    cc (both.0, others)

-- the counts that have these numbers
abbrev counts_with : List ℕ → StatLine
counts_with numbers = record {
  nodes = get_or numbers 0 0;
  dirty = get_or numbers 1 0;
  uninstalled = get_or numbers 2 0;
  forced = get_or numbers 3 0;
  accepted = get_or numbers 4 0;
  used = get_or numbers 5 0;
  identities = get_or numbers 6 0;
}

counts_one : (a b : StatLine) → numbers_of a ≡ numbers_of b → a ≡ b
counts_one a b same = ap counts_with same

-- the refusal of a name
abbrev refusal_of : List ℕ → Refusal
refusal_of name =
    if bytes_eq name (codes "NoPages") then NoPages
    else if bytes_eq name (codes "NoObject") then NoObject
    else if bytes_eq name (codes "Same") then Same
    else if bytes_eq name (codes "BadPlace") then BadPlace
    else if bytes_eq name (codes "BadWidth") then BadWidth
    else if bytes_eq name (codes "NotApp") then NotApp
    else if bytes_eq name (codes "NotCode") then NotCode
    else if bytes_eq name (codes "Halted") then Halted
    else if bytes_eq name (codes "NoInput") then NoInput
    else if bytes_eq name (codes "NotNode") then NotNode
    else if bytes_eq name (codes "NoKey") then NoKey
    else if bytes_eq name (codes "NodeFull") then NodeFull
    else TooLarge

named : (refusal : Refusal) → refusal_of (name_of refusal) ≡ refusal
named NoPages = refl
named NoObject = refl
named Same = refl
named BadPlace = refl
named BadWidth = refl
named NotApp = refl
named NotCode = refl
named Halted = refl
named NoInput = refl
named NotNode = refl
named NoKey = refl
named NodeFull = refl
named TooLarge = refl

refused_one : (a b : Refusal) → name_of a ≡ name_of b → a ≡ b
refused_one a b same = sym (named a) ∙ ap refusal_of same ∙ named b

-- no refusal of a command has the name of another refusal
other_name : (refusal : Refusal) → number_of_name (name_of refusal) ≡ 0
other_name NoPages = refl
other_name NoObject = refl
other_name Same = refl
other_name BadPlace = refl
other_name BadWidth = refl
other_name NotApp = refl
other_name NotCode = refl
other_name Halted = refl
other_name NoInput = refl
other_name NotNode = refl
other_name NoKey = refl
other_name NodeFull = refl
other_name TooLarge = refl

-- the refusals of hash files and maps
denial_number : (why : Denial) → number_of_name (denial_name why) ≡ 5
denial_number BadHash = refl
denial_number HashFull = refl
denial_number NoRoom = refl
denial_number BadMap = refl
denial_number MapFull = refl
denial_number TooLong = refl

abbrev denial_of : List ℕ → Denial
denial_of name =
    if bytes_eq name (codes "BadHash") then BadHash
    else if bytes_eq name (codes "HashFull") then HashFull
    else if bytes_eq name (codes "NoRoom") then NoRoom
    else if bytes_eq name (codes "BadMap") then BadMap
    else if bytes_eq name (codes "MapFull") then MapFull
    else TooLong

denial_named : (why : Denial) → denial_of (denial_name why) ≡ why
denial_named BadHash = refl
denial_named HashFull = refl
denial_named NoRoom = refl
denial_named BadMap = refl
denial_named MapFull = refl
denial_named TooLong = refl

denied_one : (a b : Denial) → denial_name a ≡ denial_name b → a ≡ b
denied_one a b same = sym (denial_named a) ∙ ap denial_of same ∙ denial_named b

-- and those of a backup
backup_denial_number : (why : BackupDenial) → number_of_name (backup_denial_name why) ≡ 6
backup_denial_number InBackup = refl
backup_denial_number NoBackup = refl
backup_denial_number AlreadyStore = refl
backup_denial_number NotCopied = refl

abbrev backup_denial_of : List ℕ → BackupDenial
backup_denial_of name =
    if bytes_eq name (codes "InBackup") then InBackup
    else if bytes_eq name (codes "NoBackup") then NoBackup
    else if bytes_eq name (codes "AlreadyStore") then AlreadyStore
    else NotCopied

backup_denial_named : (why : BackupDenial) → backup_denial_of (backup_denial_name why) ≡ why
backup_denial_named InBackup = refl
backup_denial_named NoBackup = refl
backup_denial_named AlreadyStore = refl
backup_denial_named NotCopied = refl

backup_denied_one : (a b : BackupDenial) → backup_denial_name a ≡ backup_denial_name b → a ≡ b
backup_denied_one a b same = sym (backup_denial_named a) ∙ ap backup_denial_of same ∙ backup_denial_named b

no_colon_backup : (why : BackupDenial) → has 58 (backup_denial_name why) ≡ false
no_colon_backup InBackup = refl
no_colon_backup NoBackup = refl
no_colon_backup AlreadyStore = refl
no_colon_backup NotCopied = refl

no_colon_denial : (why : Denial) → has 58 (denial_name why) ≡ false
no_colon_denial BadHash = refl
no_colon_denial HashFull = refl
no_colon_denial NoRoom = refl
no_colon_denial BadMap = refl
no_colon_denial MapFull = refl
no_colon_denial TooLong = refl

no_colon_name : (refusal : Refusal) → has 58 (name_of refusal) ≡ false
no_colon_name NoPages = refl
no_colon_name NoObject = refl
no_colon_name Same = refl
no_colon_name BadPlace = refl
no_colon_name BadWidth = refl
no_colon_name NotApp = refl
no_colon_name NotCode = refl
no_colon_name Halted = refl
no_colon_name NoInput = refl
no_colon_name NotNode = refl
no_colon_name NoKey = refl
no_colon_name NodeFull = refl
no_colon_name TooLarge = refl

-- the totals of a script

-- what stands after each of the numbers
abbrev behind_refused : Totals → List ℕ
behind_refused t = codes "sum " ++ (decimal t.sum ++ [])

abbrev behind_accepted : Totals → List ℕ
behind_accepted t = codes "refused " ++ (decimal t.refused ++ 32 ∷ behind_refused t)

abbrev behind_bytes : Totals → List ℕ
behind_bytes t = codes "accepted " ++ (decimal t.accepted ++ 32 ∷ behind_accepted t)

abbrev behind_lines : Totals → List ℕ
behind_lines t = codes "bytes " ++ (decimal t.bytes ++ 32 ∷ behind_bytes t)

abbrev behind_steps : Totals → List ℕ
behind_steps t = codes "lines " ++ (decimal t.lines ++ 32 ∷ behind_lines t)

abbrev behind_seed : Totals → List ℕ
behind_seed t = codes "steps " ++ (decimal t.steps ++ 32 ∷ behind_steps t)

no_colon_totals : (t : Totals) → HasSmallNumbers (summary t) → has 58 (decimal t.seed ++ 32 ∷ behind_seed t) ≡ false
no_colon_totals t small =
    no_colon_more t.seed (behind_seed t) small.0 (no_colon_more t.steps (behind_steps t) small.1.0 (no_colon_more t.lines (behind_lines t) small.1.1.0
    (no_colon_more t.bytes (behind_bytes t) small.1.1.1.0 (no_colon_more t.accepted (behind_accepted t) small.1.1.1.1.0
    (no_colon_more t.refused (behind_refused t) small.1.1.1.1.1.0 (lacks_both 58 (decimal t.sum) [] (no_colon_decimal t.sum small.1.1.1.1.1.1.0) refl))))))

totals_one : (s t : Totals) → HasSmallNumbers (summary s) → HasSmallNumbers (summary t) → decimal s.seed ++ 32 ∷ behind_seed s ≡ decimal t.seed ++ 32 ∷ behind_seed t → s ≡ t
totals_one s t p q same =
    let one = number_parted s.seed t.seed (behind_seed s) (behind_seed t) p.0 q.0 same in
    let two = number_parted s.steps t.steps (behind_steps s) (behind_steps t) p.1.0 q.1.0 (ap (λ (l : List ℕ). drop 6 l) one.1) in
    let three = number_parted s.lines t.lines (behind_lines s) (behind_lines t) p.1.1.0 q.1.1.0 (ap (λ (l : List ℕ). drop 6 l) two.1) in
    let four = number_parted s.bytes t.bytes (behind_bytes s) (behind_bytes t) p.1.1.1.0 q.1.1.1.0 (ap (λ (l : List ℕ). drop 6 l) three.1) in
    let five = number_parted s.accepted t.accepted (behind_accepted s) (behind_accepted t) p.1.1.1.1.0 q.1.1.1.1.0 (ap (λ (l : List ℕ). drop 9 l) four.1) in
    let six = number_parted s.refused t.refused (behind_refused s) (behind_refused t) p.1.1.1.1.1.0 q.1.1.1.1.1.0 (ap (λ (l : List ℕ). drop 8 l) five.1) in
    let rest : decimal s.sum ++ [] ≡ decimal t.sum ++ [] = ap (λ (l : List ℕ). drop 4 l) six.1 in
    let seven = decimal_injective s.sum t.sum p.1.1.1.1.1.1.0 q.1.1.1.1.1.1.0 (sym (append-nil (decimal s.sum)) ∙ rest ∙ append-nil (decimal t.sum)) in
    λ i. record { seed = one.0 i; steps = two.0 i; lines = three.0 i; bytes = four.0 i; accepted = five.0 i; refused = six.0 i; sum = seven i }

-- the text up to each of the numbers
abbrev to_seed : Totals → List ℕ
to_seed t = codes "demo seed " ++ decimal t.seed

abbrev to_steps : Totals → List ℕ
to_steps t = to_seed t ++ codes " steps " ++ decimal t.steps

abbrev to_lines : Totals → List ℕ
to_lines t = to_steps t ++ codes " lines " ++ decimal t.lines

abbrev to_bytes : Totals → List ℕ
to_bytes t = to_lines t ++ codes " bytes " ++ decimal t.bytes

abbrev to_accepted : Totals → List ℕ
to_accepted t = to_bytes t ++ codes " accepted " ++ decimal t.accepted

abbrev to_refused : Totals → List ℕ
to_refused t = to_accepted t ++ codes " refused " ++ decimal t.refused

abbrev to_sum : Totals → List ℕ
to_sum t = to_refused t ++ codes " sum " ++ decimal t.sum

two_more : (front name digits rest : List ℕ) → (front ++ name ++ digits) ++ rest ≡ front ++ (name ++ (digits ++ rest))
two_more front name digits rest = append_assoc (front ++ name) digits rest ∙ append_assoc front name (digits ++ rest)

-- the text, by what stands after each number
regrouped : (t : Totals) → to_sum t ≡ codes "demo seed " ++ (decimal t.seed ++ 32 ∷ behind_seed t)
regrouped t =
    sym (append-nil (to_sum t)) ∙ two_more (to_refused t) (codes " sum ") (decimal t.sum) [] ∙ two_more (to_accepted t) (codes " refused ") (decimal t.refused) (32 ∷ behind_refused t)
    ∙ two_more (to_bytes t) (codes " accepted ") (decimal t.accepted) (32 ∷ behind_accepted t) ∙ two_more (to_lines t) (codes " bytes ") (decimal t.bytes) (32 ∷ behind_bytes t)
    ∙ two_more (to_steps t) (codes " lines ") (decimal t.lines) (32 ∷ behind_lines t) ∙ two_more (to_seed t) (codes " steps ") (decimal t.steps) (32 ∷ behind_steps t)
    ∙ append_assoc (codes "demo seed ") (decimal t.seed) (32 ∷ behind_seed t)

-- a text without a colon has the kind that its bytes tell
without : (text : List ℕ) (k : ℕ) → has 58 text ≡ false → plain_kind text ≡ k → kind_of text ≡ k
without text k none is = ap (λ (t : Bool). if t then 11 else plain_kind text) none ∙ is

has_colon : (p : Pair) (rest : List ℕ) → has 58 (pair_text p ++ rest) ≡ true
has_colon p rest = ap (has 58) (append_assoc (flat_map hex_pair p.0) (58 ∷ flat_map hex_pair p.1) rest) ∙ has_behind 58 (flat_map hex_pair p.0) (flat_map hex_pair p.1 ++ rest)

kind_told : (reply : Reply) → HasSmallNumbers reply → kind_of (text_of reply) ≡ kind reply
unfolding text_of
kind_told ok small = refl
kind_told (value bytes) small = without (hex_text bytes) 1 (no_colon_hex bytes) (hex_kind bytes)
kind_told (forced n) small = without (codes "forced " ++ decimal n) 2 (no_colon_decimal n small) refl
kind_told bad small = refl
kind_told (refused refusal) small = without (codes "refused " ++ name_of refusal) 20 (no_colon_name refusal) (ap (λ (n : ℕ). 20 + n) (other_name refusal))
kind_told (full used need limit) small =
    without (codes "full " ++ decimal used ++ 32 ∷ decimal need ++ 32 ∷ decimal limit) 5
    (lacks_both 58 (codes "full " ++ decimal used ++ 32 ∷ decimal need) (32 ∷ decimal limit)
    (lacks_both 58 (codes "full " ++ decimal used) (32 ∷ decimal need) (no_colon_decimal used small.0) (no_colon_decimal need small.1)) (no_colon_decimal limit small.2)) refl
kind_told (end n) small = without (codes "end " ++ decimal n) 6 (no_colon_decimal n small) refl
kind_told (object_value object bytes) small = without (decimal object ++ 32 ∷ hex_text bytes) 7 (no_colon_more object _ small (no_colon_hex bytes)) (object_kind object (hex_text bytes) small)
kind_told (command_count n) small = without (codes "commands " ++ decimal n) 8 (no_colon_decimal n small) refl
kind_told (stat counts) small = without (codes "stat" ++ flat_map spaced (numbers_of counts)) 9 (no_colon_spaced (numbers_of counts) small) refl
kind_told (ran n) small = without (codes "ran " ++ decimal n) 10 (no_colon_decimal n small) refl
kind_told (pairs pair others) small = ap (λ (t : Bool). if t then 11 else plain_kind (pair_text pair ++ flat_map spaced_pair others)) (has_colon pair (flat_map spaced_pair others))
kind_told bad_tree small = refl
kind_told tree_full small = refl
kind_told (denied why) small = without (codes "refused " ++ denial_name why) 25 (no_colon_denial why) (ap (λ (n : ℕ). 20 + n) (denial_number why))
kind_told in_group small = refl
kind_told no_group small = refl
kind_told (copied n) small = without (codes "copied " ++ decimal n) 13 (no_colon_decimal n small) refl
kind_told (saved n) small = without (codes "saved " ++ decimal n) 14 (no_colon_decimal n small) refl
kind_told (backup_denied why) small = without (codes "refused " ++ backup_denial_name why) 26 (no_colon_backup why) (ap (λ (n : ℕ). 20 + n) (backup_denial_number why))
kind_told (summary totals) small = without (to_sum totals) 12 (ap (has 58) (regrouped totals) ∙ no_colon_totals totals small) refl
kind_told absent small = refl
kind_told (counted n) small = without (codes "counted " ++ decimal n) 16 (no_colon_decimal n small) refl
kind_told silence small = refl

same_kind : (a b : Reply) → HasSmallNumbers a → HasSmallNumbers b → kind a ≡ kind b → text_of a ≡ text_of b → a ≡ b
unfolding text_of
same_kind ok ok p q like same = refl
same_kind (value u) (value v) p q like same = ap value (hex_text_one u v same)
same_kind (forced m) (forced n) p q like same = ap forced (decimal_injective m n p q (ap (λ (l : List ℕ). drop 7 l) same))
same_kind bad bad p q like same = refl
same_kind (refused a) (refused b) p q like same = ap refused (refused_one a b (ap (λ (l : List ℕ). drop 8 l) same))
same_kind (full a b c) (full x y z) p q like same =
    let whole = sym (append_assoc (decimal a) (32 ∷ decimal b) (32 ∷ decimal c)) ∙ ap (λ (l : List ℕ). drop 5 l) same ∙ append_assoc (decimal x) (32 ∷ decimal y) (32 ∷ decimal z) in
    let first = number_parted a x (decimal b ++ 32 ∷ decimal c) (decimal y ++ 32 ∷ decimal z) p.0 q.0 whole in
    let others = number_parted b y (decimal c) (decimal z) p.1 q.1 first.1 in
    let last = decimal_injective c z p.2 q.2 others.1 in
    cc (first.0, others.0, last)
same_kind (end m) (end n) p q like same = ap end (decimal_injective m n p q (ap (λ (l : List ℕ). drop 4 l) same))
same_kind (object_value x u) (object_value y v) p q like same =
    let both = number_parted x y (hex_text u) (hex_text v) p q same in
    let bytes = hex_text_one u v both.1 in
    cc (both.0, bytes)
same_kind (command_count m) (command_count n) p q like same = ap command_count (decimal_injective m n p q (ap (λ (l : List ℕ). drop 9 l) same))
same_kind (stat a) (stat b) p q like same =
    let whole : flat_map spaced (numbers_of a) ≡ flat_map spaced (numbers_of b) = ap (λ (l : List ℕ). drop 4 l) same in
    ap stat (counts_one a b (spaced_one (numbers_of a) (numbers_of b) p q refl whole))
same_kind (ran m) (ran n) p q like same = ap ran (decimal_injective m n p q (ap (λ (l : List ℕ). drop 4 l) same))
same_kind (pairs x xs) (pairs y ys) p q like same = let both = pairs_told x y xs ys same in cc (both.0, both.1)
same_kind bad_tree bad_tree p q like same = refl
same_kind tree_full tree_full p q like same = refl
same_kind (denied a) (denied b) p q like same = ap denied (denied_one a b (ap (λ (l : List ℕ). drop 8 l) same))
same_kind in_group in_group p q like same = refl
same_kind no_group no_group p q like same = refl
same_kind (copied m) (copied n) p q like same = ap copied (decimal_injective m n p q (ap (λ (l : List ℕ). drop 7 l) same))
same_kind (saved m) (saved n) p q like same = ap saved (decimal_injective m n p q (ap (λ (l : List ℕ). drop 6 l) same))
same_kind (backup_denied a) (backup_denied b) p q like same = ap backup_denied (backup_denied_one a b (ap (λ (l : List ℕ). drop 8 l) same))
same_kind (summary s) (summary t) p q like same = ap summary (totals_one s t p q (ap (λ (l : List ℕ). drop 10 l) (sym (regrouped s) ∙ same ∙ regrouped t)))
same_kind absent absent p q like same = refl
same_kind (counted m) (counted n) p q like same = ap counted (decimal_injective m n p q (ap (λ (l : List ℕ). drop 8 l) same))
same_kind silence silence p q like same = refl
same_kind silence (value []) p q like same = absurd cc
same_kind silence (value (b ∷ bytes)) p q like same = absurd cc
same_kind (value []) silence p q like same = absurd cc
same_kind (value (b ∷ bytes)) silence p q like same = absurd cc
same_kind a b p q like same = absurd (omega (arith, like))

pub text_one : (a b : Reply) → HasSmallNumbers a → HasSmallNumbers b → text_of a ≡ text_of b → a ≡ b
text_one a b p q same = same_kind a b p q (sym (kind_told a p) ∙ ap kind_of same ∙ kind_told b q) same

said_pairs : (found : List Pair) → said_line (pairs_reply found) ≡ text_of (pairs_reply found) ++ 10 ∷ []
said_pairs [] = refl
said_pairs (pair ∷ others) = refl

-- the text of no pairs, and of some
pub none_text : (found : List Pair) → length found ≡ 0 → text_of (pairs_reply found) ≡ codes "-"
unfolding text_of
none_text [] none = refl
none_text (pair ∷ others) none = absurd (omega (arith, none))

pub some_text : (found : List Pair) (other : Pair) → 1 ≤ length found → text_of (pairs_reply found) ≡ pair_text (get_or found 0 other) ++ flat_map spaced_pair (drop 1 found)
unfolding text_of
some_text [] other some = absurd (omega (arith, some))
some_text (pair ∷ others) other some = refl

-- a first pair is said, and then the others
pub some_said : (old mid new : List ℕ) (found rest : List Pair) (first : Pair) → 1 ≤ length found → first ≡ get_or found 0 first → rest ≡ drop 1 found
    → mid ≡ old ++ pair_text first → new ≡ mid ++ flat_map spaced_pair rest → new ≡ old ++ text_of (pairs_reply found)
some_said old mid new found rest first some first_is rest_is one two =
    two ∙ ap (λ (l : List ℕ). l ++ flat_map spaced_pair rest) one ∙ append_assoc old (pair_text first) (flat_map spaced_pair rest)
    ∙ ap (λ (p : Pair). old ++ (pair_text p ++ flat_map spaced_pair rest)) first_is
    ∙ ap (λ (r : List Pair). old ++ (pair_text (get_or found 0 first) ++ flat_map spaced_pair r)) rest_is
    ∙ ap (λ (l : List ℕ). old ++ l) (sym (some_text found first some))

-- one more name and number are said
said_on : (old mid new front word name : List ℕ) (n : ℕ) → name ++ decimal n ≡ word ++ 32 ∷ decimal n → mid ≡ old ++ front → new ≡ mid ++ word ++ 32 ∷ decimal n → new ≡ old ++ (front ++ name ++ decimal n)
said_on old mid new front word name n same first is =
    is ∙ append_assoc mid word (32 ∷ decimal n) ∙ ap (λ (l : List ℕ). l ++ (word ++ 32 ∷ decimal n)) first ∙ append_assoc old front (word ++ 32 ∷ decimal n)
    ∙ ap (λ (l : List ℕ). old ++ (front ++ l)) (sym same) ∙ ap (λ (l : List ℕ). old ++ l) (sym (append_assoc front name (decimal n)))

-- the totals are said one after the other
pub totals_said : (t : Totals) (a b c d e f g h : List ℕ) (steps : ℕ) → steps ≡ t.steps → b ≡ a ++ codes "demo seed" ++ 32 ∷ decimal t.seed → c ≡ b ++ codes " steps" ++ 32 ∷ decimal steps
    → d ≡ c ++ codes " lines" ++ 32 ∷ decimal t.lines → e ≡ d ++ codes " bytes" ++ 32 ∷ decimal t.bytes → f ≡ e ++ codes " accepted" ++ 32 ∷ decimal t.accepted
    → g ≡ f ++ codes " refused" ++ 32 ∷ decimal t.refused → h ≡ g ++ codes " sum" ++ 32 ∷ decimal t.sum → h ≡ a ++ text_of (summary t)
unfolding text_of
totals_said t a b c d e f g h steps same i j k l m n o =
    let seed : b ≡ a ++ to_seed t = i ∙ append_assoc a (codes "demo seed") (32 ∷ decimal t.seed) in
    said_on a g h (to_refused t) (codes " sum") (codes " sum ") t.sum refl (said_on a f g (to_accepted t) (codes " refused") (codes " refused ") t.refused refl
    (said_on a e f (to_bytes t) (codes " accepted") (codes " accepted ") t.accepted refl (said_on a d e (to_lines t) (codes " bytes") (codes " bytes ") t.bytes refl
    (said_on a c d (to_steps t) (codes " lines") (codes " lines ") t.lines refl (said_on a b c (to_seed t) (codes " steps") (codes " steps ") t.steps refl seed
    (j ∙ ap (λ (s : ℕ). b ++ codes " steps" ++ 32 ∷ decimal s) same)) k) l) m) n) o

-- an answer is said with a newline
pub said_answer : (answer : Answer) → said_line (reply_of answer) ≡ text_of (reply_of answer) ++ 10 ∷ []
said_answer Done = refl
said_answer (Value bytes) = refl
said_answer (Forced n) = refl
said_answer Bad = refl
said_answer (Refused refusal) = refl
said_answer (Full used need limit) = refl
said_answer (End number) = refl
said_answer (Object object bytes) = refl
said_answer (Commands n) = refl
said_answer (Stat counts) = refl
said_answer (Ran n) = refl
said_answer (Pairs found) = said_pairs found.now
said_answer BadTree = refl
said_answer TreeFull = refl
said_answer (Denied why) = refl
said_answer InGroup = refl
said_answer NoGroup = refl
said_answer (Copied n) = refl
said_answer (Saved n) = refl
said_answer (BackupDenied why) = refl
said_answer (Summary totals) = refl
said_answer Absent = refl
said_answer (Counted n) = refl
said_answer (Entries found) = said_pairs found.now
