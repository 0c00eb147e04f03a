-- The whole lines of what is said are the texts of the answers.
use Rattle.std.proofs.Common.{◌≡◌, ◌≢◌, ◌⊎◌, inl, inr, ⊎_elim, ◌≤◌, ◌<◌, ◌^◌, ◌+◌, ◌/◌, ◌%◌, ◌==◌, ◌++◌, List, ℕ, [], ◌∷◌, zero, suc, take, get_or, append_assoc, refl, ap, ◌∙◌, sym, subst, arith, Bool, true, false, if◌then◌else◌, codes, Contains}
use Rattle.std.proofs.lemmas.Bool.Decides.{nat_tests}
use Rattle.std.proofs.lemmas.Fmt.{decimal_injective}
use Rattle.std.specs.List.{flat_map}
use Rattle.std.specs.Fmt.{decimal, digits, digits_onto, digit_glyph}
use borrow.Author.Tests.{ne_eqb}
use Rattle.oper_core.specs.declared.refusal.Refusal.{Refusal}
use Rattle.oper_core.specs.declared.refusal.Refusal.TheVariants.{NoPages, NoObject, Same, BadPlace, BadWidth, NotApp, NotCode, Halted, NoInput, NotNode, NoKey, NodeFull, TooLarge}
use Rattle.formats.specs.declared.params.Params.{Params}
use Rattle.script_lines.specs.Reading.{IsPlain}
use Rattle.script_lines.specs.declared.backup_denial.BackupDenial.TheVariants.{InBackup, NoBackup, AlreadyStore, NotCopied}
use Rattle.script_lines.specs.declared.denial.Denial.TheVariants.{BadHash, HashFull, NoRoom, BadMap, MapFull, TooLong}
use Rattle.script_lines.specs.Replies.{Pair, Reply, ok, ran, value, pairs, forced, bad, refused, bad_tree, tree_full, denied, in_group, no_group, full, end, object_value, command_count, stat, copied, saved, backup_denied, summary, absent, counted, silence, pair_text, spaced_pair, spaced, numbers_of, hex_glyph, hex_pair, hex_text, name_of, text_of, said_line}
use Rattle.shell_base.specs.Store.{Command}
use Rattle.script_run.specs.Answers.{Said, Begun}
use Rattle.script_run.specs.Printed.{before_line, whole_lines, texts_of, SaysForced, SaysNumber, SaysSaved}

-- bytes without a newline

-- whether no byte is a newline
abbrev is_plain : List ℕ → Bool
is_plain [] = true
is_plain (byte ∷ bytes) = if byte == 10 then false else is_plain bytes

plain_when : (bytes : List ℕ) → is_plain bytes ≡ true → IsPlain bytes
plain_when [] is = tt
plain_when (byte ∷ bytes) is = (λ e. grind (arith, nat_tests), plain_when bytes (grind (arith, nat_tests)))

plain_on : (a b : List ℕ) → IsPlain a → IsPlain b → IsPlain (a ++ b)
plain_on [] b first second = second
plain_on (byte ∷ a) b first second = (first.0, plain_on a b first.1 second)

pub plain_front : (count : ℕ) (bytes : List ℕ) → IsPlain bytes → IsPlain (take count bytes)
plain_front zero bytes plain = tt
plain_front (suc count) [] plain = tt
plain_front (suc count) (byte ∷ bytes) plain = (plain.0, plain_front count bytes plain.1)

decimal_digits : (n : ℕ) → digits_onto 64 10 false n [] ≡ decimal n
unfolding digits
decimal_digits n = refl

-- the digits of a number, each of which is one of ten
module _ (P : List ℕ → Type 0) (more : (d : ℕ) (bytes : List ℕ) → d < 10 → P bytes → P ((48 + d) ∷ bytes)) where
  choose : (t : Bool) (x y : List ℕ) → P x → P y → P (if t then x else y)
  choose true x y first second = first
  choose false x y first second = second

  glyph_more : (d : ℕ) (bytes : List ℕ) → d < 10 → P bytes → P (digit_glyph false d ∷ bytes)
  glyph_more d bytes small has =
      let same : digit_glyph false d ≡ 48 + d = grind (arith, nat_tests) in
      subst (λ (b : ℕ). P (b ∷ bytes)) (sym same) (more d bytes small has)

  digits_have : (k n : ℕ) (bytes : List ℕ) → P bytes → P (digits_onto k 10 false n bytes)
  digits_have zero n bytes has = has
  digits_have (suc k) n bytes has =
      let small : n % 10 < 10 = omega arith in
      let here = glyph_more (n % 10) bytes small has in
      choose (n / 10 == 0) _ _ here (digits_have k (n / 10) (digit_glyph false (n % 10) ∷ bytes) here)

  pub decimal_has : (n : ℕ) → P [] → P (decimal n)
  decimal_has n none = subst P (decimal_digits n) (digits_have 64 n [] none)

plain_decimal : (n : ℕ) → IsPlain (decimal n)
plain_decimal n = decimal_has IsPlain (λ d bytes small plain. (λ e. omega arith, plain)) n tt

plain_glyph : (n : ℕ) → hex_glyph n ≢ 10
plain_glyph n is = let high : 48 ≤ hex_glyph n = grind (arith, nat_tests) in omega (arith, high, is)

plain_pairs : (bytes : List ℕ) → IsPlain (flat_map hex_pair bytes)
plain_pairs [] = tt
plain_pairs (byte ∷ bytes) = (plain_glyph (byte / 16), (plain_glyph (byte % 16), plain_pairs bytes))

plain_hex : (bytes : List ℕ) → IsPlain (hex_text bytes)
plain_hex [] = plain_when (codes "-") refl
plain_hex (byte ∷ bytes) = plain_pairs (byte ∷ bytes)

plain_name : (refusal : Refusal) → IsPlain (name_of refusal)
plain_name NoPages = plain_when (name_of NoPages) refl
plain_name NoObject = plain_when (name_of NoObject) refl
plain_name Same = plain_when (name_of Same) refl
plain_name BadPlace = plain_when (name_of BadPlace) refl
plain_name BadWidth = plain_when (name_of BadWidth) refl
plain_name NotApp = plain_when (name_of NotApp) refl
plain_name NotCode = plain_when (name_of NotCode) refl
plain_name Halted = plain_when (name_of Halted) refl
plain_name NoInput = plain_when (name_of NoInput) refl
plain_name NotNode = plain_when (name_of NotNode) refl
plain_name NoKey = plain_when (name_of NoKey) refl
plain_name NodeFull = plain_when (name_of NodeFull) refl
plain_name TooLarge = plain_when (name_of TooLarge) refl

space_on : (bytes : List ℕ) → IsPlain bytes → IsPlain (32 ∷ bytes)
space_on bytes plain = (λ e. omega arith, plain)

plain_numbers : (numbers : List ℕ) → IsPlain (flat_map spaced numbers)
plain_numbers [] = tt
plain_numbers (n ∷ numbers) = plain_on (32 ∷ decimal n) (flat_map spaced numbers) (space_on (decimal n) (plain_decimal n)) (plain_numbers numbers)

plain_pair : (pair : Pair) → IsPlain (pair_text pair)
plain_pair pair = plain_on (flat_map hex_pair pair.0) (58 ∷ flat_map hex_pair pair.1) (plain_pairs pair.0) ((λ e. omega arith), plain_pairs pair.1)

plain_others : (others : List Pair) → IsPlain (flat_map spaced_pair others)
plain_others [] = tt
plain_others (pair ∷ others) = plain_on (spaced_pair pair) (flat_map spaced_pair others) (space_on (pair_text pair) (plain_pair pair)) (plain_others others)

-- a number after a word
plain_count : (name : List ℕ) (n : ℕ) → IsPlain name → IsPlain (name ++ decimal n)
plain_count name n plain = plain_on name (decimal n) plain (plain_decimal n)

plain_named : (front name : List ℕ) (n : ℕ) → IsPlain front → IsPlain name → IsPlain (front ++ name ++ decimal n)
plain_named front name n before plain = plain_on (front ++ name) (decimal n) (plain_on front name before plain) (plain_decimal n)

-- no answer's text has one
pub plain_text : (reply : Reply) → IsPlain (text_of reply)
unfolding text_of
plain_text ok = plain_when (codes "ok") refl
plain_text (value bytes) = plain_hex bytes
plain_text (forced n) = plain_on (codes "forced ") (decimal n) (plain_when (codes "forced ") refl) (plain_decimal n)
plain_text bad = plain_when (codes "bad") refl
plain_text (refused refusal) = plain_on (codes "refused ") (name_of refusal) (plain_when (codes "refused ") refl) (plain_name refusal)
plain_text (full used need limit) =
    plain_on (codes "full " ++ decimal used ++ 32 ∷ decimal need) (32 ∷ decimal limit)
    (plain_on (codes "full " ++ decimal used) (32 ∷ decimal need) (plain_on (codes "full ") (decimal used) (plain_when (codes "full ") refl) (plain_decimal used)) (space_on (decimal need) (plain_decimal need)))
    (space_on (decimal limit) (plain_decimal limit))
plain_text (end number) = plain_on (codes "end ") (decimal number) (plain_when (codes "end ") refl) (plain_decimal number)
plain_text (object_value object bytes) = plain_on (decimal object) (32 ∷ hex_text bytes) (plain_decimal object) (space_on (hex_text bytes) (plain_hex bytes))
plain_text (command_count n) = plain_on (codes "commands ") (decimal n) (plain_when (codes "commands ") refl) (plain_decimal n)
plain_text (stat counts) = plain_on (codes "stat") (flat_map spaced (numbers_of counts)) (plain_when (codes "stat") refl) (plain_numbers (numbers_of counts))
plain_text (ran n) = plain_count (codes "ran ") n (plain_when (codes "ran ") refl)
plain_text (pairs pair others) = plain_on (pair_text pair) (flat_map spaced_pair others) (plain_pair pair) (plain_others others)
plain_text bad_tree = plain_when (codes "refused BadTree") refl
plain_text tree_full = plain_when (codes "refused TreeFull") refl
plain_text (denied BadHash) = plain_when (codes "refused BadHash") refl
plain_text (denied HashFull) = plain_when (codes "refused HashFull") refl
plain_text (denied NoRoom) = plain_when (codes "refused NoRoom") refl
plain_text (denied BadMap) = plain_when (codes "refused BadMap") refl
plain_text (denied MapFull) = plain_when (codes "refused MapFull") refl
plain_text (denied TooLong) = plain_when (codes "refused TooLong") refl
plain_text absent = plain_when (codes "none") refl
plain_text (counted n) = plain_count (codes "counted ") n (plain_when (codes "counted ") refl)
plain_text in_group = plain_when (codes "refused InGroup") refl
plain_text no_group = plain_when (codes "refused NoGroup") refl
plain_text (copied n) = plain_count (codes "copied ") n (plain_when (codes "copied ") refl)
plain_text (saved n) = plain_count (codes "saved ") n (plain_when (codes "saved ") refl)
plain_text (backup_denied InBackup) = plain_when (codes "refused InBackup") refl
plain_text (backup_denied NoBackup) = plain_when (codes "refused NoBackup") refl
plain_text (backup_denied AlreadyStore) = plain_when (codes "refused AlreadyStore") refl
plain_text (backup_denied NotCopied) = plain_when (codes "refused NotCopied") refl
plain_text (summary t) =
    let seed = codes "demo" ++ codes " seed " ++ decimal t.seed in
    let steps = seed ++ codes " steps " ++ decimal t.steps in
    let lines = steps ++ codes " lines " ++ decimal t.lines in
    let bytes = lines ++ codes " bytes " ++ decimal t.bytes in
    let accepted = bytes ++ codes " accepted " ++ decimal t.accepted in
    let refusals = accepted ++ codes " refused " ++ decimal t.refused in
    plain_named refusals (codes " sum ") t.sum
    (plain_named accepted (codes " refused ") t.refused
    (plain_named bytes (codes " accepted ") t.accepted
    (plain_named lines (codes " bytes ") t.bytes
    (plain_named steps (codes " lines ") t.lines
    (plain_named seed (codes " steps ") t.steps
    (plain_count (codes "demo" ++ codes " seed ") t.seed (plain_when (codes "demo seed ") refl)) (plain_when (codes " steps ") refl))
    (plain_when (codes " lines ") refl))
    (plain_when (codes " bytes ") refl))
    (plain_when (codes " accepted ") refl))
    (plain_when (codes " refused ") refl))
    (plain_when (codes " sum ") refl)
plain_text silence = tt

-- the whole lines of bytes

no_line : (bytes : List ℕ) → IsPlain bytes → whole_lines bytes ≡ []
no_line [] plain = refl
no_line (byte ∷ bytes) plain =
    ap (λ (t : Bool). if t then [] ∷ whole_lines bytes else before_line byte (whole_lines bytes)) (ne_eqb byte 10 plain.0)
    ∙ ap (λ (l : List (List ℕ)). before_line byte l) (no_line bytes plain.1)

one_line : (text rest : List ℕ) → IsPlain text → whole_lines (text ++ 10 ∷ rest) ≡ text ∷ whole_lines rest
one_line [] rest plain = refl
one_line (byte ∷ text) rest plain =
    ap (λ (t : Bool). if t then [] ∷ whole_lines (text ++ 10 ∷ rest) else before_line byte (whole_lines (text ++ 10 ∷ rest))) (ne_eqb byte 10 plain.0)
    ∙ ap (λ (l : List (List ℕ)). before_line byte l) (one_line text rest plain.1)

-- a reply's line is that of its text, and a skipped line has none
whole_line : (reply : Reply) (replies : List Reply) (bytes : List ℕ) → whole_lines bytes ≡ texts_of replies → whole_lines ((text_of reply ++ 10 ∷ []) ++ bytes) ≡ text_of reply ∷ texts_of replies
whole_line reply replies bytes rest =
    ap (λ (l : List ℕ). whole_lines l) (append_assoc (text_of reply) (10 ∷ []) bytes)
    ∙ one_line (text_of reply) bytes (plain_text reply)
    ∙ ap (λ (l : List (List ℕ)). text_of reply ∷ l) rest

line_more : (reply : Reply) (replies : List Reply) (bytes : List ℕ) → whole_lines bytes ≡ texts_of replies → whole_lines (said_line reply ++ bytes) ≡ texts_of (reply ∷ replies)
line_more ok replies bytes rest = whole_line ok replies bytes rest
line_more (value v) replies bytes rest = whole_line (value v) replies bytes rest
line_more (forced n) replies bytes rest = whole_line (forced n) replies bytes rest
line_more bad replies bytes rest = whole_line bad replies bytes rest
line_more (refused refusal) replies bytes rest = whole_line (refused refusal) replies bytes rest
line_more (full used need limit) replies bytes rest = whole_line (full used need limit) replies bytes rest
line_more (end number) replies bytes rest = whole_line (end number) replies bytes rest
line_more (object_value object v) replies bytes rest = whole_line (object_value object v) replies bytes rest
line_more (command_count n) replies bytes rest = whole_line (command_count n) replies bytes rest
line_more (stat counts) replies bytes rest = whole_line (stat counts) replies bytes rest
line_more (ran n) replies bytes rest = whole_line (ran n) replies bytes rest
line_more (pairs pair others) replies bytes rest = whole_line (pairs pair others) replies bytes rest
line_more bad_tree replies bytes rest = whole_line bad_tree replies bytes rest
line_more tree_full replies bytes rest = whole_line tree_full replies bytes rest
line_more (denied why) replies bytes rest = whole_line (denied why) replies bytes rest
line_more in_group replies bytes rest = whole_line in_group replies bytes rest
line_more no_group replies bytes rest = whole_line no_group replies bytes rest
line_more (copied n) replies bytes rest = whole_line (copied n) replies bytes rest
line_more (saved n) replies bytes rest = whole_line (saved n) replies bytes rest
line_more (backup_denied why) replies bytes rest = whole_line (backup_denied why) replies bytes rest
line_more (summary totals) replies bytes rest = whole_line (summary totals) replies bytes rest
line_more absent replies bytes rest = whole_line absent replies bytes rest
line_more (counted n) replies bytes rest = whole_line (counted n) replies bytes rest
line_more silence replies bytes rest = rest

-- the whole lines of what is said are the texts of the answers
pub lines_said : (replies : List Reply) (part : List ℕ) → IsPlain part → whole_lines (flat_map said_line replies ++ part) ≡ texts_of replies
lines_said [] part plain = no_line part plain
lines_said (reply ∷ replies) part plain =
    ap (λ (l : List ℕ). whole_lines l) (append_assoc (said_line reply) (flat_map said_line replies) part)
    ∙ line_more reply replies (flat_map said_line replies ++ part) (lines_said replies part plain)

-- which answers have the text of one that says so many are forced, or saved

low_decimal : (n : ℕ) (rest : List ℕ) → get_or (decimal n ++ 32 ∷ rest) 0 0 ≤ 57
low_decimal n rest = decimal_has (λ bytes. get_or (bytes ++ 32 ∷ rest) 0 0 ≤ 57) (λ d bytes small low. omega arith) n (omega arith)

low_glyph : (n : ℕ) → n < 16 → hex_glyph n ≤ 102
low_glyph n small = grind (arith, nat_tests)

low_hex : (bytes : List ℕ) → get_or (hex_text bytes) 1 0 ≤ 102
low_hex [] = omega arith
low_hex (byte ∷ bytes) = let small : byte % 16 < 16 = omega arith in low_glyph (byte % 16) small

-- no pair begins as `forced` does
low_pair : (key v others : List ℕ) (n : ℕ) → (flat_map hex_pair key ++ 58 ∷ flat_map hex_pair v) ++ others ≡ codes "forced " ++ decimal n → ⊥
low_pair [] v others n same = omega (arith, ap (λ (l : List ℕ). get_or l 0 0) same)
low_pair (byte ∷ key) v others n same = let small : byte % 16 < 16 = omega arith in omega (arith, low_glyph (byte % 16) small, ap (λ (l : List ℕ). get_or l 1 0) same)

-- the text says so many, and the reply is such an answer
pub record Tells (answer : ℕ → Reply) (reply : Reply) (n : ℕ) : Type 0 where
  pub count : ℕ
  pub reply_is : reply ≡ answer count
  pub same : decimal count ≡ decimal n

forced_text : (reply : Reply) (n : ℕ) → text_of reply ≡ text_of (forced n) → Tells forced reply n
unfolding text_of
forced_text ok n same = absurd (omega (arith, ap (λ (l : List ℕ). get_or l 1 0) same))
forced_text (value bytes) n same = absurd (omega (arith, low_hex bytes, ap (λ (l : List ℕ). get_or l 1 0) same))
forced_text (forced m) n same = record { count = m; reply_is = refl; same = cc }
forced_text bad n same = absurd (omega (arith, ap (λ (l : List ℕ). get_or l 1 0) same))
forced_text (refused refusal) n same = absurd (omega (arith, ap (λ (l : List ℕ). get_or l 1 0) same))
forced_text (full used need limit) n same = absurd (omega (arith, ap (λ (l : List ℕ). get_or l 1 0) same))
forced_text (end number) n same = absurd (omega (arith, ap (λ (l : List ℕ). get_or l 1 0) same))
forced_text (object_value object bytes) n same = absurd (omega (arith, low_decimal object (hex_text bytes), ap (λ (l : List ℕ). get_or l 0 0) same))
forced_text (command_count m) n same = absurd (omega (arith, ap (λ (l : List ℕ). get_or l 0 0) same))
forced_text (stat counts) n same = absurd (omega (arith, ap (λ (l : List ℕ). get_or l 0 0) same))
forced_text (ran m) n same = absurd (omega (arith, ap (λ (l : List ℕ). get_or l 0 0) same))
forced_text (pairs pair others) n same = absurd (low_pair pair.0 pair.1 (flat_map spaced_pair others) n same)
forced_text bad_tree n same = absurd (omega (arith, ap (λ (l : List ℕ). get_or l 1 0) same))
forced_text tree_full n same = absurd (omega (arith, ap (λ (l : List ℕ). get_or l 1 0) same))
forced_text (denied why) n same = absurd (omega (arith, ap (λ (l : List ℕ). get_or l 1 0) same))
forced_text in_group n same = absurd (omega (arith, ap (λ (l : List ℕ). get_or l 1 0) same))
forced_text no_group n same = absurd (omega (arith, ap (λ (l : List ℕ). get_or l 1 0) same))
forced_text (copied m) n same = absurd (omega (arith, ap (λ (l : List ℕ). get_or l 0 0) same))
forced_text (saved m) n same = absurd (omega (arith, ap (λ (l : List ℕ). get_or l 0 0) same))
forced_text (backup_denied why) n same = absurd (omega (arith, ap (λ (l : List ℕ). get_or l 1 0) same))
forced_text (summary totals) n same = absurd (omega (arith, ap (λ (l : List ℕ). get_or l 0 0) same))
forced_text absent n same = absurd (omega (arith, ap (λ (l : List ℕ). get_or l 0 0) same))
forced_text (counted m) n same = absurd (omega (arith, ap (λ (l : List ℕ). get_or l 0 0) same))
forced_text silence n same = absurd (omega (arith, ap (λ (l : List ℕ). get_or l 1 0) same))

-- no text in hexadecimal has its first space there
no_space : (bytes : List ℕ) → get_or (hex_text bytes) 5 0 ≡ 32 → ⊥
no_space [] is = omega (arith, is)
no_space (a ∷ []) is = omega (arith, is)
no_space (a ∷ b ∷ []) is = omega (arith, is)
no_space (a ∷ b ∷ c ∷ rest) is = let high : 48 ≤ hex_glyph (c % 16) = grind (arith, nat_tests) in omega (arith, high, is)

no_space_pair : (key v others : List ℕ) (n : ℕ) → (flat_map hex_pair key ++ 58 ∷ flat_map hex_pair v) ++ others ≡ codes "saved " ++ decimal n → ⊥
no_space_pair [] v others n same = omega (arith, ap (λ (l : List ℕ). get_or l 0 0) same)
no_space_pair (a ∷ []) v others n same = omega (arith, ap (λ (l : List ℕ). get_or l 2 0) same)
no_space_pair (a ∷ b ∷ []) v others n same = omega (arith, ap (λ (l : List ℕ). get_or l 4 0) same)
no_space_pair (a ∷ b ∷ c ∷ key) v others n same = let high : 48 ≤ hex_glyph (c % 16) = grind (arith, nat_tests) in omega (arith, high, ap (λ (l : List ℕ). get_or l 5 0) same)

saved_text : (reply : Reply) (n : ℕ) → text_of reply ≡ text_of (saved n) → Tells saved reply n
unfolding text_of
saved_text (value bytes) n same = absurd (no_space bytes (ap (λ (l : List ℕ). get_or l 5 0) same))
saved_text (object_value object bytes) n same = absurd (omega (arith, low_decimal object (hex_text bytes), ap (λ (l : List ℕ). get_or l 0 0) same))
saved_text (stat counts) n same = absurd (omega (arith, ap (λ (l : List ℕ). get_or l 1 0) same))
saved_text (pairs pair others) n same = absurd (no_space_pair pair.0 pair.1 (flat_map spaced_pair others) n same)
saved_text (saved m) n same = record { count = m; reply_is = refl; same = cc }
saved_text ok n same = absurd (omega (arith, ap (λ (l : List ℕ). get_or l 0 0) same))
saved_text (forced m) n same = absurd (omega (arith, ap (λ (l : List ℕ). get_or l 0 0) same))
saved_text bad n same = absurd (omega (arith, ap (λ (l : List ℕ). get_or l 0 0) same))
saved_text (refused refusal) n same = absurd (omega (arith, ap (λ (l : List ℕ). get_or l 0 0) same))
saved_text (full used need limit) n same = absurd (omega (arith, ap (λ (l : List ℕ). get_or l 0 0) same))
saved_text (end number) n same = absurd (omega (arith, ap (λ (l : List ℕ). get_or l 0 0) same))
saved_text (command_count m) n same = absurd (omega (arith, ap (λ (l : List ℕ). get_or l 0 0) same))
saved_text (ran m) n same = absurd (omega (arith, ap (λ (l : List ℕ). get_or l 0 0) same))
saved_text bad_tree n same = absurd (omega (arith, ap (λ (l : List ℕ). get_or l 0 0) same))
saved_text tree_full n same = absurd (omega (arith, ap (λ (l : List ℕ). get_or l 0 0) same))
saved_text (denied why) n same = absurd (omega (arith, ap (λ (l : List ℕ). get_or l 0 0) same))
saved_text in_group n same = absurd (omega (arith, ap (λ (l : List ℕ). get_or l 0 0) same))
saved_text no_group n same = absurd (omega (arith, ap (λ (l : List ℕ). get_or l 0 0) same))
saved_text (copied m) n same = absurd (omega (arith, ap (λ (l : List ℕ). get_or l 0 0) same))
saved_text (backup_denied why) n same = absurd (omega (arith, ap (λ (l : List ℕ). get_or l 0 0) same))
saved_text (summary totals) n same = absurd (omega (arith, ap (λ (l : List ℕ). get_or l 0 0) same))
saved_text absent n same = absurd (omega (arith, ap (λ (l : List ℕ). get_or l 0 0) same))
saved_text (counted m) n same = absurd (omega (arith, ap (λ (l : List ℕ). get_or l 0 0) same))
saved_text silence n same = absurd (omega (arith, ap (λ (l : List ℕ). get_or l 0 0) same))

-- a list of texts that has this one, in front or after
texts_cases : (first text : List ℕ) (texts : List (List ℕ)) → Contains (first ∷ texts) text → (first ≡ text) ⊎ Contains texts text
texts_cases first text texts (zero, small, is) = inl is
texts_cases first text texts (suc k, small, is) = inr (k, omega (arith, small), is)

none_forces : (text : List ℕ) → Contains {X = List ℕ} [] text → ⊥
none_forces text (k, small, is) = omega (arith, small)

-- the answer that tells so is one of the replies
module _ (answer : ℕ → Reply) (text : (reply : Reply) (n : ℕ) → text_of reply ≡ text_of (answer n) → Tells answer reply n) where
  record OneTells (replies : List Reply) (n : ℕ) : Type 0 where
    pub count : ℕ
    pub has : Contains replies (answer count)
    pub same : decimal count ≡ decimal n

  first_tells : (reply : Reply) (replies : List Reply) (n : ℕ) → text_of reply ≡ text_of (answer n) → OneTells (reply ∷ replies) n
  first_tells reply replies n is = let f = text reply n is in record { count = f.count; has = (zero, omega arith, f.reply_is); same = f.same }

  later_tells : (reply : Reply) (replies : List Reply) (n : ℕ) → OneTells replies n → OneTells (reply ∷ replies) n
  later_tells reply replies n one = let (k, small, is) = one.has in record { count = one.count; has = (suc k, omega (arith, small), is); same = one.same }

  text_tells : (replies : List Reply) (n : ℕ) → Contains (texts_of replies) (text_of (answer n)) → OneTells replies n
  text_tells [] n has = absurd (none_forces (text_of (answer n)) has)
  text_tells (silence ∷ replies) n has = later_tells silence replies n (text_tells replies n has)
  text_tells (reply ∷ replies) n has =
      ⊎_elim (λ is. first_tells reply replies n is) (λ behind. later_tells reply replies n (text_tells replies n behind)) (texts_cases (text_of reply) (text_of (answer n)) (texts_of replies) has)

-- the beginning of the next answer is no whole line
plain_part : {p : Params} {tie : List Command → List ℕ → Reply → Type 0} {commands : List Command} {script : List (List ℕ)} {said : List ℕ} → (s : Said p tie commands script said) → IsPlain s.part
plain_part {p} {tie} {commands} s = ⊎_elim
    (λ none. subst (λ (l : List ℕ). IsPlain l) (sym none.0) tt)
    (λ (b : Begun p tie s.account s.todo s.part s.added). subst (λ (l : List ℕ). IsPlain l) (sym b.begun) (plain_front b.count (text_of b.reply) (plain_text b.reply)))
    s.work

-- What was printed says so by such an answer, where these have numbers of 64 bits.
printed_told : (answer : ℕ → Reply) → ((reply : Reply) (n : ℕ) → text_of reply ≡ text_of (answer n) → Tells answer reply n) → {p : Params} {tie : List Command → List ℕ → Reply → Type 0} {commands : List Command} {script : List (List ℕ)} {said : List ℕ}
    → (s : Said p tie commands script said) → ((n : ℕ) → Contains s.replies (answer n) → n < 2 ^ 64) → (n : ℕ) → SaysNumber answer said n → Contains s.replies (answer n)
printed_told answer text s small n says =
    let texts = ap (λ (l : List ℕ). whole_lines l) s.said_is ∙ lines_said s.replies s.part (plain_part s) in
    let one = text_tells answer text s.replies n (subst (λ (l : List (List ℕ)). Contains l (text_of (answer n))) texts says.1) in
    let same : one.count ≡ n = decimal_injective one.count n (small one.count one.has) says.0 one.same in
    subst (λ (k : ℕ). Contains s.replies (answer k)) same one.has

-- It says no more to be forced than the answers do.
pub printed_acked : {p : Params} {tie : List Command → List ℕ → Reply → Type 0} {commands : List Command} {script : List (List ℕ)} {said : List ℕ} (kept : ℕ) → (s : Said p tie commands script said) → kept < 2 ^ 64
    → ((n : ℕ) → Contains s.replies (forced n) → n ≤ kept) → (n : ℕ) → SaysForced said n → n ≤ kept
printed_acked kept s small acked n says = acked n (printed_told forced forced_text s (λ m has. omega (arith, acked m has, small)) n says)

-- It says to be saved what the answers do.
pub printed_saved : {p : Params} {tie : List Command → List ℕ → Reply → Type 0} {commands : List Command} {script : List (List ℕ)} {said : List ℕ} (s : Said p tie commands script said)
    → ((n : ℕ) → Contains s.replies (saved n) → n < 2 ^ 64) → (n : ℕ) → SaysSaved said n → Contains s.replies (saved n)
printed_saved s small n says = printed_told saved saved_text s small n says

-- nothing was printed
pub nothing_printed : (n : ℕ) → SaysForced [] n → ⊥
nothing_printed n says = none_forces (text_of (forced n)) says.1
