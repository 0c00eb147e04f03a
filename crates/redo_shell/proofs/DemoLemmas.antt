-- What was said in answer to a script, taken apart again.
use Rattle.std.proofs.Common.{◌≡◌, ◌≢◌, ◌∙◌, ◌+◌, ◌%◌, ◌==◌, ◌<◌, ◌≤◌, ◌++◌, List, [], ◌∷◌, ℕ, zero, suc, get_or, length, length-append, refl, ap, sym, arith, append_assoc, Bool, true, false, cond, codes, Option}
use Rattle.std.specs.Prelude.{count_by, ◌&&◌, ◌||◌}
use Rattle.std.specs.Fmt.{decimal}
use Rattle.std.specs.List.{flat_map, starts_with, slice_split, onto_first}
use Rattle.std.proofs.lemmas.Bool.Decides.{nat_tests}
use Rattle.std.proofs.lemmas.List.Splits.{length-slice_split}
use Rattle.std.proofs.lemmas.List.Sums.{sum_by-cons, sum_by-append}
use borrow.Author.Tests.{ne_eqb}
use Rattle.script_lines.specs.Reading.{IsPlain}
use Rattle.script_lines.specs.Replies.{Reply, ok, value, ran, pairs, forced, bad, refused, bad_tree, tree_full, denied, in_group, no_group, full, end, object_value, command_count, stat, copied, saved, backup_denied, summary, absent, counted, silence, hex_glyph, hex_pair, hex_text, spaced, spaced_pair, numbers_of, text_of, said_line}
use Rattle.formats.specs.declared.params.Params.{Params}
use Rattle.shell_base.specs.Store.{Command}
use Rattle.script_run.specs.Answers.{Answers}
use Rattle.script_run.specs.Groups.{Account}
use Rattle.script_run.specs.Printed.{texts_of}
use Rattle.script_run.specs.Replies.{Replies, is_refusing}
use Rattle.script_run.specs.PrintedLaws.{plain_text}
use Rattle.redo_shell.specs.Demo.{is_newline, is_refusal, refusal_count}

-- a first line is split off
split_one : (text rest : List ℕ) → IsPlain text → slice_split is_newline (text ++ 10 ∷ rest) ≡ text ∷ slice_split is_newline rest
split_one [] rest plain = refl
split_one (byte ∷ text) rest plain =
    ap (λ (t : Bool). cond t ([] ∷ slice_split is_newline (text ++ 10 ∷ rest)) (onto_first byte (slice_split is_newline (text ++ 10 ∷ rest)))) (ne_eqb byte 10 plain.0)
    ∙ ap (λ (l : List (List ℕ)). onto_first byte l) (split_one text rest plain.1)

split_more : (reply : Reply) (bytes : List ℕ) → slice_split is_newline ((text_of reply ++ 10 ∷ []) ++ bytes) ≡ text_of reply ∷ slice_split is_newline bytes
split_more reply bytes = ap (λ (l : List ℕ). slice_split is_newline l) (append_assoc (text_of reply) (10 ∷ []) bytes) ∙ split_one (text_of reply) bytes (plain_text reply)

-- What was said is split into the texts of the answers; nothing is after the last newline.
pub split_said : (replies : List Reply) → slice_split is_newline (flat_map said_line replies) ≡ texts_of replies ++ [] ∷ []
split_said [] = refl
split_said (silence ∷ replies) = split_said replies
split_said (reply ∷ replies) = split_more reply (flat_map said_line replies) ∙ ap (λ (l : List (List ℕ)). text_of reply ∷ l) (split_said replies)

pub lines_are : (replies : List Reply) → count_by is_newline (flat_map said_line replies) ≡ length (texts_of replies)
lines_are replies =
    let whole = length-slice_split is_newline (flat_map said_line replies) in
    let parts = ap length (split_said replies) in
    let both = length-append (texts_of replies) ([] ∷ []) in
    omega (arith, whole, parts, both)

-- which texts are refusals

abbrev same : ℕ → ℕ → Bool
same a b = a == b

neither : (b : Bool) → (b && false) ≡ false
neither true = refl
neither false = refl

-- a text with another byte at a place begins otherwise
other_front : (needle text : List ℕ) (i : ℕ) → i < length needle → get_or text i 0 ≢ get_or needle i 0 → starts_with same text needle ≡ false
other_front [] text i low other = absurd (omega (arith, low))
other_front (n ∷ needle) [] i low other = refl
other_front (n ∷ needle) (byte ∷ text) zero low other = ap (λ (t : Bool). t && starts_with same text needle) (ne_eqb n byte (λ e. other (sym e)))
other_front (n ∷ needle) (byte ∷ text) (suc i) low other = ap (λ (t : Bool). n == byte && t) (other_front needle text i (omega (arith, low)) other) ∙ neither (n == byte)

no_refusal : (text : List ℕ) → starts_with same text (codes "refused ") ≡ false → starts_with same text (codes "full ") ≡ false → starts_with same text (codes "end ") ≡ false
    → (length text == 3 && starts_with same text (codes "bad")) ≡ false → is_refusal text ≡ false
no_refusal text a b c d = λ i. ((a i || b i) || c i) || d i

low_glyph : (n : ℕ) → hex_glyph (n % 16) ≤ 102
low_glyph n = let small : n % 16 < 16 = omega arith in grind (arith, nat_tests, small)

-- no digits are, however they go on after the first four
digits_kind : (a b : ℕ) (rest : List ℕ) → is_refusal (flat_map hex_pair (a ∷ b ∷ []) ++ rest) ≡ false
digits_kind a b rest =
    let text = flat_map hex_pair (a ∷ b ∷ []) ++ rest in
    let low = low_glyph a in
    let next = low_glyph b in
    let long : (length text == 3) ≡ false = ne_eqb (length text) 3 (λ e. omega (arith, e)) in
    no_refusal text (other_front (codes "refused ") text 3 (omega arith) (λ e. omega (arith, e, next))) (other_front (codes "full ") text 1 (omega arith) (λ e. omega (arith, e, low))) (other_front (codes "end ") text 1 (omega arith) (λ e. omega (arith, e, low)))
    (ap (λ (t : Bool). t && starts_with same text (codes "bad")) long)

value_kind : (bytes : List ℕ) → is_refusal (hex_text bytes) ≡ false
value_kind [] = refl
value_kind (a ∷ []) =
    let text = flat_map hex_pair (a ∷ []) in
    let low = low_glyph a in
    no_refusal text (other_front (codes "refused ") text 3 (omega arith) (λ e. omega (arith, e))) (other_front (codes "full ") text 1 (omega arith) (λ e. omega (arith, e, low))) (other_front (codes "end ") text 1 (omega arith) (λ e. omega (arith, e, low))) refl
value_kind (a ∷ b ∷ bytes) = digits_kind a b (flat_map hex_pair bytes)

-- a key, and what follows it
key_kind : (key rest : List ℕ) → is_refusal (flat_map hex_pair key ++ 58 ∷ rest) ≡ false
key_kind [] rest = no_refusal (58 ∷ rest) refl refl refl (neither (length (58 ∷ rest) == 3))
key_kind (a ∷ []) rest =
    let text = flat_map hex_pair (a ∷ []) ++ 58 ∷ rest in
    let low = low_glyph a in
    no_refusal text (other_front (codes "refused ") text 2 (omega arith) (λ e. omega (arith, e))) (other_front (codes "full ") text 1 (omega arith) (λ e. omega (arith, e, low))) (other_front (codes "end ") text 1 (omega arith) (λ e. omega (arith, e, low)))
    (ap (λ (t : Bool). length text == 3 && t) (other_front (codes "bad") text 2 (omega arith) (λ e. omega (arith, e))) ∙ neither (length text == 3))
key_kind (a ∷ b ∷ key) rest = digits_kind a b (flat_map hex_pair key ++ 58 ∷ rest)

-- the text of an answer to a line is a refusal's exactly where the answer is one
text_kind : (p : Params) (group : Option ℕ) (commands : List Command) (line : List ℕ) (reply : Reply) (added : List Command) → Replies p group commands line reply added → is_refusal (text_of reply) ≡ is_refusing reply
unfolding text_of
text_kind p group commands line ok added is = refl
text_kind p group commands line (value bytes) added is = value_kind bytes
text_kind p group commands line (ran n) added is = no_refusal (codes "ran " ++ decimal n) refl refl refl (neither (length (codes "ran " ++ decimal n) == 3))
text_kind p group commands line (pairs pair others) added is =
    ap (λ (l : List ℕ). is_refusal l) (append_assoc (flat_map hex_pair pair.0) (58 ∷ flat_map hex_pair pair.1) (flat_map spaced_pair others))
    ∙ key_kind pair.0 (flat_map hex_pair pair.1 ++ flat_map spaced_pair others)
text_kind p group commands line (forced n) added is = no_refusal (codes "forced " ++ decimal n) refl refl refl (neither (length (codes "forced " ++ decimal n) == 3))
text_kind p group commands line bad added is = refl
text_kind p group commands line (refused why) added is = refl
text_kind p group commands line bad_tree added is = refl
text_kind p group commands line tree_full added is = refl
text_kind p group commands line (denied why) added is = refl
text_kind p group commands line in_group added is = refl
text_kind p group commands line no_group added is = refl
text_kind p group commands line (full used need limit) added is = refl
text_kind p group commands line (end number) added is = refl
text_kind p group commands line (stat counts) added is =
    no_refusal (codes "stat" ++ flat_map spaced (numbers_of counts)) refl refl refl (neither (length (codes "stat" ++ flat_map spaced (numbers_of counts)) == 3))
text_kind p group commands line (copied n) added is = no_refusal (codes "copied " ++ decimal n) refl refl refl (neither (length (codes "copied " ++ decimal n) == 3))
text_kind p group commands line (saved n) added is = no_refusal (codes "saved " ++ decimal n) refl refl refl (neither (length (codes "saved " ++ decimal n) == 3))
text_kind p group commands line (backup_denied why) added is = refl
text_kind p group commands line absent added is = refl
text_kind p group commands line (counted n) added is = no_refusal (codes "counted " ++ decimal n) refl refl refl (neither (length (codes "counted " ++ decimal n) == 3))
text_kind p group commands line silence added is = refl
text_kind p group commands line (object_value object bytes) added is = absurd is
text_kind p group commands line (command_count n) added is = absurd is
text_kind p group commands line (summary totals) added is = absurd is

none_first : (n : ℕ) → n ≡ 0 + n
none_first n = omega arith

kind_more : (reply : Reply) (replies : List Reply) → is_refusal (text_of reply) ≡ is_refusing reply → count_by is_refusal (texts_of replies) ≡ count_by is_refusing replies
    → count_by is_refusal (texts_of (reply ∷ replies)) ≡ count_by is_refusing (reply ∷ replies)
kind_more silence replies kind rest = rest ∙ none_first (count_by is_refusing replies) ∙ sym (sum_by-cons (λ (r : Reply). cond (is_refusing r) 1 0) silence replies)
kind_more reply replies kind rest =
    sum_by-cons (λ (l : List ℕ). cond (is_refusal l) 1 0) (text_of reply) (texts_of replies)
    ∙ (λ i. cond (kind i) 1 0 + rest i)
    ∙ sym (sum_by-cons (λ (r : Reply). cond (is_refusing r) 1 0) reply replies)

kinds_are : (p : Params) (a : Account) (lines : List (List ℕ)) (replies : List Reply) (waits : List (List Command)) (b : Account) → Answers p a lines replies waits b → count_by is_refusal (texts_of replies) ≡ count_by is_refusing replies
kinds_are p a [] [] [] b is = refl
kinds_are p a (line ∷ lines) (reply ∷ replies) (ops ∷ waits) b (here, mid, replied, same, after, others) =
    kind_more reply replies (text_kind p a.group a.commands line reply here replied) (kinds_are p mid lines replies waits b others)
kinds_are p a lines replies waits b is = absurd is

none_more : (n : ℕ) → n + 0 ≡ n
none_more n = omega arith

pub refusals_are : (p : Params) (a : Account) (lines : List (List ℕ)) (replies : List Reply) (waits : List (List Command)) (b : Account) → Answers p a lines replies waits b → refusal_count (flat_map said_line replies) ≡ count_by is_refusing replies
refusals_are p a lines replies waits b is =
    ap (λ (l : List (List ℕ)). count_by is_refusal l) (split_said replies)
    ∙ sum_by-append (λ (l : List ℕ). cond (is_refusal l) 1 0) (texts_of replies) ([] ∷ [])
    ∙ none_more (count_by is_refusal (texts_of replies))
    ∙ kinds_are p a lines replies waits b is
