-- What clap makes of a word that is a numeral.
use Rattle.std.proofs.Common.{◌≡◌, ◌∙◌, ◌<◌, ◌≤◌, ◌^◌, ◌==◌, ℕ, true, false, List, [], ◌∷◌, Some, None, pos, refl, sym, ap, subst, arith, if◌then◌else◌}
use Rattle.std.proofs.Math.Facts.{yes_leb}
use Rattle.std.proofs.lemmas.Bool.{ne_eqb}
use Rattle.std.proofs.lemmas.Fmt.{decimal_is_IsNumeral}
use Rattle.std.proofs.lemmas.Str.Parse.{digit_from_value}
use Rattle.std.specs.Fmt.{decimal}
use Rattle.std.specs.Str.{bytes_eq}
use Rattle.std.specs.Str.Parse.{IsNumeral, digits_value, signed_digits_value, starts_with_minus, without_leading_plus, without_leading_sign}
use Rattle.clap.specs.Kinds.{or_else}
use Rattle.clap.specs.Lexer.{long_of, short_of, strip_byte, without_minus}
use Rattle.std.specs.Option.{option_map_or}
use Rattle.clap.specs.Walk.{Held, Rule, Text, Waiting, Walk, after_step, arg_by_index, idle, long_or_other, option, plain_word, short_or_plain, to_positional, trailing, value, walked, word_met}
use Rattle.clap.specs.Simple.{Shape}
use Rattle.clap.specs.Faults.{bundle_fault, flag_word_fault, other_fault, step_fault, turn_fault}
use Rattle.clap.specs.ValueTests.{accepts}
use Rattle.clap.proofs.ValueTestLemmas.{Accepts-accepts}
use Rattle.clap.specs.declared.builder.value_parser.ValueParser.TheVariants.{Unsigned}
use Rattle.command_words.specs.Commands.{between}

-- The word is the numeral of n: it begins with no sign.
pub record IsNumeralOf (n : ℕ) (word : Text) : Type 0 where
  pub no_hyphen : strip_byte 45 word ≡ None
  pub no_dashes : bytes_eq word (45 ∷ 45 ∷ []) ≡ false
  pub no_minus : starts_with_minus word ≡ false
  pub no_plus : without_leading_plus word ≡ word
  pub numeral : IsNumeral 10 word
  pub number : digits_value 10 word ≡ n

numeral_of : (n : ℕ) (word : Text) → IsNumeral 10 word → digits_value 10 word ≡ n → IsNumeralOf n word
numeral_of n [] is number = absurd (omega (arith, is.0))
numeral_of n (d ∷ ds) is number =
    let range = digit_from_value d is.1.0 in
    let hyphen : (d == 45) ≡ false = ne_eqb d 45 (λ e. omega (arith, e, range.0)) in
    let plus : (d == 43) ≡ false = ne_eqb d 43 (λ e. omega (arith, e, range.0)) in
    record {
      no_hyphen = rw hyphen refl;
      no_dashes = rw hyphen refl;
      no_minus = hyphen;
      no_plus = rw plus refl;
      numeral = is;
      number = number;
    }

pub decimal_word : (n : ℕ) → n < 2 ^ 64 → IsNumeralOf n (decimal n)
decimal_word n small = let both = decimal_is_IsNumeral n small in numeral_of n (decimal n) both.0 both.1

-- it passes a parser of numbers
pub in_numbers : (least most n : ℕ) (word : Text) → IsNumeralOf n word → n < 2 ^ 64 → least ≤ n → n ≤ most → accepts false (Unsigned least most) word ≡ true
in_numbers least most n word is small low high =
    let plus : without_leading_plus word ≡ word = is.no_plus in
    let number : digits_value 10 word ≡ n = is.number in
    Accepts-accepts false (Unsigned least most) word (subst (IsNumeral 10) (sym plus) is.numeral, rw (plus, number) small, rw (plus, number) low, rw (plus, number) high)

pub in_range : (least most n : ℕ) (word : Text) → IsNumeralOf n word → n < 2 ^ 63 → least ≤ n → n ≤ most → accepts false (between least most) word ≡ true
in_range least most n word is small low high =
    let minus : starts_with_minus word ≡ false = is.no_minus in
    let plus : without_leading_plus word ≡ word = is.no_plus in
    let sign : without_leading_sign word ≡ word = rw minus plus in
    let z : signed_digits_value 10 word ≡ pos n = rw (minus, plus) (ap pos is.number) in
    Accepts-accepts false (between least most) word (rw sign is.numeral, rw z (omega arith), rw z (record { le = yes_leb low }), rw z (record { le = yes_leb high }))

-- where no subcommand has a name, the word is a value of the next positional, or of the option that waits for one
abbrev pub walk_at : Held → Waiting → ℕ → Walk
walk_at h waiting position = record { held = h; waiting = waiting; position = position; is_trailing = false; stopped = None }

module _ {n : ℕ} (word : Text) (is : IsNumeralOf n word) where
  hyphen : strip_byte 45 word ≡ None
  hyphen = is.no_hyphen

  dashes : bytes_eq word (45 ∷ 45 ∷ []) ≡ false
  dashes = is.no_dashes

  pub read_signed : Some (without_minus word) ≡ Some word
  read_signed = rw hyphen refl

  no_long : long_of word ≡ None
  no_long = rw hyphen refl

  no_short : short_of word ≡ None
  no_short = rw hyphen refl

  value_met : (rules : List Rule) (position : ℕ) (h : Held) → word_met rules [] false idle position word h ≡ (h, value)
  value_met rules position h =
      ap (λ b. if b then (h, trailing position) else long_or_other rules idle word (long_of word) h) dashes
      ∙ ap (λ o. long_or_other rules idle word o h) no_long ∙ ap (λ o. short_or_plain rules idle word o h) no_short

  option_met : (rules : List Rule) (id : Text) (position : ℕ) (h : Held) → word_met rules [] false (option id) position word h ≡ plain_word rules (option id) word h
  option_met rules id position h =
      ap (λ b. if b then (h, trailing position) else long_or_other rules (option id) word (long_of word) h) dashes
      ∙ ap (λ o. long_or_other rules (option id) word o h) no_long ∙ ap (λ o. short_or_plain rules (option id) word o h) no_short

  -- it is no flag that is at fault
  no_fault : (s : Shape) (h : Held) → other_fault s None word h ≡ []
  no_fault s h =
      ap (λ b. if b then [] else flag_word_fault s.rules s.args_override_self (long_of word) word h) dashes
      ∙ ap (λ o. flag_word_fault s.rules s.args_override_self o word h) no_long
      ∙ ap (λ o. option_map_or (λ flags. bundle_fault s.rules s.args_override_self flags h) o []) no_short

  pub value_walked : (rules : List Rule) (position : ℕ) (h : Held)
      → walked rules [] (walk_at h idle position) word ≡ to_positional rules (arg_by_index rules position) word (walk_at h idle position) h
  unfolding walked
  value_walked rules position h = ap (λ m. after_step rules word (walk_at h idle position) m.0 m.1) (value_met rules position h)

  pub option_walked : (rules : List Rule) (id : Text) (position : ℕ) (h : Held)
      → walked rules [] (walk_at h (option id) position) word
      ≡ after_step rules word (walk_at h (option id) position) (plain_word rules (option id) word h).0 (plain_word rules (option id) word h).1
  unfolding walked
  option_walked rules id position h = ap (λ m. after_step rules word (walk_at h (option id) position) m.0 m.1) (option_met rules id position h)

  pub value_turn : (s : Shape) (position : ℕ) (h : Held) → turn_fault s [] (walk_at h idle position) word ≡ step_fault s position h value
  value_turn s position h =
      ap (λ m. or_else (other_fault s None word h) (step_fault s position m.0 m.1)) (value_met s.rules position h)
      ∙ ap (λ k. or_else k (step_fault s position h value)) (no_fault s h)

  pub option_turn : (s : Shape) (id : Text) (position : ℕ) (h : Held) → turn_fault s [] (walk_at h (option id) position) word ≡ []
  option_turn s id position h =
      ap (λ m. or_else (other_fault s None word h) (step_fault s position m.0 m.1)) (option_met s.rules id position h)
      ∙ ap (λ k. or_else k (step_fault s position (plain_word s.rules (option id) word h).0 (plain_word s.rules (option id) word h).1)) (no_fault s h)
