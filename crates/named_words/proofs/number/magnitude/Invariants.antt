use Rattle.std.proofs.Common.{◌≡◌, ◌≤◌, ◌^◌, drop}
use Rattle.std.specs.Str.{all_ascii_digits}
use Rattle.named_words.proofs.Numerals.{read_on}
use Rattle.named_words.proofs.number.magnitude.Given as goal

abbrev pub invariant-loop-digit : goal.invariant-loop-digit
invariant-loop-digit l = record {
  digits : all_ascii_digits l.digits ≡ all_ascii_digits (drop l.digit-index l.digits);
  value : read_on l.number (drop l.digit-index l.digits) ≡ read_on 0 l.digits;
  small : l.number ≤ 2 ^ 63;
}
