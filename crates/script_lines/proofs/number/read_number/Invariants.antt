use Rattle.std.proofs.Common.{◌≡◌, ◌≤◌, drop}
use Rattle.std.specs.Str.{all_ascii_digits}
use Rattle.script_lines.proofs.NumberLemmas.{read_on}
use Rattle.script_lines.proofs.number.read_number.Given as goal

abbrev pub invariant-loop-digit : goal.invariant-loop-digit
invariant-loop-digit l = record {
  digits : all_ascii_digits l.text ≡ all_ascii_digits (drop l.digit-index l.text);
  value : read_on l.value (drop l.digit-index l.text) ≡ read_on 0 l.text;
  small : l.value ≤ 4294967295;
}
