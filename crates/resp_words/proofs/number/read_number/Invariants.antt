use Rattle.std.proofs.Common.{◌≡◌, ◌≤◌, drop}
use Rattle.resp_words.proofs.Numerals.{read_on}
use Rattle.resp_words.proofs.number.read_number.Given as goal

abbrev pub invariant-loop-digit : goal.invariant-loop-digit
invariant-loop-digit l = record {
  value : read_on l.number (drop l.digit-index l.digits) ≡ read_on 0 l.digits;
  small : l.number ≤ l.most;
}
