use Rattle.std.proofs.Common.{arith}
use Rattle.std.proofs.lemmas.Grind.{common_steps}
use Rattle.std.proofs.lemmas.List.{take_all}
use Rattle.std.proofs.lemmas.Bool.Decides.{nat_tests}
use Rattle.script_lines.proofs.HexLemmas.{decoded_all, decoded_odd, decoded_step, not_decoded, split_decoded}
use Rattle.script_lines.proofs.ShortLemmas.{too_long, no_digits, some_made, none_made}
use Rattle.script_lines.proofs.hex.short_of.Goals as goal

pub returns-then-hex-gt64-clause-none : goal.returns-then-hex-gt64-clause-none
returns-then-hex-gt64-clause-none c = too_long c.args.hex.now c.if-hex-gt64.true

pub returns-in_err-byte_of-clause-none : goal.returns-in_err-byte_of-clause-none
returns-in_err-byte_of-clause-none c = rw c.from_residual.ensures
    (no_digits c.args.hex.now (not_decoded _ _ _ _ _ _ (split_decoded _ _ _ c.in-len2-up.len_at_least c.loop-rest.invariant.decoded) c.byte_of.ensures c.in_err-byte_of.was))

pub loop-rest-preserved : goal.loop-rest-preserved
loop-rest-preserved c = record {
  decoded = decoded_step _ _ _ _ _ _ _ _ _ (take_all _ _ (grind (arith, common_steps))) (split_decoded _ _ _ c.in-len2-up.len_at_least c.loop-rest.invariant.decoded)
      c.byte_of.ensures c.in_ok-byte_of.was c.push.ensures.items;
  few = let pushed = c.push.ensures.items in let fits = c.loop-rest.invariant.few in grind (arith, common_steps);
}

pub returns-then-not-is_empty-clause-none : goal.returns-then-not-is_empty-clause-none
returns-then-not-is_empty-clause-none c =
    no_digits c.args.hex.now (decoded_odd _ _ _ c.loop-rest.invariant.decoded c.in_default.len_below (λ z. grind (arith, nat_tests, c.is_empty.ensures, c.if-not-is_empty, z)))

pub returns-clause-some : goal.returns-clause-some
returns-clause-some c = some_made _ _ _ _ (decoded_all _ _ _ c.loop-rest.invariant.decoded (grind (arith, nat_tests, c.is_empty.ensures, c.if-not-is_empty))) c.as_slice.ensures.value c.new.ensures

pub returns-clause-none : goal.returns-clause-none
returns-clause-none c = none_made _ _ _ _ (decoded_all _ _ _ c.loop-rest.invariant.decoded (grind (arith, nat_tests, c.is_empty.ensures, c.if-not-is_empty))) c.as_slice.ensures.value c.new.ensures
