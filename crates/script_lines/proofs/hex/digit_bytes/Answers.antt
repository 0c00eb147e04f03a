use Rattle.std.proofs.Common.{arith}
use Rattle.std.proofs.lemmas.Grind.{common_steps}
use Rattle.std.proofs.lemmas.List.{take_all}
use Rattle.std.proofs.lemmas.Bool.Decides.{nat_tests}
use Rattle.script_lines.proofs.HexLemmas.{decoded_all, decoded_odd, decoded_step, not_decoded, split_decoded}
use Rattle.script_lines.proofs.hex.digit_bytes.Goals as goal

pub returns-in_default-byte_of-clause-none : goal.returns-in_default-byte_of-clause-none
returns-in_default-byte_of-clause-none c = not_decoded _ _ _ _ _ _ (split_decoded _ _ _ c.in-len2-up.len_at_least c.loop-rest.invariant) c.byte_of.ensures c.in_default-byte_of.is

pub loop-rest-preserved : goal.loop-rest-preserved
loop-rest-preserved c = decoded_step _ _ _ _ _ _ _ _ _ (take_all _ _ (grind (arith, common_steps))) (split_decoded _ _ _ c.in-len2-up.len_at_least c.loop-rest.invariant)
    c.byte_of.ensures c.in-Some.is c.in_ok-push.ensures.items

pub returns-then-not-is_empty-clause-none : goal.returns-then-not-is_empty-clause-none
returns-then-not-is_empty-clause-none c = decoded_odd _ _ _ c.loop-rest.invariant c.in_default.len_below (λ z. grind (arith, nat_tests, c.is_empty.ensures, c.if-not-is_empty, z))

pub returns-clause-some : goal.returns-clause-some
returns-clause-some c = decoded_all _ _ _ c.loop-rest.invariant (grind (arith, nat_tests, c.is_empty.ensures, c.if-not-is_empty))
