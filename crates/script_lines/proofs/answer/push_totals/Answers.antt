use Rattle.std.proofs.Common.{arith}
use Rattle.script_lines.proofs.ReplyLemmas.{totals_said}
use Rattle.script_lines.proofs.answer.push_totals.Goals as goal

pub returns : goal.returns
returns c = totals_said c.args.totals.now _ _ _ _ _ _ _ _ _ (omega (arith, c.from.ensures)) c.in_ok-push_counted.ensures c.in_ok-push_counted-2.ensures c.in_ok-push_counted-3.ensures
    c.in_ok-push_counted-4.ensures c.in_ok-push_counted-5.ensures c.in_ok-push_counted-6.ensures c.in_ok-push_counted-7.ensures
