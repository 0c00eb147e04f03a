use Rattle.std.proofs.Common.{◌∙◌, [], arith}
use Rattle.shell_base.specs.Store.{state_of}
use Rattle.store_words.proofs.DumpLemmas.{row_of_value}
use Rattle.store_words.proofs.dumping.push_object.Goals as goal

pub returns-in_ok-push_row-clause-row : goal.returns-in_ok-push_row-clause-row
returns-in_ok-push_row-clause-row g c = λ p commands holds below.
    let there = c.in_ok-fetched.ensures.value p commands holds c.if-branch.true in
    row_of_value (state_of p commands) c.args.object c.args.table.now.items c.get.result.now c.push_row.new.table.items c.in_ok-push_row.ensures (c.get.ensures.value [] ∙ there.1 [])

pub returns-in_ok-push_row-clause-holds : goal.returns-in_ok-push_row-clause-holds
returns-in_ok-push_row-clause-holds g c = λ p commands holds. let kept = c.in_ok-fetched.ensures.holds p commands holds in kept.0.holds

pub returns-else-branch-clause-row : goal.returns-else-branch-clause-row
returns-else-branch-clause-row g c = λ p commands holds below. absurd (omega (arith, below, c.in_ok-fetched.ensures.none p commands holds c.if-branch.false))

pub returns-else-branch-clause-holds : goal.returns-else-branch-clause-holds
returns-else-branch-clause-holds g c = λ p commands holds. let kept = c.in_ok-fetched.ensures.holds p commands holds in kept.0.holds
