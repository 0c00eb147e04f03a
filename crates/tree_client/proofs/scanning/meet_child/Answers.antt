use Rattle.range_calls.specs.JoinLaws.{nothing_reads}
use Rattle.range_calls.specs.Store.{state_of}
use Rattle.tree_client.proofs.ScanLemmas.{asked_bad, asked_goes, if_err, lighter_without, on_ok, passed_goes}
use Rattle.tree_client.proofs.scanning.meet_child.Goals as goal

pub returns-then-is_below-clause-ok : goal.returns-then-is_below-clause-ok
returns-then-is_below-clause-ok g c = λ p commands holds below within.
    on_ok c.meet.result (asked_goes c.args.tree.now.lo c.args.tree.now.hi (state_of p commands) c.args.depth c.args.child c.args.from c.args.to c.args.scan.now.parts.items c.args.scan.now.pairs.items c.meet.new.scan.parts.items c.meet.new.scan.pairs.items c.if-is_below.ensures)
    (c.meet.ensures.ok p commands holds below within)

pub returns-then-is_below-clause-bad : goal.returns-then-is_below-clause-bad
returns-then-is_below-clause-bad g c = λ p commands holds below.
    if_err c.meet.result (λ e bad done. asked_bad c.args.tree.now.lo c.args.tree.now.hi (state_of p commands) c.args.depth c.args.child c.args.from c.args.to e c.if-is_below.ensures (bad done)) (c.meet.ensures.bad p commands holds below)

pub returns-clause-reads : goal.returns-clause-reads
returns-clause-reads g c = nothing_reads g.S.Store.view (g.M.Machine.disk c.args.machine.now) c.args.store.now c.nothing_is_made.ensures.front (c.nothing_is_made.ensures.calls c.requires.unbroken)

pub returns-clause-ok : goal.returns-clause-ok
returns-clause-ok g c = λ p commands holds below within. passed_goes c.args.tree.now.lo c.args.tree.now.hi (state_of p commands) c.args.depth c.args.child c.args.from c.args.to c.args.scan.now.parts.items c.args.scan.now.pairs.items c.if-is_below.ensures within

pub returns-clause-lighter : goal.returns-clause-lighter
returns-clause-lighter g c = lighter_without c.args.scan.now.parts.items c.args.depth
