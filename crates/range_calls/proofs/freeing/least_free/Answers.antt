use Rattle.range_calls.specs.Store.{state_of}
use Rattle.range_calls.proofs.FreeLemmas.{first_past, first_within, none_between}
use Rattle.range_calls.proofs.freeing.least_free.Goals as goal

pub returns-in-None-clause-answer : goal.returns-in-None-clause-answer
returns-in-None-clause-answer g c = λ p commands holds within.
    none_between (state_of p commands) c.args.from c.args.last p.objects within (c.in-None.ensures p commands holds)

pub returns-then-object-last-clause-answer : goal.returns-then-object-last-clause-answer
returns-then-object-last-clause-answer g c = λ p commands holds within.
    first_within (state_of p commands) p.objects c.args.from c.args.last c.in-Some.object c.if-object-last.true (c.in-Some.ensures p commands holds)

pub returns-else-object-last-clause-answer : goal.returns-else-object-last-clause-answer
returns-else-object-last-clause-answer g c = λ p commands holds within.
    first_past (state_of p commands) p.objects c.args.from c.args.last c.in-Some.object c.if-object-last.false (c.in-Some.ensures p commands holds)
