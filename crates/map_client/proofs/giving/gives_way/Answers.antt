use Rattle.std.proofs.Common.{◌<◌, ap, ◌∙◌, sym, subst, List, Result, Ok, map, arith}
use Rattle.op_codec.specs.AllOps.{page}
use Rattle.page_map.specs.Deletes.{gives_way}
use Rattle.page_map.specs.declared.beside.Beside.{Beside}
use Rattle.range_calls.specs.JoinLaws.{nothing_reads}
use Rattle.range_calls.specs.Store.{Command, state_of}
use Rattle.map_client.specs.Answers.{MapErr}
use Rattle.map_client.specs.Tidying.{StandsIn, leaf_at, stored}
use Rattle.map_client.proofs.giving.gives_way.Goals as goal

pub returns-in-Only-clause-reads : goal.returns-in-Only-clause-reads
returns-in-Only-clause-reads g c =
    nothing_reads g.S.Store.view (g.M.Machine.disk c.args.machine.now) c.args.store.now c.nothing_is_made.ensures.front (c.nothing_is_made.ensures.calls c.requires.unbroken)

pub returns-in-Only-clause-answer : goal.returns-in-Only-clause-answer
returns-in-Only-clause-answer g c = λ p commands holds within stands done.
    let way = c.args.way.now in
    let found = c.args.found.now in
    ap (λ (l : List Command). (let r : Result (List Command) MapErr = Ok l in r)) c.new.ensures
    ∙ sym (ap (λ (b : Beside). stored (gives_way way.map.now.lo way.map.now.hi (state_of p commands) found.above (leaf_at found.place found.leaf.object found.from.items) b)) c.in-Only.is)

pub returns-in-Next-clause-reads : goal.returns-in-Next-clause-reads
returns-in-Next-clause-reads g c =
    nothing_reads g.S.Store.view (g.M.Machine.disk c.args.machine.now) c.args.store.now c.nothing_is_made.ensures.front (c.nothing_is_made.ensures.calls c.requires.unbroken)

pub returns-in-Next-clause-answer : goal.returns-in-Next-clause-answer
returns-in-Next-clause-answer g c = λ p commands holds within stands done.
    let way = c.args.way.now in
    let found = c.args.found.now in
    ap (λ (l : List Command). (let r : Result (List Command) MapErr = Ok l in r)) (c.both_stored.ensures ∙ ap (map page) c.takes_both.ensures)
    ∙ sym (ap (λ (b : Beside). stored (gives_way way.map.now.lo way.map.now.hi (state_of p commands) found.above (leaf_at found.place found.leaf.object found.from.items) b)) c.in-Next.is)

pub returns-in-Before-clause-reads : goal.returns-in-Before-clause-reads
returns-in-Before-clause-reads g c = c.other_takes.ensures.reads

pub returns-in-Before-clause-answer : goal.returns-in-Before-clause-answer
returns-in-Before-clause-answer g c = λ p commands holds within stands done.
    let way = c.args.way.now in
    let found = c.args.found.now in
    let inside = subst (StandsIn way.map.now.hi) c.in-Before.is stands in
    let below : c.in-Before.object < p.objects = omega (arith, inside, within) in
    c.other_takes.ensures.answer p commands holds below done
    ∙ sym (ap (λ (b : Beside). stored (gives_way way.map.now.lo way.map.now.hi (state_of p commands) found.above (leaf_at found.place found.leaf.object found.from.items) b)) c.in-Before.is)
