use Rattle.std.proofs.Common.{◌<◌, ◌+◌, refl, sym, ap, subst, arith}
use Rattle.formats.specs.declared.params.Params.{Params}
use Rattle.page_map.specs.Deletes.{tidy_turn}
use Rattle.page_map.specs.Map.{bytes_at}
use Rattle.range_calls.specs.ComesLaws.{comes_read, comes_refused}
use Rattle.range_calls.specs.ReadLaws.{passed}
use Rattle.range_calls.specs.Rounds.{in_rounds}
use Rattle.range_calls.specs.Store.{state_of}
use Rattle.map_client.specs.Changing.{tidy_made}
use Rattle.map_client.specs.Reading.{level_of}
use Rattle.map_client.specs.Turning.{tidy_round}
use Rattle.map_client.proofs.TidyLemmas.{rounds_made, shut_made}
use Rattle.map_client.proofs.WalkLemmas.{was_read}
use Rattle.map_client.proofs.deleting.tidy.Goals as goal

pub returns-in_err-level : goal.returns-in_err-level
returns-in_err-level g c =
    let way = c.args.way.now in
    let lo = way.map.now.lo in
    let hi = way.map.now.hi in
    let e = c.in_err-level.field-0.0 in
    comes_refused g.S.Store.view (tidy_made lo hi way.key.now) c.from_residual.result e (passed c.from_residual.result e c.from_residual.ensures.1) c.in_err-level.ensures.reads
    (λ p commands holds done.
    let fits = ap (λ (q : Params). q.objects) (g.S.Store.view.numbers p (g.M.Machine.disk c.args.machine.now) c.args.store.now commands holds) in
    let below : lo < p.objects = omega (arith, c.last-last.ensures.value, c.last-last.ensures.order, c.requires.there, fits) in
    shut_made lo hi way.key.now p commands e (c.in_err-level.ensures.answer p commands holds below done))

pub take_rounds-requires-clause-there : goal.take_rounds-requires-clause-there
take_rounds-requires-clause-there g c = subst (λ (q : Params). c.args.way.now.map.now.hi < q.objects) (sym (c.in_ok-level.ensures.reads.calls.params)) c.requires.there

pub returns : goal.returns
returns g c =
    let way = c.args.way.now in
    let lo = way.map.now.lo in
    let hi = way.map.now.hi in
    let level = c.in_ok-level.level in
    comes_read g.S.Store.view g.M.Machine.disk c.calls_go_on.ensures c.args.machine.now c.root_level.new.machine c.take_rounds.new.machine c.args.store.now c.root_level.new.store c.take_rounds.new.store
    (in_rounds (λ b s. tidy_round (tidy_turn lo hi s way.key.now)) (level + 2)) (tidy_made lo hi way.key.now) c.take_rounds.result c.in_ok-level.ensures.reads
    (λ p commands holds.
    let s = state_of p commands in
    let fits = ap (λ (q : Params). q.objects) (g.S.Store.view.numbers p (g.M.Machine.disk c.args.machine.now) c.args.store.now commands holds) in
    let below : lo < p.objects = omega (arith, c.last-last.ensures.value, c.last-last.ensures.order, c.requires.there, fits) in
    rounds_made lo hi way.key.now p commands level (was_read lo (level_of (bytes_at lo s lo)) level (c.in_ok-level.ensures.answer p commands holds below refl)))
    c.take_rounds.ensures
