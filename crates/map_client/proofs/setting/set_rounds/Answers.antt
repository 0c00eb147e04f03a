use Rattle.std.proofs.Common.{◌<◌, ◌+◌, ◌*◌, refl, sym, ap, ◌∙◌, subst, arith}
use Rattle.formats.specs.Objects.{bounds_of}
use Rattle.formats.specs.declared.params.Params.{Params}
use Rattle.call_plans.specs.Plan.{Plan, refused_by}
use Rattle.page_map.specs.Map.{bytes_at}
use Rattle.page_map.specs.Sets.{set_turn}
use Rattle.page_map.specs.declared.refusal.MapRefusal.TheVariants.{BadMap}
use Rattle.range_calls.specs.ComesLaws.{comes_read, comes_refused}
use Rattle.range_calls.specs.ReadLaws.{passed}
use Rattle.range_calls.specs.Rounds.{in_rounds}
use Rattle.range_calls.specs.Store.{Command, state_of}
use Rattle.map_client.specs.Answers.{MapErr}
use Rattle.map_client.specs.Changing.{set_made}
use Rattle.map_client.specs.Reading.{level_of}
use Rattle.map_client.specs.Turning.{IsReady, round_of}
use Rattle.map_client.proofs.SetLemmas.{bad_turn, ready_in, refused_made, rounds_made}
use Rattle.map_client.proofs.WalkLemmas.{begins_bad, was_read}
use Rattle.map_client.proofs.setting.set_rounds.Goals as goal

pub returns-in_err-level : goal.returns-in_err-level
returns-in_err-level g c =
    let pair = c.args.pair.now in
    let lo = pair.map.now.lo in
    let hi = pair.map.now.hi in
    let e = c.in_err-level.field-0.0 in
    comes_refused g.S.Store.view (set_made lo hi pair.key pair.value) c.from_residual.result e (passed c.from_residual.result e c.from_residual.ensures.1) c.in_err-level.ensures.reads
    (λ p commands holds done.
    let s = state_of p commands in
    let ready = ready_in (g.S.Store.view.numbers p (g.M.Machine.disk c.args.machine.now) c.args.store.now commands holds) c.requires.ready in
    let below : lo < p.objects = omega (arith, c.last-last.ensures.value, c.last-last.ensures.order, ready.there) in
    let bad = bad_turn (bounds_of p) lo hi pair.key pair.value s ready.short e (begins_bad lo hi s pair.key e (c.in_err-level.ensures.answer p commands holds below done)) in
    refused_made lo hi pair.key pair.value p commands (BadMap bad.0) bad.1 ∙ ap (λ (x : MapErr). (let q : Plan Command MapErr = refused_by x in q)) (sym bad.2))

pub take_rounds-requires-clause-there : goal.take_rounds-requires-clause-there
take_rounds-requires-clause-there g c =
    let pair = c.args.pair.now in
    subst (λ (q : Params). IsReady pair.map.now.hi pair.room pair.key pair.value q) (sym (c.in_ok-level.ensures.reads.calls.params)) c.requires.ready

pub returns : goal.returns
returns g c =
    let pair = c.args.pair.now in
    let lo = pair.map.now.lo in
    let hi = pair.map.now.hi in
    let level = c.in_ok-level.level in
    comes_read g.S.Store.view g.M.Machine.disk c.calls_go_on.ensures c.args.machine.now c.root_level.new.machine c.take_rounds.new.machine c.args.store.now c.root_level.new.store c.take_rounds.new.store
    (in_rounds (λ b s. round_of (set_turn b lo hi pair.key pair.value s)) (2 * level + 3)) (set_made lo hi pair.key pair.value) c.take_rounds.result c.in_ok-level.ensures.reads
    (λ p commands holds.
    let s = state_of p commands in
    let ready = ready_in (g.S.Store.view.numbers p (g.M.Machine.disk c.args.machine.now) c.args.store.now commands holds) c.requires.ready in
    let below : lo < p.objects = omega (arith, c.last-last.ensures.value, c.last-last.ensures.order, ready.there) in
    rounds_made lo hi pair.key pair.value p commands level (was_read lo (level_of (bytes_at lo s lo)) level (c.in_ok-level.ensures.answer p commands holds below refl)))
    c.take_rounds.ensures
