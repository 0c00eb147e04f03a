use Rattle.std.proofs.Common.{◌≡◌, ◌<◌, sym, ap, ◌∙◌, None, [], option_map, arith}
use Rattle.formats.specs.declared.params.Params.{Params}
use Rattle.page_map.specs.Map.{Span}
use Rattle.range_calls.specs.JoinLaws.{nothing_reads}
use Rattle.range_calls.specs.ReadLaws.{makes_err, passed, refused_passed}
use Rattle.range_calls.specs.Store.{state_of}
use Rattle.running_store.specs.Taking.Ending.{Done}
use Rattle.store_engine.specs.Lists.{ending_of}
use Rattle.map_client.specs.Answers.{cause_of}
use Rattle.map_client.specs.RangingWay.{RangeIsBad}
use Rattle.map_client.proofs.RangingPairsLemmas.{range_ends, range_gathered, range_leaf_bad, range_way_bad}
use Rattle.map_client.proofs.ranging_rise.range_turn.Goals as goal

pub returns-then-not-is_more-clause-reads : goal.returns-then-not-is_more-clause-reads
returns-then-not-is_more-clause-reads g c = nothing_reads g.S.Store.view (g.M.Machine.disk c.args.machine.now) c.args.store.now c.nothing_is_made.ensures.front (c.nothing_is_made.ensures.calls c.requires.unbroken)

pub returns-then-not-is_more-clause-found : goal.returns-then-not-is_more-clause-found
returns-then-not-is_more-clause-found g c = λ p commands holds.
    let span : Span = record { from = c.args.from.now; to = option_map (λ end. end.now) c.args.to } in
    range_ends c.args.map.now.lo c.args.map.now.hi (state_of p commands) span c.args.gathered.now.left (sym c.is_more.ensures ∙ c.if-not-is_more.true) c.args.gathered.now.pairs.items

pub returns-in_err-leaf-clause-bad : goal.returns-in_err-leaf-clause-bad
returns-in_err-leaf-clause-bad g c = λ p commands holds.
    let s = state_of p commands in
    let span : Span = record { from = c.args.from.now; to = option_map (λ end. end.now) c.args.to } in
    refused_passed c.from_residual.result c.in_err-leaf.field-0.0 (λ e. ending_of (cause_of e) ≡ Done → RangeIsBad c.args.map.now.lo c.args.map.now.hi s span c.args.gathered.now.left e)
    (passed c.from_residual.result c.in_err-leaf.field-0.0 c.from_residual.ensures.1)
    (λ done. range_way_bad c.args.map.now.lo c.args.map.now.hi s span c.args.gathered.now.left (sym c.is_more.ensures ∙ c.if-not-is_more.false) c.in_err-leaf.field-0.0 (c.in_err-leaf.ensures.bad p commands holds done))

pub returns-in_err-gather_leaf-clause-reads : goal.returns-in_err-gather_leaf-clause-reads
returns-in_err-gather_leaf-clause-reads g c =
    makes_err c.from_residual-in_err-gather_leaf.result c.in_err-gather_leaf.field-0.0 (passed c.from_residual-in_err-gather_leaf.result c.in_err-gather_leaf.field-0.0 c.from_residual-in_err-gather_leaf.ensures.1)
    (c.reads_go_on.ensures.behind c.args.machine.now c.leaf_under.new.machine c.gather_leaf.new.machine c.args.store.now c.leaf_under.new.store c.gather_leaf.new.store (λ p commands. []) _ c.in_ok-leaf.ensures.reads c.in_err-gather_leaf.ensures.reads)

pub returns-in_err-gather_leaf-clause-bad : goal.returns-in_err-gather_leaf-clause-bad
returns-in_err-gather_leaf-clause-bad g c = λ p commands holds.
    let s = state_of p commands in
    let lo = c.args.map.now.lo in
    let hi = c.args.map.now.hi in
    let span : Span = record { from = c.args.from.now; to = option_map (λ end. end.now) c.args.to } in
    let way = c.in_ok-leaf.ensures.leaf p commands holds in
    let within = way.1.within in
    let own : Span = record { from = way.0; to = option_map (λ v. v.items) c.in_ok-leaf.leaf.to } in
    let fits = ap (λ (q : Params). q.objects) (g.S.Store.view.numbers p (g.M.Machine.disk c.args.machine.now) c.args.store.now commands holds) in
    let below : c.in_ok-leaf.leaf.object < p.objects = omega (arith, within, c.requires.there, fits) in
    refused_passed c.from_residual-in_err-gather_leaf.result c.in_err-gather_leaf.field-0.0 (λ e. ending_of (cause_of e) ≡ Done → RangeIsBad lo hi s span c.args.gathered.now.left e)
    (passed c.from_residual-in_err-gather_leaf.result c.in_err-gather_leaf.field-0.0 c.from_residual-in_err-gather_leaf.ensures.1)
    (λ done. range_leaf_bad lo hi s span c.args.gathered.now.left c.in_ok-leaf.leaf.object own way.1 (sym c.is_more.ensures ∙ c.if-not-is_more.false) c.args.gathered.now.pairs.items c.in_err-gather_leaf.field-0.0
    (c.in_err-gather_leaf.ensures.bad p commands (c.reads_go_on.ensures.holds p c.args.machine.now c.leaf_under.new.machine c.args.store.now c.leaf_under.new.store commands c.in_ok-leaf.ensures.reads holds) below done))

pub returns-clause-reads : goal.returns-clause-reads
returns-clause-reads g c =
    c.reads_go_on.ensures.behind c.args.machine.now c.leaf_under.new.machine c.gather_leaf.new.machine c.args.store.now c.leaf_under.new.store c.gather_leaf.new.store (λ p commands. []) None c.in_ok-leaf.ensures.reads c.in_ok-gather_leaf.ensures.reads

pub returns-clause-found : goal.returns-clause-found
returns-clause-found g c = λ p commands holds.
    let span : Span = record { from = c.args.from.now; to = option_map (λ end. end.now) c.args.to } in
    let way = c.in_ok-leaf.ensures.leaf p commands holds in
    let own : Span = record { from = way.0; to = option_map (λ v. v.items) c.in_ok-leaf.leaf.to } in
    range_gathered c.args.map.now.lo c.args.map.now.hi (state_of p commands) span c.args.gathered.now.left c.in_ok-leaf.leaf.object own way.1 (sym c.is_more.ensures ∙ c.if-not-is_more.false) c.args.gathered.now.pairs.items
    c.gather_leaf.new.gathered.pairs.items c.gather_leaf.new.gathered.left (c.in_ok-gather_leaf.ensures.pairs p commands (c.reads_go_on.ensures.holds p c.args.machine.now c.leaf_under.new.machine c.args.store.now c.leaf_under.new.store commands c.in_ok-leaf.ensures.reads holds))
