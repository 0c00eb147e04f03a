use Rattle.std.proofs.Common.{◌≡◌, ◌<◌, refl, sym, ap, ◌∙◌, ℕ, None, List, [], Option, arith, option_map}
use Rattle.formats.specs.declared.params.Params.{Params}
use Rattle.page_map.specs.Map.{Span, bytes_at}
use Rattle.range_calls.specs.JoinLaws.{nothing_reads}
use Rattle.range_calls.specs.ReadLaws.{makes_err, passed, refused_passed}
use Rattle.range_calls.specs.Store.{state_of}
use Rattle.running_store.specs.Taking.Ending.{Done}
use Rattle.store_engine.specs.Lists.{ending_of}
use Rattle.map_client.specs.Answers.{cause_of, or_bad}
use Rattle.map_client.specs.Ranging.{count_on}
use Rattle.map_client.specs.RangingWay.{CountIsBad}
use Rattle.map_client.proofs.RangingCountLemmas.{leaf_counted, leaf_is_bad, none_counted, way_is_bad}
use Rattle.map_client.proofs.ranging_count.count_turn.Goals as goal

pub returns-then-not-is_below-clause-reads : goal.returns-then-not-is_below-clause-reads
returns-then-not-is_below-clause-reads g c = nothing_reads g.S.Store.view (g.M.Machine.disk c.args.machine.now) c.args.store.now c.nothing_is_made.ensures.front (c.nothing_is_made.ensures.calls c.requires.unbroken)

pub returns-then-not-is_below-clause-found : goal.returns-then-not-is_below-clause-found
returns-then-not-is_below-clause-found g c = λ p commands holds.
    let span : Span = record { from = c.args.from.now; to = option_map (λ end. end.now) c.args.to } in
    none_counted c.args.map.now.lo c.args.map.now.hi (state_of p commands) span (sym c.is_below.ensures ∙ c.if-not-is_below.true)

pub returns-in_err-leaf-clause-bad : goal.returns-in_err-leaf-clause-bad
returns-in_err-leaf-clause-bad g c = λ p commands holds.
    let s = state_of p commands in
    let span : Span = record { from = c.args.from.now; to = option_map (λ end. end.now) c.args.to } in
    refused_passed c.from_residual.result c.in_err-leaf.field-0.0 (λ e. ending_of (cause_of e) ≡ Done → CountIsBad c.args.map.now.lo c.args.map.now.hi s span e)
    (passed c.from_residual.result c.in_err-leaf.field-0.0 c.from_residual.ensures.1)
    (λ done. way_is_bad c.args.map.now.lo c.args.map.now.hi s span (sym c.is_below.ensures ∙ c.if-not-is_below.false) c.in_err-leaf.field-0.0 (c.in_err-leaf.ensures.bad p commands holds done))

pub returns-in_err-count-clause-reads : goal.returns-in_err-count-clause-reads
returns-in_err-count-clause-reads g c =
    makes_err c.from_residual-in_err-count.result c.in_err-count.field-0.0 (passed c.from_residual-in_err-count.result c.in_err-count.field-0.0 c.from_residual-in_err-count.ensures.1)
    (c.reads_go_on.ensures.behind c.args.machine.now c.leaf_under.new.machine c.count_leaf.new.machine c.args.store.now c.leaf_under.new.store c.count_leaf.new.store (λ p commands. []) _ c.in_ok-leaf.ensures.reads c.in_err-count.ensures.reads)

pub returns-in_err-count-clause-bad : goal.returns-in_err-count-clause-bad
returns-in_err-count-clause-bad g c = λ p commands holds.
    let s = state_of p commands in
    let lo = c.args.map.now.lo in
    let hi = c.args.map.now.hi in
    let span : Span = record { from = c.args.from.now; to = option_map (λ end. end.now) c.args.to } in
    let leaf = c.in_ok-leaf.leaf in
    let way = c.in_ok-leaf.ensures.leaf p commands holds in
    let within = way.1.within in
    let fits = ap (λ (q : Params). q.objects) (g.S.Store.view.numbers p (g.M.Machine.disk c.args.machine.now) c.args.store.now commands holds) in
    let below : leaf.object < p.objects = omega (arith, within, c.requires.there, fits) in
    let end : Option (List ℕ) = option_map (λ v. v.items) leaf.to in
    refused_passed c.from_residual-in_err-count.result c.in_err-count.field-0.0 (λ e. ending_of (cause_of e) ≡ Done → CountIsBad lo hi s span e)
    (passed c.from_residual-in_err-count.result c.in_err-count.field-0.0 c.from_residual-in_err-count.ensures.1)
    (λ done. leaf_is_bad lo hi s span leaf.object way.0 end way.1 (sym c.is_below.ensures ∙ c.if-not-is_below.false) c.in_err-count.field-0.0
    (c.in_err-count.ensures.answer p commands (c.reads_go_on.ensures.holds p c.args.machine.now c.leaf_under.new.machine c.args.store.now c.leaf_under.new.store commands c.in_ok-leaf.ensures.reads holds) below done ∙ (λ k. or_bad leaf.object (count_on (bytes_at lo s leaf.object) span (c.end_bytes.ensures k)))))

pub returns-clause-reads : goal.returns-clause-reads
returns-clause-reads g c =
    c.reads_go_on.ensures.behind c.args.machine.now c.leaf_under.new.machine c.count_leaf.new.machine c.args.store.now c.leaf_under.new.store c.count_leaf.new.store (λ p commands. []) None c.in_ok-leaf.ensures.reads c.in_ok-count.ensures.reads

pub returns-clause-found : goal.returns-clause-found
returns-clause-found g c = λ p commands holds.
    let s = state_of p commands in
    let lo = c.args.map.now.lo in
    let hi = c.args.map.now.hi in
    let span : Span = record { from = c.args.from.now; to = option_map (λ end. end.now) c.args.to } in
    let leaf = c.in_ok-leaf.leaf in
    let way = c.in_ok-leaf.ensures.leaf p commands holds in
    let within = way.1.within in
    let fits = ap (λ (q : Params). q.objects) (g.S.Store.view.numbers p (g.M.Machine.disk c.args.machine.now) c.args.store.now commands holds) in
    let below : leaf.object < p.objects = omega (arith, within, c.requires.there, fits) in
    let end : Option (List ℕ) = option_map (λ v. v.items) leaf.to in
    leaf_counted lo hi s span leaf.object way.0 end way.1 (sym c.is_below.ensures ∙ c.if-not-is_below.false) c.in_ok-count.count
    (c.in_ok-count.ensures.answer p commands (c.reads_go_on.ensures.holds p c.args.machine.now c.leaf_under.new.machine c.args.store.now c.leaf_under.new.store commands c.in_ok-leaf.ensures.reads holds) below refl ∙ (λ k. or_bad leaf.object (count_on (bytes_at lo s leaf.object) span (c.end_bytes.ensures k))))
