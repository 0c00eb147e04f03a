use Rattle.std.proofs.Common.{◌≡◌, sym, ◌∙◌, subst, ℕ, List, Option, None, Some, option_map}
use Rattle.std.specs.Prelude.{OnOk}
use Rattle.page_ops.specs.Page.{Cell}
use Rattle.page_map.specs.Map.{Span, bytes_at}
use Rattle.range_calls.specs.JoinLaws.{object_is_there}
use Rattle.range_calls.specs.ReadLaws.{passed, refused_passed}
use Rattle.range_calls.specs.Store.{state_of}
use Rattle.running_store.specs.Taking.Ending.{Done}
use Rattle.store_engine.specs.Lists.{ending_of}
use Rattle.map_client.specs.Answers.{bad_map, cause_of}
use Rattle.map_client.specs.Ranging.{pairs_on}
use Rattle.map_client.proofs.RangingPairsLemmas.{lacks_same, reads_or_fails}
use Rattle.map_client.proofs.ranging_pairs.gather_leaf.Goals as goal

pub returns-in_err-there-clause-bad : goal.returns-in_err-there-clause-bad
returns-in_err-there-clause-bad g c = λ p commands holds below.
    let span : Span = record { from = c.args.from.now; to = option_map (λ end. end.now) c.args.to } in
    let end : Option (List ℕ) = option_map (λ v. v.items) c.args.leaf.now.to in
    refused_passed c.from_residual.result c.in_err-there.field-0.0
    (λ e. ending_of (cause_of e) ≡ Done → (pairs_on c.args.order (bytes_at c.args.map.now.lo (state_of p commands) c.args.leaf.now.object) span end c.args.gathered.now.pairs.items c.args.gathered.now.left ≡ None)
    × (e ≡ bad_map c.args.leaf.now.object))
    (passed c.from_residual.result c.in_err-there.field-0.0 c.from_residual.ensures.1) (λ done. absurd (c.in_err-there.ensures.failed done))

pub returns-then-not-there-clause-bad : goal.returns-then-not-there-clause-bad
returns-then-not-there-clause-bad g c = λ p commands holds below done.
    absurd (object_is_there _ p c.args.leaf.now.object (g.S.Store.view.numbers p (g.M.Machine.disk c.args.machine.now) c.args.store.now commands holds) below (sym c.if-not-there.true ∙ c.in_ok-there.ensures.there))

pub returns-clause-reads : goal.returns-clause-reads
returns-clause-reads g c =
    let span : Span = record { from = c.args.from.now; to = option_map (λ end. end.now) c.args.to } in
    let lacks : Type 0 = pairs_on c.args.order c.bytes.result.now span (option_map (λ end. end.now) c.end_bytes.result) c.args.gathered.now.pairs.items c.args.gathered.now.left ≡ None in
    reads_or_fails g.S.Store.view lacks g.M.Machine.disk c.reads_run_short.ensures c.args.machine.now c.see.new.machine c.args.store.now c.see.new.store c.args.leaf.now.object c.gather.result c.in_ok-there.ensures.reads c.gather.ensures.fails

-- what the object's bytes say
pub returns-clause-pairs : goal.returns-clause-pairs
returns-clause-pairs g c = λ p commands holds.
    let span : Span = record { from = c.args.from.now; to = option_map (λ end. end.now) c.args.to } in
    let value : c.get.result.now ≡ state_of p commands c.args.leaf.now.object = c.get.ensures.value ∙ c.in_ok-there.ensures.value p commands holds c.if-not-there.false in
    let bytes : c.bytes.result.now ≡ bytes_at c.args.map.now.lo (state_of p commands) c.args.leaf.now.object = c.bytes.ensures (state_of p commands) (sym value) in
    subst (λ (o : Option (List Cell × ℕ)). OnOk c.gather.result (o ≡ Some (c.gather.new.gathered.pairs.items, c.gather.new.gathered.left)))
    (λ k. pairs_on c.args.order (bytes k) span (c.end_bytes.ensures k) c.args.gathered.now.pairs.items c.args.gathered.now.left) c.gather.ensures.pairs

pub returns-clause-bad : goal.returns-clause-bad
returns-clause-bad g c = λ p commands holds below.
    let span : Span = record { from = c.args.from.now; to = option_map (λ end. end.now) c.args.to } in
    let end : Option (List ℕ) = option_map (λ v. v.items) c.args.leaf.now.to in
    let others = c.args.gathered.now.pairs.items in
    let most = c.args.gathered.now.left in
    let value : c.get.result.now ≡ state_of p commands c.args.leaf.now.object = c.get.ensures.value ∙ c.in_ok-there.ensures.value p commands holds c.if-not-there.false in
    let bytes : c.bytes.result.now ≡ bytes_at c.args.map.now.lo (state_of p commands) c.args.leaf.now.object = c.bytes.ensures (state_of p commands) (sym value) in
    let same : pairs_on c.args.order c.bytes.result.now span (option_map (λ end. end.now) c.end_bytes.result) others most
    ≡ pairs_on c.args.order (bytes_at c.args.map.now.lo (state_of p commands) c.args.leaf.now.object) span end others most =
    λ k. pairs_on c.args.order (bytes k) span (c.end_bytes.ensures k) others most in
    lacks_same c.args.leaf.now.object c.gather.result (pairs_on c.args.order c.bytes.result.now span (option_map (λ end. end.now) c.end_bytes.result) others most)
    (pairs_on c.args.order (bytes_at c.args.map.now.lo (state_of p commands) c.args.leaf.now.object) span end others most) same c.gather.ensures.fails
