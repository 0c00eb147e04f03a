use Rattle.std.proofs.Common.{◌≡◌, ap, ◌∙◌, sym, List, ℕ, Option, option_map}
use Rattle.page_map.specs.Map.{Span, bytes_at}
use Rattle.range_calls.specs.JoinLaws.{object_is_there}
use Rattle.range_calls.specs.ReadLaws.{answers_passed, passed}
use Rattle.range_calls.specs.Store.{state_of}
use Rattle.map_client.specs.Answers.{or_bad}
use Rattle.map_client.specs.Ranging.{count_on}
use Rattle.map_client.proofs.ranging_count.count_leaf.Goals as goal

pub returns-in_err-there-clause-answer : goal.returns-in_err-there-clause-answer
returns-in_err-there-clause-answer g c = λ p commands holds below.
    let span : Span = record { from = c.args.from.now; to = option_map (λ end. end.now) c.args.to } in
    let end : Option (List ℕ) = option_map (λ end. end.now) c.args.end in
    answers_passed c.from_residual.result c.in_err-there.field-0.0 (or_bad c.args.object (count_on (bytes_at c.args.map.now.lo (state_of p commands) c.args.object) span end))
    (passed c.from_residual.result c.in_err-there.field-0.0 c.from_residual.ensures.1) (λ done. absurd (c.in_err-there.ensures.failed done))

pub returns-then-not-there-clause-answer : goal.returns-then-not-there-clause-answer
returns-then-not-there-clause-answer g c = λ p commands holds below done.
    absurd (object_is_there _ p c.args.object (g.S.Store.view.numbers p (g.M.Machine.disk c.args.machine.now) c.args.store.now commands holds) below (sym c.if-not-there.true ∙ c.in_ok-there.ensures.there))

-- what the object's bytes say
pub returns-in-Some-clause-answer : goal.returns-in-Some-clause-answer
returns-in-Some-clause-answer g c = λ p commands holds below done.
    let span : Span = record { from = c.args.from.now; to = option_map (λ end. end.now) c.args.to } in
    let end : Option (List ℕ) = option_map (λ end. end.now) c.args.end in
    let value : c.get.result.now ≡ state_of p commands c.args.object = c.get.ensures.value ∙ c.in_ok-there.ensures.value p commands holds c.if-not-there.false in
    let bytes : c.bytes.result.now ≡ bytes_at c.args.map.now.lo (state_of p commands) c.args.object = c.bytes.ensures (state_of p commands) (sym value) in
    ap (or_bad c.args.object) (c.in-Some.ensures.value ∙ ap (λ (l : List ℕ). count_on l span end) bytes)

pub returns-in-None-clause-answer : goal.returns-in-None-clause-answer
returns-in-None-clause-answer g c = λ p commands holds below done.
    let span : Span = record { from = c.args.from.now; to = option_map (λ end. end.now) c.args.to } in
    let end : Option (List ℕ) = option_map (λ end. end.now) c.args.end in
    let value : c.get.result.now ≡ state_of p commands c.args.object = c.get.ensures.value ∙ c.in_ok-there.ensures.value p commands holds c.if-not-there.false in
    let bytes : c.bytes.result.now ≡ bytes_at c.args.map.now.lo (state_of p commands) c.args.object = c.bytes.ensures (state_of p commands) (sym value) in
    ap (or_bad c.args.object) (c.in-None.ensures.value ∙ ap (λ (l : List ℕ). count_on l span end) bytes)
