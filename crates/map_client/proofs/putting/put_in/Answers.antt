use Rattle.std.proofs.Common.{◌≡◌, ap, ◌∙◌, sym, ℕ, Err, Result, List}
use Rattle.page_map.specs.Map.{bytes_at}
use Rattle.range_calls.specs.JoinLaws.{memory_is_short, object_is_there, reads_then}
use Rattle.range_calls.specs.ReadLaws.{answers_passed, makes_err, passed}
use Rattle.range_calls.specs.Store.{state_of}
use Rattle.map_client.specs.Answers.{MapErr, told}
use Rattle.map_client.specs.Reading.{put_on}
use Rattle.map_client.proofs.putting.put_in.Goals as goal

pub returns-in_err-there-clause-answer : goal.returns-in_err-there-clause-answer
returns-in_err-there-clause-answer g c = λ p commands holds below.
    let pair = c.args.pair.now in
    answers_passed c.from_residual.result c.in_err-there.field-0.0 (told (put_on pair.room c.args.leaf (bytes_at pair.map.now.lo (state_of p commands) c.args.leaf) pair.key pair.value))
    (passed c.from_residual.result c.in_err-there.field-0.0 c.from_residual.ensures.1) (λ done. absurd (c.in_err-there.ensures.failed done))

pub returns-then-not-there-clause-answer : goal.returns-then-not-there-clause-answer
returns-then-not-there-clause-answer g c = λ p commands holds below done.
    absurd (object_is_there _ p c.args.leaf (g.S.Store.view.numbers p (g.M.Machine.disk c.args.machine.now) c.args.store.now commands holds) below (sym c.if-not-there.true ∙ c.in_ok-there.ensures.there))

-- no memory for the copies
pub returns-in_err-found-clause-reads : goal.returns-in_err-found-clause-reads
returns-in_err-found-clause-reads g c =
    let e = c.in_err-found.field-0.0 in
    let r = c.from_residual-in_err-found.result in
    let failed : Result ℕ MapErr = Err e in
    makes_err r e (passed r e c.from_residual-in_err-found.ensures.1)
    (reads_then g.S.Store.view g.M.Machine.disk c.reads_run_short.ensures c.args.machine.now c.see.new.machine c.args.store.now c.see.new.store failed c.in_ok-there.ensures.reads c.in_err-found.ensures.memory)

pub returns-in_err-found-clause-answer : goal.returns-in_err-found-clause-answer
returns-in_err-found-clause-answer g c = λ p commands holds below.
    let pair = c.args.pair.now in
    let e = c.in_err-found.field-0.0 in
    let r = c.from_residual-in_err-found.result in
    answers_passed r e (told (put_on pair.room c.args.leaf (bytes_at pair.map.now.lo (state_of p commands) c.args.leaf) pair.key pair.value))
    (passed r e c.from_residual-in_err-found.ensures.1) (λ done. absurd (memory_is_short e c.in_err-found.ensures.memory done))

-- what the leaf's bytes say
pub returns-in-Ok-clause-answer : goal.returns-in-Ok-clause-answer
returns-in-Ok-clause-answer g c = λ p commands holds below done.
    let pair = c.args.pair.now in
    let value : c.get.result.now ≡ state_of p commands c.args.leaf = c.get.ensures.value ∙ c.in_ok-there.ensures.value p commands holds c.if-not-there.false in
    let bytes : c.bytes.result.now ≡ bytes_at pair.map.now.lo (state_of p commands) c.args.leaf = c.bytes.ensures (state_of p commands) (sym value) in
    ap told (sym c.in-Ok.is ∙ c.in_ok-found.ensures.value ∙ ap (λ (l : List ℕ). put_on pair.room c.args.leaf l pair.key pair.value) bytes)

pub returns-in-Err-clause-answer : goal.returns-in-Err-clause-answer
returns-in-Err-clause-answer g c = λ p commands holds below done.
    let pair = c.args.pair.now in
    let value : c.get.result.now ≡ state_of p commands c.args.leaf = c.get.ensures.value ∙ c.in_ok-there.ensures.value p commands holds c.if-not-there.false in
    let bytes : c.bytes.result.now ≡ bytes_at pair.map.now.lo (state_of p commands) c.args.leaf = c.bytes.ensures (state_of p commands) (sym value) in
    ap told (sym c.in-Err.is ∙ c.in_ok-found.ensures.value ∙ ap (λ (l : List ℕ). put_on pair.room c.args.leaf l pair.key pair.value) bytes)
