use Rattle.std.proofs.Common.{ap, ◌∙◌, ℕ, List, Result, Err}
use Rattle.formats.specs.Objects.{bounds_of}
use Rattle.range_calls.specs.JoinLaws.{memory_is_short, nothing_reads, reads_then}
use Rattle.range_calls.specs.ReadLaws.{answers_passed, makes_err, passed}
use Rattle.range_calls.specs.Store.{state_of}
use Rattle.map_client.specs.Answers.{MapErr}
use Rattle.named_objects.specs.Answers.{find_told, object_told}
use Rattle.named_objects.proofs.finding.find.Goals as goal

pub returns-in_err-key-clause-reads : goal.returns-in_err-key-clause-reads
returns-in_err-key-clause-reads g c =
    let e = c.in_err-key.field-0.0 in
    let failed : Result ℕ MapErr = Err e in
    makes_err c.from_residual.result e (passed c.from_residual.result e c.from_residual.ensures.1)
    (reads_then g.S.Store.view g.M.Machine.disk c.reads_run_short.ensures c.args.machine.now c.args.machine.now c.args.store.now c.args.store.now failed
    (nothing_reads g.S.Store.view (g.M.Machine.disk c.args.machine.now) c.args.store.now c.nothing_is_made.ensures.front (c.nothing_is_made.ensures.calls c.requires.unbroken)) c.in_err-key.ensures.memory)

pub returns-in_err-key-clause-answer : goal.returns-in_err-key-clause-answer
returns-in_err-key-clause-answer g c = λ p commands holds.
    let e = c.in_err-key.field-0.0 in
    answers_passed c.from_residual.result e (find_told (bounds_of p) c.args.map.now.lo c.args.map.now.hi (state_of p commands) c.args.name.now)
    (passed c.from_residual.result e c.from_residual.ensures.1) (λ done. absurd (memory_is_short e c.in_err-key.ensures.memory done))

pub returns-clause-answer : goal.returns-clause-answer
returns-clause-answer g c = λ p commands holds done.
    c.object_at.ensures.answer p commands holds done
    ∙ ap (λ (key : List ℕ). object_told (bounds_of p) c.args.map.now.lo c.args.map.now.hi (state_of p commands) key) (c.as_slice.ensures.value ∙ c.in_ok-key.ensures.value)
