use Rattle.std.proofs.Common.{ap, ◌∙◌, ℕ, List, Result, Err}
use Rattle.range_calls.specs.ComesLaws.{comes_as, comes_refused}
use Rattle.range_calls.specs.JoinLaws.{memory_is_short, nothing_reads, reads_then}
use Rattle.range_calls.specs.ReadLaws.{passed}
use Rattle.map_client.specs.Answers.{MapErr}
use Rattle.map_client.specs.Changing.{delete_comes}
use Rattle.named_objects.specs.Giving.{take_comes}
use Rattle.named_objects.proofs.taking.take.Goals as goal

pub returns-in_err-key : goal.returns-in_err-key
returns-in_err-key g c =
    let e = c.in_err-key.field-0.0 in
    let failed : Result ℕ MapErr = Err e in
    comes_refused g.S.Store.view (take_comes c.args.map.now.lo c.args.map.now.hi c.args.name.now) c.from_residual.result e (passed c.from_residual.result e c.from_residual.ensures.1)
    (reads_then g.S.Store.view g.M.Machine.disk c.reads_run_short.ensures c.args.machine.now c.args.machine.now c.args.store.now c.args.store.now failed
    (nothing_reads g.S.Store.view (g.M.Machine.disk c.args.machine.now) c.args.store.now c.nothing_is_made.ensures.front (c.nothing_is_made.ensures.calls c.requires.unbroken)) c.in_err-key.ensures.memory)
    (λ p commands holds done. absurd (memory_is_short e c.in_err-key.ensures.memory done))

pub returns : goal.returns
returns g c =
    let lo = c.args.map.now.lo in
    let hi = c.args.map.now.hi in
    comes_as g.S.Store.view (delete_comes lo hi c.as_slice.result.now) (take_comes lo hi c.args.name.now) c.delete.result
    (λ p commands holds. ap (λ (key : List ℕ). delete_comes lo hi key p commands) (c.as_slice.ensures.value ∙ c.in_ok-key.ensures.value)) c.delete.ensures.comes
