use Rattle.std.proofs.Common.{◌≡◌, refl, ◌∙◌, subst, ℕ, List, [], ◌∷◌, ◌++◌, None, Result, Ok, Err}
use Rattle.std.specs.Prelude.{IfErr, IfOk}
use Rattle.formats.specs.Objects.{bounds_of}
use Rattle.range_calls.specs.JoinLaws.{memory_is_short, nothing_reads, reads_then}
use Rattle.range_calls.specs.ReadLaws.{adds_passed, calls_passed, passed, refused_passed}
use Rattle.range_calls.specs.Store.{state_of}
use Rattle.running_store.specs.Taking.Ending.{Done}
use Rattle.store_engine.specs.Lists.{ending_of}
use Rattle.map_client.specs.Answers.{MapErr, cause_of}
use Rattle.map_client.specs.Ranging.{next_told, range_told}
use Rattle.map_client.proofs.ranging_rise.next.Goals as goal

pub returns-in_err-from-clause-calls : goal.returns-in_err-from-clause-calls
returns-in_err-from-clause-calls g c =
    let failed : Result ℕ MapErr = Err c.in_err-from.field-0.0 in
    let reads = reads_then g.S.Store.view g.M.Machine.disk c.reads_run_short.ensures c.args.machine.now c.args.machine.now c.args.store.now c.args.store.now failed
    (nothing_reads g.S.Store.view (g.M.Machine.disk c.args.machine.now) c.args.store.now c.nothing_is_made.ensures.front (c.nothing_is_made.ensures.calls c.requires.unbroken)) c.in_err-from.ensures.memory in
    calls_passed g.S.Store.view c.from_residual.result c.in_err-from.field-0.0 (passed c.from_residual.result c.in_err-from.field-0.0 c.from_residual.ensures.1) reads.calls

pub returns-in_err-from-clause-adds : goal.returns-in_err-from-clause-adds
returns-in_err-from-clause-adds g c = λ p commands holds.
    let failed : Result ℕ MapErr = Err c.in_err-from.field-0.0 in
    let reads = reads_then g.S.Store.view g.M.Machine.disk c.reads_run_short.ensures c.args.machine.now c.args.machine.now c.args.store.now c.args.store.now failed
    (nothing_reads g.S.Store.view (g.M.Machine.disk c.args.machine.now) c.args.store.now c.nothing_is_made.ensures.front (c.nothing_is_made.ensures.calls c.requires.unbroken)) c.in_err-from.ensures.memory in
    adds_passed g.S.Store.view c.from_residual.result c.in_err-from.field-0.0 (passed c.from_residual.result c.in_err-from.field-0.0 c.from_residual.ensures.1) (reads.adds p commands holds [] (λ done. refl))

pub returns-in_err-from-clause-refused : goal.returns-in_err-from-clause-refused
returns-in_err-from-clause-refused g c = λ p commands holds.
    refused_passed c.from_residual.result c.in_err-from.field-0.0 (λ e. ending_of (cause_of e) ≡ Done → next_told (bounds_of p) c.args.map.now.lo c.args.map.now.hi (state_of p commands) c.args.key.now ≡ Err e)
    (passed c.from_residual.result c.in_err-from.field-0.0 c.from_residual.ensures.1) (λ done. absurd (memory_is_short c.in_err-from.field-0.0 c.in_err-from.ensures.memory done))

pub returns-clause-calls : goal.returns-clause-calls
returns-clause-calls g c = c.range.ensures.calls

pub returns-clause-adds : goal.returns-clause-adds
returns-clause-adds g c = c.range.ensures.adds

pub returns-clause-found : goal.returns-clause-found
returns-clause-found g c = λ p commands holds.
    let same : c.as_slice.result.now ≡ c.args.key.now ++ 0 ∷ [] = c.as_slice.ensures.value ∙ c.in_ok-from.ensures.key in
    subst (λ (l : List ℕ). IfOk c.range.result (λ found. range_told (bounds_of p) c.args.map.now.lo c.args.map.now.hi (state_of p commands) (record { from = l; to = None }) 1 ≡ Ok found.items)) same
    (c.range.ensures.found p commands holds)

pub returns-clause-refused : goal.returns-clause-refused
returns-clause-refused g c = λ p commands holds.
    let same : c.as_slice.result.now ≡ c.args.key.now ++ 0 ∷ [] = c.as_slice.ensures.value ∙ c.in_ok-from.ensures.key in
    subst (λ (l : List ℕ). IfErr c.range.result (λ e. ending_of (cause_of e) ≡ Done → range_told (bounds_of p) c.args.map.now.lo c.args.map.now.hi (state_of p commands) (record { from = l; to = None }) 1 ≡ Err e)) same
    (c.range.ensures.refused p commands holds)
