use Rattle.std.proofs.Common.{◌∙◌, [], ◌∷◌, inl, inr, refl, sym, true≢false}
use Rattle.disk_model.specs.Moments.{passes_twice}
use Rattle.formats.specs.Objects.{bounds_of}
use Rattle.store_engine.specs.Engine.{params_of}
use Rattle.transactions.proofs.GoingOn.{goes_on, on_err, on_ok, one_covered}
use Rattle.transactions.proofs.Reading.{reads_so}
use Rattle.transactions.proofs.snapshot.Snapshot.exec.Goals as goal

pub returns-then-is_broken-clause-time : goal.returns-then-is_broken-clause-time
returns-then-is_broken-clause-time g c = c.keep.ensures.reads.kept.time

pub returns-then-is_broken-clause-run : goal.returns-then-is_broken-clause-run
returns-then-is_broken-clause-run g c =
    let disk = g.M.Machine.disk in inr (refl, sym c.is_broken.ensures ∙ c.if-is_broken.true, reads_so g.O.Oper.meaning (disk c.args.machine.now) (disk c.keep.new.machine) c.args.engine.now c.keep.new.engine _ _ (λ broken. tt) (λ all. sym c.is_broken.ensures ∙ c.if-is_broken.true) c.keep.ensures.reads)

pub returns-then-is_broken-clause-undone : goal.returns-then-is_broken-clause-undone
returns-then-is_broken-clause-undone g c = λ p base commands holds it. c.keep.ensures.snapshot p base commands holds it

pub returns-clause-time : goal.returns-clause-time
returns-clause-time g c =
    let disk = g.M.Machine.disk in
    passes_twice (disk c.args.machine.now) (disk c.keep.new.machine) (disk c.exec.new.machine) (g.met.M.Machine.lawful c.exec.new.machine) c.keep.ensures.reads.kept.time c.exec.ensures.calls.call.time

pub returns-clause-run : goal.returns-clause-run
returns-clause-run g c =
    let disk = g.M.Machine.disk in
    inl (record {
      mid = c.keep.new.machine;
      between = c.keep.new.engine;
      reads = reads_so g.O.Oper.meaning (disk c.args.machine.now) (disk c.keep.new.machine) c.args.engine.now c.keep.new.engine _ _ (λ broken. true≢false (sym broken ∙ sym c.is_broken.ensures ∙ c.if-is_broken.false)) (λ none. absurd none) c.keep.ensures.reads;
      run = c.exec.ensures.run;
      calls = c.exec.ensures.calls;
    })

pub returns-clause-done : goal.returns-clause-done
returns-clause-done g c = λ p base commands holds it.
    on_ok c.exec.result _
    (goes_on g.O.Oper.meaning p c.keep.new.self base commands (c.args.op ∷ []) 1 (c.keep.ensures.snapshot p base commands holds it)
    (one_covered g.O.Oper.meaning p (params_of c.args.engine.now) holds.shows.shows.store.params c.keep.new.self c.args.op c.as_slice.result.now (c.as_slice.ensures.value ∙ c.writes-writes.ensures (bounds_of p)) c.keep.ensures.kept))

pub returns-clause-undone : goal.returns-clause-undone
returns-clause-undone g c = λ p base commands holds it. on_err c.exec.result _ (c.keep.ensures.snapshot p base commands holds it)
