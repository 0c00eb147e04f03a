use Rattle.std.proofs.Common.{◌∙◌, ap, inl, inr, ⊎_elim, arith}
use Rattle.stable_objects.specs.GateLaws.{keeps_join}
use Rattle.store_engine.specs.Engine.{EngineView}
use Rattle.backup_copy.proofs.Ends.{cause_later, count_later, error_from, never_damaged, no_fault, same_error, same_fault}
use Rattle.backup_copy.proofs.Passed.{passed_next, passed_none, passed_read, read_on}
use Rattle.backup_copy.proofs.copying.copy_up_to.Goals as goal

pub loop-object-init : goal.loop-object-init
loop-object-init g c =
    passed_none g.O.Oper.meaning (g.M.Machine.disk c.args.machine.now) c.args.engine.now (g.T.Machine.disk c.args.target.now) c.args.copied (g.met.M.Machine.lawful c.args.machine.now) (g.met.T.Machine.lawful c.args.target.now) c.requires.next

pub copy_next-requires-clause-unbroken : goal.copy_next-requires-clause-unbroken
copy_next-requires-clause-unbroken g c = ap (λ (e : EngineView). e.broken) c.loop-object.invariant.engine ∙ c.requires.unbroken

pub copy_next-requires-clause-next : goal.copy_next-requires-clause-next
copy_next-requires-clause-next g c = ap (λ (e : EngineView). e.copied) c.loop-object.invariant.engine

pub copy_next-requires-clause-below : goal.copy_next-requires-clause-below
copy_next-requires-clause-below g c = omega (arith, ap (λ (e : EngineView). e.parts.volatile.objects.slots.params.objects) c.loop-object.invariant.engine, c.requires.within, c.loop-object-test.true)

pub returns-in_err-copy_next-clause-runs : goal.returns-in_err-copy_next-clause-runs
returns-in_err-copy_next-clause-runs g c = keeps_join (g.T.Machine.disk c.args.target.now) (g.T.Machine.disk c.loop-object.target) (g.T.Machine.disk c.copy_next.new.target) c.loop-object.invariant.runs c.copy_next.ensures.runs

pub returns-in_err-copy_next-clause-read : goal.returns-in_err-copy_next-clause-read
returns-in_err-copy_next-clause-read g c =
    let is = error_from c.from_residual.result _ c.from_residual.ensures.1 in
    let read = read_on g.O.Oper.meaning (g.M.Machine.disk c.args.machine.now) (g.M.Machine.disk c.loop-object.machine) (g.M.Machine.disk c.copy_next.new.machine) c.args.engine.now c.loop-object.engine c.copy_next.new.engine
    (g.T.Machine.disk c.args.target.now) (g.T.Machine.disk c.loop-object.target) (g.T.Machine.disk c.copy_next.new.target) c.args.copied c.loop-object.object c.loop-object.invariant c.copy_next.ensures.read in
    record {
      kept = read.kept;
      engine = read.engine;
      broken = (λ broken. same_error c.from_residual.result c.in_err-copy_next.field-0.0 c.copy_next.result is c.in_err-copy_next.was _ (read.broken.0 broken), λ failed. read.broken.1 (same_error c.copy_next.result c.in_err-copy_next.field-0.0 c.from_residual.result c.in_err-copy_next.was is _ failed));
      shows = λ p w shows. ⊎_elim (λ failed. inl (same_error c.from_residual.result c.in_err-copy_next.field-0.0 c.copy_next.result is c.in_err-copy_next.was _ failed)) (λ now. inr now) (read.shows p w shows);
    }

pub returns-in_err-copy_next-clause-count : goal.returns-in_err-copy_next-clause-count
returns-in_err-copy_next-clause-count g c =
    count_later c.copy_next.result c.in_err-copy_next.field-0.0 c.from_residual.result c.in_err-copy_next.was (error_from c.from_residual.result _ c.from_residual.ensures.1) c.args.copied c.loop-object.object c.args.end c.copy_next.new.engine.copied
    c.loop-object.invariant.rising (omega (arith, c.loop-object-test.true)) c.copy_next.ensures.count

pub returns-in_err-copy_next-clause-goes_on : goal.returns-in_err-copy_next-clause-goes_on
returns-in_err-copy_next-clause-goes_on g c = λ p w is.
    ⊎_elim (λ failed. inl (same_fault c.copy_next.result c.in_err-copy_next.field-0.0 c.from_residual.result c.in_err-copy_next.was (error_from c.from_residual.result _ c.from_residual.ensures.1) failed)) (λ copies. inr copies)
    (c.copy_next.ensures.goes_on p w (c.loop-object.invariant.goes_on p w is))

pub returns-in_err-copy_next-clause-cause : goal.returns-in_err-copy_next-clause-cause
returns-in_err-copy_next-clause-cause g c =
    let passed = c.loop-object.invariant in
    cause_later (g.M.Machine.disk c.copy_next.new.machine) c.args.engine.now c.loop-object.engine c.copy_next.new.engine.copied (g.M.Machine.disk c.args.machine.now).disk_faults (g.M.Machine.disk c.loop-object.machine).disk_faults (g.M.Machine.disk c.copy_next.new.machine).disk_faults
    (g.T.Machine.disk c.args.target.now).disk_faults (g.T.Machine.disk c.loop-object.target).disk_faults (g.T.Machine.disk c.copy_next.new.target).disk_faults
    c.copy_next.result c.in_err-copy_next.field-0.0 c.from_residual.result c.in_err-copy_next.was (error_from c.from_residual.result _ c.from_residual.ensures.1) (ap (λ (e : EngineView). e.parts) passed.engine) passed.kept.time.disk_faults passed.runs.time.disk_faults c.copy_next.ensures.cause

pub returns-in_err-copy_next-clause-undamaged : goal.returns-in_err-copy_next-clause-undamaged
returns-in_err-copy_next-clause-undamaged g c =
    never_damaged g.O.Oper.meaning (g.M.Machine.disk c.args.machine.now) (g.M.Machine.disk c.copy_next.new.machine) c.args.engine.now _ _ _ c.from_residual.result (returns-in_err-copy_next-clause-read g c).kept (returns-in_err-copy_next-clause-cause g c)

pub loop-object-preserved : goal.loop-object-preserved
loop-object-preserved g c =
    passed_next g.O.Oper.meaning (g.M.Machine.disk c.args.machine.now) (g.M.Machine.disk c.loop-object.machine) (g.M.Machine.disk c.copy_next.new.machine) c.args.engine.now c.loop-object.engine c.copy_next.new.engine
    (g.T.Machine.disk c.args.target.now) (g.T.Machine.disk c.loop-object.target) (g.T.Machine.disk c.copy_next.new.target) c.args.copied c.loop-object.object c.loop-object.invariant c.requires.unbroken c.in_ok-copy_next.ensures.read (λ failed. cc)
    c.in_ok-copy_next.ensures.count c.copy_next.ensures.runs (λ p w is. ⊎_elim (λ failed. absurd (no_fault tt failed)) (λ copies. copies) (c.in_ok-copy_next.ensures.goes_on p w is))

pub returns-clause-read : goal.returns-clause-read
returns-clause-read g c =
    passed_read g.O.Oper.meaning (g.M.Machine.disk c.args.machine.now) (g.M.Machine.disk c.loop-object.machine) c.args.engine.now c.loop-object.engine (g.T.Machine.disk c.args.target.now) (g.T.Machine.disk c.loop-object.target) c.args.copied c.loop-object.object
    c.requires.unbroken (λ failed. cc) c.loop-object.invariant

pub returns-clause-goes_on : goal.returns-clause-goes_on
returns-clause-goes_on g c = λ p w is. inr (c.loop-object.invariant.goes_on p w is)
