use Rattle.std.proofs.Common.{arith, refl}
use Rattle.disk_model.specs.Moments.{agreed_before, stays_twice}
use Rattle.tool_output.specs.FaultLaws.{fails_later}
use Rattle.redo_log.proofs.UsedLemmas.{left_more, left_whole}
use Rattle.redo_log.proofs.left.left_behind.Goals as goal

pub loop-gone-init : goal.loop-gone-init
loop-gone-init g c = record {
  kept = c.size.ensures.kept;
  all_is = c.saturating_sub-all.ensures;
  within = omega arith;
  so_far = λ files agree. (c.in_ok-size.ensures.size files agree, refl);
}

pub loop-gone-preserved : goal.loop-gone-preserved
loop-gone-preserved g c =
    let inv = c.loop-gone.invariant in
    record {
      kept = stays_twice _ _ _ inv.kept c.used_in.ensures.kept;
      all_is = inv.all_is;
      within = omega (arith, inv.within, c.min-step.ensures);
      so_far = λ files agree.
          let before = inv.so_far files (agreed_before c.used_in.ensures.kept files agree) in (
            before.0,
            left_more (files c.args.file) c.args.from c.loop-gone.gone c.min-step.result (omega (arith, c.min-step.ensures, inv.within, inv.all_is, before.0)) (omega (arith, c.min-step.ensures, inv.all_is, before.0)) c.in_ok-count.count c.loop-gone.left c.left_after-left.result
                (omega (arith, c.min-step.ensures, inv.within, inv.all_is)) (c.in_ok-count.ensures.used files agree) before.1 c.left_after-left.ensures,
          );
    }

pub returns-clause-left : goal.returns-clause-left
returns-clause-left g c files agree =
    let inv = c.loop-gone.invariant in
    let so_far = inv.so_far files agree in
    left_whole (files c.args.file) c.args.from c.loop-gone.gone c.loop-gone.left (omega (arith, c.loop-gone-test.false, inv.all_is, so_far.0)) so_far.1

pub returns-in_err-count-clause-cause : goal.returns-in_err-count-clause-cause
returns-in_err-count-clause-cause g c = fails_later (g.M.Machine.disk c.args.machine.now) (g.M.Machine.disk c.loop-gone.machine) (g.M.Machine.disk c.used_in.new.machine) _ c.from_residual-in_err-count.result c.in_err-count.field-0.0 c.loop-gone.invariant.kept.time c.from_residual-in_err-count.ensures.1 c.in_err-count.ensures.cause
