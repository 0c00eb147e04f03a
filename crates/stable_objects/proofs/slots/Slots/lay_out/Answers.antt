use Rattle.std.proofs.Common.{sym, subst, arith}
use Rattle.disk_model.specs.Disk.{Files}
use Rattle.disk_model.specs.Moments.{runs_then_stays}
use Rattle.disk_model.specs.declared.machine.FileNo.TheVariants.{Objects}
use Rattle.formats.specs.declared.layout.Layout.{Layout}
use Rattle.stable_objects.specs.Making.{HasClosedSlots, IsLaidOut}
use Rattle.stable_objects.specs.GateLaws.{keeps_join}
use Rattle.stable_objects.proofs.Made.{front_keeps, keeps_settled, laid_out}
use Rattle.stable_objects.proofs.slots.Slots.lay_out.Goals as goal

pub returns-in_err-close_slots-clause-runs : goal.returns-in_err-close_slots-clause-runs
returns-in_err-close_slots-clause-runs g c = front_keeps _ _ c.new_layout-layout.result.first (omega (arith, c.new_layout-layout.ensures.known.behind)) c.close_slots.ensures.runs

pub returns-in_err-write_fields-clause-runs : goal.returns-in_err-write_fields-clause-runs
returns-in_err-write_fields-clause-runs g c =
    keeps_join _ _ _ (front_keeps _ _ c.new_layout-layout.result.first (omega (arith, c.new_layout-layout.ensures.known.behind)) c.close_slots.ensures.runs) c.write_fields.ensures.runs

pub returns-in_err-sync-clause-runs : goal.returns-in_err-sync-clause-runs
returns-in_err-sync-clause-runs g c =
    runs_then_stays _ _ _ _ (keeps_join _ _ _ (front_keeps _ _ c.new_layout-layout.result.first (omega (arith, c.new_layout-layout.ensures.known.behind)) c.close_slots.ensures.runs) c.write_fields.ensures.runs) c.sync.ensures.kept

pub returns-clause-runs : goal.returns-clause-runs
returns-clause-runs g c =
    runs_then_stays _ _ _ _ (keeps_join _ _ _ (front_keeps _ _ c.new_layout-layout.result.first (omega (arith, c.new_layout-layout.ensures.known.behind)) c.close_slots.ensures.runs) c.write_fields.ensures.runs) c.sync.ensures.kept

pub returns-clause-laid_out : goal.returns-clause-laid_out
returns-clause-laid_out g c told =
    let p = c.args.params in
    let mid = g.M.Machine.disk c.close_slots.new.machine in
    let told_mid = c.close_slots.ensures.runs.time.files_told.0 told in
    let same = c.sync.ensures.kept.reads (c.write_fields.ensures.runs.time.files_told.0 told_mid) in
    let closed = subst (λ (l : Layout). HasClosedSlots l (mid.reads Objects)) c.new_layout-layout.ensures.is (c.in_ok-close_slots.ensures.closed told) in
    subst (λ (f : Files). IsLaidOut p (f Objects)) (sym same) (laid_out p _ c.requires (c.in_ok-write_fields.ensures.fields told_mid) (c.in_ok-write_fields.ensures.slots told_mid closed))

pub returns-clause-settled : goal.returns-clause-settled
returns-clause-settled g c settled =
    keeps_settled _ _ _ settled (keeps_join _ _ _ (front_keeps _ _ c.new_layout-layout.result.first (omega (arith, c.new_layout-layout.ensures.known.behind)) c.close_slots.ensures.runs) c.write_fields.ensures.runs)
    c.sync.ensures.kept c.in_ok-sync.ensures.settled
