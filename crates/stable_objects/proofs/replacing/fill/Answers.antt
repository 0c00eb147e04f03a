use Rattle.std.proofs.Common.{◌+◌, length, sym, subst}
use Rattle.disk_model.specs.CallLaws.{torn_none}
use Rattle.disk_model.specs.Disk.{Files, Torn}
use Rattle.disk_model.specs.Moments.{runs_then_stays}
use Rattle.disk_model.specs.declared.machine.FileNo.TheVariants.{Objects}
use Rattle.stable_objects.specs.Replacing.{IsFilled}
use Rattle.stable_objects.specs.SpareLaws.{sync_settles}
use Rattle.stable_objects.proofs.Made.{all_stay_settled}
use Rattle.stable_objects.proofs.Put.{look_first, look_only}
use Rattle.stable_objects.proofs.replacing.fill.Goals as goal

pub returns-in_err-is_filled-clause-runs : goal.returns-in_err-is_filled-clause-runs
returns-in_err-is_filled-clause-runs g c = look_only (Torn (c.args.place + 1) (12 + length c.args.value.now)) (torn_none _ _) _ _ c.is_filled.ensures.kept

pub returns-then-branch-clause-runs : goal.returns-then-branch-clause-runs
returns-then-branch-clause-runs g c = look_only (Torn (c.args.place + 1) (12 + length c.args.value.now)) (torn_none _ _) _ _ c.is_filled.ensures.kept

pub returns-then-branch-clause-settled : goal.returns-then-branch-clause-settled
returns-then-branch-clause-settled g c settled = all_stay_settled _ _ c.is_filled.ensures.kept settled

pub returns-then-branch-clause-filled : goal.returns-then-branch-clause-filled
returns-then-branch-clause-filled g c told =
    subst (λ (f : Files). IsFilled c.args.place c.args.lsn c.args.value.now (f Objects)) (sym (c.is_filled.ensures.kept.reads told)) (c.in_ok-is_filled.ensures.filled told c.if-branch.true)

pub returns-in_err-write_slot-clause-runs : goal.returns-in_err-write_slot-clause-runs
returns-in_err-write_slot-clause-runs g c = look_first (Torn (c.args.place + 1) (12 + length c.args.value.now)) (torn_none _ _) _ _ _ c.is_filled.ensures.kept c.write_slot.ensures.runs

pub returns-in_err-sync-clause-runs : goal.returns-in_err-sync-clause-runs
returns-in_err-sync-clause-runs g c = runs_then_stays _ _ _ _ (look_first (Torn (c.args.place + 1) (12 + length c.args.value.now)) (torn_none _ _) _ _ _ c.is_filled.ensures.kept c.write_slot.ensures.runs) c.sync.ensures.kept

pub returns-clause-runs : goal.returns-clause-runs
returns-clause-runs g c = runs_then_stays _ _ _ _ (look_first (Torn (c.args.place + 1) (12 + length c.args.value.now)) (torn_none _ _) _ _ _ c.is_filled.ensures.kept c.write_slot.ensures.runs) c.sync.ensures.kept

pub returns-clause-filled : goal.returns-clause-filled
returns-clause-filled g c told =
    let told_first = c.is_filled.ensures.kept.time.files_told.0 told in
    let same = c.sync.ensures.kept.reads (c.write_slot.ensures.runs.time.files_told.0 told_first) in
    subst (λ (f : Files). IsFilled c.args.place c.args.lsn c.args.value.now (f Objects)) (sym same) (c.in_ok-write_slot.ensures.filled told_first)

pub returns-clause-settled : goal.returns-clause-settled
returns-clause-settled g c settled =
    sync_settles _ _ _ _ (all_stay_settled _ _ c.is_filled.ensures.kept settled) c.write_slot.ensures.runs c.sync.ensures.kept c.in_ok-sync.ensures.settled
