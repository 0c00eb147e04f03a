use Rattle.std.proofs.Common.{take, refl, arith}
use Rattle.std.proofs.lemmas.Bool.{both_ways}
use Rattle.std.proofs.lemmas.List.{take_all}
use Rattle.disk_model.specs.Disk.{In}
use Rattle.disk_model.specs.Moments.{runs_none, runs_then_stays}
use Rattle.disk_model.specs.declared.machine.FileNo.TheVariants.{Objects}
use Rattle.stable_objects.specs.SlotsView.{layout_of}
use Rattle.stable_objects.specs.SpareLaws.{keeps_none, spares_run, sync_settles}
use Rattle.stable_objects.specs.Spares.{IsSpareByte, KeepsButSpares}
use Rattle.running_store.proofs.OfRounds.Fills.{fills_more, fills_synced}
use Rattle.running_store.proofs.objects.Objects.fill_spares.Goals as goal

pub loop-object-init : goal.loop-object-init
loop-object-init g c =
    let slots = c.args.self.now.slots in
    record {
      runs = runs_none (g.M.Machine.disk c.args.machine.now) (In Objects (KeepsButSpares slots)) (λ files. record { changed = keeps_none (layout_of slots) (IsSpareByte slots) (files Objects); others = λ other ne. refl }) (g.met.M.Machine.lawful c.args.machine.now);
      filled = λ told x pair among had closed. absurd (both_ways _ refl among);
    }

pub loop-object-preserved : goal.loop-object-preserved
loop-object-preserved g c =
    fills_more _ _ _ c.args.self.now c.args.objects.now c.loop-object.object-index c.loop-object-test.true c.loop-object.invariant c.fill_spare.ensures.runs c.in_ok-fill_spare.ensures.filled

pub returns-in_err-fill_spare-clause-runs : goal.returns-in_err-fill_spare-clause-runs
returns-in_err-fill_spare-clause-runs g c = spares_run c.args.self.now.slots _ _ _ c.loop-object.invariant.runs c.fill_spare.ensures.runs

pub returns-in_err-fill_spare-clause-cause : goal.returns-in_err-fill_spare-clause-cause
returns-in_err-fill_spare-clause-cause g c is_err below = let risen = c.in_err-fill_spare.ensures.cause refl below in omega (arith, risen, c.loop-object.invariant.runs.time.disk_faults)

pub returns-in_err-sync-clause-runs : goal.returns-in_err-sync-clause-runs
returns-in_err-sync-clause-runs g c = runs_then_stays _ _ _ _ c.loop-object.invariant.runs c.sync.ensures.kept

pub returns-in_err-sync-clause-cause : goal.returns-in_err-sync-clause-cause
returns-in_err-sync-clause-cause g c is_err below = let risen = c.in_err-sync.ensures.cause refl below in omega (arith, risen, c.loop-object.invariant.runs.time.disk_faults)

pub returns-clause-runs : goal.returns-clause-runs
returns-clause-runs g c = runs_then_stays _ _ _ _ c.loop-object.invariant.runs c.sync.ensures.kept

pub returns-clause-settled : goal.returns-clause-settled
returns-clause-settled g c settled = sync_settles _ _ _ _ settled c.loop-object.invariant.runs c.sync.ensures.kept c.in_ok-sync.ensures.settled

pub returns-clause-filled : goal.returns-clause-filled
returns-clause-filled g c =
    let objects = c.args.objects.now in
    let i = c.loop-object.object-index in
    fills_synced _ _ _ c.args.self.now (take i objects) objects (take_all i objects c.loop-object-test.false) c.loop-object.invariant c.sync.ensures.kept
