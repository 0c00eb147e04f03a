use Rattle.std.proofs.Common.{rules, ◌≡◌, ℕ, List, ◌<◌, length, take, refl, sym, subst, arith}
use Rattle.std.specs.Prelude.{slice_index}
use Rattle.std.proofs.lemmas.List.{take_all}
use Rattle.disk_model.specs.Disk.{Files}
use Rattle.disk_model.specs.Moments.{runs_then_stays}
use Rattle.disk_model.specs.declared.machine.FileNo.TheVariants.{Objects}
use Rattle.stable_objects.specs.Ready.{AreOpened}
use Rattle.stable_objects.specs.SpareLaws.{sync_settles}
use Rattle.stable_objects.proofs.GatesOpened.{among_all, among_at, among_front, gates_moments, open_run, opened_more, opened_none, reaches, run_on}
use Rattle.stable_objects.proofs.Opened.{old_or_new}
use Rattle.stable_objects.proofs.slots.Slots.open_gates.Goals as goal

pub open_spare-requires : goal.open_spare-requires
open_spare-requires g c = c.requires.below c.loop-object.object-index 0 c.loop-object-test.true

pub loop-object-init : goal.loop-object-init
loop-object-init g c = opened_none c.args.self.now c.args.objects.now (g.M.Machine.disk c.args.machine.now) (g.met.M.Machine.lawful c.args.machine.now)

pub loop-object-preserved : goal.loop-object-preserved
loop-object-preserved g c =
    let objects = c.args.objects.now in
    let i = c.loop-object.object-index in
    let all : (k : ℕ) → k < length objects → slice_index objects k < c.args.self.now.params.objects = λ k lt. c.requires.below k 0 lt in
    opened_more c.args.self.now objects all i c.loop-object-test.true _ _ _ c.loop-object.invariant c.open_spare.ensures.runs c.in_ok-open_spare.ensures.opened
    (among_all (λ (x : ℕ). x < c.args.self.now.params.objects) objects all) (λ x there. among_front x i objects there)

pub returns-in_err-open_spare : goal.returns-in_err-open_spare
returns-in_err-open_spare g c =
    let objects = c.args.objects.now in
    let i = c.loop-object.object-index in
    let run = run_on c.args.self.now objects _ _ _ c.loop-object.invariant.runs
    (open_run c.args.self.now objects (slice_index objects i) (c.requires.below i 0 c.loop-object-test.true) (among_at objects i c.loop-object-test.true) _ _ c.open_spare.ensures.runs) in
    record {
      runs =
          run_on c.args.self.now objects _ _ _ c.loop-object.invariant.runs
          (open_run c.args.self.now objects (slice_index objects i) (c.requires.below i 0 c.loop-object-test.true) (among_at objects i c.loop-object-test.true) _ _ c.open_spare.ensures.runs);
      opened = search rules;
      settled = search rules;
      cells = λ pairs told are ready. old_or_new c.args.self.now objects pairs _ _ are ready (run.reads told).changed;
      any_moment = λ pairs told settled are ready. gates_moments c.args.self.now objects pairs _ _ run told settled are ready;
      cause = λ is_err below. let risen = c.in_err-open_spare.ensures.cause refl below in omega (arith, risen, c.loop-object.invariant.runs.time.disk_faults);
    }

pub returns-in_err-sync-clause-runs : goal.returns-in_err-sync-clause-runs
returns-in_err-sync-clause-runs g c = runs_then_stays _ _ _ _ c.loop-object.invariant.runs c.sync.ensures.kept

pub returns-in_err-sync-clause-cells : goal.returns-in_err-sync-clause-cells
returns-in_err-sync-clause-cells g c pairs told are ready =
    let run = runs_then_stays _ _ _ _ c.loop-object.invariant.runs c.sync.ensures.kept in
    old_or_new c.args.self.now c.args.objects.now pairs _ _ are ready (run.reads told).changed

pub returns-in_err-sync-clause-any_moment : goal.returns-in_err-sync-clause-any_moment
returns-in_err-sync-clause-any_moment g c pairs told settled are ready =
    gates_moments c.args.self.now c.args.objects.now pairs _ _ (runs_then_stays _ _ _ _ c.loop-object.invariant.runs c.sync.ensures.kept) told settled are ready

pub returns-in_err-sync-clause-cause : goal.returns-in_err-sync-clause-cause
returns-in_err-sync-clause-cause g c is_err below = let risen = c.in_err-sync.ensures.cause refl below in omega (arith, risen, c.loop-object.invariant.runs.time.disk_faults)

pub returns-clause-runs : goal.returns-clause-runs
returns-clause-runs g c = runs_then_stays _ _ _ _ c.loop-object.invariant.runs c.sync.ensures.kept

pub returns-clause-cells : goal.returns-clause-cells
returns-clause-cells g c pairs told are ready =
    let run = runs_then_stays _ _ _ _ c.loop-object.invariant.runs c.sync.ensures.kept in
    old_or_new c.args.self.now c.args.objects.now pairs _ _ are ready (run.reads told).changed

pub returns-clause-any_moment : goal.returns-clause-any_moment
returns-clause-any_moment g c pairs told settled are ready =
    gates_moments c.args.self.now c.args.objects.now pairs _ _ (runs_then_stays _ _ _ _ c.loop-object.invariant.runs c.sync.ensures.kept) told settled are ready

pub returns-clause-settled : goal.returns-clause-settled
returns-clause-settled g c settled = sync_settles _ _ _ _ settled c.loop-object.invariant.runs c.sync.ensures.kept c.in_ok-sync.ensures.settled

pub returns-clause-opened : goal.returns-clause-opened
returns-clause-opened g c told are x among =
    let old = g.M.Machine.disk c.args.machine.now in
    let objects = c.args.objects.now in
    let inv = c.loop-object.invariant in
    let all : take c.loop-object.object-index objects ≡ objects = take_all c.loop-object.object-index objects c.loop-object-test.false in
    let done = subst (λ (l : List ℕ). AreOpened c.args.self.now l ((g.M.Machine.disk c.loop-object.machine).reads Objects)) all (inv.opened told (reaches c.args.self.now (old.reads Objects) are)) in
    subst (λ (f : Files). AreOpened c.args.self.now objects (f Objects)) (sym (c.sync.ensures.kept.reads (inv.runs.time.files_told.0 told))) done x among
