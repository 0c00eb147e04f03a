use Rattle.std.proofs.Common.{ℕ, [], ◌∷◌, refl, arith, subst}
use Rattle.disk_model.specs.Disk.{In, HoldsAt}
use Rattle.disk_model.specs.Moments.{runs_none}
use Rattle.disk_model.specs.declared.machine.FileNo.TheVariants.{Objects}
use Rattle.stable_objects.specs.Making.{KeepsFront}
use Rattle.stable_objects.proofs.Made.{front_none, run_front, more_closed, all_closed}
use Rattle.stable_objects.proofs.creating.close_slots.Goals as goal

pub loop-slot-init : goal.loop-slot-init
loop-slot-init g c = record {
  kept = runs_none (g.M.Machine.disk c.args.machine.now) (In Objects (KeepsFront c.args.layout.first)) (front_none c.args.layout.first) (g.met.M.Machine.lawful c.args.machine.now);
  closed = λ told k less. absurd (omega (arith, less));
}

pub loop-slot-preserved : goal.loop-slot-preserved
loop-slot-preserved g c =
    let mid = g.M.Machine.disk c.loop-slot.machine in
    let new = g.M.Machine.disk c.write_at.new.self in
    let so_far = c.loop-slot.invariant in
    record {
      kept = run_front _ _ _ c.args.layout.first c.gate_place.result 1 (omega (arith, c.gate_place.ensures)) so_far.kept c.write_at.ensures.runs;
      closed = λ told.
          let written = c.in_ok-write_at.ensures.written (so_far.kept.time.files_told.0 told) in
          more_closed c.args.layout c.loop-slot.slot (mid.reads Objects) (new.reads Objects) (so_far.closed told)
          (subst (λ (at : ℕ). HoldsAt at (0 ∷ []) (mid.reads Objects) (new.reads Objects)) c.gate_place.ensures written.changed);
    }

pub returns-in_err-write_at-clause-runs : goal.returns-in_err-write_at-clause-runs
returns-in_err-write_at-clause-runs g c = run_front _ _ _ c.args.layout.first c.gate_place.result 1 (omega (arith, c.gate_place.ensures)) c.loop-slot.invariant.kept c.write_at.ensures.runs

pub returns-in_err-write_at-clause-cause : goal.returns-in_err-write_at-clause-cause
returns-in_err-write_at-clause-cause g c is_err below =
    let risen = c.in_err-write_at.ensures.cause refl below in omega (arith, risen, c.loop-slot.invariant.kept.time.disk_faults)

pub returns-clause-closed : goal.returns-clause-closed
returns-clause-closed g c told = all_closed c.args.layout _ c.requires.in_range (λ k less. c.loop-slot.invariant.closed told k (omega (arith, less, c.loop-slot-test.false)))
