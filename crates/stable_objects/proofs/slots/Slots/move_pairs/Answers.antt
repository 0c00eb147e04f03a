use Rattle.std.proofs.Common.{◌≡◌, ℕ, ap, subst, arith}
use Rattle.std.proofs.lemmas.Result.{err_from_is_err_and}
use Rattle.disk_model.specs.declared.machine.FileNo.TheVariants.{Objects}
use Rattle.stable_objects.specs.Upgrades.Filling.{IsFilledTo}
use Rattle.stable_objects.specs.Upgrades.Growing.{pair_before}
use Rattle.stable_objects.specs.Upgrades.Larger.{end_of_slots, seconded}
use Rattle.stable_objects.specs.SlotsView.{SlotsView}
use Rattle.disk_model.specs.Moments.{stays_here}
use Rattle.stable_objects.proofs.Upgraded.Grown.{behind_none, behind_twice, fails_later, still_twice}
use Rattle.stable_objects.proofs.Upgraded.Staying.{still_in_front}
use Rattle.stable_objects.proofs.slots.Slots.move_pairs.Goals as goal

pub loop-object-init : goal.loop-object-init
loop-object-init g c =
    let old = g.M.Machine.disk c.args.machine.now in
    record {
      runs = behind_none (end_of_slots c.args.self.now) old old (stays_here old (g.met.M.Machine.lawful c.args.machine.now));
      within = omega arith;
      moved = λ told start still head filled. filled;
    }

pub loop-object-preserved : goal.loop-object-preserved
loop-object-preserved g c =
    let slots = c.args.self.now in
    let first = g.M.Machine.disk c.args.machine.now in
    let mid = g.M.Machine.disk c.loop-object.machine in
    let inv = c.loop-object.invariant in
    record {
      runs = behind_twice (end_of_slots slots) inv.runs c.move_pair.ensures.runs;
      within = omega (arith, c.loop-object-test.true, ap (λ (v : SlotsView). v.params.objects) c.self.view_is);
      moved = λ told start still head filled.
          let again = still_in_front slots (first.reads Objects) (mid.reads Objects) still.are c.requires.first head (inv.runs.reads told).changed in
          c.in_ok-move_pair.ensures.moved (inv.runs.time.files_told.0 told) start (still_twice slots start (first.reads Objects) (mid.reads Objects) still again) (inv.moved told start still head filled);
    }

pub returns-in_err-move_pair-clause-runs : goal.returns-in_err-move_pair-clause-runs
returns-in_err-move_pair-clause-runs g c = behind_twice (end_of_slots c.args.self.now) c.loop-object.invariant.runs c.move_pair.ensures.runs

pub returns-in_err-move_pair-clause-cause : goal.returns-in_err-move_pair-clause-cause
returns-in_err-move_pair-clause-cause g c =
    let e = err_from_is_err_and c.from_residual.result c.from_residual.ensures.1 in
    rw (e.1, e.2) (fails_later c.args.self.now c.args.params c.requires.first (g.M.Machine.disk c.args.machine.now) (g.M.Machine.disk c.loop-object.machine) (g.M.Machine.disk c.move_pair.new.machine) c.in_err-move_pair.field-0.0 c.loop-object.invariant.runs c.in_err-move_pair.ensures.cause)

pub returns-clause-runs : goal.returns-clause-runs
returns-clause-runs g c = c.loop-object.invariant.runs

pub returns-clause-moved : goal.returns-clause-moved
returns-clause-moved g c told start still head filled =
    let inv = c.loop-object.invariant in
    let slots = c.args.self.now in
    let all : c.loop-object.object ≡ slots.params.objects = omega (arith, inv.within, c.loop-object-test.false, ap (λ (v : SlotsView). v.params.objects) c.self.view_is) in
    let now = g.M.Machine.disk c.loop-object.machine in
    subst (λ (n : ℕ). IsFilledTo c.args.params n (pair_before slots.params start) (seconded (now.reads Objects))) all (inv.moved told start still head filled)
