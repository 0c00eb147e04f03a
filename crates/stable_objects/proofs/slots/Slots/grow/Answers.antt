use Rattle.std.proofs.Common.{rules, ℕ, List, inl, refl, sym, subst, arith}
use Rattle.std.proofs.lemmas.Result.{err_from_is_err_and}
use Rattle.disk_model.specs.Disk.{Files}
use Rattle.disk_model.specs.declared.machine.FileNo.TheVariants.{Objects}
use Rattle.stable_objects.specs.Upgrades.Growing.{IsGrown}
use Rattle.stable_objects.specs.Upgrades.Larger.{IsStill, end_of_slots}
use Rattle.stable_objects.proofs.Upgraded.Grown.{all_moved, behind_any, behind_none, behind_settled, either, fails_later, grows_not, looking, moving, now_grown, run_all, run_laid, run_moved, still_none, version_any, writing}
use Rattle.stable_objects.proofs.Upgraded.Staying.{still_in_front}
use Rattle.stable_objects.proofs.slots.Slots.grow.Goals as goal

pub returns-in_err-find_last_head-clause-runs : goal.returns-in_err-find_last_head-clause-runs
returns-in_err-find_last_head-clause-runs g c =
    let end = end_of_slots c.args.self.now in
    behind_any end _ _ (omega arith) (behind_none end _ _ c.find_last_head.ensures.kept)

pub returns-in_err-find_last_head-clause-left : goal.returns-in_err-find_last_head-clause-left
returns-in_err-find_last_head-clause-left g c told are =
    let slots = c.args.self.now in
    let old = g.M.Machine.disk c.args.machine.now in
    inl (subst (λ (f : Files). IsStill slots (old.reads Objects) (f Objects)) (sym (c.find_last_head.ensures.kept.reads told)) (still_none slots (old.reads Objects) are))

pub returns-in_err-find_last_head-clause-any_moment : goal.returns-in_err-find_last_head-clause-any_moment
returns-in_err-find_last_head-clause-any_moment g c told settled are = looking c.args.self.now c.args.params c.requires.first _ _ told settled are c.find_last_head.ensures.kept

pub returns-in_err-lay_out_larger : goal.returns-in_err-lay_out_larger
returns-in_err-lay_out_larger g c =
    let slots = c.args.self.now in
    let run = run_laid slots c.args.params c.requires.first c.find_last_head.ensures.kept c.lay_out_larger.ensures.runs in
    record {
      runs = behind_any (end_of_slots slots) _ _ (omega arith) (run_laid slots c.args.params c.requires.first c.find_last_head.ensures.kept c.lay_out_larger.ensures.runs);
      grown = search rules;
      left = λ told are. inl (still_in_front slots _ _ are c.requires.first (c.in_ok-find_last_head.ensures.whole told are) (run.reads told).changed);
      settled = search rules;
      any_moment = λ told settled are. moving slots c.args.params c.requires.first _ _ told settled are (c.in_ok-find_last_head.ensures.whole (run.begins.telling told) are) run;
      cause =
          let e = err_from_is_err_and c.from_residual-in_err-lay_out_larger.result c.from_residual-in_err-lay_out_larger.ensures.1 in
          rw (e.1, e.2) (λ below. let rose = c.in_err-lay_out_larger.ensures.cause refl below in omega (arith, rose, c.find_last_head.ensures.kept.time.disk_faults));
    }

pub returns-in_err-move_pairs : goal.returns-in_err-move_pairs
returns-in_err-move_pairs g c =
    let slots = c.args.self.now in
    let run = run_moved slots c.args.params c.requires.first c.find_last_head.ensures.kept c.lay_out_larger.ensures.runs c.move_pairs.ensures.runs in
    record {
      runs = behind_any (end_of_slots slots) _ _ (omega arith) (run_moved slots c.args.params c.requires.first c.find_last_head.ensures.kept c.lay_out_larger.ensures.runs c.move_pairs.ensures.runs);
      grown = search rules;
      left = λ told are. inl (still_in_front slots _ _ are c.requires.first (c.in_ok-find_last_head.ensures.whole told are) (run.reads told).changed);
      settled = search rules;
      any_moment = λ told settled are. moving slots c.args.params c.requires.first _ _ told settled are (c.in_ok-find_last_head.ensures.whole (run.begins.telling told) are) run;
      cause =
          let e = err_from_is_err_and c.from_residual-in_err-move_pairs.result c.from_residual-in_err-move_pairs.ensures.1 in
          rw (e.1, e.2) (grows_not slots c.args.params c.requires.first (g.M.Machine.disk c.args.machine.now) (g.M.Machine.disk c.move_pairs.new.machine) c.in_err-move_pairs.field-0.0 c.in_ok-find_last_head.ensures.whole
          (fails_later slots c.args.params c.requires.first (g.M.Machine.disk c.args.machine.now) (g.M.Machine.disk c.lay_out_larger.new.machine) (g.M.Machine.disk c.move_pairs.new.machine) c.in_err-move_pairs.field-0.0 (run_laid slots c.args.params c.requires.first c.find_last_head.ensures.kept c.lay_out_larger.ensures.runs) c.in_err-move_pairs.ensures.cause));
    }

pub returns-in_err-sync : goal.returns-in_err-sync
returns-in_err-sync g c =
    let slots = c.args.self.now in
    let run = run_all slots c.args.params c.requires.first c.find_last_head.ensures.kept c.lay_out_larger.ensures.runs c.move_pairs.ensures.runs c.sync.ensures.kept in
    record {
      runs = behind_any (end_of_slots slots) _ _ (omega arith) (run_all slots c.args.params c.requires.first c.find_last_head.ensures.kept c.lay_out_larger.ensures.runs c.move_pairs.ensures.runs c.sync.ensures.kept);
      grown = search rules;
      left = λ told are. inl (still_in_front slots _ _ are c.requires.first (c.in_ok-find_last_head.ensures.whole told are) (run.reads told).changed);
      settled = search rules;
      any_moment = λ told settled are. moving slots c.args.params c.requires.first _ _ told settled are (c.in_ok-find_last_head.ensures.whole (run.begins.telling told) are) run;
      cause =
          let run = run_moved slots c.args.params c.requires.first c.find_last_head.ensures.kept c.lay_out_larger.ensures.runs c.move_pairs.ensures.runs in
          let e = err_from_is_err_and c.from_residual-in_err-sync.result c.from_residual-in_err-sync.ensures.1 in
          rw (e.1, e.2) (λ below. let rose = c.in_err-sync.ensures.cause refl below in omega (arith, rose, run.time.disk_faults));
    }

pub returns-in_err-become_second : goal.returns-in_err-become_second
returns-in_err-become_second g c =
    let slots = c.args.self.now in
    let run = run_all slots c.args.params c.requires.first c.find_last_head.ensures.kept c.lay_out_larger.ensures.runs c.move_pairs.ensures.runs c.sync.ensures.kept in
    record {
      runs = version_any (end_of_slots slots) _ _ _ (omega arith) (run_all slots c.args.params c.requires.first c.find_last_head.ensures.kept c.lay_out_larger.ensures.runs c.move_pairs.ensures.runs c.sync.ensures.kept) c.become_second.ensures.runs;
      grown = search rules;
      left = λ told are.
          let head = c.in_ok-find_last_head.ensures.whole told are in
          either slots c.args.params c.requires.first _ _ _ are head (run.reads told).changed
          (all_moved slots c.args.params c.requires.first c.find_last_head.ensures.kept c.lay_out_larger.ensures.runs c.move_pairs.ensures.runs c.sync.ensures.kept told are head c.in_ok-lay_out_larger.ensures.laid_out c.in_ok-move_pairs.ensures.moved)
          (c.become_second.ensures.runs.reads (run.time.files_told.0 told)).changed;
      settled = search rules;
      any_moment = λ told settled are.
          let tells = run.begins.telling told in
          let head = c.in_ok-find_last_head.ensures.whole tells are in
          let settled_now = behind_settled (end_of_slots slots) _ _ _ settled (run_moved slots c.args.params c.requires.first c.find_last_head.ensures.kept c.lay_out_larger.ensures.runs c.move_pairs.ensures.runs) c.sync.ensures.kept c.in_ok-sync.ensures.settled in
          writing slots c.args.params c.requires.first _ _ _ told settled settled_now are head run
          (all_moved slots c.args.params c.requires.first c.find_last_head.ensures.kept c.lay_out_larger.ensures.runs c.move_pairs.ensures.runs c.sync.ensures.kept tells are head c.in_ok-lay_out_larger.ensures.laid_out c.in_ok-move_pairs.ensures.moved)
          c.become_second.ensures.runs;
      cause =
          let e = err_from_is_err_and c.from_residual-in_err-become_second.result c.from_residual-in_err-become_second.ensures.1 in
          rw (e.1, e.2) (λ below. let rose = c.in_err-become_second.ensures.cause refl below in omega (arith, rose, run.time.disk_faults));
    }

pub returns : goal.returns
returns g c =
    let slots = c.args.self.now in
    let run = run_all slots c.args.params c.requires.first c.find_last_head.ensures.kept c.lay_out_larger.ensures.runs c.move_pairs.ensures.runs c.sync.ensures.kept in
    record {
      runs = version_any (end_of_slots slots) _ _ _ (omega arith) (run_all slots c.args.params c.requires.first c.find_last_head.ensures.kept c.lay_out_larger.ensures.runs c.move_pairs.ensures.runs c.sync.ensures.kept) c.become_second.ensures.runs;
      grown = λ told are.
          let head = c.in_ok-find_last_head.ensures.whole told are in
          let old = g.M.Machine.disk c.args.machine.now in
          subst (λ (l : List ℕ). IsGrown slots.params c.args.params (old.reads Objects) l) (sym (c.in_ok-become_second.ensures.written (run.time.files_told.0 told)))
          (now_grown slots.params c.args.params (old.reads Objects) ((g.M.Machine.disk c.sync.new.self).reads Objects)
          (all_moved slots c.args.params c.requires.first c.find_last_head.ensures.kept c.lay_out_larger.ensures.runs c.move_pairs.ensures.runs c.sync.ensures.kept told are head c.in_ok-lay_out_larger.ensures.laid_out c.in_ok-move_pairs.ensures.moved));
      left = λ told are.
          let head = c.in_ok-find_last_head.ensures.whole told are in
          either slots c.args.params c.requires.first _ _ _ are head (run.reads told).changed
          (all_moved slots c.args.params c.requires.first c.find_last_head.ensures.kept c.lay_out_larger.ensures.runs c.move_pairs.ensures.runs c.sync.ensures.kept told are head c.in_ok-lay_out_larger.ensures.laid_out c.in_ok-move_pairs.ensures.moved)
          (c.become_second.ensures.runs.reads (run.time.files_told.0 told)).changed;
      settled = λ settled. c.in_ok-become_second.ensures.settled (behind_settled (end_of_slots slots) _ _ _ settled (run_moved slots c.args.params c.requires.first c.find_last_head.ensures.kept c.lay_out_larger.ensures.runs c.move_pairs.ensures.runs) c.sync.ensures.kept c.in_ok-sync.ensures.settled);
      any_moment = λ told settled are.
          let tells = run.begins.telling told in
          let head = c.in_ok-find_last_head.ensures.whole tells are in
          let settled_now = behind_settled (end_of_slots slots) _ _ _ settled (run_moved slots c.args.params c.requires.first c.find_last_head.ensures.kept c.lay_out_larger.ensures.runs c.move_pairs.ensures.runs) c.sync.ensures.kept c.in_ok-sync.ensures.settled in
          writing slots c.args.params c.requires.first _ _ _ told settled settled_now are head run
          (all_moved slots c.args.params c.requires.first c.find_last_head.ensures.kept c.lay_out_larger.ensures.runs c.move_pairs.ensures.runs c.sync.ensures.kept tells are head c.in_ok-lay_out_larger.ensures.laid_out c.in_ok-move_pairs.ensures.moved)
          c.become_second.ensures.runs;
      cause = search rules;
    }
