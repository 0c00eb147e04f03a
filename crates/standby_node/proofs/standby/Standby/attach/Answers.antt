use Rattle.std.proofs.Common.{inl, refl}
use Rattle.explain_core.specs.World.{run}
use Rattle.restart.specs.Courses.{redo_marks, restart_course}
use Rattle.restart.specs.Opening.{OpensOn}
use Rattle.store_engine.specs.ImageLaws.{stands_end}
use Rattle.store_engine.specs.Store.{meaning_in}
use Rattle.standby_node.proofs.Attached.{follows_from, begins_on, shown_in}
use Rattle.standby_node.proofs.standby.Standby.attach.Goals as goal

pub invariant_of-result : goal.invariant_of-result
invariant_of-result g c =
    let ready = c.in_ok-restart.ensures.ready in
    (record { group = ready.1; copied = ready.2 }, inl refl)

pub returns-clause-begins : goal.returns-clause-begins
returns-clause-begins g c p commands opens =
    let meaning = g.O.Oper.meaning in
    let m = meaning_in meaning p in
    let old = g.M.Machine.disk c.args.machine.now in
    let new = g.M.Machine.disk c.restart.new.machine in
    let place = stands_end meaning opens.stands in
    let there = c.files_show_a_world.ensures p old.reads commands opens.stands in
    let w = there.0 in
    let found = there.1 in
    let on : OpensOn m p old place.0 w = record { told = opens.told; sound = found.sound; shows = found.shows; ends = place.1 } in
    let marks = redo_marks c.args.tuning p in
    let ready = c.in_ok-restart.ensures.ready in
    begins_on meaning p new w marks place.0 c.in_ok-restart.field-0 c.new.result ready.0 ready.1 c.new.ensures.passed (c.in_ok-restart.ensures.follows p place.0 w on).shows found.sound.forced old.reads commands found
    (c.in_ok-restart.ensures.holds p commands opens).1

pub returns-clause-follows : goal.returns-clause-follows
returns-clause-follows g c p used w on =
    let new = g.M.Machine.disk c.restart.new.machine in
    let ready = c.in_ok-restart.ensures.ready in
    follows_from g.O.Oper.meaning p new w (redo_marks c.args.tuning p) used c.in_ok-restart.field-0 c.new.result ready.0 ready.1 c.new.ensures.passed (c.in_ok-restart.ensures.follows p used w on).shows on.sound.forced

pub returns-clause-shows : goal.returns-clause-shows
returns-clause-shows g c p used w on =
    let meaning = g.O.Oper.meaning in
    let m = meaning_in meaning p in
    let ready = c.in_ok-restart.ensures.ready in
    shown_in meaning p (g.M.Machine.disk c.restart.new.machine) c.in_ok-restart.field-0 (run m w (restart_course m (redo_marks c.args.tuning p) w used).steps) ready.0 ready.1 (c.in_ok-restart.ensures.follows p used w on).shows
