use Rattle.std.proofs.Common.{arith}
use Rattle.std.specs.Prelude.{Some}
use Rattle.disk_model.specs.Moments.{passes_twice}
use Rattle.running_store.specs.Taking.Ending.{Done}
use Rattle.store_engine.specs.Lists.{ending_of}
use Rattle.transactions.proofs.Committed.{all_left, cut_left, full_left, is_true, moments, not_true, room_for, room_of}
use Rattle.transactions.proofs.RoomLemmas.{cut_off}
use Rattle.transactions.proofs.committing.commit.Goals as goal

pub returns-in-Err-clause-images : goal.returns-in-Err-clause-images
returns-in-Err-clause-images g c = λ told p commands holds accepted. c.in-Err.ensures.images told p commands holds

pub returns-then-not-has_room-clause-images : goal.returns-then-not-has_room-clause-images
returns-then-not-has_room-clause-images g c = λ told p commands holds accepted. c.in_default.ensures.images told p commands holds

pub returns-then-not-has_room-clause-left : goal.returns-then-not-has_room-clause-left
returns-then-not-has_room-clause-left g c = λ p commands holds accepted bytes lsns.
    let disk = g.M.Machine.disk in
    let begun = c.in_default.ensures.begun p commands holds in
    full_left g.O.Oper.meaning p (disk c.args.machine.now) (disk c.begin.new.machine) c.args.engine.now c.begin.new.engine commands c.args.ops.now.items begun c.close.new.engine c.close.ensures.kept
    (c.close.ensures.holds p commands begun.holds)
    (λ room. not_true c.has_room.result c.if-not-has_room.true
    (c.has_room.ensures.seen (room_of g.O.Oper.meaning p (disk c.args.machine.now) (disk c.begin.new.machine) c.args.engine.now c.begin.new.engine commands c.args.ops.now.items begun c.args.bytes bytes c.begin.ensures.params room)))

pub returns-in-Err-run_all-clause-left : goal.returns-in-Err-run_all-clause-left
returns-in-Err-run_all-clause-left g c = λ p commands holds accepted bytes lsns.
    let disk = g.M.Machine.disk in
    let begun = c.in_default.ensures.begun p commands holds in
    let adds = c.in-Err-run_all.ensures.adds p commands begun.holds accepted in
    let room = room_for g.O.Oper.meaning p (disk c.args.machine.now) (disk c.begin.new.machine) c.args.engine.now c.begin.new.engine commands c.args.ops.now.items begun c.args.bytes bytes c.begin.ensures.params
    (c.has_room.ensures.roomy (is_true c.has_room.result c.if-not-has_room.false)) in (
      cut_off g.O.Oper.meaning p (disk c.begin.new.machine) c.begin.new.engine begun.holds.world begun.holds.shows c.args.ops.now.items room (omega (arith, begun.next, lsns)) (disk c.run_all.new.machine) c.run_all.new.engine commands
          c.in-Err-run_all.e (c.in-Err-run_all.ensures.unrefused p commands begun.holds accepted) adds,
      cut_left g.O.Oper.meaning p (disk c.args.machine.now) (disk c.begin.new.machine) c.args.engine.now c.begin.new.engine commands c.args.ops.now.items begun (disk c.run_all.new.machine) c.run_all.new.engine (ending_of (Some c.in-Err-run_all.e)) adds,
    )

pub returns-in-Err-run_all-clause-images : goal.returns-in-Err-run_all-clause-images
returns-in-Err-run_all-clause-images g c = λ told p commands holds accepted.
    let disk = g.M.Machine.disk in
    let begun = c.in_default.ensures.begun p commands holds in
    moments g.O.Oper.meaning p (disk c.args.machine.now) (disk c.begin.new.machine) c.args.engine.now c.begin.new.engine commands c.args.ops.now.items begun (disk c.run_all.new.machine) c.run_all.new.engine (ending_of (Some c.in-Err-run_all.e))
    (c.in-Err-run_all.ensures.adds p commands begun.holds accepted) told c.begin.ensures.time (c.in_default.ensures.images told p commands holds)

pub returns-clause-left : goal.returns-clause-left
returns-clause-left g c = λ p commands holds accepted bytes lsns.
    let disk = g.M.Machine.disk in
    let begun = c.in_default.ensures.begun p commands holds in
    all_left g.O.Oper.meaning p (disk c.args.machine.now) (disk c.begin.new.machine) c.args.engine.now c.begin.new.engine commands c.args.ops.now.items begun (disk c.run_all.new.machine) c.run_all.new.engine c.close-2.new.engine
    (c.in_default-run_all.ensures.adds p commands begun.holds accepted) (λ all there. c.close-2.ensures.holds p all there) c.close-2.ensures.kept

pub returns-clause-images : goal.returns-clause-images
returns-clause-images g c = λ told p commands holds accepted.
    let disk = g.M.Machine.disk in
    let begun = c.in_default.ensures.begun p commands holds in
    moments g.O.Oper.meaning p (disk c.args.machine.now) (disk c.begin.new.machine) c.args.engine.now c.begin.new.engine commands c.args.ops.now.items begun (disk c.run_all.new.machine) c.run_all.new.engine Done
    (c.in_default-run_all.ensures.adds p commands begun.holds accepted) told c.begin.ensures.time (c.in_default.ensures.images told p commands holds)

pub returns-in-Err-clause-time : goal.returns-in-Err-clause-time
returns-in-Err-clause-time g c = c.begin.ensures.time

pub returns-then-not-has_room-clause-time : goal.returns-then-not-has_room-clause-time
returns-then-not-has_room-clause-time g c = c.begin.ensures.time

pub returns-in-Err-run_all-clause-time : goal.returns-in-Err-run_all-clause-time
returns-in-Err-run_all-clause-time g c =
    let disk = g.M.Machine.disk in
    passes_twice (disk c.args.machine.now) (disk c.begin.new.machine) (disk c.run_all.new.machine) (g.met.M.Machine.lawful c.run_all.new.machine) c.begin.ensures.time c.run_all.ensures.calls.call.time

pub returns-clause-time : goal.returns-clause-time
returns-clause-time g c =
    let disk = g.M.Machine.disk in
    passes_twice (disk c.args.machine.now) (disk c.begin.new.machine) (disk c.run_all.new.machine) (g.met.M.Machine.lawful c.run_all.new.machine) c.begin.ensures.time c.run_all.ensures.calls.call.time
