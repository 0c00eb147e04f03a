use Rattle.std.proofs.Common.{◌+◌, ◌<◌, ◌≤◌, ap, sym, arith, length, [], List}
use Rattle.std.specs.Prelude.{◌^◌}
use Rattle.explain_core.specs.World.{Step}
use Rattle.log_blocks.specs.LogView.{used_of}
use Rattle.log_records.specs.RecordLog.{RecordLogView}
use Rattle.running_store.specs.Courses.Buffered.{room_force, room_none}
use Rattle.running_store.specs.Calls.{ending_of_force}
use Rattle.running_store.specs.Courses.{course, force_steps, room_steps}
use Rattle.running_store.specs.Courses.Stop.{Through}
use Rattle.running_store.specs.Taking.Ending.{Done}
use Rattle.running_store.specs.Taking.Laws.{takes_none, takes_same}
use Rattle.running_store.proofs.Inside.{forced_or_not}
use Rattle.running_store.proofs.store.Store.make_block_room.Goals as goal

pub returns-then-buffered-room-clause-takes : goal.returns-then-buffered-room-clause-takes
returns-then-buffered-room-clause-takes g c =
    let d = g.M.Machine.disk c.args.machine.now in
    let it = c.args.self.now.parts in
    let fits : length it.log.log.pending + c.args.n ≤ 2 ^ 30 = omega (arith, c.if-buffered-room.true, c.buffered.ensures, ap (λ (l : RecordLogView). length l.log.pending) c.log.ensures, c.requires.short) in
    takes_same g.O.Oper.meaning d d it it (λ m w used. course [] used Through) (λ m w used. course (room_steps m w c.args.n) used Through) Done
    (λ p w shows. ap (λ (l : List (Step g.row.O.Denot)). course l (used_of it.log.log) Through) (sym (room_none _ d it.log w c.args.n shows.log fits)))
    (takes_none g.O.Oper.meaning d it (g.met.M.Machine.lawful c.args.machine.now))

pub returns-clause-takes : goal.returns-clause-takes
returns-clause-takes g c =
    let d = g.M.Machine.disk c.args.machine.now in
    let it = c.args.self.now.parts in
    let over : 2 ^ 30 < length it.log.log.pending + c.args.n = omega (arith, c.if-buffered-room.false, c.buffered.ensures, ap (λ (l : RecordLogView). length l.log.pending) c.log.ensures, c.requires.short) in
    takes_same g.O.Oper.meaning d (g.M.Machine.disk c.force.new.machine) it c.force.new.self.parts (λ m w used. course (force_steps m w) used Through) (λ m w used. course (room_steps m w c.args.n) used Through) (ending_of_force c.force.result)
    (λ p w shows. ap (λ (l : List (Step g.row.O.Denot)). course l (used_of it.log.log) Through) (sym (room_force _ d it.log w c.args.n shows.log over))) c.force.ensures.takes

pub returns-clause-same : goal.returns-clause-same
returns-clause-same g c = forced_or_not c.args.self.now c.force.new.self c.force.result c.force.ensures.forced
