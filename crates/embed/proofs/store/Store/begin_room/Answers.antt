use Rattle.disk_model.specs.Moments.{passes_none}
use Rattle.embed.proofs.Grouped.{begun_room, none_open}
use Rattle.embed.proofs.Passing.{barred_by_group}
use Rattle.embed.proofs.store.Store.begin_room.Goals as goal

pub returns-then-is_broken-clause-time : goal.returns-then-is_broken-clause-time
returns-then-is_broken-clause-time g c = passes_none _

pub returns-then-lacks_room-clause-time : goal.returns-then-lacks_room-clause-time
returns-then-lacks_room-clause-time g c = passes_none _

pub returns-then-lacks_room-clause-in_group : goal.returns-then-lacks_room-clause-in_group
returns-then-lacks_room-clause-in_group g c = λ unbroken. none_open _ c.args.self.now.engine.parts.log.next c.args.self.now.engine.group (c.lacks_room.ensures.lacks c.if-lacks_room.true).0

pub returns-then-lacks_room-clause-alone : goal.returns-then-lacks_room-clause-alone
returns-then-lacks_room-clause-alone g c = λ unbroken none room. absurd ((c.lacks_room.ensures.lacks c.if-lacks_room.true).1 room)

pub returns-clause-time : goal.returns-clause-time
returns-clause-time g c = barred_by_group g.M.Machine.disk c.args.self.now.engine c.begin.new.self c.begin.result c.args.self.now.engine.parts.log.next c.args.self.now.engine.group c.begin.ensures.in_group (λ none. (c.begin.ensures.alone none).2.call.time)

pub returns-clause-in_group : goal.returns-clause-in_group
returns-clause-in_group g c = λ unbroken. c.begin.ensures.in_group

pub returns-clause-full : goal.returns-clause-full
returns-clause-full g c = λ unbroken none full. absurd (full (c.lacks_room.ensures.has c.if-lacks_room.false none))

pub returns-clause-alone : goal.returns-clause-alone
returns-clause-alone g c = λ unbroken none room. c.begin.ensures.alone none

pub returns-clause-room : goal.returns-clause-room
returns-clause-room g c = λ unbroken none p commands holds.
    let disk = g.M.Machine.disk in
    let call = c.begin.ensures.alone none in
    begun_room (disk c.args.self.now.machine) (disk c.begin.new.machine) c.args.self.now.engine c.begin.new.self p commands holds c.args.bytes
    (c.lacks_room.ensures.has c.if-lacks_room.false none) call.0 c.begin.result call.1 call.2
