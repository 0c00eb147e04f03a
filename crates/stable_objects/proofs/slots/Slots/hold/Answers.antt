use Rattle.stable_objects.proofs.Holding.{held_inside, held_renewed}
use Rattle.stable_objects.proofs.Replaced.{slot_room}
use Rattle.std.proofs.Common.{arith}
use Rattle.stable_objects.proofs.slots.Slots.hold.Goals as goal

pub index_mut-requires : goal.index_mut-requires
index_mut-requires c =
    let room = slot_room _ c.args.self.now c.args.object c.spare-slot.result c.self.view_is c.self.invariant c.requires.object c.spare-slot.ensures in
    omega (arith, room, c.self.inside.heads.ok.0)

pub returns-clause-held : goal.returns-clause-held
returns-clause-held c = held_inside _ c.args.self.now c.args.object c.spare-slot.result c.args.lsn c.args.length c.self.view_is c.self.invariant c.requires.object c.spare-slot.ensures

pub returns-clause-renewed : goal.returns-clause-renewed
returns-clause-renewed c =
    held_renewed c.args.self.now _ c.args.object c.args.lsn c.args.length
    (held_inside _ c.args.self.now c.args.object c.spare-slot.result c.args.lsn c.args.length c.self.view_is c.self.invariant c.requires.object c.spare-slot.ensures) c.requires.later
