use Rattle.std.proofs.Common.{◌+◌, ◌<◌, ◌^◌, arith}
use Rattle.std.proofs.Math.Facts.{Fits-of_lt}
use Rattle.number_lists.proofs.Placed.{few-all}
use Rattle.number_lists.proofs.number_set.NumberSet.make_room.Goals as goal

pub overflow_add-end : goal.overflow_add-end
overflow_add-end c =
    let lt : c.self.inside.end + c.args.count < 2 ^ 64 = omega (arith, c.self.invariant.2, c.requires) in
    Fits-of_lt lt

pub overflow_sub-end : goal.overflow_sub-end
overflow_sub-end c =
    let few = few-all c.self.inside.members.items c.self.inside.place.items c.self.invariant.0 in
    omega (arith, few, c.len.ensures, c.self.inside.members.ok.0, c.self.invariant.1)

pub overflow_sub-end-2 : goal.overflow_sub-end-2
overflow_sub-end-2 c = omega (arith, c.len-2.ensures, c.self.inside.place.ok.0, c.self.invariant.1)
