use Rattle.std.proofs.Common.{length, arith}
use Rattle.disk_model.specs.Call.{Say}
use Rattle.disk_model.specs.declared.entry.Entry.TheVariants.{Said}
use Rattle.disk_model.proofs.Added.{still_whole, one_more, all_said}
use Rattle.disk_model.proofs.call_history.CallHistory.add_say.Goals as goal

pub invariant_of-self : goal.invariant_of-self
invariant_of-self c =
    let r = c.args.self.now in
    record {
      room = omega (arith, r.room, c.add.ensures.capacity);
      whole = still_whole r.entries.items c.add.new.entries.items r.pool.bytes.items c.append.new.self.bytes.items c.args.bytes.now r.whole (Said (length c.args.bytes.now)) c.add.ensures.items c.append.ensures.bytes (omega arith);
    }

pub returns-clause-calls : goal.returns-clause-calls
returns-clause-calls c =
    let r = c.args.self.now in
    one_more r.entries.items c.add.new.entries.items r.pool.bytes.items c.append.new.self.bytes.items c.args.bytes.now r.whole (Said (length c.args.bytes.now)) c.add.ensures.items c.append.ensures.bytes (Say c.args.bytes.now) (all_said c.args.bytes.now)
