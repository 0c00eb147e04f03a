use Rattle.std.proofs.Common.{[], refl, sym, arith}
use Rattle.std.proofs.lemmas.List.{append-nil}
use Rattle.disk_model.specs.Call.{Sync}
use Rattle.disk_model.specs.declared.entry.Entry.TheVariants.{Synced}
use Rattle.disk_model.proofs.Added.{still_whole, one_more}
use Rattle.disk_model.proofs.call_history.CallHistory.add_sync.Goals as goal

pub invariant_of-self : goal.invariant_of-self
invariant_of-self c =
    let r = c.args.self.now in
    record {
      room = omega (arith, r.room, c.add.ensures.capacity);
      whole = still_whole r.entries.items c.add.new.entries.items r.pool.bytes.items r.pool.bytes.items [] r.whole (Synced c.args.file) c.add.ensures.items (sym (append-nil r.pool.bytes.items)) (omega arith);
    }

pub returns-clause-calls : goal.returns-clause-calls
returns-clause-calls c =
    let r = c.args.self.now in
    one_more r.entries.items c.add.new.entries.items r.pool.bytes.items r.pool.bytes.items [] r.whole (Synced c.args.file) c.add.ensures.items (sym (append-nil r.pool.bytes.items)) (Sync c.args.file) refl
