use Rattle.std.proofs.Common.{List, ◌++◌, subst}
use Rattle.disk_model.specs.Call as disk
use Rattle.write_queue.specs.Memory.{waiting_in}
use Rattle.embed_c.specs.Next.{IsNext, left_in}
use Rattle.embed_c.proofs.Left.{goes_on}
use Rattle.embed_c.proofs.session.Session.next_call.Goals as goal

pub returns : goal.returns
returns c =
    let behind = waiting_in c.refill.new.self.store.machine in
    record {
      next = subst (λ (queue : List disk.Call). IsNext queue (left_in c.next.new.self ++ behind) c.next.new.call c.args.into.now c.next.new.into c.next.result) c.refill.ensures.pending
          (goes_on c.next.new.call c.args.into.now c.next.new.into c.next.result (left_in c.refill.new.self.taken) (left_in c.next.new.self) behind c.refill.ensures.first c.next.ensures);
      store = c.refill.ensures.store;
      detail = c.refill.ensures.detail;
      pairs = c.refill.ensures.pairs;
      snapshot = c.refill.ensures.snapshot;
      staging = c.refill.ensures.staging;
    }
