use Rattle.std.proofs.Common.{◌∙◌, ap, refl, sym, subst, Option, Some}
use Rattle.op_codec.specs.AllOps.{AllOps, all_meaning}
use Rattle.store_engine.specs.Engine.{params_of}
use Rattle.transactions.specs.Snapshots.{Covers}
use Rattle.transactions.specs.declared.transaction.Transaction.{Transaction}
use Rattle.embed_c.specs.Snapshots.{KeepsStagedFor}
use Rattle.embed_c.specs.declared.answer.Answer.{Answer}
use Rattle.embed_c.proofs.Snapshotting.{keeps, keeps_none}
use Rattle.embed_c.proofs.Untaken.{untaken}
use Rattle.embed_c.proofs.session.Session.keep_staged.Goals as goal

pub returns-in_default : goal.returns-in_default
returns-in_default c = subst (λ (o : Option (Transaction AllOps)). KeepsStagedFor o c.args.self.now c.refuse.new.self c.refuse.result) (sym c.in_default.is) c.refuse.ensures

pub returns-in_default-replace : goal.returns-in_default-replace
returns-in_default-replace c =
    let none = sym c.replace.ensures.value ∙ c.in_default-replace.is in
    let done = c.refuse-in_default-replace.ensures in
    subst (λ (o : Option (Transaction AllOps)). KeepsStagedFor o c.args.self.now c.refuse-in_default-replace.new.self c.refuse-in_default-replace.result) (sym c.in-Some.is)
    (keeps_none c.args.self.now c.refuse-in_default-replace.new.self c.refuse-in_default-replace.result (λ s. Covers all_meaning (params_of c.args.self.now.store.engine) s c.in-Some.transaction.ops.items) c.args.self.now.snapshot none
    (record { number = done.number; detail = done.detail; store = done.store; taken = done.taken; pairs = done.pairs; snapshot = done.snapshot ∙ c.replace.ensures.after ∙ sym none; staging = done.staging }))

pub returns : goal.returns
returns c =
    let e = c.keep_staged.ensures in
    subst (λ (o : Option (Transaction AllOps)). KeepsStagedFor o c.args.self.now (record c.args.self.now { store = c.keep_staged.new.self; snapshot = Some c.keep_staged.new.snapshot; detail = c.done.result.detail }) 0) (sym c.in-Some.is)
    (keeps c.args.self.now (record c.args.self.now { store = c.keep_staged.new.self; snapshot = Some c.keep_staged.new.snapshot; detail = c.done.result.detail }) 0 (λ s. Covers all_meaning (params_of c.args.self.now.store.engine) s c.in-Some.transaction.ops.items) c.args.self.now.snapshot c.in-Some-replace.snapshot (sym c.replace.ensures.value ∙ c.in-Some-replace.is) (record {
      after = c.keep_staged.new.snapshot;
      store = record { reads = e.reads; whole = e.whole; kept = e.covers; on = e.on; stands = e.stands; same = e.snapshot; broken = e.broken };
      snapshot = refl;
      number = refl;
      detail = ap (λ (a : Answer). a.detail) c.done.ensures;
      untaken = untaken e.time;
      taken = refl;
      pairs = refl;
      staging = refl;
    }))
