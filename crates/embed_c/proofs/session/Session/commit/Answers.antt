use Rattle.std.proofs.Common.{◌∙◌, Option, ap, refl, subst, sym}
use Rattle.op_codec.specs.AllOps.{AllOps}
use Rattle.transactions.specs.declared.transaction.Transaction.{Transaction}
use Rattle.embed_c.specs.Staging.{CommitsFor, told_commit}
use Rattle.embed_c.specs.declared.answer.Answer.{Answer}
use Rattle.embed_c.proofs.Transacting.{commits}
use Rattle.embed_c.proofs.Untaken.{untaken}
use Rattle.embed_c.proofs.session.Session.commit.Goals as goal

pub returns-in_default : goal.returns-in_default
returns-in_default c =
    let none = sym c.replace.ensures.value ∙ c.in_default.is in
    let done = c.refuse.ensures in
    subst (λ (o : Option (Transaction AllOps)). CommitsFor o c.args.self.now c.refuse.new.self c.refuse.result) (sym none)
    (record { number = done.number; detail = done.detail; store = done.store; taken = done.taken; pairs = done.pairs; snapshot = done.snapshot; staging = done.staging ∙ c.replace.ensures.after ∙ sym none })

pub returns : goal.returns
returns c =
    let e = c.commit-made.ensures in
    let told = c.commit_answer-answer.ensures ∙ (λ i. told_commit (c.stat.ensures.used i) (c.bytes-bytes.ensures i) (c.params.ensures i).limit c.commit-made.result) in
    commits c.args.self.now.staging c.args.self.now (record c.args.self.now { store = c.commit-made.new.self; staging = c.kept.result; detail = c.commit_answer-answer.result.detail }) c.commit_answer-answer.result.number
    (sym c.replace.ensures.value ∙ c.in-Some.is) (record {
      made = c.commit-made.result;
      after = c.commit-made.new.transaction;
      store = record { left = e.left; images = e.images tt; kept = e.kept; broken = e.broken };
      staging = c.kept.ensures;
      number = ap (λ (a : Answer). a.number) told;
      detail = ap (λ (a : Answer). a.detail) told;
      untaken = untaken e.time;
      taken = refl;
      pairs = refl;
      snapshot = refl;
    })
