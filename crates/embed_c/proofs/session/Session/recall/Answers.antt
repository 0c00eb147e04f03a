use Rattle.std.proofs.Common.{◌∙◌, ap, refl, sym, Some}
use Rattle.embed_c.specs.declared.answer.Answer.{Answer}
use Rattle.embed_c.proofs.Snapshotting.{recalls, recalls_none}
use Rattle.embed_c.proofs.Untaken.{untaken}
use Rattle.embed_c.proofs.session.Session.recall.Goals as goal

pub returns-in_default : goal.returns-in_default
returns-in_default c =
    let none = sym c.replace.ensures.value ∙ c.in_default.is in
    let done = c.refuse.ensures in
    recalls_none c.args.self.now c.refuse.new.self c.refuse.result c.args.object c.args.into.now c.args.into.now c.args.length.now c.args.self.now.snapshot none
    (record { number = done.number; detail = done.detail; store = done.store; taken = done.taken; pairs = done.pairs; snapshot = done.snapshot ∙ c.replace.ensures.after ∙ sym none; staging = done.staging })

pub returns : goal.returns
returns c =
    let e = c.snapshot_value-made.ensures in
    let some = sym c.replace.ensures.value ∙ c.in-Some.is in
    recalls c.args.self.now (record c.args.self.now { store = c.snapshot_value-made.new.self; snapshot = Some c.in-Some.snapshot; detail = c.recalled_answer-answer.result.detail }) c.recalled_answer-answer.result.number c.args.object c.args.into.now c.snapshot_value-made.new.into c.put_length.new.length c.args.self.now.snapshot c.in-Some.snapshot some (record {
      made = c.snapshot_value-made.result;
      store = (record { reads = e.reads; value = e.value; given_up = e.given_up; stands = e.stands; broken = e.broken }, c.put_length.ensures);
      number = ap (λ (a : Answer). a.number) c.recalled_answer-answer.ensures;
      detail = ap (λ (a : Answer). a.detail) c.recalled_answer-answer.ensures;
      untaken = untaken e.time;
      taken = refl;
      pairs = refl;
      snapshot = sym some;
      staging = refl;
    })
