use Rattle.std.proofs.Common.{◌∙◌, ap, refl, sym}
use Rattle.embed_c.specs.declared.answer.Answer.{Answer}
use Rattle.embed_c.proofs.Transacting.{is_within, none_within}
use Rattle.embed_c.proofs.Untaken.{untaken}
use Rattle.embed_c.proofs.session.Session.stage.Goals as goal

pub returns-in_default : goal.returns-in_default
returns-in_default c = none_within _ c.args.self.now.staging (sym c.replace.ensures.value ∙ c.in_default.is)

pub returns : goal.returns
returns c =
    let e = c.stage-made.ensures in
    is_within _ c.args.self.now.staging (sym c.replace.ensures.value ∙ c.in-Some.is) (record {
      made = c.stage-made.result;
      after = c.stage-made.new.transaction;
      store = record { reads = e.reads; staged = e.staged; broken = e.broken };
      staging = refl;
      number = ap (λ (a : Answer). a.number) c.exec_answer-answer.ensures;
      detail = ap (λ (a : Answer). a.detail) c.exec_answer-answer.ensures;
      untaken = untaken e.time;
      taken = refl;
      pairs = refl;
      snapshot = refl;
    })
