use Rattle.std.proofs.Common.{◌∙◌, ap, refl, sym}
use Rattle.embed_c.specs.declared.answer.Answer.{Answer}
use Rattle.embed_c.proofs.Transacting.{is_within, none_within}
use Rattle.embed_c.proofs.Untaken.{untaken}
use Rattle.embed_c.proofs.session.Session.see.Goals as goal

pub returns-in_default : goal.returns-in_default
returns-in_default c = none_within _ c.args.self.now.staging (sym c.replace.ensures.value ∙ c.in_default.is)

pub returns : goal.returns
returns c =
    let e = c.staged_value-made.ensures in
    is_within _ c.args.self.now.staging (sym c.replace.ensures.value ∙ c.in-Some.is) (record {
      made = c.staged_value-made.result;
      after = c.in-Some.transaction;
      store = (record { reads = e.reads; value = e.value; broken = e.broken; same = refl }, c.put_length.ensures);
      staging = refl;
      number = ap (λ (a : Answer). a.number) c.seen_answer-answer.ensures;
      detail = ap (λ (a : Answer). a.detail) c.seen_answer-answer.ensures;
      untaken = untaken e.time;
      taken = refl;
      pairs = refl;
      snapshot = refl;
    })
