use Rattle.std.proofs.Common.{◌∙◌, List, ℕ, ap, refl, subst, inl, inr}
use Rattle.op_codec.specs.AllOps.{AllOps, plain}
use Rattle.op_meaning.specs.declared.plain_op.PlainOp.TheVariants.{Put}
use Rattle.embed_c.specs.declared.answer.Answer.{Answer}
use Rattle.embed_c.specs.Staging.{Runs}
use Rattle.embed_c.proofs.session.Session.put.Goals as goal

pub returns-in-Ok : goal.returns-in-Ok
returns-in-Ok c = inl (subst (λ (op : AllOps). Runs op c.args.self.now c.exec.new.self c.exec.result)
    (c.plain_op.ensures ∙ ap (λ (l : List ℕ). plain (Put c.args.object l)) (c.new.ensures ∙ c.in-Ok.ensures.items)) c.exec.ensures)

pub returns-in-Err : goal.returns-in-Err
returns-in-Err c = inr (record { number = refl; detail = ap (λ (a : Answer). a.detail) c.alone.ensures; store = refl; taken = refl; pairs = refl; snapshot = refl; staging = refl })
