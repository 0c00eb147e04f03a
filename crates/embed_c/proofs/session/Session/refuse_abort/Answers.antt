use Rattle.std.proofs.Common.{◌∙◌, ℕ, subst, sym}
use Rattle.std.proofs.lemmas.Bool.{cond-false, cond-true}
use Rattle.embed_c.specs.Answers.{alone}
use Rattle.embed_c.specs.Calls.{DoesNothing}
use Rattle.embed_c.proofs.session.Session.refuse_abort.Goals as goal

pub returns-then-is_broken : goal.returns-then-is_broken
returns-then-is_broken c =
    let broken = c.args.self.now.store.engine.broken in
    subst (λ (n : ℕ). DoesNothing (alone n) c.args.self.now c.refuse.new.self c.refuse.result) (sym (cond-true {A = ℕ} broken 5 19 (sym c.is_broken.ensures ∙ c.if-is_broken.true))) c.refuse.ensures

pub returns : goal.returns
returns c =
    let broken = c.args.self.now.store.engine.broken in
    subst (λ (n : ℕ). DoesNothing (alone n) c.args.self.now c.refuse-2.new.self c.refuse-2.result) (sym (cond-false {A = ℕ} broken 5 19 (sym c.is_broken.ensures ∙ c.if-is_broken.false))) c.refuse-2.ensures
