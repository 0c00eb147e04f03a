use Rattle.std.proofs.Common.{◌≡◌, ◌∙◌, sym, ap, subst, rules, List, ℕ, ◌∷◌, map}
use Rattle.std.proofs.lemmas.Result.{IfOk-weaker}
use Rattle.resp_words.specs.Commands.{HasCause, IsCommand}
use Rattle.resp_words.specs.Reading.{Reads}
use Rattle.resp_words.proofs.Arrays.{command_none}
use Rattle.resp_words.proofs.command.next_words.Goals as goal

pub returns-in_default : goal.returns-in_default
returns-in_default c = command_none c.args.limits c.args.bytes.now (search rules)

pub returns-then-first-eq42 : goal.returns-then-first-eq42
returns-then-first-eq42 c =
    let is : c.args.bytes.now ≡ 42 ∷ c.in-Some.rest.now = c.in-Some.ensures.cases.0 ∙ ap (λ (b : ℕ). b ∷ c.in-Some.rest.now) c.if-first-eq42.true in
    IfOk-weaker c.next_array.result _ _ (λ found read. subst (λ (l : List ℕ). Reads (IsCommand c.args.limits) (λ x. map (λ word. word.now) x.0.items) (λ x. x.1.now) (HasCause c.args.limits l) l found) (sym is) read) c.next_array.ensures
