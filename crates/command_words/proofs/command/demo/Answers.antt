use Rattle.std.proofs.Common.{◌≡◌, ◌∙◌, ap, codes}
use Rattle.std.proofs.lemmas.Result.{IfOk-weaker}
use Rattle.clap.specs.Words.{App, new_app, rule_of, with_rule}
use Rattle.clap.specs.declared.builder.arg.Arg.{Arg}
use Rattle.command_words.specs.Commands.{any, between, option}
use Rattle.command_words.proofs.CommandLemmas.{about_app, about_local, arg_added, arg_local}
use Rattle.command_words.proofs.command.demo.Goals as goal

abbrev first : App
first = with_rule (new_app (codes "demo")) (option (codes "seed") any)

pub returns : goal.returns
returns c =
    let r1 : c.value_parser.result ≡ any = c.value_parser.ensures in
    let r2 : c.range.result ≡ between 0 1000000 = rw (c.value_parser-2.ensures, c.new.ensures.start, c.new.ensures.end) at c.range.ensures in
    let n1 = ap rule_of c.help-seed.ensures ∙ c.option.ensures.rule ∙ ap (option (codes "seed")) r1 in
    let n2 = ap rule_of c.help-steps.ensures ∙ c.option-2.ensures.rule ∙ ap (option (codes "steps")) r2 in
    let f1 = ap (λ (a : Arg). a.global) c.help-seed.ensures ∙ c.option.ensures.local in
    let f2 = ap (λ (a : Arg). a.global) c.help-steps.ensures ∙ c.option-2.ensures.local in
    let one = arg_added (new_app (codes "demo")) _ c.in_ok-arg.ensures (about_app _ _ c.about.ensures ∙ c.new-2.ensures.app) n1 f1 in
    let local = arg_local c.in_ok-arg.ensures (about_local _ _ c.about.ensures c.new-2.ensures.local) f1 in
    IfOk-weaker c.arg-2.result _ _ (λ m adds. (ap (λ (a : App). a.top) (arg_added first _ adds one n2 f2), arg_local adds local f2)) c.arg-2.ensures
