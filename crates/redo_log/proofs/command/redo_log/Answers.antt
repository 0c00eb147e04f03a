use Rattle.std.proofs.Common.{◌∙◌, ap, codes}
use Rattle.std.proofs.lemmas.Result.{IfOk-weaker}
use Rattle.clap.specs.Words.{App, new_app, rule_of, with_rule}
use Rattle.clap.specs.declared.builder.arg.Arg.{Arg}
use Rattle.redo_log.specs.Commands.{flag, number, text}
use Rattle.redo_log.proofs.CommandLemmas.{about_app, after_app, arg_added}
use Rattle.redo_log.proofs.command.redo_log.Goals as goal

abbrev none : App
none = new_app (codes "redo_log")

abbrev one : App
one = with_rule none (number (codes "from"))

abbrev two : App
two = with_rule one (number (codes "to"))

abbrev three : App
three = with_rule two (number (codes "object"))

abbrev four : App
four = with_rule three (text (codes "kind"))

abbrev five : App
five = with_rule four (flag (codes "stats"))

pub returns : goal.returns
returns c =
    let from = ap rule_of c.help-from.ensures ∙ c.number.ensures.rule in
    let to = ap rule_of c.help-to.ensures ∙ c.number-2.ensures.rule in
    let object = ap rule_of c.help-object.ensures ∙ c.number-3.ensures.rule in
    let kind = ap rule_of c.help-kind.ensures ∙ c.text.ensures.rule in
    let stats = ap rule_of c.help-stats.ensures ∙ c.flag.ensures.rule in
    let glance = ap rule_of c.help-glance.ensures ∙ c.flag-2.ensures.rule in
    let free_from = ap (λ (a : Arg). a.global) c.help-from.ensures ∙ c.number.ensures.local in
    let free_to = ap (λ (a : Arg). a.global) c.help-to.ensures ∙ c.number-2.ensures.local in
    let free_object = ap (λ (a : Arg). a.global) c.help-object.ensures ∙ c.number-3.ensures.local in
    let free_kind = ap (λ (a : Arg). a.global) c.help-kind.ensures ∙ c.text.ensures.local in
    let free_stats = ap (λ (a : Arg). a.global) c.help-stats.ensures ∙ c.flag.ensures.local in
    let free_glance = ap (λ (a : Arg). a.global) c.help-glance.ensures ∙ c.flag-2.ensures.local in
    let named = after_app _ _ c.after_help.ensures ∙ about_app _ _ c.about.ensures ∙ c.new.ensures.app in
    let first = arg_added none _ c.in_ok-arg.ensures named from free_from in
    let second = arg_added one _ c.in_ok-arg-2.ensures first to free_to in
    let third = arg_added two _ c.in_ok-arg-3.ensures second object free_object in
    let fourth = arg_added three _ c.in_ok-arg-4.ensures third kind free_kind in
    let fifth = arg_added four _ c.in_ok-arg-5.ensures fourth stats free_stats in
    IfOk-weaker c.arg-6.result _ _ (λ m adds. arg_added five _ adds fifth glance free_glance) c.arg-6.ensures
