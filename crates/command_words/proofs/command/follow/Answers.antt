use Rattle.std.proofs.Common.{◌∙◌, ap, codes}
use Rattle.std.proofs.lemmas.Result.{IfOk-weaker}
use Rattle.clap.specs.Words.{App, new_app, rule_of}
use Rattle.clap.specs.declared.builder.arg.Arg.{Arg}
use Rattle.command_words.specs.Commands.{flag}
use Rattle.command_words.proofs.CommandLemmas.{about_app, about_local, arg_added, arg_local}
use Rattle.command_words.proofs.command.follow.Goals as goal

pub returns : goal.returns
returns c =
    let rule = ap rule_of c.help-same.ensures ∙ c.flag.ensures.rule in
    let free = ap (λ (a : Arg). a.global) c.help-same.ensures ∙ c.flag.ensures.local in
    let old = about_app _ _ c.about.ensures ∙ c.new.ensures.app in
    let local = about_local _ _ c.about.ensures c.new.ensures.local in
    IfOk-weaker c.arg.result _ _ (λ m adds. (ap (λ (a : App). a.top) (arg_added (new_app (codes "follow")) (flag (codes "same")) adds old rule free), arg_local adds local free)) c.arg.ensures
