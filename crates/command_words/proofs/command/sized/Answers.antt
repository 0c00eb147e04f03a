use Rattle.std.proofs.Common.{◌≡◌, ◌∙◌, ap, codes}
use Rattle.std.proofs.lemmas.Result.{IfOk-weaker}
use Rattle.clap.specs.Words.{App, Text, new_app, rule_of, with_rule}
use Rattle.clap.specs.declared.builder.arg.Arg.{Arg}
use Rattle.command_words.specs.Commands.{between, flag, number}
use Rattle.command_words.proofs.CommandLemmas.{about_app, about_local, arg_added, arg_local}
use Rattle.command_words.proofs.command.sized.Goals as goal

abbrev first : Text → App
first name = with_rule (new_app name) (number (codes "N") (between 1 65535))

abbrev second : Text → App
second name = with_rule (first name) (number (codes "CAP") (between 16 1048576))

abbrev third : Text → App
third name = with_rule (second name) (number (codes "LIMIT") (between 4128 536870912))

pub returns : goal.returns
returns c =
    let r1 : c.range.result ≡ between 1 65535 = rw (c.value_parser.ensures, c.new.ensures.start, c.new.ensures.end) at c.range.ensures in
    let r2 : c.range-2.result ≡ between 16 1048576 = rw (c.value_parser-2.ensures, c.new-2.ensures.start, c.new-2.ensures.end) at c.range-2.ensures in
    let r3 : c.range-3.result ≡ between 4128 536870912 = rw (c.value_parser-3.ensures, c.new-3.ensures.start, c.new-3.ensures.end) at c.range-3.ensures in
    let n1 = ap rule_of c.help-objects.ensures ∙ c.number.ensures.rule ∙ ap (number (codes "N")) r1 in
    let n2 = ap rule_of c.help-cap.ensures ∙ c.number-2.ensures.rule ∙ ap (number (codes "CAP")) r2 in
    let n3 = ap rule_of c.help-limit.ensures ∙ c.number-3.ensures.rule ∙ ap (number (codes "LIMIT")) r3 in
    let f1 = ap (λ (a : Arg). a.global) c.help-objects.ensures ∙ c.number.ensures.local in
    let f2 = ap (λ (a : Arg). a.global) c.help-cap.ensures ∙ c.number-2.ensures.local in
    let f3 = ap (λ (a : Arg). a.global) c.help-limit.ensures ∙ c.number-3.ensures.local in
    let one = arg_added (new_app c.args.name.now) _ c.in_ok-arg.ensures (about_app _ _ c.about.ensures ∙ c.new-4.ensures.app) n1 f1 in
    let two = arg_added (first c.args.name.now) _ c.in_ok-arg-2.ensures one n2 f2 in
    let three = arg_added (second c.args.name.now) _ c.in_ok-arg-3.ensures two n3 f3 in
    let rule = ap rule_of c.help-pages.ensures ∙ c.flag.ensures.rule in
    let free = ap (λ (a : Arg). a.global) c.help-pages.ensures ∙ c.flag.ensures.local in
    let local = arg_local c.in_ok-arg-3.ensures (arg_local c.in_ok-arg-2.ensures (arg_local c.in_ok-arg.ensures (about_local _ _ c.about.ensures c.new-4.ensures.local) f1) f2) f3 in
    IfOk-weaker c.arg-4.result _ _ (λ m adds. (ap (λ (a : App). a.top) (arg_added (third c.args.name.now) (flag (codes "pages")) adds three rule free), arg_local adds local free)) c.arg-4.ensures
