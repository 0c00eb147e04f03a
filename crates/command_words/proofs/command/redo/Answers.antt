use Rattle.std.proofs.Common.{◌∙◌, true, ap, codes}
use Rattle.std.proofs.lemmas.Result.{IfOk-weaker}
use Rattle.clap.specs.Words.{App, new_app, with_subcommand}
use Rattle.clap.specs.Simple.{new_shape}
use Rattle.command_words.specs.Commands.{demo, follow, run, ship, sized}
use Rattle.command_words.proofs.CommandLemmas.{about_app, about_local, after_app, bin_app, helps_else, requires_one, subcommand_added}
use Rattle.command_words.proofs.command.redo.Goals as goal

abbrev requires : App
requires = record (new_app (codes "redo")) { top = record (new_shape (codes "redo")) { subcommand_required = true } }

abbrev none : App
none = record requires { top = record requires.top { arg_required_else_help = true } }

abbrev one : App
one = with_subcommand none (sized (codes "init"))

abbrev two : App
two = with_subcommand one run

abbrev three : App
three = with_subcommand two (new_shape (codes "dump"))

abbrev four : App
four = with_subcommand three demo

abbrev five : App
five = with_subcommand four (sized (codes "upgrade"))

abbrev six : App
six = with_subcommand five ship

pub returns : goal.returns
returns c =
    let named = after_app _ _ c.after_help.ensures ∙ about_app _ _ c.about.ensures ∙ bin_app _ _ c.in_ok-bin_name.ensures.0 ∙ c.new-2.ensures.app in
    let needs = requires_one _ _ c.subcommand_required.ensures ∙ ap (λ (a : App). record a { top = record a.top { subcommand_required = true } }) named in
    let bare = helps_else _ _ c.arg_required_else_help.ensures ∙ ap (λ (a : App). record a { top = record a.top { arg_required_else_help = true } }) needs in
    let first = subcommand_added none _ c.in_ok-subcommand.ensures bare c.in_ok-init.ensures.0 c.in_ok-init.ensures.1 in
    let second = subcommand_added one run c.in_ok-subcommand-2.ensures first c.in_ok-run.ensures.0 c.in_ok-run.ensures.1 in
    let dump = ap (λ (a : App). a.top) (about_app _ _ c.about-dump.ensures ∙ c.new.ensures.app) in
    let third = subcommand_added two _ c.in_ok-subcommand-3.ensures second dump (about_local _ _ c.about-dump.ensures c.new.ensures.local) in
    let fourth = subcommand_added three demo c.in_ok-subcommand-4.ensures third c.in_ok-demo.ensures.0 c.in_ok-demo.ensures.1 in
    let fifth = subcommand_added four _ c.in_ok-subcommand-5.ensures fourth c.in_ok-upgrade.ensures.0 c.in_ok-upgrade.ensures.1 in
    let sixth = subcommand_added five ship c.in_ok-subcommand-6.ensures fifth c.in_ok-ship.ensures.0 c.in_ok-ship.ensures.1 in
    IfOk-weaker c.subcommand-7.result _ _ (λ m adds. subcommand_added six follow adds sixth c.in_ok-follow.ensures.0 c.in_ok-follow.ensures.1) c.subcommand-7.ensures
