-- Options are added to a command one by one.
use Rattle.std.proofs.Common.{◌≡◌, ◌∙◌, false, List, ℕ, Option, ap, ap₂}
use Rattle.std.specs.Borrow.{Bor}
use Rattle.clap.specs.Words.{AddsArg, App, Rule, app_of, rule_of, with_rule}
use Rattle.clap.specs.Simple.{app_of_fields}
use Rattle.clap.specs.declared.builder.arg.Arg.{Arg}
use Rattle.clap.specs.declared.builder.command.Command.{Command}
use Rattle.clap.specs.declared.builder.command.Command.TheViews.{out-Command}

-- a text of help changes nothing that a parse reads
pub about_app : (old new : Command) {text : Option (Bor (List ℕ))} → out-Command new ≡ record (out-Command old) { about = text } → app_of new ≡ app_of old
about_app old new e = ap app_of_fields e

pub after_app : (old new : Command) {text : Option (Bor (List ℕ))} → out-Command new ≡ record (out-Command old) { after_help = text } → app_of new ≡ app_of old
after_app old new e = ap app_of_fields e

-- one more option
pub arg_added : {old new : Command} {a : Arg} (app : App) (rule : Rule) → AddsArg old a new → app_of old ≡ app → rule_of a ≡ rule → a.global ≡ false → app_of new ≡ with_rule app rule
arg_added app rule adds is ruled free = adds.shape free ∙ ap₂ with_rule is ruled
