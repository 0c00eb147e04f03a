-- Commands that are made step by step.
use Rattle.std.proofs.Common.{◌≡◌, ◌∙◌, ◌||◌, true, false, List, ℕ, Option, ap, ap₂}
use Rattle.std.specs.Borrow.{Bor}
use Rattle.clap.specs.Words.{AddsArg, AddsSubcommand, App, Rule, Shape, app_of, rule_of, shape_of, with_rule, with_subcommand}
use Rattle.clap.specs.Simple.{app_of_fields}
use Rattle.clap.specs.declared.builder.arg.Arg.{Arg}
use Rattle.clap.specs.declared.builder.command.Command.{Command}
use Rattle.clap.specs.declared.builder.command.Command.TheViews.{out-Command}

-- a text of help changes nothing that a parse reads
pub about_app : (old new : Command) {text : Option (Bor (List ℕ))} → out-Command new ≡ record (out-Command old) { about = text } → app_of new ≡ app_of old
about_app old new e = ap app_of_fields e

pub about_local : (old new : Command) {text : Option (Bor (List ℕ))} → out-Command new ≡ record (out-Command old) { about = text } → (out-Command old).has_globals ≡ false → (out-Command new).has_globals ≡ false
about_local old new e local = ap (λ f. f.has_globals) e ∙ local

pub after_app : (old new : Command) {text : Option (Bor (List ℕ))} → out-Command new ≡ record (out-Command old) { after_help = text } → app_of new ≡ app_of old
after_app old new e = ap app_of_fields e

pub after_local : (old new : Command) {text : Option (Bor (List ℕ))} → out-Command new ≡ record (out-Command old) { after_help = text } → (out-Command old).has_globals ≡ false → (out-Command new).has_globals ≡ false
after_local old new e local = ap (λ f. f.has_globals) e ∙ local

-- nor does the name in usage
pub bin_app : (old new : Command) → out-Command new ≡ record (out-Command old) { bin_name = (out-Command new).bin_name } → app_of new ≡ app_of old
bin_app old new e = ap app_of_fields e

pub requires_one : (old new : Command) → out-Command new ≡ record (out-Command old) { subcommand_required = true }
    → app_of new ≡ record (app_of old) { top = record (app_of old).top { subcommand_required = true } }
requires_one old new e = ap app_of_fields e

pub helps_else : (old new : Command) → out-Command new ≡ record (out-Command old) { arg_required_else_help = true }
    → app_of new ≡ record (app_of old) { top = record (app_of old).top { arg_required_else_help = true } }
helps_else old new e = ap app_of_fields e

-- one more argument, and one more subcommand
pub arg_added : {old new : Command} {a : Arg} (app : App) (rule : Rule) → AddsArg old a new → app_of old ≡ app → rule_of a ≡ rule → a.global ≡ false → app_of new ≡ with_rule app rule
arg_added app rule adds is ruled free = adds.shape free ∙ ap₂ with_rule is ruled

pub arg_local : {old new : Command} {a : Arg} → AddsArg old a new → (out-Command old).has_globals ≡ false → a.global ≡ false → (out-Command new).has_globals ≡ false
arg_local adds local free = adds.globals ∙ ap₂ (λ x y. x || y) local free

pub subcommand_added : {old sub new : Command} (app : App) (shape : Shape) → AddsSubcommand old sub new → app_of old ≡ app → shape_of sub ≡ shape → (out-Command sub).has_globals ≡ false
    → app_of new ≡ with_subcommand app shape
subcommand_added app shape adds is shaped local = adds.shape local ∙ ap₂ with_subcommand is shaped
