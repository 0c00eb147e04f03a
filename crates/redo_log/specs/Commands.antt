-- The options, in the words of clap's specification.
use Rattle.std.specs.Prelude.{[], ◌∷◌, Some, codes}
use Rattle.clap.specs.Words.{App, Rule, Text, new_rule}
use Rattle.clap.specs.Simple.{new_shape}
use Rattle.clap.specs.declared.builder.action.ArgAction.TheVariants.{SetTrue}
use Rattle.command_words.specs.Commands.{any}

-- an option of this name with a number of 64 bits, with a text, and without a value
abbrev pub number : Text → Rule
number id = record (new_rule id) { long = Some id; parser = Some any }

abbrev pub text : Text → Rule
text id = record (new_rule id) { long = Some id }

abbrev pub flag : Text → Rule
flag id = record (new_rule id) { long = Some id; action = Some SetTrue }

abbrev pub redo_log : App
redo_log = record {
  top = record (new_shape (codes "redo_log")) {
    rules = number (codes "from") ∷ number (codes "to") ∷ number (codes "object") ∷ text (codes "kind") ∷ flag (codes "stats") ∷ flag (codes "glance") ∷ [];
  };
  subs = [];
}
