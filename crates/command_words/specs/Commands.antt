-- The command set, in the words of clap's specification.
use Rattle.std.specs.Prelude.{ℕ, [], ◌∷◌, Some, true, false, pos, codes}
use Rattle.clap.specs.Words.{App, Rule, Shape, Text, new_rule}
use Rattle.clap.specs.Simple.{new_shape}
use Rattle.clap.specs.declared.builder.action.ArgAction.TheVariants.{SetTrue}
use Rattle.clap.specs.declared.builder.value_parser.ValueParser.{ValueParser}
use Rattle.clap.specs.declared.builder.value_parser.ValueParser.TheVariants.{Signed, Unsigned}

-- a number that has to be there
abbrev pub number : Text → ValueParser → Rule
number id values = record (new_rule id) { required = true; parser = Some values }

-- the same after an option of this name
abbrev pub option : Text → ValueParser → Rule
option id values = record (number id values) { long = Some id }

-- an option of this name without a value
abbrev pub flag : Text → Rule
flag id = record (new_rule id) { long = Some id; action = Some SetTrue }

-- the numbers in this range, and those of 64 bits
abbrev pub between : ℕ → ℕ → ValueParser
between least most = Signed (pos least) (pos most)

abbrev pub any : ValueParser
any = Unsigned 0 18446744073709551615

-- a subcommand of this name with the numbers of a store, and whether it admits the operations on pages
abbrev pub sized : Text → Shape
sized name = record (new_shape name) {
  rules = number (codes "N") (between 1 65535) ∷ number (codes "CAP") (between 16 1048576) ∷ number (codes "LIMIT") (between 4128 536870912) ∷ flag (codes "pages") ∷ [];
}

abbrev pub demo : Shape
demo = record (new_shape (codes "demo")) {
  rules = option (codes "seed") any ∷ option (codes "steps") (between 0 1000000) ∷ [];
}

abbrev pub run : Shape
run = record (new_shape (codes "run")) { rules = flag (codes "tend") ∷ [] }

-- the numbers that a record may have
abbrev pub numbers_from_one : ValueParser
numbers_from_one = Unsigned 1 4611686018427387903

abbrev pub ship : Shape
ship = record (new_shape (codes "ship")) { rules = number (codes "FROM") numbers_from_one ∷ [] }

abbrev pub follow : Shape
follow = record (new_shape (codes "follow")) { rules = flag (codes "same") ∷ [] }

-- seven subcommands, of which one has to be named; where nothing is said at all, help is the answer
abbrev pub redo : App
redo = record {
  top = record (new_shape (codes "redo")) { is_leaf = false; subcommand_required = true; arg_required_else_help = true };
  subs = sized (codes "init") ∷ run ∷ new_shape (codes "dump") ∷ demo ∷ sized (codes "upgrade") ∷ ship ∷ follow ∷ [];
}
