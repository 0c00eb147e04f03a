-- Names of subcommands, and what words name.
use Rattle.std.proofs.Common.{◌≡◌, ◌∙◌, ◌+◌, ℕ, List, [], Option, Some, None, ap, sym, codes, get_or}
use Rattle.clap.specs.Words.{Row, Text}
use Rattle.command_words.specs.declared.asked.Asked.{Asked}
use Rattle.command_words.specs.declared.asked.Asked.TheVariants.{Init, Run, Dump, Demo, Upgrade, Ship, Follow}
use Rattle.command_words.specs.Words.{IsFor}

-- the name of the subcommand for this
abbrev pub name_for : Asked → Text
name_for (Run tend) = codes "run"
name_for Dump = codes "dump"
name_for (Init p) = codes "init"
name_for (Upgrade p) = codes "upgrade"
name_for (Demo seed steps) = codes "demo"
name_for (Ship from) = codes "ship"
name_for (Follow same) = codes "follow"

pub named_for : (asked : Asked) (name : Text) (rows : List Row) → IsFor asked name rows → name ≡ name_for asked
named_for (Run tend) name rows is = is.0
named_for Dump name rows is = is
named_for (Init p) name rows is = is.0
named_for (Upgrade p) name rows is = is.0
named_for (Demo seed steps) name rows is = is.0
named_for (Ship from) name rows is = is.0
named_for (Follow same) name rows is = is.0

-- two letters tell the names apart
abbrev pub mark : Text → ℕ
mark name = get_or name 0 0 + get_or name 1 0

-- a subcommand that is for two things has both marks
pub same_mark : (a b : Asked) (name : Text) (rows : List Row) → IsFor a name rows → IsFor b name rows → mark (name_for a) ≡ mark (name_for b)
same_mark a b name rows x y = ap mark (sym (named_for a name rows x) ∙ named_for b name rows y)

abbrev name_in : Option (Text × List Row) → Text
name_in None = []
name_in (Some p) = p.0

abbrev rows_in : Option (Text × List Row) → List Row
rows_in None = []
rows_in (Some p) = p.1

-- words name one subcommand, with one list of values
pub one_name : {named : Option (Text × List Row)} {m n : Text} {xs ys : List Row} → named ≡ Some (m, xs) → named ≡ Some (n, ys) → m ≡ n
one_name x y = ap name_in (sym x ∙ y)

pub one_rows : {named : Option (Text × List Row)} {m n : Text} {xs ys : List Row} → named ≡ Some (m, xs) → named ≡ Some (n, ys) → xs ≡ ys
one_rows x y = ap rows_in (sym x ∙ y)
