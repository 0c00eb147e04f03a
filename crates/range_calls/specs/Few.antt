-- At most three commands.
use Rattle.std.specs.Prelude.{Option, None, Some, List, [], ◌∷◌}
use Rattle.range_calls.specs.Store.{Command}

-- a command, if there is one
abbrev pub if_any : Option Command → List Command
if_any None = []
if_any (Some op) = op ∷ []
