-- Lists that are kept as chains in one table of links.
use Rattle.std.specs.Prelude.{ℕ, ◌-◌, List, map, length}
use Rattle.number_lists.specs.Lists.{Lists}
use Rattle.number_lists.specs.Links.{follow}
use Rattle.number_lists.specs.declared.chains.Chain.{Chain}

-- the list of a chain
abbrev pub chain_list : List ℕ → Chain → List ℕ
chain_list next c = follow next c.count c.first

-- the lists of all chains
abbrev pub lists_of : List ℕ → List Chain → List (List ℕ)
lists_of next chains = map (chain_list next) chains

-- what contracts see of the links and the chains, and of the room of both
abbrev pub view_of : List ℕ → ℕ → List Chain → ℕ → Lists
view_of next room chains list_room = record { lists = lists_of next chains; items = length next; list_room = list_room - length chains; item_room = room - length next }
