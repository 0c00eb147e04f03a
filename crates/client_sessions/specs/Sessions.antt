-- What a server keeps of its clients between their commands.
use Rattle.std.specs.Prelude.{ℕ, ◌+◌, Bool, true, false, ◌||◌, List, [], ◌∷◌, length, map, replicate, slice_index_or, slice_set, if◌then◌else◌}
use Rattle.std.specs.List.{list_any}
use Rattle.std.specs.Str.{bytes_eq}
use Rattle.named_words.specs.Effects.{Names}

-- a command, as its words
abbrev pub Words : Type 0
Words = List (List ℕ)

pub record Client : Type 0 where
  -- it came, and is not gone
  pub here : Bool
  -- it was told that nothing more will be: it asked to go, or sent what is no command
  pub leaving : Bool
  -- so many clients had come before it
  pub number : ℕ
  -- what it calls itself
  pub title : List ℕ
  -- MULTI came; the commands since, and what they take
  pub multi : Bool
  pub queue : List Words
  pub held : ℕ
  -- one of them was refused as it came
  pub spoilt : Bool
  -- the names that it watches, and whether one of them was given a value or taken away since
  pub watched : List (List ℕ)
  pub stale : Bool

abbrev pub absent : Client
absent = record { here = false; leaving = false; number = 0; title = []; multi = false; queue = []; held = 0; spoilt = false; watched = []; stale = false }

-- the names that all clients share, what is kept of each client, by the number that its frames have, and how many came so far
pub record Server : Type 0 where
  pub names : Names
  pub clients : List Client
  pub came : ℕ

abbrev pub client_at : List Client → ℕ → Client
client_at clients at = slice_index_or clients at absent

-- something else is kept of one client
abbrev pub with_client : ℕ → Client → Server → Server
with_client at client server = record server { clients = slice_set server.clients at client }

-- no client has come, of so many at once
abbrev pub empty : ℕ → Names → Server
empty count names = record { names = names; clients = replicate count absent; came = 0 }

-- a client that was not there comes with its first words
abbrev pub came_in : ℕ → Client
came_in number = record absent { here = true; number = number }

abbrev pub opened : ℕ → Server → Server
opened at server =
    if (client_at server.clients at).here then server
    else record server { clients = slice_set server.clients at (came_in server.came); came = 1 + server.came }

-- nothing is queued, and no name is watched
abbrev pub ended : Client → Client
ended client = record client { multi = false; queue = []; held = 0; spoilt = false; watched = []; stale = false }

-- one of the names is watched
abbrev pub watches : List (List ℕ) → List (List ℕ) → Bool
watches watched names = list_any (λ name. list_any (bytes_eq name) watched) names

-- these names were given values or taken away, by whomever
abbrev pub aware : List (List ℕ) → Client → Client
aware names client = record client { stale = client.stale || watches client.watched names }

abbrev pub changed_in : List (List ℕ) → Names → Server → Server
changed_in touched names server = record server { names = names; clients = map (aware touched) server.clients }

-- what a command takes while it is queued
abbrev pub cost : Words → ℕ
cost [] = 32
cost (word ∷ words) = 32 + length word + cost words
