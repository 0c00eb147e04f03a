-- What commands do that are done at once, and what they answer.
use Rattle.std.specs.Prelude.{◌≡◌, ◌+◌, ⊤, ℕ, zero, suc, pos, Bool, true, false, ◌&&◌, nat_le, None, Some, List, [], ◌∷◌, ◌++◌, codes, length, map, if◌then◌else◌}
use Rattle.std.specs.Fmt.{decimal}
use Rattle.std.specs.List.{flat_map, list_all}
use Rattle.resp_words.specs.Replies.{Said, array, error, integer, status, value}
use Rattle.named_words.specs.Effects.{Change, Names, Outcome, Sizes, after, answered, does, put, take}
use Rattle.named_words.specs.Reading.{request_of}
use Rattle.named_words.specs.Refusals.{text_of}
use Rattle.named_words.specs.Requests.{NamesAsked, add_to, append_to, copy, delete_all, get_and_delete, get_and_set, rename, set_all, set_missing, set_value}
use Rattle.client_sessions.specs.Sessions.{Client, Server, Words, changed_in, client_at, ended, with_client}
use Rattle.client_sessions.specs.Sorted.{Own, Sorted, all_clients, bracket, call_it, drops, granted, its_number, its_title, of_server, on_names, own, pong, refused, sorted, text, unguards}
use Rattle.client_sessions.specs.Steps.{done}

-- these are so many replies, where what an array has follows its head
abbrev pub AreReplies : ℕ → List Said → Type 0
AreReplies zero [] = ⊤
AreReplies zero (said ∷ more) = ⊥
AreReplies (suc n) [] = ⊥
AreReplies (suc n) (array (Some count) ∷ more) = AreReplies (count + n) more
AreReplies (suc n) (said ∷ more) = AreReplies n more

-- What is drawn or known beside names and sessions: a number for RANDOMKEY; whether the store has no room for what is asked; and
-- what a server tells of itself, of which nothing is said here but that it is one reply, and changes no name.
pub record Choice : Type 0 where
  pub draw : ℕ
  pub full : Bool
  pub told : List Said
  pub one : AreReplies 1 told

-- requests that may change names
abbrev pub may_write : NamesAsked → Bool
may_write (set_value name bytes when back) = true
may_write (set_missing name bytes) = true
may_write (get_and_set name bytes) = true
may_write (get_and_delete name) = true
may_write (set_all words) = true
may_write (delete_all names) = true
may_write (append_to name more) = true
may_write (add_to name by) = true
may_write (copy from to replace) = true
may_write (rename from to) = true
may_write other = false

-- a request where the store has room, and where it has none
abbrev pub outcome_of : Sizes → Choice → NamesAsked → Names → Outcome
outcome_of sizes choice asked names =
    if choice.full && may_write asked then answered (error (codes "ERR the log is full")) else does sizes choice.draw asked names

abbrev pub name_in : Change → List ℕ
name_in (put name bytes) = name
name_in (take name) = name

abbrev pub named : Sizes → Choice → NamesAsked → Server → Server × List Said
named sizes choice asked server =
    let outcome = outcome_of sizes choice asked server.names in
    (changed_in (map name_in outcome.0) (after server.names outcome.0) server, outcome.1)

-- a byte that a client's title may have: no space, no control byte
abbrev pub is_graphic : ℕ → Bool
is_graphic byte = nat_le 33 byte && nat_le byte 126

-- a client calls itself something
abbrev pub called : ℕ → List ℕ → Server → Server × List Said
called at title server =
    if list_all is_graphic title then (with_client at (record (client_at server.clients at) { title = title }) server, done ∷ [])
    else (server, error (codes "ERR Client names cannot contain spaces, newlines or special characters.") ∷ [])

abbrev pub title_said : List ℕ → Said
title_said [] = value None
title_said (byte ∷ title) = value (Some (byte ∷ title))

-- a line of CLIENT LIST
abbrev pub line_of : Client → List ℕ
line_of client = if client.here then codes "id=" ++ decimal client.number ++ codes " name=" ++ client.title ++ 10 ∷ [] else []

-- no name is watched any more
abbrev pub unguarded : ℕ → Server → Server × List Said
unguarded at server = (with_client at (record (client_at server.clients at) { watched = []; stale = false }) server, done ∷ [])

abbrev pub own_done : ℕ → Own → Server → Server × List Said
own_done at pong server = (server, status (codes "PONG") ∷ [])
own_done at (text said) server = (server, value (Some said) ∷ [])
own_done at granted server = (server, done ∷ [])
own_done at unguards server = unguarded at server
own_done at (call_it title) server = called at title server
own_done at its_title server = (server, title_said (client_at server.clients at).title ∷ [])
own_done at its_number server = (server, integer (pos (client_at server.clients at).number) ∷ [])
own_done at all_clients server = (server, value (Some (flat_map line_of server.clients)) ∷ [])

-- a command that is done at once; a bracket is none
abbrev pub done_now : Sizes → Choice → ℕ → Words → Sorted → Server → Server × List Said
done_now sizes choice at words (bracket word) server = (server, [])
done_now sizes choice at words (own word) server = own_done at word server
done_now sizes choice at words (of_server asked) server = (server, choice.told)
done_now sizes choice at words (on_names asked) server = named sizes choice asked server
done_now sizes choice at words (refused refusal) server = (server, error (text_of refusal words) ∷ [])

-- what words are
abbrev pub sort_of : Words → Sorted
sort_of [] = bracket drops
sort_of (name ∷ words) = sorted (request_of name words)

-- a command is done at once, by some choice
abbrev pub DoneNow : Sizes → ℕ → Words → Sorted → Server → List Said → Server → Type 0
DoneNow sizes at words sort server said new = (choice : Choice) × (said ≡ (done_now sizes choice at words sort server).1) × (new ≡ (done_now sizes choice at words sort server).0)

-- a queue, one command after the other; no other client's comes between
abbrev pub DoneInTurn : Sizes → ℕ → List Words → Server → List Said → Server → Type 0
DoneInTurn sizes at [] server said new = (said ≡ []) × (new ≡ server)
DoneInTurn sizes at (words ∷ queue) server said new =
    (first others : List Said) × (mid : Server) × DoneNow sizes at words (sort_of words) server first mid × (said ≡ first ++ others) × DoneInTurn sizes at queue mid others new

-- all that a client has queued, behind which nothing is
abbrev pub QueueDone : Sizes → ℕ → Server → List Said → Server → Type 0
QueueDone sizes at server said new =
    let client = client_at server.clients at in
    (others : List Said) × (said ≡ array (Some (length client.queue)) ∷ others) × DoneInTurn sizes at client.queue (with_client at (ended client) server) others new
