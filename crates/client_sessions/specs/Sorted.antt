-- What a command is to a session.
use Rattle.std.specs.Prelude.{ℕ, Bool, true, false, Some, None, Result, Ok, Err, List}
use Rattle.named_words.specs.Requests.{Asked, NamesAsked, SessionAsked, of_names, of_session, ping, echo, select, quit, multi, exec, discard, watch, unwatch, set_client_name, get_client_name, client_id, list_clients, set_client_info, list_commands, count_commands, describe_commands, get_config, describe_server, wait, save_in_background, shut_down}
use Rattle.named_words.specs.declared.refusal.Refusal.{Refusal}
use Rattle.named_words.specs.declared.refusal.Refusal.TheVariants.{Unknown, UnknownPart, WrongCount, WrongPartCount}

-- a word that opens, ends or guards what is done at once, or ends the session
pub data Bracket : Type 0 where
  opens : Bracket
  does : Bracket
  drops : Bracket
  guards : List (List ℕ) → Bracket
  leaves : Bracket

-- a word on the session itself
pub data Own : Type 0 where
  pong : Own
  text : List ℕ → Own
  granted : Own
  unguards : Own
  call_it : List ℕ → Own
  its_title : Own
  its_number : Own
  all_clients : Own

pub data Sorted : Type 0 where
  bracket : Bracket → Sorted
  own : Own → Sorted
  -- what only the server can tell or do
  of_server : SessionAsked → Sorted
  on_names : NamesAsked → Sorted
  refused : Refusal → Sorted

abbrev pub sorted_word : SessionAsked → Sorted
sorted_word (ping None) = own pong
sorted_word (ping (Some said)) = own (text said)
sorted_word (echo said) = own (text said)
sorted_word select = own granted
sorted_word set_client_info = own granted
sorted_word unwatch = own unguards
sorted_word (set_client_name title) = own (call_it title)
sorted_word get_client_name = own its_title
sorted_word client_id = own its_number
sorted_word list_clients = own all_clients
sorted_word multi = bracket opens
sorted_word exec = bracket does
sorted_word discard = bracket drops
sorted_word (watch names) = bracket (guards names)
sorted_word quit = bracket leaves
sorted_word list_commands = of_server list_commands
sorted_word count_commands = of_server count_commands
sorted_word (describe_commands names) = of_server (describe_commands names)
sorted_word (get_config names) = of_server (get_config names)
sorted_word (describe_server parts) = of_server (describe_server parts)
sorted_word (wait standbys milliseconds) = of_server (wait standbys milliseconds)
sorted_word save_in_background = of_server save_in_background
sorted_word shut_down = of_server shut_down

abbrev pub sorted : Result Asked Refusal → Sorted
sorted (Ok (of_names asked)) = on_names asked
sorted (Ok (of_session asked)) = sorted_word asked
sorted (Err refusal) = refused refusal

-- a refusal that Redis gives as a command comes, and not when it is done
abbrev pub is_early : Refusal → Bool
is_early Unknown = true
is_early (UnknownPart verb) = true
is_early (WrongCount verb) = true
is_early (WrongPartCount part) = true
is_early other = false
