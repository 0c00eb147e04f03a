-- What a client asks.
use Rattle.std.specs.Prelude.{ℕ, ℤ, Bool, Option, List, option_map}
use Rattle.named_words.specs.declared.request.NameRequest.{NameRequest}
use Rattle.named_words.specs.declared.request.NameRequest.TheVariants as names
use Rattle.named_words.specs.declared.request.SessionRequest.{SessionRequest}
use Rattle.named_words.specs.declared.request.SessionRequest.TheVariants as session
use Rattle.named_words.specs.declared.request.Request.{Request}
use Rattle.named_words.specs.declared.request.Request.TheVariants as requests
use Rattle.named_words.specs.declared.when.When.{When}
use Rattle.named_words.specs.Forms.{texts}

-- of names and their values
pub data NamesAsked : Type 0 where
  get_value : List ℕ → NamesAsked
  -- a name and its value, when it is set, and whether the value before is answered
  set_value : List ℕ → List ℕ → When → Bool → NamesAsked
  set_missing : List ℕ → List ℕ → NamesAsked
  get_and_set : List ℕ → List ℕ → NamesAsked
  get_and_delete : List ℕ → NamesAsked
  get_all : List (List ℕ) → NamesAsked
  -- names and values in turn
  set_all : List (List ℕ) → NamesAsked
  delete_all : List (List ℕ) → NamesAsked
  count_there : List (List ℕ) → NamesAsked
  length_of : List ℕ → NamesAsked
  append_to : List ℕ → List ℕ → NamesAsked
  part : List ℕ → ℤ → ℤ → NamesAsked
  add_to : List ℕ → ℤ → NamesAsked
  -- from a name to another, and whether one that is there is replaced
  copy : List ℕ → List ℕ → Bool → NamesAsked
  rename : List ℕ → List ℕ → NamesAsked
  any_name : NamesAsked
  count_names : NamesAsked
  -- from a cursor on, names that match a pattern, out of so many
  scan : ℕ → Option (List ℕ) → ℕ → NamesAsked
  names_like : List ℕ → NamesAsked

-- of the connection and the server
pub data SessionAsked : Type 0 where
  ping : Option (List ℕ) → SessionAsked
  echo : List ℕ → SessionAsked
  select : SessionAsked
  quit : SessionAsked
  multi : SessionAsked
  exec : SessionAsked
  discard : SessionAsked
  watch : List (List ℕ) → SessionAsked
  unwatch : SessionAsked
  set_client_name : List ℕ → SessionAsked
  get_client_name : SessionAsked
  client_id : SessionAsked
  list_clients : SessionAsked
  -- what a client's library tells of itself, which is passed over
  set_client_info : SessionAsked
  list_commands : SessionAsked
  count_commands : SessionAsked
  describe_commands : List (List ℕ) → SessionAsked
  get_config : List (List ℕ) → SessionAsked
  describe_server : List (List ℕ) → SessionAsked
  -- for so many standbys, at most so many milliseconds
  wait : ℤ → ℕ → SessionAsked
  save_in_background : SessionAsked
  shut_down : SessionAsked

pub data Asked : Type 0 where
  of_names : NamesAsked → Asked
  of_session : SessionAsked → Asked

abbrev pub asked_of_names : NameRequest → NamesAsked
asked_of_names (names.Get name) = get_value name.now
asked_of_names (names.Set name value when back) = set_value name.now value.now when back
asked_of_names (names.SetNx name value) = set_missing name.now value.now
asked_of_names (names.GetSet name value) = get_and_set name.now value.now
asked_of_names (names.GetDel name) = get_and_delete name.now
asked_of_names (names.MGet words) = get_all (texts words.now)
asked_of_names (names.MSet words) = set_all (texts words.now)
asked_of_names (names.Del words) = delete_all (texts words.now)
asked_of_names (names.Exists words) = count_there (texts words.now)
asked_of_names (names.StrLen name) = length_of name.now
asked_of_names (names.Append name value) = append_to name.now value.now
asked_of_names (names.GetRange name from to) = part name.now from to
asked_of_names (names.IncrBy name by) = add_to name.now by
asked_of_names (names.Copy from to replace) = copy from.now to.now replace
asked_of_names (names.Rename from to) = rename from.now to.now
asked_of_names names.RandomKey = any_name
asked_of_names names.DbSize = count_names
asked_of_names (names.Scan cursor pattern count) = scan cursor (option_map (λ word. word.now) pattern) count
asked_of_names (names.Keys pattern) = names_like pattern.now

abbrev pub asked_of_session : SessionRequest → SessionAsked
asked_of_session (session.Ping text) = ping (option_map (λ word. word.now) text)
asked_of_session (session.Echo text) = echo text.now
asked_of_session session.Select = select
asked_of_session session.Quit = quit
asked_of_session session.Multi = multi
asked_of_session session.Exec = exec
asked_of_session session.Discard = discard
asked_of_session (session.Watch words) = watch (texts words.now)
asked_of_session session.Unwatch = unwatch
asked_of_session (session.SetClientName name) = set_client_name name.now
asked_of_session session.GetClientName = get_client_name
asked_of_session session.ClientId = client_id
asked_of_session session.ListClients = list_clients
asked_of_session session.SetClientInfo = set_client_info
asked_of_session session.ListCommands = list_commands
asked_of_session session.CountCommands = count_commands
asked_of_session (session.DescribeCommands words) = describe_commands (texts words.now)
asked_of_session (session.GetConfig words) = get_config (texts words.now)
asked_of_session (session.Info words) = describe_server (texts words.now)
asked_of_session (session.Wait standbys milliseconds) = wait standbys milliseconds
asked_of_session session.BgSave = save_in_background
asked_of_session session.Shutdown = shut_down

-- what a request is, wherever its words lie
abbrev pub asked : Request → Asked
asked (requests.Names request) = of_names (asked_of_names request)
asked (requests.Session request) = of_session (asked_of_session request)
