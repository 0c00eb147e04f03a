-- What the words of a command ask, or why it is refused.
use Rattle.std.specs.Prelude.{ℕ, ℤ, pos, negsuc, zero, suc, Bool, true, false, Option, Some, None, Ok, Err, List, [], ◌∷◌, codes, if◌then◌else◌}
use Rattle.std.specs.List.{list_all, list_any}
use Rattle.named_words.specs.Forms.{Given, ◌>>=◌, even, none, one, one_and_more, some, three, two, two_and_more}
use Rattle.named_words.specs.Numbers.{integer_of, negated, number_of}
use Rattle.named_words.specs.Requests.{Asked, NamesAsked, SessionAsked, of_names, of_session, get_value, set_value, set_missing, get_and_set, get_and_delete, get_all, set_all, delete_all, count_there, length_of, append_to, part, add_to, copy, rename, any_name, count_names, scan, names_like, ping, echo, select, quit, multi, exec, discard, watch, unwatch, set_client_name, get_client_name, client_id, list_clients, set_client_info, list_commands, count_commands, describe_commands, get_config, describe_server, wait, save_in_background, shut_down}
use Rattle.named_words.specs.Verbs.{is_word, verb_of}
use Rattle.named_words.specs.declared.refusal.Refusal.{Refusal}
use Rattle.named_words.specs.declared.refusal.Refusal.TheVariants.{Unknown, UnknownPart, WrongCount, WrongPartCount, Syntax, NoCursor, NoDatabase, NoTimeout, NegativeTimeout}
use Rattle.named_words.specs.declared.verb.ValueVerb.{ValueVerb}
use Rattle.named_words.specs.declared.verb.ValueVerb.TheVariants.{Get, Set, SetNx, GetSet, GetDel, MGet, MSet, StrLen, Append, GetRange, Incr, Decr, IncrBy, DecrBy}
use Rattle.named_words.specs.declared.verb.NameVerb.{NameVerb}
use Rattle.named_words.specs.declared.verb.NameVerb.TheVariants.{Del, Exists, Copy, Rename, RandomKey, DbSize, Scan, Keys}
use Rattle.named_words.specs.declared.verb.SessionVerb.{SessionVerb}
use Rattle.named_words.specs.declared.verb.SessionVerb.TheVariants.{Ping, Echo, Select, Quit, Multi, Exec, Discard, Watch, Unwatch, Client, Command, Config, Info, Wait, BgSave, Shutdown}
use Rattle.named_words.specs.declared.verb.Part.TheVariants.{ClientSetName, ClientGetName, ClientId, ClientSetInfo, CommandCount, ConfigGet}
use Rattle.named_words.specs.declared.verb.Verb.{Verb}
use Rattle.named_words.specs.declared.verb.Verb.TheVariants.{Values, Names, Session}
use Rattle.named_words.specs.declared.when.When.{When}
use Rattle.named_words.specs.declared.when.When.TheVariants.{Always, Missing, There}

-- one of the options is this word
abbrev pub has : List (List ℕ) → List ℕ → Bool
has options word = list_any (λ option. is_word option word) options

-- each option is one of these words
abbrev pub are_among : List (List ℕ) → List (List ℕ) → Bool
are_among options words = list_all (λ option. list_any (is_word option) words) options

-- what NX and XX say
abbrev pub when_of : Bool → Bool → Given When
when_of false false = Ok Always
when_of true false = Ok Missing
when_of false true = Ok There
when_of true true = Err Syntax

-- SET name value [NX | XX] [GET]
abbrev pub set_asked : List ℕ → List ℕ → List (List ℕ) → Given NamesAsked
set_asked name value options =
    if are_among options (codes "nx" ∷ codes "xx" ∷ codes "get" ∷ []) then
    (when_of (has options (codes "nx")) (has options (codes "xx")) >>= λ when. Ok (set_value name value when (has options (codes "get"))))
    else Err Syntax

-- COPY from to [REPLACE]
abbrev pub copy_asked : List ℕ → List ℕ → List (List ℕ) → Given NamesAsked
copy_asked from to options = if are_among options (codes "replace" ∷ []) then Ok (copy from to (has options (codes "replace"))) else Err Syntax

abbrev pub cursor_at : Option ℤ → Given ℕ
cursor_at (Some (pos n)) = Ok n
cursor_at (Some (negsuc n)) = Err NoCursor
cursor_at None = Err NoCursor

abbrev pub count_at : ℤ → Given ℕ
count_at (pos zero) = Err Syntax
count_at (pos (suc n)) = Ok (suc n)
count_at (negsuc n) = Err Syntax

-- MATCH pattern, or COUNT count
abbrev pub scan_option : Option (List ℕ) → ℕ → List ℕ → List ℕ → Given (Option (List ℕ) × ℕ)
scan_option pattern count word given =
    if is_word word (codes "match") then Ok (Some given, count)
    else if is_word word (codes "count") then (integer_of given >>= λ number. count_at number >>= λ n. Ok (pattern, n))
    else Err Syntax

-- SCAN cursor [MATCH pattern] [COUNT count]; of each the last one counts
abbrev pub scan_asked : ℕ → Option (List ℕ) → ℕ → List (List ℕ) → Given NamesAsked
scan_asked cursor pattern count [] = Ok (scan cursor pattern count)
scan_asked cursor pattern count (word ∷ []) = Err Syntax
scan_asked cursor pattern count (word ∷ given ∷ words) = scan_option pattern count word given >>= λ found. scan_asked cursor found.0 found.1 words

-- SCAN with its options
abbrev pub scan_words : List ℕ → List (List ℕ) → Given NamesAsked
scan_words text options = cursor_at (number_of text) >>= λ cursor. scan_asked cursor None 10 options

-- INCR and DECR
abbrev pub counted_asked : Refusal → List (List ℕ) → ℤ → Given NamesAsked
counted_asked wrong words by = one wrong words >>= λ name. Ok (add_to name by)

abbrev pub values_asked : ValueVerb → Refusal → List (List ℕ) → Given NamesAsked
values_asked Get wrong words = one wrong words >>= λ name. Ok (get_value name)
values_asked Set wrong words = two_and_more wrong words >>= λ found. set_asked found.0 found.1 found.2
values_asked SetNx wrong words = two wrong words >>= λ found. Ok (set_missing found.0 found.1)
values_asked GetSet wrong words = two wrong words >>= λ found. Ok (get_and_set found.0 found.1)
values_asked GetDel wrong words = one wrong words >>= λ name. Ok (get_and_delete name)
values_asked MGet wrong words = some wrong words >>= λ names. Ok (get_all names)
values_asked MSet wrong words = some wrong words >>= λ found. even wrong found >>= λ pairs. Ok (set_all pairs)
values_asked StrLen wrong words = one wrong words >>= λ name. Ok (length_of name)
values_asked Append wrong words = two wrong words >>= λ found. Ok (append_to found.0 found.1)
values_asked GetRange wrong words = three wrong words >>= λ found. integer_of found.1 >>= λ from. integer_of found.2 >>= λ to. Ok (part found.0 from to)
values_asked Incr wrong words = counted_asked wrong words (pos 1)
values_asked Decr wrong words = counted_asked wrong words (negsuc 0)
values_asked IncrBy wrong words = two wrong words >>= λ found. integer_of found.1 >>= λ by. Ok (add_to found.0 by)
values_asked DecrBy wrong words = two wrong words >>= λ found. integer_of found.1 >>= λ number. negated number >>= λ by. Ok (add_to found.0 by)

abbrev pub names_asked : NameVerb → Refusal → List (List ℕ) → Given NamesAsked
names_asked Del wrong words = some wrong words >>= λ names. Ok (delete_all names)
names_asked Exists wrong words = some wrong words >>= λ names. Ok (count_there names)
names_asked Copy wrong words = two_and_more wrong words >>= λ found. copy_asked found.0 found.1 found.2
names_asked Rename wrong words = two wrong words >>= λ found. Ok (rename found.0 found.1)
names_asked RandomKey wrong words = none wrong words >>= λ _. Ok any_name
names_asked DbSize wrong words = none wrong words >>= λ _. Ok count_names
names_asked Scan wrong words = one_and_more wrong words >>= λ found. scan_words found.0 found.1
names_asked Keys wrong words = one wrong words >>= λ pattern. Ok (names_like pattern)

-- a command that no word follows
abbrev pub alone_asked : SessionAsked → Refusal → List (List ℕ) → Given SessionAsked
alone_asked asked wrong words = none wrong words >>= λ _. Ok asked

-- a text, or none
abbrev pub ping_asked : Refusal → List (List ℕ) → Given SessionAsked
ping_asked wrong [] = Ok (ping None)
ping_asked wrong (text ∷ []) = Ok (ping (Some text))
ping_asked wrong words = Err wrong

-- there is one database
abbrev pub select_asked : ℤ → Given SessionAsked
select_asked (pos zero) = Ok select
select_asked other = Err NoDatabase

abbrev pub timeout_at : Option ℤ → Given ℕ
timeout_at None = Err NoTimeout
timeout_at (Some (pos n)) = Ok n
timeout_at (Some (negsuc n)) = Err NegativeTimeout

-- CLIENT and a word
abbrev pub client_asked : List ℕ → List (List ℕ) → Given SessionAsked
client_asked second words =
    if is_word second (codes "setname") then (one (WrongPartCount ClientSetName) words >>= λ name. Ok (set_client_name name))
    else if is_word second (codes "getname") then alone_asked get_client_name (WrongPartCount ClientGetName) words
    else if is_word second (codes "id") then alone_asked client_id (WrongPartCount ClientId) words
    else if is_word second (codes "list") then alone_asked list_clients Syntax words
    else if is_word second (codes "setinfo") then (two (WrongPartCount ClientSetInfo) words >>= λ _. Ok set_client_info)
    else Err (UnknownPart (Session Client))

-- COMMAND and a word, or nothing
abbrev pub command_asked : List (List ℕ) → Given SessionAsked
command_asked [] = Ok list_commands
command_asked (second ∷ words) =
    if is_word second (codes "count") then alone_asked count_commands (WrongPartCount CommandCount) words
    else if is_word second (codes "docs") then Ok (describe_commands words)
    else Err (UnknownPart (Session Command))

-- CONFIG and a word
abbrev pub config_asked : List ℕ → List (List ℕ) → Given SessionAsked
config_asked second words =
    if is_word second (codes "get") then (some (WrongPartCount ConfigGet) words >>= λ names. Ok (get_config names))
    else Err (UnknownPart (Session Config))

-- how a server may be shut down, which comes to the same here
abbrev pub shutdown_asked : List (List ℕ) → Given SessionAsked
shutdown_asked options = if are_among options (codes "save" ∷ codes "nosave" ∷ codes "now" ∷ codes "force" ∷ []) then Ok shut_down else Err Syntax

abbrev pub session_asked : SessionVerb → Refusal → List (List ℕ) → Given SessionAsked
session_asked Ping wrong words = ping_asked wrong words
session_asked Echo wrong words = one wrong words >>= λ text. Ok (echo text)
session_asked Select wrong words = one wrong words >>= λ text. integer_of text >>= λ number. select_asked number
session_asked Quit wrong words = Ok quit
session_asked Multi wrong words = alone_asked multi wrong words
session_asked Exec wrong words = alone_asked exec wrong words
session_asked Discard wrong words = alone_asked discard wrong words
session_asked Watch wrong words = some wrong words >>= λ names. Ok (watch names)
session_asked Unwatch wrong words = alone_asked unwatch wrong words
session_asked Client wrong words = one_and_more wrong words >>= λ found. client_asked found.0 found.1
session_asked Command wrong words = command_asked words
session_asked Config wrong words = one_and_more wrong words >>= λ found. config_asked found.0 found.1
session_asked Info wrong words = Ok (describe_server words)
session_asked Wait wrong words = two wrong words >>= λ found. integer_of found.0 >>= λ standbys. timeout_at (number_of found.1) >>= λ most. Ok (wait standbys most)
session_asked BgSave wrong words = alone_asked save_in_background Syntax words
session_asked Shutdown wrong words = shutdown_asked words

abbrev pub verb_asked : Verb → List (List ℕ) → Given Asked
verb_asked (Values verb) words = values_asked verb (WrongCount (Values verb)) words >>= λ request. Ok (of_names request)
verb_asked (Names verb) words = names_asked verb (WrongCount (Names verb)) words >>= λ request. Ok (of_names request)
verb_asked (Session verb) words = session_asked verb (WrongCount (Session verb)) words >>= λ request. Ok (of_session request)

abbrev pub asked_by : Option Verb → List (List ℕ) → Given Asked
asked_by None words = Err Unknown
asked_by (Some verb) words = verb_asked verb words

-- what the words of a command ask, which are its name, and what follows it
abbrev pub request_of : List ℕ → List (List ℕ) → Given Asked
request_of name words = asked_by (verb_of name) words
