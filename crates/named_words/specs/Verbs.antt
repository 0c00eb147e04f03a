-- The names of commands.
use Rattle.std.specs.Prelude.{ℕ, Bool, Option, Some, None, List, [], ◌∷◌, codes, if◌then◌else◌}
use Rattle.std.specs.Str.{str_eq_ignore_ascii_case}
use Rattle.named_words.specs.declared.verb.TheConstants.{VERBS}
use Rattle.named_words.specs.declared.verb.ValueVerb.{ValueVerb}
use Rattle.named_words.specs.declared.verb.ValueVerb.TheVariants.{Get, Set, SetNx, GetSet, GetDel, MGet, MSet, StrLen, Append, GetRange, Incr, Decr, IncrBy, DecrBy}
use Rattle.named_words.specs.declared.verb.NameVerb.{NameVerb}
use Rattle.named_words.specs.declared.verb.NameVerb.TheVariants.{Del, Exists, Copy, Rename, RandomKey, DbSize, Scan, Keys}
use Rattle.named_words.specs.declared.verb.SessionVerb.{SessionVerb}
use Rattle.named_words.specs.declared.verb.SessionVerb.TheVariants.{Ping, Echo, Select, Quit, Multi, Exec, Discard, Watch, Unwatch, Client, Command, Config, Info, Wait, BgSave, Shutdown}
use Rattle.named_words.specs.declared.verb.Part.{Part}
use Rattle.named_words.specs.declared.verb.Part.TheVariants.{ClientSetName, ClientGetName, ClientId, ClientSetInfo, CommandCount, ConfigGet}
use Rattle.named_words.specs.declared.verb.Verb.{Verb}
use Rattle.named_words.specs.declared.verb.Verb.TheVariants.{Values, Names, Session}

-- a text is a word, whatever the case of its letters
abbrev pub is_word : List ℕ → List ℕ → Bool
is_word text word = str_eq_ignore_ascii_case text word

abbrev pub value_verb : ValueVerb → List ℕ
value_verb Get = codes "get"
value_verb Set = codes "set"
value_verb SetNx = codes "setnx"
value_verb GetSet = codes "getset"
value_verb GetDel = codes "getdel"
value_verb MGet = codes "mget"
value_verb MSet = codes "mset"
value_verb StrLen = codes "strlen"
value_verb Append = codes "append"
value_verb GetRange = codes "getrange"
value_verb Incr = codes "incr"
value_verb Decr = codes "decr"
value_verb IncrBy = codes "incrby"
value_verb DecrBy = codes "decrby"

abbrev pub name_verb : NameVerb → List ℕ
name_verb Del = codes "del"
name_verb Exists = codes "exists"
name_verb Copy = codes "copy"
name_verb Rename = codes "rename"
name_verb RandomKey = codes "randomkey"
name_verb DbSize = codes "dbsize"
name_verb Scan = codes "scan"
name_verb Keys = codes "keys"

abbrev pub session_verb : SessionVerb → List ℕ
session_verb Ping = codes "ping"
session_verb Echo = codes "echo"
session_verb Select = codes "select"
session_verb Quit = codes "quit"
session_verb Multi = codes "multi"
session_verb Exec = codes "exec"
session_verb Discard = codes "discard"
session_verb Watch = codes "watch"
session_verb Unwatch = codes "unwatch"
session_verb Client = codes "client"
session_verb Command = codes "command"
session_verb Config = codes "config"
session_verb Info = codes "info"
session_verb Wait = codes "wait"
session_verb BgSave = codes "bgsave"
session_verb Shutdown = codes "shutdown"

-- what stands behind CLIENT, COMMAND and CONFIG, called as Redis calls it
abbrev pub name_part : Part → List ℕ
name_part ClientSetName = codes "client|setname"
name_part ClientGetName = codes "client|getname"
name_part ClientId = codes "client|id"
name_part ClientSetInfo = codes "client|setinfo"
name_part CommandCount = codes "command|count"
name_part ConfigGet = codes "config|get"

-- what a command is called in answers
abbrev pub name_of : Verb → List ℕ
name_of (Values verb) = value_verb verb
name_of (Names verb) = name_verb verb
name_of (Session verb) = session_verb verb

abbrev pub verb_in : List Verb → List ℕ → Option Verb
verb_in [] word = None
verb_in (verb ∷ verbs) word = if is_word word (name_of verb) then Some verb else verb_in verbs word

-- the command that a word names
abbrev pub verb_of : List ℕ → Option Verb
verb_of word = verb_in VERBS word
