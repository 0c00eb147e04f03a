-- What the calls on names are told, whatever bytes the objects hold.
use Rattle.std.specs.Prelude.{ℕ, ◌==◌, Option, None, Some, Result, Ok, Err, List, length, nat_lt, if◌then◌else◌}
use Rattle.oper_core.specs.State.{State}
use Rattle.oper_core.specs.declared.bounds.Bounds.{Bounds}
use Rattle.page_map.specs.declared.refusal.MapRefusal.TheVariants.{TooLong}
use Rattle.range_calls.specs.declared.call_err.CallErr.TheVariants.{Refused}
use Rattle.map_client.specs.Answers.{MapErr, bad_map, get_told}
use Rattle.map_client.specs.declared.call_refusal.CallRefusal.TheVariants.{Map}
use Rattle.name_ranges.specs.Directory.{key_of, number_in}

-- the number that is found at a key; the root is bad where it has not four bytes
abbrev pub numbered : ℕ → Result (Option (List ℕ)) MapErr → Result (Option ℕ) MapErr
numbered lo (Ok None) = Ok None
numbered lo (Ok (Some number)) = if length number == 4 then Ok (Some (number_in number)) else Err (bad_map lo)
numbered lo (Err e) = Err e

-- the object of a key, and of a name
abbrev pub object_told : Bounds → ℕ → ℕ → State → List ℕ → Result (Option ℕ) MapErr
object_told b lo hi s key = numbered lo (get_told b lo hi s key)

abbrev pub find_told : Bounds → ℕ → ℕ → State → List ℕ → Result (Option ℕ) MapErr
find_told b lo hi s name = object_told b lo hi s (key_of name)

-- the value of an object that is found; the root is bad where there is no such object
abbrev pub valued : Bounds → ℕ → State → Result (Option ℕ) MapErr → Result (Option (List ℕ)) MapErr
valued b lo s (Ok None) = Ok None
valued b lo s (Ok (Some x)) = if nat_lt x b.objects then Ok (Some (s x)) else Err (bad_map lo)
valued b lo s (Err e) = Err e

-- the value of a name
abbrev pub value_told : Bounds → ℕ → ℕ → State → List ℕ → Result (Option (List ℕ)) MapErr
value_told b lo hi s name = valued b lo s (find_told b lo hi s name)

-- a key is a text
abbrev pub as_key : List ℕ → Result (List ℕ) MapErr
as_key key = if nat_lt (length key) 65536 then Ok key else Err (Refused (Map TooLong))
