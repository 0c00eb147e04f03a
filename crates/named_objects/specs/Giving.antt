-- What calls come to that change names.
use Rattle.std.specs.Prelude.{ℕ, Option, None, Some, Result, Ok, Err, List, [], ◌∷◌, ◌++◌}
use Rattle.oper_core.specs.State.{State}
use Rattle.formats.specs.Objects.{bounds_of}
use Rattle.formats.specs.declared.params.Params.{Params}
use Rattle.call_plans.specs.Plan.{Plan, refused_by}
use Rattle.op_codec.specs.AllOps.{plain}
use Rattle.op_meaning.specs.declared.plain_op.PlainOp.TheVariants.{Append, Copy, Put}
use Rattle.range_calls.specs.ComesLaws.{ran}
use Rattle.range_calls.specs.RoundLaws.{and_then}
use Rattle.range_calls.specs.Store.{Command, state_of}
use Rattle.map_client.specs.Answers.{MapErr}
use Rattle.map_client.specs.Changing.{delete_comes, set_comes}
use Rattle.name_ranges.specs.Directory.{key_of, number_bytes}
use Rattle.named_objects.specs.Answers.{as_key, find_told}
use Rattle.named_objects.specs.declared.given.Given.{Given}
use Rattle.named_objects.specs.declared.given.Given.TheVariants.{Bytes, CopyOf, Longer}

-- the operation that writes it to the object of a name
abbrev pub changed : Given → ℕ → Command
changed (Bytes value) x = plain (Put x value)
changed (CopyOf y) x = plain (Copy y x)
changed (Longer y) x = plain (Append y x)

-- and to the object that a new name gets, whatever bytes this has
abbrev pub fresh : Given → ℕ → Command
fresh (Bytes value) x = plain (Put x value)
fresh (CopyOf y) x = plain (Copy y x)
fresh (Longer y) x = plain (Copy y x)

-- the value that a name has then, behind another one or none
abbrev pub given_value : State → Option (List ℕ) → Given → List ℕ
given_value s had (Bytes value) = value
given_value s had (CopyOf y) = s y
given_value s None (Longer y) = s y
given_value s (Some value) (Longer y) = value ++ s y

-- the object whose value it is, or a part of it
abbrev pub source_of : Given → Option ℕ
source_of (Bytes value) = None
source_of (CopyOf y) = Some y
source_of (Longer y) = Some y

-- a spare object is written, and then a key is set to its number
abbrev pub given_comes : ℕ → ℕ → Given → ℕ → Params → List Command → Result (List ℕ) MapErr → Plan Command MapErr
given_comes lo hi given spare p commands (Ok key) =
    let first = ran (fresh given spare ∷ []) p commands in
    and_then first (set_comes lo hi key (number_bytes spare) p (commands ++ first.commands))
given_comes lo hi given spare p commands (Err e) = refused_by e

abbrev pub new_comes : ℕ → ℕ → List ℕ → Given → ℕ → Params → List Command → Plan Command MapErr
new_comes lo hi key given spare p commands = given_comes lo hi given spare p commands (as_key key)

-- the object that is found is written, or of a new name a spare one
abbrev pub put_found : ℕ → ℕ → List ℕ → Given → ℕ → Params → List Command → Result (Option ℕ) MapErr → Plan Command MapErr
put_found lo hi key given spare p commands (Err e) = refused_by e
put_found lo hi key given spare p commands (Ok (Some x)) = ran (changed given x ∷ []) p commands
put_found lo hi key given spare p commands (Ok None) = new_comes lo hi key given spare p commands

-- what a put comes to
abbrev pub put_comes : ℕ → ℕ → List ℕ → Given → ℕ → Params → List Command → Plan Command MapErr
put_comes lo hi name given spare p commands = put_found lo hi (key_of name) given spare p commands (find_told (bounds_of p) lo hi (state_of p commands) name)

-- and a take
abbrev pub take_comes : ℕ → ℕ → List ℕ → Params → List Command → Plan Command MapErr
take_comes lo hi name p commands = delete_comes lo hi (key_of name) p commands
