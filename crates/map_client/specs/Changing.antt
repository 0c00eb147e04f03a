-- What a call that changes a map comes to.
use Rattle.std.specs.Prelude.{ℕ, Bool, ◌&&◌, Option, None, Some, Result, Ok, Err, List, [], ◌∷◌, map, nat_le, nat_lt, if◌then◌else◌, option_map}
use Rattle.std.specs.Result.{result_err}
use Rattle.oper_core.specs.State.{State}
use Rattle.oper_core.specs.declared.bounds.Bounds.{Bounds}
use Rattle.formats.specs.Objects.{bounds_of}
use Rattle.formats.specs.declared.params.Params.{Params}
use Rattle.call_plans.specs.Plan.{Plan, refused_by}
use Rattle.op_codec.specs.AllOps.{page}
use Rattle.page_ops.specs.declared.page_op.PageOp.{PageOp}
use Rattle.page_map.specs.Deletes.{delete_plan, tidy_plan}
use Rattle.page_map.specs.Plan.{delete_command}
use Rattle.page_map.specs.Sets.{set_plan}
use Rattle.page_map.specs.Sweeps.{sweep_plan}
use Rattle.page_map.specs.declared.refusal.MapRefusal.{MapRefusal}
use Rattle.page_map.specs.declared.refusal.MapRefusal.TheVariants.{BadMap, NoKey}
use Rattle.range_calls.specs.Rounds.{tried}
use Rattle.range_calls.specs.Store.{Command, state_of}
use Rattle.range_calls.specs.declared.call_err.CallErr.TheVariants.{Refused}
use Rattle.map_client.specs.Answers.{MapErr}
use Rattle.map_client.specs.declared.call_refusal.CallRefusal.{CallRefusal}
use Rattle.map_client.specs.declared.call_refusal.CallRefusal.TheVariants.{NoObject, NoPages, Map}

-- a store admits changes of maps: it has operations on pages, and a value may hold 1,024 bytes
abbrev pub admits : Bounds → Bool
admits b = b.more && nat_le 1024 b.cap

-- why no map up to an object is changed in a store, whatever the objects hold
abbrev pub closed_by : Bounds → ℕ → Option CallRefusal
closed_by b hi = if nat_lt hi b.objects then (if admits b then None else Some NoPages) else Some NoObject

-- a command that is due, or why none is
abbrev pub Due : Type 0
Due = Result PageOp CallRefusal

abbrev pub unless_closed : Option CallRefusal → Due → Due
unless_closed None due = due
unless_closed (Some refusal) due = Err refusal

abbrev pub delete_of : Result (Option PageOp) ℕ → Due
delete_of (Err bad) = Err (Map (BadMap bad))
delete_of (Ok None) = Err (Map NoKey)
delete_of (Ok (Some op)) = Ok op

-- the one command of a delete
abbrev pub delete_due : Bounds → ℕ → ℕ → State → List ℕ → Due
delete_due b lo hi s key = unless_closed (closed_by b hi) (delete_of (delete_command lo hi s key))

-- as a call finds it
abbrev pub found : Due → Result Command MapErr
found (Ok op) = Ok (page op)
found (Err refusal) = Err (Refused refusal)

-- what is added
abbrev pub commands_in : Due → List Command
commands_in (Ok op) = page op ∷ []
commands_in (Err refusal) = []

-- a plan of operations on pages, as one of the store
abbrev pub in_store : Plan PageOp MapRefusal → Plan Command CallRefusal
in_store plan = record { commands = map page plan.commands; refusal = option_map Map plan.refusal }

-- what a set comes to where the store admits changes: its plan, as far as each command is accepted; on a map all are
abbrev pub set_made : ℕ → ℕ → List ℕ → List ℕ → Params → List Command → Plan Command MapErr
set_made lo hi key value p commands = tried p (state_of p commands) (in_store (set_plan (bounds_of p) lo hi key value (state_of p commands)))

abbrev pub made_unless : Option CallRefusal → Plan Command MapErr → Plan Command MapErr
made_unless None made = made
made_unless (Some refusal) made = refused_by (Refused refusal)

-- what a set comes to
abbrev pub set_comes : ℕ → ℕ → List ℕ → List ℕ → Params → List Command → Plan Command MapErr
set_comes lo hi key value p commands = made_unless (closed_by (bounds_of p) hi) (set_made lo hi key value p commands)

-- the command that takes a key out, and what comes of it
abbrev pub out_plan : Due → Plan Command CallRefusal
out_plan due = record { commands = commands_in due; refusal = result_err due }

abbrev pub out_made : ℕ → ℕ → List ℕ → Params → List Command → Plan Command MapErr
out_made lo hi key p commands = tried p (state_of p commands) (out_plan (delete_of (delete_command lo hi (state_of p commands) key)))

-- what a delete comes to where the store admits changes, and else
abbrev pub delete_made : ℕ → ℕ → List ℕ → Params → List Command → Plan Command MapErr
delete_made lo hi key p commands = tried p (state_of p commands) (in_store (delete_plan (bounds_of p) lo hi key (state_of p commands)))

abbrev pub delete_comes : ℕ → ℕ → List ℕ → Params → List Command → Plan Command MapErr
delete_comes lo hi key p commands = made_unless (closed_by (bounds_of p) hi) (delete_made lo hi key p commands)

-- what comes of tidying the way to a key where the store admits changes, and else
abbrev pub tidy_made : ℕ → ℕ → List ℕ → Params → List Command → Plan Command MapErr
tidy_made lo hi key p commands = tried p (state_of p commands) (in_store (tidy_plan (bounds_of p) lo hi key (state_of p commands)))

abbrev pub tidy_comes : ℕ → ℕ → List ℕ → Params → List Command → Plan Command MapErr
tidy_comes lo hi key p commands = made_unless (closed_by (bounds_of p) hi) (tidy_made lo hi key p commands)

-- what a sweep comes to where the store admits changes, and else
abbrev pub sweep_made : ℕ → ℕ → Params → List Command → Plan Command MapErr
sweep_made lo hi p commands = tried p (state_of p commands) (in_store (sweep_plan (record { lo = lo; hi = hi }) (state_of p commands)))

abbrev pub sweep_comes : ℕ → ℕ → Params → List Command → Plan Command MapErr
sweep_comes lo hi p commands = made_unless (closed_by (bounds_of p) hi) (sweep_made lo hi p commands)
