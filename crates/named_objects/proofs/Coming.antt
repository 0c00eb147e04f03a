-- What comes of a put.
use Rattle.std.proofs.Common.{◌≡◌, ap, ◌∙◌, ℕ, Bool, true, false, if◌then◌else◌, Ok, Err, List, [], ◌∷◌, ◌++◌, length}
use Rattle.std.specs.Prelude.{nat_lt}
use Rattle.formats.specs.declared.params.Params.{Params}
use Rattle.call_plans.specs.Plan.{Plan}
use Rattle.page_map.specs.declared.refusal.MapRefusal.TheVariants.{TooLong}
use Rattle.range_calls.specs.ComesLaws.{ran}
use Rattle.range_calls.specs.RoundLaws.{and_then}
use Rattle.range_calls.specs.Store.{Command}
use Rattle.range_calls.specs.declared.call_err.CallErr.TheVariants.{Refused}
use Rattle.map_client.specs.Answers.{MapErr}
use Rattle.map_client.specs.Changing.{set_comes}
use Rattle.map_client.specs.declared.call_refusal.CallRefusal.TheVariants.{Map}
use Rattle.name_ranges.specs.Directory.{number_bytes}
use Rattle.named_objects.specs.Answers.{as_key}
use Rattle.named_objects.specs.Giving.{fresh, given_comes, new_comes}
use Rattle.named_objects.specs.declared.given.Given.{Given}

-- a key that is no text
pub too_long : (key : List ℕ) (e : MapErr) → Err e ≡ as_key key → Refused (Map TooLong) ≡ e
too_long key e = by_length (nat_lt (length key) 65536)
  where
    by_length : (t : Bool) → Err e ≡ (if t then Ok key else Err (Refused (Map TooLong))) → Refused (Map TooLong) ≡ e
    by_length true is = cc
    by_length false is = cc is

-- the operation and the set behind it, from what they are called with
pub given_is : (lo hi : ℕ) (key text number : List ℕ) (given : Given) (spare : ℕ) (op : Command) → op ≡ fresh given spare → Ok text ≡ as_key key → number ≡ number_bytes spare → (p : Params) (commands : List Command)
    → (let q : Plan Command MapErr = ran (op ∷ []) p commands in and_then q (set_comes lo hi text number p (commands ++ q.commands)) ≡ new_comes lo hi key given spare p commands)
given_is lo hi key text number given spare op op_is text_is number_is p commands =
    (λ i. let q : Plan Command MapErr = ran (op_is i ∷ []) p commands in and_then q (set_comes lo hi text (number_is i) p (commands ++ q.commands)))
    ∙ ap (given_comes lo hi given spare p commands) text_is
