-- When a command may be run.
use Rattle.std.specs.Prelude.{◌≡◌, ◌≤◌, ◌<◌, Some}
use Rattle.oper_core.specs.State.{State}
use Rattle.oper_core.specs.Meaning.{Accepts, refusal_of}
use Rattle.oper_core.specs.declared.refusal.Refusal.TheVariants.{TooLarge}
use Rattle.formats.specs.Objects.{bounds_of}
use Rattle.formats.specs.declared.params.Params.{Params}
use Rattle.op_codec.specs.AllOps.{all_meaning}
use Rattle.range_calls.specs.Store.{Command}

-- it is accepted on the state, or refused as too large where a value may hold fewer than 1,024 bytes
pub record IsDue (p : Params) (s : State) (op : Command) : Type 0 where
  pub wide : 1024 ≤ p.cap → Accepts (all_meaning (bounds_of p)) s op
  pub narrow : p.cap < 1024 → refusal_of (all_meaning (bounds_of p)) s op ≡ Some TooLarge
