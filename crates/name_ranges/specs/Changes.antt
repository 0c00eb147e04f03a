-- What operations do to names and their values.
use Rattle.std.specs.Prelude.{◌≡◌, ◌≢◌, ◌<◌, ◌≤◌, ℕ, Option, None, Some, List, [], length, map, option_map}
use Rattle.std.specs.FinMap.{get, insert, remove}
use Rattle.oper_core.specs.Meaning.{Accepts, after}
use Rattle.oper_core.specs.State.{State}
use Rattle.oper_core.specs.declared.bounds.Bounds.{Bounds}
use Rattle.call_plans.specs.Laws.{AllAccepted, after_all}
use Rattle.call_plans.specs.Plan.{Plan}
use Rattle.op_codec.specs.AllOps.{AllOps, all_meaning, page}
use Rattle.page_ops.specs.declared.page_op.PageOp.{PageOp}
use Rattle.page_map.specs.Deletes.{delete_plan}
use Rattle.page_map.specs.Sets.{set_plan}
use Rattle.page_map.specs.declared.refusal.MapRefusal.{MapRefusal}
use Rattle.page_map.specs.declared.refusal.MapRefusal.TheVariants.{MapFull, NoKey}
use Rattle.named_words.specs.Effects.{Names}
use Rattle.name_ranges.specs.Directory.{Directory, key_of, number_bytes, number_in, sizes_of}
use Rattle.name_ranges.specs.Named.{IsNamed, directory_of}

module _ (b : Bounds) (s : State) where
  -- the operation is accepted, and an object has a value then, and all others have what they had
  pub record Writes (op : AllOps) (x : ℕ) (bytes : List ℕ) : Type 0 where
    pub accepted : Accepts (all_meaning b) s op
    pub made : after (all_meaning b) s op x ≡ bytes
    pub others : (z : ℕ) → z ≢ x → after (all_meaning b) s op z ≡ s z

  module _ (lo hi : ℕ) where
    -- the operations are accepted one after the other, and behind them the range has these names in this directory
    pub record Leaves (ops : List AllOps) (names : Names) (directory : Directory) : Type 0 where
      pub accepted : AllAccepted (all_meaning b) s ops
      pub named : IsNamed b lo hi (after_all (all_meaning b) s ops) names
      pub content : directory_of named ≡ directory

    -- the operations leave the objects behind the range
    abbrev pub LeavesOthers : List AllOps → Type 0
    LeavesOthers ops = (z : ℕ) → hi < z → after_all (all_meaning b) s ops z ≡ s z

module _ (b : Bounds) (lo hi : ℕ) (s : State) (names : Names) (is : IsNamed b lo hi s names) (name : List ℕ) where
  -- What a get finds at the key of a name is the number of its object, and the name has the value of this.
  pub record IsFound (found : Option (List ℕ)) : Type 0 where
    pub value : get names name ≡ option_map (λ number. s (number_in number)) found
    pub whole : (number : List ℕ) → found ≡ Some number → length number ≡ 4
    pub within : (number : List ℕ) → found ≡ Some number → (hi < number_in number) × (number_in number < b.objects)

  -- a set of the key of a name to the number of an object
  abbrev pub giving : ℕ → Plan PageOp MapRefusal
  giving x = set_plan b lo hi (key_of name) (number_bytes x) s

  -- It gives the name this object and its value; or it is refused, and nothing is changed: of a name that is not too long only
  -- since the range is full.
  pub record Gives (x : ℕ) : Type 0 where
    pub done : (giving x).refusal ≡ None → Leaves b s lo hi (map page (giving x).commands) (insert names name (s x)) (insert (directory_of is) (key_of name) (number_bytes x))
    pub refused : (r : MapRefusal) → (giving x).refusal ≡ Some r → Leaves b s lo hi (map page (giving x).commands) names (directory_of is)
    pub full : (r : MapRefusal) → (giving x).refusal ≡ Some r → length name ≤ (sizes_of b).name → r ≡ MapFull
    pub others : LeavesOthers b s lo hi (map page (giving x).commands)

  -- a delete of the key of a name
  abbrev pub taking : Plan PageOp MapRefusal
  taking = delete_plan b lo hi (key_of name) s

  -- It takes the name away; or it is refused, exactly where the name is not there, and does nothing.
  pub record Takes : Type 0 where
    pub done : taking.refusal ≡ None → Leaves b s lo hi (map page taking.commands) (remove names name) (remove (directory_of is) (key_of name))
    pub refused : (r : MapRefusal) → taking.refusal ≡ Some r → (r ≡ NoKey) × (get names name ≡ None) × (taking.commands ≡ [])
    pub there : get names name ≡ None → taking.refusal ≢ None
    pub others : LeavesOthers b s lo hi (map page taking.commands)
