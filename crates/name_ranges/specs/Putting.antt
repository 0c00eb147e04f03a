-- How a name is given a value: the value is written first, and then, where the name is new, its key.
use Rattle.std.specs.Prelude.{◌≡◌, ◌≢◌, ◌<◌, ◌≤◌, ℕ, Option, None, Some, is_some, Result, Ok, Err, List, length, map, if◌then◌else◌}
use Rattle.std.specs.FinMap.{insert}
use Rattle.oper_core.specs.Meaning.{after}
use Rattle.oper_core.specs.State.{State}
use Rattle.oper_core.specs.declared.bounds.Bounds.{Bounds}
use Rattle.call_plans.specs.Laws.{after_all}
use Rattle.call_plans.specs.Plan.{Plan, one_command, with_command}
use Rattle.op_codec.specs.AllOps.{AllOps, all_meaning, page}
use Rattle.page_ops.specs.declared.page_op.PageOp.{PageOp}
use Rattle.page_map.specs.Sets.{set_plan}
use Rattle.page_map.specs.Walk.{get_answer}
use Rattle.page_map.specs.declared.refusal.MapRefusal.{MapRefusal}
use Rattle.page_map.specs.declared.refusal.MapRefusal.TheVariants.{MapFull}
use Rattle.named_words.specs.Effects.{Names}
use Rattle.name_ranges.specs.Changes.{Leaves, Writes}
use Rattle.name_ranges.specs.Directory.{Directory, IsSpare, key_of, number_bytes, number_in, object_of, sizes_of}
use Rattle.name_ranges.specs.Named.{IsNamed, directory_of}

-- the object that a get finds for a name; none also where the way to its key is bad
abbrev pub found_in : Result (Option (List ℕ)) ℕ → Option ℕ
found_in (Ok (Some number)) = Some (number_in number)
found_in (Ok None) = None
found_in (Err bad) = None

abbrev pub object_at : ℕ → ℕ → State → List ℕ → Option ℕ
object_at lo hi s name = found_in (get_answer lo hi s (key_of name))

-- commands on pages, as operations of the store
abbrev pub stored : Plan PageOp MapRefusal → Plan AllOps MapRefusal
stored plan = record { commands = map page plan.commands; refusal = plan.refusal }

-- A value is written by an operation on the object of the name, or on a spare one, which the name is given then.
abbrev pub put_at : Bounds → ℕ → ℕ → List ℕ → ℕ → (ℕ → AllOps) → State → Option ℕ → Plan AllOps MapRefusal
put_at b lo hi name spare writing s (Some x) = one_command (writing x)
put_at b lo hi name spare writing s None =
    with_command (writing spare) (stored (set_plan b lo hi (key_of name) (number_bytes spare) (after (all_meaning b) s (writing spare))))

abbrev pub put_plan : Bounds → ℕ → ℕ → List ℕ → ℕ → (ℕ → AllOps) → State → Plan AllOps MapRefusal
put_plan b lo hi name spare writing s = put_at b lo hi name spare writing s (object_at lo hi s name)

-- the directory then
abbrev pub directory_with : Directory → List ℕ → ℕ → Directory
directory_with directory name spare = if is_some (object_of directory name) then directory else insert directory (key_of name) (number_bytes spare)

-- the object that is written: the one of the name, or a spare one where the name is new
abbrev pub written_in : ℕ → Option ℕ → ℕ
written_in spare None = spare
written_in spare (Some x) = x

module _ (b : Bounds) (lo hi : ℕ) (s : State) (names : Names) (is : IsNamed b lo hi s names) (name bytes : List ℕ) (spare : ℕ) (writing : ℕ → AllOps) where
  abbrev pub written : ℕ
  written = written_in spare (object_of (directory_of is) name)

  -- the operation writes these bytes to that object, which of a new name is a spare one
  pub record IsWriting : Type 0 where
    pub short : length bytes ≤ b.cap
    pub spare_is : object_of (directory_of is) name ≡ None → IsSpare hi b.objects (directory_of is) spare
    pub writes : Writes b s (writing written) written bytes

  abbrev pub putting : Plan AllOps MapRefusal
  putting = put_plan b lo hi name spare writing s

  -- The name has the value; or it is refused, and no name is changed: of a name that is not too long only since the range is full.
  -- All other objects behind the range have what they had.
  pub record Puts : Type 0 where
    pub done : putting.refusal ≡ None → Leaves b s lo hi putting.commands (insert names name bytes) (directory_with (directory_of is) name spare)
    pub refused : (r : MapRefusal) → putting.refusal ≡ Some r → Leaves b s lo hi putting.commands names (directory_of is)
    pub full : (r : MapRefusal) → putting.refusal ≡ Some r → length name ≤ (sizes_of b).name → r ≡ MapFull
    pub others : (z : ℕ) → hi < z → z ≢ written → after_all (all_meaning b) s putting.commands z ≡ s z
