-- Names and values in a store: a directory in a range of objects, and behind it the objects of the names.
use Rattle.std.specs.Prelude.{◌≡◌, ◌≤◌, ℕ, List, option_map}
use Rattle.std.specs.FinMap.{get}
use Rattle.oper_core.specs.Meaning.{IsSmall}
use Rattle.oper_core.specs.State.{State}
use Rattle.oper_core.specs.declared.bounds.Bounds.{Bounds}
use Rattle.page_map.specs.Map.{content_of}
use Rattle.page_map.specs.Plan.{Admits}
use Rattle.page_map.specs.Sets.{IsKept}
use Rattle.named_words.specs.Effects.{Names}
use Rattle.name_ranges.specs.Directory.{Directory, IsDirectory, object_of}

-- The range is a map as calls make it, which is a directory, and the value of a name is what its object has.
pub record IsNamed (b : Bounds) (lo hi : ℕ) (s : State) (names : Names) : Type 0 where
  pub kept : IsKept b lo hi s
  pub directory : IsDirectory hi b.objects (content_of kept.map)
  pub value : (name : List ℕ) → get names name ≡ option_map s (object_of (content_of kept.map) name)

abbrev pub directory_of : {b : Bounds} → {lo hi : ℕ} → {s : State} → {names : Names} → IsNamed b lo hi s names → Directory
directory_of is = content_of is.kept.map

-- a store of these bounds admits changes of maps up to an object
pub record HasMaps (b : Bounds) (hi : ℕ) : Type 0 where
  pub small : IsSmall b
  pub admits : Admits b hi
  pub wide : 1024 ≤ b.cap
