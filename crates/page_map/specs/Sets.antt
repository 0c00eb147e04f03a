-- What a set does, one turn after the other: it ends with the command that puts the pair in, where the leaf has room for it;
-- else a page is cut in two, and the call begins again.
use Rattle.std.specs.Prelude.{◌≡◌, ◌⊎◌, ℕ, zero, suc, ◌+◌, ◌*◌, ◌-◌, ◌≤◌, ◌<◌, Bool, false, ◌&&◌, Option, None, Some, Result, Ok, Err, IsTrue, List, [], ◌∷◌, ◌++◌, take, length, nat_le, nat_lt, if◌then◌else◌, option_map}
use Rattle.std.specs.List.{list_all}
use Rattle.std.specs.FinMap.{insert}
use Rattle.oper_core.specs.State.{State}
use Rattle.oper_core.specs.Meaning.{Accepts, after}
use Rattle.oper_core.specs.declared.bounds.Bounds.{Bounds}
use Rattle.call_plans.specs.Free.{free_from}
use Rattle.call_plans.specs.Laws.{AllAccepted, after_all}
use Rattle.call_plans.specs.Plan.{Plan, one_command, refused_by}
use Rattle.page_ops.specs.Page.{Cell}
use Rattle.page_ops.specs.Reading.{beside_of, level_in, seek, stands_at}
use Rattle.page_ops.specs.Operation.{page_meaning}
use Rattle.page_ops.specs.declared.page_op.PageOp.{PageOp}
use Rattle.page_ops.specs.declared.page_op.PageOp.TheVariants.{Part, Keep, TurnTwo, Root}
use Rattle.page_map.specs.Map.{Tree, Each, bytes_at, IsMap, content_of}
use Rattle.page_map.specs.Plan.{set_at}
use Rattle.page_map.specs.Walk.{walk}
use Rattle.page_map.specs.Splits.{Split, Due, fits, asks, granted, bad_from, cell_size, due_from}
use Rattle.page_map.specs.declared.refusal.MapRefusal.{MapRefusal}
use Rattle.page_map.specs.declared.refusal.MapRefusal.TheVariants.{BadMap, MapFull, NoKey, TooLong}

-- the most bytes of a page: places have two bytes
abbrev pub room_of : ℕ → ℕ
room_of cap = if nat_le cap 65535 then cap else 65535

-- a key with eight bytes takes an eighth of a page at most, and a value a quarter; so of a full page and one more pair each half fits
abbrev pub is_short_key : ℕ → List ℕ → Bool
is_short_key room key = nat_le (8 * (length key + 8)) room

abbrev pub is_short_pair : ℕ → Cell → Bool
is_short_pair room c = is_short_key room c.0 && nat_le (4 * length c.1) room

-- a pair that a map takes: the key has a byte at least, and 1,023 at most
abbrev pub is_pair : ℕ → Cell → Bool
is_pair room c = is_short_pair room c && (nat_lt 0 (length c.0) && nat_le (length c.0) 1023)

-- what comes next in a call: commands that keep the content, after which it begins again; the one that ends it; or a refusal
pub data Turn : Type 0 where
  does : List PageOp → Turn
  ends : PageOp → Turn
  refuses : MapRefusal → Turn

-- a page under another is cut: the new page is made, the page above names it, and the cells that it has go
abbrev pub child_split : Split → ℕ → ℕ → List ℕ → Turn
child_split w q i [] = refuses MapFull
child_split w q i (new ∷ free) = does (Part new w.object w.place w.count ∷ TurnTwo q i 1 w.object w.key new ∷ Keep w.object w.place ∷ [])

-- the root is cut: both halves are made, and it becomes the page above them; there are 256 levels at most
abbrev pub root_split : Split → List ℕ → Turn
root_split w (left ∷ right ∷ free) =
    if nat_lt w.level 255 then does (Part left w.object 0 w.place ∷ Part right w.object w.place w.count ∷ Root w.object (suc w.level) left w.key right ∷ [])
    else refuses MapFull
root_split w others = refuses MapFull

-- Where the leaf has no room a page is cut, and before that cells past its span go. If a second reading of the leaf finds room
-- there the range is no map.
abbrev pub cut_turn : ℕ → List ℕ → Result Due ℕ → Turn
cut_turn lo free (Err bad) = refuses (BadMap bad)
cut_turn lo free (Ok fits) = refuses (BadMap lo)
cut_turn lo free (Ok (asks w)) = root_split w free
cut_turn lo free (Ok (granted w q i)) = if w.has_past then does (Keep w.object w.count ∷ []) else child_split w q i free

-- what is due where no object on the way is bad
abbrev pub unless_bad : ℕ → Option ℕ → Option Due → Result Due ℕ
unless_bad lo (Some bad) due = Err bad
unless_bad lo None None = Err lo
unless_bad lo None (Some due) = Ok due

-- how long a leaf becomes where a pair is put at the place of its key
abbrev pub length_with : List ℕ → List ℕ → List ℕ → ℕ → ℕ
length_with bytes key value i =
    if stands_at bytes i key then length bytes - length (beside_of bytes i) + length value else length bytes + cell_size (key, value)

-- a leaf has room for a pair; none where a cell that is asked does not fit
abbrev pub room_in : ℕ → List ℕ → List ℕ → List ℕ → Option Bool
room_in room bytes key value = option_map (λ i. nat_le (length_with bytes key value i) room) (seek bytes key)

module _ (b : Bounds) (lo hi : ℕ) where
  abbrev pub due_in : List ℕ → List ℕ → State → Result Due ℕ
  due_in key value s =
      unless_bad lo (bad_from lo hi s key (level_in (bytes_at lo s lo)) lo) (due_from (room_of b.cap) lo s key value (level_in (bytes_at lo s lo)) lo None)

  -- at the place of the key in its leaf: the command that puts the pair in, where it has room
  abbrev pub put_turn : List ℕ → List ℕ → State → ℕ → Option ℕ → Turn
  put_turn key value s x None = refuses (BadMap x)
  put_turn key value s x (Some i) =
      if nat_le (length_with (bytes_at lo s x) key value i) (room_of b.cap) then ends (set_at x (bytes_at lo s x) key value i)
      else cut_turn lo (free_from s (suc lo) (hi - lo)) (due_in key value s)

  abbrev pub set_by : List ℕ → List ℕ → State → Result ℕ ℕ → Turn
  set_by key value s (Err bad) = refuses (BadMap bad)
  set_by key value s (Ok x) = put_turn key value s x (seek (bytes_at lo s x) key)

  -- what comes next in a set
  abbrev pub set_turn : List ℕ → List ℕ → State → Turn
  set_turn key value s = if is_pair (room_of b.cap) (key, value) then set_by key value s (walk lo hi s key) else refuses TooLong

  -- the commands of a turn, and then those of the turns behind it
  abbrev pub by_turn : (List PageOp → Plan PageOp MapRefusal) → Turn → Plan PageOp MapRefusal
  by_turn rest (does ops) = record { commands = ops ++ (rest ops).commands; refusal = (rest ops).refusal }
  by_turn rest (ends op) = one_command op
  by_turn rest (refuses r) = refused_by r

  -- turns one after the other, at most n
  abbrev pub set_from : List ℕ → List ℕ → ℕ → State → Plan PageOp MapRefusal
  set_from key value zero s = record { commands = []; refusal = None }
  set_from key value (suc n) s = by_turn (λ ops. set_from key value n (after_all (page_meaning b) s ops)) (set_turn key value s)

  -- Two turns on each level are enough, for the page on the way that is on it: one takes out cells past its span, one cuts it.
  abbrev pub set_plan : List ℕ → List ℕ → State → Plan PageOp MapRefusal
  set_plan key value s = set_from key value (2 * level_in (bytes_at lo s lo) + 3) s

-- keys and values are as short as calls let them be
abbrev pub AreShortPairs : ℕ → (level : ℕ) → Tree level → Type 0
AreShortPairs room zero leaf = IsTrue (list_all (is_short_pair room) leaf.cells)
AreShortPairs room (suc level) page = IsTrue (list_all (λ c. is_short_key room c.0) page.children) × Each (AreShortPairs room level) page.children

-- a map as calls make it, in a store of these bounds
pub record IsKept (b : Bounds) (lo hi : ℕ) (s : State) : Type 0 where
  pub map : IsMap lo hi s
  pub short : AreShortPairs (room_of b.cap) map.level map.tree
  pub values_fit : (x : ℕ) → length (s x) ≤ b.cap

module _ (b : Bounds) (lo hi : ℕ) (s : State) (is : IsKept b lo hi s) where
  -- each of the commands is accepted, and behind each the range is a map with the same content
  pub record Keeps (ops : List PageOp) : Type 0 where
    pub accepted : AllAccepted (page_meaning b) s ops
    pub kept : (k : ℕ) → IsKept b lo hi (after_all (page_meaning b) s (take k ops))
    pub content : (k : ℕ) → content_of (kept k).map ≡ content_of is.map

  -- the command is accepted, and makes the map with the pair
  pub record Inserts (key value : List ℕ) (op : PageOp) : Type 0 where
    pub accepted : Accepts (page_meaning b) s op
    pub kept : IsKept b lo hi (after (page_meaning b) s op)
    pub content : content_of kept.map ≡ insert (content_of is.map) key value

  -- a key or a value is too long, or fewer than two objects are empty, or the map has all its levels
  abbrev pub IsCause : List ℕ → List ℕ → MapRefusal → Type 0
  IsCause key value TooLong = is_pair (room_of b.cap) (key, value) ≡ false
  IsCause key value MapFull = (length (free_from s (suc lo) (hi - lo)) < 2) ⊎ (255 ≤ is.map.level)
  IsCause key value NoKey = ⊥
  IsCause key value (BadMap x) = ⊥

  abbrev pub IsTurn : List ℕ → List ℕ → Turn → Type 0
  IsTurn key value (does ops) = Keeps ops
  IsTurn key value (ends op) = Inserts key value op
  IsTurn key value (refuses r) = IsCause key value r

module _ (b : Bounds) (lo hi : ℕ) (s : State) (is : IsKept b lo hi s) where
  -- The commands of a set are accepted one after the other, and behind each the range is a map: with the old content before the
  -- last one, and with the pair behind it; or it is refused, where all keep the content, by a cause that the map then has. They
  -- are so few.
  pub record Sets (key value : List ℕ) (plan : Plan PageOp MapRefusal) (most : ℕ) : Type 0 where
    pub accepted : AllAccepted (page_meaning b) s plan.commands
    pub kept : (k : ℕ) → IsKept b lo hi (after_all (page_meaning b) s (take k plan.commands))
    pub before : (k : ℕ) → k < length plan.commands → content_of (kept k).map ≡ content_of is.map
    pub done : plan.refusal ≡ None → content_of (kept (length plan.commands)).map ≡ insert (content_of is.map) key value
    pub refused : (r : MapRefusal) → plan.refusal ≡ Some r
        → (content_of (kept (length plan.commands)).map ≡ content_of is.map)
        × IsCause b lo hi (after_all (page_meaning b) s (take (length plan.commands) plan.commands)) (kept (length plan.commands)) key value r
    pub few : length plan.commands ≤ most
