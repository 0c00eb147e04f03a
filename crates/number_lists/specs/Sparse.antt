-- Lists of numbers that stand at places while they are in one.
use Rattle.std.specs.Prelude.{◌≡◌, ℕ, suc, ◌+◌, ◌-◌, min, max, ◌<◌, ◌≤◌, ◌^◌, ◌⊎◌, IsTrue, List, [], ◌∷◌, length, map, slice_index}
use Rattle.oper_core.specs.State.{is_among}
use Rattle.number_lists.specs.Lists.{Lists, list_at, IsFree}

-- the numbers that stand at the places of each list but the first, which has the free places
abbrev pub listed : List ℕ → List (List ℕ) → List (List ℕ)
listed numbers [] = []
listed numbers (free ∷ lists) = map (map (slice_index numbers)) lists

-- the room for lists, of which there are 2^32 at most, with the first
abbrev pub list_room_of : List (List ℕ) → ℕ → ℕ
list_room_of lists room = min (room - (1 - length lists)) (2 ^ 32 - max 1 (length lists))

-- what contracts see
abbrev pub seen : Lists → List ℕ → ℕ → ℕ → Lists
seen places numbers items room = record { lists = listed numbers places.lists; items = items; list_room = list_room_of places.lists places.list_room; item_room = room }

-- each place is in one list, and in each but the first of them another number stands there
pub record AreStanding (places : Lists) (numbers : List ℕ) (items : ℕ) : Type 0 where
  pub below : (i k : ℕ) → IsTrue (is_among k (list_at places.lists i)) → k < length numbers
  pub apart : (i j k : ℕ) → IsTrue (is_among k (list_at places.lists i)) → IsTrue (is_among k (list_at places.lists j)) → i ≡ j
  pub placed : (k : ℕ) → k < length numbers → (i : ℕ) × IsTrue (is_among k (list_at places.lists i))
  pub small : (i k : ℕ) → IsTrue (is_among k (list_at places.lists (suc i))) → slice_index numbers k < items
  pub once : (i j k l : ℕ) → IsTrue (is_among k (list_at places.lists (suc i))) → IsTrue (is_among l (list_at places.lists (suc j))) → slice_index numbers k ≡ slice_index numbers l → k ≡ l
  pub count : places.items ≡ length numbers
  pub fit : length numbers ≤ items
  pub few : length places.lists ≤ 2 ^ 32

-- the number stands at the place, which is in no list, and each other number in a list stands where it stood
pub record IsStood (item place : ℕ) (old : Lists) (old_numbers : List ℕ) (new : Lists) (numbers : List ℕ) : Type 0 where
  pub here : slice_index numbers place ≡ item
  pub below : place < length numbers
  pub kept : (k : ℕ) → (k ≡ place → ⊥) → slice_index numbers k ≡ slice_index old_numbers k
  pub free : IsFree new.lists place
  pub lists : (i : ℕ) → list_at new.lists (suc i) ≡ list_at old.lists (suc i)
  pub free_places : (k : ℕ) → IsTrue (is_among k (list_at old.lists 0)) → IsTrue (is_among k (list_at new.lists 0)) ⊎ (k ≡ place)
  pub only : (k : ℕ) → IsTrue (is_among k (list_at new.lists 0)) → IsTrue (is_among k (list_at old.lists 0))
  pub size : length new.lists ≡ length old.lists
  pub count : new.items ≡ length numbers
  pub grown : (length numbers ≡ length old_numbers) ⊎ ((list_at old.lists 0 ≡ []) × (length numbers ≡ length old_numbers + 1) × (place ≡ length old_numbers))
  pub list_room : new.list_room ≡ old.list_room
  pub room : old.items + old.item_room ≤ new.items + new.item_room

-- there is the first list, which is empty where it was not there
pub record IsBegun (old new : Lists) : Type 0 where
  pub here : (i : ℕ) → list_at new.lists i ≡ list_at old.lists i
  pub size : length new.lists ≡ max 1 (length old.lists)
  pub items : new.items ≡ old.items
  pub list_room : old.list_room + length old.lists ≤ new.list_room + length new.lists
  pub item_room : new.item_room ≡ old.item_room
