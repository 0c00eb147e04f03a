-- Lists of numbers, each of which is in one of them at most.
use Rattle.std.specs.Prelude.{◌≡◌, ℕ, zero, suc, ◌<◌, ◌+◌, ◌≤◌, ◌⊎◌, ◌↔◌, nat_eq, IsTrue, List, [], ◌∷◌, length}
use Rattle.std.specs.List.{IsDistinct}
use Rattle.oper_core.specs.State.{is_among}

-- what contracts see: the lists, how many numbers there are, and how many more of both there is memory for
pub record Lists : Type 0 where
  pub lists : List (List ℕ)
  pub items : ℕ
  pub list_room : ℕ
  pub item_room : ℕ

-- the list at the place, empty where there is none
abbrev pub list_at : List (List ℕ) → ℕ → List ℕ
list_at [] i = []
list_at (xs ∷ lists) zero = xs
list_at (xs ∷ lists) (suc i) = list_at lists i

-- the number is in no list
abbrev pub IsFree : List (List ℕ) → ℕ → Type 0
IsFree lists k = (i : ℕ) → IsTrue (is_among k (list_at lists i)) → ⊥

-- no number stands twice in a list or in two lists, and each is below the end
pub record AreApart (lists : List (List ℕ)) (items : ℕ) : Type 0 where
  pub distinct : (i : ℕ) → IsDistinct nat_eq (list_at lists i)
  pub apart : (i j k : ℕ) → IsTrue (is_among k (list_at lists i)) → IsTrue (is_among k (list_at lists j)) → i ≡ j
  pub below : (i k : ℕ) → IsTrue (is_among k (list_at lists i)) → k < items

-- as many lists and numbers, and as much room
pub record AreAsMany (old new : Lists) : Type 0 where
  pub lists : length new.lists ≡ length old.lists
  pub items : new.items ≡ old.items
  pub list_room : new.list_room ≡ old.list_room
  pub item_room : new.item_room ≡ old.item_room

-- all lists but this one are as they were
abbrev pub OthersStay : Lists → ℕ → Lists → Type 0
OthersStay old list new = (j : ℕ) → (j ≡ list → ⊥) → list_at new.lists j ≡ list_at old.lists j

-- the number stands in front of the list
pub record IsPushed (old : Lists) (list item : ℕ) (new : Lists) : Type 0 where
  pub here : list_at new.lists list ≡ item ∷ list_at old.lists list
  pub others : OthersStay old list new
  pub same : AreAsMany old new

-- the number, which was the first of the list, is in no list
pub record IsPopped (old : Lists) (list item : ℕ) (new : Lists) : Type 0 where
  pub here : list_at old.lists list ≡ item ∷ list_at new.lists list
  pub others : OthersStay old list new
  pub free : IsFree new.lists item
  pub below : item < new.items
  pub same : AreAsMany old new

-- the list was empty, and is
pub record IsEmptied (old : Lists) (list : ℕ) (new : Lists) : Type 0 where
  pub was : list_at old.lists list ≡ []
  pub same : new ≡ old

-- the list is empty, and what was in it is in no list
pub record IsCleared (old : Lists) (list : ℕ) (new : Lists) : Type 0 where
  pub here : list_at new.lists list ≡ []
  pub others : OthersStay old list new
  pub free : (k : ℕ) → IsTrue (is_among k (list_at old.lists list)) → IsFree new.lists k
  pub same : AreAsMany old new

-- one list has what was in it and what was in the other, which is empty
pub record IsPoured (old : Lists) (from to : ℕ) (new : Lists) : Type 0 where
  pub here : (k : ℕ) → IsTrue (is_among k (list_at new.lists to)) ↔ (IsTrue (is_among k (list_at old.lists to)) ⊎ IsTrue (is_among k (list_at old.lists from)))
  pub empty : list_at new.lists from ≡ []
  pub others : (j : ℕ) → (j ≡ from → ⊥) → (j ≡ to → ⊥) → list_at new.lists j ≡ list_at old.lists j
  pub same : AreAsMany old new

-- one list more, which is empty
pub record IsWider (old new : Lists) : Type 0 where
  pub here : (j : ℕ) → list_at new.lists j ≡ list_at old.lists j
  pub lists : length new.lists ≡ length old.lists + 1
  pub items : new.items ≡ old.items
  pub list_room : old.list_room ≤ new.list_room + 1
  pub item_room : new.item_room ≡ old.item_room

-- so many numbers more, which are in no list
pub record AreAdded (count : ℕ) (old new : Lists) : Type 0 where
  pub here : (j : ℕ) → list_at new.lists j ≡ list_at old.lists j
  pub free : (k : ℕ) → old.items ≤ k → IsFree new.lists k
  pub lists : length new.lists ≡ length old.lists
  pub items : new.items ≡ old.items + count
  pub list_room : new.list_room ≡ old.list_room
  pub item_room : old.item_room ≤ new.item_room + count

-- one number more, which is in no list
pub record IsLonger (old new : Lists) : Type 0 where
  pub here : (j : ℕ) → list_at new.lists j ≡ list_at old.lists j
  pub free : IsFree new.lists old.items
  pub lists : length new.lists ≡ length old.lists
  pub items : new.items ≡ old.items + 1
  pub list_room : new.list_room ≡ old.list_room
  pub item_room : old.item_room ≤ new.item_room + 1
