-- The commands by which a map is changed, where the leaf has room for what comes in.
use Rattle.std.specs.Prelude.{◌≡◌, ◌<◌, ℕ, true, Option, None, Some, Result, Ok, Err, List, length, is_some, if◌then◌else◌}
use Rattle.std.specs.FinMap.{FinMap, get, insert, remove}
use Rattle.oper_core.specs.State.{State}
use Rattle.oper_core.specs.Meaning.{Accepts, after, refusal_of}
use Rattle.oper_core.specs.declared.bounds.Bounds.{Bounds}
use Rattle.oper_core.specs.declared.refusal.Refusal.{Refusal}
use Rattle.oper_core.specs.declared.refusal.Refusal.TheVariants.{TooLarge}
use Rattle.key_entries.specs.Entries.{byte_order}
use Rattle.page_ops.specs.Reading.{seek, stands_at}
use Rattle.page_ops.specs.Operation.{page_meaning}
use Rattle.page_ops.specs.declared.page_op.PageOp.{PageOp}
use Rattle.page_ops.specs.declared.page_op.PageOp.TheVariants.{Put, Set, Delete}
use Rattle.page_map.specs.Map.{bytes_at, IsMap, content_of}
use Rattle.page_map.specs.Walk.{walk}

-- what is done at the place of a key in a leaf, or the leaf, where a cell that is asked does not fit
abbrev pub at_place : {A : Type 0} → (ℕ → A) → ℕ → Option ℕ → Result A ℕ
at_place act x None = Err x
at_place act x (Some i) = Ok (act i)

-- what is done in the leaf at the end of a way, or the bad object on it
abbrev pub at_leaf : {A : Type 0} → (ℕ → Result A ℕ) → Result ℕ ℕ → Result A ℕ
at_leaf act (Err bad) = Err bad
at_leaf act (Ok x) = act x

abbrev pub set_at : ℕ → List ℕ → List ℕ → List ℕ → ℕ → PageOp
set_at x bytes key value i = if stands_at bytes i key then Set x i value else Put x i key value

abbrev pub set_in : ℕ → List ℕ → List ℕ → List ℕ → Result PageOp ℕ
set_in x bytes key value = at_place (set_at x bytes key value) x (seek bytes key)

-- the command that gives a key a value
abbrev pub set_command : ℕ → ℕ → State → List ℕ → List ℕ → Result PageOp ℕ
set_command lo hi s key value = at_leaf (λ x. set_in x (bytes_at lo s x) key value) (walk lo hi s key)

abbrev pub delete_at : ℕ → List ℕ → List ℕ → ℕ → Option PageOp
delete_at x bytes key i = if stands_at bytes i key then Some (Delete x i) else None

abbrev pub delete_in : ℕ → List ℕ → List ℕ → Result (Option PageOp) ℕ
delete_in x bytes key = at_place (delete_at x bytes key) x (seek bytes key)

-- the command that takes a key out, where it is there
abbrev pub delete_command : ℕ → ℕ → State → List ℕ → Result (Option PageOp) ℕ
delete_command lo hi s key = at_leaf (λ x. delete_in x (bytes_at lo s x) key) (walk lo hi s key)

-- the store has the objects up to one, and page operations
pub record Admits (b : Bounds) (hi : ℕ) : Type 0 where
  pub more : b.more ≡ true
  pub objects : hi < b.objects

module _ (b : Bounds) (lo hi : ℕ) (s : State) (is : IsMap lo hi s) where
  -- where the command is accepted the range is a map with the change
  pub record Makes (change : FinMap byte_order (List ℕ) → FinMap byte_order (List ℕ)) (op : PageOp) : Type 0 where
    pub kept : IsMap lo hi (after (page_meaning b) s op)
    pub content : content_of kept ≡ change (content_of is)

  -- it is refused as too large, where the store admits it, and for no other cause
  abbrev pub OnlyTooLarge : PageOp → Type 0
  OnlyTooLarge op = Admits b hi → (r : Refusal) → refusal_of (page_meaning b) s op ≡ Some r → r ≡ TooLarge

  pub record SetMakes (key value : List ℕ) : Type 0 where
    pub op : PageOp
    pub command : set_command lo hi s key value ≡ Ok op
    pub makes : Accepts (page_meaning b) s op → Makes (λ m. insert m key value) op
    pub causes : length key < 65536 → length value < 65536 → OnlyTooLarge op

  pub record DeleteMakes (key : List ℕ) : Type 0 where
    pub op : PageOp
    pub command : delete_command lo hi s key ≡ Ok (if is_some (get (content_of is) key) then Some op else None)
    pub makes : is_some (get (content_of is) key) ≡ true → Accepts (page_meaning b) s op → Makes (λ m. remove m key) op
    pub causes : is_some (get (content_of is) key) ≡ true → OnlyTooLarge op
