-- What a call reads in one page.
use Rattle.std.specs.Prelude.{ℕ, Bool, true, false, Option, None, Some, Result, Ok, Err, List, if◌then◌else◌}
use Rattle.page_ops.specs.Reading.{level_in, opens, under, found_in}
use Rattle.page_ops.specs.declared.page_op.PageOp.{PageOp}
use Rattle.page_map.specs.Plan.{delete_in, set_in}
use Rattle.page_map.specs.Sets.{room_in}
use Rattle.page_map.specs.Walk.{is_on, child_for}

-- the level of a page
abbrev pub level_of : List ℕ → Option ℕ
level_of bytes = if opens bytes then Some (level_in bytes) else None

-- the child of a page of this level under which a key stands
abbrev pub child_on : ℕ → ℕ → ℕ → List ℕ → List ℕ → Option ℕ
child_on lo hi level bytes key = if is_on level bytes then child_for lo hi bytes (under bytes key) else None

-- what a leaf has at a key
abbrev pub found_on : List ℕ → List ℕ → Option (Option (List ℕ))
found_on bytes key = if is_on 0 bytes then found_in bytes key else None

-- the command of a delete in a leaf, and of a set there, or the object
abbrev pub delete_on : ℕ → List ℕ → List ℕ → Result (Option PageOp) ℕ
delete_on x bytes key = if is_on 0 bytes then delete_in x bytes key else Err x

abbrev pub set_on : ℕ → List ℕ → List ℕ → List ℕ → Result PageOp ℕ
set_on x bytes key value = if is_on 0 bytes then set_in x bytes key value else Err x

-- that of a set, where the leaf has room for the pair; or the object, where it is no leaf or a cell that is asked does not fit
abbrev pub where_room : ℕ → Result PageOp ℕ → Option Bool → Result (Option PageOp) ℕ
where_room x op None = Err x
where_room x op (Some false) = Ok None
where_room x (Ok op) (Some true) = Ok (Some op)
where_room x (Err bad) (Some true) = Err bad

abbrev pub put_on : ℕ → ℕ → List ℕ → List ℕ → List ℕ → Result (Option PageOp) ℕ
put_on room x bytes key value = where_room x (set_on x bytes key value) (if is_on 0 bytes then room_in room bytes key value else None)
