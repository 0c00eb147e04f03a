-- The operations on pages: what they read and write, when they are refused, what they make, and their codes.
use Rattle.std.specs.Prelude.{ℕ, ◌==◌, Bool, true, ◌&&◌, Option, None, Some, Ok, Err, List, [], ◌∷◌, nat_le, if◌then◌else◌, option_map}
use Rattle.std.specs.Result.{result_err}
use Rattle.oper_core.specs.Meaning.{Meaning}
use Rattle.oper_core.specs.declared.bounds.Bounds.{Bounds}
use Rattle.oper_core.specs.declared.refusal.Refusal.{Refusal}
use Rattle.oper_core.specs.declared.refusal.Refusal.TheVariants.{NoPages}
use Rattle.key_entries.specs.Objects.{named}
use Rattle.page_ops.specs.Formats.{Format, object, put_format, set_format, place_format, part_format, absorb_format, join_format, turn_format, turn_two_format, root_format}
use Rattle.page_ops.specs.Layout.{value_of}
use Rattle.page_ops.specs.Effects.{Made, made_by, where_short}
use Rattle.page_ops.specs.declared.page_op.PageOp.{PageOp}
use Rattle.page_ops.specs.declared.page_op.PageOp.TheVariants.{Put, Set, Delete, Part, Absorb, Join, Keep, Turn, TurnTwo, Root, Free}

-- the objects that it reads or writes, the one that it writes first
abbrev pub objects_of : PageOp → List ℕ
objects_of (Put x i key value) = x ∷ []
objects_of (Set x i value) = x ∷ []
objects_of (Delete x i) = x ∷ []
objects_of (Part new x i j) = new ∷ x ∷ []
objects_of (Absorb x other t) = x ∷ other ∷ []
objects_of (Join new x other i j) = new ∷ x ∷ other ∷ []
objects_of (Keep x n) = x ∷ []
objects_of (Turn x i r child) = x ∷ []
objects_of (TurnTwo x i r child key second) = x ∷ []
objects_of (Root x level left key right) = x ∷ []
objects_of (Free x) = x ∷ []

-- the one object that it writes
abbrev pub written_by : PageOp → ℕ
written_by (Put x i key value) = x
written_by (Set x i value) = x
written_by (Delete x i) = x
written_by (Part new x i j) = new
written_by (Absorb x other t) = x
written_by (Join new x other i j) = new
written_by (Keep x n) = x
written_by (Turn x i r child) = x
written_by (TurnTwo x i r child key second) = x
written_by (Root x level left key right) = x
written_by (Free x) = x

-- those that it reads: a new page, a root and a free one are written blind
abbrev pub read_by : PageOp → List ℕ
read_by (Put x i key value) = x ∷ []
read_by (Set x i value) = x ∷ []
read_by (Delete x i) = x ∷ []
read_by (Part new x i j) = x ∷ []
read_by (Absorb x other t) = x ∷ other ∷ []
read_by (Join new x other i j) = x ∷ other ∷ []
read_by (Keep x n) = x ∷ []
read_by (Turn x i r child) = x ∷ []
read_by (TurnTwo x i r child key second) = x ∷ []
read_by (Root x level left key right) = []
read_by (Free x) = []

-- its numbers and its texts fit their fields, which their types say of each in a program
abbrev pub fits_code : PageOp → Bool
fits_code (Put x i key value) = put_format.fits (x, (i, (key, value)))
fits_code (Set x i value) = set_format.fits (x, (i, value))
fits_code (Delete x i) = place_format.fits (x, i)
fits_code (Part new x i j) = part_format.fits (new, (x, (i, j)))
fits_code (Absorb x other t) = absorb_format.fits (x, (other, t))
fits_code (Join new x other i j) = join_format.fits (new, (x, (other, (i, j))))
fits_code (Keep x n) = place_format.fits (x, n)
fits_code (Turn x i r child) = turn_format.fits (x, (i, (r, child)))
fits_code (TurnTwo x i r child key second) = turn_two_format.fits (x, (i, (r, (child, (key, second)))))
fits_code (Root x level left key right) = root_format.fits (x, (level, (left, (key, right))))
fits_code (Free x) = object.fits x

-- its bytes in the log
abbrev pub op_code : PageOp → List ℕ
op_code (Put x i key value) = 21 ∷ put_format.code (x, (i, (key, value)))
op_code (Set x i value) = 22 ∷ set_format.code (x, (i, value))
op_code (Delete x i) = 23 ∷ place_format.code (x, i)
op_code (Part new x i j) = 24 ∷ part_format.code (new, (x, (i, j)))
op_code (Absorb x other t) = 25 ∷ absorb_format.code (x, (other, t))
op_code (Join new x other i j) = 26 ∷ join_format.code (new, (x, (other, (i, j))))
op_code (Keep x n) = 27 ∷ place_format.code (x, n)
op_code (Turn x i r child) = 28 ∷ turn_format.code (x, (i, (r, child)))
op_code (TurnTwo x i r child key second) = 29 ∷ turn_two_format.code (x, (i, (r, (child, (key, second)))))
op_code (Root x level left key right) = 30 ∷ root_format.code (x, (level, (left, (key, right))))
op_code (Free x) = 31 ∷ object.code x

-- the operation that is made of the fields that bytes begin with
abbrev pub made_of : {X : Type 0} → Format X → (X → PageOp) → List ℕ → Option PageOp
made_of format make body = option_map (λ t. make t.0) (format.read body)

-- the operation whose code bytes begin with
abbrev pub op_in : List ℕ → Option PageOp
op_in [] = None
op_in (tag ∷ body) =
    if tag == 21 then made_of put_format (λ t. Put t.0 t.1.0 t.1.1.0 t.1.1.1) body
    else (if tag == 22 then made_of set_format (λ t. Set t.0 t.1.0 t.1.1) body
    else (if tag == 23 then made_of place_format (λ t. Delete t.0 t.1) body
    else (if tag == 24 then made_of part_format (λ t. Part t.0 t.1.0 t.1.1.0 t.1.1.1) body
    else (if tag == 25 then made_of absorb_format (λ t. Absorb t.0 t.1.0 t.1.1) body
    else (if tag == 26 then made_of join_format (λ t. Join t.0 t.1.0 t.1.1.0 t.1.1.1.0 t.1.1.1.1) body
    else (if tag == 27 then made_of place_format (λ t. Keep t.0 t.1) body
    else (if tag == 28 then made_of turn_format (λ t. Turn t.0 t.1.0 t.1.1.0 t.1.1.1) body
    else (if tag == 29 then made_of turn_two_format (λ t. TurnTwo t.0 t.1.0 t.1.1.0 t.1.1.1.0 t.1.1.1.1.0 t.1.1.1.1.1) body
    else (if tag == 30 then made_of root_format (λ t. Root t.0 t.1.0 t.1.1.0 t.1.1.1.0 t.1.1.1.1) body
    else (if tag == 31 then made_of object Free body else None))))))))))

-- the first refusal that needs no value: the store does not admit pages, or the objects are not there, or two are one
abbrev pub shape_of : Bounds → PageOp → Option Refusal
shape_of b op = if b.more then named b.objects (objects_of op) (fits_code op) else Some NoPages

-- the value that is written: where nothing is made it is empty
abbrev pub value_made : Made → List ℕ
value_made (Ok made) = value_of made
value_made (Err r) = []

abbrev pub page_meaning : Bounds → Meaning PageOp
page_meaning b = record {
  objects = b.objects;
  cap = b.cap;
  reads = read_by;
  writes = λ op. written_by op ∷ [];
  shape = shape_of b;
  check = λ op values. result_err (where_short b.cap (made_by op values));
  effect = λ op values. value_made (where_short b.cap (made_by op values)) ∷ [];
  is_encodable = λ op. true;
  code = op_code;
}

-- the tags of these operations
abbrev pub is_page_tag : ℕ → Bool
is_page_tag tag = nat_le 21 tag && nat_le tag 31
