-- The operations on a hash file: what they read and write, when they are refused, what they make, and their codes.
use Rattle.std.specs.Prelude.{ℕ, ◌==◌, Bool, true, ◌&&◌, Option, None, List, [], ◌∷◌, nat_le, if◌then◌else◌}
use Rattle.std.specs.Result.{result_err}
use Rattle.oper_core.specs.Meaning.{Meaning}
use Rattle.oper_core.specs.declared.bounds.Bounds.{Bounds}
use Rattle.oper_core.specs.declared.refusal.Refusal.{Refusal}
use Rattle.key_entries.specs.Short.{is_short}
use Rattle.key_entries.specs.Codes.{put_code, delete_code, two_code, three_code, put_in, delete_in, two_in, three_in}
use Rattle.key_entries.specs.Objects.{named, where_roomy, values_of}
use Rattle.hash_ops.specs.Blocks.{directory_code, bucket_code}
use Rattle.hash_ops.specs.Effects.{made_by}
use Rattle.hash_ops.specs.declared.made.Made.{Made}
use Rattle.hash_ops.specs.declared.made.Made.TheVariants.{One, Two, Three}
use Rattle.hash_ops.specs.declared.hash_op.HashOp.{HashOp}
use Rattle.hash_ops.specs.declared.hash_op.HashOp.TheVariants.{Init, Put, Delete, Split}

-- the objects that it names, all of which it writes
abbrev pub objects_of : HashOp → List ℕ
objects_of (Init directory bucket) = directory ∷ bucket ∷ []
objects_of (Put bucket key value) = bucket ∷ []
objects_of (Delete bucket key) = bucket ∷ []
objects_of (Split directory bucket new) = directory ∷ bucket ∷ new ∷ []

-- those that it reads: a new object is written blind
abbrev pub read_by : HashOp → List ℕ
read_by (Init directory bucket) = []
read_by (Put bucket key value) = bucket ∷ []
read_by (Delete bucket key) = bucket ∷ []
read_by (Split directory bucket new) = directory ∷ bucket ∷ []

-- its key and its value are short, which the type of keys and values says of each in a program
abbrev pub has_keys : HashOp → Bool
has_keys (Init directory bucket) = true
has_keys (Put bucket key value) = is_short key && is_short value
has_keys (Delete bucket key) = is_short key
has_keys (Split directory bucket new) = true

-- its bytes in the log
abbrev pub op_code : HashOp → List ℕ
op_code (Init directory bucket) = two_code 17 directory bucket
op_code (Put bucket key value) = put_code 18 bucket key value
op_code (Delete bucket key) = delete_code 19 bucket key
op_code (Split directory bucket new) = three_code 20 directory bucket new

-- the operation whose code bytes begin with
abbrev pub op_in : List ℕ → Option HashOp
op_in [] = None
op_in (tag ∷ body) =
    if tag == 17 then two_in Init body
    else (if tag == 18 then put_in Put body else (if tag == 19 then delete_in Delete body else (if tag == 20 then three_in Split body else None)))

-- the bytes of what is made
abbrev pub bytes_of : Made → List (List ℕ)
bytes_of (Two d b) = directory_code d ∷ bucket_code b ∷ []
bytes_of (One b) = bucket_code b ∷ []
bytes_of (Three d low high) = directory_code d ∷ bucket_code low ∷ bucket_code high ∷ []

-- the first refusal that needs no value
abbrev pub shape_of : ℕ → HashOp → Option Refusal
shape_of most op = named most (objects_of op) (has_keys op)

abbrev pub hash_meaning : Bounds → Meaning HashOp
hash_meaning b = record {
  objects = b.objects;
  cap = b.cap;
  reads = read_by;
  writes = objects_of;
  shape = shape_of b.objects;
  check = λ op values. result_err (where_roomy b.cap (made_by op values));
  effect = λ op values. values_of bytes_of (objects_of op) (where_roomy b.cap (made_by op values));
  is_encodable = λ op. true;
  code = op_code;
}

-- the tags of these operations
abbrev pub is_hash_tag : ℕ → Bool
is_hash_tag tag = nat_le 17 tag && nat_le tag 20
