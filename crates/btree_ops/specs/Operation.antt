-- The operations on nodes: what they read and write, when they are refused, what they make, and their codes.
use Rattle.std.specs.Prelude.{ℕ, ◌==◌, Bool, true, ◌&&◌, Option, None, List, [], ◌∷◌, nat_le, if◌then◌else◌}
use Rattle.std.specs.Result.{result_err}
use Rattle.oper_core.specs.Meaning.{Meaning}
use Rattle.oper_core.specs.declared.bounds.Bounds.{Bounds}
use Rattle.oper_core.specs.declared.refusal.Refusal.{Refusal}
use Rattle.key_entries.specs.Short.{is_short}
use Rattle.key_entries.specs.Codes.{put_code, delete_code, three_code, put_in, delete_in, three_in}
use Rattle.key_entries.specs.Objects.{named, where_roomy, values_of}
use Rattle.btree_ops.specs.Node.{node_code}
use Rattle.btree_ops.specs.Effects.{made_by}
use Rattle.btree_ops.specs.declared.made.Made.{Made}
use Rattle.btree_ops.specs.declared.made.Made.TheVariants.{One, Three}
use Rattle.btree_ops.specs.declared.node_op.NodeOp.{NodeOp}
use Rattle.btree_ops.specs.declared.node_op.NodeOp.TheVariants.{Put, Delete, SplitChild, SplitRoot}

-- the objects that it names, all of which it writes
abbrev pub objects_of : NodeOp → List ℕ
objects_of (Put object key value) = object ∷ []
objects_of (Delete object key) = object ∷ []
objects_of (SplitChild parent child new) = parent ∷ child ∷ new ∷ []
objects_of (SplitRoot root left right) = root ∷ left ∷ right ∷ []

-- those that it reads: a new object is written blind
abbrev pub read_by : NodeOp → List ℕ
read_by (Put object key value) = object ∷ []
read_by (Delete object key) = object ∷ []
read_by (SplitChild parent child new) = parent ∷ child ∷ []
read_by (SplitRoot root left right) = root ∷ []

-- its key and its value are short, which the type of keys and values says of each in a program
abbrev pub has_keys : NodeOp → Bool
has_keys (Put object key value) = is_short key && is_short value
has_keys (Delete object key) = is_short key
has_keys (SplitChild parent child new) = true
has_keys (SplitRoot root left right) = true

-- its bytes in the log
abbrev pub op_code : NodeOp → List ℕ
op_code (Put object key value) = put_code 10 object key value
op_code (Delete object key) = delete_code 11 object key
op_code (SplitChild parent child new) = three_code 12 parent child new
op_code (SplitRoot root left right) = three_code 13 root left right

-- the operation whose code bytes begin with
abbrev pub op_in : List ℕ → Option NodeOp
op_in [] = None
op_in (tag ∷ body) =
    if tag == 10 then put_in Put body
    else (if tag == 11 then delete_in Delete body else (if tag == 12 then three_in SplitChild body else (if tag == 13 then three_in SplitRoot body else None)))

-- the bytes of the new nodes
abbrev pub bytes_of : Made → List (List ℕ)
bytes_of (One node) = node_code node ∷ []
bytes_of (Three first second third) = node_code first ∷ node_code second ∷ node_code third ∷ []

-- the first refusal that needs no value
abbrev pub shape_of : ℕ → NodeOp → Option Refusal
shape_of most op = named most (objects_of op) (has_keys op)

abbrev pub node_meaning : Bounds → Meaning NodeOp
node_meaning b = record {
  objects = b.objects;
  cap = b.cap;
  reads = read_by;
  writes = objects_of;
  shape = shape_of b.objects;
  check = λ op values. result_err (where_roomy b.cap (made_by op values));
  effect = λ op values. values_of bytes_of (objects_of op) (where_roomy b.cap (made_by op values));
  is_encodable = λ op. true;
  code = op_code;
}

-- the tags of these operations
abbrev pub is_node_tag : ℕ → Bool
is_node_tag tag = nat_le 10 tag && nat_le tag 13
