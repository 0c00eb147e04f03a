-- What the operations make of directories and buckets, and when they are refused.
use Rattle.std.specs.Prelude.{ℕ, suc, ◌==◌, Bool, true, false, not, ◌&&◌, Option, None, Some, Result, Ok, Err, List, [], ◌∷◌, ◌++◌, filter, nat_le, if◌then◌else◌, slice_index_or}
use Rattle.oper_core.specs.State.{is_among}
use Rattle.oper_core.specs.declared.refusal.Refusal.{Refusal}
use Rattle.oper_core.specs.declared.refusal.Refusal.TheVariants.{NotNode, NoKey, NodeFull}
use Rattle.key_entries.specs.Pairs.{with_pair, without_pair}
use Rattle.hash_ops.specs.Hash.{hash, has_bit}
use Rattle.hash_ops.specs.Blocks.{directory, bucket, directory_in, bucket_in}
use Rattle.hash_ops.specs.declared.directory.Directory.{Directory}
use Rattle.hash_ops.specs.declared.bucket.Bucket.{Bucket}
use Rattle.hash_ops.specs.declared.made.Made.{Made}
use Rattle.hash_ops.specs.declared.made.Made.TheVariants.{One, Two, Three}
use Rattle.hash_ops.specs.declared.hash_op.HashOp.{HashOp}
use Rattle.hash_ops.specs.declared.hash_op.HashOp.TheVariants.{Init, Put, Delete, Split}

-- the bucket with other pairs, or the refusal where there are none
abbrev pub refilled : Bucket → Refusal → Option (List (List ℕ × List ℕ)) → Result Made Refusal
refilled b r None = Err r
refilled b r (Some pairs) = Ok (One (bucket b.depth pairs))

-- a pair is put into the bucket: a key that is there gets the new value
abbrev pub put_made : List ℕ → List ℕ → Option Bucket → Result Made Refusal
put_made key value None = Err NotNode
put_made key value (Some b) = refilled b NodeFull (with_pair key value b.pairs.items)

-- the key's pair leaves the bucket
abbrev pub delete_made : List ℕ → Option Bucket → Result Made Refusal
delete_made key None = Err NotNode
delete_made key (Some b) = refilled b NoKey (without_pair key b.pairs.items)

-- The directory of a bucket that is as deep doubles first: entry i + 2^g is entry i.
abbrev pub deep_enough : ℕ → Directory → Directory
deep_enough depth d = if depth == d.depth then directory (suc d.depth) (d.entries.items ++ d.entries.items) else d

-- an entry of the old bucket whose number has the bit names the new one
abbrev pub renamed_at : ℕ → ℕ → ℕ → ℕ → ℕ → ℕ
renamed_at place old new i x = if x == old && has_bit place i then new else x

-- the entries from number i on
abbrev pub renamed : ℕ → ℕ → ℕ → ℕ → List ℕ → List ℕ
renamed place old new i [] = []
renamed place old new i (x ∷ entries) = renamed_at place old new i x ∷ renamed place old new (suc i) entries

abbrev pub with_new : ℕ → ℕ → ℕ → Directory → Directory
with_new place old new d = directory d.depth (renamed place old new 0 d.entries.items)

-- a key whose number has the bit belongs to the upper half, any other to the lower one
abbrev pub is_in_half : Bool → ℕ → List ℕ → Bool
is_in_half true place key = has_bit place (hash key)
is_in_half false place key = not (has_bit place (hash key))

abbrev pub half : Bool → ℕ → List (List ℕ × List ℕ) → List (List ℕ × List ℕ)
half upper place pairs = filter (λ e. is_in_half upper place e.0) pairs

-- the bucket is split by the bit at its local depth, which the new number and both halves then have as one more
abbrev pub halved : ℕ → ℕ → Directory → Bucket → Made
halved old new d b =
    Three (with_new b.depth old new (deep_enough b.depth d)) (bucket (suc b.depth) (half false b.depth b.pairs.items)) (bucket (suc b.depth) (half true b.depth b.pairs.items))

-- a bucket that the directory names is split, unless its local depth is the greatest
abbrev pub split_made : ℕ → ℕ → Option Directory → Option Bucket → Result Made Refusal
split_made old new (Some d) (Some b) =
    if is_among old d.entries.items && nat_le b.depth d.depth then (if b.depth == 6 then Err NodeFull else Ok (halved old new d b)) else Err NotNode
split_made old new (Some d) None = Err NotNode
split_made old new None b = Err NotNode

-- the new directory and buckets, from the values of the objects that are read
abbrev pub made_by : HashOp → List (List ℕ) → Result Made Refusal
made_by (Init x y) values = Ok (Two (directory 0 (y ∷ [])) (bucket 0 []))
made_by (Put x key value) values = put_made key value (bucket_in (slice_index_or values 0 []))
made_by (Delete x key) values = delete_made key (bucket_in (slice_index_or values 0 []))
made_by (Split x old new) values = split_made old new (directory_in (slice_index_or values 0 [])) (bucket_in (slice_index_or values 1 []))
