-- What the operations on directories and buckets make of bytes.
use Rattle.std.proofs.Common.{◌≡◌, ◌≤◌, ℕ, suc, Bool, true, false, not, ◌&&◌, ◌==◌, cond, Option, None, Some, Ok, Err, List, [], ◌∷◌, ◌++◌, All, length, flat_map, refl, subst, arith, slice_index_or}
use Rattle.std.specs.Prelude.{IfOk, IfSome, nat_le}
use Rattle.std.specs.FinMap.Entries.{put}
use Rattle.std.specs.Ordering.{eq_by_cmp}
use Rattle.std.proofs.lemmas.List.Elements.{All-nil}
use Rattle.byteorder.specs.Endian.{little_bytes}
use Rattle.oper_core.specs.State.{is_among}
use Rattle.oper_core.specs.declared.bounds.Bounds.{Bounds}
use Rattle.oper_core.specs.declared.refusal.Refusal.{Refusal}
use Rattle.oper_core.specs.declared.refusal.Refusal.TheVariants.{NoKey, NodeFull, NotNode}
use Rattle.key_entries.specs.Entries.{byte_order, entries_code, entry_code, short_field}
use Rattle.key_entries.specs.Pairs.{has, with_pair, without, without_pair}
use Rattle.key_entries.specs.Short.{short_code}
use Rattle.hash_ops.specs.BlockLaws.{bucket_only, directory_shallow}
use Rattle.hash_ops.specs.Blocks.{bucket, bucket_code, bucket_in, directory, directory_code, directory_in}
use Rattle.hash_ops.specs.Effects.{delete_made, half, halved, is_in_half, made_by, put_made, refilled, split_made}
use Rattle.hash_ops.specs.Operation.{bytes_of, hash_meaning, objects_of, op_code}
use Rattle.hash_ops.specs.declared.bucket.Bucket.{Bucket}
use Rattle.hash_ops.specs.declared.directory.Directory.{Directory}
use Rattle.hash_ops.specs.declared.hash_op.HashOp.{HashOp}
use Rattle.hash_ops.specs.declared.hash_op.HashOp.TheVariants.{Delete, Init, Put, Split}
use Rattle.hash_ops.specs.declared.made.Made.{Made}
use Rattle.hash_ops.specs.declared.made.Made.TheVariants.{One, Three, Two}
use Rattle.app_program.specs.OneCode.{AreBytes}
use Rattle.app_steps.proofs.ByteLists.{bytes_back, bytes_cons, bytes_drop, each_bytes, numbers_bytes, one_value, three_values, two_values, value_bytes}
use Rattle.app_steps.proofs.EntryBytes.{AreSome, IsEntry, entries_bytes, pairs_kept, pairs_put, roomy_bytes}

-- a bucket with a small depth and some pairs of bytes
record IsOfBytes (b : Bucket) : Type 0 where
  depth : b.depth ≤ 7
  pairs : AreSome 8 short_field b.pairs.items

bucket_bytes : (b : Bucket) → IsOfBytes b → AreBytes (bucket_code b)
bucket_bytes b is =
    let body : List ℕ = entries_code short_field b.pairs.items in
    bytes_cons 4 (b.depth ∷ length b.pairs.items ∷ body) (omega arith)
    (bytes_cons b.depth (length b.pairs.items ∷ body) (omega (arith, is.depth))
    (bytes_cons (length b.pairs.items) body (omega (arith, is.pairs.few)) (entries_bytes short_field b.pairs.items is.pairs)))

directory_bytes : (d : Directory) → d.depth ≤ 7 → AreBytes (directory_code d)
directory_bytes d shallow =
    let body : List ℕ = flat_map (little_bytes 4) d.entries.items in
    bytes_cons 3 (d.depth ∷ body) (omega arith) (bytes_cons d.depth body (omega (arith, shallow)) (numbers_bytes 4 d.entries.items))

-- what is read of bytes
record IsRead (b : Bucket) : Type 0 where
  depth : b.depth ≤ 6
  pairs : AreSome 7 short_field b.pairs.items

found : (bytes : List ℕ) (r : Option Bucket) → AreBytes bytes → bucket_in bytes ≡ r → IfSome r IsRead
found bytes None are is = tt
found bytes (Some b) are is =
    let read = bucket_only bytes b are is in
    record {
      depth = read.0.shallow;
      pairs = record { few = read.0.pairs.few; each = each_bytes (entry_code short_field) b.pairs.items (bytes_drop 3 (bucket_code b) (subst AreBytes read.1 are)) };
    }

found_directory : (bytes : List ℕ) (r : Option Directory) → directory_in bytes ≡ r → IfSome r (λ d. d.depth ≤ 6)
found_directory bytes None is = tt
found_directory bytes (Some d) is = directory_shallow bytes d is

-- ---- what is made

abbrev AreMade : Made → Type 0
AreMade (One b) = IsOfBytes b
AreMade (Two d b) = (d.depth ≤ 7) × IsOfBytes b
AreMade (Three d low high) = (d.depth ≤ 7) × IsOfBytes low × IsOfBytes high

made_bytes : (made : Made) → AreMade made → All AreBytes (bytes_of made)
made_bytes (One b) is = one_value (bucket_code b) (bucket_bytes b is)
made_bytes (Two d b) is = two_values (directory_code d) (bucket_code b) (directory_bytes d is.0) (bucket_bytes b is.1)
made_bytes (Three d low high) is = three_values (directory_code d) (bucket_code low) (bucket_code high) (directory_bytes d is.0) (bucket_bytes low is.1) (bucket_bytes high is.2)

refilled_bytes : (b : Bucket) (r : Refusal) (o : Option (List (List ℕ × List ℕ))) → IsRead b → IfSome o (AreSome 8 short_field) → IfOk (refilled b r o) AreMade
refilled_bytes b r None is are = tt
refilled_bytes b r (Some pairs) is are = record { depth = omega (arith, is.depth); pairs = are }

put_bytes : (key value : List ℕ) (o : Option Bucket) → IsEntry short_field (key, value) → IfSome o IsRead → IfOk (put_made key value o) AreMade
put_bytes key value None new is = tt
put_bytes key value (Some b) new is = refilled_bytes b NodeFull (with_pair key value b.pairs.items) is (by_test (not (has key b.pairs.items) && length b.pairs.items == 7)) where
  by_test : (t : Bool) → IfSome (cond t None (Some (put byte_order key value b.pairs.items))) (AreSome 8 short_field)
  by_test true = tt
  by_test false = pairs_put key value b.pairs.items new is.pairs

delete_bytes : (key : List ℕ) (o : Option Bucket) → IfSome o IsRead → IfOk (delete_made key o) AreMade
delete_bytes key None is = tt
delete_bytes key (Some b) is = refilled_bytes b NoKey (without_pair key b.pairs.items) is (by_test (has key b.pairs.items)) where
  by_test : (t : Bool) → IfSome (cond t (Some (without key b.pairs.items)) None) (AreSome 8 short_field)
  by_test true = pairs_kept (λ e. not (eq_by_cmp byte_order key e.0)) b.pairs.items is.pairs
  by_test false = tt

-- a directory that is doubled, or not, has a small depth
doubled : (test : Bool) (d : Directory) → d.depth ≤ 6 → (cond test (directory (suc d.depth) (d.entries.items ++ d.entries.items)) d).depth ≤ 7
doubled true d shallow = omega (arith, shallow)
doubled false d shallow = omega (arith, shallow)

half_bytes : (upper : Bool) (b : Bucket) → IsRead b → IsOfBytes (bucket (suc b.depth) (half upper b.depth b.pairs.items))
half_bytes upper b is = record { depth = omega (arith, is.depth); pairs = pairs_kept (λ e. is_in_half upper b.depth e.0) b.pairs.items is.pairs }

halved_bytes : (old new : ℕ) (d : Directory) (b : Bucket) → d.depth ≤ 6 → IsRead b → AreMade (halved old new d b)
halved_bytes old new d b shallow is = (doubled (b.depth == d.depth) d shallow, half_bytes false b is, half_bytes true b is)

split_bytes : (old new : ℕ) (d : Option Directory) (b : Option Bucket) → IfSome d (λ d. d.depth ≤ 6) → IfSome b IsRead → IfOk (split_made old new d b) AreMade
split_bytes old new (Some d) (Some b) shallow is = by_tests (is_among old d.entries.items && nat_le b.depth d.depth) (b.depth == 6) where
  by_tests : (named deepest : Bool) → IfOk (cond named (cond deepest (Err NodeFull) (Ok (halved old new d b))) (Err NotNode)) AreMade
  by_tests true true = tt
  by_tests true false = halved_bytes old new d b shallow is
  by_tests false deepest = tt
split_bytes old new (Some d) None shallow is = tt
split_bytes old new None b shallow is = tt

outcome_bytes : (op : HashOp) (values : List (List ℕ)) → AreBytes (op_code op) → All AreBytes values → IfOk (made_by op values) AreMade
outcome_bytes (Init x y) values code all = (omega arith, record { depth = omega arith; pairs = record { few = omega arith; each = All-nil (IsEntry short_field) } })
outcome_bytes (Put x key value) values code all =
    put_bytes key value (bucket_in (slice_index_or values 0 [])) (bytes_back (little_bytes 4 x) (short_code key ++ short_code value) (bytes_drop 1 (op_code (Put x key value)) code))
    (found (slice_index_or values 0 []) (bucket_in (slice_index_or values 0 [])) (value_bytes 0 values all) refl)
outcome_bytes (Delete x key) values code all =
    delete_bytes key (bucket_in (slice_index_or values 0 [])) (found (slice_index_or values 0 []) (bucket_in (slice_index_or values 0 [])) (value_bytes 0 values all) refl)
outcome_bytes (Split x old new) values code all =
    split_bytes old new (directory_in (slice_index_or values 0 [])) (bucket_in (slice_index_or values 1 []))
    (found_directory (slice_index_or values 0 []) (directory_in (slice_index_or values 0 [])) refl)
    (found (slice_index_or values 1 []) (bucket_in (slice_index_or values 1 [])) (value_bytes 1 values all) refl)

pub hash_bytes : (b : Bounds) (op : HashOp) (values : List (List ℕ)) → AreBytes ((hash_meaning b).code op) → All AreBytes values → All AreBytes ((hash_meaning b).effect op values)
hash_bytes b op values code all = roomy_bytes bytes_of AreMade made_bytes (objects_of op) b.cap (made_by op values) (outcome_bytes op values code all)
