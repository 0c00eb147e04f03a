-- What every operation of the grammar meets.
use Rattle.std.proofs.Common.{◌≡◌, ◌≤◌, ◌<◌, ℕ, zero, suc, ◌+◌, ◌^◌, ◌==◌, Bool, true, false, not, ◌&&◌, if◌then◌else◌, Option, None, Some, Result, Ok, Err, List, [], ◌∷◌, ◌++◌, All, length, drop, slice_index_or, refl, sym, ap, ◌∙◌, subst, arith, length-append}
use Rattle.std.specs.Prelude.{IsTrue, nat_eq, nat_lt, nat_le}
use Rattle.std.specs.Result.{result_err}
use Rattle.std.specs.List.{IsDistinct, list_all}
use Rattle.std.specs.Ordering.{eq_by_cmp}
use Rattle.std.specs.FinMap.Entries.{put}
use Rattle.std.proofs.lemmas.List.Elements.{All-cons, All-nil}
use Rattle.oper_core.specs.State.{is_among}
use Rattle.oper_core.specs.Meaning.{HasBounds, AreWithin, IsInGrammar, IsLawful, IsSmall, Widens}
use Rattle.oper_core.specs.Family.{IsTagged}
use Rattle.oper_core.specs.declared.bounds.Bounds.{Bounds}
use Rattle.oper_core.specs.declared.refusal.Refusal.{Refusal}
use Rattle.oper_core.specs.declared.refusal.Refusal.TheVariants.{NotNode, NoKey, NodeFull}
use Rattle.key_entries.specs.Short.{is_short, short_code}
use Rattle.key_entries.specs.Entries.{byte_order, short_field, entries_code}
use Rattle.key_entries.specs.EntryLaws.{AreBytes, bytes_behind, both_true, true_both, if_some, same_some, short_bounds, short_exact}
use Rattle.key_entries.specs.RisingLaws.{rising_small}
use Rattle.key_entries.specs.Pairs.{has, without, with_pair, without_pair}
use Rattle.key_entries.specs.PairLaws.{put_small, kept_small}
use Rattle.key_entries.specs.Codes.{put_in, delete_in, two_in, three_in}
use Rattle.key_entries.specs.CodeLaws.{put_found, delete_found, two_found, three_found, put_begins, delete_begins, two_begin, three_begin, chosen, IsPutAt, IsDeleteAt, AreTwoAt, AreThreeAt}
use Rattle.key_entries.specs.Objects.{are_apart, values_of}
use Rattle.key_entries.specs.ObjectLaws.{named_tells, named_wider, below_all, distinct, first_two_apart, first_two_below, weaker, values_fit, roomy_wider, FitIn, either_fits, one_fits, three_fit}
use Rattle.hash_ops.specs.Blocks.{directory, bucket, directory_code, bucket_code, directory_in, bucket_in}
use Rattle.hash_ops.specs.BlockLaws.{bucket_tells, directory_count, directory_shallow, numbers_size}
use Rattle.hash_ops.specs.RenameLaws.{renamed_size}
use Rattle.hash_ops.specs.Effects.{deep_enough, renamed, with_new, is_in_half, half, halved, refilled, put_made, delete_made, split_made, made_by}
use Rattle.hash_ops.specs.Operation.{objects_of, read_by, has_keys, op_code, op_in, bytes_of, hash_meaning, is_hash_tag}
use Rattle.hash_ops.specs.declared.directory.Directory.{Directory}
use Rattle.hash_ops.specs.declared.bucket.Bucket.{Bucket}
use Rattle.hash_ops.specs.declared.made.Made.{Made}
use Rattle.hash_ops.specs.declared.hash_op.HashOp.{HashOp}
use Rattle.hash_ops.specs.declared.hash_op.HashOp.TheVariants.{Init, Put, Delete, Split}

reads_below : (n : ℕ) (op : HashOp) → IsTrue (list_all (λ x. nat_lt x n) (objects_of op)) → All (λ x. x < n) (read_by op)
reads_below n (Init x y) e = All-nil (λ x. x < n)
reads_below n (Put x key value) e = below_all n (x ∷ []) e
reads_below n (Delete x key) e = below_all n (x ∷ []) e
reads_below n (Split x old new) e = first_two_below n x old new e

reads_apart : (op : HashOp) → IsTrue (are_apart (objects_of op)) → IsDistinct nat_eq (read_by op)
reads_apart (Init x y) e = distinct [] refl
reads_apart (Put x key value) e = distinct (x ∷ []) e
reads_apart (Delete x key) e = distinct (x ∷ []) e
reads_apart (Split x old new) e = distinct (x ∷ old ∷ []) (first_two_apart x old new e)

-- how long the bytes of what is made are

-- a bucket that was read is short
bucket_small : (bytes : List ℕ) (b : Bucket) → bucket_in bytes ≡ Some b → length (entries_code short_field b.pairs.items) ≤ 462
bucket_small [] b is = cc
bucket_small (kind ∷ []) b is = cc
bucket_small (kind ∷ depth ∷ []) b is = cc
bucket_small (kind ∷ depth ∷ count ∷ body) b is =
    let told = bucket_tells kind depth count body b is in
    let small = rising_small short_field short_exact count body told.pairs told.read in
    subst (λ (b : Bucket). length (entries_code short_field b.pairs.items) ≤ 462) told.is (omega (arith, small.1, told.few))

-- 2 to a power of at most 6
pub power_small : (g : ℕ) → g ≤ 6 → 2 ^ g ≤ 64
power_small zero few = omega arith
power_small (suc zero) few = omega arith
power_small (suc (suc zero)) few = omega arith
power_small (suc (suc (suc zero))) few = omega arith
power_small (suc (suc (suc (suc zero)))) few = omega arith
power_small (suc (suc (suc (suc (suc zero))))) few = omega arith
power_small (suc (suc (suc (suc (suc (suc zero)))))) few = omega arith
power_small (suc (suc (suc (suc (suc (suc (suc g))))))) few = absurd (omega (arith, few))

-- and to one of at most 5
pub power_half : (g : ℕ) → g < 6 → 2 ^ g ≤ 32
power_half zero few = omega arith
power_half (suc zero) few = omega arith
power_half (suc (suc zero)) few = omega arith
power_half (suc (suc (suc zero))) few = omega arith
power_half (suc (suc (suc (suc zero)))) few = omega arith
power_half (suc (suc (suc (suc (suc zero))))) few = omega arith
power_half (suc (suc (suc (suc (suc (suc g)))))) few = absurd (omega (arith, few))

directory_small : (bytes : List ℕ) (d : Directory) → directory_in bytes ≡ Some d → length d.entries.items ≤ 64
directory_small bytes d is = omega (arith, directory_count bytes d is, power_small d.depth (directory_shallow bytes d is))

deep_count : (depth : ℕ) (d : Directory) → length d.entries.items ≤ 64 → length (deep_enough depth d).entries.items ≤ 128
deep_count depth d few =
    elim (depth == d.depth) as (λ t. length (if t then directory (suc d.depth) (d.entries.items ++ d.entries.items) else d).entries.items ≤ 128) [
      | true ↦ omega (arith, few, length-append d.entries.items d.entries.items)
      | false ↦ omega (arith, few)
    ]

refilled_fits : (b : Bucket) (r : Refusal) (o : Option (List (List ℕ × List ℕ))) → ((pairs : List (List ℕ × List ℕ)) → o ≡ Some pairs → length (entries_code short_field pairs) ≤ 528) → FitIn bytes_of 1 (refilled b r o)
refilled_fits b r None few = tt
refilled_fits b r (Some pairs) few = (refl, one_fits 1024 (bucket_code (bucket b.depth pairs)) (omega (arith, few pairs refl)))

put_is : (t : Bool) (new pairs : List (List ℕ × List ℕ)) → (if t then None else Some new) ≡ Some pairs → new ≡ pairs
put_is true new pairs e = cc
put_is false new pairs e = same_some new pairs e

put_fits : (key value : List ℕ) (bytes : List ℕ) (o : Option Bucket) → bucket_in bytes ≡ o → IsTrue (is_short key) → IsTrue (is_short value) → FitIn bytes_of 1 (put_made key value o)
put_fits key value bytes None from short fits = tt
put_fits key value bytes (Some b) from short fits =
    refilled_fits b NodeFull (with_pair key value b.pairs.items)
    (λ pairs is. subst (λ (l : List (List ℕ × List ℕ)). length (entries_code short_field l) ≤ 528) (put_is (not (has key b.pairs.items) && length b.pairs.items == 7) (put byte_order key value b.pairs.items) pairs is)
    (omega (arith, put_small key value b.pairs.items, bucket_small bytes b from, length-append (short_code key) (short_code value), (short_bounds key short).1, (short_bounds value fits).1)))

delete_fits : (key : List ℕ) (bytes : List ℕ) (o : Option Bucket) → bucket_in bytes ≡ o → FitIn bytes_of 1 (delete_made key o)
delete_fits key bytes None from = tt
delete_fits key bytes (Some b) from =
    refilled_fits b NoKey (without_pair key b.pairs.items)
    (λ pairs is.
    let some = if_some (has key b.pairs.items) (Some (without key b.pairs.items)) pairs is in
    subst (λ (l : List (List ℕ × List ℕ)). length (entries_code short_field l) ≤ 528) (same_some (without key b.pairs.items) pairs some.1)
    (omega (arith, kept_small (λ e. not (eq_by_cmp byte_order key e.0)) b.pairs.items, bucket_small bytes b from)))

halved_fits : (old new : ℕ) (d : Directory) (b : Bucket) → length d.entries.items ≤ 64 → length (entries_code short_field b.pairs.items) ≤ 462 → FitIn bytes_of 3 (Ok (halved old new d b))
halved_fits old new d b few small =
    let deep : List ℕ = (deep_enough b.depth d).entries.items in
    let pairs : List (List ℕ × List ℕ) = b.pairs.items in (
      refl,
      three_fit 1024 (directory_code (with_new b.depth old new (deep_enough b.depth d))) (bucket_code (bucket (suc b.depth) (half false b.depth pairs))) (bucket_code (bucket (suc b.depth) (half true b.depth pairs)))
          (omega (arith, numbers_size (renamed b.depth old new 0 deep), renamed_size b.depth old new 0 deep, deep_count b.depth d few))
          (omega (arith, small, kept_small (λ e. is_in_half false b.depth e.0) pairs)) (omega (arith, small, kept_small (λ e. is_in_half true b.depth e.0) pairs)),
    )

split_fits : (old new : ℕ) (x y : List ℕ) (o : Option Directory) (p : Option Bucket) → directory_in x ≡ o → bucket_in y ≡ p → FitIn bytes_of 3 (split_made old new o p)
split_fits old new x y None p from read = tt
split_fits old new x y (Some d) None from read = tt
split_fits old new x y (Some d) (Some b) from read =
    either_fits bytes_of 3 (is_among old d.entries.items && nat_le b.depth d.depth) (if b.depth == 6 then Err NodeFull else Ok (halved old new d b)) (Err NotNode)
    (either_fits bytes_of 3 (b.depth == 6) (Err NodeFull) (Ok (halved old new d b)) tt (halved_fits old new d b (directory_small x d from) (bucket_small y b read))) tt

made_fits : (op : HashOp) (values : List (List ℕ)) → IsTrue (has_keys op) → FitIn bytes_of (length (objects_of op)) (made_by op values)
made_fits (Init x y) values keys = (
  refl,
  All-cons (λ v. length v ≤ 1024) (directory_code (directory 0 (y ∷ []))) (bucket_code (bucket 0 []) ∷ []) (omega arith) (one_fits 1024 (bucket_code (bucket 0 [])) (omega arith)),
)
made_fits (Put x key value) values keys =
    let both = both_true (is_short key) (is_short value) keys in
    put_fits key value (slice_index_or values 0 []) (bucket_in (slice_index_or values 0 [])) refl both.0 both.1
made_fits (Delete x key) values keys = delete_fits key (slice_index_or values 0 []) (bucket_in (slice_index_or values 0 [])) refl
made_fits (Split x old new) values keys =
    split_fits old new (slice_index_or values 0 []) (slice_index_or values 1 []) (directory_in (slice_index_or values 0 [])) (bucket_in (slice_index_or values 1 [])) refl refl

-- codes

-- an operation of the grammar is read back
pub op_found : (op : HashOp) (rest : List ℕ) → IsTrue (list_all (λ x. nat_lt x (2 ^ 32)) (objects_of op)) → IsTrue (has_keys op) → op_in (op_code op ++ rest) ≡ Some op
op_found (Init x y) rest small keys = two_found Init x y rest small
op_found (Put x key value) rest small keys =
    let both = both_true (is_short key) (is_short value) keys in
    put_found Put x key value rest (both_true (nat_lt x (2 ^ 32)) true small).0 both.0 both.1
op_found (Delete x key) rest small keys = delete_found Delete x key rest (both_true (nat_lt x (2 ^ 32)) true small).0 keys
op_found (Split x old new) rest small keys = three_found Split x old new rest small

-- the operation that is read is there
pub record IsOpAt (bytes : List ℕ) (op : HashOp) : Type 0 where
  pub split : bytes ≡ op_code op ++ drop (length (op_code op)) bytes
  pub keys : IsTrue (has_keys op)

init_at : (body : List ℕ) (op : HashOp) → AreTwoAt Init 17 body op → IsOpAt (17 ∷ body) op
init_at body op at = subst (λ (op : HashOp). IsOpAt (17 ∷ body) op) at.is (record { split = at.split; keys = refl })

put_at : (body : List ℕ) (op : HashOp) → IsPutAt Put 18 body op → IsOpAt (18 ∷ body) op
put_at body op at =
    subst (λ (op : HashOp). IsOpAt (18 ∷ body) op) at.is (record { split = at.split; keys = true_both (is_short at.key) (is_short at.value) at.short at.fits })

delete_at : (body : List ℕ) (op : HashOp) → IsDeleteAt Delete 19 body op → IsOpAt (19 ∷ body) op
delete_at body op at = subst (λ (op : HashOp). IsOpAt (19 ∷ body) op) at.is (record { split = at.split; keys = at.short })

split_at : (body : List ℕ) (op : HashOp) → AreThreeAt Split 20 body op → IsOpAt (20 ∷ body) op
split_at body op at = subst (λ (op : HashOp). IsOpAt (20 ∷ body) op) at.is (record { split = at.split; keys = refl })

pub op_begins : (bytes : List ℕ) (op : HashOp) → AreBytes bytes → op_in bytes ≡ Some op → IsOpAt bytes op
op_begins [] op are is = cc
op_begins (tag ∷ body) op are is =
    let inside : AreBytes body = bytes_behind 1 (tag ∷ body) are in
    chosen IsOpAt tag 17 body (two_in Init body) _ op is (λ e. init_at body op (two_begin Init 17 body op inside e))
    (λ e. chosen IsOpAt tag 18 body (put_in Put body) _ op e (λ e. put_at body op (put_begins Put 18 body op inside e))
    (λ e. chosen IsOpAt tag 19 body (delete_in Delete body) _ op e (λ e. delete_at body op (delete_begins Delete 19 body op inside e))
    (λ e. chosen IsOpAt tag 20 body (three_in Split body) None op e (λ e. split_at body op (three_begin Split 20 body op inside e)) (λ e. cc))))

-- an operation of the grammar whose code bytes begin with is the one that is read
pub only_op : (b : Bounds) (bytes rest : List ℕ) (op : HashOp) → b.objects < 2 ^ 32 → bytes ≡ op_code op ++ rest → IsInGrammar (hash_meaning b) op → op_in bytes ≡ Some op
only_op b bytes rest op small split grammar =
    let good = named_tells b.objects (objects_of op) (has_keys op) grammar in
    ap op_in split ∙ op_found op rest (weaker b.objects (2 ^ 32) (objects_of op) (omega (arith, small)) good.below) good.keys

pub hash_bounded : (b : Bounds) → HasBounds b (hash_meaning b)
hash_bounded b = record { objects = refl; cap = refl }

some_object : (op : HashOp) → 0 < length (objects_of op)
some_object (Init x y) = omega arith
some_object (Put x key value) = omega arith
some_object (Delete x key) = omega arith
some_object (Split x old new) = omega arith

pub hash_lawful : (b : Bounds) → IsSmall b → IsLawful (hash_meaning b)
hash_lawful b small = record {
  writes_some = λ op e. some_object op;
  reads_below = λ op e. reads_below b.objects op (named_tells b.objects (objects_of op) (has_keys op) e).below;
  reads_apart = λ op e. reads_apart op (named_tells b.objects (objects_of op) (has_keys op) e).apart;
  writes_below = λ op e. below_all b.objects (objects_of op) (named_tells b.objects (objects_of op) (has_keys op) e).below;
  writes_apart = λ op e. distinct (objects_of op) (named_tells b.objects (objects_of op) (has_keys op) e).apart;
  made = λ op values e fits. values_fit bytes_of b.cap (objects_of op) (made_by op values) (made_fits op values (named_tells b.objects (objects_of op) (has_keys op) e).keys);
  encodable = λ op e. refl;
  one_code = λ first second bytes one two.
      same_some first second (sym (only_op b bytes one.rest first small.objects one.split one.in_grammar) ∙ only_op b bytes two.rest second small.objects two.split two.in_grammar);
}

pub hash_widens : (b c : Bounds) → AreWithin b c → Widens (hash_meaning b) (hash_meaning c)
hash_widens b c within = record {
  reads = λ op. refl;
  writes = λ op. refl;
  code = λ op. refl;
  in_grammar = λ op e. named_wider b.objects c.objects (objects_of op) (has_keys op) within.objects e;
  accepted = λ op values grammar fits e. ap result_err (roomy_wider b.cap c.cap (made_by op values) within.cap e) ∙ e;
  effect = λ op values grammar fits e. ap (λ (r : Result Made Refusal). values_of bytes_of (objects_of op) r) (roomy_wider b.cap c.cap (made_by op values) within.cap e);
}

-- each code begins with a tag of the family
pub hash_tagged : (b : Bounds) → IsTagged is_hash_tag (hash_meaning b)
hash_tagged b (Init x y) = refl
hash_tagged b (Put x key value) = refl
hash_tagged b (Delete x key) = refl
hash_tagged b (Split x old new) = refl
