-- The command that comes next is accepted on every state, or refused as too large where values are short.
use Rattle.std.proofs.Common.{◌≡◌, ◌≤◌, ◌<◌, ℕ, suc, ◌-◌, ◌%◌, ◌^◌, ◌==◌, Bool, true, false, not, ◌&&◌, ◌||◌, ◌⊎◌, if◌then◌else◌, Option, None, Some, is_some, Result, Ok, Err, List, [], ◌∷◌, length, refl, sym, ap, ◌∙◌, subst, arith, inl, inr, true≢false}
use Rattle.std.specs.Prelude.{IsTrue, nat_le, nat_lt}
use Rattle.std.specs.Result.{result_err}
use Rattle.std.proofs.Math.Nat.{mod-lt}
use Rattle.std.proofs.lemmas.Bool.{le-leb, leb-true, ltb-true, lt-ltb}
use Rattle.std.proofs.lemmas.Bool.Decides.{eqb_tells}
use Rattle.std.specs.FinMap.Entries.{put}
use Rattle.oper_core.specs.State.{State, is_among}
use Rattle.oper_core.specs.Meaning.{Accepts, or_else, read_values, refusal_of}
use Rattle.oper_core.specs.declared.bounds.Bounds.{Bounds}
use Rattle.oper_core.specs.declared.refusal.Refusal.{Refusal}
use Rattle.oper_core.specs.declared.refusal.Refusal.TheVariants.{TooLarge, NotNode, NodeFull, NoKey}
use Rattle.key_entries.specs.Short.{is_short}
use Rattle.key_entries.specs.Entries.{byte_order}
use Rattle.key_entries.specs.EntryLaws.{both_true, true_both}
use Rattle.key_entries.specs.Pairs.{has, without}
use Rattle.key_entries.specs.Objects.{named, where_roomy}
use Rattle.key_entries.specs.ObjectLaws.{named_by}
use Rattle.key_entries.specs.ValueLaws.{other_test}
use Rattle.call_plans.specs.Free.{free_from}
use Rattle.call_plans.specs.FreeLaws.{first_free}
use Rattle.call_plans.specs.Plan.{goes_on, ends}
use Rattle.hash_ops.specs.Hash.{hash}
use Rattle.hash_ops.specs.Blocks.{bucket, directory, directory_in, bucket_in}
use Rattle.hash_ops.specs.BlockLaws.{directory_count}
use Rattle.hash_ops.specs.Effects.{made_by, refilled, put_made, delete_made, split_made, halved}
use Rattle.hash_ops.specs.Operation.{hash_meaning, objects_of, has_keys}
use Rattle.hash_ops.specs.declared.bucket.Bucket.{Bucket}
use Rattle.hash_ops.specs.declared.directory.Directory.{Directory}
use Rattle.hash_ops.specs.declared.made.Made.{Made}
use Rattle.hash_ops.specs.declared.made.Made.TheVariants.{One, Two}
use Rattle.hash_ops.specs.declared.hash_op.HashOp.{HashOp}
use Rattle.hash_ops.specs.declared.hash_op.HashOp.TheVariants.{Init, Put, Delete, Split}
use Rattle.hash_file.specs.Find.{Met, unused, bad, found, find_bucket, met_with, met_directory, met_bucket, object_for, is_inside}
use Rattle.hash_file.specs.Plan.{has_room, put_next}
use Rattle.hash_file.proofs.BitLemmas.{power_some}
use Rattle.hash_file.proofs.ContentLemmas.{among_at}
use Rattle.hash_file.proofs.StepLemmas.{goes_tells, ends_tells}

-- a command of the grammar that makes something of the values that it reads
pub record IsMadeOn (b : Bounds) (s : State) (op : HashOp) : Type 0 where
  pub shape : named b.objects (objects_of op) (has_keys op) ≡ None
  pub made : Made
  pub is : made_by op (read_values (hash_meaning b) s op) ≡ Ok made

roomy : (cap : ℕ) (r : Result Made Refusal) (made : Made) → r ≡ Ok made → 1024 ≤ cap → result_err (where_roomy cap r) ≡ None
roomy cap r made is wide =
    ap (λ (r : Result Made Refusal). result_err (where_roomy cap r)) is ∙ ap (λ (t : Bool). result_err (if t then Ok made else Err TooLarge)) (le-leb 1024 cap wide)

narrow : (cap : ℕ) (r : Result Made Refusal) (made : Made) → r ≡ Ok made → cap < 1024 → result_err (where_roomy cap r) ≡ Some TooLarge
narrow cap r made is short =
    let not_wide : (t : Bool) → nat_le 1024 cap ≡ t → t ≡ false = λ t. elim t as (λ t. nat_le 1024 cap ≡ t → t ≡ false) [ true ↦ λ e. absurd (omega (arith, leb-true 1024 cap e, short)) | false ↦ λ e. refl ] in
    ap (λ (r : Result Made Refusal). result_err (where_roomy cap r)) is ∙ ap (λ (t : Bool). result_err (if t then Ok made else Err TooLarge)) (not_wide (nat_le 1024 cap) refl)

module _ (b : Bounds) (s : State) (op : HashOp) (due : IsMadeOn b s op) where
  pub due_accepted : 1024 ≤ b.cap → Accepts (hash_meaning b) s op
  due_accepted wide =
      ap (λ (o : Option Refusal). or_else o (result_err (where_roomy b.cap (made_by op (read_values (hash_meaning b) s op))))) due.shape
      ∙ roomy b.cap (made_by op (read_values (hash_meaning b) s op)) due.made due.is wide

  pub due_narrow : b.cap < 1024 → refusal_of (hash_meaning b) s op ≡ Some TooLarge
  due_narrow short =
      ap (λ (o : Option Refusal). or_else o (result_err (where_roomy b.cap (made_by op (read_values (hash_meaning b) s op))))) due.shape
      ∙ narrow b.cap (made_by op (read_values (hash_meaning b) s op)) due.made due.is short

-- what is known where a bucket was found
pub record IsFound (lo hi : ℕ) (s : State) (key : List ℕ) (x : ℕ) (b : Bucket) : Type 0 where
  pub directory : Directory
  pub is : directory_in (s lo) ≡ Some directory
  pub entry : object_for directory key ≡ x
  pub inside : (lo < x) × (x ≤ hi)
  pub bucket : bucket_in (s x) ≡ Some b
  pub shallow : b.depth ≤ directory.depth

abbrev pub object_in : Met → ℕ
object_in unused = 0
object_in (bad x) = x
object_in (found x b) = x

abbrev pub bucket_or : Bucket → Met → Bucket
bucket_or d unused = d
bucket_or d (bad x) = d
bucket_or d (found x b) = b

if_found : (t : Bool) (y x : ℕ) (c b : Bucket) → (if t then found y c else bad y) ≡ found x b → IsTrue t × (y ≡ x) × (c ≡ b)
if_found true y x c b e = (refl, ap object_in e, ap (bucket_or c) e)
if_found false y x c b e = cc

module _ (lo hi : ℕ) (s : State) (key : List ℕ) (x : ℕ) (b : Bucket) where
  bucket_tells : (d : Directory) → directory_in (s lo) ≡ Some d → (o : Option Bucket) → bucket_in (s (object_for d key)) ≡ o
      → met_bucket lo hi d (object_for d key) o ≡ found x b → IsFound lo hi s key x b
  bucket_tells d is None from e = cc
  bucket_tells d is (Some c) from e =
      let y : ℕ = object_for d key in
      let tests = if_found (is_inside lo hi y && nat_le c.depth d.depth) y x c b e in
      let outer = both_true (is_inside lo hi y) (nat_le c.depth d.depth) tests.0 in
      let inside = both_true (nat_lt lo y) (nat_le y hi) outer.0 in
      record {
        directory = d;
        is = is;
        entry = tests.1;
        inside = (omega (arith, ltb-true lo y inside.0, tests.1), omega (arith, leb-true y hi inside.1, tests.1));
        bucket = ap (λ (z : ℕ). bucket_in (s z)) (sym tests.1) ∙ from ∙ ap (λ (c : Bucket). Some c) tests.2;
        shallow = subst (λ (c : Bucket). c.depth ≤ d.depth) tests.2 (leb-true c.depth d.depth outer.1);
      }

  directory_tells : (o : Option Directory) → directory_in (s lo) ≡ o → met_directory lo hi s key o ≡ found x b → IsFound lo hi s key x b
  directory_tells None is e = cc
  directory_tells (Some d) is e = bucket_tells d is (bucket_in (s (object_for d key))) refl e

  value_tells : (v : List ℕ) → s lo ≡ v → met_with lo hi s key v ≡ found x b → IsFound lo hi s key x b
  value_tells [] is e = cc
  value_tells (c ∷ bytes) is e = directory_tells (directory_in (c ∷ bytes)) (ap directory_in is) e

  pub found_tells : find_bucket lo hi s key ≡ found x b → IsFound lo hi s key x b
  found_tells e = value_tells (s lo) refl e

-- a put into a bucket with room
full_or_there : (t : Bool) (n : ℕ) → IsTrue (t || nat_lt n 7) → (not t && n == 7) ≡ false
full_or_there true n e = refl
full_or_there false n e = elim (eqb_tells n 7) [ inl same ↦ absurd (omega (arith, ltb-true n 7 e, same.1)) | inr other ↦ other.0 ]

pub put_makes : (b : Bounds) (lo hi : ℕ) (s : State) (key value : List ℕ) (x : ℕ) (c : Bucket) → IsFound lo hi s key x c → IsTrue (has_room key c)
    → made_by (Put x key value) (read_values (hash_meaning b) s (Put x key value)) ≡ Ok (One (bucket c.depth (put byte_order key value c.pairs.items)))
put_makes b lo hi s key value x c at room =
    ap (λ (o : Option Bucket). put_made key value o) at.bucket
    ∙ ap (λ (t : Bool). refilled c NodeFull (if t then None else Some (put byte_order key value c.pairs.items))) (full_or_there (has key c.pairs.items) (length c.pairs.items) room)

pub put_is_made : (b : Bounds) (lo hi : ℕ) (s : State) (key value : List ℕ) (x : ℕ) (c : Bucket) → hi < b.objects → IsTrue (is_short key) → IsTrue (is_short value)
    → IsFound lo hi s key x c → IsTrue (has_room key c) → IsMadeOn b s (Put x key value)
put_is_made b lo hi s key value x c within short fits at room = record {
  shape = named_by b.objects (x ∷ []) (is_short key && is_short value) (true_both (nat_lt x b.objects) true (lt-ltb x b.objects (omega (arith, at.inside.1, within))) refl) refl (true_both (is_short key) (is_short value) short fits);
  made = One (bucket c.depth (put byte_order key value c.pairs.items));
  is = put_makes b lo hi s key value x c at room;
}

pub delete_makes : (b : Bounds) (lo hi : ℕ) (s : State) (key : List ℕ) (x : ℕ) (c : Bucket) → IsFound lo hi s key x c → IsTrue (has key c.pairs.items)
    → made_by (Delete x key) (read_values (hash_meaning b) s (Delete x key)) ≡ Ok (One (bucket c.depth (without key c.pairs.items)))
delete_makes b lo hi s key x c at there =
    ap (λ (o : Option Bucket). delete_made key o) at.bucket
    ∙ ap (λ (t : Bool). refilled c NoKey (if t then Some (without key c.pairs.items) else None)) there

pub delete_is_made : (b : Bounds) (lo hi : ℕ) (s : State) (key : List ℕ) (x : ℕ) (c : Bucket) → hi < b.objects → IsTrue (is_short key)
    → IsFound lo hi s key x c → IsTrue (has key c.pairs.items) → IsMadeOn b s (Delete x key)
delete_is_made b lo hi s key x c within short at there = record {
  shape = named_by b.objects (x ∷ []) (is_short key) (true_both (nat_lt x b.objects) true (lt-ltb x b.objects (omega (arith, at.inside.1, within))) refl) refl short;
  made = One (bucket c.depth (without key c.pairs.items));
  is = delete_makes b lo hi s key x c at there;
}

-- the beginning of a file, and a split, with the least free object

pub init_is_made : (b : Bounds) (lo hi : ℕ) (s : State) (x : ℕ) (rest : List ℕ) → lo < hi → hi < b.objects → free_from s (suc lo) (hi - lo) ≡ x ∷ rest → IsMadeOn b s (Init lo x)
init_is_made b lo hi s x rest order within free =
    let first = first_free s (hi - lo) (suc lo) x rest free in
    record {
      shape = named_by b.objects (lo ∷ x ∷ []) true
          (true_both (nat_lt lo b.objects) (nat_lt x b.objects && true) (lt-ltb lo b.objects (omega (arith, order, within))) (true_both (nat_lt x b.objects) true (lt-ltb x b.objects (omega (arith, first.ends, order, within))) refl))
          (ap (λ (t : Bool). not (t || false) && (not false && true)) (other_test lo x (λ same. omega (arith, first.above, same)))) refl;
      made = Two (directory 0 (x ∷ [])) (bucket 0 []);
      is = refl;
    }

pub split_makes : (b : Bounds) (lo hi : ℕ) (s : State) (key : List ℕ) (x : ℕ) (c : Bucket) (new : ℕ) (at : IsFound lo hi s key x c) → (c.depth == 6) ≡ false
    → made_by (Split lo x new) (read_values (hash_meaning b) s (Split lo x new)) ≡ Ok (halved x new at.directory c)
split_makes b lo hi s key x c new at deep =
    let d : Directory = at.directory in
    let size : hash key % 2 ^ d.depth < length d.entries.items = omega (arith, directory_count (s lo) d at.is, mod-lt (hash key) (power_some d.depth)) in
    let named_there : is_among x d.entries.items ≡ true = ap (λ (z : ℕ). is_among z d.entries.items) (sym at.entry) ∙ among_at d.entries.items (hash key % 2 ^ d.depth) size in
    ap (λ (o : Option Directory). split_made x new o (bucket_in (s x))) at.is ∙ ap (λ (o : Option Bucket). split_made x new (Some d) o) at.bucket
    ∙ ap (λ (t : Bool). if t && nat_le c.depth d.depth then (if c.depth == 6 then Err NodeFull else Ok (halved x new d c)) else Err NotNode) named_there
    ∙ ap (λ (t : Bool). if t then (if c.depth == 6 then Err NodeFull else Ok (halved x new d c)) else Err NotNode) (le-leb c.depth d.depth at.shallow)
    ∙ ap (λ (t : Bool). if t then Err NodeFull else Ok (halved x new d c)) deep

pub split_is_made : (b : Bounds) (lo hi : ℕ) (s : State) (key : List ℕ) (x : ℕ) (c : Bucket) (new : ℕ) (rest : List ℕ) → lo < hi → hi < b.objects → IsFound lo hi s key x c
    → (c.depth == 6) ≡ false → free_from s (suc lo) (hi - lo) ≡ new ∷ rest → IsMadeOn b s (Split lo x new)
split_is_made b lo hi s key x c new rest order within at deep free =
    let first = first_free s (hi - lo) (suc lo) new rest free in
    let apart_new : (x == new) ≡ false = other_test x new (λ same. true≢false (ap is_some (sym at.bucket ∙ ap (λ (z : ℕ). bucket_in (s z)) same ∙ ap bucket_in first.empty))) in
    record {
      shape = named_by b.objects (lo ∷ x ∷ new ∷ []) true
          (true_both (nat_lt lo b.objects) (nat_lt x b.objects && (nat_lt new b.objects && true)) (lt-ltb lo b.objects (omega (arith, order, within)))
          (true_both (nat_lt x b.objects) (nat_lt new b.objects && true) (lt-ltb x b.objects (omega (arith, at.inside.1, within)))
          (true_both (nat_lt new b.objects) true (lt-ltb new b.objects (omega (arith, first.ends, order, within))) refl)))
          (ap (λ (t : Bool). not (t || ((lo == new) || false)) && (not ((x == new) || false) && (not false && true))) (other_test lo x (λ same. omega (arith, at.inside.0, same)))
          ∙ ap (λ (t : Bool). not (t || false) && (not ((x == new) || false) && (not false && true))) (other_test lo new (λ same. omega (arith, first.above, same)))
          ∙ ap (λ (t : Bool). not (t || false) && (not false && true)) apart_new) refl;
      made = halved x new at.directory c;
      is = split_makes b lo hi s key x c new at deep;
    }

-- whatever comes next in a put

module _ (b : Bounds) (lo hi : ℕ) (s : State) (key value : List ℕ) (order : lo < hi) (within : hi < b.objects) (short : IsTrue (is_short key)) (fits : IsTrue (is_short value)) where
  pub next_is_made : (op : HashOp) → (put_next b lo hi key value s ≡ goes_on op) ⊎ (put_next b lo hi key value s ≡ ends op) → IsMadeOn b s op
  next_is_made op (inl goes) =
      elim (goes_tells lo key value (free_from s (suc lo) (hi - lo)) (find_bucket lo hi s key) op goes) [
        | inl g ↦ subst (λ (op : HashOp). IsMadeOn b s op) g.is (init_is_made b lo hi s g.object g.rest order within g.free_is)
        | inr g ↦
            subst (λ (op : HashOp). IsMadeOn b s op) g.is
            (split_is_made b lo hi s key g.object g.bucket g.new g.rest order within (found_tells lo hi s key g.object g.bucket g.met) g.deep g.free_is)
      ]
  next_is_made op (inr last) =
      let p = ends_tells lo key value (free_from s (suc lo) (hi - lo)) (find_bucket lo hi s key) op last in
      subst (λ (op : HashOp). IsMadeOn b s op) p.is (put_is_made b lo hi s key value p.object p.bucket within short fits (found_tells lo hi s key p.object p.bucket p.met) p.room)
