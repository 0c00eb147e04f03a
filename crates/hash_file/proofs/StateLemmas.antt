-- The state after the beginning of a file, a split, a put and a delete, and where a key is found then.
use Rattle.std.proofs.Common.{◌≡◌, ◌≢◌, ◌≤◌, ◌<◌, ℕ, zero, suc, ◌-◌, ◌%◌, ◌^◌, ◌==◌, Bool, true, false, ◌&&◌, if◌then◌else◌, Option, Some, Result, Ok, Err, List, [], ◌∷◌, refl, sym, ap, ◌∙◌, subst, arith, inl, inr, true≢false}
use Rattle.std.specs.Prelude.{nat_le, nat_lt}
use Rattle.std.proofs.Math.Nat.{mod-lt}
use Rattle.std.proofs.lemmas.Bool.{le-leb, lt-ltb}
use Rattle.std.proofs.lemmas.Bool.Decides.{eqb_tells}
use Rattle.std.proofs.lemmas.List.Elements.{All-cons, All-nil}
use Rattle.oper_core.specs.State.{State, with_values}
use Rattle.oper_core.specs.Meaning.{after, read_values}
use Rattle.oper_core.specs.declared.bounds.Bounds.{Bounds}
use Rattle.oper_core.specs.declared.refusal.Refusal.{Refusal}
use Rattle.oper_core.specs.declared.refusal.Refusal.TheVariants.{TooLarge}
use Rattle.key_entries.specs.EntryLaws.{true_both, if_true}
use Rattle.key_entries.specs.Objects.{where_roomy, values_of}
use Rattle.key_entries.specs.ValueLaws.{HasTwo, has_two, HasThree, has_three}
use Rattle.call_plans.specs.Free.{free_from}
use Rattle.call_plans.specs.FreeLaws.{first_free}
use Rattle.hash_ops.specs.Hash.{hash, has_bit}
use Rattle.hash_ops.specs.Blocks.{IsDirectory, directory, directory_code, directory_in, bucket, bucket_code, bucket_in}
use Rattle.hash_ops.specs.BlockLaws.{bucket_found, bucket_known, directory_again, directory_count, directory_found, directory_shallow, half_keeps, number_at, reread}
use Rattle.hash_ops.specs.RenameLaws.{IsRenamed, renames_entries}
use Rattle.hash_ops.specs.Effects.{deep_enough, half, made_by, renamed_at, with_new}
use Rattle.hash_ops.specs.Operation.{hash_meaning, objects_of, bytes_of}
use Rattle.hash_ops.specs.declared.bucket.Bucket.{Bucket}
use Rattle.hash_ops.specs.declared.directory.Directory.{Directory}
use Rattle.hash_ops.specs.declared.made.Made.{Made}
use Rattle.hash_ops.specs.declared.made.Made.TheVariants.{Two}
use Rattle.hash_ops.specs.declared.hash_op.HashOp.{HashOp}
use Rattle.hash_ops.specs.declared.hash_op.HashOp.TheVariants.{Init, Split}
use Rattle.hash_file.specs.Find.{Met, bad, found, is_inside, met_bucket, met_directory, met_with, find_bucket, named_at, object_for}
use Rattle.hash_file.specs.Plan.{has_room}
use Rattle.hash_file.proofs.DueLemmas.{IsFound, split_makes}
use Rattle.hash_file.proofs.BitLemmas.{power_some, low_of_low}
use Rattle.hash_file.proofs.ContentLemmas.{bucket_apart}
use Rattle.hash_file.proofs.SplitLemmas.{target, moves}
use Rattle.hash_file.proofs.StepLemmas.{left_of}

-- an accepted command writes what it makes
pub written : (b : Bounds) (s : State) (op : HashOp) (made : Made) → 1024 ≤ b.cap → made_by op (read_values (hash_meaning b) s op) ≡ Ok made
    → after (hash_meaning b) s op ≡ with_values s (objects_of op) (bytes_of made)
written b s op made wide is =
    ap (λ (r : Result Made Refusal). with_values s (objects_of op) (values_of bytes_of (objects_of op) r))
    (ap (where_roomy b.cap) is ∙ if_true (nat_le 1024 b.cap) (Ok made) (Err TooLarge) (le-leb 1024 b.cap wide))

module _ (lo hi : ℕ) (t : State) (key : List ℕ) where
  met_by : (v : List ℕ) (d : Directory) → directory_in v ≡ Some d → met_with lo hi t key v ≡ met_directory lo hi t key (Some d)
  met_by [] d is = cc
  met_by (c ∷ bytes) d is = ap (λ (o : Option Directory). met_directory lo hi t key o) is

  -- where the directory and the bucket of the key's entry are what they should be, the bucket is found
  pub finds : (d : Directory) (y : ℕ) (b : Bucket) → directory_in (t lo) ≡ Some d → object_for d key ≡ y → bucket_in (t y) ≡ Some b → (lo < y) × (y ≤ hi) → b.depth ≤ d.depth
      → find_bucket lo hi t key ≡ found y b
  finds d y b is at has inside shallow =
      met_by (t lo) d is ∙ ap (λ (z : ℕ). met_bucket lo hi d z (bucket_in (t z))) at ∙ ap (λ (o : Option Bucket). met_bucket lo hi d y o) has
      ∙ if_true (is_inside lo hi y && nat_le b.depth d.depth) (found y b) (bad y)
      (true_both (is_inside lo hi y) (nat_le b.depth d.depth) (true_both (nat_lt lo y) (nat_le y hi) (lt-ltb lo y inside.0) (le-leb y hi inside.1)) (le-leb b.depth d.depth shallow))

module _ (b : Bounds) (lo hi : ℕ) (key : List ℕ) (order : lo < hi) (within : hi < b.objects) (small : b.objects < 2 ^ 32) (wide : 1024 ≤ b.cap) (s : State) where
  abbrev free : List ℕ
  free = free_from s (suc lo) (hi - lo)

  pub free_inside : (x : ℕ) (rest : List ℕ) → free ≡ x ∷ rest → (lo < x) × (x ≤ hi)
  free_inside x rest is =
      let first = first_free s (hi - lo) (suc lo) x rest is in
      (omega (arith, first.above), omega (arith, first.ends, order))

  -- after the beginning of the file
  module _ (x : ℕ) (rest : List ℕ) (is : free ≡ x ∷ rest) where
    abbrev pub begun : State
    begun = after (hash_meaning b) s (Init lo x)

    abbrev pub one_entry : Directory
    one_entry = directory 0 (x ∷ [])

    pub begun_has : HasTwo s begun lo x (directory_code one_entry) (bucket_code (bucket 0 []))
    begun_has =
        subst (λ (t : State). HasTwo s t lo x (directory_code one_entry) (bucket_code (bucket 0 []))) (sym (written b s (Init lo x) (Two one_entry (bucket 0 [])) wide refl))
        (has_two s lo x (directory_code one_entry) (bucket_code (bucket 0 [])) (λ same. omega (arith, (free_inside x rest is).0, same)))

    pub begun_directory : directory_in (begun lo) ≡ Some one_entry
    begun_directory =
        let good : IsDirectory one_entry = record {
          shallow = omega arith;
          count = refl;
          fit = All-cons (λ y. y < 2 ^ 32) x [] (omega (arith, (free_inside x rest is).1, within, small)) (All-nil (λ y. y < 2 ^ 32));
        } in
        ap directory_in begun_has.first ∙ directory_found one_entry good

    pub begun_bucket : bucket_in (begun x) ≡ Some (bucket 0 [])
    begun_bucket = ap bucket_in begun_has.second

    begun_at : (i : ℕ) → i < 1 → named_at one_entry i ≡ x
    begun_at zero less = refl
    begun_at (suc i) less = absurd (omega (arith, less))

    pub begun_object : object_for one_entry key ≡ x
    begun_object = begun_at (hash key % 2 ^ 0) (omega arith)

    pub begun_closer : left_of key (find_bucket lo hi begun key) < 1
    begun_closer =
        subst (λ (m : Met). left_of key m < 1)
        (sym (finds lo hi begun key one_entry x (bucket 0 []) begun_directory begun_object begun_bucket (free_inside x rest is) (omega arith))) (omega arith)

  -- after a split
  module _ (x : ℕ) (c : Bucket) (at : IsFound lo hi s key x c) (deep : (c.depth == 6) ≡ false) (new : ℕ) (rest : List ℕ) (is : free ≡ new ∷ rest) where
    pub split_few : c.depth < 6
    split_few =
        let known = bucket_known (s x) c at.bucket in
        elim (eqb_tells c.depth 6) [ inl same ↦ absurd (true≢false (sym same.0 ∙ deep)) | inr other ↦ omega (arith, known.shallow, other.1) ]

    abbrev pub split : State
    split = after (hash_meaning b) s (Split lo x new)

    abbrev pub after_split : Directory
    after_split = with_new c.depth x new (deep_enough c.depth at.directory)

    abbrev pub half_bucket : Bool → Bucket
    half_bucket upper = bucket (suc c.depth) (half upper c.depth c.pairs.items)

    pub new_empty : s new ≡ []
    new_empty = (first_free s (hi - lo) (suc lo) new rest is).empty

    pub new_apart : x ≢ new
    new_apart = bucket_apart s x new c new_empty at.bucket

    pub split_has : HasThree s split lo x new (directory_code after_split) (bucket_code (half_bucket false)) (bucket_code (half_bucket true))
    split_has =
        subst (λ (t : State). HasThree s t lo x new (directory_code after_split) (bucket_code (half_bucket false)) (bucket_code (half_bucket true)))
        (sym (written b s (Split lo x new) _ wide (split_makes b lo hi s key x c new at deep)))
        (has_three s lo x new (directory_code after_split) (bucket_code (half_bucket false)) (bucket_code (half_bucket true))
        (λ same. omega (arith, at.inside.0, same)) (λ same. omega (arith, (free_inside new rest is).0, same)) (λ same. new_apart (sym same)))

    pub split_renames : IsRenamed c.depth x new at.directory after_split
    split_renames =
        renames_entries c.depth x new at.directory (record { shallow = directory_shallow (s lo) at.directory at.is; count = directory_count (s lo) at.directory at.is }) at.shallow split_few

    pub split_half : (upper : Bool) → bucket_in (split (target c.depth x new new_apart upper)) ≡ Some (half_bucket upper)
    split_half true = ap bucket_in split_has.third ∙ bucket_found (half_bucket true) (half_keeps true c (bucket_known (s x) c at.bucket) split_few)
    split_half false = ap bucket_in split_has.second ∙ bucket_found (half_bucket false) (half_keeps false c (bucket_known (s x) c at.bucket) split_few)

    target_inside : (upper : Bool) → (lo < target c.depth x new new_apart upper) × (target c.depth x new new_apart upper ≤ hi)
    target_inside true = free_inside new rest is
    target_inside false = at.inside

    abbrev index : ℕ
    index = hash key % 2 ^ after_split.depth

    abbrev upper_half : Bool
    upper_half = has_bit c.depth index

    split_object : object_for (reread after_split) key ≡ target c.depth x new new_apart upper_half
    split_object =
        let g : ℕ = after_split.depth in
        let to : ℕ = target c.depth x new new_apart upper_half in
        let less : index < 2 ^ g = mod-lt (hash key) (power_some g) in
        let low : index % 2 ^ at.directory.depth ≡ hash key % 2 ^ at.directory.depth = low_of_low at.directory.depth g (hash key) split_renames.grows split_renames.shape.shallow in
        let named : named_at after_split index ≡ to =
        split_renames.entries index less ∙ ap (λ (k : ℕ). renamed_at c.depth x new index (named_at at.directory k)) low
        ∙ ap (λ (z : ℕ). renamed_at c.depth x new index z) at.entry ∙ moves c.depth x new new_apart index upper_half refl in
        number_at after_split.entries.items index (omega (arith, less, split_renames.shape.count)) (omega (arith, named, (target_inside upper_half).1, within, small)) ∙ named

    split_finds : find_bucket lo hi split key ≡ found (target c.depth x new new_apart upper_half) (half_bucket upper_half)
    split_finds =
        finds lo hi split key (reread after_split) (target c.depth x new new_apart upper_half) (half_bucket upper_half)
        (ap directory_in split_has.first ∙ directory_again after_split split_renames.shape.shallow split_renames.shape.count)
        split_object (split_half upper_half) (target_inside upper_half) (omega (arith, split_renames.deep))

    fewer_left : (upper : Bool) → left_of key (found (target c.depth x new new_apart upper) (half_bucket upper)) < 6 - c.depth
    fewer_left upper =
        elim (has_room key (half_bucket upper)) as (λ t. (if t then 0 else 6 - suc c.depth) < 6 - c.depth) [ true ↦ omega (arith, split_few) | false ↦ omega (arith, split_few) ]

    pub split_closer : has_room key c ≡ false → left_of key (find_bucket lo hi split key) < left_of key (found x c)
    split_closer full =
        let before : left_of key (found x c) ≡ 6 - c.depth = ap (λ (t : Bool). if t then 0 else 6 - c.depth) full in
        subst (λ (m : Met). left_of key m < left_of key (found x c)) (sym split_finds) (omega (arith, before, fewer_left upper_half))
