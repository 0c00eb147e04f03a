-- What is met where a key is looked for.
use Rattle.std.proofs.Common.{◌≡◌, refl, sym, ap, ◌∙◌, ℕ, ◌==◌, Bool, true, false, Option, None, Some, Result, Ok, Err, List, [], ◌∷◌, length, if◌then◌else◌, arith, true≢false}
use Rattle.std.specs.Prelude.{nat_le, ◌&&◌}
use Rattle.std.proofs.lemmas.Bool.{cond-true, cond-false, ne_eqb}
use Rattle.oper_core.specs.State.{State}
use Rattle.hash_ops.specs.Blocks.{directory_in, bucket_in}
use Rattle.hash_ops.specs.declared.bucket.Bucket.{Bucket}
use Rattle.hash_ops.specs.declared.directory.Directory.{Directory}
use Rattle.hash_file.specs.Find.{Met, unused, bad, found, find_bucket, is_inside, met_bucket, met_directory, met_with, object_for}
use Rattle.hash_file.specs.declared.refusal.HashRefusal.{HashRefusal}
use Rattle.range_calls.specs.declared.call_err.CallErr.{CallErr}
use Rattle.hash_client.specs.Finding.{bad_hash, bucket_answer, bucket_or_bad, directory_answer, directory_or_bad, met_answer}
use Rattle.hash_client.specs.declared.finding.Found.{Found}

-- ---- the directory

-- the empty value is none
pub none_begun : (object : ℕ) (value : List ℕ) → true ≡ (length value == 0) → Ok None ≡ directory_answer object value
none_begun object [] empty = refl
none_begun object (b ∷ value) empty = absurd (true≢false (empty ∙ ne_eqb (length (b ∷ value)) 0 (λ e. omega (arith, e))))

pub directory_read : (object : ℕ) (value : List ℕ) (d : Option Directory) → false ≡ (length value == 0) → d ≡ directory_in value → directory_or_bad object d ≡ directory_answer object value
directory_read object [] d some is = cc
directory_read object (b ∷ value) d some is = ap (directory_or_bad object) is

-- what was answered of it
pub met_none : (lo hi : ℕ) (s : State) (key : List ℕ) → Ok None ≡ directory_answer lo (s lo) → find_bucket lo hi s key ≡ unused
met_none lo hi s key is = by_value (s lo) is
  where
    by_directory : (b : ℕ) (bytes : List ℕ) (d : Option Directory) → Ok None ≡ directory_or_bad lo d → met_directory lo hi s key d ≡ unused
    by_directory b bytes None is = cc
    by_directory b bytes (Some d) is = cc

    by_value : (v : List ℕ) → Ok None ≡ directory_answer lo v → met_with lo hi s key v ≡ unused
    by_value [] is = refl
    by_value (b ∷ bytes) is = by_directory b bytes (directory_in (b ∷ bytes)) is

pub met_bad : (lo hi : ℕ) (s : State) (key : List ℕ) (e : CallErr HashRefusal) → Err e ≡ directory_answer lo (s lo) → Err e ≡ met_answer (find_bucket lo hi s key)
met_bad lo hi s key e is = by_value (s lo) is
  where
    by_directory : (d : Option Directory) → Err e ≡ directory_or_bad lo d → Err e ≡ met_answer (met_directory lo hi s key d)
    by_directory None is = cc is
    by_directory (Some d) is = cc

    by_value : (v : List ℕ) → Err e ≡ directory_answer lo v → Err e ≡ met_answer (met_with lo hi s key v)
    by_value [] is = cc
    by_value (b ∷ bytes) is = by_directory (directory_in (b ∷ bytes)) is

pub met_on : (lo hi : ℕ) (s : State) (key : List ℕ) (d : Directory) → Ok (Some d) ≡ directory_answer lo (s lo) → find_bucket lo hi s key ≡ met_bucket lo hi d (object_for d key) (bucket_in (s (object_for d key)))
met_on lo hi s key d is = by_value (s lo) is
  where
    by_directory : (o : Option Directory) → Ok (Some d) ≡ directory_or_bad lo o → met_directory lo hi s key o ≡ met_bucket lo hi d (object_for d key) (bucket_in (s (object_for d key)))
    by_directory None is = cc
    by_directory (Some e) is = ap (λ (x : Directory). met_bucket lo hi x (object_for x key) (bucket_in (s (object_for x key)))) (same_some e d (cc is))
      where
        same_some : (a b : Directory) → b ≡ a → a ≡ b
        same_some a b same = sym same

    by_value : (v : List ℕ) → Ok (Some d) ≡ directory_answer lo v → met_with lo hi s key v ≡ met_bucket lo hi d (object_for d key) (bucket_in (s (object_for d key)))
    by_value [] is = cc
    by_value (b ∷ bytes) is = by_directory (directory_in (b ∷ bytes)) is

-- ---- the bucket

module _ (lo hi depth object : ℕ) (value : List ℕ) where
  pub bucket_outside : false ≡ is_inside lo hi object → Err (bad_hash object) ≡ bucket_answer lo hi depth object value
  bucket_outside out = sym (cond-false (is_inside lo hi object) (bucket_or_bad object depth (bucket_in value)) (Err (bad_hash object)) (sym out))

  bucket_inside : true ≡ is_inside lo hi object → bucket_answer lo hi depth object value ≡ bucket_or_bad object depth (bucket_in value)
  bucket_inside inside = cond-true (is_inside lo hi object) (bucket_or_bad object depth (bucket_in value)) (Err (bad_hash object)) (sym inside)

  pub bucket_none : true ≡ is_inside lo hi object → None ≡ bucket_in value → Err (bad_hash object) ≡ bucket_answer lo hi depth object value
  bucket_none inside is = ap (bucket_or_bad object depth) is ∙ sym (bucket_inside inside)

  pub bucket_read : true ≡ is_inside lo hi object → (bucket : Bucket) → Some bucket ≡ bucket_in value → bucket_or_bad object depth (Some bucket) ≡ bucket_answer lo hi depth object value
  bucket_read inside bucket is = ap (bucket_or_bad object depth) is ∙ sym (bucket_inside inside)

-- what was answered of it is what is met
abbrev and_found : ℕ → Result Bucket (CallErr HashRefusal) → Result (Option Found) (CallErr HashRefusal)
and_found object (Ok bucket) = Ok (Some (record { object = object; bucket = bucket }))
and_found object (Err e) = Err e

found_is : (lo hi : ℕ) (d : Directory) (object : ℕ) (o : Option Bucket) (t : Bool) → is_inside lo hi object ≡ t
    → and_found object (if t then bucket_or_bad object d.depth o else Err (bad_hash object)) ≡ met_answer (met_bucket lo hi d object o)
found_is lo hi d object None true inside = refl
found_is lo hi d object None false inside = refl
found_is lo hi d object (Some b) true inside =
    inner (nat_le b.depth d.depth)
    ∙ ap (λ (t : Bool). met_answer (if t && nat_le b.depth d.depth then found object b else bad object)) (sym inside)
  where
    inner : (t : Bool) → and_found object (if t then Ok b else Err (bad_hash object)) ≡ met_answer (if t then found object b else bad object)
    inner true = refl
    inner false = refl
found_is lo hi d object (Some b) false inside = ap (λ (t : Bool). met_answer (if t && nat_le b.depth d.depth then found object b else bad object)) (sym inside)

module _ (lo hi : ℕ) (s : State) (key : List ℕ) (d : Directory) (object : ℕ) (begun : Ok (Some d) ≡ directory_answer lo (s lo)) (names : object ≡ object_for d key) where
  whole : and_found object (bucket_answer lo hi d.depth object (s object)) ≡ met_answer (find_bucket lo hi s key)
  whole =
      found_is lo hi d object (bucket_in (s object)) (is_inside lo hi object) refl
      ∙ ap (λ (x : ℕ). met_answer (met_bucket lo hi d x (bucket_in (s x)))) names
      ∙ sym (ap met_answer (met_on lo hi s key d begun))

  pub met_found : (bucket : Bucket) → Ok bucket ≡ bucket_answer lo hi d.depth object (s object) → Ok (Some (record { object = object; bucket = bucket })) ≡ met_answer (find_bucket lo hi s key)
  met_found bucket is = ap (and_found object) is ∙ whole

  pub met_worse : (e : CallErr HashRefusal) → Err e ≡ bucket_answer lo hi d.depth object (s object) → Err e ≡ met_answer (find_bucket lo hi s key)
  met_worse e is = ap (and_found object) is ∙ whole

-- ---- what an answer tells of what is met

pub unused_met : (m : Met) → Ok None ≡ met_answer m → m ≡ unused
unused_met unused is = refl
unused_met (bad object) is = cc
unused_met (found object bucket) is = cc

pub found_met : (m : Met) (f : Found) → Ok (Some f) ≡ met_answer m → m ≡ found f.object f.bucket
found_met unused f is = cc
found_met (bad object) f is = cc
found_met (found object bucket) f is = let same : f ≡ record { object = object; bucket = bucket } = cc is in ap (λ (x : Found). found x.object x.bucket) (sym same)

-- a bad object
pub record IsBad (m : Met) (e : CallErr HashRefusal) : Type 0 where
  pub object : ℕ
  pub met : m ≡ bad object
  pub error : e ≡ bad_hash object

pub bad_met : (m : Met) (e : CallErr HashRefusal) → Err e ≡ met_answer m → IsBad m e
bad_met unused e is = cc
bad_met (bad object) e is = record { object = object; met = refl; error = cc is }
bad_met (found object bucket) e is = cc
