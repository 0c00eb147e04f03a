-- What comes next in a put, and how far that is from its end.
use Rattle.std.proofs.Common.{◌≡◌, ◌<◌, ◌⊎◌, ℕ, ◌-◌, ◌==◌, true, false, if◌then◌else◌, List, [], ◌∷◌, refl, ap, subst, arith, inl, inr}
use Rattle.std.specs.Prelude.{IsTrue}
use Rattle.hash_ops.specs.declared.bucket.Bucket.{Bucket}
use Rattle.hash_ops.specs.declared.hash_op.HashOp.{HashOp}
use Rattle.hash_ops.specs.declared.hash_op.HashOp.TheVariants.{Init, Put, Split}
use Rattle.call_plans.specs.Plan.{goes_on, ends, refuses}
use Rattle.hash_file.specs.Find.{Met, unused, bad, found}
use Rattle.hash_file.specs.Plan.{HashNext, has_room, put_on, with_free}
use Rattle.hash_file.specs.Laws.{IsFull}
use Rattle.hash_file.specs.declared.refusal.HashRefusal.{HashRefusal}
use Rattle.hash_file.specs.declared.refusal.HashRefusal.TheVariants.{HashFull, NoRoom}

-- the commands that are left before the put: each split makes the key's bucket deeper
abbrev pub left_of : List ℕ → Met → ℕ
left_of key unused = 1
left_of key (bad x) = 0
left_of key (found x b) = if has_room key b then 0 else 6 - b.depth

pub left_small : (key : List ℕ) (m : Met) → left_of key m < 7
left_small key unused = omega arith
left_small key (bad x) = omega arith
left_small key (found x b) = elim (has_room key b) as (λ t. (if t then 0 else 6 - b.depth) < 7) [ true ↦ omega arith | false ↦ omega arith ]

abbrev next_op : HashOp → HashNext → HashOp
next_op d (goes_on op) = op
next_op d (ends op) = op
next_op d (refuses r) = d

taken : (make : ℕ → HashOp) (free : List ℕ) (op : HashOp) → with_free make free ≡ goes_on op → (x : ℕ) × (rest : List ℕ) × (free ≡ x ∷ rest) × (make x ≡ op)
taken make [] op e = cc
taken make (x ∷ rest) op e = (x, rest, refl, ap (next_op (make x)) e)

never_ends : (make : ℕ → HashOp) (free : List ℕ) (op : HashOp) → with_free make free ≡ ends op → ⊥
never_ends make [] op e = cc
never_ends make (x ∷ rest) op e = cc

abbrev refusal_of_next : HashRefusal → HashNext → HashRefusal
refusal_of_next d (goes_on op) = d
refusal_of_next d (ends op) = d
refusal_of_next d (refuses r) = r

module _ (lo : ℕ) (key value free : List ℕ) where
  -- the beginning of the file
  pub record Begins (m : Met) (op : HashOp) : Type 0 where
    pub object : ℕ
    pub rest : List ℕ
    pub met : m ≡ unused
    pub free_is : free ≡ object ∷ rest
    pub is : Init lo object ≡ op

  -- the split of a full bucket
  pub record Splits (m : Met) (op : HashOp) : Type 0 where
    pub object : ℕ
    pub bucket : Bucket
    pub new : ℕ
    pub rest : List ℕ
    pub met : m ≡ found object bucket
    pub full : has_room key bucket ≡ false
    pub deep : (bucket.depth == 6) ≡ false
    pub free_is : free ≡ new ∷ rest
    pub is : Split lo object new ≡ op

  -- the put into a bucket with room
  pub record Puts (m : Met) (op : HashOp) : Type 0 where
    pub object : ℕ
    pub bucket : Bucket
    pub met : m ≡ found object bucket
    pub room : IsTrue (has_room key bucket)
    pub is : Put object key value ≡ op

  abbrev where_full : ℕ → Bucket → HashNext
  where_full x c = if c.depth == 6 then refuses (HashFull x) else with_free (λ new. Split lo x new) free

  splits_tell : (x : ℕ) (c : Bucket) (op : HashOp) → has_room key c ≡ false → where_full x c ≡ goes_on op → Splits (found x c) op
  splits_tell x c op full e =
      elim (c.depth == 6) as (λ u. (c.depth == 6) ≡ u → (if u then refuses (HashFull x) else with_free (λ new. Split lo x new) free) ≡ goes_on op → Splits (found x c) op) [
        | true ↦ λ deep e. cc
        | false ↦ λ deep e.
            let new = taken (λ new. Split lo x new) free op e in
            record { object = x; bucket = c; new = new.0; rest = new.1; met = refl; full = full; deep = deep; free_is = new.2; is = new.3 }
      ] refl e

  pub goes_tells : (m : Met) (op : HashOp) → put_on lo key value free m ≡ goes_on op → Begins m op ⊎ Splits m op
  goes_tells unused op e = let x = taken (λ x. Init lo x) free op e in inl (record { object = x.0; rest = x.1; met = refl; free_is = x.2; is = x.3 })
  goes_tells (bad x) op e = cc
  goes_tells (found x c) op e =
      elim (has_room key c) as (λ t. has_room key c ≡ t → (if t then ends (Put x key value) else where_full x c) ≡ goes_on op → Begins (found x c) op ⊎ Splits (found x c) op) [
        | true ↦ λ room e. cc
        | false ↦ λ full e. inr (splits_tell x c op full e)
      ] refl e

  no_end : (x : ℕ) (c : Bucket) (op : HashOp) → where_full x c ≡ ends op → ⊥
  no_end x c op e =
      elim (c.depth == 6) as (λ u. (if u then refuses (HashFull x) else with_free (λ new. Split lo x new) free) ≡ ends op → ⊥) [
        | true ↦ λ e. cc
        | false ↦ λ e. never_ends (λ new. Split lo x new) free op e
      ] e

  pub ends_tells : (m : Met) (op : HashOp) → put_on lo key value free m ≡ ends op → Puts m op
  ends_tells unused op e = absurd (never_ends (λ x. Init lo x) free op e)
  ends_tells (bad x) op e = cc
  ends_tells (found x c) op e =
      elim (has_room key c) as (λ t. has_room key c ≡ t → (if t then ends (Put x key value) else where_full x c) ≡ ends op → Puts (found x c) op) [
        | true ↦ λ room e. record { object = x; bucket = c; met = refl; room = room; is = ap (next_op (Put x key value)) e }
        | false ↦ λ full e. absurd (no_end x c op e)
      ] refl e

  none_free : (make : ℕ → HashOp) (r : HashRefusal) → with_free make free ≡ refuses r → IsFull r
  none_free make r e =
      elim free as (λ l. with_free make l ≡ refuses r → IsFull r) [
        | [] ↦ λ e. subst IsFull (ap (refusal_of_next (NoRoom 0)) e) refl
        | x ∷ rest ↦ λ e. cc
      ] e

  pub refuses_tells : (m : Met) (r : HashRefusal) → put_on lo key value free m ≡ refuses r → ((x : ℕ) × (m ≡ bad x)) ⊎ IsFull r
  refuses_tells unused r e = inr (none_free (λ x. Init lo x) r e)
  refuses_tells (bad x) r e = inl (x, refl)
  refuses_tells (found x c) r e =
      elim (has_room key c) as (λ t. (if t then ends (Put x key value) else where_full x c) ≡ refuses r → ((y : ℕ) × (found x c ≡ bad y)) ⊎ IsFull r) [
        | true ↦ λ e. cc
        | false ↦ λ e.
            elim (c.depth == 6) as (λ u. (if u then refuses (HashFull x) else with_free (λ new. Split lo x new) free) ≡ refuses r → ((y : ℕ) × (found x c ≡ bad y)) ⊎ IsFull r) [
              | true ↦ λ e. inr (subst IsFull (ap (refusal_of_next (HashFull x)) e) tt)
              | false ↦ λ e. inr (none_free (λ new. Split lo x new) r e)
            ] e
      ] e
