-- The objects that an operation of the grammar names, and the values that are made for them.
use Rattle.std.proofs.Common.{◌≡◌, ◌≤◌, ◌<◌, ℕ, suc, ◌==◌, Bool, true, false, not, ◌&&◌, ◌||◌, if◌then◌else◌, None, Result, Ok, Err, List, [], ◌∷◌, All, length, map, refl, sym, ap, ◌∙◌, arith, true≢false}
use Rattle.std.specs.Prelude.{⊤, IsTrue, nat_eq, nat_lt, nat_le}
use Rattle.std.specs.Result.{result_err}
use Rattle.std.specs.List.{IsDistinct, AllByRecursion, list_all}
use Rattle.std.proofs.lemmas.List.Elements.{All-cons, All-nil}
use Rattle.std.proofs.lemmas.Bool.{le-leb, leb-true, ltb-true, lt-ltb}
use Rattle.oper_core.specs.State.{is_among}
use Rattle.oper_core.specs.Meaning.{or_else, unless}
use Rattle.oper_core.specs.declared.refusal.Refusal.{Refusal}
use Rattle.oper_core.specs.declared.refusal.Refusal.TheVariants.{NoObject, Same, TooLarge}
use Rattle.key_entries.specs.EntryLaws.{both_true, true_both, if_true}
use Rattle.key_entries.specs.Objects.{are_apart, named, where_roomy, values_of}

-- what the grammar asks
pub record IsNamed (most : ℕ) (objects : List ℕ) (short : Bool) : Type 0 where
  pub below : IsTrue (list_all (λ x. nat_lt x most) objects)
  pub apart : IsTrue (are_apart objects)
  pub keys : IsTrue short

all_true : (p q r : Bool) (s t u : Refusal) → or_else (unless p s) (or_else (unless q t) (unless r u)) ≡ None → IsTrue p × IsTrue q × IsTrue r
all_true true true true s t u e = (refl, refl, refl)
all_true true true false s t u e = cc
all_true true false r s t u e = cc
all_true false q r s t u e = cc

pub named_tells : (most : ℕ) (objects : List ℕ) (short : Bool) → named most objects short ≡ None → IsNamed most objects short
named_tells most objects short e =
    let tests = all_true (list_all (λ x. nat_lt x most) objects) (are_apart objects) short NoObject Same TooLarge e in
    record { below = tests.0; apart = tests.1; keys = tests.2 }

pub below_all : (n : ℕ) (xs : List ℕ) → IsTrue (list_all (λ x. nat_lt x n) xs) → All (λ x. x < n) xs
below_all n [] e = All-nil (λ x. x < n)
below_all n (x ∷ xs) e =
    let parts = both_true (nat_lt x n) (list_all (λ x. nat_lt x n) xs) e in
    All-cons (λ x. x < n) x xs (ltb-true x n parts.0) (below_all n xs parts.1)

pub not_true : (b : Bool) → IsTrue (not b) → b ≡ false
not_true true e = sym e
not_true false e = refl

pub either_false : (a b : Bool) → (a || b) ≡ false → (a ≡ false) × (b ≡ false)
either_false true b e = absurd (true≢false e)
either_false false b e = (refl, e)

others : (x : ℕ) (xs : List ℕ) → is_among x xs ≡ false → AllByRecursion (λ y. nat_eq x y ≡ false) xs
others x [] e = tt
others x (y ∷ xs) e = let parts = either_false (x == y) (is_among x xs) e in (parts.0, others x xs parts.1)

pub distinct : (xs : List ℕ) → IsTrue (are_apart xs) → IsDistinct nat_eq xs
unfolding IsDistinct
distinct [] e = tt
distinct (x ∷ xs) e =
    let parts = both_true (not (is_among x xs)) (are_apart xs) e in (others x xs (not_true (is_among x xs) parts.0), distinct xs parts.1)

-- the first two of three objects
pub first_two_apart : (a b c : ℕ) → IsTrue (are_apart (a ∷ b ∷ c ∷ [])) → IsTrue (are_apart (a ∷ b ∷ []))
first_two_apart a b c e =
    let parts = both_true (not (is_among a (b ∷ c ∷ []))) (are_apart (b ∷ c ∷ [])) e in
    let first = either_false (a == b) (is_among a (c ∷ [])) (not_true (is_among a (b ∷ c ∷ [])) parts.0) in
    ap (λ (t : Bool). not (t || false) && (not false && true)) first.0

pub first_two_below : (n a b c : ℕ) → IsTrue (list_all (λ x. nat_lt x n) (a ∷ b ∷ c ∷ [])) → All (λ x. x < n) (a ∷ b ∷ [])
first_two_below n a b c e =
    let first = both_true (nat_lt a n) (list_all (λ x. nat_lt x n) (b ∷ c ∷ [])) e in
    let second = both_true (nat_lt b n) (list_all (λ x. nat_lt x n) (c ∷ [])) first.1 in
    All-cons (λ x. x < n) a (b ∷ []) (ltb-true a n first.0) (All-cons (λ x. x < n) b [] (ltb-true b n second.0) (All-nil (λ x. x < n)))

-- objects below a number are below a greater one
pub weaker : (n m : ℕ) (xs : List ℕ) → n ≤ m → IsTrue (list_all (λ x. nat_lt x n) xs) → IsTrue (list_all (λ x. nat_lt x m) xs)
weaker n m [] least e = refl
weaker n m (x ∷ xs) least e =
    let first = both_true (nat_lt x n) (list_all (λ x. nat_lt x n) xs) e in
    true_both (nat_lt x m) (list_all (λ x. nat_lt x m) xs) (lt-ltb x m (omega (arith, ltb-true x n first.0, least))) (weaker n m xs least first.1)

no_refusal : (p q r : Bool) (s t u : Refusal) → IsTrue p → IsTrue q → IsTrue r → or_else (unless p s) (or_else (unless q t) (unless r u)) ≡ None
no_refusal p q r s t u e f g =
    ap (λ (p : Bool). or_else (unless p s) (or_else (unless q t) (unless r u))) e ∙ ap (λ (q : Bool). or_else (unless q t) (unless r u)) f ∙ ap (λ (r : Bool). unless r u) g

pub named_by : (most : ℕ) (objects : List ℕ) (short : Bool) → IsTrue (list_all (λ x. nat_lt x most) objects) → IsTrue (are_apart objects) → IsTrue short → named most objects short ≡ None
named_by most objects short below apart keys = no_refusal (list_all (λ x. nat_lt x most) objects) (are_apart objects) short NoObject Same TooLarge below apart keys

pub named_wider : (n m : ℕ) (objects : List ℕ) (short : Bool) → n ≤ m → named n objects short ≡ None → named m objects short ≡ None
named_wider n m objects short least e =
    let good = named_tells n objects short e in
    no_refusal (list_all (λ x. nat_lt x m) objects) (are_apart objects) short NoObject Same TooLarge (weaker n m objects least good.below) good.apart good.keys

-- values that are made are one for each object, and fit
abbrev empties : List ℕ → List (List ℕ)
empties objects = map (λ x. []) objects

empty_values : (most : ℕ) (objects : List ℕ) → (length (empties objects) ≡ length objects) × All (λ v. length v ≤ most) (empties objects)
empty_values most [] = (refl, All-nil (λ v. length v ≤ most))
empty_values most (x ∷ objects) = let rest = empty_values most objects in (ap suc rest.0, All-cons (λ v. length v ≤ most) [] (empties objects) (omega arith) rest.1)

module _ {M : Type 0} (bytes_of : M → List (List ℕ)) where
  -- so many values, of at most 1024 bytes each
  abbrev pub FitIn : ℕ → Result M Refusal → Type 0
  FitIn n (Ok made) = (length (bytes_of made) ≡ n) × All (λ v. length v ≤ 1024) (bytes_of made)
  FitIn n (Err r) = ⊤

  pub either_fits : (n : ℕ) (b : Bool) (r s : Result M Refusal) → FitIn n r → FitIn n s → FitIn n (if b then r else s)
  either_fits n true r s x y = x
  either_fits n false r s x y = y

  pub values_fit : (most : ℕ) (objects : List ℕ) (r : Result M Refusal) → FitIn (length objects) r
      → (length (values_of bytes_of objects (where_roomy most r)) ≡ length objects) × All (λ v. length v ≤ most) (values_of bytes_of objects (where_roomy most r))
  values_fit most objects (Err r) fit = empty_values most objects
  values_fit most objects (Ok made) fit =
      elim (nat_le 1024 most) as (λ b. nat_le 1024 most ≡ b → (length (values_of bytes_of objects (if b then Ok made else Err TooLarge)) ≡ length objects) × All (λ v. length v ≤ most) (values_of bytes_of objects (if b then Ok made else Err TooLarge))) [
        | true ↦ λ roomy. (fit.0, λ k d within. omega (arith, fit.1 k d within, leb-true 1024 most roomy))
        | false ↦ λ roomy. empty_values most objects
      ] refl

-- one value that fits, and three
pub one_fits : (most : ℕ) (v : List ℕ) → length v ≤ most → All (λ v. length v ≤ most) (v ∷ [])
one_fits most v fits = All-cons (λ v. length v ≤ most) v [] fits (All-nil (λ v. length v ≤ most))

pub three_fit : (most : ℕ) (u v w : List ℕ) → length u ≤ most → length v ≤ most → length w ≤ most → All (λ v. length v ≤ most) (u ∷ v ∷ w ∷ [])
three_fit most u v w a b c = All-cons (λ v. length v ≤ most) u (v ∷ w ∷ []) a (All-cons (λ v. length v ≤ most) v (w ∷ []) b (one_fits most w c))

-- what fits under a bound fits under a greater one
pub roomy_wider : {M : Type 0} → (n m : ℕ) (r : Result M Refusal) → n ≤ m → result_err (where_roomy n r) ≡ None → where_roomy m r ≡ where_roomy n r
roomy_wider n m (Err refusal) least e = cc
roomy_wider n m (Ok made) least e =
    elim (nat_le 1024 n) as (λ t. (nat_le 1024 n ≡ t) → result_err (if t then Ok made else Err TooLarge) ≡ None → where_roomy m (Ok made) ≡ (if t then Ok made else Err TooLarge)) [
      | true ↦ λ fits e. if_true (nat_le 1024 m) (Ok made) (Err TooLarge) (le-leb 1024 m (omega (arith, leb-true 1024 n fits, least)))
      | false ↦ λ fits e. cc
    ] refl e
