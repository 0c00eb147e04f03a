-- What is put together from bytes consists of bytes.
use Rattle.std.proofs.Common.{◌<◌, ℕ, zero, suc, ◌+◌, ◌/◌, ◌%◌, ◌^◌, List, [], ◌∷◌, ◌++◌, All, take, drop, map, get_or-drop, slice_index_or, arith}
use Rattle.std.specs.Prelude.{flat_map}
use Rattle.std.specs.List.{concat}
use Rattle.std.specs.Int.{byte_at, bytes_low_first}
use Rattle.std.proofs.lemmas.List.Elements.{All-cons, All-head, All-nil, All-tail}
use Rattle.byteorder.specs.Endian.{little_bytes}
use Rattle.app_program.specs.OneCode.{AreBytes}

pub no_bytes : AreBytes []
no_bytes i = omega arith

pub bytes_cons : (x : ℕ) (xs : List ℕ) → x < 256 → AreBytes xs → AreBytes (x ∷ xs)
bytes_cons x xs low are zero = low
bytes_cons x xs low are (suc i) = are i

pub bytes_append : (xs ys : List ℕ) → AreBytes xs → AreBytes ys → AreBytes (xs ++ ys)
bytes_append [] ys one two = two
bytes_append (x ∷ xs) ys one two = bytes_cons x (xs ++ ys) (one 0) (bytes_append xs ys (λ i. one (suc i)) two)

-- what stands in front, or behind, of a list of bytes
pub bytes_front : (xs ys : List ℕ) → AreBytes (xs ++ ys) → AreBytes xs
bytes_front [] ys are = no_bytes
bytes_front (x ∷ xs) ys are = bytes_cons x xs (are 0) (bytes_front xs ys (λ i. are (suc i)))

pub bytes_back : (xs ys : List ℕ) → AreBytes (xs ++ ys) → AreBytes ys
bytes_back [] ys are = are
bytes_back (x ∷ xs) ys are = bytes_back xs ys (λ i. are (suc i))

pub bytes_take : (n : ℕ) (xs : List ℕ) → AreBytes xs → AreBytes (take n xs)
bytes_take zero xs are = no_bytes
bytes_take (suc n) [] are = no_bytes
bytes_take (suc n) (x ∷ xs) are = bytes_cons x (take n xs) (are 0) (bytes_take n xs (λ i. are (suc i)))

pub bytes_drop : (n : ℕ) (xs : List ℕ) → AreBytes xs → AreBytes (drop n xs)
bytes_drop n xs are i = rw get_or-drop (are (n + i))

-- a number's bytes
low : (n : ℕ) → n % 256 < 256
low n = omega arith

low_byte : (i x : ℕ) → byte_at i x < 256
low_byte zero x = low x
low_byte (suc i) x = low (x / 256 ^ suc i)

low_bytes : (i n x : ℕ) → AreBytes (bytes_low_first i n x)
low_bytes i zero x = no_bytes
low_bytes i (suc n) x = bytes_cons (byte_at i x) (bytes_low_first (suc i) n x) (low_byte i x) (low_bytes (suc i) n x)

pub number_bytes : (n x : ℕ) → AreBytes (little_bytes n x)
number_bytes n x = low_bytes 0 n x

pub numbers_bytes : (n : ℕ) (xs : List ℕ) → AreBytes (flat_map (little_bytes n) xs)
numbers_bytes n [] = no_bytes
numbers_bytes n (x ∷ xs) = bytes_append (little_bytes n x) (flat_map (little_bytes n) xs) (number_bytes n x) (numbers_bytes n xs)

-- pieces one after the other, and each of them
module _ {X : Type 0} (code : X → List ℕ) where
  pub flat_bytes : (xs : List X) → All (λ x. AreBytes (code x)) xs → AreBytes (flat_map code xs)
  flat_bytes [] all = no_bytes
  flat_bytes (x ∷ xs) all =
      bytes_append (code x) (flat_map code xs) (All-head (λ x. AreBytes (code x)) x xs all) (flat_bytes xs (All-tail (λ x. AreBytes (code x)) x xs all))

  pub each_bytes : (xs : List X) → AreBytes (flat_map code xs) → All (λ x. AreBytes (code x)) xs
  each_bytes [] are = All-nil (λ x. AreBytes (code x))
  each_bytes (x ∷ xs) are =
      All-cons (λ x. AreBytes (code x)) x xs (bytes_front (code x) (flat_map code xs) are) (each_bytes xs (bytes_back (code x) (flat_map code xs) are))

pub concat_bytes : (xss : List (List ℕ)) → All AreBytes xss → AreBytes (concat xss)
concat_bytes [] all = no_bytes
concat_bytes (xs ∷ xss) all = bytes_append xs (concat xss) (All-head AreBytes xs xss all) (concat_bytes xss (All-tail AreBytes xs xss all))

-- ---- values

pub one_value : (v : List ℕ) → AreBytes v → All AreBytes (v ∷ [])
one_value v are = All-cons AreBytes v [] are (All-nil AreBytes)

pub two_values : (v w : List ℕ) → AreBytes v → AreBytes w → All AreBytes (v ∷ w ∷ [])
two_values v w are also = All-cons AreBytes v (w ∷ []) are (one_value w also)

pub three_values : (u v w : List ℕ) → AreBytes u → AreBytes v → AreBytes w → All AreBytes (u ∷ v ∷ w ∷ [])
three_values u v w are also last = All-cons AreBytes u (v ∷ w ∷ []) are (two_values v w also last)

-- a value that is read, also where there is none
pub value_bytes : (i : ℕ) (values : List (List ℕ)) → All AreBytes values → AreBytes (slice_index_or values i [])
value_bytes i [] all = no_bytes
value_bytes zero (v ∷ values) all = All-head AreBytes v values all
value_bytes (suc i) (v ∷ values) all = value_bytes i values (All-tail AreBytes v values all)

-- as many empty values
pub empty_values : {X : Type 0} (xs : List X) → All AreBytes (map (λ x. []) xs)
empty_values [] = All-nil AreBytes
empty_values (x ∷ xs) = All-cons AreBytes [] (map (λ x. []) xs) no_bytes (empty_values xs)
