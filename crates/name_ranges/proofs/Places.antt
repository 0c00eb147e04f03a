-- Keys are in the order of places: bytes that have the highest first are compared as the numbers are.
use Rattle.std.proofs.Common.{◌≡◌, ◌<◌, ◌≤◌, refl, sym, ap, ◌∙◌, arith, ℕ, zero, suc, ◌+◌, ◌*◌, ◌%◌, ◌^◌, Bool, true, false, not, ◌&&◌, List, [], ◌∷◌, ◌++◌, add-mul, mod-eq_of_lt, mod-lt, mul-le-mul_right, mul_comm, pow-suc, Ordering}
use Rattle.std.specs.Prelude.{bit_xor, nat_le}
use Rattle.std.proofs.Math.Arith.{mod-mul}
use Rattle.std.proofs.Math.Nat.{pow-le-pow_right}
use Rattle.std.proofs.lemmas.Bool.Decides.{nat_tests}
use Rattle.std.specs.Cmp.{ranked}
use Rattle.std.specs.Cmp.Lexicographic.{slice_cmp}
use Rattle.std.specs.Int.{byte_at, bytes_high_first}
use Rattle.std.specs.Ordering.{is_lt, nat_cmp, ordering_then}
use Rattle.std.specs.declared.cmp.Ordering.TheVariants.{Less, Equal, Greater}
use Rattle.page_map.specs.Map.{is_within}
use Rattle.named_words.specs.Effects.{hash_from, place_of}
use Rattle.name_ranges.specs.Directory.{from_place, key_of}

some_power : (k : ℕ) → 0 < 256 ^ k
some_power k = pow-le-pow_right {n = 256} (omega arith) {i = 0} {j = k} (omega arith)

-- a number below a power, by its highest byte
byte_on : (k x : ℕ) → byte_at k x * 256 ^ k + x % 256 ^ k ≡ x % 256 ^ suc k
byte_on zero x = omega arith
byte_on (suc k) x =
    let unit = 256 ^ suc k in
    let wider : 256 ^ suc (suc k) ≡ 256 * unit = pow-suc 256 (suc k) ∙ mul_comm unit 256 in
    rw (wider, mod-mul x {m = 256} {c = unit} (omega arith) (some_power (suc k))) (omega arith)

first_decides : (unit a c r q : ℕ) → a < c → r < unit → a * unit + r < c * unit + q
first_decides unit a c r q less small =
    let more : (a + 1) * unit ≤ c * unit = mul-le-mul_right unit (omega (arith, less)) in
    let parts : (a + 1) * unit ≡ a * unit + 1 * unit = add-mul a 1 unit in
    omega (arith, more, parts, small)

below : (n m : ℕ) → m < n → nat_le n m ≡ false
below n m less = grind (arith, nat_tests, less)

at_most : (n m : ℕ) → n ≤ m → nat_le n m ≡ true
at_most n m low = grind (arith, nat_tests, low)

moved : (a n m : ℕ) → nat_le n m ≡ nat_le (a + n) (a + m)
moved a n m = grind (arith, nat_tests)

-- a number and more bytes are not below another number where it is not
pub not_below : (k x y : ℕ) (rest : List ℕ) → not (is_lt (slice_cmp nat_cmp (bytes_high_first k x ++ rest) (bytes_high_first k y))) ≡ nat_le (y % 256 ^ k) (x % 256 ^ k)
not_below zero x y [] = sym (at_most (y % 1) (x % 1) (omega arith))
not_below zero x y (byte ∷ rest) = sym (at_most (y % 1) (x % 1) (omega arith))
not_below (suc k) x y rest =
    let unit = 256 ^ k in
    let small_x : x % unit < unit = mod-lt x (some_power k) in
    let small_y : y % unit < unit = mod-lt y (some_power k) in
    let behind : Ordering = slice_cmp nat_cmp (bytes_high_first k x ++ rest) (bytes_high_first k y) in
    elim (nat_cmp (byte_at k x) (byte_at k y)) as (λ r. nat_cmp (byte_at k x) (byte_at k y) ≡ r → not (is_lt (ordering_then r behind)) ≡ nat_le (y % 256 ^ suc k) (x % 256 ^ suc k)) [
      | Less ↦ λ is.
          let less : byte_at k x < byte_at k y = ranked (byte_at k x) (byte_at k y) Less (sym is) in
          let all = first_decides unit (byte_at k x) (byte_at k y) (x % unit) (y % unit) less small_x in
          sym (below (y % 256 ^ suc k) (x % 256 ^ suc k) (omega (arith, all, byte_on k x, byte_on k y)))
      | Equal ↦ λ is.
          let same : byte_at k x ≡ byte_at k y = ranked (byte_at k x) (byte_at k y) Equal (sym is) in
          not_below k x y rest ∙ moved (byte_at k y * unit) (y % unit) (x % unit)
          ∙ (λ i. nat_le (byte_on k y i) ((ap (λ b. b * unit + x % unit) (sym same) ∙ byte_on k x) i))
      | Greater ↦ λ is.
          let more : byte_at k y < byte_at k x = ranked (byte_at k x) (byte_at k y) Greater (sym is) in
          let all = first_decides unit (byte_at k y) (byte_at k x) (y % unit) (x % unit) more small_y in
          sym (at_most (y % 256 ^ suc k) (x % 256 ^ suc k) (omega (arith, all, byte_on k x, byte_on k y)))
    ] refl

hash_small : (hash : ℕ) (name : List ℕ) → hash < 2 ^ 64 → hash_from hash name < 2 ^ 64
hash_small hash [] small = small
hash_small hash (byte ∷ name) small = hash_small (bit_xor hash byte * 1099511628211 % 2 ^ 64) name (mod-lt _ (omega arith))

place_small : (name : List ℕ) → place_of name < 2 ^ 64
place_small name = omega (arith, hash_small 14695981039346656037 name (omega arith))

and_true : (b : Bool) → (b && true) ≡ b
and_true true = refl
and_true false = refl

pub keys_in_order : (name : List ℕ) (cursor : ℕ) → cursor < 2 ^ 64 → is_within (from_place cursor) (key_of name) ≡ nat_le cursor (place_of name)
keys_in_order name cursor small =
    and_true _ ∙ not_below 8 (place_of name) cursor name ∙ (λ i. nat_le (mod-eq_of_lt {m = 256 ^ 8} small i) (mod-eq_of_lt {m = 256 ^ 8} (place_small name) i))
