-- Numbers and their bytes, the lowest first: each gives the other back.
use Rattle.std.proofs.Common.{◌≡◌, ℕ, zero, suc, ◌+◌, ◌-◌, ◌*◌, ◌/◌, ◌%◌, ◌^◌, ◌<◌, ◌≤◌, List, [], ◌∷◌, ◌++◌, length, take, drop, slice_index, refl, sym, ap, ◌∙◌, arith}
use Rattle.std.proofs.Math.Nat.{div-div-eq-div-mul, pow-succ'}
use Rattle.std.proofs.Math.Seq.{drop-append_seam}
use Rattle.std.proofs.lemmas.List.{length-drop, take-append-drop, take_all}
use Rattle.std.specs.Int.{byte_at, bytes_low_first}
use Rattle.byteorder.specs.Endian.{little_bytes, little_number}
use Rattle.byteorder.specs.Numbers.{length-bytes_low_first, little_from-cons, little_number-reads_back}

-- there are n bytes
pub length-little_bytes : (n x : ℕ) → length (little_bytes n x) ≡ n
length-little_bytes n x = length-bytes_low_first 0 n x

-- the number in the bytes of x is x, whatever follows them
pub little_number-little_bytes : (n x : ℕ) (rest : List ℕ) → x < 256 ^ n → little_number n (little_bytes n x ++ rest) ≡ x
little_number-little_bytes n x rest h = little_number-reads_back n x rest h

-- a higher byte is one of the number without its lowest byte
byte_at-suc : (i x : ℕ) → byte_at (suc i) x ≡ byte_at i (x / 256)
byte_at-suc zero x = refl
byte_at-suc (suc i) x =
    ap (λ (y : ℕ). y % 256) (ap (λ (p : ℕ). x / p) (pow-succ' 256 (suc i)) ∙ sym (div-div-eq-div-mul x 256 (256 ^ suc i)))

-- the bytes from a higher one on are those of the number without its lowest byte
bytes_low_first-suc : (n i x : ℕ) → bytes_low_first (suc i) n x ≡ bytes_low_first i n (x / 256)
bytes_low_first-suc zero i x = refl
bytes_low_first-suc (suc n) i x =
    let byte = byte_at-suc i x in
    let rest = bytes_low_first-suc n (suc i) x in
    ap (λ (y : ℕ). y ∷ bytes_low_first (suc (suc i)) n x) byte ∙ ap (λ (ys : List ℕ). byte_at i (x / 256) ∷ ys) rest

-- the bytes of the number in the first n bytes are these bytes
pub little_bytes-little_number : (n : ℕ) (bytes : List ℕ) → n ≤ length bytes → ((i : ℕ) → slice_index bytes i < 256)
    → little_bytes n (little_number n bytes) ≡ take n bytes
little_bytes-little_number zero bytes long small = refl
little_bytes-little_number (suc n) [] long small = absurd (omega arith)
little_bytes-little_number (suc n) (byte ∷ bytes) long small =
    let first : byte < 256 = small 0 in
    let moved : little_number (suc n) (byte ∷ bytes) ≡ byte + 256 * little_number n bytes =
    ap (λ (y : ℕ). byte + 256 * y) (little_from-cons 0 n byte bytes) in
    let low : (byte + 256 * little_number n bytes) % 256 ≡ byte = omega arith in
    let high : (byte + 256 * little_number n bytes) / 256 ≡ little_number n bytes = omega arith in
    let rest : bytes_low_first 1 n (byte + 256 * little_number n bytes) ≡ take n bytes =
    bytes_low_first-suc n 0 (byte + 256 * little_number n bytes) ∙ ap (λ (y : ℕ). little_bytes n y) high
    ∙ little_bytes-little_number n bytes (omega arith) (λ i. small (suc i)) in
    ap (λ (y : ℕ). little_bytes (suc n) y) moved
    ∙ ap (λ (y : ℕ). y ∷ bytes_low_first 1 n (byte + 256 * little_number n bytes)) low
    ∙ ap (λ (ys : List ℕ). byte ∷ ys) rest

-- a list of bytes begins with the bytes of the number in its first n
pub little_bytes-front : (n : ℕ) (bytes : List ℕ) → n ≤ length bytes → ((i : ℕ) → slice_index bytes i < 256)
    → bytes ≡ little_bytes n (little_number n bytes) ++ drop n bytes
little_bytes-front n bytes long small =
    sym (take-append-drop n bytes) ∙ ap (λ (front : List ℕ). front ++ drop n bytes) (sym (little_bytes-little_number n bytes long small))

-- two numbers with the same n bytes in front are equal, and so is what stands after
pub little_bytes-split : (n x y : ℕ) (rest more : List ℕ) → x < 256 ^ n → y < 256 ^ n
    → little_bytes n x ++ rest ≡ little_bytes n y ++ more → (x ≡ y) × (rest ≡ more)
little_bytes-split n x y rest more fits also same =
    let number : x ≡ y = sym (little_number-little_bytes n x rest fits) ∙ ap (little_number n) same ∙ little_number-little_bytes n y more also in
    let behind : (z : ℕ) (zs : List ℕ) → drop n (little_bytes n z ++ zs) ≡ zs =
    λ z zs. sym (ap (λ (k : ℕ). drop k (little_bytes n z ++ zs)) (length-little_bytes n z)) ∙ drop-append_seam (little_bytes n z) zs in
    (number, sym (behind x rest) ∙ ap (drop n) same ∙ behind y more)

-- two numbers with the same n bytes are equal
pub little_bytes-injective : (n x y : ℕ) → x < 256 ^ n → y < 256 ^ n → little_bytes n x ≡ little_bytes n y → x ≡ y
little_bytes-injective n x y fits also same = (little_bytes-split n x y [] [] fits also (ap (λ (bytes : List ℕ). bytes ++ []) same)).0

-- the bytes from a place on, as a slice gives them
pub slice_from : (place : ℕ) (bytes : List ℕ) → take (length bytes - place) (drop place bytes) ≡ drop place bytes
slice_from place bytes = take_all (length bytes - place) (drop place bytes) (omega (arith, length-drop place bytes))
