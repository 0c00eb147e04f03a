-- How the records of a value are found, and joined again.
use Rattle.std.proofs.Common.{◌≡◌, ◌<◌, ◌≤◌, ℕ, ◌+◌, ◌*◌, ◌-◌, ◌/◌, List, [], ◌∷◌, ◌++◌, length, map, take, drop, get_or, sym, ap, ◌∙◌, arith, length-drop}
use Rattle.std.specs.List.{concat, range_with_len}
use Rattle.std.specs.List.Sorted.{IsPermutation, IsSorted, IsSortedBy}
use Rattle.std.specs.Ordering.{is_lt}
use Rattle.std.proofs.lemmas.List.{append-nil, drop-drop, get_or-map, map-append, length-map, length_push, take_more}
use Rattle.std.proofs.lemmas.List.Folds.{concat-append}
use Rattle.std.proofs.lemmas.List.FromFn.{map-range_with_len_more}
use Rattle.std.proofs.lemmas.List.Sorted.{IsPermutation-map}
use Rattle.std.proofs.lemmas.Nat.{div-mul-add}
use Rattle.op_meaning.specs.Order.{record_at, records, byte_order, in_order}
use Rattle.op_meaning.specs.OrderLaws.{in_order_only}

-- these are the first records of w bytes, and this is what follows them
pub record AreFirst {B : Type 0} (now : B → List ℕ) (w : ℕ) (x : List ℕ) (found : List B) (rest : List ℕ) : Type 0 where
  pub all : map now found ≡ map (record_at w x) (range_with_len 0 (length found))
  pub behind : rest ≡ drop (length found * w) x
  pub within : length found * w ≤ length x

-- one more record is found
pub first_more : {B : Type 0} (now : B → List ℕ) (w : ℕ) (x : List ℕ) (found : List B) (next : B) (rest more : List ℕ)
    → AreFirst now w x found rest → w ≤ length rest → now next ≡ take w rest → more ≡ drop w rest
    → AreFirst now w x (found ++ next ∷ []) more
first_more now w x found next rest more first long here behind =
    let n : ℕ = length found in
    let count : length (found ++ next ∷ []) ≡ n + 1 = length_push found next in
    let places : length (found ++ next ∷ []) * w ≡ n * w + w = ap (λ (k : ℕ). k * w) count ∙ omega arith in
    record {
      all = map-append now found (next ∷ [])
          ∙ ap (λ (front : List (List ℕ)). front ++ now next ∷ []) first.all
          ∙ ap (λ (r : List ℕ). map (record_at w x) (range_with_len 0 n) ++ r ∷ []) (here ∙ ap (take w) first.behind)
          ∙ sym (map-range_with_len_more (record_at w x) 0 n n (omega arith))
          ∙ ap (λ (k : ℕ). map (record_at w x) (range_with_len 0 k)) (sym count);
      behind = behind ∙ ap (drop w) first.behind ∙ drop-drop w (n * w) x ∙ ap (λ (k : ℕ). drop k x) (sym places);
      within = let within = first.within in omega (arith, places, within, ap length first.behind, length-drop (n * w) x);
    }

-- all are found where less than a record is left
pub first_all : {B : Type 0} (now : B → List ℕ) (w : ℕ) (x : List ℕ) (found : List B) (rest : List ℕ)
    → AreFirst now w x found rest → length rest < w → map now found ≡ records w x
first_all now w x found rest first short =
    let n : ℕ = length found in
    let within = first.within in
    let left : length x - n * w < w = omega (arith, within, ap length first.behind, length-drop (n * w) x) in
    let parts : length x ≡ n * w + (length x - n * w) = omega (arith, within) in
    let count : length x / w ≡ n = ap (λ (k : ℕ). k / w) parts ∙ div-mul-add n w (length x - n * w) left in
    first.all ∙ ap (λ (k : ℕ). map (record_at w x) (range_with_len 0 k)) (sym count)

-- one more record is joined
pub joined_more : {B : Type 0} (now : B → List ℕ) (found : List B) (i : ℕ) (d : B) → i < length found
    → concat (map now (take i found)) ++ now (get_or found i d) ≡ concat (map now (take (i + 1) found))
joined_more {B} now found i d within =
    let next : B = get_or found i d in
    ap (λ (r : List ℕ). concat (map now (take i found)) ++ r) (sym (append-nil (now next)))
    ∙ sym (concat-append (map now (take i found)) (now next ∷ []))
    ∙ ap concat (sym (map-append now (take i found) (next ∷ [])))
    ∙ ap (λ (l : List B). concat (map now l)) (sym (take_more found i d within))

-- what a sort leaves, seen as records, is the records in order
sorted_map : {B : Type 0} (now : B → List ℕ) (found : List B) → IsSortedBy (λ r s. is_lt (byte_order (now r) (now s))) found → IsSorted byte_order (map now found)
sorted_map now [] up = λ k d low high. absurd (omega arith)
sorted_map now (r ∷ found) up = λ k d low high.
    let size = length-map (r ∷ found) now in
    let this = get_or-map now (r ∷ found) k r d (omega arith) in
    let next = get_or-map now (r ∷ found) (k + 1) r d (omega arith) in
    ap is_lt (ap (λ (a : List ℕ). byte_order a (get_or (map now (r ∷ found)) k d)) next ∙ ap (λ (b : List ℕ). byte_order (now (get_or (r ∷ found) (k + 1) r)) b) this) ∙ up k r low (omega arith)

pub sorted_records : {B : Type 0} (now : B → List ℕ) (before after : List B) → IsPermutation before after
    → IsSortedBy (λ r s. is_lt (byte_order (now r) (now s))) after → map now after ≡ in_order (map now before)
sorted_records now before after permutes up = in_order_only (map now before) (map now after) (IsPermutation-map now before after permutes) (sorted_map now after up)
