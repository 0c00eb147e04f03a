-- The delete of a cell of a leaf is accepted, whatever its other bytes are.
use Rattle.std.proofs.Common.{◌≡◌, ◌≤◌, ◌<◌, ℕ, zero, suc, ◌+◌, ◌*◌, ◌-◌, ◌^◌, ◌==◌, true, false, Bool, if◌then◌else◌, None, Some, Ok, Err, Option, List, [], ◌∷◌, length, take, drop, refl, sym, ap, ◌∙◌, subst, arith}
use Rattle.std.specs.Prelude.{IsTrue, nat_le, nat_lt, slice_index}
use Rattle.std.specs.Ordering.{is_eq}
use Rattle.std.specs.Result.{result_err}
use Rattle.std.proofs.lemmas.Bool.{cond-true, cond-false, eqb-true, leb-true, ltb-true, le-leb, lt-ltb, le-ltb}
use Rattle.byteorder.specs.Endian.{little_number}
use Rattle.oper_core.specs.State.{State}
use Rattle.oper_core.specs.Meaning.{Accepts, or_else}
use Rattle.oper_core.specs.declared.bounds.Bounds.{Bounds}
use Rattle.oper_core.specs.declared.refusal.Refusal.{Refusal}
use Rattle.oper_core.specs.declared.refusal.Refusal.TheVariants.{BadPlace, NoPages, NotNode, TooLarge}
use Rattle.key_entries.specs.Entries.{byte_order}
use Rattle.key_entries.specs.EntryLaws.{both_true, true_both}
use Rattle.key_entries.specs.Objects.{named}
use Rattle.key_entries.specs.ObjectLaws.{named_by}
use Rattle.page_ops.specs.Reading.{between, cell_bytes, count_in, has_cell, has_key, key_of, level_in, opens, place_of, places_at, places_in, stands_at}
use Rattle.page_ops.specs.Layout.{Layout, numbers_in, part_of, size}
use Rattle.page_ops.specs.Effects.{Made, delete_in, delete_made, is_short, to_fill, where_short}
use Rattle.page_ops.specs.Operation.{fits_code, page_meaning}
use Rattle.page_ops.specs.declared.page_op.PageOp.TheVariants.{Delete}
use Rattle.page_map.specs.Map.{bytes_at}
use Rattle.page_map.specs.Walk.{is_on}

numbers_few : (l : List ℕ) → 2 * length (numbers_in l) ≤ length l
numbers_few [] = omega arith
numbers_few (a ∷ []) = omega arith
numbers_few (a ∷ b ∷ l) = let rest = numbers_few l in omega (arith, rest)

take_few : (n : ℕ) (l : List ℕ) → length (take n l) ≤ n
take_few zero l = omega arith
take_few (suc n) [] = omega arith
take_few (suc n) (b ∷ l) = let rest = take_few n l in omega (arith, rest)

between_few : (from to : ℕ) (l : List ℕ) → length (between from to l) ≤ to - from
between_few from to l = take_few (to - from) (drop from l)

module _ (bytes : List ℕ) (i : ℕ) (leaf : is_on 0 bytes ≡ true) (there : has_cell bytes i ≡ true) where
  record AreSound : Type 0 where
    pub long : length bytes < 65536
    pub counted : 4 + 2 * count_in bytes ≤ length bytes
    pub begins : place_of bytes 0 ≡ 4
    pub inside : i < count_in bytes
    pub above : 4 ≤ place_of bytes i
    pub below : place_of bytes (suc i) ≤ places_at bytes
    pub keyed : 2 ≤ place_of bytes (suc i) - place_of bytes i

  sound : AreSound
  sound =
      let n : ℕ = count_in bytes in
      let on = both_true (opens bytes) (level_in bytes == 0) leaf in
      let one = both_true (nat_le 4 (length bytes)) _ on.0 in
      let two = both_true (nat_lt (length bytes) 65536) _ one.1 in
      let three = both_true (slice_index bytes 0 == 5) _ two.1 in
      let four = both_true (nat_le (4 + 2 * n) (length bytes)) (place_of bytes 0 == 4) three.1 in
      let first = both_true (nat_lt i n) _ there in
      let second = both_true (nat_le 4 (place_of bytes i)) _ first.1 in
      let third = both_true (nat_le (place_of bytes (suc i)) (places_at bytes)) (has_key (cell_bytes bytes i)) second.1 in
      let key = leb-true (2 + little_number 2 (cell_bytes bytes i)) (length (cell_bytes bytes i)) third.1 in
      let few = between_few (place_of bytes i) (place_of bytes (suc i)) bytes in
      record {
        long = ltb-true (length bytes) 65536 two.0;
        counted = leb-true (4 + 2 * n) (length bytes) four.0;
        begins = eqb-true (place_of bytes 0) 4 four.1;
        inside = ltb-true i n first.0;
        above = leb-true 4 (place_of bytes i) second.0;
        below = leb-true (place_of bytes (suc i)) (places_at bytes) third.0;
        keyed = omega (arith, key, few);
      }

  -- the page without the cell
  abbrev left : Layout
  left = record { level = 0; front = part_of bytes 0 i; new = []; back = part_of bytes (i + 1) (count_in bytes) }

  left_fits : size left ≤ length bytes
  left_fits =
      let n : ℕ = count_in bytes in
      let front = between_few (place_of bytes 0) (place_of bytes i) bytes in
      let back = between_few (place_of bytes (i + 1)) (place_of bytes n) bytes in
      let front_places = numbers_few (between (2 * 0) (2 * i) (places_in bytes)) in
      let front_bytes = between_few (2 * 0) (2 * i) (places_in bytes) in
      let back_places = numbers_few (between (2 * (i + 1)) (2 * n) (places_in bytes)) in
      let back_bytes = between_few (2 * (i + 1)) (2 * n) (places_in bytes) in
      let next : place_of bytes (i + 1) ≡ place_of bytes (suc i) = ap (place_of bytes) (omega arith) in
      let end : place_of bytes n ≡ length bytes - 2 * n = cond-false (nat_lt n n) (little_number 2 (drop (2 * n) (places_in bytes))) (places_at bytes) (le-ltb n n (omega arith)) in
      let begins = sound.begins in
      let above = sound.above in
      let below = sound.below in
      let keyed = sound.keyed in
      let inside = sound.inside in
      let counted = sound.counted in
      omega (arith, front, back, front_places, front_bytes, back_places, back_bytes, next, end, begins, above, below, keyed, inside, counted)

  made_is : delete_made i bytes ≡ Ok (Some left)
  made_is =
      cond-true (is_on 0 bytes) (delete_in i bytes) (Err NotNode) leaf
      ∙ cond-true (has_cell bytes i) (Ok (Some left)) (Err BadPlace) there

  pub check_is : (cap : ℕ) → length bytes ≤ cap → result_err (where_short cap (delete_made i bytes)) ≡ None
  check_is cap fits =
      let size_fits = left_fits in
      let long = sound.long in
      let short : IsTrue (is_short cap left) =
      true_both (nat_le (size left) cap) (nat_lt (size left) 65536) (le-leb (size left) cap (omega (arith, size_fits, fits))) (lt-ltb (size left) 65536 (omega (arith, size_fits, long))) in
      ap (λ (m : Made). result_err (where_short cap m)) made_is
      ∙ ap result_err (cond-true (is_short cap left) (Ok (Some left)) (Err TooLarge) short)

  pub place_few : i < 65536
  place_few =
      let inside = sound.inside in
      let counted = sound.counted in
      let long = sound.long in
      omega (arith, inside, counted, long)

-- an empty root has no cell
filled : (bytes : List ℕ) (i : ℕ) → has_cell (to_fill bytes) i ≡ true → to_fill bytes ≡ bytes
filled [] i there = absurd (omega (arith, ltb-true i 0 (both_true (nat_lt i 0) _ there).0))
filled (b ∷ bytes) i there = refl

pub value_is : (lo : ℕ) (s : State) (x i : ℕ) → has_cell (bytes_at lo s x) i ≡ true → bytes_at lo s x ≡ s x
value_is lo s x i there =
    elim (x == lo) as (λ t. has_cell (if t then to_fill (s x) else s x) i ≡ true → (if t then to_fill (s x) else s x) ≡ s x) [
      | true ↦ λ e. filled (s x) i e
      | false ↦ λ e. refl
    ] there

module _ (b : Bounds) (lo : ℕ) (s : State) (x i : ℕ) (key : List ℕ) where
  pub delete_accepted : b.more ≡ true → x < b.objects → x < 2 ^ 32 → length (s x) ≤ b.cap → is_on 0 (bytes_at lo s x) ≡ true → stands_at (bytes_at lo s x) i key ≡ true → Accepts (page_meaning b) s (Delete x i)
  delete_accepted more below small fits leaf stands =
      let there = (both_true (has_cell (bytes_at lo s x) i) (is_eq (byte_order (key_of (bytes_at lo s x) i) key)) stands).0 in
      let same = value_is lo s x i there in
      let page_fits : length (bytes_at lo s x) ≤ b.cap = subst (λ (l : List ℕ). length l ≤ b.cap) (sym same) fits in
      let check : result_err (where_short b.cap (delete_made i (s x))) ≡ None =
      ap (λ (l : List ℕ). result_err (where_short b.cap (delete_made i l))) (sym same) ∙ check_is (bytes_at lo s x) i leaf there b.cap page_fits in
      let code : IsTrue (fits_code (Delete x i)) = true_both (nat_lt x (256 ^ 4)) (nat_lt i (256 ^ 2)) (lt-ltb x (256 ^ 4) (omega (arith, small))) (lt-ltb i (256 ^ 2) (place_few (bytes_at lo s x) i leaf there)) in
      let shape : (page_meaning b).shape (Delete x i) ≡ None =
      ap (λ (t : Bool). if t then named b.objects (x ∷ []) (fits_code (Delete x i)) else Some NoPages) more
      ∙ named_by b.objects (x ∷ []) (fits_code (Delete x i)) (true_both (nat_lt x b.objects) true (lt-ltb x b.objects below) refl) refl code in
      ap (λ (o : Option Refusal). or_else o (result_err (where_short b.cap (delete_made i (s x))))) shape ∙ check
