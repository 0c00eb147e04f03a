-- When bytes begin with pairs, and with a table.
use Rattle.std.proofs.Common.{◌≡◌, ℕ, zero, suc, ◌+◌, ◌*◌, ◌/◌, ◌<◌, ◌≤◌, List, [], ◌∷◌, ◌++◌, length, slice_index, drop, refl, sym, ap, ◌∙◌, arith, append_assoc, length-append}
use Rattle.std.specs.List.{flat_map}
use Rattle.std.proofs.lemmas.List.{drop-drop, get_or-drop, length-drop, flat_map_more}
use Rattle.std.proofs.lemmas.List.Elements.{All-cons, All-nil}
use Rattle.byteorder.specs.Endian.{little_bytes, little_number}
use Rattle.byteorder.specs.Numbers.{little_from-lt}
use Rattle.oper_core.specs.LittleEndian.{little_bytes-front, little_number-little_bytes}
use Rattle.dirty_page_table.specs.declared.table.DirtyPageTable.{DirtyPageTable}
use Rattle.dirty_page_table.specs.Codec.{start_code, FitsStart, IsReadFrom, StartsWithTable}
use Rattle.dirty_page_table.specs.CodecLaws.{length-starts, table_fields}

-- each item is a byte
abbrev pub AreBytes : List ℕ → Type 0
AreBytes bytes = (i : ℕ) → slice_index bytes i < 256

-- so are the items from a place on
pub drop-bytes : (n : ℕ) (bytes : List ℕ) → AreBytes bytes → AreBytes (drop n bytes)
drop-bytes n bytes small i = rw get_or-drop (small (n + i))

-- the pair in the first twelve bytes
abbrev pub start_in : List ℕ → ℕ × ℕ
start_in bytes = (little_number 4 bytes, little_number 8 (drop 4 bytes))

-- the bytes begin with its code
pub one_start : (bytes : List ℕ) → AreBytes bytes → 12 ≤ length bytes → bytes ≡ start_code (start_in bytes) ++ drop 12 bytes
one_start bytes small long =
    let object = little_bytes 4 (little_number 4 bytes) in
    little_bytes-front 4 bytes (omega arith) small
    ∙ ap (λ (xs : List ℕ). object ++ xs) (little_bytes-front 8 (drop 4 bytes) (omega (arith, length-drop 4 bytes)) (drop-bytes 4 bytes small) ∙ ap (λ (xs : List ℕ). little_bytes 8 (little_number 8 (drop 4 bytes)) ++ xs) (drop-drop 8 4 bytes))
    ∙ sym (append_assoc object (little_bytes 8 (little_number 8 (drop 4 bytes))) (drop 12 bytes))

-- its numbers have so many bytes
pub start_fits : (bytes : List ℕ) → AreBytes bytes → FitsStart (start_in bytes)
start_fits bytes small =
    let object = little_from-lt 0 4 bytes small in
    let number = little_from-lt 0 8 (drop 4 bytes) (drop-bytes 4 bytes small) in
    (omega arith, omega arith)

-- one pair more
pub one_more : (bytes rest behind : List ℕ) (starts : List (ℕ × ℕ)) (s : ℕ × ℕ) → bytes ≡ flat_map start_code starts ++ rest
    → rest ≡ start_code s ++ behind → bytes ≡ flat_map start_code (starts ++ s ∷ []) ++ behind
one_more bytes rest behind starts s split first =
    split ∙ ap (λ (xs : List ℕ). flat_map start_code starts ++ xs) first ∙ sym (append_assoc (flat_map start_code starts) (start_code s) behind)
    ∙ ap (λ (xs : List ℕ). xs ++ behind) (flat_map_more start_code [] starts s)

-- where there are bytes enough, so many pairs can be read
pub all_starts : (n : ℕ) (bytes : List ℕ) → AreBytes bytes → 12 * n ≤ length bytes → (starts : List (ℕ × ℕ)) × IsReadFrom bytes n starts
all_starts zero bytes small long = ([], record { count = refl; rest = bytes; split = refl; fit = All-nil FitsStart })
all_starts (suc n) bytes small long =
    let others = all_starts n (drop 12 bytes) (drop-bytes 12 bytes small) (omega (arith, length-drop 12 bytes)) in
    let it = others.1 in (
      start_in bytes ∷ others.0,
      record {
        count = omega (arith, it.count);
        rest = it.rest;
        split = one_start bytes small (omega arith) ∙ ap (λ (xs : List ℕ). start_code (start_in bytes) ++ xs) it.split
            ∙ sym (append_assoc (start_code (start_in bytes)) (flat_map start_code others.0) it.rest);
        fit = All-cons FitsStart (start_in bytes) others.0 (start_fits bytes small) it.fit;
      },
    )

-- the table of the next LSN and the pairs that are read
pub begins : (bytes : List ℕ) (table : DirtyPageTable) → AreBytes bytes → 12 ≤ length bytes → table.next ≡ little_number 8 bytes
    → IsReadFrom (drop 12 bytes) (little_number 4 (drop 8 bytes)) table.starts → StartsWithTable bytes table
begins bytes table small long next it =
    let number = little_from-lt 0 8 bytes small in
    let count = little_from-lt 0 4 (drop 8 bytes) (drop-bytes 8 bytes small) in
    let at_count : drop 8 bytes ≡ little_bytes 4 (length table.starts) ++ (flat_map start_code table.starts ++ it.rest) =
    little_bytes-front 4 (drop 8 bytes) (omega (arith, length-drop 8 bytes)) (drop-bytes 8 bytes small)
    ∙ ap (λ (n : ℕ). little_bytes 4 n ++ drop 4 (drop 8 bytes)) (sym it.count)
    ∙ ap (λ (xs : List ℕ). little_bytes 4 (length table.starts) ++ xs) (drop-drop 4 8 bytes ∙ it.split) in
    record {
      rest = it.rest;
      split = little_bytes-front 8 bytes (omega arith) small ∙ ap (λ (n : ℕ). little_bytes 8 n ++ drop 8 bytes) (sym next)
          ∙ ap (λ (xs : List ℕ). little_bytes 8 table.next ++ xs) at_count ∙ sym (table_fields table it.rest);
      in_grammar = record { next = omega (arith, next); few = omega (arith, it.count); starts = it.fit };
    }

-- fewer bytes than the count asks for are no table
pub no_table : (bytes : List ℕ) → length (drop 12 bytes) / 12 < little_number 4 (drop 8 bytes) → (table : DirtyPageTable) → StartsWithTable bytes table → ⊥
no_table bytes short table it =
    let few = it.in_grammar.few in
    let fields = it.split ∙ table_fields table it.rest in
    let pairs = flat_map start_code table.starts in
    let count : little_number 4 (drop 8 bytes) ≡ length table.starts =
    ap (λ (xs : List ℕ). little_number 4 (drop 8 xs)) fields ∙ little_number-little_bytes 4 (length table.starts) (pairs ++ it.rest) (omega arith) in
    let behind : length (drop 12 bytes) ≡ 12 * length table.starts + length it.rest =
    ap (λ (xs : List ℕ). length (drop 12 xs)) fields ∙ length-append pairs it.rest ∙ ap (λ (n : ℕ). n + length it.rest) (length-starts table.starts) in
    omega arith
