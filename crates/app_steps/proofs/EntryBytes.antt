-- Entries of nodes and buckets that consist of bytes.
use Rattle.std.proofs.Common.{◌<◌, ◌≤◌, ℕ, suc, Bool, true, false, cond, Result, Ok, Err, List, [], ◌∷◌, ◌++◌, All, length, filter, arith}
use Rattle.std.specs.Prelude.{IfOk, nat_le}
use Rattle.std.specs.FinMap.Entries.{by_order, put}
use Rattle.std.proofs.Common.{Equal, Greater, Less}
use Rattle.std.proofs.lemmas.List.Elements.{All-filter}
use Rattle.oper_core.specs.declared.refusal.Refusal.{Refusal}
use Rattle.oper_core.specs.declared.refusal.Refusal.TheVariants.{TooLarge}
use Rattle.byteorder.specs.Endian.{little_bytes}
use Rattle.key_entries.specs.Codes.{put_code}
use Rattle.key_entries.specs.Entries.{Field, byte_order, entries_code, entry_code, short_field}
use Rattle.key_entries.specs.Objects.{values_of, where_roomy}
use Rattle.key_entries.specs.PairLaws.{all_put, fewer}
use Rattle.key_entries.specs.Short.{short_code}
use Rattle.app_program.specs.OneCode.{AreBytes}
use Rattle.app_steps.proofs.ByteLists.{bytes_append, bytes_back, bytes_cons, bytes_front, empty_values, flat_bytes, number_bytes}

-- the code of an entry consists of bytes
abbrev pub IsEntry : {X : Type 0} → Field X → List ℕ × X → Type 0
IsEntry field e = AreBytes (entry_code field e)

-- at most so many entries, each with a code of bytes
pub record AreSome {X : Type 0} (most : ℕ) (field : Field X) (es : List (List ℕ × X)) : Type 0 where
  pub few : length es ≤ most
  pub each : All (IsEntry field) es

pub wider : {X : Type 0} (field : Field X) (es : List (List ℕ × X)) → AreSome 7 field es → AreSome 8 field es
wider field es are = record { few = omega (arith, are.few); each = are.each }

put_one : (key value : List ℕ) (es : List (List ℕ × List ℕ)) → length (put byte_order key value es) ≤ suc (length es)
put_one key value [] = omega arith
put_one key value (e ∷ es) =
    let rest = put_one key value es in
    elim (byte_order key e.0) as (λ o. length (by_order o ((key, value) ∷ e ∷ es) ((e.0, value) ∷ es) (e ∷ put byte_order key value es)) ≤ suc (suc (length es))) [
      | Less ↦ omega arith
      | Equal ↦ omega arith
      | Greater ↦ omega (arith, rest)
    ]

pub pairs_put : (key value : List ℕ) (pairs : List (List ℕ × List ℕ)) → IsEntry short_field (key, value) → AreSome 7 short_field pairs → AreSome 8 short_field (put byte_order key value pairs)
pairs_put key value pairs new are = record {
  few = omega (arith, put_one key value pairs, are.few);
  each = all_put (IsEntry short_field) key value new
      (λ e old. bytes_append (short_code e.0) (short_code value) (bytes_front (short_code e.0) (short_code e.1) old) (bytes_back (short_code key) (short_code value) new))
      pairs are.each;
}

pub pairs_kept : (test : List ℕ × List ℕ → Bool) (pairs : List (List ℕ × List ℕ)) → AreSome 7 short_field pairs → AreSome 8 short_field (filter test pairs)
pairs_kept test pairs are = record { few = omega (arith, fewer test pairs, are.few); each = All-filter test (IsEntry short_field) pairs are.each }

pub entries_bytes : {X : Type 0} (field : Field X) (es : List (List ℕ × X)) → AreSome 8 field es → AreBytes (entries_code field es)
entries_bytes field es are = flat_bytes (entry_code field) es are.each

-- what is made consists of bytes, or nothing is made
pub roomy_bytes : {M : Type 0} (bytes_of : M → List (List ℕ)) (AreMade : M → Type 0) → ((made : M) → AreMade made → All AreBytes (bytes_of made))
    → (objects : List ℕ) (cap : ℕ) (r : Result M Refusal) → IfOk r AreMade → All AreBytes (values_of bytes_of objects (where_roomy cap r))
roomy_bytes bytes_of AreMade each objects cap (Err cause) are = empty_values objects
roomy_bytes {M} bytes_of AreMade each objects cap (Ok made) are = by_test (nat_le 1024 cap) where
  by_test : (b : Bool) → All AreBytes (values_of bytes_of objects (cond b (Ok made) (Err TooLarge)))
  by_test true = each made are
  by_test false = empty_values objects

-- the code of a put of bytes
pub put_bytes : (tag object : ℕ) (key value : List ℕ) → tag < 256 → AreBytes (short_code key) → AreBytes (short_code value) → AreBytes (put_code tag object key value)
put_bytes tag object key value small one two =
    bytes_cons tag (little_bytes 4 object ++ (short_code key ++ short_code value)) small
    (bytes_append (little_bytes 4 object) (short_code key ++ short_code value) (number_bytes 4 object) (bytes_append (short_code key) (short_code value) one two))
