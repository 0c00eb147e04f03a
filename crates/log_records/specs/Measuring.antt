-- The lengths of a new log's blocks.
use Rattle.std.proofs.Common.{◌≡◌, ◌+◌, ◌<◌, ◌≤◌, ◌^◌, nat_lt, if◌then◌else◌, ℕ, List, [], ◌∷◌, ◌++◌, length, map, refl, sym, ap, ◌∙◌, arith, inl, inr}
use Rattle.std.proofs.lemmas.List.{append-nil}
use Rattle.std.proofs.lemmas.Bool.{cases_lt, cond-true, cond-false, lt-ltb, le-ltb}
use Rattle.oper_core.specs.Meaning.{Meaning}
use Rattle.formats.specs.Records.{record_code, payload_of}
use Rattle.formats.specs.declared.record.Record.{Record}
use Rattle.log_records.specs.RewriteLaws.{begins_next, block_length, goes_in}
use Rattle.log_records.specs.Rewriting.{blocks_behind, code_lengths}

-- the lengths of the payloads of blocks of records of these lengths, where the block in hand has so many bytes: a record goes
-- into the block of the one before it, where that then has at most 2^30 bytes, and else begins the next
abbrev pub block_lengths : ℕ → List ℕ → List ℕ
block_lengths filled [] = filled ∷ []
block_lengths filled (n ∷ lengths) = if nat_lt (2 ^ 30) (filled + n) then filled ∷ block_lengths n lengths else block_lengths (filled + n) lengths

-- a record that has room in the block in hand, and one that begins the next
pub has_room : (filled n : ℕ) (lengths : List ℕ) → filled + n ≤ 2 ^ 30 → block_lengths filled (n ∷ lengths) ≡ block_lengths (filled + n) lengths
has_room filled n lengths fits = cond-false (nat_lt (2 ^ 30) (filled + n)) _ _ (le-ltb (2 ^ 30) (filled + n) fits)

pub is_full : (filled n : ℕ) (lengths : List ℕ) → 2 ^ 30 < filled + n → block_lengths filled (n ∷ lengths) ≡ filled ∷ block_lengths n lengths
is_full filled n lengths over = cond-true (nat_lt (2 ^ 30) (filled + n)) _ _ (lt-ltb (2 ^ 30) (filled + n) over)

module _ {O : Type 0} (m : Meaning O) where
  abbrev pub lengths_of : List (List (Record O)) → List ℕ
  lengths_of groups = map (λ g. length (payload_of m g)) groups

  -- they are those of the blocks
  pub blocks_measured : (hand records : List (Record O)) → lengths_of (blocks_behind m hand records) ≡ block_lengths (length (payload_of m hand)) (code_lengths m records)
  blocks_measured hand [] = refl
  blocks_measured hand (r ∷ records) =
      let n = length (record_code m r) in
      let filled = length (payload_of m hand) in
      let rest = code_lengths m records in
      let long = block_length m hand r in
      elim (cases_lt (2 ^ 30) (filled + n)) [
        | inl over ↦
            let alone : length (payload_of m (r ∷ [])) ≡ n = ap length (append-nil (record_code m r)) in
            ap lengths_of (begins_next m hand records r (omega (arith, long, over)))
            ∙ ap (λ (l : List ℕ). filled ∷ l) (blocks_measured (r ∷ []) records ∙ ap (λ (k : ℕ). block_lengths k rest) alone)
            ∙ sym (is_full filled n rest over)
        | inr fits ↦
            ap lengths_of (goes_in m hand records r (omega (arith, long, fits)))
            ∙ blocks_measured (hand ++ r ∷ []) records ∙ ap (λ (k : ℕ). block_lengths k rest) long
            ∙ sym (has_room filled n rest fits)
      ]
