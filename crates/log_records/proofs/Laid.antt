-- Records have room in the blocks that were measured, and are then laid as the new log's payloads are.
use Rattle.std.proofs.Common.{◌≡◌, ◌+◌, ◌*◌, ◌-◌, ◌<◌, ◌≤◌, ◌^◌, ℕ, zero, suc, List, [], ◌∷◌, ◌++◌, length, drop, drop-cons, get_or, slice_index, map, refl, sym, ap, ◌∙◌, subst, arith, inl, inr, append_assoc, length-append}
use Rattle.std.specs.Prelude.{All}
use Rattle.std.proofs.lemmas.Bool.{cases_lt}
use Rattle.std.proofs.lemmas.List.{append-nil, length-map}
use Rattle.std.proofs.lemmas.List.Elements.{All-cons, All-head, All-nil, All-tail}
use Rattle.byteorder.specs.Endian.{little_bytes}
use Rattle.oper_core.specs.Meaning.{Meaning}
use Rattle.formats.specs.Log.{block, blocks, IsPayload}
use Rattle.formats.specs.Records.{record_code, payload_of}
use Rattle.formats.specs.declared.record.Record.{Record}
use Rattle.formats.specs.declared.record.Record.TheVariants.{Command, Identity, Checkpoint}
use Rattle.log_blocks.specs.Laws.{length-block}
use Rattle.log_records.specs.Codec.{AreShort}
use Rattle.log_records.specs.Laying.{Fits, codes_of, laid, room_of}
use Rattle.log_records.specs.Measuring.{block_lengths, blocks_measured, has_room, is_full, lengths_of}
use Rattle.log_records.specs.RecordLaws.{payload_push}
use Rattle.log_records.specs.RewriteLaws.{begins_next, block_length, goes_in}
use Rattle.log_records.specs.Rewriting.{blocks_behind, code_lengths, in_full_blocks}

-- a code that goes into the block in hand
pub laid_behind : (left : ℕ) (lengths : List ℕ) (code : List ℕ) (codes : List (List ℕ)) → 0 < left → laid left lengths (code ∷ codes) ≡ code ++ laid (left - length code) lengths codes
laid_behind zero lengths code codes some = absurd (omega (arith, some))
laid_behind (suc left) lengths code codes some = refl

pub fits_behind : (left : ℕ) (lengths : List ℕ) (code : List ℕ) (codes : List (List ℕ)) → 0 < left → Fits left lengths (code ∷ codes) → (length code ≤ left) × Fits (left - length code) lengths codes
fits_behind zero lengths code codes some fits = absurd (omega (arith, some))
fits_behind (suc left) lengths code codes some fits = fits

behind_fits : (left : ℕ) (lengths : List ℕ) (code : List ℕ) (codes : List (List ℕ)) → 0 < left → length code ≤ left → Fits (left - length code) lengths codes → Fits left lengths (code ∷ codes)
behind_fits zero lengths code codes some within fits = absurd (omega (arith, some))
behind_fits (suc left) lengths code codes some within fits = (within, fits)

-- one that begins the next block
pub laid_first : (left n : ℕ) (lengths : List ℕ) (code : List ℕ) (codes : List (List ℕ)) → left ≡ 0 → laid left (n ∷ lengths) (code ∷ codes) ≡ 1 ∷ (little_bytes 4 n ++ (code ++ laid (n - length code) lengths codes))
laid_first zero n lengths code codes none = refl
laid_first (suc left) n lengths code codes none = absurd (omega (arith, none))

pub fits_first : (left n : ℕ) (lengths : List ℕ) (code : List ℕ) (codes : List (List ℕ)) → left ≡ 0 → Fits left (n ∷ lengths) (code ∷ codes) → (length code ≤ n) × Fits (n - length code) lengths codes
fits_first zero n lengths code codes none fits = fits
fits_first (suc left) n lengths code codes none fits = absurd (omega (arith, none))

first_fits : (left n : ℕ) (lengths : List ℕ) (code : List ℕ) (codes : List (List ℕ)) → left ≡ 0 → length code ≤ n → Fits (n - length code) lengths codes → Fits left (n ∷ lengths) (code ∷ codes)
first_fits zero n lengths code codes none within fits = (within, fits)
first_fits (suc left) n lengths code codes none within fits = absurd (omega (arith, none))

-- the LSNs from an index on: the one that stands there, and then those after it
pub drop_one : (xs : List ℕ) (i x : ℕ) → i < length xs → x ≡ get_or xs i x → drop i xs ≡ x ∷ drop (i + 1) xs
drop_one xs i x within here =
    let more : suc i ≡ i + 1 = omega arith in
    drop-cons xs i x within ∙ ap (λ (y : ℕ). y ∷ drop (suc i) xs) (sym here) ∙ ap (λ (k : ℕ). x ∷ drop k xs) more

pub drop_next : (xs : List ℕ) (i : ℕ) → i < length xs → drop i xs ≡ slice_index xs i ∷ drop (i + 1) xs
drop_next xs i within =
    let more : suc i ≡ i + 1 = omega arith in
    drop-cons xs i 0 within ∙ ap (λ (k : ℕ). slice_index xs i ∷ drop k xs) more

module _ {O : Type 0} (m : Meaning O) where
  pub code_some : (r : Record O) → 0 < length (record_code m r)
  code_some (Command lsn op) = omega arith
  code_some (Identity lsn x value) = omega arith
  code_some (Checkpoint table) = omega arith

  -- with the block in hand begun by some records, the others have room behind them, and all are laid as the blocks are
  record IsBegun (hand records : List (Record O)) : Type 0 where
    n : ℕ
    lengths : List ℕ
    lengths_are : block_lengths (length (payload_of m hand)) (code_lengths m records) ≡ n ∷ lengths
    within : length (payload_of m hand) ≤ n
    fits : Fits (n - length (payload_of m hand)) lengths (codes_of m records)
    laid_are : blocks (map (payload_of m) (blocks_behind m hand records)) ≡ (1 ∷ (little_bytes 4 n ++ payload_of m hand)) ++ laid (n - length (payload_of m hand)) lengths (codes_of m records)

  begun : (hand records : List (Record O)) → IsBegun hand records
  begun hand [] =
      let filled = length (payload_of m hand) in
      record { n = filled; lengths = []; lengths_are = refl; within = omega arith; fits = (omega arith, refl); laid_are = refl }
  begun hand (r ∷ records) =
      let code = record_code m r in
      let codes = codes_of m records in
      let filled = length (payload_of m hand) in
      let rest = code_lengths m records in
      let long = block_length m hand r in
      elim (cases_lt (2 ^ 30) (filled + length code)) [
        | inl over ↦
            let next = begun (r ∷ []) records in
            let alone : payload_of m (r ∷ []) ≡ code = append-nil code in
            let none : filled - filled ≡ 0 = omega arith in
            let fits_next : Fits (next.n - length code) next.lengths codes = subst (λ (l : List ℕ). Fits (next.n - length l) next.lengths codes) alone next.fits in
            let first : blocks (map (payload_of m) (blocks_behind m (r ∷ []) records)) ≡ 1 ∷ (little_bytes 4 next.n ++ (code ++ laid (next.n - length code) next.lengths codes)) =
            next.laid_are ∙ ap (λ (l : List ℕ). (1 ∷ (little_bytes 4 next.n ++ l)) ++ laid (next.n - length l) next.lengths codes) alone
            ∙ ap (λ (l : List ℕ). 1 ∷ l) (append_assoc (little_bytes 4 next.n) code (laid (next.n - length code) next.lengths codes)) in
            record {
              n = filled;
              lengths = next.n ∷ next.lengths;
              lengths_are = is_full filled (length code) rest over ∙ ap (λ (l : List ℕ). filled ∷ l) (ap (λ (l : List ℕ). block_lengths (length l) rest) (sym alone) ∙ next.lengths_are);
              within = omega arith;
              fits = first_fits (filled - filled) next.n next.lengths code codes none (omega (arith, next.within, ap length alone)) fits_next;
              laid_are = ap (λ (gs : List (List (Record O))). blocks (map (payload_of m) gs)) (begins_next m hand records r (omega (arith, long, over)))
                  ∙ ap (λ (l : List ℕ). block (payload_of m hand) ++ l) (first ∙ sym (laid_first (filled - filled) next.n next.lengths code codes none));
            }
        | inr within ↦
            let next = begun (hand ++ r ∷ []) records in
            let some : 0 < next.n - filled = omega (arith, next.within, long, code_some r) in
            let left : next.n - length (payload_of m (hand ++ r ∷ [])) ≡ (next.n - filled) - length code = omega (arith, long) in
            let head : List ℕ = 1 ∷ little_bytes 4 next.n in
            record {
              n = next.n;
              lengths = next.lengths;
              lengths_are = has_room filled (length code) rest within ∙ ap (λ (k : ℕ). block_lengths k rest) (sym long) ∙ next.lengths_are;
              within = omega (arith, next.within, long);
              fits = behind_fits (next.n - filled) next.lengths code codes some (omega (arith, next.within, long)) (subst (λ (k : ℕ). Fits k next.lengths codes) left next.fits);
              laid_are = ap (λ (gs : List (List (Record O))). blocks (map (payload_of m) gs)) (goes_in m hand records r (omega (arith, long, within)))
                  ∙ next.laid_are
                  ∙ (λ i. (head ++ payload_push m hand r i) ++ laid (left i) next.lengths codes)
                  ∙ ap (λ (l : List ℕ). l ++ laid ((next.n - filled) - length code) next.lengths codes) (sym (append_assoc head (payload_of m hand) code))
                  ∙ append_assoc (head ++ payload_of m hand) code (laid ((next.n - filled) - length code) next.lengths codes)
                  ∙ ap (λ (l : List ℕ). (head ++ payload_of m hand) ++ l) (sym (laid_behind (next.n - filled) next.lengths code codes some));
            }
      ]

  -- records that go into blocks have room in blocks of the lengths that were measured, and are laid as the payloads are
  pub record AreLaid (records : List (Record O)) : Type 0 where
    pub fits : Fits 0 (block_lengths 0 (code_lengths m records)) (codes_of m records)
    pub laid_are : laid 0 (block_lengths 0 (code_lengths m records)) (codes_of m records) ≡ blocks (map (payload_of m) (in_full_blocks m records))

  pub are_laid : (records : List (Record O)) → 0 < length records → AreShort m records → AreLaid records
  are_laid [] some short = absurd (omega (arith, some))
  are_laid (r ∷ records) some short =
      let code = record_code m r in
      let codes = codes_of m records in
      let rest = code_lengths m records in
      let one = All-head (λ x. length (record_code m x) ≤ 2 ^ 30) r records short in
      let next = begun (r ∷ []) records in
      let alone : payload_of m (r ∷ []) ≡ code = append-nil code in
      let first : 0 + length code ≡ length (payload_of m (r ∷ [])) = omega (arith, ap length alone) in
      let lengths : block_lengths 0 (length code ∷ rest) ≡ next.n ∷ next.lengths = has_room 0 (length code) rest (omega (arith, one)) ∙ ap (λ (k : ℕ). block_lengths k rest) first ∙ next.lengths_are in
      let fits_next : Fits (next.n - length code) next.lengths codes = subst (λ (l : List ℕ). Fits (next.n - length l) next.lengths codes) alone next.fits in
      record {
        fits = subst (λ (l : List ℕ). Fits 0 l (code ∷ codes)) (sym lengths) (omega (arith, next.within, ap length alone), fits_next);
        laid_are = ap (λ (l : List ℕ). laid 0 l (code ∷ codes)) lengths
            ∙ sym (ap (λ (gs : List (List (Record O))). blocks (map (payload_of m) gs)) (goes_in m [] records r (omega (arith, ap length alone, one)))
            ∙ next.laid_are ∙ ap (λ (l : List ℕ). (1 ∷ (little_bytes 4 next.n ++ l)) ++ laid (next.n - length l) next.lengths codes) alone
            ∙ ap (λ (l : List ℕ). 1 ∷ l) (append_assoc (little_bytes 4 next.n) code (laid (next.n - length code) next.lengths codes)));
      }

  -- the bytes of blocks of these lengths
  pub room_blocks : (groups : List (List (Record O))) → room_of (lengths_of m groups) ≡ length (blocks (map (payload_of m) groups))
  room_blocks [] = refl
  room_blocks (g ∷ groups) =
      let rest = room_blocks groups in
      omega (arith, rest, length-append (block (payload_of m g)) (blocks (map (payload_of m) groups)), length-block (payload_of m g))

  pub room_measured : (records : List (Record O)) → room_of (block_lengths 0 (code_lengths m records)) ≡ length (blocks (map (payload_of m) (in_full_blocks m records)))
  room_measured records = ap room_of (sym (blocks_measured m [] records)) ∙ room_blocks (in_full_blocks m records)

  -- each of them is a payload
  whole_behind : (hand records : List (Record O)) → 0 < length (payload_of m hand) → length (payload_of m hand) ≤ 2 ^ 30 → AreShort m records → All IsPayload (map (payload_of m) (blocks_behind m hand records))
  whole_behind hand [] some short all = All-cons IsPayload (payload_of m hand) [] (record { some = some; short = short }) (All-nil IsPayload)
  whole_behind hand (r ∷ records) some short all =
      let one = All-head (λ x. length (record_code m x) ≤ 2 ^ 30) r records all in
      let rest = All-tail (λ x. length (record_code m x) ≤ 2 ^ 30) r records all in
      let long = block_length m hand r in
      let alone = ap length (append-nil (record_code m r)) in
      elim (cases_lt (2 ^ 30) (length (payload_of m hand) + length (record_code m r))) [
        | inl over ↦ subst (λ (gs : List (List (Record O))). All IsPayload (map (payload_of m) gs)) (sym (begins_next m hand records r (omega (arith, long, over))))
            (All-cons IsPayload (payload_of m hand) (map (payload_of m) (blocks_behind m (r ∷ []) records)) (record { some = some; short = short })
            (whole_behind (r ∷ []) records (omega (arith, alone, code_some r)) (omega (arith, alone, one)) rest))
        | inr fits ↦ subst (λ (gs : List (List (Record O))). All IsPayload (map (payload_of m) gs)) (sym (goes_in m hand records r (omega (arith, long, fits))))
            (whole_behind (hand ++ r ∷ []) records (omega (arith, long, some)) (omega (arith, long, fits)) rest)
      ]

  pub are_payloads : (records : List (Record O)) → 0 < length records → AreShort m records → All IsPayload (map (payload_of m) (in_full_blocks m records))
  are_payloads [] some short = absurd (omega (arith, some))
  are_payloads (r ∷ records) some short =
      let one = All-head (λ x. length (record_code m x) ≤ 2 ^ 30) r records short in
      let alone = ap length (append-nil (record_code m r)) in
      subst (λ (gs : List (List (Record O))). All IsPayload (map (payload_of m) gs)) (sym (goes_in m [] records r (omega (arith, alone, one))))
      (whole_behind (r ∷ []) records (omega (arith, alone, code_some r)) (omega (arith, alone, one)) (All-tail (λ x. length (record_code m x) ≤ 2 ^ 30) r records short))

  -- each block has 2^30 + 5 bytes at most
  blocks_bound : (ps : List (List ℕ)) → All IsPayload ps → length (blocks ps) ≤ length ps * (2 ^ 30 + 5)
  blocks_bound [] whole = omega arith
  blocks_bound (p ∷ ps) whole =
      let first = All-head IsPayload p ps whole in
      let rest = blocks_bound ps (All-tail IsPayload p ps whole) in
      omega (arith, first.short, rest, length-append (block p) (blocks ps), length-block p)

  -- so many blocks have a place in a file
  pub room_bound : (records : List (Record O)) → 0 < length records → AreShort m records → (lengths : List ℕ) → lengths ≡ block_lengths 0 (code_lengths m records) → length lengths ≤ 2 ^ 32 → 34 + room_of lengths < 2 ^ 63
  room_bound records some short lengths are few =
      let groups = in_full_blocks m records in
      let bound = blocks_bound (map (payload_of m) groups) (are_payloads records some short) in
      omega (arith, bound, ap room_of are, room_measured records, few, ap length are, ap length (blocks_measured m [] records), length-map groups (λ g. length (payload_of m g)), length-map groups (payload_of m))
