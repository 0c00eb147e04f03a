-- When bytes begin with a record's code, by its kind.
use Rattle.std.proofs.Common.{◌≡◌, ◌≤◌, ◌<◌, ◌+◌, ◌^◌, ℕ, suc, List, [], ◌∷◌, ◌++◌, length, get_or, slice_index, take, drop, sym, ap, ◌∙◌, subst, arith, append_assoc, length-append, length-drop, take-append-drop}
use Rattle.std.proofs.lemmas.List.{drop_at, drop-drop, get_or-drop, length-take-le}
use Rattle.byteorder.specs.Endian.{little_bytes, little_number}
use Rattle.byteorder.specs.Numbers.{length-bytes_low_first, little_number-reads_back}
use Rattle.oper_core.specs.LittleEndian.{little_bytes-front}
use Rattle.oper_core.specs.Meaning.{Meaning, StartsWithCode, IsSmall, HasBounds}
use Rattle.oper_core.specs.declared.bounds.Bounds.{Bounds}
use Rattle.dirty_page_table.specs.Codec.{StartsWithTable}
use Rattle.dirty_page_table.specs.declared.table.DirtyPageTable.{DirtyPageTable}
use Rattle.formats.specs.declared.record.Record.{Record}
use Rattle.formats.specs.declared.record.Record.TheVariants.{Command, Identity, Checkpoint}
use Rattle.formats.specs.Records.{record_code}
use Rattle.log_records.specs.Codec.{StartsWithRecord}
use Rattle.log_records.specs.CodecLaws.{identity_fields}

-- the kind, the LSN that is read, and the code after it
pub begins : (bytes code rest : List ℕ) → ((i : ℕ) → slice_index bytes i < 256) → 9 ≤ length bytes → slice_index bytes 0 ≡ 1
    → drop 9 bytes ≡ code ++ rest → bytes ≡ (1 ∷ (little_bytes 8 (little_number 8 (drop 1 bytes)) ++ code)) ++ rest
begins [] code rest small long kind behind = absurd (omega arith)
begins (first ∷ bytes) code rest small long kind behind =
    let lsn = little_bytes 8 (little_number 8 bytes) in
    ap (λ (x : ℕ). x ∷ bytes) kind
    ∙ ap (λ (xs : List ℕ). 1 ∷ xs) (little_bytes-front 8 bytes (omega arith) (λ i. small (suc i)) ∙ ap (λ (xs : List ℕ). lsn ++ xs) behind ∙ sym (append_assoc lsn code rest))

-- five parts that were written one after the other
pub five_parts : (old one two three four all a b c d : List ℕ) (kind : ℕ) → one ≡ old ++ kind ∷ [] → two ≡ one ++ a → three ≡ two ++ b → four ≡ three ++ c → all ≡ four ++ d
    → all ≡ old ++ (kind ∷ (a ++ (b ++ (c ++ d))))
five_parts old one two three four all a b c d kind first second third fourth fifth =
    fifth ∙ ap (λ (l : List ℕ). l ++ d) (fourth ∙ ap (λ (l : List ℕ). l ++ c) (third ∙ ap (λ (l : List ℕ). l ++ b) (second ∙ ap (λ (l : List ℕ). l ++ a) first)))
    ∙ append_assoc (((old ++ kind ∷ []) ++ a) ++ b) c d ∙ append_assoc ((old ++ kind ∷ []) ++ a) b (c ++ d)
    ∙ append_assoc (old ++ kind ∷ []) a (b ++ (c ++ d)) ∙ append_assoc old (kind ∷ []) (a ++ (b ++ (c ++ d)))

module _ {O : Type 0} (m : Meaning O) (bytes : List ℕ) where
  -- no record where no operation follows the LSN
  pub no_command : slice_index bytes 0 ≡ 1 → ((lsn : ℕ) (op : O) → StartsWithRecord m bytes (Command lsn op) → ⊥) → (other : Record O) → StartsWithRecord m bytes other → ⊥
  no_command first none (Command lsn op) it = none lsn op it
  no_command first none (Identity lsn x value) it = omega (arith, ap (λ (l : List ℕ). get_or l 0 0) it.split, first)
  no_command first none (Checkpoint table) it = omega (arith, ap (λ (l : List ℕ). get_or l 0 0) it.split, first)

  pub no_operation : ((op : O) → StartsWithCode m (drop 9 bytes) op → ⊥) → (lsn : ℕ) (op : O) → StartsWithRecord m bytes (Command lsn op) → ⊥
  no_operation none lsn op it = none op (record { rest = it.rest; split = ap (drop 9) it.split; in_grammar = it.in_grammar.1 })

  -- none where no identity write does
  pub no_identity : slice_index bytes 0 ≡ 2 → ((lsn x : ℕ) (value : List ℕ) → StartsWithRecord m bytes (Identity lsn x value) → ⊥) → (other : Record O) → StartsWithRecord m bytes other → ⊥
  no_identity first none (Command lsn op) it = omega (arith, ap (λ (l : List ℕ). get_or l 0 0) it.split, first)
  no_identity first none (Identity lsn x value) it = none lsn x value it
  no_identity first none (Checkpoint table) it = omega (arith, ap (λ (l : List ℕ). get_or l 0 0) it.split, first)

  -- none where no table follows the kind
  pub no_checkpoint : slice_index bytes 0 ≡ 3 → ((table : DirtyPageTable) → StartsWithTable (drop 1 bytes) table → ⊥) → (other : Record O) → StartsWithRecord m bytes other → ⊥
  no_checkpoint first none (Command lsn op) it = omega (arith, ap (λ (l : List ℕ). get_or l 0 0) it.split, first)
  no_checkpoint first none (Identity lsn x value) it = omega (arith, ap (λ (l : List ℕ). get_or l 0 0) it.split, first)
  no_checkpoint first none (Checkpoint table) it = none table (record { rest = it.rest; split = ap (drop 1) it.split; in_grammar = it.in_grammar })

  -- none where the first byte is no kind
  pub no_kind : (slice_index bytes 0 ≡ 1 → ⊥) → (slice_index bytes 0 ≡ 2 → ⊥) → (slice_index bytes 0 ≡ 3 → ⊥) → (other : Record O) → StartsWithRecord m bytes other → ⊥
  no_kind one two three (Command lsn op) it = one (ap (λ (l : List ℕ). get_or l 0 0) it.split)
  no_kind one two three (Identity lsn x value) it = two (ap (λ (l : List ℕ). get_or l 0 0) it.split)
  no_kind one two three (Checkpoint table) it = three (ap (λ (l : List ℕ). get_or l 0 0) it.split)

  -- none in no bytes
  pub no_bytes : length bytes ≡ 0 → (other : Record O) → StartsWithRecord m bytes other → ⊥
  no_bytes none (Command lsn op) it = omega (arith, none, ap length it.split)
  no_bytes none (Identity lsn x value) it = omega (arith, none, ap length it.split)
  no_bytes none (Checkpoint table) it = omega (arith, none, ap length it.split)

  -- what the fields of an identity write are
  pub record IdentityFields (x : ℕ) (value : List ℕ) : Type 0 where
    pub object : little_number 4 (drop 9 bytes) ≡ x
    pub long : little_number 4 (drop 13 bytes) ≡ length value
    pub within : 17 + length value ≤ length bytes

  pub fields_of : (lsn x : ℕ) (value : List ℕ) → x < 2 ^ 32 → length value < 2 ^ 32 → StartsWithRecord m bytes (Identity lsn x value) → IdentityFields x value
  fields_of lsn x value small short it =
      let all : drop 1 bytes ≡ little_bytes 8 lsn ++ (little_bytes 4 x ++ (little_bytes 4 (length value) ++ (value ++ it.rest))) = ap (drop 1) it.split ∙ identity_fields lsn x value it.rest in
      let from_object : drop 9 bytes ≡ little_bytes 4 x ++ (little_bytes 4 (length value) ++ (value ++ it.rest)) =
      sym (drop-drop 8 1 bytes) ∙ ap (drop 8) all ∙ drop_at (little_bytes 8 lsn) (little_bytes 4 x ++ (little_bytes 4 (length value) ++ (value ++ it.rest))) 8 (length-bytes_low_first 0 8 lsn) in
      let from_length : drop 13 bytes ≡ little_bytes 4 (length value) ++ (value ++ it.rest) =
      sym (drop-drop 4 9 bytes) ∙ ap (drop 4) from_object ∙ drop_at (little_bytes 4 x) (little_bytes 4 (length value) ++ (value ++ it.rest)) 4 (length-bytes_low_first 0 4 x) in
      record {
        object = ap (little_number 4) from_object ∙ little_number-reads_back 4 x (little_bytes 4 (length value) ++ (value ++ it.rest)) (omega (arith, small));
        long = ap (little_number 4) from_length ∙ little_number-reads_back 4 (length value) (value ++ it.rest) (omega (arith, short));
        within = omega (
          arith,
          ap length it.split,
          length-append (little_bytes 8 lsn) (little_bytes 4 x ++ (little_bytes 4 (length value) ++ value)),
          length-append (little_bytes 8 lsn ++ (little_bytes 4 x ++ (little_bytes 4 (length value) ++ value))) it.rest,
          length-append (little_bytes 4 x) (little_bytes 4 (length value) ++ value),
          length-append (little_bytes 4 (length value)) value,
          length-bytes_low_first 0 8 lsn,
          length-bytes_low_first 0 4 x,
          length-bytes_low_first 0 4 (length value),
        );
      }

-- the kind, the three numbers that are read, and a value of that length after them
pub identity_begins : (bytes value rest : List ℕ) → ((i : ℕ) → slice_index bytes i < 256) → 17 ≤ length bytes → slice_index bytes 0 ≡ 2 → little_number 4 (drop 13 bytes) ≡ length value → drop 17 bytes ≡ value ++ rest
    → bytes ≡ (2 ∷ (little_bytes 8 (little_number 8 (drop 1 bytes)) ++ (little_bytes 4 (little_number 4 (drop 9 bytes)) ++ (little_bytes 4 (length value) ++ value)))) ++ rest
identity_begins [] value rest small long kind count behind = absurd (omega arith)
identity_begins (first ∷ bytes) value rest small long kind count behind =
    let at : (k i : ℕ) → slice_index (drop k bytes) i < 256 = λ k i. byte_small k bytes i (λ j. small (suc j)) in
    let n = little_number 8 bytes in
    let x = little_number 4 (drop 8 bytes) in
    let one : bytes ≡ little_bytes 8 n ++ drop 8 bytes = little_bytes-front 8 bytes (omega arith) (λ i. small (suc i)) in
    let two : drop 8 bytes ≡ little_bytes 4 x ++ drop 12 bytes = little_bytes-front 4 (drop 8 bytes) (omega (arith, length-drop 8 bytes)) (at 8) ∙ ap (λ (l : List ℕ). little_bytes 4 x ++ l) (drop-drop 4 8 bytes) in
    let three : drop 12 bytes ≡ little_bytes 4 (length value) ++ drop 16 bytes = little_bytes-front 4 (drop 12 bytes) (omega (arith, length-drop 12 bytes)) (at 12) ∙ ap (λ (k : ℕ). little_bytes 4 k ++ drop 4 (drop 12 bytes)) count
    ∙ ap (λ (l : List ℕ). little_bytes 4 (length value) ++ l) (drop-drop 4 12 bytes) in
    ap (λ (b : ℕ). b ∷ bytes) kind
    ∙ ap (λ (l : List ℕ). 2 ∷ l)
    (one ∙ ap (λ (l : List ℕ). little_bytes 8 n ++ l) (two ∙ ap (λ (l : List ℕ). little_bytes 4 x ++ l) (three ∙ ap (λ (l : List ℕ). little_bytes 4 (length value) ++ l) behind)) ∙ sym (identity_fields n x value rest))
  where
    byte_small : (k : ℕ) (l : List ℕ) (i : ℕ) → ((j : ℕ) → slice_index l j < 256) → slice_index (drop k l) i < 256
    byte_small k l i all = subst (λ (b : ℕ). b < 256) (sym (get_or-drop k l i 0)) (all (k + i))

module _ {O : Type 0} (m : Meaning O) (bytes : List ℕ) where
  -- no identity write where the object is not there, or the length is too great, or the value is not within the bytes
  pub no_fields : (b : Bounds) → IsSmall b → HasBounds b m → slice_index bytes 0 ≡ 2
      → ((little_number 4 (drop 9 bytes) < b.objects) × (little_number 4 (drop 13 bytes) ≤ b.cap) × (17 + little_number 4 (drop 13 bytes) ≤ length bytes) → ⊥)
      → (other : Record O) → StartsWithRecord m bytes other → ⊥
  no_fields b small bounds first none = no_identity m bytes first (λ lsn x value it.
      let good = it.in_grammar in
      let there : x < b.objects = omega (arith, good.1, bounds.objects) in
      let short : length value ≤ b.cap = omega (arith, good.2, bounds.cap) in
      let fields = fields_of m bytes lsn x value (omega (arith, there, small.objects)) (omega (arith, short, small.cap)) it in
      none (omega (arith, fields.object, there), omega (arith, fields.long, short), omega (arith, fields.long, fields.within)))

  -- none in less bytes than its head has
  pub no_head : length bytes < 17 → slice_index bytes 0 ≡ 2 → (other : Record O) → StartsWithRecord m bytes other → ⊥
  no_head few first = no_identity m bytes first (λ lsn x value it. omega (arith, few, ap length it.split))

  -- the identity write that was read
  pub identity_read : (value : List ℕ) (lsn x n : ℕ) → ((i : ℕ) → slice_index bytes i < 256) → slice_index bytes 0 ≡ 2 → 17 + n ≤ length bytes
      → lsn ≡ little_number 8 (drop 1 bytes) → x ≡ little_number 4 (drop 9 bytes) → n ≡ little_number 4 (drop 13 bytes) → value ≡ take n (drop 17 bytes)
      → lsn < 2 ^ 64 → x < m.objects → n ≤ m.cap → StartsWithRecord m bytes (Identity lsn x value) × (17 + n ≡ length (record_code m (Identity lsn x value)))
  identity_read value lsn x n small first within lsn_is x_is n_is value_is low there short =
      let behind = drop 17 bytes in
      let size : length value ≡ n = ap length value_is ∙ length-take-le n behind (omega (arith, within, length-drop 17 bytes)) in
      let split : behind ≡ value ++ drop n behind = sym (take-append-drop n behind) ∙ ap (λ (l : List ℕ). l ++ drop n behind) (sym value_is) in
      let code : ℕ → ℕ → List ℕ = λ k y. 2 ∷ (little_bytes 8 k ++ (little_bytes 4 y ++ (little_bytes 4 (length value) ++ value))) in (
        record {
          rest = drop n behind;
          split = identity_begins bytes value (drop n behind) small (omega (arith, within)) first (sym (size ∙ n_is)) split
              ∙ ap (λ (k : ℕ). code k (little_number 4 (drop 9 bytes)) ++ drop n behind) (sym lsn_is)
              ∙ ap (λ (y : ℕ). code lsn y ++ drop n behind) (sym x_is);
          in_grammar = (low, there, omega (arith, size, short));
        },
        omega (arith, size),
      )
