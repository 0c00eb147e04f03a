-- What the blocks of a new log hold, and how long they are.
use Rattle.std.proofs.Common.{◌≡◌, ◌+◌, ◌<◌, ◌≤◌, ◌^◌, ℕ, List, [], ◌∷◌, ◌++◌, length, map, refl, sym, ap, ◌∙◌, subst, arith, inl, inr, append_assoc, length-append}
use Rattle.std.proofs.lemmas.List.{append-nil}
use Rattle.std.proofs.lemmas.List.Concat.{flat_map-append}
use Rattle.std.proofs.lemmas.Bool.{cases_lt, cond-true, cond-false, le-leb, lt-leb, lt-ltb, le-ltb}
use Rattle.dirty_page_table.specs.declared.table.DirtyPageTable.{DirtyPageTable}
use Rattle.oper_core.specs.Meaning.{Meaning}
use Rattle.formats.specs.Log.{block, blocks, end_of}
use Rattle.formats.specs.Records.{record_code, payload_of, records_of}
use Rattle.formats.specs.declared.record.Record.{Record}
use Rattle.log_blocks.specs.Laws.{length-block}
use Rattle.log_records.specs.RecordLaws.{payload_push}
use Rattle.log_records.specs.Rewriting.{rewritten_records, blocks_behind, AreFull, blocks_length, code_lengths, new_payloads}

module _ {O : Type 0} (m : Meaning O) where
  -- the length of a block with one record more
  pub block_length : (hand : List (Record O)) (r : Record O) → length (payload_of m (hand ++ r ∷ [])) ≡ length (payload_of m hand) + length (record_code m r)
  block_length hand r = ap length (payload_push m hand r) ∙ length-append (payload_of m hand) (record_code m r)

  -- a record that goes into the block in hand
  pub goes_in : (hand records : List (Record O)) (r : Record O) → length (payload_of m (hand ++ r ∷ [])) ≤ 2 ^ 30 → blocks_behind m hand (r ∷ records) ≡ blocks_behind m (hand ++ r ∷ []) records
  goes_in hand records r fits = cond-true _ _ _ (le-leb (length (payload_of m (hand ++ r ∷ []))) (2 ^ 30) fits)

  -- one that begins the next
  pub begins_next : (hand records : List (Record O)) (r : Record O) → 2 ^ 30 < length (payload_of m (hand ++ r ∷ [])) → blocks_behind m hand (r ∷ records) ≡ hand ∷ blocks_behind m (r ∷ []) records
  begins_next hand records r over = cond-false _ _ _ (lt-leb (length (payload_of m (hand ++ r ∷ []))) (2 ^ 30) over)

  -- the blocks hold all records
  pub blocks_hold : (hand records : List (Record O)) → records_of (blocks_behind m hand records) ≡ hand ++ records
  blocks_hold hand [] = refl
  blocks_hold hand (r ∷ records) = elim (cases_lt (2 ^ 30) (length (payload_of m (hand ++ r ∷ [])))) [
    | inl over ↦ ap (λ (gs : List (List (Record O))). records_of gs) (begins_next hand records r over) ∙ ap (λ (l : List (Record O)). hand ++ l) (blocks_hold (r ∷ []) records)
    | inr fits ↦ ap (λ (gs : List (List (Record O))). records_of gs) (goes_in hand records r fits) ∙ blocks_hold (hand ++ r ∷ []) records ∙ append_assoc hand (r ∷ []) records
  ]

  -- the block in hand begins the first of them
  record Begins (r : Record O) (groups : List (List (Record O))) : Type 0 where
    behind : List (Record O)
    later : List (List (Record O))
    are : groups ≡ (r ∷ behind) ∷ later

  first_begins : (r : Record O) (hand records : List (Record O)) → Begins r (blocks_behind m (r ∷ hand) records)
  first_begins r hand [] = record { behind = hand; later = []; are = refl }
  first_begins r hand (s ∷ records) = elim (cases_lt (2 ^ 30) (length (payload_of m ((r ∷ hand) ++ s ∷ [])))) [
    | inl over ↦ record { behind = hand; later = blocks_behind m (s ∷ []) records; are = begins_next (r ∷ hand) records s over }
    | inr fits ↦
        let rest = first_begins r (hand ++ s ∷ []) records in
        record { behind = rest.behind; later = rest.later; are = goes_in (r ∷ hand) records s fits ∙ rest.are }
  ]

  -- they are as full as whole records allow
  pub blocks_full : (hand records : List (Record O)) → AreFull m (blocks_behind m hand records)
  blocks_full hand [] = tt
  blocks_full hand (r ∷ records) = elim (cases_lt (2 ^ 30) (length (payload_of m (hand ++ r ∷ [])))) [
    | inl over ↦
        let first = first_begins r [] records in
        let rest = subst (λ (gs : List (List (Record O))). AreFull m gs) first.are (blocks_full (r ∷ []) records) in
        subst (λ (gs : List (List (Record O))). AreFull m gs) (sym (begins_next hand records r over ∙ ap (λ (gs : List (List (Record O))). hand ∷ gs) first.are))
        (omega (arith, over, block_length hand r), rest)
    | inr fits ↦ subst (λ (gs : List (List (Record O))). AreFull m gs) (sym (goes_in hand records r fits)) (blocks_full (hand ++ r ∷ []) records)
  ]

  -- records that have room in one block are one block
  pub one_block : (hand records : List (Record O)) → length (payload_of m (hand ++ records)) ≤ 2 ^ 30 → blocks_behind m hand records ≡ (hand ++ records) ∷ []
  one_block hand [] fits = ap (λ (l : List (Record O)). l ∷ []) (sym (append-nil hand))
  one_block hand (r ∷ records) fits =
      let all : (hand ++ r ∷ []) ++ records ≡ hand ++ r ∷ records = append_assoc hand (r ∷ []) records in
      let long = ap length (flat_map-append (record_code m) (hand ++ r ∷ []) records) ∙ length-append (payload_of m (hand ++ r ∷ [])) (payload_of m records) in
      let same = ap (λ (l : List (Record O)). length (payload_of m l)) all in
      goes_in hand records r (omega (arith, long, same, fits)) ∙ one_block (hand ++ r ∷ []) records (omega (arith, same, fits)) ∙ ap (λ (l : List (Record O)). l ∷ []) all

  -- how long the blocks are: a head of five bytes stands before each
  pub blocks_long : (hand records : List (Record O)) → length (blocks (map (payload_of m) (blocks_behind m hand records))) ≡ 5 + length (payload_of m hand) + blocks_length (length (payload_of m hand)) (code_lengths m records)
  blocks_long hand [] = ap length (append-nil (block (payload_of m hand))) ∙ length-block (payload_of m hand) ∙ omega arith
  blocks_long hand (r ∷ records) =
      let n = length (record_code m r) in
      let filled = length (payload_of m hand) in
      let long = block_length hand r in
      let rest = code_lengths m records in
      let of_blocks : List (List (Record O)) → ℕ = λ gs. length (blocks (map (payload_of m) gs)) in
      elim (cases_lt (2 ^ 30) (filled + n)) [
        | inl over ↦
            let split = ap of_blocks (begins_next hand records r (omega (arith, long, over))) in
            let first = length-append (block (payload_of m hand)) (blocks (map (payload_of m) (blocks_behind m (r ∷ []) records))) in
            let alone = ap length (append-nil (record_code m r)) in
            let behind = blocks_long (r ∷ []) records ∙ ap (λ (k : ℕ). 5 + k + blocks_length k rest) alone in
            let counted : blocks_length filled (n ∷ rest) ≡ 5 + n + blocks_length n rest = cond-true _ _ _ (lt-ltb (2 ^ 30) (filled + n) over) in
            omega (arith, split, first, length-block (payload_of m hand), behind, counted)
        | inr fits ↦
            let split = ap of_blocks (goes_in hand records r (omega (arith, long, fits))) in
            let behind = blocks_long (hand ++ r ∷ []) records ∙ ap (λ (k : ℕ). 5 + k + blocks_length k rest) long in
            let counted : blocks_length filled (n ∷ rest) ≡ n + blocks_length (filled + n) rest = cond-false _ _ _ (le-ltb (2 ^ 30) (filled + n) fits) in
            omega (arith, split, behind, counted)
      ]

  -- where the new log ends: after its header and the first block's head
  pub new_end : (base : ℕ) (table : DirtyPageTable) (stable : List (Record O)) → end_of (new_payloads m base table stable) ≡ 38 + blocks_length 0 (code_lengths m (rewritten_records base table stable))
  new_end base table stable = let long = blocks_long [] (rewritten_records base table stable) in omega (arith, long)
