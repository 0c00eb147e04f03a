-- One record more is measured.
use Rattle.std.proofs.Common.{◌≡◌, ◌+◌, ◌*◌, ◌∙◌, ◌≤◌, ◌^◌, true, false, ℕ, List, [], ◌∷◌, ◌++◌, length, not, sym, ap, arith, append_assoc}
use Rattle.std.proofs.lemmas.Bool.{cond-true, cond-false}
use Rattle.std.proofs.lemmas.List.{append-nil, map-append}
use Rattle.std.proofs.lemmas.List.Elements.{filter-append}
use Rattle.dirty_page_table.specs.Codec.{table_code}
use Rattle.dirty_page_table.specs.CodecLaws.{length-table_code}
use Rattle.dirty_page_table.specs.declared.table.DirtyPageTable.{DirtyPageTable}
use Rattle.oper_core.specs.Meaning.{Meaning}
use Rattle.formats.specs.Records.{record_code, commands_of}
use Rattle.formats.specs.declared.record.Record.{Record}
use Rattle.formats.specs.declared.record.Record.TheVariants.{Checkpoint}
use Rattle.log_records.specs.Measured.{IsMeasured}
use Rattle.log_records.specs.Measuring.{block_lengths}
use Rattle.log_records.specs.RecordLaws.{count-append}
use Rattle.log_records.specs.RecordLog.{counts}
use Rattle.log_records.specs.Rewriting.{code_lengths, is_from_lsn, left_out, from_lsn, rewritten_records}
use Rattle.log_records.specs.declared.measured.Measured.{Measured}
use Rattle.log_records.proofs.Laid.{code_some}

module _ {O : Type 0} (m : Meaning O) (base : ℕ) (records : List (Record O)) (r : Record O) (old new : Measured) (was : IsMeasured m base records old) where
  abbrev all : List (Record O)
  all = records ++ r ∷ []

  abbrev n : ℕ
  n = length (record_code m r)

  -- one that goes into a block
  pub measured_kept : is_from_lsn base r ≡ true → new.commands ≡ old.commands → n ≤ new.filled → new.filled ≤ 2 ^ 30
      → ((rest : List ℕ) → old.full.items ++ block_lengths old.filled (n ∷ rest) ≡ new.full.items ++ block_lengths new.filled rest) → IsMeasured m base all new
  measured_kept is same some short counted =
      let out : left_out base all ≡ left_out base records = filter-append (λ x. not (is_from_lsn base x)) records (r ∷ []) ∙ ap (λ (l : List (Record O)). left_out base records ++ l) (cond-false _ _ _ (ap not is)) ∙ append-nil (left_out base records) in
      let kept : from_lsn base all ≡ from_lsn base records ++ r ∷ [] = filter-append (is_from_lsn base) records (r ∷ []) ∙ ap (λ (l : List (Record O)). from_lsn base records ++ l) (cond-true _ _ _ is) in
      let lengths : code_lengths m (from_lsn base all) ≡ code_lengths m (from_lsn base records) ++ n ∷ [] =
      ap (code_lengths m) kept ∙ map-append (λ x. length (record_code m x)) (from_lsn base records) (r ∷ []) in
      record {
        before = same ∙ was.before ∙ ap (λ (l : List (Record O)). length (commands_of l)) (sym out);
        short = short;
        none = λ empty. absurd (omega (arith, empty, some, code_some m r));
        blocks = λ rest. ap (λ (l : List ℕ). block_lengths 0 (l ++ rest)) lengths
            ∙ ap (block_lengths 0) (append_assoc (code_lengths m (from_lsn base records)) (n ∷ []) rest)
            ∙ was.blocks (n ∷ rest) ∙ counted rest;
      }

  -- one that is left out
  pub measured_passed : is_from_lsn base r ≡ false → new.commands ≡ old.commands + counts r → new.filled ≡ old.filled → new.full.items ≡ old.full.items → IsMeasured m base all new
  measured_passed is more same full =
      let out : left_out base all ≡ left_out base records ++ r ∷ [] = filter-append (λ x. not (is_from_lsn base x)) records (r ∷ []) ∙ ap (λ (l : List (Record O)). left_out base records ++ l) (cond-true _ _ _ (ap not is)) in
      let kept : from_lsn base all ≡ from_lsn base records = filter-append (is_from_lsn base) records (r ∷ []) ∙ ap (λ (l : List (Record O)). from_lsn base records ++ l) (cond-false _ _ _ is) ∙ append-nil (from_lsn base records) in
      record {
        before = omega (arith, more, was.before, ap (λ (l : List (Record O)). length (commands_of l)) out, count-append m (left_out base records) (r ∷ []));
        short = omega (arith, same, was.short);
        none = λ empty. kept ∙ was.none (sym same ∙ empty);
        blocks = λ rest. ap (λ (l : List (Record O)). block_lengths 0 (code_lengths m l ++ rest)) kept ∙ was.blocks rest ∙ (λ i. sym full i ++ block_lengths (sym same i) rest);
      }

-- how long a checkpoint is
pub checkpoint_long : {O : Type 0} (m : Meaning O) (it : Record O) (table : DirtyPageTable) (starts : List (ℕ × ℕ)) → it ≡ Checkpoint table → starts ≡ table.starts → length (record_code m it) ≡ 13 + 12 * length starts
checkpoint_long m it table starts is same =
    let long : length (record_code m it) ≡ 1 + length (table_code table) = ap (λ r. length (record_code m r)) is ∙ omega arith in
    omega (arith, long, length-table_code table, ap length same)

-- the lengths that were found, once the checkpoint at the end is counted
pub lengths_found : {O : Type 0} (m : Meaning O) (base : ℕ) (table : DirtyPageTable) (records : List (Record O)) (it : Measured) (n filled : ℕ) (found : List ℕ) → IsMeasured m base records it → n ≡ length (record_code m (Checkpoint table))
    → ((rest : List ℕ) → it.full.items ++ block_lengths it.filled (n ∷ rest) ≡ found ++ block_lengths filled rest) → found ++ filled ∷ [] ≡ block_lengths 0 (code_lengths m (rewritten_records base table records))
lengths_found m base table records it n filled found is long counted =
    sym (counted []) ∙ sym (is.blocks (n ∷ [])) ∙ ap (λ (k : ℕ). block_lengths 0 (code_lengths m (from_lsn base records) ++ k ∷ [])) long
    ∙ ap (block_lengths 0) (sym (map-append (λ r. length (record_code m r)) (from_lsn base records) (Checkpoint table ∷ [])))
