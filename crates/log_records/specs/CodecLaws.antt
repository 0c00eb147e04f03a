-- No record's code is the beginning of another's, and each record of the grammar has one.
use Rattle.std.proofs.Common.{◌≡◌, ◌<◌, ◌^◌, ℕ, List, ◌∷◌, ◌++◌, length, get_or, take, drop, refl, sym, ap, ◌∙◌, arith, append_assoc}
use Rattle.std.proofs.lemmas.List.{take_at}
use Rattle.byteorder.specs.Endian.{little_bytes}
use Rattle.oper_core.specs.LittleEndian.{little_bytes-split}
use Rattle.oper_core.specs.Meaning.{IsLawful, IsSmall, HasBounds, Meaning}
use Rattle.oper_core.specs.declared.bounds.Bounds.{Bounds}
use Rattle.dirty_page_table.specs.Codec.{table_code}
use Rattle.dirty_page_table.specs.CodecLaws.{same_table}
use Rattle.dirty_page_table.specs.declared.table.DirtyPageTable.{DirtyPageTable}
use Rattle.formats.specs.Records.{IsRecord}
use Rattle.formats.specs.declared.record.Record.{Record}
use Rattle.formats.specs.declared.record.Record.TheVariants.{Command, Identity, Checkpoint}
use Rattle.log_records.specs.Codec.{IsEncodable, StartsWithRecord}

-- operations meet their laws, and the numbers of objects and bytes that they may have are numbers of four bytes
pub record HasCodes {O : Type 0} (m : Meaning O) : Type 0 where
  pub lawful : IsLawful m
  pub few : m.objects < 2 ^ 32
  pub short : m.cap < 2 ^ 32

-- those of a store do
pub has_codes : {O : Type 0} (m : Meaning O) (b : Bounds) → IsSmall b → HasBounds b m → IsLawful m → HasCodes m
has_codes m b small bounds lawful = record { lawful = lawful; few = omega (arith, small.objects, bounds.objects); short = omega (arith, small.cap, bounds.cap) }

-- the fields of an identity write, each beside the rest
pub identity_fields : (lsn x : ℕ) (value rest : List ℕ)
    → (little_bytes 8 lsn ++ (little_bytes 4 x ++ (little_bytes 4 (length value) ++ value))) ++ rest ≡ little_bytes 8 lsn ++ (little_bytes 4 x ++ (little_bytes 4 (length value) ++ (value ++ rest)))
identity_fields lsn x value rest = simp append_assoc

-- the first bytes of one list are one
pub one_first : (a b : ℕ) (x y : List ℕ) → a ∷ x ≡ b ∷ y → a ≡ b
one_first a b x y same = ap (λ (l : List ℕ). get_or l 0 0) same

-- bytes begin with the code of at most one record
pub same_record : {O : Type 0} (m : Meaning O) → HasCodes m → (first second : Record O) (bytes : List ℕ)
    → StartsWithRecord m bytes first → StartsWithRecord m bytes second → first ≡ second
same_record m codes (Command lsn op) (Command lsn' op') bytes one two =
    let low = one.in_grammar.0 in
    let low' = two.in_grammar.0 in
    let fields : little_bytes 8 lsn ++ (m.code op ++ one.rest) ≡ little_bytes 8 lsn' ++ (m.code op' ++ two.rest) =
    sym (append_assoc (little_bytes 8 lsn) (m.code op) one.rest) ∙ ap (drop 1) (sym one.split ∙ two.split)
    ∙ append_assoc (little_bytes 8 lsn') (m.code op') two.rest in
    let both = little_bytes-split 8 lsn lsn' _ _ (omega arith) (omega arith) fields in
    let ops = codes.lawful.one_code op op' (m.code op ++ one.rest) (record { rest = one.rest; split = refl; in_grammar = one.in_grammar.1 })
    (record { rest = two.rest; split = both.1; in_grammar = two.in_grammar.1 }) in
    λ i. Command (both.0 i) (ops i)
same_record m codes (Identity lsn x value) (Identity lsn' x' value') bytes one two =
    let good = one.in_grammar in
    let good' = two.in_grammar in
    let small : length value < 2 ^ 32 = omega (arith, good.2, codes.short) in
    let small' : length value' < 2 ^ 32 = omega (arith, good'.2, codes.short) in
    let there : x < 2 ^ 32 = omega (arith, good.1, codes.few) in
    let there' : x' < 2 ^ 32 = omega (arith, good'.1, codes.few) in
    let fields = sym (identity_fields lsn x value one.rest) ∙ ap (drop 1) (sym one.split ∙ two.split) ∙ identity_fields lsn' x' value' two.rest in
    let numbers = little_bytes-split 8 lsn lsn' _ _ (omega (arith, good.0)) (omega (arith, good'.0)) fields in
    let objects = little_bytes-split 4 x x' _ _ (omega (arith, there)) (omega (arith, there')) numbers.1 in
    let lengths = little_bytes-split 4 (length value) (length value') _ _ (omega (arith, small)) (omega (arith, small')) objects.1 in
    let values : value ≡ value' = sym (take_at value one.rest (length value) refl) ∙ ap (take (length value)) lengths.1 ∙ take_at value' two.rest (length value) (sym lengths.0) in
    λ i. Identity (numbers.0 i) (objects.0 i) (values i)
same_record m codes (Checkpoint table) (Checkpoint table') bytes one two =
    let tables = same_table table table' (table_code table ++ one.rest) (record { rest = one.rest; split = refl; in_grammar = one.in_grammar })
    (record { rest = two.rest; split = ap (drop 1) (sym one.split ∙ two.split); in_grammar = two.in_grammar }) in
    ap (λ (t : DirtyPageTable). Checkpoint t) tables
same_record m codes (Command lsn op) (Identity lsn' x value) bytes one two = absurd (omega (arith, one_first 1 2 _ _ (sym one.split ∙ two.split)))
same_record m codes (Command lsn op) (Checkpoint table) bytes one two = absurd (omega (arith, one_first 1 3 _ _ (sym one.split ∙ two.split)))
same_record m codes (Identity lsn x value) (Command lsn' op) bytes one two = absurd (omega (arith, one_first 2 1 _ _ (sym one.split ∙ two.split)))
same_record m codes (Identity lsn x value) (Checkpoint table) bytes one two = absurd (omega (arith, one_first 2 3 _ _ (sym one.split ∙ two.split)))
same_record m codes (Checkpoint table) (Command lsn op) bytes one two = absurd (omega (arith, one_first 3 1 _ _ (sym one.split ∙ two.split)))
same_record m codes (Checkpoint table) (Identity lsn x value) bytes one two = absurd (omega (arith, one_first 3 2 _ _ (sym one.split ∙ two.split)))

-- a record of the grammar is encodable
pub encodable-from_grammar : {O : Type 0} (meaning : Bounds → Meaning O) (b : Bounds) → HasCodes (meaning b) → (it : Record O)
    → IsRecord (meaning b) it → IsEncodable meaning it
encodable-from_grammar meaning b codes (Command lsn op) good = (b, codes.lawful.encodable op good.1)
encodable-from_grammar meaning b codes (Identity lsn x value) good = omega (arith, good.2, codes.short)
encodable-from_grammar meaning b codes (Checkpoint table) good = good.few
