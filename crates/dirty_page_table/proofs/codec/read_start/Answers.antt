use Rattle.std.proofs.Common.{◌++◌, ℕ, List, drop, sym, ap, ◌∙◌, arith}
use Rattle.byteorder.specs.Endian.{little_number}
use Rattle.oper_core.specs.LittleEndian.{slice_from}
use Rattle.dirty_page_table.specs.Codec.{start_code}
use Rattle.dirty_page_table.proofs.Reading.{one_start}
use Rattle.dirty_page_table.proofs.codec.read_start.Goals as goal

pub returns-clause-split : goal.returns-clause-split
returns-clause-split c =
    let bytes : List ℕ = c.args.bytes.now in
    let object = c.read_u32-object.ensures in
    let number = c.read_u64-start.ensures ∙ ap (little_number 8) (slice_from 4 bytes) in
    one_start bytes (λ i. omega (arith, c.type_inv.bytes i)) (omega (arith, c.requires))
    ∙ ap (λ (o : ℕ). start_code (o, little_number 8 (drop 4 bytes)) ++ drop 12 bytes) (sym object)
    ∙ ap (λ (n : ℕ). start_code (c.read_u32-object.result, n) ++ drop 12 bytes) (sym number)
    ∙ ap (λ (xs : List ℕ). start_code (c.read_u32-object.result, c.read_u64-start.result) ++ xs) (sym (slice_from 12 bytes))
