use Rattle.std.proofs.Common.{ℕ, List, length, ◌∙◌, ap, arith}
use Rattle.std.proofs.lemmas.List.{length-take-le}
use Rattle.byteorder.specs.Endian.{little_number}
use Rattle.oper_core.specs.LittleEndian.{slice_from}
use Rattle.std.specs.Prelude.{take, drop}
use Rattle.op_rows.proofs.ReadNumbers.{text_begin}
use Rattle.op_rows.proofs.numbers.number_and_text.Goals as goal

pub returns-clause-some : goal.returns-clause-some
returns-clause-some c =
    let bytes : List ℕ = c.args.bytes.now in
    let n : ℕ = c.read_u32-length.result in
    let behind = slice_from 9 bytes in
    let text = ap (take n) behind in
    text_begin c.args.tag c.read_u32.result n _ bytes (λ i. omega (arith, c.type_inv.bytes i)) (omega (arith, ap length behind)) c.if-bytes-tag.false
    (c.read_u32.ensures ∙ ap (little_number 4) (slice_from 1 bytes)) (c.read_u32-length.ensures ∙ ap (little_number 4) (slice_from 5 bytes))
    text (ap length text ∙ length-take-le n (drop 9 bytes) (omega (arith, ap length behind)))
