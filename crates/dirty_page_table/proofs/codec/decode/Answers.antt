use Rattle.std.proofs.Common.{ℕ, List, Result, Ok, Err, OnErr, length, drop, refl, sym, ap, ◌∙◌, arith}
use Rattle.byteorder.specs.Endian.{little_number}
use Rattle.oper_core.specs.LittleEndian.{slice_from}
use Rattle.dirty_page_table.specs.CodecLaws.{length-starts}
use Rattle.dirty_page_table.specs.declared.table.DirtyPageTable.{DirtyPageTable}
use Rattle.dirty_page_table.proofs.Reading.{AreBytes, all_starts, begins, drop-bytes, no_table}
use Rattle.dirty_page_table.proofs.codec.decode.Goals as goal

-- what holds anyway holds where there is an error
anyway : {T E P : Type 0} (r : Result T E) → P → OnErr r P
anyway (Ok x) p = tt
anyway (Err e) p = p

pub returns-then-rest-count-clause-none : goal.returns-then-rest-count-clause-none
returns-then-rest-count-clause-none c =
    let bytes : List ℕ = c.args.bytes.now in
    let count = c.read_u32-count.ensures ∙ ap (little_number 4) (slice_from 8 bytes) in
    let behind = ap length (slice_from 12 bytes) in
    no_table bytes (omega (arith, c.if-rest-count.true))

pub returns-in_err-starts-clause-memory : goal.returns-in_err-starts-clause-memory
returns-in_err-starts-clause-memory c =
    let bytes : List ℕ = c.args.bytes.now in
    let small : AreBytes bytes = λ i. omega (arith, c.type_inv.bytes i) in
    let count = c.read_u32-count.ensures ∙ ap (little_number 4) (slice_from 8 bytes) in
    let behind = ap length (slice_from 12 bytes) in
    let found = all_starts (little_number 4 (drop 8 bytes)) (drop 12 bytes) (drop-bytes 12 bytes small) (omega (arith, c.if-rest-count.false)) in
    let table : DirtyPageTable = record { next = little_number 8 bytes; starts = found.0 } in
    anyway c.from_residual.result (table, begins bytes table small (omega arith) refl found.1)

pub returns-clause-some : goal.returns-clause-some
returns-clause-some c =
    let bytes : List ℕ = c.args.bytes.now in
    let it = c.in_ok-starts.ensures in
    let count = c.read_u32-count.ensures ∙ ap (little_number 4) (slice_from 8 bytes) in
    let table : DirtyPageTable = record { next = c.read_u64-next.result; starts = c.in_ok-starts.starts } in (
      begins bytes table (λ i. omega (arith, c.type_inv.bytes i)) (omega arith) c.read_u64-next.ensures (record {
        count = it.count ∙ count;
        rest = it.rest;
        split = sym (slice_from 12 bytes) ∙ it.split;
        fit = it.fit;
      }),
      omega (arith, it.count, length-starts c.in_ok-starts.starts),
    )
