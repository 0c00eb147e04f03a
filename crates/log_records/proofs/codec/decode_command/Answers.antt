use Rattle.std.proofs.Common.{◌≡◌, ℕ, List, ◌∷◌, ◌++◌, drop, sym, ap, ◌∙◌, arith}
use Rattle.byteorder.specs.Endian.{little_bytes, little_number}
use Rattle.oper_core.specs.LittleEndian.{slice_from}
use Rattle.log_records.proofs.Reading.{begins, no_command, no_operation}
use Rattle.log_records.proofs.codec.decode_command.Goals as goal

pub returns-in-Some-clause-some : goal.returns-in-Some-clause-some
returns-in-Some-clause-some g c =
    let bytes : List ℕ = c.args.bytes.now in
    let code : List ℕ = (g.O.Oper.meaning c.args.b).code c.in-Some.op in
    let found = rw c.in-Some.is at c.in_ok-op.ensures.some in
    let lsn : little_number 8 (drop 1 bytes) ≡ c.read_u64-lsn.result =
    sym (c.read_u64-lsn.ensures ∙ ap (little_number 8) (slice_from 1 bytes)) in (
      record {
        rest = found.0.rest;
        split = begins bytes code found.0.rest (λ i. omega (arith, c.type_inv.bytes i)) (omega arith) c.requires
            (sym (slice_from 9 bytes) ∙ found.0.split) ∙ ap (λ (n : ℕ). (1 ∷ (little_bytes 8 n ++ code)) ++ found.0.rest) lsn;
        in_grammar = (omega arith, found.0.in_grammar);
      },
      omega (arith, found.1),
    )

pub returns-in-None-clause-none : goal.returns-in-None-clause-none
returns-in-None-clause-none g c =
    let m = g.O.Oper.meaning c.args.b in
    let bytes : List ℕ = c.args.bytes.now in
    let none = rw c.in-None.is at c.in_ok-op.ensures.none in
    no_command m bytes c.requires (no_operation m bytes (λ op it. none op (record { rest = it.rest; split = slice_from 9 bytes ∙ it.split; in_grammar = it.in_grammar })))
