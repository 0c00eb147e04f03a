use Rattle.std.proofs.Common.{arith, sym, subst}
use Rattle.std.proofs.lemmas.Bool.{both_ways}
use Rattle.oper_core.specs.Meaning.{IsSmall}
use Rattle.formats.specs.Records.{IsPlaced}
use Rattle.formats.specs.declared.record.Record.{Record}
use Rattle.log_records.specs.CodecLaws.{has_codes, same_record}
use Rattle.log_records.proofs.record_reader.next_record.Goals as goal

pub returns-in-None-clause-none : goal.returns-in-None-clause-none
returns-in-None-clause-none g c = λ other starts lsn. let none = rw c.in-None.is at c.in_ok-found.ensures.none in none other starts

pub returns-else-is_placed-clause-none : goal.returns-else-is_placed-clause-none
returns-else-is_placed-clause-none g c = λ other starts place.
    let b = c.args.b in
    let m = g.O.Oper.meaning b in
    let small : IsSmall b = record { objects = omega arith; cap = omega arith } in
    let some = rw c.in-Some.is at c.in_ok-found.ensures.some in
    let same = same_record m (has_codes m b small (g.met.O.Oper.bounded b) (g.met.O.Oper.lawful b small)) c.in-Some.found other c.args.bytes.now some.0 starts in
    both_ways _ c.if-is_placed.false (c.is_placed.ensures.1 (subst (λ (r : Record g.row.O.Denot). IsPlaced m c.args.base c.args.next r) (sym same) place))
