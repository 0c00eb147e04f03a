use Rattle.std.proofs.Common.{◌∙◌, List, sym, subst}
use Rattle.std.proofs.lemmas.Bool.{cond-true, cond-false}
use Rattle.formats.specs.declared.record.Record.{Record}
use Rattle.log_records.specs.Copying.{HasLaid, IsLaid}
use Rattle.log_records.specs.Laying.{codes_of}
use Rattle.log_records.proofs.Copies.{laid_nothing}
use Rattle.log_records.proofs.copying.copy_record.Goals as goal

pub returns-then-not-is_from_lsn-clause-laid : goal.returns-then-not-is_from_lsn-clause-laid
returns-then-not-is_from_lsn-clause-laid g c b =
    let m = g.O.Oper.meaning b in
    let d = g.M.Machine.disk c.args.m.now in
    let none = cond-false _ _ _ (sym c.is_from_lsn.ensures ∙ c.if-not-is_from_lsn.true) in
    subst (λ (l : List (Record g.row.O.Denot)). IsLaid d d c.args.out.now c.args.out.now c.args.blocks.now c.args.blocks.now (codes_of m l)) (sym none) (laid_nothing d c.args.out.now c.args.blocks.now)

pub returns-clause-laid : goal.returns-clause-laid
returns-clause-laid g c b =
    let m = g.O.Oper.meaning b in
    let one = cond-true _ _ _ (sym c.is_from_lsn.ensures ∙ c.if-not-is_from_lsn.false) in
    subst (λ (l : List (Record g.row.O.Denot)). HasLaid (g.M.Machine.disk c.args.m.now) (g.M.Machine.disk c.put_record.new.m) c.args.out.now c.put_record.new.out c.args.blocks.now c.put_record.new.blocks (codes_of m l) c.in_ok-laid.laid)
    (sym one) (c.in_ok-laid.ensures.laid b)
