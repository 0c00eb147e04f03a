use Rattle.std.proofs.Common.{sym, ◌∙◌}
use Rattle.op_codec.proofs.NoCode.{first_byte, none_in_first, none_in_second}
use Rattle.op_codec.proofs.sum.SumOper.decode.Goals as goal

pub returns-in-None-clause-none : goal.returns-in-None-clause-none
returns-in-None-clause-none g c =
    none_in_first g.A.Oper.meaning g.B.Oper.meaning g.A.Family.has_tag g.B.Family.has_tag c.args.b (g.met.A.Family.tagged c.args.b) (g.met.B.Family.tagged c.args.b) g.met.B.ApartFrom.apart c.args.bytes.now
    (first_byte g.A.Family.has_tag c.args.bytes.now c.in-Some.tag.now c.in-Some.ensures.value ∙ sym c.owns.ensures ∙ c.if-owns.true)
    (rw c.in-None.is at c.in_ok-op.ensures.none)

pub returns-in-None-2-clause-none : goal.returns-in-None-2-clause-none
returns-in-None-2-clause-none g c =
    none_in_second g.A.Oper.meaning g.B.Oper.meaning g.A.Family.has_tag g.B.Family.has_tag c.args.b (g.met.A.Family.tagged c.args.b) (g.met.B.Family.tagged c.args.b) g.met.B.ApartFrom.apart c.args.bytes.now
    (first_byte g.A.Family.has_tag c.args.bytes.now c.in-Some.tag.now c.in-Some.ensures.value ∙ sym c.owns.ensures ∙ c.if-owns.false)
    (rw c.in-None-2.is at c.in_ok-op-2.ensures.none)
