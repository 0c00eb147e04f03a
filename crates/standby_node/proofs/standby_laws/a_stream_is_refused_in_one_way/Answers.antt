use Rattle.std.specs.Prelude.{◌++◌}
use Rattle.formats.specs.Objects.{bounds_of}
use Rattle.standby_node.proofs.Ends.{gone_fine}
use Rattle.standby_node.proofs.OneRefusal.{one_answer}
use Rattle.standby_node.proofs.OneWay.{small_followed}
use Rattle.standby_node.proofs.Refusals.{not_answered}
use Rattle.standby_node.proofs.standby_laws.a_stream_is_refused_in_one_way.Goals as goal

pub returns-clause-answer : goal.returns-clause-answer
returns-clause-answer g c = λ p first bytes more others rest same now then one other e f refused refused_too of_e of_f.
    let d = g.M.Machine.disk now in
    one_answer g.O.Oper.meaning p first bytes more others rest same d (g.M.Machine.disk then) one other refused.following refused_too.following
    (λ code r s. c.one_record.ensures (bounds_of p) code r s (small_followed g.O.Oper.meaning p first bytes d one refused.following)) e f refused.refused refused_too.refused of_e of_f

pub returns-clause-followed : goal.returns-clause-followed
returns-clause-followed g c = λ p first bytes more now then one other e refused stream all between.
    let d = g.M.Machine.disk now in
    not_answered g.O.Oper.meaning p first bytes more all.payloads all.groups other.frames.kept (record { is = all.passed.is; whole = all.passed.whole; unfinished = between.unfinished }) between.fine all.frames_are
    (gone_fine g.O.Oper.meaning p first (bytes ++ more) (g.M.Machine.disk then) other all) d one refused.following
    (λ code r s. c.one_record.ensures (bounds_of p) code r s (small_followed g.O.Oper.meaning p first bytes d one refused.following)) e refused.refused stream
