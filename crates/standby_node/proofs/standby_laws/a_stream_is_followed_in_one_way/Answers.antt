use Rattle.formats.specs.Objects.{bounds_of}
use Rattle.standby_node.proofs.OneWay.{one_history}
use Rattle.standby_node.proofs.standby_laws.a_stream_is_followed_in_one_way.Goals as goal

pub returns : goal.returns
returns g c = λ p first bytes now then one other a b here there.
    one_history g.O.Oper.meaning p first bytes (g.M.Machine.disk now) (g.M.Machine.disk then) one other a b here there c.frames_are_told_apart.ensures.payloads (λ small bytes r s. c.one_record.ensures (bounds_of p) bytes r s small)
