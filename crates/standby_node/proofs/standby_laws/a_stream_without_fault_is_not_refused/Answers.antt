use Rattle.formats.specs.Objects.{bounds_of}
use Rattle.standby_node.proofs.OneWay.{small_followed}
use Rattle.standby_node.proofs.Refusals.{not_answered}
use Rattle.standby_node.proofs.standby_laws.a_stream_without_fault_is_not_refused.Goals as goal

pub returns : goal.returns
returns g c = λ p first bytes more payloads groups rest splits right are fine now other e is stream.
    let d = g.M.Machine.disk now in
    not_answered g.O.Oper.meaning p first bytes more payloads groups rest splits right are fine d other is.following
    (λ code r s. c.one_record.ensures (bounds_of p) code r s (small_followed g.O.Oper.meaning p first bytes d other is.following)) e is.refused stream
