use Rattle.standby_node.proofs.Loaded.{stream_same, unlike_later}
use Rattle.standby_node.proofs.mirroring.a_stream_is_compared.Goals as goal

pub returns : goal.returns
returns g c = record {
  same = λ b first bytes it small. stream_same (g.O.Oper.meaning b) (λ bytes first second one two. c.one_record.ensures b bytes first second small one two) first bytes it;
  later = λ b base first bytes more payloads groups kept why small. unlike_later (g.O.Oper.meaning b) (λ bytes first second one two. c.one_record.ensures b bytes first second small one two) base first bytes more payloads groups kept why;
}
