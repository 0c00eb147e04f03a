use Rattle.serving.proofs.Waiting.{request_waits}
use Rattle.serving.proofs.laws.requests_wait_for_their_group.Goals as goal

pub returns : goal.returns
returns g c old new before after lo hi p commands ops names stable left error h some calls adds says named = request_waits h some calls adds says named
