use Rattle.std.proofs.Common.{arith, subst, sym}
use Rattle.write_queue.specs.Handed.{handed}
use Rattle.embed_c.specs.Opening.{IsFailure}
use Rattle.embed_c.proofs.Failures.{no_memory}
use Rattle.embed_c.proofs.Fronts.{opened, unopened}
use Rattle.embed_c.proofs.session.Session.open.Goals as goal

pub returns-in_default-clause-err : goal.returns-in_default-clause-err
returns-in_default-clause-err c = subst IsFailure (sym c.alone.ensures) (λ done. omega (arith, done))

pub returns-in_default-clause-why : goal.returns-in_default-clause-why
returns-in_default-clause-why c = no_memory (handed c.args.objects.now c.args.log_a.now c.args.log_b.now) c.alone.result c.alone.ensures

pub returns-clause-ok : goal.returns-clause-ok
returns-clause-ok c = opened c.in-Some.ensures c.over.result (c.over.ensures.ready c.in-Some.ensures.taken) c.over.ensures.holds c.over.ensures.kept

pub returns-clause-why : goal.returns-clause-why
returns-clause-why c = unopened c.in-Some.ensures c.over.result c.over.ensures.why
