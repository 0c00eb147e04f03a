use Rattle.std.proofs.Common.{◌≤◌, ◌-◌, suc, subst, arith}
use Rattle.page_map.specs.Checks.{Reached}
use Rattle.page_map.proofs.ReachedLemmas.{reached_few, reached_within}
use Rattle.page_map.proofs.reached.Reached.count.Goals as goal

pub returns-clause-few : goal.returns-clause-few
returns-clause-few c = omega (arith, c.len.ensures, reached_few c.self.inside.map.now c.self.inside.marks.items c.self.inside.objects.items c.self.invariant)

pub returns-clause-within : goal.returns-clause-within
returns-clause-within c =
    subst (λ (r : Reached). c.len.result ≤ suc (r.range.hi - r.range.lo)) c.self.view_is
    (omega (arith, c.len.ensures, reached_within c.self.inside.map.now c.self.inside.marks.items c.self.inside.objects.items c.self.invariant))
