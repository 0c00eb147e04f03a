use Rattle.std.proofs.Common.{◌≤◌, length, subst, arith}
use Rattle.std.specs.Prelude.{nat_eq}
use Rattle.std.specs.List.{IsDistinct}
use Rattle.number_lists.specs.Members.{Members}
use Rattle.number_lists.proofs.Placed.{few-all}
use Rattle.number_lists.proofs.number_set.NumberSet.len.Goals as goal

pub returns-clause-few : goal.returns-clause-few
returns-clause-few c =
    let few : length c.self.inside.members.items ≤ length c.self.inside.place.items = few-all c.self.inside.members.items c.self.inside.place.items c.self.invariant.0 in
    let here : c.len.result ≤ c.self.inside.end = omega (arith, few, c.len.ensures, c.self.inside.members.ok.0, c.self.invariant.1) in
    subst (λ (v : Members). c.len.result ≤ v.end) c.self.view_is here

pub returns-clause-distinct : goal.returns-clause-distinct
returns-clause-distinct c = subst (λ (v : Members). IsDistinct nat_eq v.members) c.self.view_is c.self.invariant.0.distinct
