use Rattle.std.proofs.Common.{◌^◌, min, sym, subst, List, length}
use Rattle.number_lists.specs.declared.chains.Chain.{Chain}
use Rattle.std.specs.Vec.{vec_capacity}
use Rattle.number_lists.specs.Lists.{AreApart, IsWider}
use Rattle.number_lists.specs.Followed.{lists_of, view_of}
use Rattle.number_lists.proofs.More.{wider, wider-apart}
use Rattle.number_lists.proofs.chains.Chains.add_list.Goals as goal

pub invariant_of-self : goal.invariant_of-self
invariant_of-self c = (subst (λ (cs : List Chain). AreApart (lists_of c.self.inside.next.items cs) (length c.self.inside.next.items)) (sym c.push_in_room.ensures.items) (wider-apart c.self.inside.next.items c.self.inside.chains.items c.self.invariant.0), c.self.invariant.1)

pub returns : goal.returns
returns c =
    let links = c.self.inside.next in
    let chains = c.self.inside.chains in
    let most = min (vec_capacity links) (2 ^ 31) in
    let room = vec_capacity c.push_in_room.new.items in
    rw (← c.self.view_is)
    (subst (λ (cs : List Chain). IsWider (view_of links.items most chains.items (vec_capacity chains)) (view_of links.items most cs room)) (sym c.push_in_room.ensures.items) (wider links.items most chains.items (vec_capacity chains) room c.push_in_room.ensures.capacity))
