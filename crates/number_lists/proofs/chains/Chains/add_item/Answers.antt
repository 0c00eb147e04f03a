use Rattle.std.proofs.Common.{ℕ, ◌<◌, ◌≤◌, ◌-◌, ◌^◌, min, ap, sym, subst, List, [], ◌∷◌, length, length-append, arith}
use Rattle.std.specs.Vec.{vec_capacity}
use Rattle.number_lists.specs.Lists.{Lists, AreApart, IsLonger}
use Rattle.number_lists.specs.Followed.{lists_of, view_of}
use Rattle.number_lists.proofs.More.{longer, longer-apart}
use Rattle.number_lists.proofs.chains.Chains.add_item.Goals as goal

pub invariant_of-self : goal.invariant_of-self
invariant_of-self c =
    let links = c.self.inside.next.items in
    let room : 0 < min (vec_capacity c.self.inside.next) (2 ^ 31) - length links = subst (λ (v : Lists). 0 < v.item_room) (sym c.self.view_is) c.requires in (
      subst (λ (next : List ℕ). AreApart (lists_of next c.self.inside.chains.items) (length next)) (sym c.push_in_room.ensures.items) (longer-apart links c.self.inside.chains.items 0 c.self.invariant.0),
      omega (arith, room, ap length c.push_in_room.ensures.items, length-append links (0 ∷ [])),
    )

pub returns : goal.returns
returns c =
    let links = c.self.inside.next in
    let chains = c.self.inside.chains in
    let before = min (vec_capacity links) (2 ^ 31) in
    let after = min (vec_capacity c.push_in_room.new.items) (2 ^ 31) in
    let more : before ≤ after = omega (arith, c.push_in_room.ensures.capacity) in
    rw (← c.self.view_is)
    (subst (λ (next : List ℕ). IsLonger (view_of links.items before chains.items (vec_capacity chains)) (view_of next after chains.items (vec_capacity chains))) (sym c.push_in_room.ensures.items) (longer links.items before after chains.items (vec_capacity chains) 0 more c.self.invariant.0))
