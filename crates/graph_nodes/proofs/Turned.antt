-- What goes over from one search to the next.
use Rattle.std.proofs.Common.{◌≡◌, ◌∙◌, sym, subst, ℕ, ◌≤◌, List, refl, arith}
use Rattle.std.specs.Prelude.{Option}
use Rattle.number_lists.specs.Lists.{Lists}
use Rattle.number_lists.specs.Members.{Members}
use Rattle.graph_nodes.specs.Kept.{AreAsWide, IsSearchable, IsWide}
use Rattle.graph_nodes.specs.Levels.{ArePruned}

-- the same lists, for a set that ends there too, and with as much room
pub searchable-on : (arcs : List (Option ℕ)) (node : List ℕ) (into : Lists) (a b r s : ℕ) → b ≡ a → r ≤ s → IsSearchable arcs node into a r → IsSearchable arcs node into b s
searchable-on arcs node into a b r s e more is = subst (λ (n : ℕ). IsSearchable arcs node into n s) (sym e) record {
  lists = is.lists;
  cells = is.cells;
  below = is.below;
  fit = omega (arith, is.fit, more);
}

-- and for lists that have no more cells
pub searchable-pruned : (arcs : List (Option ℕ)) (node : List ℕ) (a b : Lists) (end r s : ℕ) → ArePruned arcs node a b → r ≤ s → IsSearchable arcs node a end r → IsSearchable arcs node b end s
searchable-pruned arcs node a b end r s are more is = record {
  lists = omega (arith, is.lists, are.same.lists);
  cells = λ n c t. is.cells n c (are.fewer n c t);
  below = is.below;
  fit = omega (arith, is.fit, are.same.items, more);
}

pub wide-none : (a : Members) → IsWide a a
wide-none a = record { end = refl; room = omega arith }

-- a set that has not changed
pub wide-same : (a b : Members) → b ≡ a → IsWide a b
wide-same a b e = subst (λ (m : Members). IsWide a m) (sym e) (wide-none a)

pub wide-twice : (a b c : Members) → IsWide a b → IsWide b c → IsWide a c
wide-twice a b c f g = record { end = g.end ∙ f.end; room = omega (arith, f.room, g.room) }

pub wide-both : (found ahead f a : Members) → IsWide found f → IsWide ahead a → AreAsWide found ahead f a
wide-both found ahead f a left right = record { found_end = left.end; ahead_end = right.end; room = λ n p q. (omega (arith, p, left.room), omega (arith, q, right.room)) }

-- the two sets change places
pub wide-swapped : (found ahead x y : Members) → found.end ≡ ahead.end → x ≡ ahead → y ≡ found → AreAsWide found ahead x y
wide-swapped found ahead x y same ex ey =
    subst (λ (m : Members). AreAsWide found ahead m y) (sym ex)
    (subst (λ (m : Members). AreAsWide found ahead ahead m) (sym ey)
    record { found_end = sym same; ahead_end = same; room = λ n p q. (q, p) })

-- two sets that are as wide as two that are as wide
pub as-wide-after : (found ahead f a x y : Members) → IsWide found f → IsWide ahead a → AreAsWide f a x y → AreAsWide found ahead x y
as-wide-after found ahead f a x y left right is = record {
  found_end = is.found_end ∙ left.end;
  ahead_end = is.ahead_end ∙ right.end;
  room = λ n p q. is.room n (omega (arith, p, left.room)) (omega (arith, q, right.room));
}
