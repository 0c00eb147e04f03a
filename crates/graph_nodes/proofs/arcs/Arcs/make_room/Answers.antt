use Rattle.std.proofs.Common.{sym, subst, ℕ, List, ◌*◌, ◌≤◌, ◌^◌, length, Option, arith}
use Rattle.graph_nodes.specs.ArcPages.{ArcList, ArePages}
use Rattle.graph_nodes.proofs.Paged.{arcs-count, few-pages}
use Rattle.graph_nodes.proofs.arcs.Arcs.make_room.Goals as goal

pub pages_for-pages-requires : goal.pages_for-pages-requires
pages_for-pages-requires c =
    let a = c.self.inside in
    omega (arith, c.requires.few, subst (λ (l : ArcList). length l.cells ≤ 2 ^ 31) (sym c.self.view_is) c.requires.small, arcs-count a.pages.items a.stored.items (8 * a.slots))

pub overflow_sub-pages : goal.overflow_sub-pages
overflow_sub-pages c = omega (arith, c.self.invariant.0.size, c.pages_for-pages.ensures, c.len.ensures, c.self.inside.pages.ok.0)

pub overflow_sub-pages-2 : goal.overflow_sub-pages-2
overflow_sub-pages-2 c = omega (arith, c.self.invariant.0.count, few-pages c.self.inside.pages.items, c.self.invariant.0.size, c.pages_for-pages.ensures, c.len-2.ensures, c.self.inside.stored.ok.0)

pub invariant_of-self-2 : goal.invariant_of-self-2
invariant_of-self-2 c =
    let a = c.self.inside in (
      subst (λ (xs : List (Option ℕ)). ArePages a.slots xs c.reserve-2.new.self.items) (sym c.reserve.ensures.items)
          (subst (λ (xs : List (Option ℕ)). ArePages a.slots a.pages.items xs) (sym c.reserve-2.ensures.items) c.self.invariant.0),
      omega (arith, c.self.invariant.1, c.reserve.ensures.capacity, c.in_ok-reserve.ensures.ok, c.pages_for-pages.ensures, c.len.ensures, a.pages.ok.0, c.max-self-inside.ensures),
      omega (arith, c.self.invariant.2, c.reserve-2.ensures.capacity, c.in_ok-reserve-2.ensures.ok, c.pages_for-pages.ensures, c.len-2.ensures, a.stored.ok.0, c.max-self-inside.ensures),
      omega (arith, c.self.invariant.3, c.requires.few, subst (λ (l : ArcList). length l.cells ≤ 2 ^ 31) (sym c.self.view_is) c.requires.small, arcs-count a.pages.items a.stored.items (8 * a.slots), c.max-self-inside.ensures),
    )
