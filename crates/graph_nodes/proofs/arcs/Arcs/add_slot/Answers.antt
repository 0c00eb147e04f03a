use Rattle.std.proofs.Common.{◌∙◌, ap, sym, subst, ◌<◌, ◌++◌, arith}
use Rattle.graph_nodes.specs.ArcPages.{ArcList}
use Rattle.graph_nodes.specs.Kept.{no_arcs}
use Rattle.graph_nodes.proofs.Paged.{slot-cells, slot-more}
use Rattle.graph_nodes.proofs.arcs.Arcs.add_slot.Goals as goal

pub pages_for-requires : goal.pages_for-requires
pages_for-requires c = omega (arith, subst (λ (l : ArcList). 0 < l.room) (sym c.self.view_is) c.requires, c.self.invariant.3)

pub add_pages-requires : goal.add_pages-requires
add_pages-requires c = omega (arith, subst (λ (l : ArcList). 0 < l.room) (sym c.self.view_is) c.requires, c.self.invariant.1, c.pages_for.ensures)

pub invariant_of-self : goal.invariant_of-self
invariant_of-self c =
    let a = c.self.inside in
    let some = subst (λ (l : ArcList). 0 < l.room) (sym c.self.view_is) c.requires in (
      slot-more a.slots a.pages.items c.add_pages.new.pages.items a.stored.items c.self.invariant.0 c.add_pages.ensures.same c.add_pages.ensures.pages (omega (arith, c.add_pages.ensures.size, c.self.invariant.0.size, c.pages_for.ensures)),
      omega (arith, some, c.self.invariant.1, c.add_pages.ensures.capacity),
      omega (arith, some, c.self.invariant.2),
      omega (arith, some, c.self.invariant.3),
    )

pub returns-clause-cells : goal.returns-clause-cells
returns-clause-cells c =
    let a = c.self.inside in
    slot-cells a.slots a.pages.items c.add_pages.new.pages.items a.stored.items c.self.invariant.0 c.add_pages.ensures.same ∙ ap (λ (l : ArcList). l.cells ++ no_arcs 8) c.self.view_is
