use Rattle.std.proofs.Common.{◌≡◌, ◌∙◌, ap, sym, subst, ℕ, List, ◌+◌, ◌*◌, ◌<◌, length, Option, Some, None, arith}
use Rattle.std.specs.Prelude.{slice_index_or, slice_set}
use Rattle.graph_nodes.specs.ArcPages.{ArcList, ArePages, arcs_of, page_of}
use Rattle.graph_nodes.proofs.Paged.{arcs-as, arcs-set, cell-low, page-low, pages-set}
use Rattle.graph_nodes.proofs.arcs.Arcs.set.Goals as goal

pub find_page-page-requires-clause-page : goal.find_page-page-requires-clause-page
find_page-page-requires-clause-page c =
    let a = c.self.inside in
    let lt = cell-low a.pages.items a.stored.items a.slots c.args.cell (subst (λ (l : ArcList). c.args.cell < length l.cells) (sym c.self.view_is) c.requires) in
    omega (arith, page-low a.slots c.args.cell a.pages.items a.stored.items c.self.invariant.0 lt, c.page_of.ensures)

pub find_page-page-requires-clause-count : goal.find_page-page-requires-clause-count
find_page-page-requires-clause-count c = c.self.invariant.0.count

pub find_page-page-requires-clause-room : goal.find_page-page-requires-clause-room
find_page-page-requires-clause-room c = omega (arith, c.self.invariant.0.size, c.self.invariant.2)

pub find_page-page-requires-clause-small : goal.find_page-page-requires-clause-small
find_page-page-requires-clause-small c = omega (arith, c.self.invariant.0.size, c.self.invariant.3)

pub invariant_of-self : goal.invariant_of-self
invariant_of-self c =
    let a = c.self.inside in
    let p = c.find_page-page.result in
    let is = c.find_page-page.ensures.found a.slots c.self.invariant.0 in
    let more = c.find_page-page.new.pages.items in
    let longer = c.find_page-page.new.stored.items in
    let lt = cell-low a.pages.items a.stored.items a.slots c.args.cell (subst (λ (l : ArcList). c.args.cell < length l.cells) (sym c.self.view_is) c.requires) in
    let here : slice_index_or more (page_of c.args.cell) None ≡ Some p = ap (λ (i : ℕ). slice_index_or more i None) (sym c.page_of.ensures) ∙ is.here in (
      subst (λ (k : ℕ). ArePages a.slots more (slice_set longer (64 * p + k) c.args.to)) (sym c.place_of.ensures) (pages-set a.slots more longer c.args.cell p c.args.to is.are here lt),
      omega (arith, c.self.invariant.1, c.find_page-page.ensures.pages),
      omega (arith, c.self.invariant.2, c.find_page-page.ensures.stored),
      c.self.invariant.3,
    )

pub returns-clause-cells : goal.returns-clause-cells
returns-clause-cells c =
    let a = c.self.inside in
    let p = c.find_page-page.result in
    let is = c.find_page-page.ensures.found a.slots c.self.invariant.0 in
    let more = c.find_page-page.new.pages.items in
    let longer = c.find_page-page.new.stored.items in
    let lt = cell-low a.pages.items a.stored.items a.slots c.args.cell (subst (λ (l : ArcList). c.args.cell < length l.cells) (sym c.self.view_is) c.requires) in
    let here : slice_index_or more (page_of c.args.cell) None ≡ Some p = ap (λ (i : ℕ). slice_index_or more i None) (sym c.page_of.ensures) ∙ is.here in
    ap (λ (k : ℕ). arcs_of more (slice_set longer (64 * p + k) c.args.to) (8 * a.slots)) c.place_of.ensures
    ∙ arcs-set a.slots (8 * a.slots) more longer c.args.cell p c.args.to is.are here lt
    ∙ ap (λ (xs : List (Option ℕ)). slice_set xs c.args.cell c.args.to) (arcs-as more longer a.pages.items a.stored.items (8 * a.slots) is.same)
    ∙ ap (λ (l : ArcList). slice_set l.cells c.args.cell c.args.to) c.self.view_is
