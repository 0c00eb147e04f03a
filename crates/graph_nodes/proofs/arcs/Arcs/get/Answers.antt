use Rattle.std.proofs.Common.{◌≡◌, ◌∙◌, ap, sym, subst, ℕ, ◌+◌, ◌*◌, ◌<◌, length, Option, Some, None, arith}
use Rattle.std.specs.Prelude.{slice_index_or}
use Rattle.graph_nodes.specs.Arcs.{arc_at}
use Rattle.graph_nodes.specs.ArcPages.{ArcList, in_page, page_of, place_of}
use Rattle.graph_nodes.proofs.Paged.{arc-below, cell-low, page-low, read-at}
use Rattle.graph_nodes.proofs.arcs.Arcs.get.Goals as goal

pub index-requires : goal.index-requires
index-requires c =
    let a = c.self.inside in
    let lt = cell-low a.pages.items a.stored.items a.slots c.args.cell (subst (λ (l : ArcList). c.args.cell < length l.cells) (sym c.self.view_is) c.requires) in
    omega (arith, page-low a.slots c.args.cell a.pages.items a.stored.items c.self.invariant.0 lt, c.page_of.ensures, a.pages.ok.0)

pub index-requires-2 : goal.index-requires-2
index-requires-2 c =
    let a = c.self.inside in
    let lt = cell-low a.pages.items a.stored.items a.slots c.args.cell (subst (λ (l : ArcList). c.args.cell < length l.cells) (sym c.self.view_is) c.requires) in
    let low : c.page_of.result < length a.pages.items = omega (arith, page-low a.slots c.args.cell a.pages.items a.stored.items c.self.invariant.0 lt, c.page_of.ensures) in
    let at : slice_index_or a.pages.items c.page_of.result None ≡ Some c.in_ok-page.page = read-at a.pages.items c.page_of.result c.index.result.now low c.index.ensures ∙ sym c.in_ok-page.ensures in
    omega (arith, c.self.invariant.0.below c.page_of.result c.in_ok-page.page at, c.place_of.ensures, a.stored.ok.0)

pub returns-in_err-page : goal.returns-in_err-page
returns-in_err-page c =
    let a = c.self.inside in
    let lt = cell-low a.pages.items a.stored.items a.slots c.args.cell (subst (λ (l : ArcList). c.args.cell < length l.cells) (sym c.self.view_is) c.requires) in
    let low : c.page_of.result < length a.pages.items = omega (arith, page-low a.slots c.args.cell a.pages.items a.stored.items c.self.invariant.0 lt, c.page_of.ensures) in
    let at : slice_index_or a.pages.items (page_of c.args.cell) None ≡ None = ap (λ (i : ℕ). slice_index_or a.pages.items i None) (sym c.page_of.ensures) ∙ read-at a.pages.items c.page_of.result c.index.result.now low c.index.ensures ∙ sym c.in_err-page.ensures in
    c.from_residual.ensures ∙ sym (ap (λ (l : ArcList). arc_at l.cells c.args.cell) (sym c.self.view_is) ∙ arc-below a.pages.items a.stored.items (8 * a.slots) c.args.cell lt ∙ ap (λ (r : Option ℕ). in_page a.stored.items (place_of c.args.cell) r) at)

pub returns : goal.returns
returns c =
    let a = c.self.inside in
    let p = c.in_ok-page.page in
    let lt = cell-low a.pages.items a.stored.items a.slots c.args.cell (subst (λ (l : ArcList). c.args.cell < length l.cells) (sym c.self.view_is) c.requires) in
    let low : c.page_of.result < length a.pages.items = omega (arith, page-low a.slots c.args.cell a.pages.items a.stored.items c.self.invariant.0 lt, c.page_of.ensures) in
    let at : slice_index_or a.pages.items c.page_of.result None ≡ Some p = read-at a.pages.items c.page_of.result c.index.result.now low c.index.ensures ∙ sym c.in_ok-page.ensures in
    let here : slice_index_or a.pages.items (page_of c.args.cell) None ≡ Some p = ap (λ (i : ℕ). slice_index_or a.pages.items i None) (sym c.page_of.ensures) ∙ at in
    let place : 64 * p + c.place_of.result < length a.stored.items = omega (arith, c.self.invariant.0.below c.page_of.result p at, c.place_of.ensures) in
    c.get-2.ensures ∙ sym (read-at a.stored.items (64 * p + c.place_of.result) c.index-2.result.now place c.index-2.ensures)
    ∙ ap (λ (k : ℕ). slice_index_or a.stored.items (64 * p + k) None) c.place_of.ensures
    ∙ ap (λ (r : Option ℕ). in_page a.stored.items (place_of c.args.cell) r) (sym here)
    ∙ sym (ap (λ (l : ArcList). arc_at l.cells c.args.cell) (sym c.self.view_is) ∙ arc-below a.pages.items a.stored.items (8 * a.slots) c.args.cell lt)
