use Rattle.std.proofs.Common.{◌≡◌, ◌∙◌, sym, ◌/◌, ◌<◌, ◌^◌, None, arith}
use Rattle.std.specs.Prelude.{slice_index_or}
use Rattle.std.proofs.Math.Facts.{Fits-of_lt}
use Rattle.graph_nodes.proofs.Paged.{few-pages, page-added, page-missing, page-there, read-at}
use Rattle.graph_nodes.proofs.arcs.find_page.Goals as goal

pub returns-in-Some-clause-found : goal.returns-in-Some-clause-found
returns-in-Some-clause-found c slots are =
    page-there slots c.args.pages.now.items c.args.stored.now.items c.args.i c.in-Some.page are
    (read-at c.args.pages.now.items c.args.i c.index.result.now (omega (arith, c.requires.page)) c.index.ensures ∙ sym c.in-Some.ensures)

pub overflow_cast-page : goal.overflow_cast-page
overflow_cast-page c =
    let lt : c.len.result / 64 < 2 ^ 32 = omega (arith, c.requires.count, few-pages c.args.pages.now.items, c.requires.small, c.len.ensures, c.args.stored.now.ok.0) in
    Fits-of_lt lt

pub some-requires : goal.some-requires
some-requires c = omega (arith, c.requires.count, few-pages c.args.pages.now.items, c.requires.small, c.len.ensures, c.args.stored.now.ok.0)

pub add_page-requires : goal.add_page-requires
add_page-requires c =
    let none : slice_index_or c.args.pages.now.items c.args.i None ≡ None = read-at c.args.pages.now.items c.args.i c.index.result.now (omega (arith, c.requires.page)) c.index.ensures ∙ sym c.in-None.ensures in
    omega (arith, c.requires.count, c.requires.room, page-missing c.args.pages.now.items c.args.i c.requires.page none, c.args.stored.now.ok.0)

pub returns-in-None-clause-found : goal.returns-in-None-clause-found
returns-in-None-clause-found c slots are =
    let pages = c.args.pages.now.items in
    let stored = c.args.stored.now.items in
    let none : slice_index_or pages c.args.i None ≡ None = read-at pages c.args.i c.index.result.now (omega (arith, c.requires.page)) c.index.ensures ∙ sym c.in-None.ensures in
    rw (c.some.ensures, c.add_page.ensures.cells) (page-added slots pages stored c.args.i (c.len.result / 64) are c.requires.page none (omega (arith, c.requires.count, c.len.ensures, c.args.stored.now.ok.0)))
