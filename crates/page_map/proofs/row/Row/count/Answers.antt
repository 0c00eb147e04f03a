use Rattle.std.proofs.Common.{Bool, List, suc, if◌then◌else◌, length, sym, ap, ◌∙◌, arith}
use Rattle.page_ops.specs.Page.{Cell}
use Rattle.page_map.proofs.RowLemmas.{row_alone, row_count}
use Rattle.page_map.proofs.row.Row.count.Goals as goal

pub returns-then-pair-clause-value : goal.returns-then-pair-clause-value
returns-then-pair-clause-value c =
    let cells : List Cell = c.self.inside.cells.now in
    c.count.ensures.value
    ∙ sym (row_count cells c.self.inside.pair c.in-Some.pair c.args.self.now c.self.view_is c.self.invariant c.in-Some.is ∙ ap (λ (t : Bool). if t then length cells else suc (length cells)) c.if-pair.true)

pub returns-else-pair-clause-value : goal.returns-else-pair-clause-value
returns-else-pair-clause-value c =
    let cells : List Cell = c.self.inside.cells.now in
    omega (
      arith,
      c.count-else-pair.ensures.value,
      row_count cells c.self.inside.pair c.in-Some.pair c.args.self.now c.self.view_is c.self.invariant c.in-Some.is
          ∙ ap (λ (t : Bool). if t then length cells else suc (length cells)) c.if-pair.false,
    )

pub returns-in-None-clause-value : goal.returns-in-None-clause-value
returns-in-None-clause-value c =
    c.count-in-None.ensures.value ∙ ap (λ (l : List Cell). length l) (row_alone c.self.inside.cells.now c.self.inside.pair c.args.self.now c.self.view_is c.in-None.is)
