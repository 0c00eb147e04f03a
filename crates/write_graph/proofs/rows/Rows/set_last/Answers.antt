use Rattle.std.proofs.Common.{sym, subst, Some, arith}
use Rattle.std.proofs.lemmas.List.{length-set}
use Rattle.write_graph.specs.Rows.{Rows}
use Rattle.write_graph.specs.RowTables.{IsRow}
use Rattle.write_graph.proofs.Tables.{last-set}
use Rattle.write_graph.proofs.rows.Rows.set_last.Goals as goal

pub returns : goal.returns
returns c = rw c.some.ensures (last-set c.args.self.now c.self.inside.objects.keys c.self.inside.last.items c.self.inside.waiting _ c.args.x c.row-row.result c.args.cell _ (subst (λ (r : Rows). IsRow c.args.self.now c.args.x c.row-row.result r) (sym c.self.view_is) c.row-row.ensures) c.self.invariant (omega (arith, length-set c.self.inside.last.items c.row-row.result (Some c.args.cell))))
