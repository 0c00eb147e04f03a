use Rattle.std.proofs.Common.{sym, subst, ℕ, List}
use Rattle.std.specs.Prelude.{IsTrue}
use Rattle.oper_core.specs.State.{is_among}
use Rattle.write_graph.specs.Rows.{Rows}
use Rattle.write_graph.specs.RowTables.{IsRow}
use Rattle.write_graph.proofs.Tables.{free-all, waits}
use Rattle.write_graph.proofs.rows.Rows.wait.Goals as goal

pub push-requires-clause-free : goal.push-requires-clause-free
push-requires-clause-free c =
    let is = subst (λ (r : Rows). IsRow c.args.self.now c.args.x c.row-row.result r) (sym c.self.view_is) c.row-row.ensures in
    free-all c.self.inside.objects.keys c.self.inside.last.items c.self.inside.waiting 0 c.args.cell c.self.invariant (λ y t. c.requires.free y (subst (λ (xs : List ℕ). IsTrue (is_among c.args.cell xs)) (is.waiting y) t))

pub returns : goal.returns
returns c =
    let is = subst (λ (r : Rows). IsRow c.args.self.now c.args.x c.row-row.result r) (sym c.self.view_is) c.row-row.ensures in
    waits c.args.self.now c.self.inside.objects.keys c.self.inside.last.items c.self.inside.waiting c.push.new.self _ c.args.x c.row-row.result c.args.cell is c.push.ensures
