use Rattle.std.proofs.Common.{sym, subst, ◌≤◌}
use Rattle.write_graph.specs.Rows.{Rows}
use Rattle.write_graph.proofs.Tables.{cells-added}
use Rattle.write_graph.proofs.rows.Rows.add_cells.Goals as goal

pub add_items-requires : goal.add_items-requires
add_items-requires c = subst (λ (r : Rows). 8 ≤ r.cell_room) (sym c.self.view_is) c.requires

pub returns : goal.returns
returns c = rw (← c.self.view_is) (cells-added c.self.inside.objects.keys c.self.inside.last.items c.self.inside.waiting c.add_items.new.self _ c.add_items.ensures)
