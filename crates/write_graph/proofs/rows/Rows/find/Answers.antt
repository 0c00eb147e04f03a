use Rattle.write_graph.proofs.Tables.{find-is}
use Rattle.write_graph.proofs.rows.Rows.find.Goals as goal

pub returns : goal.returns
returns c = rw (← c.self.view_is) (find-is c.args.x c.self.inside.objects.keys c.get_index_of.result c.get_index_of.ensures.index)
