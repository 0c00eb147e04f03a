use Rattle.std.proofs.Common.{ap, length, arith}
use Rattle.write_graph.specs.Heads.{Entries}
use Rattle.write_graph.proofs.Tabled.{length-kept}
use Rattle.write_graph.proofs.entry_table.Entries.len.Goals as goal

pub returns : goal.returns
returns c = omega (arith, c.len.ensures, c.self.inside.lsns.ok.0, length-kept c.self.inside.lsns.items c.self.inside.heads.items c.self.inside.objects.items c.self.invariant.count, ap (λ (v : Entries). length v.items) c.self.view_is)
