use Rattle.std.proofs.Common.{◌∙◌}
use Rattle.write_graph.proofs.Tabled.{same-entry}
use Rattle.write_graph.proofs.entry_table.Entries.copy.Goals as goal

pub returns : goal.returns
returns c = same-entry c.args.self.now.items c.args.i _ c.requires c.lsn.ensures (c.copied.ensures ∙ c.reads.ensures.value) (c.copied-2.ensures ∙ c.writes.ensures.value) c.is_identity.ensures
