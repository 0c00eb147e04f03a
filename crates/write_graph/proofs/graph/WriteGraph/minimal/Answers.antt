use Rattle.write_graph.specs.Graph.{NamesMinimal}
use Rattle.write_graph.proofs.Options.{some-then, none-then}
use Rattle.write_graph.proofs.Exists.{none-left, least-of-all}
use Rattle.write_graph.proofs.graph.WriteGraph.minimal.Goals as goal

pub returns-clause-some : goal.returns-clause-some
returns-clause-some c = some-then c.minimal_from.result _ _ (λ n. least-of-all (NamesMinimal c.args.self.now.entries) n) c.minimal_from.ensures.some

pub returns-clause-none : goal.returns-clause-none
returns-clause-none c = none-then c.minimal_from.result _ _ (none-left c.args.self.now.entries) c.minimal_from.ensures.none
