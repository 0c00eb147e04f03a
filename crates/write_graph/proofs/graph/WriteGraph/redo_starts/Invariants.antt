use Rattle.std.proofs.Common.{◌≡◌, take, map, All}
use Rattle.install_order.specs.Entries.{accesses}
use Rattle.write_graph.specs.Graph.{IsLeast}
use Rattle.write_graph.specs.Objects.{IsWriter}
use Rattle.write_graph.proofs.graph.WriteGraph.redo_starts.Given as goal

abbrev pub invariant-loop-x : goal.invariant-loop-x
invariant-loop-x l = (map (λ s. s.0) l.starts.items ≡ take l.x-index l.x-items) × All (λ s. IsLeast (IsWriter (accesses l.self.entries) s.0) s.1) l.starts.items
