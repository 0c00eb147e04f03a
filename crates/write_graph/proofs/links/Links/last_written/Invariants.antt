use Rattle.std.proofs.Common.{◌≡◌, take}
use Rattle.std.specs.List.{filter}
use Rattle.write_graph.specs.Rows.{last_held}
use Rattle.write_graph.specs.Listing.{is_with}
use Rattle.write_graph.proofs.links.Links.last_written.Given as goal

abbrev pub invariant-loop-x : goal.invariant-loop-x
invariant-loop-x l = l.found.items ≡ filter (λ x. is_with l.self.graph l.slot (last_held l.self.graph.held l.self.rows x)) (take l.x-index l.objects)
