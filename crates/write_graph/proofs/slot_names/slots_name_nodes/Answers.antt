use Rattle.write_graph.proofs.Naming.{name-is, slot-is}
use Rattle.write_graph.proofs.slot_names.slots_name_nodes.Goals as goal

pub returns-clause-slots : goal.returns-clause-slots
returns-clause-slots c = λ entries g n node are is. slot-is record {
  tells = c.representatives_tell_nodes.ensures;
  lsns = c.nodes_stand_for_nodes.ensures.lsns;
  places = c.nodes_stand_for_nodes.ensures.places;
  name = c.nodes_stand_for_nodes.ensures.name;
  free = c.nodes_stand_for_nodes.ensures.free;
  arcs = c.no_arc_is_no_edge.ensures;
} entries g are n node is

pub returns-clause-names : goal.returns-clause-names
returns-clause-names c = λ entries g i are is. name-is record {
  tells = c.representatives_tell_nodes.ensures;
  lsns = c.nodes_stand_for_nodes.ensures.lsns;
  places = c.nodes_stand_for_nodes.ensures.places;
  name = c.nodes_stand_for_nodes.ensures.name;
  free = c.nodes_stand_for_nodes.ensures.free;
  arcs = c.no_arc_is_no_edge.ensures;
} entries g are i is
