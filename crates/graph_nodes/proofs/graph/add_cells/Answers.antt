use Rattle.graph_nodes.proofs.graph.add_cells.Goals as goal

pub returns-clause-added : goal.returns-clause-added
returns-clause-added c = record {
  arcs = c.add_slot.ensures.cells;
  here = c.add_items.ensures.here;
  lists = c.add_items.ensures.lists;
  items = c.add_items.ensures.items;
  list_room = c.add_items.ensures.list_room;
  item_room = c.add_items.ensures.item_room;
}
