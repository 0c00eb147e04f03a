use Rattle.std.proofs.Common.{refl}
use Rattle.graph_view.proofs.nodes.take_node.Goals as goal

pub ops-requires : goal.ops-requires
ops-requires c = (c.requires.0, c.requires.1)

pub flush_set-requires : goal.flush_set-requires
flush_set-requires c = (c.requires.0, c.requires.1)

pub returns : goal.returns
returns c = record {
  set = c.requires.0;
  node = record { name = c.args.name; members = c.in_ok-members.members.items; flush_set = c.in_ok-flush_set.flush_set.items };
  row = record {
    named = c.requires.1;
    members = c.in_ok-members.ensures c.requires.0 c.requires.1;
    flush_set = c.in_ok-flush_set.ensures c.requires.0 c.requires.1;
  };
  is_named = refl;
  text = cc (c.in_ok-push_node.ensures);
  entries = c.remove_minimal.ensures.entries c.requires.0 c.requires.1;
  others = λ n other is. ((c.remove_minimal.ensures.nodes n other).0 is).0;
  flush_sets = c.remove_minimal.ensures.flush_sets;
  fewer = c.remove_minimal.ensures.fewer;
}
