use Rattle.key_entries.specs.PairLaws.{delete_updates, delete_keeps}
use Rattle.btree_ops.proofs.node_laws.a_delete_acts_on_a_map.Goals as goal

pub returns : goal.returns
returns c = record { map = delete_updates; node = delete_keeps }
