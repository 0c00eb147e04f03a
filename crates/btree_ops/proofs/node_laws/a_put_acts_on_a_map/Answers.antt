use Rattle.key_entries.specs.PairLaws.{put_updates, put_keeps}
use Rattle.btree_ops.proofs.node_laws.a_put_acts_on_a_map.Goals as goal

pub returns : goal.returns
returns c = record { map = put_updates; node = put_keeps }
