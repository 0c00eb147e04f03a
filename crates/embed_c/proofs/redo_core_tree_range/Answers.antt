use Rattle.std.proofs.Common.{◌&&◌, nat_le}
use Rattle.key_entries.specs.Short.{is_short}
use Rattle.embed_c.specs.Ranges.{IfNamed, IsRanged}
use Rattle.embed_c.proofs.OnHandles.{was_closed, was_open}
use Rattle.embed_c.proofs.redo_core_tree_range.Goals as goal

pub returns-in-None : goal.returns-in-None
returns-in-None c = was_closed (IfNamed (nat_le c.args.range.now.low c.args.range.now.high) (is_short c.args.from.now && is_short c.args.to.now) (IsRanged c.args.range.now.low c.args.range.now.high c.args.from.now c.args.to.now c.args.count.now)) c.in-None.ensures.none c.in-None.ensures.left

pub returns-in-Some : goal.returns-in-Some
returns-in-Some c = was_open (IfNamed (nat_le c.args.range.now.low c.args.range.now.high) (is_short c.args.from.now && is_short c.args.to.now) (IsRanged c.args.range.now.low c.args.range.now.high c.args.from.now c.args.to.now c.tree_range-answer.new.count)) c.in-Some.ensures.some c.deref_mut.ensures.value c.put_back.ensures c.tree_range-answer.ensures
