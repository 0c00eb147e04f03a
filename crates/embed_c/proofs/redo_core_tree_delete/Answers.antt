use Rattle.std.proofs.Common.{nat_le}
use Rattle.key_entries.specs.Short.{is_short}
use Rattle.embed_c.specs.Answers.{told}
use Rattle.embed_c.specs.Ranges.{GivesNothing, IfNamed, OnRange, of_tree, tree_delete}
use Rattle.embed_c.proofs.OnHandles.{was_closed, was_open}
use Rattle.embed_c.proofs.redo_core_tree_delete.Goals as goal

pub returns-in-None : goal.returns-in-None
returns-in-None c = was_closed (IfNamed (nat_le c.args.range.now.low c.args.range.now.high) (is_short c.args.key.now) (OnRange (tree_delete c.args.range.now.low c.args.range.now.high c.args.key.now) (told of_tree) GivesNothing)) c.in-None.ensures.none c.in-None.ensures.left

pub returns-in-Some : goal.returns-in-Some
returns-in-Some c = was_open (IfNamed (nat_le c.args.range.now.low c.args.range.now.high) (is_short c.args.key.now) (OnRange (tree_delete c.args.range.now.low c.args.range.now.high c.args.key.now) (told of_tree) GivesNothing)) c.in-Some.ensures.some c.deref_mut.ensures.value c.put_back.ensures c.tree_delete-answer.ensures
