use Rattle.std.proofs.Common.{nat_lt}
use Rattle.key_entries.specs.Short.{is_short}
use Rattle.embed_c.specs.Ranges.{IfNamed, OnRange, TellsFound, hash_get, of_hash, told_found}
use Rattle.embed_c.proofs.OnHandles.{was_closed, was_open}
use Rattle.embed_c.proofs.redo_core_hash_get.Goals as goal

pub returns-in-None : goal.returns-in-None
returns-in-None c = was_closed (IfNamed (nat_lt c.args.range.now.low c.args.range.now.high) (is_short c.args.key.now) (OnRange (hash_get c.args.range.now.low c.args.range.now.high c.args.key.now) (told_found of_hash) (λ made. TellsFound made c.args.into.now c.args.into.now c.args.length.now))) c.in-None.ensures.none c.in-None.ensures.left

pub returns-in-Some : goal.returns-in-Some
returns-in-Some c = was_open (IfNamed (nat_lt c.args.range.now.low c.args.range.now.high) (is_short c.args.key.now) (OnRange (hash_get c.args.range.now.low c.args.range.now.high c.args.key.now) (told_found of_hash) (λ made. TellsFound made c.args.into.now c.hash_get-answer.new.into c.hash_get-answer.new.length))) c.in-Some.ensures.some c.deref_mut.ensures.value c.put_back.ensures c.hash_get-answer.ensures
