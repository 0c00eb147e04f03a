use Rattle.std.proofs.Common.{rules, ◌≡◌, ℕ, true, false}
use Rattle.std.specs.Prelude.{nat_le}
use Rattle.std.specs.List.Sorted.{IsPartitionPoint}
use Rattle.std.proofs.lemmas.List.Sorted.{IsPartitionPoint-from_clause}
use Rattle.write_graph.proofs.Begins.{parted-after, after-before, after-after}
use Rattle.write_graph.proofs.places.slot_after.Goals as goal

point : (c : goal.After-partition_point) → IsPartitionPoint (λ (k : ℕ). nat_le k c.args.n ≡ true) (λ (k : ℕ). nat_le k c.args.n ≡ false) c.args.lsns.now c.partition_point.result
point c = IsPartitionPoint-from_clause (λ (k : ℕ). nat_le k c.args.n) c.args.lsns.now c.partition_point.result c.partition_point.ensures.partitioned (parted-after c.args.lsns.now c.args.n c.requires.rising) (λ a r f' k. search rules)

pub returns-then-none_is_after-clause-before : goal.returns-then-none_is_after-clause-before
returns-then-none_is_after-clause-before c i lt = c.none_is_after.ensures c.if-none_is_after.true i lt

pub returns-clause-before : goal.returns-clause-before
returns-clause-before c i lt = after-before c.args.lsns.now c.args.n c.partition_point.result (point c) i lt

pub returns-clause-after : goal.returns-clause-after
returns-clause-after c i le lt = after-after c.args.lsns.now c.args.n c.partition_point.result (point c) i le lt
