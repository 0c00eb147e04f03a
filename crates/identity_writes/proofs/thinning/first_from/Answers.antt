use Rattle.std.proofs.Common.{ℕ, arith, rules, ltb, ltb-true}
use Rattle.std.proofs.lemmas.Bool.{ltb-false}
use Rattle.std.proofs.lemmas.List.Sorted.{IsPartitionPoint-from_clause, IsPartitionedBy-ltb}
use Rattle.identity_writes.proofs.Keeping.{rises}
use Rattle.identity_writes.proofs.thinning.first_from.Goals as goal

pub returns-clause-below : goal.returns-clause-below
returns-clause-below c =
    let parted = IsPartitionedBy-ltb (λ (x : ℕ). x) c.args.objects.now c.args.least (rises c.args.objects.now c.requires.rising) in
    let point = IsPartitionPoint-from_clause (λ (x : ℕ). ltb x c.args.least) _ _ c.partition_point.ensures.partitioned parted (λ a r q k. search rules) in
    λ k h. ltb-true _ _ (point.0 k 0 (omega arith) h)

pub returns-clause-above : goal.returns-clause-above
returns-clause-above c =
    let parted = IsPartitionedBy-ltb (λ (x : ℕ). x) c.args.objects.now c.args.least (rises c.args.objects.now c.requires.rising) in
    let point = IsPartitionPoint-from_clause (λ (x : ℕ). ltb x c.args.least) _ _ c.partition_point.ensures.partitioned parted (λ a r q k. search rules) in
    λ k low high. ltb-false _ _ (point.1 k 0 low high)
