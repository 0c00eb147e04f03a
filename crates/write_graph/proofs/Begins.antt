-- Where the LSNs from one on begin, and those above it.
use Rattle.std.proofs.Common.{◌≡◌, ℕ, zero, ◌-◌, ◌<◌, ◌≤◌, List, length, true, false, arith}
use Rattle.std.specs.Prelude.{nat_le, slice_index, slice_index_or}
use Rattle.std.specs.List.Sorted.{IsPartitionPoint, IsPartitionedBy}
use Rattle.std.proofs.lemmas.Bool.{leb-true, leb-false}
use Rattle.std.proofs.lemmas.List.{get_or_default}
use Rattle.std.proofs.lemmas.List.Sorted.{IsPartitionedBy-leb}
use Rattle.write_graph.specs.Places.{NeverFall}

-- an LSN that stands later is no less
later-le : (ns : List ℕ) → NeverFall ns → (i j d : ℕ) → i ≤ j → j < length ns → slice_index_or ns i d ≤ slice_index_or ns j d
later-le ns never i j d le lt = omega (arith, get_or_default ns i d zero (omega (arith, le, lt)), get_or_default ns j d zero lt, never i j le lt)

pub parted-after : (ns : List ℕ) (n : ℕ) → NeverFall ns → IsPartitionedBy (λ (k : ℕ). nat_le k n) ns
parted-after ns n never = IsPartitionedBy-leb (λ (k : ℕ). k) ns n (later-le ns never)

pub after-before : (ns : List ℕ) (n from : ℕ) → IsPartitionPoint (λ (k : ℕ). nat_le k n ≡ true) (λ (k : ℕ). nat_le k n ≡ false) ns from → (i : ℕ) → i < from → slice_index ns i ≤ n
after-before ns n from point i lt = leb-true (slice_index ns i) n (point.0 i zero (omega arith) lt)

pub after-after : (ns : List ℕ) (n from : ℕ) → IsPartitionPoint (λ (k : ℕ). nat_le k n ≡ true) (λ (k : ℕ). nat_le k n ≡ false) ns from → (i : ℕ) → from ≤ i → i < length ns → n < slice_index ns i
after-after ns n from point i le lt = omega (arith, leb-false (slice_index ns i) n (point.1 i zero le lt))

-- where the last LSN is not greater, none is
pub before-last : (ns : List ℕ) (n count : ℕ) → NeverFall ns → count ≡ length ns → nat_le (slice_index ns (count - 1)) n ≡ true → (i : ℕ) → i < length ns → slice_index ns i ≤ n
before-last ns n count never size low i lt = omega (arith, never i (count - 1) (omega (arith, size, lt)) (omega (arith, size, lt)), leb-true (slice_index ns (count - 1)) n low)
