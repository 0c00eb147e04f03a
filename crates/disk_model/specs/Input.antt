-- What proofs know of input in memory, and when its reads fail.
use Rattle.std.specs.Prelude.{◌≡◌, ℕ, ◌+◌, ◌-◌, ◌^◌, ◌<◌, min, List, drop, Contains}
use Rattle.disk_model.specs.declared.mem_source.MemSource.{MemSource}

abbrev pub left_of : MemSource → List ℕ
left_of s = drop s.taken s.bytes.items

abbrev pub reads_made : MemSource → ℕ
reads_made s = s.reads

-- the numbers of the reads that fail, from 1 on
abbrev pub failing_reads : MemSource → List ℕ
failing_reads s = s.fails.items

abbrev pub faults_of : MemSource → ℕ
faults_of s = s.faults

-- the number of the next read is one of a read that fails; the numbers end where a count does
abbrev pub NextReadFails : MemSource → Type 0
NextReadFails s = (reads_made s < 2 ^ 64 - 1) × Contains (failing_reads s) (reads_made s + 1)

-- one read more
pub record CountsRead (old new : MemSource) : Type 0 where
  pub reads : reads_made new ≡ min (reads_made old + 1) (2 ^ 64 - 1)
  pub failing : failing_reads new ≡ failing_reads old
