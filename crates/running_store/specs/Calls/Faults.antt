-- Which of a call's answers say that the disk failed, and what an error of a store is among the wider ones.
use Rattle.std.specs.Prelude.{Bool, true, false, Result, Ok, Err}
use Rattle.formats.specs.declared.read_err.ReadErr.{ReadErr}
use Rattle.formats.specs.declared.read_err.ReadErr.TheVariants as of_read
use Rattle.log_records.specs.declared.copy_err.CopyErr.{CopyErr}
use Rattle.log_records.specs.declared.copy_err.CopyErr.TheVariants as of_copy
use Rattle.log_records.specs.declared.rewrite_err.RewriteErr.{RewriteErr}
use Rattle.log_records.specs.declared.rewrite_err.RewriteErr.TheVariants as of_rewrite
use Rattle.running_store.specs.declared.store_err.StoreErr.{StoreErr}
use Rattle.running_store.specs.declared.store_err.StoreErr.TheVariants as of_store

abbrev pub is_read_fault : ReadErr → Bool
is_read_fault of_read.DiskFault = true
is_read_fault (of_read.Damaged file place) = false
is_read_fault of_read.Memory = false

abbrev pub is_rewrite_fault : RewriteErr → Bool
is_rewrite_fault (of_rewrite.LogFull used need limit) = false
is_rewrite_fault (of_rewrite.Exhausted epoch) = false
is_rewrite_fault of_rewrite.DiskFault = true
is_rewrite_fault (of_rewrite.Damaged file place) = false
is_rewrite_fault of_rewrite.Memory = false

-- of a log that is copied to another machine the log's own disk
abbrev pub is_copy_fault : CopyErr → Bool
is_copy_fault (of_copy.LogFull used need limit) = false
is_copy_fault of_copy.DiskFault = true
is_copy_fault of_copy.TargetFault = false
is_copy_fault (of_copy.Damaged file place) = false
is_copy_fault of_copy.Memory = false

-- the answer is an error that is one
abbrev pub has_failed : {T E : Type 0} → (E → Bool) → Result T E → Bool
has_failed is_fault (Ok value) = false
has_failed is_fault (Err e) = is_fault e

-- an error of a store, of a call that reads
abbrev pub read_from_store : StoreErr → ReadErr
read_from_store of_store.DiskFault = of_read.DiskFault
read_from_store of_store.Memory = of_read.Memory
