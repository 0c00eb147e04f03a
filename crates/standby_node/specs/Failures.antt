-- What a failure of a call below is for a stream.
use Rattle.execution.specs.declared.record_err.RecordErr.{RecordErr}
use Rattle.execution.specs.declared.record_err.RecordErr.TheVariants as of_record
use Rattle.running_store.specs.declared.store_err.StoreErr.{StoreErr}
use Rattle.running_store.specs.declared.store_err.StoreErr.TheVariants as of_store
use Rattle.standby_node.specs.declared.follow_err.FollowErr.{FollowErr}
use Rattle.standby_node.specs.declared.follow_err.FollowErr.TheVariants.{Gap, Differs, LogFull, DiskFault, Damaged, Memory}

abbrev pub follow_from_record : RecordErr → FollowErr
follow_from_record (of_record.Gap expected got) = Gap expected got
follow_from_record (of_record.Differs lsn) = Differs lsn
follow_from_record (of_record.LogFull used need limit) = LogFull used need limit
follow_from_record of_record.DiskFault = DiskFault
follow_from_record (of_record.Damaged file place) = Damaged file place
follow_from_record of_record.Memory = Memory

abbrev pub follow_from_store : StoreErr → FollowErr
follow_from_store of_store.DiskFault = DiskFault
follow_from_store of_store.Memory = Memory
