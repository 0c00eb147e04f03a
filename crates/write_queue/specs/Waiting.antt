-- A queue as a list of calls of the disk model.
use Rattle.std.specs.Prelude.{◌<◌, List, map, vec_len, vec_capacity}
use Rattle.disk_model.specs.Call.{Call}
use Rattle.disk_model.specs.Call as disk
use Rattle.write_queue.specs.declared.queue.Queue.{Queue}
use Rattle.write_queue.specs.declared.queued.Queued.{Queued}
use Rattle.write_queue.specs.declared.queued.Queued.TheVariants.{Write, Sync, Say}

abbrev pub call_of : Queued → Call
call_of (Write file at bytes) = disk.Write file at bytes.items
call_of (Sync file) = disk.Sync file
call_of (Say bytes) = disk.Say bytes.items

abbrev pub calls_in : List Queued → List Call
calls_in queued = map call_of queued

-- the calls that wait
abbrev pub waiting : Queue → List Call
waiting queue = calls_in queue.calls.items

-- one call more takes no memory
abbrev pub has_room : Queue → Type 0
has_room queue = vec_len queue.calls < vec_capacity queue.calls
