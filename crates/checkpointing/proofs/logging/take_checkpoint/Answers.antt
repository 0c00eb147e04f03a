use Rattle.running_store.specs.Calls.Laws.{unbroken_after}
use Rattle.running_store.specs.Calls.{IsCall, Never, call_none, call_twice}
use Rattle.running_store.specs.Taking.{Takes}
use Rattle.running_store.specs.Taking.Ending.{Done, Short, Failed}
use Rattle.running_store.specs.Taking.Laws.{takes_both, takes_first, takes_nothing}
use Rattle.running_store.specs.declared.store_err.StoreErr.TheVariants.{DiskFault, Memory}
use Rattle.cache_manager.specs.Endings.{at_err}
use Rattle.checkpointing.specs.Courses.{taking_course, logged_course}
use Rattle.checkpointing.specs.Left.{Overlong, checkpoint_ending}
use Rattle.checkpointing.proofs.CheckpointLogs.{here_roomed, now_here, room_course, taken_roomed, takes_room}
use Rattle.checkpointing.proofs.Ended.{call_ends, call_on, counts_none, counts_roomed, counts_twice}
use Rattle.checkpointing.proofs.logging.take_checkpoint.Goals as goal

pub returns-in_err-table-clause-call : goal.returns-in_err-table-clause-call
returns-in_err-table-clause-call g c =
    let d = g.M.Machine.disk c.args.machine.now in
    let it = c.args.store.now in
    at_err (λ r. IsCall g.O.Oper.meaning d d it it 0 Overlong (checkpoint_ending it.parts.log r)) c.from_residual.result Memory c.from_residual.ensures.1
    (call_ends g.O.Oper.meaning d d it it Never Overlong Done Short (λ failed. failed) (λ failed. failed) tt (call_none g.O.Oper.meaning d it Never (g.met.M.Machine.lawful c.args.machine.now) c.requires.unbroken))

pub returns-in_err-table-clause-takes : goal.returns-in_err-table-clause-takes
returns-in_err-table-clause-takes g c =
    let d = g.M.Machine.disk c.args.machine.now in
    let it = c.args.store.now.parts in
    at_err (λ r. Takes g.O.Oper.meaning d d it it (λ m w used. taking_course m w used) (checkpoint_ending it.log r)) c.from_residual.result Memory c.from_residual.ensures.1
    (takes_nothing g.O.Oper.meaning d it (g.met.M.Machine.lawful c.args.machine.now) (λ m w used. taking_course m w used))

pub returns-in_err-table-clause-counts : goal.returns-in_err-table-clause-counts
returns-in_err-table-clause-counts g c = counts_none c.args.store.now

pub returns-in_err-make_block_room-clause-call : goal.returns-in_err-make_block_room-clause-call
returns-in_err-make_block_room-clause-call g c =
    let d = g.M.Machine.disk c.args.machine.now in
    let new = g.M.Machine.disk c.make_block_room.new.machine in
    let it = c.args.store.now in
    let after = c.make_block_room.new.self in
    at_err (λ r. IsCall g.O.Oper.meaning d new it after 0 Overlong (checkpoint_ending after.parts.log r)) c.from_residual-in_err-make_block_room.result DiskFault c.from_residual-in_err-make_block_room.ensures.1
    (call_on g.O.Oper.meaning d new it after Never Overlong Failed c.in_err-make_block_room.ensures.call)

pub returns-in_err-make_block_room-clause-takes : goal.returns-in_err-make_block_room-clause-takes
returns-in_err-make_block_room-clause-takes g c =
    let meaning = g.O.Oper.meaning in
    let d = g.M.Machine.disk c.args.machine.now in
    let new = g.M.Machine.disk c.make_block_room.new.machine in
    let it = c.args.store.now.parts in
    let after = c.make_block_room.new.self.parts in
    let table = c.in_ok-table.table in
    at_err (λ r. Takes meaning d new it after (λ m w used. taking_course m w used) (checkpoint_ending after.log r)) c.from_residual-in_err-make_block_room.result DiskFault c.from_residual-in_err-make_block_room.ensures.1
    (takes_first meaning (λ m w used. room_course m w used) (λ m w used. logged_course m w used) d new it after Failed tt
    (takes_room meaning d it table c.in_ok-table.ensures.here (now_here meaning table d it c.in_ok-table.ensures.now) c.checkpoint_bytes.result c.checkpoint_bytes.ensures new after Failed c.in_err-make_block_room.ensures.takes))

pub returns-in_err-make_block_room-clause-counts : goal.returns-in_err-make_block_room-clause-counts
returns-in_err-make_block_room-clause-counts g c = counts_roomed c.args.store.now c.make_block_room.new.self c.make_block_room.result c.make_block_room.ensures.same

pub log_checkpoint-requires-clause-unbroken : goal.log_checkpoint-requires-clause-unbroken
log_checkpoint-requires-clause-unbroken g c =
    unbroken_after g.O.Oper.meaning (g.M.Machine.disk c.args.machine.now) (g.M.Machine.disk c.make_block_room.new.machine) c.args.store.now c.make_block_room.new.self 0 Never c.in_ok-make_block_room.ensures.call

pub log_checkpoint-requires-clause-checkpoint : goal.log_checkpoint-requires-clause-checkpoint
log_checkpoint-requires-clause-checkpoint g c =
    here_roomed g.O.Oper.meaning c.in_ok-table.table c.args.store.now c.make_block_room.new.self c.in_ok-make_block_room.ensures.same c.in_ok-table.ensures.here

pub returns-clause-call : goal.returns-clause-call
returns-clause-call g c =
    let d = g.M.Machine.disk c.args.machine.now in
    let mid = g.M.Machine.disk c.make_block_room.new.machine in
    let new = g.M.Machine.disk c.log_checkpoint.new.machine in
    let last = c.log_checkpoint.new.store in
    call_twice g.O.Oper.meaning d mid new c.args.store.now c.make_block_room.new.self last 0 0 Never Overlong (checkpoint_ending last.parts.log c.log_checkpoint.result) c.in_ok-make_block_room.ensures.call c.log_checkpoint.ensures.call

pub returns-clause-takes : goal.returns-clause-takes
returns-clause-takes g c =
    let meaning = g.O.Oper.meaning in
    let d = g.M.Machine.disk c.args.machine.now in
    let mid = g.M.Machine.disk c.make_block_room.new.machine in
    let new = g.M.Machine.disk c.log_checkpoint.new.machine in
    let it = c.args.store.now in
    let here = c.make_block_room.new.self in
    let last = c.log_checkpoint.new.store in
    let table = c.in_ok-table.table in
    let room = takes_room meaning d it.parts table c.in_ok-table.ensures.here (now_here meaning table d it.parts c.in_ok-table.ensures.now) c.checkpoint_bytes.result c.checkpoint_bytes.ensures mid here.parts Done c.in_ok-make_block_room.ensures.takes in
    takes_both meaning (λ m w used. room_course m w used) (λ m w used. logged_course m w used) d mid new it.parts here.parts last.parts (checkpoint_ending last.parts.log c.log_checkpoint.result) c.in_ok-make_block_room.ensures.call.quiet room
    (c.log_checkpoint.ensures.takes (now_here meaning table mid here.parts (taken_roomed meaning table it here c.in_ok-make_block_room.ensures.same c.in_ok-table.ensures.now)))

pub returns-clause-counts : goal.returns-clause-counts
returns-clause-counts g c =
    counts_twice c.args.store.now c.make_block_room.new.self c.log_checkpoint.new.store (counts_roomed c.args.store.now c.make_block_room.new.self c.make_block_room.result c.make_block_room.ensures.same) c.log_checkpoint.ensures.counts
