use Rattle.std.proofs.Common.{◌≡◌, ◌∙◌, sym, subst, ap, arith, ◌+◌, ◌≤◌, length, true, false, ℕ, [], ◌∷◌, ◌++◌}
use Rattle.std.specs.Prelude.{◌^◌}
use Rattle.disk_model.specs.Disk.{Disk, IsDisk}
use Rattle.dirty_cache.specs.Contents.{held, is_dirty}
use Rattle.log_records.specs.RecordLog.{RecordLogView}
use Rattle.running_store.specs.Calls.AfterReads.{call_stopped}
use Rattle.running_store.specs.Calls.Laws.{IsLogging, logging_none, logging_twice, unbroken_after}
use Rattle.running_store.specs.Calls.{IsForcedOrNot, Never, call_as}
use Rattle.running_store.specs.Calls.Commands.{left_call, left_takes}
use Rattle.running_store.specs.Courses.{identity_length}
use Rattle.cache_manager.specs.InstallCourses.{identity_course}
use Rattle.running_store.specs.Parts.InUse.{dirty_cached}
use Rattle.running_store.specs.Kept.Keeping.{appended_longer}
use Rattle.running_store.specs.Kept.{StopsAt}
use Rattle.running_store.specs.Laid.{Laid}
use Rattle.formats.specs.Limits.{log_limit}
use Rattle.running_store.specs.StoreView.{StoreView, logged_since, next_of}
use Rattle.running_store.specs.Taking.{Ending, Takes}
use Rattle.running_store.specs.Taking.Ending.{Done, Stopped, Failed, Short}
use Rattle.running_store.specs.Taking.Laws.{takes_both, takes_first}
use Rattle.running_store.specs.Calls.Writes.{write_call, write_longer, write_takes}
use Rattle.running_store.specs.Steps.Written.{room_is_place, value_cached}
use Rattle.cache_manager.specs.Endings.{failed_ends, short_ends}
use Rattle.cache_manager.specs.LogsDirty.{identity_entries}
use Rattle.cache_manager.specs.RecordPlace.{HasRecordPlace, LacksRecordPlace}
use Rattle.cache_manager.proofs.IdentityWrite.Taken.{length_shown, place, refused, room, takes_identity, takes_refused, takes_unforced, takes_written}
use Rattle.cache_manager.proofs.identity.log_identity.Given.{Over}
use Rattle.cache_manager.proofs.identity.log_identity.Goals.{In-Some, In_ok-make_block_room}
use Rattle.cache_manager.proofs.identity.log_identity.Goals as goal

-- where room is made, the objects stay
same_objects : (before here : StoreView) → IsForcedOrNot before here → here.parts.volatile.objects ≡ before.parts.volatile.objects
same_objects before here is = ap (λ (s : StoreView). s.parts.volatile.objects) is.same

still_dirty : (x : ℕ) {laid later : Laid} → later ≡ laid → is_dirty laid.cache x ≡ true → is_dirty later.cache x ≡ true
still_dirty x same dirty = ap (λ (l : Laid). is_dirty l.cache x) same ∙ dirty

pub value-requires : goal.value-requires
value-requires g c = dirty_cached c.objects.result.now.cache c.args.x (still_dirty c.args.x c.objects.ensures c.requires.dirty)

pub make_block_room-requires-clause-short : goal.make_block_room-requires-clause-short
make_block_room-requires-clause-short g c = omega (arith, c.value.ensures.short, ap (λ (l : Laid). l.slots.params.cap) c.objects.ensures, c.params-params.ensures.range.cap)

-- once there is room for its record
module _ (g : Over) (c : In_ok-make_block_room g) where
  abbrev d : Disk
  d = g.M.Machine.disk c.args.machine.now

  abbrev mid : Disk
  mid = g.M.Machine.disk c.make_block_room.new.machine

  abbrev before : StoreView
  before = c.args.store.now

  abbrev here : StoreView
  here = c.make_block_room.new.self

  abbrev n : ℕ
  n = 17 + length c.value.result.now

  fine : here.broken ≡ false
  fine = unbroken_after g.O.Oper.meaning d mid before here 0 Never c.in_ok-make_block_room.ensures.call

  lawful : IsDisk mid
  lawful = g.met.M.Machine.lawful c.make_block_room.new.machine

  module _ (new : Disk) (after : StoreView) (ending : Ending) where
    calls : IsLogging g.O.Oper.meaning mid new here after (StopsAt log_limit) ending → IsLogging g.O.Oper.meaning d new before after (StopsAt log_limit) ending
    calls call =
        logging_twice g.O.Oper.meaning d mid new before here after (StopsAt log_limit) ending
        (logging_none g.O.Oper.meaning d mid before here (StopsAt log_limit) Done c.in_ok-make_block_room.ensures.same.long.next c.in_ok-make_block_room.ensures.call) call

    takes : Takes g.O.Oper.meaning mid new here.parts after.parts (place g.O.Oper.meaning c.args.x n) ending → Takes g.O.Oper.meaning d new before.parts after.parts (λ m w used. identity_course m c.args.x w used) ending
    takes later =
        takes_identity g.O.Oper.meaning c.args.x n d new before.parts after.parts ending (length_shown g.O.Oper.meaning c.args.x d before.parts c.objects.result.now c.value.result.now c.objects.ensures c.requires.dirty c.value.ensures.value)
        (takes_both g.O.Oper.meaning (room g.O.Oper.meaning c.args.x n) (place g.O.Oper.meaning c.args.x n) d mid new before.parts here.parts after.parts ending c.in_ok-make_block_room.ensures.call.quiet c.in_ok-make_block_room.ensures.takes later)

pub force-requires : goal.force-requires
force-requires g c = record { unbroken = fine g (goal.at.force-requires g c).In_ok-make_block_room }

pub append_identity-requires-clause-unbroken : goal.append_identity-requires-clause-unbroken
append_identity-requires-clause-unbroken g c = fine g (goal.at.append_identity-requires-clause-unbroken g c).In_ok-make_block_room

pub append_identity-requires-clause-cached : goal.append_identity-requires-clause-cached
append_identity-requires-clause-cached g c =
    let here = c.make_block_room.new.self in
    dirty_cached here.parts.volatile.objects.cache c.args.x (still_dirty c.args.x (same_objects c.args.store.now here c.in_ok-make_block_room.ensures.same) c.requires.dirty)

pub append_identity-requires-clause-place : goal.append_identity-requires-clause-place
append_identity-requires-clause-place g c = λ pair had.
    let here = c.make_block_room.new.self in
    let same : here.parts.volatile.objects ≡ c.objects.result.now = same_objects c.args.store.now c.make_block_room.new.self c.in_ok-make_block_room.ensures.same ∙ sym c.objects.ensures in
    let long = ap length (value_cached c.objects.result.now c.args.x pair c.value.result.now (ap (λ (l : Laid). held l.cache c.args.x) (sym same) ∙ had) c.value.ensures.value) in
    room_is_place here.parts.log.log (17 + length c.value.result.now) (identity_length (length pair.bytes)) (omega (arith, long)) c.in_ok-make_block_room.ensures.room (subst (λ (l : RecordLogView). HasRecordPlace l (17 + length c.value.result.now)) c.log.ensures c.in_default.ensures.none).fits

pub returns-in_err-make_block_room-clause-call : goal.returns-in_err-make_block_room-clause-call
returns-in_err-make_block_room-clause-call g c =
    let meaning = g.O.Oper.meaning in
    let d = g.M.Machine.disk c.args.machine.now in
    let mid = g.M.Machine.disk c.make_block_room.new.machine in
    let before = c.args.store.now in
    let here = c.make_block_room.new.self in
    subst (λ (k : Ending). IsLogging meaning d mid before here (StopsAt log_limit) k) (failed_ends c.from_residual.result c.from_residual.ensures.1)
    (logging_none meaning d mid before here (StopsAt log_limit) Failed (ap (λ (s : StoreView). next_of s) c.in_err-make_block_room.ensures.same) c.in_err-make_block_room.ensures.call)

pub returns-in_err-make_block_room-clause-takes : goal.returns-in_err-make_block_room-clause-takes
returns-in_err-make_block_room-clause-takes g c =
    let meaning = g.O.Oper.meaning in
    let d = g.M.Machine.disk c.args.machine.now in
    let mid = g.M.Machine.disk c.make_block_room.new.machine in
    let before = c.args.store.now.parts in
    let here = c.make_block_room.new.self.parts in
    let x = c.args.x in
    let n = 17 + length c.value.result.now in
    subst (λ (k : Ending). Takes meaning d mid before here (λ m w used. identity_course m x w used) k) (failed_ends c.from_residual.result c.from_residual.ensures.1)
    (takes_identity meaning x n d mid before here Failed (length_shown meaning x d before c.objects.result.now c.value.result.now c.objects.ensures c.requires.dirty c.value.ensures.value)
    (takes_first meaning (room meaning x n) (place meaning x n) d mid before here Failed tt c.in_err-make_block_room.ensures.takes))

-- it has no place
lacks : (g : Over) (c : In-Some g) → LacksRecordPlace c.make_block_room.new.self.parts.log (17 + length c.value.result.now) c.in-Some.e
lacks g c = subst (λ (l : RecordLogView). LacksRecordPlace l (17 + length c.value.result.now) c.in-Some.e) c.log.ensures c.in-Some.ensures.some

pub returns-in_err-force-clause-call : goal.returns-in_err-force-clause-call
returns-in_err-force-clause-call g c =
    let at = (goal.at.returns-in_err-force-clause-call g c).In_ok-make_block_room in
    let new = g.M.Machine.disk c.force.new.machine in
    let after = c.force.new.self in
    subst (λ (k : Ending). IsLogging g.O.Oper.meaning (d g at) new c.args.store.now after (StopsAt log_limit) k) (failed_ends c.from_residual-in_err-force.result c.from_residual-in_err-force.ensures.1)
    (calls g at new after Failed (logging_none g.O.Oper.meaning (mid g at) new (here g at) after (StopsAt log_limit) Failed (ap (λ (s : StoreView). next_of s) c.in_err-force.ensures.forced) c.in_err-force.ensures.call))

pub returns-in_err-force-clause-takes : goal.returns-in_err-force-clause-takes
returns-in_err-force-clause-takes g c =
    let in_goal = goal.at.returns-in_err-force-clause-takes g c in
    let at = in_goal.In_ok-make_block_room in
    let new = g.M.Machine.disk c.force.new.machine in
    let after = c.force.new.self in
    subst (λ (k : Ending). Takes g.O.Oper.meaning (d g at) new c.args.store.now.parts after.parts (λ m w used. identity_course m c.args.x w used) k) (failed_ends c.from_residual-in_err-force.result c.from_residual-in_err-force.ensures.1)
    (takes g at new after Failed (takes_unforced g.O.Oper.meaning c.args.x (n g at) (mid g at) new (here g at).parts after.parts c.in-Some.e (lacks g in_goal.In-Some) c.in_err-force.ensures.takes))

pub returns-in-Some-clause-call : goal.returns-in-Some-clause-call
returns-in-Some-clause-call g c =
    let in_goal = goal.at.returns-in-Some-clause-call g c in
    let at = in_goal.In_ok-make_block_room in
    let new = g.M.Machine.disk c.force.new.machine in
    let after = c.force.new.self in
    let stop = refused g.O.Oper.meaning c.args.x (n g at) (mid g at) new (here g at).parts after.parts c.in-Some.e (lacks g in_goal.In-Some) in
    let forced = c.in_ok-force.ensures.forced.0 in
    let low : c.make_block_room.new.self.parts.log.next ≤ 2 ^ 62 = omega (arith, c.in_ok-make_block_room.ensures.same.long.next, (c.params-params.ensures.in_use c.requires.unbroken).store.low) in
    subst (λ (k : Ending). IsLogging g.O.Oper.meaning (d g at) new c.args.store.now after (StopsAt log_limit) k) stop.1
    (calls g at new after (Stopped stop.0)
    (call_as g.O.Oper.meaning (mid g at) new (here g at) after 0 (logged_since (here g at) after) (StopsAt log_limit) (StopsAt log_limit) (Stopped stop.0) (omega (arith, ap (λ (l : RecordLogView). l.next) forced)) (λ other ends is. is)
    (call_stopped g.O.Oper.meaning (mid g at) new (here g at) after 0 (StopsAt log_limit) stop.0 (stop.2 forced low) c.in_ok-force.ensures.call)))

pub returns-in-Some-clause-takes : goal.returns-in-Some-clause-takes
returns-in-Some-clause-takes g c =
    let in_goal = goal.at.returns-in-Some-clause-takes g c in
    let at = in_goal.In_ok-make_block_room in
    takes g at (g.M.Machine.disk c.force.new.machine) c.force.new.self _
    (takes_refused g.O.Oper.meaning c.args.x (n g at) (mid g at) (g.M.Machine.disk c.force.new.machine) (here g at).parts c.force.new.self.parts c.in-Some.e (lacks g in_goal.In-Some) c.in_ok-force.ensures.takes)

-- there is no memory for it
pub returns-in_err-append_identity-clause-call : goal.returns-in_err-append_identity-clause-call
returns-in_err-append_identity-clause-call g c =
    let at = (goal.at.returns-in_err-append_identity-clause-call g c).In_ok-make_block_room in
    let after = c.append_identity.new.self in
    let done = c.in_err-append_identity.ensures in
    subst (λ (k : Ending). IsLogging g.O.Oper.meaning (d g at) (mid g at) c.args.store.now after (StopsAt log_limit) k) (short_ends c.from_residual-in_err-append_identity.result c.from_residual-in_err-append_identity.ensures.1)
    (calls g at (mid g at) after Short
    (logging_none g.O.Oper.meaning (mid g at) (mid g at) (here g at) after (StopsAt log_limit) Short (ap (λ (r : RecordLogView). r.next) done.untaken.log) (left_call g.O.Oper.meaning (here g at) after (fine g at) (mid g at) (lawful g at) done)))

pub returns-in_err-append_identity-clause-takes : goal.returns-in_err-append_identity-clause-takes
returns-in_err-append_identity-clause-takes g c =
    let at = (goal.at.returns-in_err-append_identity-clause-takes g c).In_ok-make_block_room in
    let after = c.append_identity.new.self in
    subst (λ (k : Ending). Takes g.O.Oper.meaning (d g at) (mid g at) c.args.store.now.parts after.parts (λ m w used. identity_course m c.args.x w used) k) (short_ends c.from_residual-in_err-append_identity.result c.from_residual-in_err-append_identity.ensures.1)
    (takes g at (mid g at) after Short (left_takes g.O.Oper.meaning (here g at) after (fine g at) (mid g at) (lawful g at) c.in_err-append_identity.ensures (place g.O.Oper.meaning c.args.x (n g at))))

-- it is logged
pub returns-clause-call : goal.returns-clause-call
returns-clause-call g c =
    let at = (goal.at.returns-clause-call g c).In_ok-make_block_room in
    let after = c.append_identity.new.self in
    let done = c.in_ok-append_identity.ensures in
    let dirty = still_dirty c.args.x (same_objects c.args.store.now (here g at) c.in_ok-make_block_room.ensures.same) c.requires.dirty in
    calls g at (mid g at) after Done
    (call_as g.O.Oper.meaning (mid g at) (mid g at) (here g at) after 1 (logged_since (here g at) after) Never (StopsAt log_limit) Done
    (omega (arith, (write_longer g.O.Oper.meaning (here g at) after (fine g at) (mid g at) (lawful g at) c.args.x done g.met.O.Oper.bounded dirty).next)) (λ stop ends none. absurd none)
    (write_call g.O.Oper.meaning (here g at) after (fine g at) (mid g at) (lawful g at) c.args.x done g.met.O.Oper.bounded))

pub returns-clause-takes : goal.returns-clause-takes
returns-clause-takes g c =
    let at = (goal.at.returns-clause-takes g c).In_ok-make_block_room in
    let after = c.append_identity.new.self in
    let same = same_objects c.args.store.now (here g at) c.in_ok-make_block_room.ensures.same in
    takes g at (mid g at) after Done
    (takes_written g.O.Oper.meaning c.args.x (n g at) (mid g at) (mid g at) (here g at).parts after.parts
    (length_shown g.O.Oper.meaning c.args.x (mid g at) (here g at).parts c.objects.result.now c.value.result.now (c.objects.ensures ∙ sym same) (still_dirty c.args.x same c.requires.dirty) c.value.ensures.value)
    (subst (λ (l : RecordLogView). HasRecordPlace l (n g at)) c.log.ensures c.in_default.ensures.none)
    (write_takes g.O.Oper.meaning (here g at) after (fine g at) (mid g at) (lawful g at) c.args.x c.in_ok-append_identity.ensures g.met.O.Oper.bounded c.append_keeps.ensures.identity))

pub returns-clause-logged : goal.returns-clause-logged
returns-clause-logged g c =
    let here = c.make_block_room.new.self.parts in
    let done = c.in_ok-append_identity.ensures in
    let same = c.in_ok-make_block_room.ensures.same in
    appended_longer (g.O.Oper.meaning here.log.bounds) c.args.x done.pair here c.append_identity.new.self.parts done.had done.appended (still_dirty c.args.x (same_objects c.args.store.now c.make_block_room.new.self same) c.requires.dirty) c.args.store.now.parts same.long.next (ap (λ (s : StoreView). s.parts.volatile) same.same)

pub returns-clause-entries : goal.returns-clause-entries
returns-clause-entries g c =
    let before = c.args.store.now in
    let here = c.make_block_room.new.self in
    let same = c.in_ok-make_block_room.ensures.same in
    c.in_ok-append_identity.ensures.appended.entries
    ∙ ap (λ (s : StoreView). s.parts.volatile.entries ++ identity_entries (next_of here) (c.args.x ∷ [])) same.same
    ∙ ap (λ (k : ℕ). before.parts.volatile.entries ++ identity_entries k (c.args.x ∷ [])) same.long.next
