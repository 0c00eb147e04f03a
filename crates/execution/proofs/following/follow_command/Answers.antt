use Rattle.std.proofs.Common.{◌≡◌, ◌∙◌, ◌≤◌, ◌+◌, ap, sym, subst, ℕ, List, arith, length, refl, rules}
use Rattle.std.specs.Prelude.{◌^◌, Err, IfErr, OnErr, false}
use Rattle.disk_model.specs.Disk.{Disk, Stays}
use Rattle.formats.specs.Limits.{log_limit}
use Rattle.formats.specs.declared.params.Params.{Params}
use Rattle.formats.specs.declared.record.Record.TheVariants.{Command as Logged}
use Rattle.log_records.specs.RecordLog.{RecordLogView}
use Rattle.stable_objects.specs.SlotsView.{SlotsView}
use Rattle.explain_core.specs.History.Member.{Command}
use Rattle.running_store.specs.Calls.AfterReads.{fetch_unbroken}
use Rattle.running_store.specs.Calls.Laws.{unbroken_after}
use Rattle.running_store.specs.Calls.{IsCall}
use Rattle.running_store.specs.Calls.Commands.{IsCommanded, IsReady, command_length, commanded_call, left_call, left_takes}
use Rattle.running_store.specs.Laid.Lent.{inputs_in}
use Rattle.running_store.specs.Calls.Logged.{HasPlace}
use Rattle.running_store.specs.Parts.{Volatile, meaning_in}
use Rattle.running_store.specs.StoreView.{StoreView, log_length, next_of, store_params}
use Rattle.running_store.specs.Taking.{Ending, Takes}
use Rattle.execution.specs.Following.{HasMemberCause, IsFollowFailure, ending_of_follow, ending_of_record_error, member_course}
use Rattle.execution.specs.Stops.{StopsWithin}
use Rattle.execution.specs.declared.record_err.RecordErr.{RecordErr}
use Rattle.execution.specs.declared.record_err.RecordErr.TheVariants.{Memory}
use Rattle.cache_manager.specs.Endings.{at_err}
use Rattle.execution.proofs.Differing.{differs_call, differs_cause, differs_failure, differs_takes}
use Rattle.execution.proofs.Followed.{appended_takes, behind_room, roomed, unappended_takes}
use Rattle.execution.proofs.RoomBehind.{room_call, room_failure, room_next, room_stays, room_takes, then_call}
use Rattle.execution.proofs.TakenCommands.{command_after, command_comes}
use Rattle.execution.proofs.TakenMembers.{MayCome, as_member, roomless_cause, roomless_takes, taken_cause}
use Rattle.execution.proofs.following.follow_command.Given.{Over}
use Rattle.execution.proofs.following.follow_command.Goals.{In-Ok, In_ok-require_room}
use Rattle.execution.proofs.following.follow_command.Goals as goal

-- it is not admitted
pub returns-in-Err : goal.returns-in-Err
returns-in-Err g c =
    let old = g.M.Machine.disk c.args.machine.now in
    let new = g.M.Machine.disk c.admit.new.machine in
    let next : c.next-lsn.result ≡ next_of c.args.store.now = search rules in
    record {
      call =
          subst (λ (e : RecordErr). IsCall g.O.Oper.meaning old new c.args.store.now c.admit.new.store 0 (StopsWithin log_limit) (ending_of_record_error e)) (sym c.record_error.ensures)
          (differs_call g.O.Oper.meaning c.args.op c.next-lsn.result old new c.args.store.now c.admit.new.store c.in-Err.e c.in-Err.ensures.cause c.in-Err.ensures.call);
      takes =
          subst (λ (e : RecordErr). Takes g.O.Oper.meaning old new c.args.store.now.parts c.admit.new.store.parts (λ m w used. member_course m (Command c.args.op) w used) (ending_of_record_error e)) (sym c.record_error.ensures)
          (differs_takes g.O.Oper.meaning c.args.op c.next-lsn.result old new c.args.store.now c.admit.new.store _ c.in-Err.ensures.call g.met.O.Oper.bounded g.met.O.Oper.lawful c.in-Err.e c.in-Err.ensures.cause c.in-Err.ensures.shown
          (g.met.M.Machine.lawful c.admit.new.machine));
      in_world = λ p w shows.
          subst (λ (e : RecordErr). HasMemberCause (meaning_in g.O.Oper.meaning p) w (log_length c.args.store.now) (Command c.args.op) (Err e)) (sym c.record_error.ensures)
          (differs_cause g.O.Oper.meaning c.args.op c.next-lsn.result old new c.args.store.now c.admit.new.store _ c.in-Err.ensures.call g.met.O.Oper.bounded g.met.O.Oper.lawful c.in-Err.e c.in-Err.ensures.cause c.in-Err.ensures.shown next p w shows);
      quiet = λ room. c.in-Err.ensures.call.read.stays;
      untaken = (ap (λ (l : RecordLogView). l.next) c.in-Err.ensures.call.log, c.in-Err.ensures.call.read.fetched.slots);
      cause =
          let store : StoreView = c.args.store.now in
          subst (λ (e : RecordErr). IsFollowFailure (meaning_in g.O.Oper.meaning (store_params store)) (Logged (next_of store) c.args.op) (next_of store) old new store.parts.volatile.objects e) (sym c.record_error.ensures)
          (differs_failure g.O.Oper.meaning c.args.op c.next-lsn.result old new store c.admit.new.store c.in-Err.e next c.in-Err.ensures.cause);
    }

pub require_room-requires-clause-unbroken : goal.require_room-requires-clause-unbroken
require_room-requires-clause-unbroken g c = fetch_unbroken (g.M.Machine.disk c.args.machine.now) (g.M.Machine.disk c.admit.new.machine) c.args.store.now c.admit.new.store c.in-Ok.ensures.call

pub require_room-requires-clause-some : goal.require_room-requires-clause-some
require_room-requires-clause-some g c = let long = c.in-Ok.ensures.length in long.1

pub require_room-requires-clause-short : goal.require_room-requires-clause-short
require_room-requires-clause-short g c = let long = c.in-Ok.ensures.length in omega (arith, long.0, c.requires.short)

-- it is admitted
module _ (g : Over) (c : In-Ok g) where
  abbrev old : Disk
  old = g.M.Machine.disk c.args.machine.now

  abbrev mid : Disk
  mid = g.M.Machine.disk c.admit.new.machine

  abbrev before : StoreView
  before = c.args.store.now

  abbrev read : StoreView
  read = c.admit.new.store

  abbrev n : ℕ
  n = c.in-Ok.admitted.1

  -- what it reads
  abbrev values : List (List ℕ)
  values = inputs_in read.parts.volatile.objects.cache ((meaning_in g.O.Oper.meaning (store_params before)).reads c.args.op) c.in-Ok.admitted.0

  -- so it may come next
  comes : MayCome g.O.Oper.meaning n (Command c.args.op) old before.parts
  comes = command_comes g.O.Oper.meaning c.args.op old before values n c.in-Ok.ensures.ready c.in-Ok.ensures.length.0 g.met.O.Oper.bounded g.met.O.Oper.lawful c.in-Ok.ensures.read

  takes_room : (new : Disk) (room : StoreView) (ending : Ending) → Takes g.O.Oper.meaning mid new read.parts room.parts (roomed g.O.Oper.meaning n (Command c.args.op)) ending
      → Takes g.O.Oper.meaning old new before.parts room.parts (roomed g.O.Oper.meaning n (Command c.args.op)) ending
  takes_room new room ending takes = room_takes g.O.Oper.meaning old mid new before read room c.in-Ok.ensures.call n (Command c.args.op) ending takes

-- where the block has room nothing was written
stays : (g : Over) (at : In-Ok g) (new : Disk) (room : StoreView) → (length (read g at).parts.log.log.pending + n g at ≤ 2 ^ 30 → new ≡ mid g at) → length (before g at).parts.log.log.pending + command_length (meaning_in g.O.Oper.meaning (store_params (before g at))) at.args.op ≤ 2 ^ 30
    → Stays (old g at) new
stays g at new room same short =
    let long = at.in-Ok.ensures.length.0 in
    room_stays g.O.Oper.meaning (old g at) (mid g at) new (before g at) (read g at) room at.in-Ok.ensures.call (n g at) same (omega (arith, short, long))

-- it gets no room
pub returns-in_err-require_room : goal.returns-in_err-require_room
returns-in_err-require_room g c =
    let at = (goal.at.returns-in_err-require_room g c).In-Ok in
    let new = g.M.Machine.disk c.require_room.new.machine in
    let room : StoreView = c.require_room.new.store in
    let e = c.in_err-require_room.field-0.0 in
    record {
      call =
          at_err (λ r. IsCall g.O.Oper.meaning (old g at) new (before g at) room 0 (StopsWithin log_limit) (ending_of_follow r)) c.from_residual.result e c.from_residual.ensures.1
          (room_call g.O.Oper.meaning (old g at) (mid g at) new (before g at) (read g at) room c.in-Ok.ensures.call (ending_of_record_error e) c.in_err-require_room.ensures.call);
      takes =
          at_err (λ r. Takes g.O.Oper.meaning (old g at) new (before g at).parts room.parts (λ m w used. member_course m (Command c.args.op) w used) (ending_of_follow r)) c.from_residual.result e c.from_residual.ensures.1
          (roomless_takes g.O.Oper.meaning (n g at) (Command c.args.op) (old g at) (before g at).parts (comes g at) new room.parts (read g at).parts.log _ e c.in_err-require_room.ensures.cause
          (takes_room g at new room (ending_of_record_error e) c.in_err-require_room.ensures.takes));
      in_world = λ p w shows.
          at_err (λ r. HasMemberCause (meaning_in g.O.Oper.meaning p) w (log_length (before g at)) (Command c.args.op) r) c.from_residual.result e c.from_residual.ensures.1
          (roomless_cause g.O.Oper.meaning (n g at) (Command c.args.op) (old g at) (before g at).parts (comes g at) new room.parts (read g at).parts.log _ e c.in_err-require_room.ensures.cause
          (takes_room g at new room (ending_of_record_error e) c.in_err-require_room.ensures.takes) p w shows);
      quiet = stays g (goal.at.returns-in_err-require_room g c).In-Ok (g.M.Machine.disk c.require_room.new.machine) c.require_room.new.store (λ short. ap (λ m. g.M.Machine.disk m) (c.in_err-require_room.ensures.quiet short));
      untaken =
          let store : StoreView = c.args.store.now in
          at_err (λ r. OnErr r ((next_of room ≡ next_of store) × (room.parts.volatile.objects.slots ≡ store.parts.volatile.objects.slots))) c.from_residual.result c.in_err-require_room.field-0.0 c.from_residual.ensures.1 (
            room_next g.O.Oper.meaning (old g at) (mid g at) (g.M.Machine.disk c.require_room.new.machine) (before g at) (read g at) room c.in-Ok.ensures.call c.in_err-require_room.ensures.kept.1,
            ap (λ (s : Volatile). s.objects.slots) c.in_err-require_room.ensures.kept.0 ∙ c.in-Ok.ensures.call.read.fetched.slots,
          );
      cause =
          let store = before g at in
          let m = meaning_in g.O.Oper.meaning (store_params store) in
          at_err (λ r. IfErr r (IsFollowFailure m (Logged (next_of store) c.args.op) (next_of store) (old g at) new store.parts.volatile.objects)) c.from_residual.result e c.from_residual.ensures.1
          (room_failure g.O.Oper.meaning (old g at) (mid g at) new store (read g at) c.require_room.new.store c.in-Ok.ensures.call m (Logged (next_of store) c.args.op) store.parts.volatile.objects (n g at) _ e refl c.in_err-require_room.ensures.cause
          c.in_err-require_room.ensures.call);
    }

-- it gets some
module _ (g : Over) (c : In_ok-require_room g) where
  abbrev new : Disk
  new = g.M.Machine.disk c.require_room.new.machine

  abbrev room : StoreView
  room = c.require_room.new.store

  fine : room.broken ≡ false
  fine = unbroken_after g.O.Oper.meaning (g.M.Machine.disk c.admit.new.machine) new c.admit.new.store room 0 (StopsWithin log_limit) c.in_ok-require_room.ensures.call

  params : store_params room ≡ store_params c.args.store.now
  params = ap (λ (s : Volatile). s.objects.slots.params) c.in_ok-require_room.ensures.kept.0 ∙ ap (λ (s : SlotsView). s.params) c.in-Ok.ensures.call.read.fetched.slots

  abbrev kept : List (List ℕ)
  kept = inputs_in room.parts.volatile.objects.cache ((meaning_in g.O.Oper.meaning (store_params room)).reads c.args.op) c.in-Ok.admitted.0

  -- the cache has what it had
  same_values : inputs_in c.admit.new.store.parts.volatile.objects.cache ((meaning_in g.O.Oper.meaning (store_params c.args.store.now)).reads c.args.op) c.in-Ok.admitted.0 ≡ kept
  same_values =
      ap (λ (q : Params). inputs_in c.admit.new.store.parts.volatile.objects.cache ((meaning_in g.O.Oper.meaning q).reads c.args.op) c.in-Ok.admitted.0) (sym (ap (λ (s : SlotsView). s.params) c.in-Ok.ensures.call.read.fetched.slots))
      ∙ ap (λ (v : Volatile). inputs_in v.objects.cache ((meaning_in g.O.Oper.meaning v.objects.slots.params).reads c.args.op) c.in-Ok.admitted.0) (sym c.in_ok-require_room.ensures.kept.0)

  next_is : next_of room ≡ next_of c.args.store.now
  next_is = room_next g.O.Oper.meaning (g.M.Machine.disk c.args.machine.now) (g.M.Machine.disk c.admit.new.machine) new c.args.store.now c.admit.new.store room c.in-Ok.ensures.call c.in_ok-require_room.ensures.kept.1

pub append_command-requires-clause-unbroken : goal.append_command-requires-clause-unbroken
append_command-requires-clause-unbroken g c = fine g (goal.at.append_command-requires-clause-unbroken g c).In_ok-require_room

pub append_command-requires-clause-ready : goal.append_command-requires-clause-ready
append_command-requires-clause-ready g c =
    let at = (goal.at.append_command-requires-clause-ready g c).In_ok-require_room in
    let in_goal = goal.at.append_command-requires-clause-ready g c in
    subst (λ (vs : List (List ℕ)). IsReady g.O.Oper.meaning (store_params c.require_room.new.store) c.args.op vs) (same_values g at)
    (subst (λ (q : Params). IsReady g.O.Oper.meaning q c.args.op (values g in_goal.In-Ok)) (sym (params g at)) c.in-Ok.ensures.ready)

pub append_command-requires-clause-lsn : goal.append_command-requires-clause-lsn
append_command-requires-clause-lsn g c =
    let at = (goal.at.append_command-requires-clause-lsn g c).In_ok-require_room in
    omega (arith, next_is g at, c.requires.lsn)

pub append_command-requires-clause-place : goal.append_command-requires-clause-place
append_command-requires-clause-place g c =
    let at = (goal.at.append_command-requires-clause-place g c).In_ok-require_room in
    let store : StoreView = room g at in
    let long = c.in-Ok.ensures.length.0 in
    subst (λ (q : Params). HasPlace store.parts.log.log (command_length (meaning_in g.O.Oper.meaning q) c.args.op)) (sym (params g at))
    (subst (λ (k : ℕ). HasPlace store.parts.log.log k) long c.in_ok-require_room.ensures.place)

-- there is no memory for it
pub returns-in_err-append_command : goal.returns-in_err-append_command
returns-in_err-append_command g c =
    let in_goal = goal.at.returns-in_err-append_command g c in
    let at = in_goal.In-Ok in
    let there = in_goal.In_ok-require_room in
    let after : StoreView = c.append_command.new.self in
    let store : StoreView = c.args.store.now in
    record {
      call =
          at_err (λ r. IsCall g.O.Oper.meaning (old g at) (new g there) (before g at) after 0 (StopsWithin log_limit) (ending_of_follow r)) c.from_residual-in_err-append_command.result Memory c.from_residual-in_err-append_command.ensures.1
          (then_call g.O.Oper.meaning (old g at) (mid g at) (new g there) (before g at) (read g at) (room g there) c.in-Ok.ensures.call after 0 Ending.Short c.in_ok-require_room.ensures.call
          (left_call g.O.Oper.meaning (room g there) after (fine g there) (new g there) (g.met.M.Machine.lawful c.require_room.new.machine) c.in_err-append_command.ensures));
      takes =
          let call = room_call g.O.Oper.meaning (old g at) (mid g at) (new g there) (before g at) (read g at) (room g there) c.in-Ok.ensures.call Ending.Done c.in_ok-require_room.ensures.call in
          at_err (λ r. Takes g.O.Oper.meaning (old g at) (new g there) (before g at).parts after.parts (λ m w used. member_course m (Command c.args.op) w used) (ending_of_follow r)) c.from_residual-in_err-append_command.result Memory
          c.from_residual-in_err-append_command.ensures.1
          (as_member g.O.Oper.meaning (n g at) (Command c.args.op) (old g at) (before g at).parts (comes g at) (new g there) after.parts Ending.Short
          (unappended_takes g.O.Oper.meaning (n g at) (Command c.args.op) (old g at) (new g there) (before g at).parts (room g there).parts after.parts call.quiet (takes_room g at (new g there) (room g there) Ending.Done c.in_ok-require_room.ensures.takes)
          (left_takes g.O.Oper.meaning (room g there) after (fine g there) (new g there) (g.met.M.Machine.lawful c.require_room.new.machine) c.in_err-append_command.ensures (behind_room g.O.Oper.meaning (n g at) (Command c.args.op)))));
      in_world = λ p w shows. at_err (λ r. HasMemberCause (meaning_in g.O.Oper.meaning p) w (log_length c.args.store.now) (Command c.args.op) r) c.from_residual-in_err-append_command.result Memory c.from_residual-in_err-append_command.ensures.1 tt;
      quiet = stays g (goal.at.returns-in_err-append_command g c).In-Ok (g.M.Machine.disk c.require_room.new.machine) c.require_room.new.store (λ short. ap (λ m. g.M.Machine.disk m) (c.in_ok-require_room.ensures.quiet short));
      untaken =
          let there = (goal.at.returns-in_err-append_command g c).In_ok-require_room in
          let left = c.in_err-append_command.ensures.untaken in
          at_err (λ r. OnErr r ((next_of after ≡ next_of store) × (after.parts.volatile.objects.slots ≡ store.parts.volatile.objects.slots))) c.from_residual-in_err-append_command.result Memory c.from_residual-in_err-append_command.ensures.1 (
            ap (λ (l : RecordLogView). l.next) left.log ∙ next_is g there,
            left.slots ∙ ap (λ (s : Volatile). s.objects.slots) c.in_ok-require_room.ensures.kept.0 ∙ c.in-Ok.ensures.call.read.fetched.slots,
          );
      cause =
          let m = meaning_in g.O.Oper.meaning (store_params store) in
          at_err (λ r. IfErr r (IsFollowFailure m (Logged (next_of store) c.args.op) (next_of store) (g.M.Machine.disk c.args.machine.now) (g.M.Machine.disk c.require_room.new.machine) store.parts.volatile.objects)) c.from_residual-in_err-append_command.result Memory
          c.from_residual-in_err-append_command.ensures.1 refl;
    }

-- it is taken
pub returns : goal.returns
returns g c =
    let in_goal = goal.at.returns g c in
    let at = in_goal.In-Ok in
    let there = in_goal.In_ok-require_room in
    record {
      call =
          then_call g.O.Oper.meaning (old g at) (mid g at) (new g there) (before g at) (read g at) (room g there) c.in-Ok.ensures.call c.append_command.new.self 0 Ending.Done c.in_ok-require_room.ensures.call
          (commanded_call g.O.Oper.meaning (room g there) c.append_command.new.self (fine g there) (new g there) (g.met.M.Machine.lawful c.require_room.new.machine) c.args.op (kept g there) c.in_ok-append_command.ensures);
      takes =
          let after : StoreView = c.append_command.new.self in
          let call = room_call g.O.Oper.meaning (old g at) (mid g at) (new g there) (before g at) (read g at) (room g there) c.in-Ok.ensures.call Ending.Done c.in_ok-require_room.ensures.call in
          as_member g.O.Oper.meaning (n g at) (Command c.args.op) (old g at) (before g at).parts (comes g at) (new g there) after.parts Ending.Done
          (appended_takes g.O.Oper.meaning (n g at) (Command c.args.op) (old g at) (new g there) (before g at).parts (room g there).parts after.parts call.quiet (takes_room g at (new g there) (room g there) Ending.Done c.in_ok-require_room.ensures.takes)
          (g.met.M.Machine.lawful c.require_room.new.machine)
          (command_after g.O.Oper.meaning c.args.op (old g at) (before g at) (values g at) (n g at) c.in-Ok.ensures.ready c.in-Ok.ensures.length.0 g.met.O.Oper.bounded g.met.O.Oper.lawful c.in-Ok.ensures.read (new g there) (room g there) after (params g there)
          (subst (λ (vs : List (List ℕ)). IsCommanded g.O.Oper.meaning (room g there) after c.args.op vs) (sym (same_values g there)) c.in_ok-append_command.ensures) c.append_keeps.ensures.command));
      in_world = λ p w shows. taken_cause g.O.Oper.meaning (n g at) (Command c.args.op) (old g at) (before g at).parts (comes g at) (new g there) (room g there).parts (takes_room g at (new g there) (room g there) Ending.Done c.in_ok-require_room.ensures.takes) p w shows;
      quiet = stays g (goal.at.returns g c).In-Ok (g.M.Machine.disk c.require_room.new.machine) c.require_room.new.store (λ short. ap (λ m. g.M.Machine.disk m) (c.in_ok-require_room.ensures.quiet short));
      untaken = search rules;
      cause = search rules;
    }
