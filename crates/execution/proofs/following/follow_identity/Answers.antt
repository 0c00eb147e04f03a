use Rattle.std.proofs.Common.{rules, ◌≡◌, ◌∙◌, ◌≤◌, ◌+◌, ap, sym, subst, ℕ, List, arith, length, refl, true, false, is_ok, if◌then◌else◌, Some}
use Rattle.std.specs.Prelude.{◌^◌, bytes_eq, IfErr, IsSome, OnErr}
use Rattle.std.proofs.lemmas.Bool.{both_ways}
use Rattle.std.proofs.lemmas.Slice.Eq.{bytes_eq-Decides}
use Rattle.disk_model.specs.Disk.{Disk, Stays}
use Rattle.formats.specs.Limits.{log_limit}
use Rattle.formats.specs.declared.record.Record.TheVariants.{Identity as Logged}
use Rattle.log_records.specs.RecordLog.{RecordLogView}
use Rattle.dirty_cache.specs.Contents.{held}
use Rattle.dirty_cache.specs.declared.entry.Entry.{Entry as Pair}
use Rattle.explain_core.specs.History.Member.{Identity}
use Rattle.running_store.specs.Calls.AfterReads.{fetch_as, fetch_unbroken}
use Rattle.running_store.specs.Calls.Laws.{unbroken_after}
use Rattle.running_store.specs.Calls.{IsCall}
use Rattle.running_store.specs.Calls.Commands.{left_call, left_takes}
use Rattle.running_store.specs.Courses.{identity_length}
use Rattle.running_store.specs.Calls.Fetches.{IsFetch, fetch_call}
use Rattle.running_store.specs.Steps.Finished.{IsQuiet}
use Rattle.running_store.specs.Parts.InUse.{cached_pair}
use Rattle.running_store.specs.Laid.{Laid}
use Rattle.running_store.specs.Calls.Logged.{HasPlace}
use Rattle.running_store.specs.Parts.{Volatile, meaning_in}
use Rattle.running_store.specs.StoreView.{StoreView, log_length, next_of, store_params}
use Rattle.running_store.specs.Taking.{Ending, Takes}
use Rattle.running_store.specs.Calls.Writes.{write_call}
use Rattle.running_store.specs.Steps.Written.{value_cached}
use Rattle.execution.specs.Following.{HasMemberCause, IsFollowFailure, ending_of_follow, ending_of_record_error, member_course}
use Rattle.execution.specs.RecordFailures.{record_from_read}
use Rattle.execution.specs.Stops.{StopsWithin}
use Rattle.execution.specs.declared.record_err.RecordErr.TheVariants.{Memory}
use Rattle.cache_manager.specs.Endings.{at_err}
use Rattle.execution.proofs.Followed.{appended_takes, behind_room, roomed, unappended_takes}
use Rattle.execution.proofs.RoomBehind.{room_call, room_failure, room_next, room_stays, room_takes, then_call}
use Rattle.execution.proofs.TakenIdentities.{identity_after, identity_comes, other_cause, other_takes, some_pair, unfetched_call, unfetched_cause, unfetched_failure, unfetched_takes}
use Rattle.execution.proofs.TakenMembers.{MayCome, as_member, roomless_cause, roomless_takes, taken_cause}
use Rattle.execution.proofs.following.follow_identity.Given.{Over}
use Rattle.execution.proofs.following.follow_identity.Goals.{In_ok-fetch, After-value-cached, Else-ne, In_ok-require_room}
use Rattle.execution.proofs.following.follow_identity.Goals as goal

-- its object is not fetched
pub returns-in_err-fetch : goal.returns-in_err-fetch
returns-in_err-fetch g c =
    let old = g.M.Machine.disk c.args.machine.now in
    let new = g.M.Machine.disk c.fetch.new.machine in
    let e = c.in_err-fetch.field-0.0 in
    let before : StoreView = c.args.store.now in
    let read : StoreView = c.fetch.new.self in
    record {
      call =
          at_err (λ r. IsCall g.O.Oper.meaning old new c.args.store.now c.fetch.new.self (if is_ok r then 1 else 0) (StopsWithin log_limit) (ending_of_follow r)) c.from_residual.result (record_from_read e) c.from_residual.ensures.1
          (unfetched_call g.O.Oper.meaning c.args.object c.args.value.now old new c.args.store.now c.fetch.new.self e c.in_err-fetch.ensures.call c.in_err-fetch.ensures.cause);
      takes =
          at_err (λ r. Takes g.O.Oper.meaning old new before.parts read.parts (λ m w used. member_course m (Identity c.args.object c.args.value.now) w used) (ending_of_follow r)) c.from_residual.result (record_from_read e) c.from_residual.ensures.1
          (unfetched_takes g.O.Oper.meaning c.args.object c.args.value.now old new before read e c.in_err-fetch.ensures.call c.in_err-fetch.ensures.cause (g.met.M.Machine.lawful c.fetch.new.machine));
      in_world = λ p w shows.
          at_err (λ r. HasMemberCause (meaning_in g.O.Oper.meaning p) w (log_length c.args.store.now) (Identity c.args.object c.args.value.now) r) c.from_residual.result (record_from_read e) c.from_residual.ensures.1
          (unfetched_cause g.O.Oper.meaning c.args.object c.args.value.now old new c.args.store.now c.fetch.new.self e c.in_err-fetch.ensures.call c.in_err-fetch.ensures.cause p w shows);
      quiet = λ short. c.in_err-fetch.ensures.call.read.stays;
      untaken =
          at_err (λ r. OnErr r ((next_of read ≡ next_of before) × (read.parts.volatile.objects.slots ≡ before.parts.volatile.objects.slots))) c.from_residual.result (record_from_read c.in_err-fetch.field-0.0) c.from_residual.ensures.1
          (ap (λ (l : RecordLogView). l.next) c.in_err-fetch.ensures.call.log, c.in_err-fetch.ensures.call.read.fetched.slots);
      cause =
          let store : StoreView = c.args.store.now in
          at_err (λ r. IfErr r (IsFollowFailure (meaning_in g.O.Oper.meaning (store_params store)) (Logged (next_of store) c.args.object c.args.value.now) (next_of store) old new store.parts.volatile.objects)) c.from_residual.result (record_from_read e)
          c.from_residual.ensures.1 (unfetched_failure g.O.Oper.meaning c.args.object c.args.value.now old new store c.fetch.new.self e c.in_err-fetch.ensures.call c.in_err-fetch.ensures.cause);
    }

-- it is
fetched : (g : Over) (c : In_ok-fetch g) → IsFetch (g.M.Machine.disk c.args.machine.now) (g.M.Machine.disk c.fetch.new.machine) c.args.store.now c.fetch.new.self ⊥
fetched g c = fetch_as (g.M.Machine.disk c.args.machine.now) (g.M.Machine.disk c.fetch.new.machine) c.args.store.now c.fetch.new.self (false ≡ true) ⊥ (λ failed. both_ways false refl failed, λ none. absurd none) c.in_ok-fetch.ensures.call

module _ (g : Over) (c : After-value-cached g) where
  abbrev old : Disk
  old = g.M.Machine.disk c.args.machine.now

  abbrev mid : Disk
  mid = g.M.Machine.disk c.fetch.new.machine

  abbrev before : StoreView
  before = c.args.store.now

  abbrev read : StoreView
  read = c.fetch.new.self

  abbrev pair : (pair : Pair) × (held read.parts.volatile.objects.cache c.args.object ≡ Some pair)
  pair = cached_pair (held read.parts.volatile.objects.cache c.args.object) c.in_ok-fetch.ensures.cached

  value_is : c.value-cached.result.now ≡ pair.0.bytes
  value_is = value_cached c.objects.result.now c.args.object pair.0 c.value-cached.result.now (ap (λ (l : Laid). held l.cache c.args.object) c.objects.ensures ∙ pair.1) c.value-cached.ensures.value

  next_is : c.next-lsn.result ≡ next_of before
  next_is = search rules

differs : (g : Over) (at : After-value-cached g) → bytes_eq at.args.value.now at.value-cached.result.now ≡ false → bytes_eq at.args.value.now (pair g at).0.bytes ≡ false
differs g at other = ap (λ (l : List ℕ). bytes_eq at.args.value.now l) (sym (value_is g at)) ∙ other

-- its value is another
pub returns-then-ne : goal.returns-then-ne
returns-then-ne g c =
    let in_goal = goal.at.returns-then-ne g c in
    let at = in_goal.After-value-cached in
    let other : bytes_eq c.args.value.now c.value-cached.result.now ≡ false = search rules in
    record {
      call = fetch_call g.O.Oper.meaning (old g at) (mid g at) (before g at) (read g at) ⊥ (StopsWithin log_limit) Ending.Done (fetched g in_goal.In_ok-fetch) (λ failed. failed, λ failed. failed) (λ stop ends. cc) (λ failed. absurd failed);
      takes = other_takes g.O.Oper.meaning c.args.object c.args.value.now (old g at) (mid g at) (before g at) (read g at) (fetched g in_goal.In_ok-fetch) (pair g at).0 (pair g at).1 (differs g at other) (g.met.M.Machine.lawful c.fetch.new.machine);
      in_world = λ p w shows. other_cause g.O.Oper.meaning c.args.object c.args.value.now (old g at) (mid g at) (before g at) (read g at) (fetched g in_goal.In_ok-fetch) (pair g at).0 (pair g at).1 (differs g at other) c.next-lsn.result (next_is g at) p w shows;
      quiet = λ short. c.in_ok-fetch.ensures.call.read.stays;
      untaken = (ap (λ (l : RecordLogView). l.next) c.in_ok-fetch.ensures.call.log, c.in_ok-fetch.ensures.call.read.fetched.slots);
      cause =
          let next = next_is g (goal.at.returns-then-ne g c).After-value-cached in
          ((λ i. Some (sym next i)), next);
    }

-- its value is that
pub require_room-requires-clause-unbroken : goal.require_room-requires-clause-unbroken
require_room-requires-clause-unbroken g c = fetch_unbroken (g.M.Machine.disk c.args.machine.now) (g.M.Machine.disk c.fetch.new.machine) c.args.store.now c.fetch.new.self (fetched g (goal.at.require_room-requires-clause-unbroken g c).In_ok-fetch)

module _ (g : Over) (at : After-value-cached g) (is : IsFetch (old g at) (mid g at) (before g at) (read g at) ⊥) (same : bytes_eq at.args.value.now at.value-cached.result.now ≡ true) where
  abbrev n : ℕ
  n = 17 + length at.args.value.now

  equal : bytes_eq at.args.value.now (pair g at).0.bytes ≡ true
  equal = ap (λ (l : List ℕ). bytes_eq at.args.value.now l) (sym (value_is g at)) ∙ same

  bytes_are : (pair g at).0.bytes ≡ at.args.value.now
  bytes_are = sym (value_is g at) ∙ sym ((bytes_eq-Decides at.args.value.now at.value-cached.result.now).0 same)

  comes : MayCome g.O.Oper.meaning n (Identity at.args.object at.args.value.now) (old g at) (before g at).parts
  comes = identity_comes g.O.Oper.meaning at.args.object at.args.value.now (old g at) (mid g at) (before g at) (read g at) is (pair g at).0 (pair g at).1 equal bytes_are n refl g.met.O.Oper.bounded

  takes_room : (new : Disk) (room : StoreView) (ending : Ending) → Takes g.O.Oper.meaning (mid g at) new (read g at).parts room.parts (roomed g.O.Oper.meaning n (Identity at.args.object at.args.value.now)) ending
      → Takes g.O.Oper.meaning (old g at) new (before g at).parts room.parts (roomed g.O.Oper.meaning n (Identity at.args.object at.args.value.now)) ending
  takes_room new room ending takes = room_takes g.O.Oper.meaning (old g at) (mid g at) new (before g at) (read g at) room is n (Identity at.args.object at.args.value.now) ending takes

  -- where the block has room nothing was written
  stays : (new : Disk) (room : StoreView) → (length (read g at).parts.log.log.pending + n ≤ 2 ^ 30 → new ≡ mid g at) → length (before g at).parts.log.log.pending + identity_length (length at.args.value.now) ≤ 2 ^ 30 → Stays (old g at) new
  stays new room idle short = room_stays g.O.Oper.meaning (old g at) (mid g at) new (before g at) (read g at) room is n idle short

same_value : (g : Over) (c : Else-ne g) → bytes_eq c.args.value.now c.value-cached.result.now ≡ true
same_value g c = search rules

-- it gets no room
pub returns-in_err-require_room : goal.returns-in_err-require_room
returns-in_err-require_room g c =
    let in_goal = goal.at.returns-in_err-require_room g c in
    let at = in_goal.After-value-cached in
    let new = g.M.Machine.disk c.require_room.new.machine in
    let room : StoreView = c.require_room.new.store in
    let e = c.in_err-require_room.field-0.0 in
    let is = fetched g in_goal.In_ok-fetch in
    let same = same_value g in_goal.Else-ne in
    let store : StoreView = c.args.store.now in
    record {
      call =
          at_err (λ r. IsCall g.O.Oper.meaning (old g at) new (before g at) room (if is_ok r then 1 else 0) (StopsWithin log_limit) (ending_of_follow r)) c.from_residual-in_err-require_room.result e c.from_residual-in_err-require_room.ensures.1
          (room_call g.O.Oper.meaning (old g at) (mid g at) new (before g at) (read g at) room (fetched g in_goal.In_ok-fetch) (ending_of_record_error e) c.in_err-require_room.ensures.call);
      takes =
          at_err (λ r. Takes g.O.Oper.meaning (old g at) new (before g at).parts room.parts (λ m w used. member_course m (Identity c.args.object c.args.value.now) w used) (ending_of_follow r)) c.from_residual-in_err-require_room.result e
          c.from_residual-in_err-require_room.ensures.1
          (roomless_takes g.O.Oper.meaning (n g at is same) (Identity c.args.object c.args.value.now) (old g at) (before g at).parts (comes g at is same) new room.parts (read g at).parts.log _ e c.in_err-require_room.ensures.cause
          (takes_room g at is same new room (ending_of_record_error e) c.in_err-require_room.ensures.takes));
      in_world = λ p w shows.
          at_err (λ r. HasMemberCause (meaning_in g.O.Oper.meaning p) w (log_length (before g at)) (Identity c.args.object c.args.value.now) r) c.from_residual-in_err-require_room.result e c.from_residual-in_err-require_room.ensures.1
          (roomless_cause g.O.Oper.meaning (n g at is same) (Identity c.args.object c.args.value.now) (old g at) (before g at).parts (comes g at is same) new room.parts (read g at).parts.log _ e c.in_err-require_room.ensures.cause
          (takes_room g at is same new room (ending_of_record_error e) c.in_err-require_room.ensures.takes) p w shows);
      quiet =
          stays g in_goal.After-value-cached (fetched g in_goal.In_ok-fetch) (same_value g in_goal.Else-ne) (g.M.Machine.disk c.require_room.new.machine) c.require_room.new.store
          (λ short. ap (λ m. g.M.Machine.disk m) (c.in_err-require_room.ensures.quiet short));
      untaken =
          at_err (λ r. OnErr r ((next_of room ≡ next_of store) × (room.parts.volatile.objects.slots ≡ store.parts.volatile.objects.slots))) c.from_residual-in_err-require_room.result c.in_err-require_room.field-0.0
          c.from_residual-in_err-require_room.ensures.1 (
            room_next g.O.Oper.meaning (old g at) (mid g at) (g.M.Machine.disk c.require_room.new.machine) store (read g at) room (fetched g in_goal.In_ok-fetch) c.in_err-require_room.ensures.kept.1,
            ap (λ (s : Volatile). s.objects.slots) c.in_err-require_room.ensures.kept.0 ∙ c.in_ok-fetch.ensures.call.read.fetched.slots,
          );
      cause =
          let m = meaning_in g.O.Oper.meaning (store_params store) in
          at_err (λ r. IfErr r (IsFollowFailure m (Logged (next_of store) c.args.object c.args.value.now) (next_of store) (old g at) new store.parts.volatile.objects)) c.from_residual-in_err-require_room.result e
          c.from_residual-in_err-require_room.ensures.1
          (room_failure g.O.Oper.meaning (old g at) (mid g at) new store (read g at) c.require_room.new.store (fetched g in_goal.In_ok-fetch) m (Logged (next_of store) c.args.object c.args.value.now) store.parts.volatile.objects
          (17 + length c.args.value.now) _ e refl c.in_err-require_room.ensures.cause c.in_err-require_room.ensures.call);
    }

-- it gets some
module _ (g : Over) (c : In_ok-require_room g) where
  abbrev new : Disk
  new = g.M.Machine.disk c.require_room.new.machine

  abbrev room : StoreView
  room = c.require_room.new.store

  fine : room.broken ≡ false
  fine = unbroken_after g.O.Oper.meaning (g.M.Machine.disk c.fetch.new.machine) new c.fetch.new.self room 0 (StopsWithin log_limit) c.in_ok-require_room.ensures.call

  same_objects : room.parts.volatile.objects ≡ c.fetch.new.self.parts.volatile.objects
  same_objects = ap (λ (s : Volatile). s.objects) c.in_ok-require_room.ensures.kept.0

  next_same : next_of room ≡ next_of c.args.store.now
  next_same = c.in_ok-require_room.ensures.kept.1 ∙ ap (λ (l : RecordLogView). l.next) c.in_ok-fetch.ensures.call.log

pub append_identity-requires-clause-unbroken : goal.append_identity-requires-clause-unbroken
append_identity-requires-clause-unbroken g c = fine g (goal.at.append_identity-requires-clause-unbroken g c).In_ok-require_room

pub append_identity-requires-clause-cached : goal.append_identity-requires-clause-cached
append_identity-requires-clause-cached g c =
    subst (λ (l : Laid). IsSome (held l.cache c.args.object)) (sym (same_objects g (goal.at.append_identity-requires-clause-cached g c).In_ok-require_room)) c.in_ok-fetch.ensures.cached

pub append_identity-requires-clause-lsn : goal.append_identity-requires-clause-lsn
append_identity-requires-clause-lsn g c =
    let there = (goal.at.append_identity-requires-clause-lsn g c).In_ok-require_room in
    omega (arith, next_same g there, c.requires.lsn)

pub append_identity-requires-clause-place : goal.append_identity-requires-clause-place
append_identity-requires-clause-place g c = λ other had.
    let in_goal = goal.at.append_identity-requires-clause-place g c in
    let at = in_goal.After-value-cached in
    let there = in_goal.In_ok-require_room in
    let objects = same_objects g there in
    let same = some_pair other (pair g at).0 (held c.fetch.new.self.parts.volatile.objects.cache c.args.object) (ap (λ (l : Laid). held l.cache c.args.object) (sym objects) ∙ had) (pair g at).1 in
    let value = sym (bytes_are g at (fetched g in_goal.In_ok-fetch) (same_value g in_goal.Else-ne)) ∙ ap (λ (k : Pair). k.bytes) (sym same) in
    subst (λ (k : ℕ). HasPlace c.require_room.new.store.parts.log.log k) (ap (λ (l : List ℕ). 17 + length l) value) c.in_ok-require_room.ensures.place

-- the moments of all before it
quiet_room : (g : Over) (at : After-value-cached g) (is : IsFetch (old g at) (mid g at) (before g at) (read g at) ⊥) (there : In_ok-require_room g) → IsCall g.O.Oper.meaning (mid g at) (new g there) (read g at) (room g there) 0 (StopsWithin log_limit) Ending.Done
    → IsQuiet (old g at) (new g there)
quiet_room g at is there made = let call = room_call g.O.Oper.meaning (old g at) (mid g at) (new g there) (before g at) (read g at) (room g there) is Ending.Done made in call.quiet

-- there is no memory for it
pub returns-in_err-append_identity : goal.returns-in_err-append_identity
returns-in_err-append_identity g c =
    let in_goal = goal.at.returns-in_err-append_identity g c in
    let at = in_goal.After-value-cached in
    let there = in_goal.In_ok-require_room in
    let after : StoreView = c.append_identity.new.self in
    let store : StoreView = c.args.store.now in
    record {
      call =
          at_err (λ r. IsCall g.O.Oper.meaning (old g at) (new g there) (before g at) after (if is_ok r then 1 else 0) (StopsWithin log_limit) (ending_of_follow r)) c.from_residual-in_err-append_identity.result Memory
          c.from_residual-in_err-append_identity.ensures.1
          (then_call g.O.Oper.meaning (old g at) (mid g at) (new g there) (before g at) (read g at) (room g there) (fetched g in_goal.In_ok-fetch) after 0 Ending.Short c.in_ok-require_room.ensures.call
          (left_call g.O.Oper.meaning (room g there) after (fine g there) (new g there) (g.met.M.Machine.lawful c.require_room.new.machine) c.in_err-append_identity.ensures));
      takes =
          let is = fetched g in_goal.In_ok-fetch in
          let same = same_value g in_goal.Else-ne in
          let member = Identity c.args.object c.args.value.now in
          at_err (λ r. Takes g.O.Oper.meaning (old g at) (new g there) (before g at).parts after.parts (λ m w used. member_course m (Identity c.args.object c.args.value.now) w used) (ending_of_follow r)) c.from_residual-in_err-append_identity.result Memory
          c.from_residual-in_err-append_identity.ensures.1
          (as_member g.O.Oper.meaning (n g at is same) member (old g at) (before g at).parts (comes g at is same) (new g there) after.parts Ending.Short
          (unappended_takes g.O.Oper.meaning (n g at is same) member (old g at) (new g there) (before g at).parts (room g there).parts after.parts (quiet_room g at is there c.in_ok-require_room.ensures.call)
          (takes_room g at is same (new g there) (room g there) Ending.Done c.in_ok-require_room.ensures.takes)
          (left_takes g.O.Oper.meaning (room g there) after (fine g there) (new g there) (g.met.M.Machine.lawful c.require_room.new.machine) c.in_err-append_identity.ensures (behind_room g.O.Oper.meaning (n g at is same) member))));
      in_world = λ p w shows. at_err (λ r. HasMemberCause (meaning_in g.O.Oper.meaning p) w (log_length c.args.store.now) (Identity c.args.object c.args.value.now) r) c.from_residual-in_err-append_identity.result Memory c.from_residual-in_err-append_identity.ensures.1 tt;
      quiet =
          stays g in_goal.After-value-cached (fetched g in_goal.In_ok-fetch) (same_value g in_goal.Else-ne) (g.M.Machine.disk c.require_room.new.machine) c.require_room.new.store
          (λ short. ap (λ m. g.M.Machine.disk m) (c.in_ok-require_room.ensures.quiet short));
      untaken =
          let there = (goal.at.returns-in_err-append_identity g c).In_ok-require_room in
          let left = c.in_err-append_identity.ensures.untaken in
          at_err (λ r. OnErr r ((next_of after ≡ next_of store) × (after.parts.volatile.objects.slots ≡ store.parts.volatile.objects.slots))) c.from_residual-in_err-append_identity.result Memory c.from_residual-in_err-append_identity.ensures.1 (
            ap (λ (l : RecordLogView). l.next) left.log ∙ next_same g there,
            left.slots ∙ ap (λ (l : Laid). l.slots) (same_objects g there) ∙ c.in_ok-fetch.ensures.call.read.fetched.slots,
          );
      cause =
          let m = meaning_in g.O.Oper.meaning (store_params store) in
          at_err (λ r. IfErr r (IsFollowFailure m (Logged (next_of store) c.args.object c.args.value.now) (next_of store) (g.M.Machine.disk c.args.machine.now) (g.M.Machine.disk c.require_room.new.machine) store.parts.volatile.objects))
          c.from_residual-in_err-append_identity.result Memory c.from_residual-in_err-append_identity.ensures.1 refl;
    }

-- it is taken
pub returns : goal.returns
returns g c =
    let in_goal = goal.at.returns g c in
    let at = in_goal.After-value-cached in
    let there = in_goal.In_ok-require_room in
    let is = fetched g in_goal.In_ok-fetch in
    let same = same_value g in_goal.Else-ne in
    record {
      call =
          then_call g.O.Oper.meaning (old g at) (mid g at) (new g there) (before g at) (read g at) (room g there) (fetched g in_goal.In_ok-fetch) c.append_identity.new.self 1 Ending.Done c.in_ok-require_room.ensures.call
          (write_call g.O.Oper.meaning (room g there) c.append_identity.new.self (fine g there) (new g there) (g.met.M.Machine.lawful c.require_room.new.machine) c.args.object c.in_ok-append_identity.ensures g.met.O.Oper.bounded);
      takes =
          let member = Identity c.args.object c.args.value.now in
          let after : StoreView = c.append_identity.new.self in
          let lawful = g.met.M.Machine.lawful c.require_room.new.machine in
          as_member g.O.Oper.meaning (n g at is same) member (old g at) (before g at).parts (comes g at is same) (new g there) after.parts Ending.Done
          (appended_takes g.O.Oper.meaning (n g at is same) member (old g at) (new g there) (before g at).parts (room g there).parts after.parts (quiet_room g at is there c.in_ok-require_room.ensures.call)
          (takes_room g at is same (new g there) (room g there) Ending.Done c.in_ok-require_room.ensures.takes) lawful
          (identity_after g.O.Oper.meaning c.args.object c.args.value.now (old g at) (mid g at) (before g at) (read g at) is (pair g at).0 (pair g at).1 (equal g at is same) (bytes_are g at is same) (n g at is same) refl g.met.O.Oper.bounded
          (new g there) lawful (room g there) after (fine g there) c.in_ok-append_identity.ensures c.append_keeps.ensures.identity));
      in_world = λ p w shows.
          taken_cause g.O.Oper.meaning (n g at is same) (Identity c.args.object c.args.value.now) (old g at) (before g at).parts (comes g at is same) (new g there) (room g there).parts
          (takes_room g at is same (new g there) (room g there) Ending.Done c.in_ok-require_room.ensures.takes) p w shows;
      quiet =
          stays g in_goal.After-value-cached (fetched g in_goal.In_ok-fetch) (same_value g in_goal.Else-ne) (g.M.Machine.disk c.require_room.new.machine) c.require_room.new.store
          (λ short. ap (λ m. g.M.Machine.disk m) (c.in_ok-require_room.ensures.quiet short));
      untaken = search rules;
      cause = search rules;
    }
