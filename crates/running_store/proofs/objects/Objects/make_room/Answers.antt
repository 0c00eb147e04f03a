use Rattle.std.proofs.Common.{◌∙◌, All, List, ℕ, subst}
use Rattle.std.proofs.lemmas.List.{take_all}
use Rattle.dirty_cache.specs.Contents.{HasRoom}
use Rattle.running_store.specs.Laid.Fetched.{fetched-same, fetched-twice}
use Rattle.running_store.proofs.SetLemmas.{all_next}
use Rattle.running_store.proofs.objects.Objects.make_room.Goals as goal

pub loop-object-preserved : goal.loop-object-preserved
loop-object-preserved c =
    let so_far = c.loop-object.invariant in
    record {
      slots = c.room_for.ensures.slots ∙ so_far.slots;
      room = all_next (HasRoom c.loop-object.self.cache) (HasRoom c.room_for.new.self.cache) c.args.objects.now c.loop-object.object-index c.room_for.ensures.rooms so_far.room c.loop-object-test.true c.in_ok-room_for.ensures.room;
      entries = λ x. c.room_for.ensures.entries x ∙ so_far.entries x;
      dirty = λ x. c.room_for.ensures.fetched.dirty x ∙ so_far.dirty x;
      laid = λ file laid. c.room_for.ensures.laid file (so_far.laid file laid);
    }

pub returns-clause-room : goal.returns-clause-room
returns-clause-room c =
    subst (λ (l : List ℕ). All (HasRoom c.loop-object.self.cache) l) (take_all c.loop-object.object-index c.args.objects.now c.loop-object-test.false) c.loop-object.invariant.room

pub returns-clause-fetched : goal.returns-clause-fetched
returns-clause-fetched c =
    let so_far = c.loop-object.invariant in
    fetched-same c.args.self.now c.loop-object.self so_far.slots so_far.dirty so_far.entries

pub returns-in_err-room_for-clause-fetched : goal.returns-in_err-room_for-clause-fetched
returns-in_err-room_for-clause-fetched c =
    let so_far = c.loop-object.invariant in
    fetched-twice c.args.self.now c.loop-object.self c.room_for.new.self (fetched-same c.args.self.now c.loop-object.self so_far.slots so_far.dirty so_far.entries) c.room_for.ensures.fetched

pub returns-in_err-room_for-clause-laid : goal.returns-in_err-room_for-clause-laid
returns-in_err-room_for-clause-laid c = λ file laid. c.room_for.ensures.laid file (c.loop-object.invariant.laid file laid)
