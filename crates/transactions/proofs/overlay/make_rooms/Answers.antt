use Rattle.std.proofs.Common.{◌∙◌, All, List, ℕ, subst}
use Rattle.std.proofs.lemmas.List.{take_all}
use Rattle.dirty_cache.specs.Contents.{HasRoom}
use Rattle.running_store.proofs.SetLemmas.{all_next}
use Rattle.transactions.proofs.overlay.make_rooms.Goals as goal

pub loop-object-preserved : goal.loop-object-preserved
loop-object-preserved c =
    let so_far = c.loop-object.invariant in
    record {
      room = all_next (HasRoom c.loop-object.made) (HasRoom c.make_room.new.self) c.args.objects.now c.loop-object.object-index c.make_room.ensures.rooms so_far.room c.loop-object-test.true c.in_ok-make_room.ensures.room;
      held = λ x. (c.make_room.ensures.same.each x).entry ∙ so_far.held x;
    }

pub returns-clause-room : goal.returns-clause-room
returns-clause-room c =
    subst (λ (l : List ℕ). All (HasRoom c.loop-object.made) l) (take_all c.loop-object.object-index c.args.objects.now c.loop-object-test.false) c.loop-object.invariant.room

pub returns-in_err-make_room-clause-held : goal.returns-in_err-make_room-clause-held
returns-in_err-make_room-clause-held c = λ x. (c.make_room.ensures.same.each x).entry ∙ c.loop-object.invariant.held x
