use Rattle.std.proofs.Common.{List, ℕ, take, subst}
use Rattle.std.proofs.lemmas.List.{take_all}
use Rattle.stable_objects.specs.Ready.{AreHeld}
use Rattle.running_store.specs.Calls.RoundCalls.{AreFlushed, cached_in}
use Rattle.running_store.proofs.OfRounds.Holds.{have_more, have_none, still_later}
use Rattle.running_store.proofs.objects.Objects.hold_all.Goals as goal

pub loop-object-init : goal.loop-object-init
loop-object-init c = have_none c.args.self.now

pub hold-requires : goal.hold-requires
hold-requires c = still_later c.args.self.now c.loop-object.self (take c.loop-object.object-index c.args.objects.now) c.loop-object.invariant.flushed c.requires.later

pub loop-object-preserved : goal.loop-object-preserved
loop-object-preserved c =
    let is = c.hold.ensures in
    have_more c.args.self.now c.loop-object.self c.hold.new.self c.args.objects.now c.loop-object.object-index c.loop-object-test.true c.loop-object.invariant (c.requires.dirty c.loop-object.object-index 0 c.loop-object-test.true)
    is.idle is.flushed is.held

pub returns-clause-flushed : goal.returns-clause-flushed
returns-clause-flushed c =
    subst (λ (l : List ℕ). AreFlushed c.args.self.now c.loop-object.self l) (take_all c.loop-object.object-index c.args.objects.now c.loop-object-test.false) c.loop-object.invariant.flushed

pub returns-clause-held : goal.returns-clause-held
returns-clause-held c =
    subst (λ (l : List ℕ). AreHeld c.args.self.now.slots c.loop-object.self.slots l (cached_in c.args.self.now.cache)) (take_all c.loop-object.object-index c.args.objects.now c.loop-object-test.false) c.loop-object.invariant.held_in
