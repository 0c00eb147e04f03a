use Rattle.std.proofs.Common.{◌∙◌, ◌≡◌, ap, subst, ℕ, List, [], ◌∷◌, length, ◌-◌, ◌+◌, arith, length-append}
use Rattle.std.specs.Prelude.{IsTrue}
use Rattle.oper_core.specs.State.{is_among}
use Rattle.number_lists.specs.Links.{follow}
use Rattle.number_lists.proofs.Steps.{walk-on, walk-in}
use Rattle.number_lists.proofs.chains.walk.Goals as goal

pub loop-done-init : goal.loop-done-init
loop-done-init c = record {
  so_far = rw c.clear.ensures.items (ap (λ (n : ℕ). follow c.args.next.now n c.args.first) (omega arith));
  count = ap length c.clear.ensures.items;
  room = omega arith;
}

pub push_in_room-requires : goal.push_in_room-requires
push_in_room-requires c = omega (arith, c.loop-done.invariant.count, c.loop-done.invariant.room, c.loop-done.out.ok.0, c.requires.room)

pub after-at-requires : goal.after-at-requires
after-at-requires c left =
    let some : c.args.count - c.loop-done.done ≡ 0 → ⊥ = λ e. omega arith in
    c.requires.below c.loop-done.at (subst (λ (ys : List ℕ). IsTrue (is_among c.loop-done.at ys)) c.loop-done.invariant.so_far (walk-in c.args.next.now c.loop-done.out.items (c.args.count - c.loop-done.done) c.loop-done.at some))

pub loop-done-preserved : goal.loop-done-preserved
loop-done-preserved c =
    let some : c.args.count - c.loop-done.done ≡ 0 → ⊥ = λ e. omega arith in
    let less : c.args.count - (c.loop-done.done + 1) ≡ (c.args.count - c.loop-done.done) - 1 = omega arith in
    record {
      so_far = rw (c.push_in_room.ensures.items, less) (walk-on c.args.next.now c.loop-done.out.items (follow c.args.next.now c.args.count c.args.first) (c.args.count - c.loop-done.done) c.loop-done.at c.after-at.result some c.after-at.ensures c.loop-done.invariant.so_far);
      count = rw c.push_in_room.ensures.items (length-append c.loop-done.out.items (c.loop-done.at ∷ []) ∙ ap (λ (n : ℕ). n + 1) c.loop-done.invariant.count);
      room = omega (arith, c.loop-done.invariant.room, c.push_in_room.ensures.capacity);
    }
