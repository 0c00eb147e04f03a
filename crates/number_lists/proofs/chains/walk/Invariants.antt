use Rattle.std.proofs.Common.{◌≡◌, ◌≤◌, ◌-◌, ◌++◌, length}
use Rattle.std.specs.Vec.{vec_capacity}
use Rattle.number_lists.specs.Links.{follow}
use Rattle.number_lists.proofs.chains.walk.Given as goal

abbrev pub invariant-loop-done : goal.invariant-loop-done
invariant-loop-done l = record {
  so_far : l.out.items ++ follow l.next (l.fn.count - l.done) l.at ≡ follow l.next l.fn.count l.fn.first;
  count : length l.out.items ≡ l.done;
  room : vec_capacity l.fn.out ≤ vec_capacity l.out;
}
