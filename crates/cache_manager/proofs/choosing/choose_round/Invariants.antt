use Rattle.std.proofs.Common.{◌-◌, ◌^◌, ◌≤◌, length}
use Rattle.running_store.specs.Parts.{volatile}
use Rattle.cache_manager.proofs.OneRound.DueNodes.{IsChosen}
use Rattle.cache_manager.proofs.choosing.choose_round.Given as goal

abbrev pub invariant-loop-name : goal.invariant-loop-name
invariant-loop-name l = record {
  few : length l.names.items ≤ l.most;
  chosen : IsChosen (volatile l.objects l.graph.entries) l.copied l.most l.from l.names.items l.due.items;
}

abbrev pub decreases-loop-name : goal.decreases-loop-name
decreases-loop-name l = 2 ^ 62 - l.from
