use Rattle.std.proofs.Common.{◌-◌, ◌^◌, ◌≤◌, length}
use Rattle.running_store.specs.Parts.{volatile}
use Rattle.cache_manager.proofs.MadeReady.Chosen.{IsChosen}
use Rattle.cache_manager.proofs.readying.choose_others.Given as goal

abbrev pub invariant-loop-name : goal.invariant-loop-name
invariant-loop-name l = record {
  few : length l.names.items ≤ l.most;
  chosen : IsChosen (volatile l.objects l.graph.entries) l.copied l.most l.from l.names.items l.logs.items;
}

abbrev pub decreases-loop-name : goal.decreases-loop-name
decreases-loop-name l = 2 ^ 62 - l.from
