use Rattle.std.proofs.Common.{◌≡◌, None, Ok, List, option_map}
use Rattle.formats.specs.declared.params.Params.{Params}
use Rattle.page_map.specs.Ranges.{and_then, back_answer, back_from}
use Rattle.store_calls.specs.Making.{Reads}
use Rattle.range_calls.specs.Store.{Command, state_of}
use Rattle.map_client.specs.RangingWay.{before}
use Rattle.map_client.proofs.ranging_fall.back_leaves.Given as goal

abbrev pub invariant-loop-leaves : goal.invariant-loop-leaves
invariant-loop-leaves g l = record {
  reads : Reads g.S.Store.view (g.M.Machine.disk l.fn.machine) (g.M.Machine.disk l.machine) l.fn.store l.store None;
  same : (p : Params) (commands : List Command) → g.S.Store.view.holds p (g.M.Machine.disk l.fn.machine) l.fn.store commands
      → and_then (Ok l.fn.gathered.pairs.items) (back_answer l.map.lo l.map.hi (state_of p commands) (record { from = l.from; to = option_map (λ end. end.now) l.to }) l.fn.gathered.left)
      ≡ and_then (Ok l.gathered.pairs.items) (before (back_from l.map.lo l.map.hi (state_of p commands) l.leaves l.gathered.left) (record { from = l.from; to = option_map (λ end. end.now) l.to }) (option_map (λ v. v.items) l.begin));
}

abbrev pub decreases-loop-leaves : goal.decreases-loop-leaves
decreases-loop-leaves g l = l.leaves
