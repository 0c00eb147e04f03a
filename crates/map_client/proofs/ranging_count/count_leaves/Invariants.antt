use Rattle.std.proofs.Common.{◌≡◌, ◌≤◌, ◌+◌, ◌*◌, ◌^◌, None, List, option_map}
use Rattle.formats.specs.declared.params.Params.{Params}
use Rattle.page_map.specs.Ranges.{and_count, count_answer, count_from, from_end}
use Rattle.store_calls.specs.Making.{Reads}
use Rattle.range_calls.specs.Store.{Command, state_of}
use Rattle.map_client.proofs.ranging_count.count_leaves.Given as goal

abbrev pub invariant-loop-left : goal.invariant-loop-left
invariant-loop-left g l = record {
  reads : Reads g.S.Store.view (g.M.Machine.disk l.fn.machine) (g.M.Machine.disk l.machine) l.fn.store l.store None;
  few : l.total + l.left * 131072 ≤ 2 ^ 49;
  same : (p : Params) (commands : List Command) → g.S.Store.view.holds p (g.M.Machine.disk l.fn.machine) l.fn.store commands
      → count_answer l.map.lo l.map.hi (state_of p commands) (record { from = l.from; to = option_map (λ end. end.now) l.to })
      ≡ and_count l.total (from_end 0 (count_from l.map.lo l.map.hi (state_of p commands) l.left) (record { from = l.from; to = option_map (λ end. end.now) l.to }) (option_map (λ v. v.items) l.next));
}

abbrev pub decreases-loop-left : goal.decreases-loop-left
decreases-loop-left g l = l.left
