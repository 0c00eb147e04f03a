use Rattle.std.proofs.Common.{◌≡◌, ◌≤◌, ◌+◌, None, List}
use Rattle.formats.specs.Objects.{bounds_of}
use Rattle.formats.specs.declared.params.Params.{Params}
use Rattle.page_map.specs.Cutting.{due_on}
use Rattle.page_map.specs.Sets.{due_in, room_of}
use Rattle.store_calls.specs.Making.{Reads}
use Rattle.range_calls.specs.Store.{Command, state_of}
use Rattle.map_client.proofs.cutting.due.Given as goal

abbrev pub invariant-loop-step : goal.invariant-loop-step
invariant-loop-step g l = record {
  reads : Reads g.S.Store.view (g.M.Machine.disk l.fn.machine) (g.M.Machine.disk l.machine) l.fn.store l.store None;
  within : l.descent.object ≤ l.pair.map.now.hi;
  level : l.descent.level + l._step ≡ l.levels;
  due : (p : Params) (commands : List Command) → g.S.Store.view.holds p (g.M.Machine.disk l.fn.machine) l.fn.store commands → l.pair.room ≡ room_of p.cap
      → due_in (bounds_of p) l.pair.map.now.lo l.pair.map.now.hi l.pair.key l.pair.value (state_of p commands) ≡ due_on l.pair.room l.pair.map.now.lo l.pair.map.now.hi (state_of p commands) l.pair.key l.pair.value l.descent;
}
