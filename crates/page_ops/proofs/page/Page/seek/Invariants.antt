use Rattle.std.proofs.Common.{◌≡◌, ◌≤◌, ◌-◌}
use Rattle.page_ops.specs.Reading as reading
use Rattle.page_ops.specs.Reading.{count_in, seek_from}
use Rattle.page_ops.proofs.page.Page.seek.Given as goal

abbrev pub invariant-loop-low : goal.invariant-loop-low
invariant-loop-low l = record {
  order : l.low ≤ l.high;
  within : l.high ≤ count_in l.self;
  so_far : seek_from (l.high - l.low) l.self l.key l.low l.high ≡ reading.seek l.self l.key;
}

abbrev pub decreases-loop-low : goal.decreases-loop-low
decreases-loop-low l = l.high - l.low
