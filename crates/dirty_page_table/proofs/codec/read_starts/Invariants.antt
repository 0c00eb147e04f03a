use Rattle.std.proofs.Common.{◌≡◌, ◌≤◌, ◌*◌, ◌+◌, ◌++◌, length}
use Rattle.std.specs.Prelude.{All}
use Rattle.std.specs.List.{flat_map}
use Rattle.dirty_page_table.specs.Codec.{start_code, FitsStart}
use Rattle.dirty_page_table.proofs.codec.read_starts.Given as goal

abbrev pub invariant-loop-pair : goal.invariant-loop-pair
invariant-loop-pair l = record {
  count : length l.pairs.items ≡ l._pair;
  left : 12 * l.count ≤ 12 * l._pair + length l.rest;
  split : l.bytes ≡ flat_map start_code l.pairs.items ++ l.rest;
  fit : All FitsStart l.pairs.items;
}
