use Rattle.std.proofs.Common.{◌≡◌, ◌≤◌, ◌*◌, ◌+◌, ◌++◌, length, take}
use Rattle.std.specs.Prelude.{All}
use Rattle.std.specs.List.{flat_map}
use Rattle.std.specs.Vec.{vec_len, vec_capacity}
use Rattle.byteorder.specs.Endian.{little_bytes}
use Rattle.dirty_page_table.specs.Codec.{start_code, FitsStart}
use Rattle.dirty_page_table.proofs.codec.encode.Given as goal

abbrev pub invariant-loop-object : goal.invariant-loop-object
invariant-loop-object l = record {
  room : vec_len l.out + 12 * length l.starts ≤ vec_capacity l.out + 12 * l.object-index;
  written : l.out.items ≡ l.fn.out.items ++ (little_bytes 8 l.table.next ++ (little_bytes 4 (length l.starts) ++ flat_map start_code (take l.object-index l.starts)));
  fit : All FitsStart (take l.object-index l.starts);
}
