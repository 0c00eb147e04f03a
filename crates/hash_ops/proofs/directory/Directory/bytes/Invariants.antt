use Rattle.std.proofs.Common.{◌≡◌, ◌∷◌, take, flat_map}
use Rattle.byteorder.specs.Endian.{little_bytes}
use Rattle.hash_ops.proofs.directory.Directory.bytes.Given as goal

abbrev pub invariant-loop-object : goal.invariant-loop-object
invariant-loop-object l = l.out.items ≡ 3 ∷ l.self.depth ∷ flat_map (little_bytes 4) (take l.object-index l.object-items)
