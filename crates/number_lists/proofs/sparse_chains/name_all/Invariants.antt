use Rattle.std.proofs.Common.{◌≡◌}
use Rattle.std.specs.Prelude.{slice_index}
use Rattle.number_lists.proofs.Standing.{replaced}
use Rattle.number_lists.proofs.sparse_chains.name_all.Given as goal

abbrev pub invariant-loop-i : goal.invariant-loop-i
invariant-loop-i l = l.places.items ≡ replaced (slice_index l.numbers) l.fn.places.items l.i
