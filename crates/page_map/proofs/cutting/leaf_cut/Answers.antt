use Rattle.std.proofs.Common.{arith}
use Rattle.page_map.proofs.CellLemmas.{place_inside}
use Rattle.page_map.proofs.cutting.leaf_cut.Goals as goal

pub overflow_cast-result : goal.overflow_cast-result
overflow_cast-result c =
    omega (arith, c.place_for-place.ensures, place_inside c.as_slice.result.now c.args.front.now, c.count-within.ensures.value, c.count-within.ensures.fits)
