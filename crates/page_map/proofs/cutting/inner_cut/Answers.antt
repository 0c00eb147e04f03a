use Rattle.std.proofs.Common.{List, length, ap, arith}
use Rattle.page_ops.specs.Page.{Cell}
use Rattle.page_map.proofs.cutting.inner_cut.Goals as goal

pub overflow_cast-result : goal.overflow_cast-result
overflow_cast-result c = omega (arith, c.middle-place.ensures.within, ap (λ (l : List Cell). length l) c.of.ensures, c.count-within.ensures.value, c.count-within.ensures.fits)
