use Rattle.std.proofs.Common.{rules, ◌≡◌, Some, arith}
use Rattle.page_ops.specs.Reading.{seek}
use Rattle.page_map.proofs.SeekBound.{place_low}
use Rattle.page_map.proofs.leaf.place_in.Goals as goal

pub overflow_cast-result : goal.overflow_cast-result
overflow_cast-result c =
    let found : seek c.args.leaf.now c.args.key.now ≡ Some c.in_ok-place.place = search rules in
    let low = place_low c.args.leaf.now c.args.key.now c.in_ok-place.place found in
    omega (arith, low, c.count-count.ensures.fits, c.count-count.ensures.value)
