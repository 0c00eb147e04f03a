use Rattle.std.proofs.Common.{rules, ◌≡◌, ℕ, Option, Some, List, option_map, arith}
use Rattle.page_ops.specs.Reading.{seek}
use Rattle.page_map.specs.Steps.{front_in, sooner}
use Rattle.page_map.proofs.SeekBound.{front_low, place_low}
use Rattle.page_map.proofs.stepping.places_in.Goals as goal

pub between-requires-clause-first : goal.between-requires-clause-first
between-requires-clause-first c =
    let found : seek c.args.leaf.now c.args.from.now ≡ Some c.in_ok-first.first = search rules in
    let low = place_low c.args.leaf.now c.args.from.now c.in_ok-first.first found in
    omega (arith, low, c.count-count.ensures.fits, c.count-count.ensures.value)

pub between-requires-clause-behind : goal.between-requires-clause-behind
between-requires-clause-behind c =
    let end : Option (List ℕ) = sooner (option_map (λ end. end.now) c.args.to) (option_map (λ end. end.now) c.args.end) in
    let found : front_in c.args.leaf.now end ≡ Some c.in_ok-behind.behind = search rules in
    let low = front_low c.args.leaf.now end c.in_ok-behind.behind found in
    omega (arith, low, c.count-count.ensures.fits, c.count-count.ensures.value)
