use Rattle.std.proofs.Common.{◌∙◌, sym, ap, arith, ◌/◌}
use Rattle.std.proofs.lemmas.List.{at_drop_all}
use Rattle.named_words.specs.Effects.{hash_from}
use Rattle.name_ranges.proofs.keys.place.Goals as goal

pub returns : goal.returns
returns c =
    let all = at_drop_all (hash_from c.loop-byte.hash) c.args.name.now c.loop-byte.byte-index (omega arith) in
    ap (λ n. n / 2) (sym all ∙ c.loop-byte.invariant.value)
