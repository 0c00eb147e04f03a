use Rattle.std.proofs.Common.{arith}
use Rattle.formats.specs.Objects.{bounds_of}
use Rattle.range_calls.specs.DueLaws.{short_is}
use Rattle.hash_client.proofs.PutLemmas.{is_within, put_due}
use Rattle.hash_client.proofs.putting.NewPairTurns.commands_are_due.Goals as goal

pub returns : goal.returns
returns g c = λ p s op within.
    let b = bounds_of p in
    let lo = c.args.self.now.file.now.lo in
    let hi = c.args.self.now.file.now.hi in
    let k = c.args.self.now.key in
    let v = c.args.self.now.value in
    let there = is_within b lo hi (omega (arith, c.last-last.ensures.order, c.last-last.ensures.value)) within in
    let key = short_is k c.as_slice-key.ensures.some c.as_slice-key.ensures.few in
    let value = short_is v c.as_slice-value.ensures.some c.as_slice-value.ensures.few in
    put_due p lo hi s k v there (λ wide. c.commands_are_accepted.ensures.put b lo hi s k v key value wide) (λ narrow. c.commands_are_accepted.ensures.put_too_large b lo hi s k v key value narrow) op
