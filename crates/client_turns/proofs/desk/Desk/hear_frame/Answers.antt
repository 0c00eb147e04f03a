use Rattle.std.proofs.Common.{◌∙◌, sym}
use Rattle.client_turns.proofs.Brought.{nil_if, some_if}
use Rattle.client_turns.proofs.Moments.{serves_same}
use Rattle.client_turns.proofs.desk.Desk.hear_frame.Goals as goal

pub returns-then-not-has : goal.returns-then-not-has
returns-then-not-has g c origin was holds =
    record { next = was; counts = g.met.S.NamedStore.lawful.counts c.args.store.now origin was holds; stands = tt; is = λ service said all ahead is. (serves_same service was said is.going.serves, tt) }

pub returns-then-is_empty : goal.returns-then-is_empty
returns-then-is_empty g c = c.hear_end.ensures

pub returns : goal.returns
returns g c = c.hear_bytes.ensures

pub hear_end-requires-clause-rest : goal.hear_end-requires-clause-rest
hear_end-requires-clause-rest g c = (c.has.ensures c.if-not-has.false).0

pub hear_end-requires-clause-here : goal.hear_end-requires-clause-here
hear_end-requires-clause-here g c = (c.has.ensures c.if-not-has.false).1

pub hear_end-requires-clause-none : goal.hear_end-requires-clause-none
hear_end-requires-clause-none g c = nil_if c.args.frame.bytes.now (sym c.is_empty.ensures ∙ c.if-is_empty.true)

pub hear_bytes-requires-clause-rest : goal.hear_bytes-requires-clause-rest
hear_bytes-requires-clause-rest g c = (c.has.ensures c.if-not-has.false).0

pub hear_bytes-requires-clause-here : goal.hear_bytes-requires-clause-here
hear_bytes-requires-clause-here g c = (c.has.ensures c.if-not-has.false).1

pub hear_bytes-requires-clause-some : goal.hear_bytes-requires-clause-some
hear_bytes-requires-clause-some g c = some_if c.args.frame.bytes.now (sym c.is_empty.ensures ∙ c.if-is_empty.false)
