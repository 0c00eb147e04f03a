use Rattle.store_calls.proofs.of_engine.EngineStore.next_empty.Goals as goal

pub returns : goal.returns
returns g c = λ p commands holds. c.lengths_are_told.ensures.next p commands holds c.args.from c.next_empty.result c.next_empty.ensures
