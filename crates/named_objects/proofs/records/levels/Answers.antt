use Rattle.page_map.specs.Map.{bytes_at}
use Rattle.range_calls.specs.Store.{state_of}
use Rattle.named_objects.proofs.Told.{level_found}
use Rattle.named_objects.proofs.records.levels.Goals as goal

pub returns-clause-found : goal.returns-clause-found
returns-clause-found g c = λ p commands holds within.
    let lo = c.args.map.now.lo in
    level_found lo (bytes_at lo (state_of p commands) lo) c.root_level.result (λ done. c.root_level.ensures.answer p commands holds within done)
