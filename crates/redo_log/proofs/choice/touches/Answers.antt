use Rattle.std.proofs.Common.{◌||◌, ◌==◌, ◌∙◌, List, ℕ, ap}
use Rattle.std.specs.List.{list_any}
use Rattle.redo_log.proofs.choice.touches.Goals as goal

pub returns : goal.returns
returns c = λ b.
    let among : List ℕ → _ = λ l. list_any (λ y. y == c.args.object) l in
    let reads = c.is_among-reads.ensures ∙ ap among (c.as_slice.ensures.value ∙ c.reads.ensures b) in
    let writes = c.is_among-writes.ensures ∙ ap among (c.as_slice-2.ensures.value ∙ c.writes.ensures b) in
    c.either.ensures ∙ λ i. reads i || writes i
