use Rattle.std.proofs.Common.{◌∙◌, ap, ℕ}
use Rattle.std.specs.Prelude.{max}
use Rattle.restart.proofs.tuning.Tuning.redo_marks.Goals as goal

pub returns : goal.returns
returns c =
    let dirty = c.dirty_limit-dirty.ensures in
    λ i. record { dirty = dirty i; waiting = c.args.self.redo_waiting; most = (c.max-most.ensures ∙ ap (λ (n : ℕ). max n c.args.self.redo_round) dirty) i }
