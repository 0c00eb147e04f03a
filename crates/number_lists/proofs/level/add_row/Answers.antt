use Rattle.std.proofs.Common.{◌∙◌, ap, ℕ, List}
use Rattle.std.specs.Prelude.{slice_index_or}
use Rattle.number_lists.proofs.Counted.{zero-push}
use Rattle.number_lists.proofs.level.add_row.Goals as goal

pub returns-then-n-len-clause-each : goal.returns-then-n-len-clause-each
returns-then-n-len-clause-each c = λ row. ap (λ (xs : List ℕ). slice_index_or xs row 0) c.push_in_room.ensures.items ∙ zero-push c.args.counts.now.items row
