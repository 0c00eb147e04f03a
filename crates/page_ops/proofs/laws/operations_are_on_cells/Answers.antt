use Rattle.std.proofs.Common.{refl}
use Rattle.page_ops.proofs.CellLemmas.{check_is, effect_is}
use Rattle.page_ops.proofs.PartLemmas.{short_page}
use Rattle.page_ops.proofs.laws.operations_are_on_cells.Goals as goal

pub returns : goal.returns
returns c = record { check = check_is; effect = effect_is; short = short_page; empty = λ b x i key value. (refl, refl) }
