use Rattle.std.proofs.Common.{◌&&◌, ◌∙◌, ap}
use Rattle.redo_log.specs.Choosing.{is_from, is_to}
use Rattle.redo_log.proofs.choice.admits.Goals as goal

pub returns : goal.returns
returns c = λ b.
    let from = c.is_from-from.ensures ∙ ap (is_from c.args.choice.from) c.number_of-number.ensures in
    let to = c.is_to-to.ensures ∙ ap (is_to c.args.choice.to) c.number_of-number.ensures in
    let about = c.is_about-about.ensures b in
    let of_kind = c.is_of_kind-of_kind.ensures in
    c.all_of.ensures ∙ λ i. from i && to i && about i && of_kind i
