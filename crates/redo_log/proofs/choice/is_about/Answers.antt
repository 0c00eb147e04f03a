use Rattle.std.proofs.Common.{◌∙◌, ℕ, Option, ap, sym}
use Rattle.op_codec.specs.AllOps.{all_meaning}
use Rattle.redo_log.specs.Choosing.{is_about}
use Rattle.redo_log.proofs.choice.is_about.Goals as goal

pub returns-in-Some : goal.returns-in-Some
returns-in-Some c = λ b. c.has_object.ensures b ∙ ap (λ (o : Option ℕ). is_about (all_meaning b) o c.args.it.now) (sym c.in-Some.is)
