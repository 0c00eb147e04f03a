use Rattle.std.proofs.Common.{◌∙◌, sym, ap}
use Rattle.shell_base.specs.First.{marks_of}
use Rattle.shell_base.specs.declared.budget.Budget.{Budget}
use Rattle.shell_base.proofs.Tunings.{least_marks, usual_marks}
use Rattle.shell_base.proofs.budget.Budget.tuning.Goals as goal

pub returns-in-Usual-clause-marks : goal.returns-in-Usual-clause-marks
returns-in-Usual-clause-marks c p = usual_marks p.cap ∙ sym (ap (λ (b : Budget). marks_of b p) c.in-Usual.is)

pub returns-in-Least-clause-marks : goal.returns-in-Least-clause-marks
returns-in-Least-clause-marks c p = least_marks p.cap ∙ sym (ap (λ (b : Budget). marks_of b p) c.in-Least.is)
