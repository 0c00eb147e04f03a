use Rattle.std.proofs.Common.{◌∙◌, sym, ap, ℕ, take, get_or}
use Rattle.std.specs.Prelude.{min}
use Rattle.std.proofs.lemmas.List.{take_more}
use Rattle.analysis_pass.specs.Analysis.{least_start}
use Rattle.analysis_pass.proofs.Lasts.{least_start-push}
use Rattle.analysis_pass.proofs.analysing.least.Goals as goal

pub loop-start-preserved : goal.loop-start-preserved
loop-start-preserved c =
    let xs = c.args.starts.now in
    let i = c.loop-start.start-index in
    c.min-least.ensures ∙ ap (λ (l : ℕ). min l (get_or xs i (0, 0)).1) c.loop-start.invariant
    ∙ sym (ap (least_start c.args.next) (take_more xs i (0, 0) c.loop-start-test.true) ∙ least_start-push c.args.next (take i xs) (get_or xs i (0, 0)))
