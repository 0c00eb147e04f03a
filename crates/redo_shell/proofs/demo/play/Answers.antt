use Rattle.std.proofs.Common.{List, ℕ, subst}
use Rattle.disk_model.specs.Growing.{disk_of}
use Rattle.script_lines.specs.Grammar.{lines_of}
use Rattle.redo_shell.specs.Demo.{demo_params, IsPlayed}
use Rattle.redo_shell.proofs.DemoPlayed.{played}
use Rattle.redo_shell.proofs.demo.play.Goals as goal

pub returns-in_ok-accepted-in-Done : goal.returns-in_ok-accepted-in-Done
returns-in_ok-accepted-in-Done c =
    let counted = c.in_ok-accepted-in-Done.ensures in
    subst (λ (l : List ℕ). IsPlayed (lines_of l) (disk_of c.accepted_count.new.machine).said c.in_ok-accepted-in-Done.accepted) c.in_ok-input.ensures.left
    (played c.in_ok-machine.machine (disk_of c.accepted_count.new.machine) c.in_ok-accepted-in-Done.accepted c.run.ensures.call tt c.in_ok-machine.ensures.0 c.in_ok-machine.ensures.1 c.in-Done.is tt (λ commands opens. (counted.quiet demo_params commands opens, counted.count demo_params commands opens)))
