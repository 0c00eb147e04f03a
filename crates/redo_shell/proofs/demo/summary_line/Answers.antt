use Rattle.redo_shell.proofs.demo.summary_line.Goals as goal

pub returns : goal.returns
returns c = (c.in_ok-totals.totals, c.in_ok-totals.ensures, c.in_ok-line.ensures)
