use Rattle.std.proofs.Common.{◌∙◌, inl}
use Rattle.redo_shell.proofs.demo.new_store.Goals as goal

pub returns-in-Done : goal.returns-in-Done
returns-in-Done c = (
  (c.init.ensures.making.done tt c.in-Done.is).0,
  c.init.ensures.making.quiet tt (inl c.in-Done.is) ∙ c.in_ok-machine.ensures.said,
)
