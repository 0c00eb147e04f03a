use Rattle.app_steps.proofs.ProgramRuns.{ran_on}
use Rattle.app_steps.proofs.prog_app.ProgApp.run.Goals as goal

pub returns-clause-machine : goal.returns-clause-machine
returns-clause-machine g c = λ p commands holds.
    ran_on p commands c.args.self.now.app c.args.self.now.program c.args.most c.run.result (c.run.ensures.answer p commands holds)
