use Rattle.std.proofs.Common.{◌∙◌, ap, sym, subst}
use Rattle.checkpointing.specs.Courses.{IsModest}
use Rattle.checkpointing.specs.declared.due.Due.{Due}
use Rattle.store_engine.specs.Engine.{params_of, used_in}
use Rattle.store_engine.specs.Paces.{due_at}
use Rattle.store_engine.specs.declared.load.Load.{Load}
use Rattle.store_engine.proofs.Loads.{is_modest}
use Rattle.store_engine.proofs.engine.Engine.due.Goals as goal

pub returns-clause-modest : goal.returns-clause-modest
returns-clause-modest g c =
    let it = c.args.self.now in
    subst (λ (due : Due). IsModest (params_of it) it.copied (used_in it) due) (sym c.due.ensures) (is_modest c.args.pace.now c.load.result (params_of it) it.copied (used_in it) c.load.ensures.used c.load.ensures.round)

pub returns-clause-at_pace : goal.returns-clause-at_pace
returns-clause-at_pace g c = λ p file w sound shows. c.due.ensures ∙ ap (λ (at : Load). due_at c.args.pace.now at) (c.load.ensures.shown p file w sound shows)
