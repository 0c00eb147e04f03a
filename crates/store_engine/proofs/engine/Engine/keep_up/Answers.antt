use Rattle.std.proofs.Common.{◌∙◌}
use Rattle.store_engine.specs.Grouping.{ungrouped}
use Rattle.store_engine.specs.Paces.{pace_after}
use Rattle.store_engine.proofs.engine.Engine.keep_up.Goals as goal

pub returns-clause-alone : goal.returns-clause-alone
returns-clause-alone g c = λ alone. record {
  due = c.due-due.result;
  modest = c.due-due.ensures.modest;
  at_pace = λ p w shows. c.due-due.ensures.at_pace p _ (ungrouped w) shows.shows.running.sound shows.shows.store;
  done = c.take_due-answer.ensures;
  paced = c.note.ensures ∙ (λ i. pace_after c.args.pace.now c.take_due-answer.result (c.used.ensures i) (c.params.ensures.value i).limit);
}
