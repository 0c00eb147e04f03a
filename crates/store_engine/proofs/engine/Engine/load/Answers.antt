use Rattle.std.proofs.Common.{◌∙◌, ap, subst, List, length}
use Rattle.std.specs.List.Sorted.{IsStrictlyIncreasing}
use Rattle.formats.specs.declared.params.Params.{Params}
use Rattle.install_order.specs.declared.entry.Entry.{Entry}
use Rattle.write_graph.specs.Graph.{lsns}
use Rattle.running_store.specs.Counted.{entries_counted}
use Rattle.store_engine.specs.Engine.{EngineView}
use Rattle.store_engine.specs.Paces.{full_round, most_dirty}
use Rattle.store_engine.specs.Store.{meaning_in}
use Rattle.store_engine.proofs.engine.Engine.load.Goals as goal

pub returns-clause-shown : goal.returns-clause-shown
returns-clause-shown g c = λ p file w sound shows.
    let listed = c.graph.ensures ∙ ap (λ (e : EngineView). e.parts.volatile.entries) c.self.view_is in
    let rising = subst (λ (l : List Entry). IsStrictlyIncreasing (lsns l)) listed c.len.ensures.rising in
    λ i. record {
      used = c.charged.ensures i;
      limit = (ap (λ (q : Params). q.limit) (c.params.ensures.value ∙ shows.params)) i;
      dirty = c.dirty.ensures p file w shows i;
      allowed = (c.allowed.ensures ∙ ap most_dirty shows.params) i;
      round = (c.round.ensures ∙ ap full_round shows.params) i;
      uninstalled = (c.len.ensures.count ∙ ap (λ (l : List Entry). length l) listed ∙ entries_counted (meaning_in g.O.Oper.meaning p) w sound p file c.args.self.now.parts.volatile shows rising) i;
    }
