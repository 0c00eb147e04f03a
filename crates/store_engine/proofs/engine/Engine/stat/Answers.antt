use Rattle.std.proofs.Common.{◌≡◌, ◌∙◌, ap, sym, subst, ℕ, List, length}
use Rattle.std.specs.List.Sorted.{IsStrictlyIncreasing}
use Rattle.formats.specs.Objects.{bounds_of}
use Rattle.dirty_cache.specs.Contents.{AreDirty}
use Rattle.install_order.specs.declared.entry.Entry.{Entry}
use Rattle.log_blocks.specs.LogView.{used_of}
use Rattle.log_records.specs.RecordLog.{RecordLogView}
use Rattle.running_store.specs.Counted.{entries_counted}
use Rattle.running_store.specs.Laid.{Laid}
use Rattle.write_graph.specs.Graph.{IsCount, NamesNode, lsns}
use Rattle.store_engine.specs.Engine.{EngineView, accepted_in, forced_in, used_in}
use Rattle.store_engine.specs.Store.{meaning_in}
use Rattle.store_engine.proofs.Stats.{nodes_counted, small_in}
use Rattle.store_engine.proofs.engine.Engine.stat.Given.{Over}
use Rattle.store_engine.proofs.engine.Engine.stat.Goals.{After-identities}
use Rattle.store_engine.proofs.engine.Engine.stat.Goals as goal

pub returns-clause-counts : goal.returns-clause-counts
returns-clause-counts g c = (
  c.used.ensures ∙ ap (λ (l : RecordLogView). used_of l.log) c.log-3.ensures ∙ ap (λ (e : EngineView). used_in e) c.self.view_is,
  c.accepted.ensures ∙ ap (λ (l : RecordLogView). l.accepted) c.log-2.ensures ∙ ap (λ (e : EngineView). accepted_in e) c.self.view_is,
  c.forced.ensures ∙ ap (λ (l : RecordLogView). l.forced) c.log.ensures ∙ ap (λ (e : EngineView). forced_in e) c.self.view_is,
  c.identities.ensures ∙ ap (λ (e : EngineView). e.identities) c.self.view_is,
)

module _ (g : Over) (c : After-identities g) where
  entries_are : c.graph.result.now.entries ≡ c.args.self.now.parts.volatile.entries
  entries_are = c.graph.ensures ∙ ap (λ (e : EngineView). e.parts.volatile.entries) c.self.view_is

  listed : c.graph-2.result.now.entries ≡ c.args.self.now.parts.volatile.entries
  listed = c.graph-2.ensures ∙ ap (λ (e : EngineView). e.parts.volatile.entries) c.self.view_is

  nodes : IsCount (NamesNode c.args.self.now.parts.volatile.entries) c.node_count.result
  nodes = subst (λ (l : List Entry). IsCount (NamesNode l) c.node_count.result) entries_are c.node_count.ensures.count

  dirty : (objects : List ℕ) × AreDirty c.args.self.now.parts.volatile.objects.cache objects × (c.dirty_count.result ≡ length objects)
  dirty =
      subst (λ (o : Laid). (objects : List ℕ) × AreDirty o.cache objects × (c.dirty_count.result ≡ length objects)) (c.objects.ensures ∙ ap (λ (e : EngineView). e.parts.volatile.objects) c.self.view_is) c.dirty_count.ensures

pub returns-clause-own : goal.returns-clause-own
returns-clause-own g c =
    let at = (goal.at.returns-clause-own g c).After-identities in (c.len.ensures.count ∙ ap (λ (l : List Entry). length l) (listed g at), nodes g at)

pub returns-clause-dirty : goal.returns-clause-dirty
returns-clause-dirty g c = dirty g (goal.at.returns-clause-dirty g c).After-identities

pub returns-clause-shown : goal.returns-clause-shown
returns-clause-shown g c = λ p file w sound shows.
    let at = (goal.at.returns-clause-shown g c).After-identities in
    let m = meaning_in g.O.Oper.meaning p in
    let it = c.args.self.now.parts.volatile in
    let lawful = g.met.O.Oper.lawful (bounds_of p) (small_in m p file it w shows) in
    let rising = subst (λ (l : List Entry). IsStrictlyIncreasing (lsns l)) (listed g at) c.len.ensures.rising in
    record {
      nodes = nodes_counted m lawful p file it w sound shows c.node_count.result (nodes g at);
      dirty = (dirty g at).2 ∙ sym (c.dirty_objects_are_counted.ensures p file it w (dirty g at).0 shows (dirty g at).1);
      uninstalled = c.len.ensures.count ∙ ap (λ (l : List Entry). length l) (listed g at) ∙ entries_counted m w sound p file it shows rising;
    }
