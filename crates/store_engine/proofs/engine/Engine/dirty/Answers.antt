use Rattle.std.proofs.Common.{◌≡◌, ◌∙◌, ap, sym, subst, ℕ, List, length}
use Rattle.dirty_cache.specs.Contents.{AreDirty}
use Rattle.running_store.specs.Laid.{Laid}
use Rattle.store_engine.specs.Engine.{EngineView}
use Rattle.store_engine.proofs.engine.Engine.dirty.Goals as goal

pub returns : goal.returns
returns g c = λ p file w shows.
    let counted = subst (λ (o : Laid). (objects : List ℕ) × AreDirty o.cache objects × (c.dirty_count.result ≡ length objects)) (c.objects.ensures ∙ ap (λ (e : EngineView). e.parts.volatile.objects) c.self.view_is) c.dirty_count.ensures in
    counted.2 ∙ sym (c.dirty_objects_are_counted.ensures p file c.args.self.now.parts.volatile w counted.0 shows counted.1)
