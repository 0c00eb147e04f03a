use Rattle.std.proofs.Common.{◌≡◌, ◌<◌, ◌≤◌, length, None, sym, subst}
use Rattle.dirty_cache.specs.Contents.{held}
use Rattle.running_store.specs.Laid.{Laid}
use Rattle.running_store.proofs.LaidLemmas.{cells_kept, kept_clean, laid_kept}
use Rattle.running_store.proofs.objects.Objects.keep.Goals as goal

absent : (c : goal.After-keep_clean) → held c.self.inside.cache c.args.object ≡ None
absent c = subst (λ (l : Laid). held l.cache c.args.object ≡ None) (sym c.self.view_is) c.requires.absent

pub invariant_of-self : goal.invariant_of-self
invariant_of-self c =
    let below : c.args.object < c.self.inside.slots.params.objects = subst (λ (l : Laid). c.args.object < l.slots.params.objects) (sym c.self.view_is) c.requires.below in
    let short : length c.args.bytes.items ≤ c.self.inside.slots.params.cap = subst (λ (l : Laid). length c.args.bytes.items ≤ l.slots.params.cap) (sym c.self.view_is) c.requires.short in
    kept_clean c.self.inside.slots c.self.inside.cache c.keep_clean.new.self c.args.object c.args.lsn c.args.bytes.items (absent c) c.keep_clean.ensures.entry c.keep_clean.ensures.others c.self.inside.empties.marks c.self.invariant c.keep_clean.ensures.clean below short

pub returns-clause-cells : goal.returns-clause-cells
returns-clause-cells c =
    let old = c.self.inside.cache in
    let new = c.keep_clean.new.self in
    rw (← c.self.view_is) (λ file laid read. (
      cells_kept c.self.inside.slots old new c.args.object c.args.lsn c.args.bytes.items (absent c) c.keep_clean.ensures.entry c.keep_clean.ensures.others file laid read,
      laid_kept c.self.inside.slots old new c.args.object c.args.lsn c.args.bytes.items (absent c) c.keep_clean.ensures.entry c.keep_clean.ensures.others file laid read,
    ))
