use Rattle.std.proofs.Common.{◌≡◌, ◌∙◌, ap, subst, ℕ, List, length}
use Rattle.std.specs.List.Sorted.{IsStrictlyIncreasing}
use Rattle.dirty_cache.specs.Contents.{AreDirty}
use Rattle.formats.specs.Objects.{bounds_of}
use Rattle.install_order.specs.declared.entry.Entry.{Entry}
use Rattle.running_store.specs.Laid.{Laid}
use Rattle.write_graph.specs.Graph.{lsns}
use Rattle.redo_pass.proofs.Limits.{over_is}
use Rattle.redo_pass.proofs.limit.is_over.Goals as goal

pub returns : goal.returns
returns g c p file w sound shows =
    let it = c.args.store.now.parts.volatile in
    let dirty = c.dirty_count.result in
    let same = c.graph.ensures in
    c.is_above.ensures
    ∙ over_is (g.O.Oper.meaning (bounds_of p)) p c.args.marks file it w dirty c.len.result sound shows (λ listed are. c.dirty_objects_are_counted.ensures p file it w listed shows are)
    (subst (λ (l : Laid). (listed : List ℕ) × AreDirty l.cache listed × (dirty ≡ length listed)) c.objects.ensures c.dirty_count.ensures)
    (subst (λ (l : List Entry). IsStrictlyIncreasing (lsns l)) same c.len.ensures.rising) (c.len.ensures.count ∙ ap (λ (l : List Entry). length l) same)
