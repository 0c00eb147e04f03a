use Rattle.std.proofs.Common.{◌≡◌, ◌∙◌, Some, true, ap, length, sym, subst}
use Rattle.dirty_cache.specs.Contents.{held, is_dirty}
use Rattle.dirty_cache.specs.declared.entry.Entry.{Entry as Pair}
use Rattle.running_store.specs.Laid.{Laid}
use Rattle.running_store.specs.Calls.RoundCalls.{AreLater}
use Rattle.running_store.proofs.LaidLemmas.{kept_flushed}
use Rattle.running_store.proofs.objects.Objects.hold.Goals as goal

pub hold-requires-clause-later : goal.hold-requires-clause-later
hold-requires-clause-later c =
    let dirty : is_dirty c.self.inside.cache c.args.object ≡ true = sym c.is_dirty.ensures.dirty ∙ c.if-not-is_dirty.false in
    let later = subst (λ (l : Laid). AreLater l) (sym c.self.view_is) c.requires in
    (later c.args.object c.in-Some.entry.now dirty (sym c.in-Some.ensures.value)).0

pub invariant_of-self : goal.invariant_of-self
invariant_of-self c =
    let x = c.args.object in
    let pair : Pair = c.in-Some.entry.now in
    let it : Laid = record { slots = c.self.inside.slots; cache = c.self.inside.cache } in
    let had : held it.cache x ≡ Some pair = sym c.in-Some.ensures.value in
    let dirty : is_dirty it.cache x ≡ true = sym c.is_dirty.ensures.dirty ∙ c.if-not-is_dirty.false in
    let is = c.hold.ensures.held in
    let clean = c.mark_clean.ensures in
    kept_flushed it c.hold.new.self is.layout c.self.inside.empties.marks c.self.invariant c.mark_clean.new.self x pair had dirty (is.long_is ∙ ap length c.as_slice.ensures) is.other_lengths clean.entry clean.clean clean.others
