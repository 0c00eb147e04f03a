use Rattle.std.proofs.Common.{◌∙◌, ◌<◌, ◌≤◌, ◌==◌, Bool, length, List, ℕ, sym, subst, ap, arith}
use Rattle.std.specs.Prelude.{slice_set}
use Rattle.running_store.specs.Laid.{Laid}
use Rattle.running_store.specs.Laid.Lengths.{AreKept}
use Rattle.running_store.proofs.LaidLemmas.{dirty_set, kept_set, laid_set}
use Rattle.running_store.proofs.objects.Objects.set.Goals as goal

pub note_value-requires : goal.note_value-requires
note_value-requires c = omega (arith, c.self.invariant.empties.count, subst (λ (l : Laid). c.args.object < l.slots.params.objects) (sym c.self.view_is) c.requires.below)

pub invariant_of-self : goal.invariant_of-self
invariant_of-self c =
    let below : c.args.object < c.self.inside.slots.params.objects = subst (λ (l : Laid). c.args.object < l.slots.params.objects) (sym c.self.view_is) c.requires.below in
    let short : length c.args.value ≤ c.self.inside.slots.params.cap = subst (λ (l : Laid). length c.args.value ≤ l.slots.params.cap) (sym c.self.view_is) c.requires.short in
    subst (λ (marks : List Bool). AreKept (record { slots = c.self.inside.slots; cache = c.set.new.self }) marks)
    (ap (λ (bytes : List ℕ). slice_set c.self.inside.empties.marks c.args.object (length bytes == 0)) (c.into_vec.ensures ∙ sym c.as_slice.ensures) ∙ sym c.note_value.ensures)
    (kept_set c.self.inside.slots c.self.inside.cache c.set.new.self c.args.object (record { lsn = c.args.lsn; bytes = c.into_vec.result.items }) c.set.ensures.entry c.set.ensures.dirty c.set.ensures.others c.self.inside.empties.marks c.self.invariant below
    (subst (λ (bytes : List ℕ). length bytes ≤ c.self.inside.slots.params.cap) (sym c.into_vec.ensures) short))

pub returns-clause-laid : goal.returns-clause-laid
returns-clause-laid c =
    rw (← c.self.view_is) (laid_set c.self.inside.slots c.self.inside.cache c.set.new.self c.args.object (record { lsn = c.args.lsn; bytes = c.into_vec.result.items }) c.set.ensures.entry c.set.ensures.dirty c.set.ensures.others)

pub returns-clause-dirty : goal.returns-clause-dirty
returns-clause-dirty c =
    rw (← c.self.view_is) (dirty_set c.self.inside.slots c.self.inside.cache c.set.new.self c.args.object (record { lsn = c.args.lsn; bytes = c.into_vec.result.items }) c.set.ensures.entry c.set.ensures.dirty c.set.ensures.others)
