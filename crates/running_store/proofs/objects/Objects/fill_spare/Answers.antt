use Rattle.std.proofs.Common.{◌≡◌, ◌∙◌, None, Some, List, ℕ, sym, ap, subst}
use Rattle.disk_model.specs.declared.machine.FileNo.TheVariants.{Objects}
use Rattle.dirty_cache.specs.Contents.{held}
use Rattle.dirty_cache.specs.declared.entry.Entry.{Entry as Pair}
use Rattle.stable_objects.specs.Replacing.{IsFilled}
use Rattle.stable_objects.specs.Spares.{KeepsFilledBut, spare_lsn, spare_place}
use Rattle.running_store.specs.Laid.{AreCached, Laid}
use Rattle.running_store.proofs.OfRounds.Fills.{filled_absent, filled_next}
use Rattle.running_store.proofs.objects.Objects.fill_spare.Goals as goal

pub returns-in_default-clause-filled : goal.returns-in_default-clause-filled
returns-in_default-clause-filled g c told done were =
    let absent : held c.args.self.now.cache c.args.object ≡ None = ap (λ (l : Laid). held l.cache c.args.object) (sym c.self.view_is) ∙ sym c.in_default.ensures.value in
    filled_absent c.args.self.now c.args.object done ((g.M.Machine.disk c.args.machine.now).reads Objects) were absent

pub returns-in_ok-fill_spare-clause-filled : goal.returns-in_ok-fill_spare-clause-filled
returns-in_ok-fill_spare-clause-filled g c told done were =
    let x = c.args.object in
    let pair : Pair = c.in-Some.entry.now in
    let old = (g.M.Machine.disk c.args.machine.now).reads Objects in
    let new = (g.M.Machine.disk c.fill_spare.new.machine).reads Objects in
    let there : held c.args.self.now.cache x ≡ Some pair = ap (λ (l : Laid). held l.cache x) (sym c.self.view_is) ∙ sym c.in-Some.ensures.value in
    let filled : spare_lsn c.self.inside.slots x ≡ 0 → IsFilled (spare_place c.self.inside.slots x) pair.lsn pair.bytes new = λ closed.
    subst (λ (bytes : List ℕ). IsFilled (spare_place c.self.inside.slots x) pair.lsn bytes new) c.as_slice.ensures (c.in_ok-fill_spare.ensures.filled told closed) in
    filled_next c.args.self.now x done old were (subst (λ (l : Laid). AreCached l.slots.params l.cache) c.self.view_is c.self.invariant.cached) new pair.lsn pair.bytes there
    (subst (λ (l : Laid). spare_lsn l.slots x ≡ 0 → IsFilled (spare_place l.slots x) pair.lsn pair.bytes new) c.self.view_is filled)
    (subst (λ (l : Laid). KeepsFilledBut l.slots x old new) c.self.view_is (c.fill_spare.ensures.others told))
