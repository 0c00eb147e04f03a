use Rattle.std.proofs.Common.{◌+◌, refl, sym, ◌∙◌, ap, subst, arith}
use Rattle.std.proofs.lemmas.Result.{err_from_is_err_and}
use Rattle.disk_model.specs.Disk.{Files}
use Rattle.disk_model.specs.Moments.{told_agrees}
use Rattle.disk_model.specs.declared.machine.FileNo.TheVariants.{Objects}
use Rattle.formats.specs.Objects.{slot_place}
use Rattle.formats.specs.declared.layout.Layout.{Layout}
use Rattle.stable_objects.specs.Upgrades.Filling.{IsFilledTo}
use Rattle.stable_objects.specs.Upgrades.Growing.{pair_before}
use Rattle.stable_objects.specs.Upgrades.Larger.{end_of_slots, larger_layout, seconded}
use Rattle.stable_objects.specs.Replacing.{IsPut}
use Rattle.stable_objects.proofs.Upgraded.Grown.{behind_none, behind_twice, behind_write, read_fails}
use Rattle.stable_objects.proofs.Upgraded.Moved.{passed_over, put_over}
use Rattle.stable_objects.proofs.slots.Slots.move_pair.Goals as goal

pub returns-in_err-lsn-clause-cause : goal.returns-in_err-lsn-clause-cause
returns-in_err-lsn-clause-cause g c =
    let e = err_from_is_err_and c.from_residual.result c.from_residual.ensures.1 in
    rw (e.1, e.2) (read_fails _ _ c.args.self.now _ _ c.read.ensures.kept c.in_err-lsn.ensures.cause c.in_err-lsn.ensures.whole)

pub returns-then-lsn-eq0-clause-moved : goal.returns-then-lsn-eq0-clause-moved
returns-then-lsn-eq0-clause-moved g c told start still filled =
    let a = c.args in
    let old = g.M.Machine.disk a.machine.now in
    subst (λ (f : Files). IsFilledTo a.params (a.object + 1) (pair_before a.self.now.params start) (seconded (f Objects))) (sym (c.read.ensures.kept.reads told))
    (passed_over a.self.now a.params start (old.reads Objects) a.object c.requires.first c.requires.larger still c.requires.object filled (sym c.in_ok-lsn.ensures.lsn ∙ c.if-lsn-eq0.true))

pub returns-in_err-put_first-clause-runs : goal.returns-in_err-put_first-clause-runs
returns-in_err-put_first-clause-runs g c =
    let end = end_of_slots c.args.self.now in
    behind_twice end (behind_none end _ _ c.read.ensures.kept) (behind_write end _ _ _ _ (omega (arith, ap (λ (l : Layout). l.first) c.larger_layout.ensures.is)) c.put_first.ensures.runs)

pub returns-in_err-put_first-clause-cause : goal.returns-in_err-put_first-clause-cause
returns-in_err-put_first-clause-cause g c =
    let e = err_from_is_err_and c.from_residual-in_err-put_first.result c.from_residual-in_err-put_first.ensures.1 in
    rw (e.1, e.2) (λ below. let rose = c.in_err-put_first.ensures.cause refl below in omega (arith, rose, c.read.ensures.kept.time.disk_faults))

pub returns-clause-runs : goal.returns-clause-runs
returns-clause-runs g c =
    let end = end_of_slots c.args.self.now in
    behind_twice end (behind_none end _ _ c.read.ensures.kept) (behind_write end _ _ _ _ (omega (arith, ap (λ (l : Layout). l.first) c.larger_layout.ensures.is)) c.put_first.ensures.runs)

pub returns-clause-moved : goal.returns-clause-moved
returns-clause-moved g c told start still filled =
    let a = c.args in
    let slots = a.self.now in
    let old = g.M.Machine.disk a.machine.now in
    let mid = g.M.Machine.disk c.read.new.machine in
    let new = g.M.Machine.disk c.put_first.new.machine in
    let value = c.deref.result.now in
    let kept = c.read.ensures.kept in
    let put = subst (λ (l : Layout). IsPut (slot_place l a.object 0) c.in_ok-lsn.lsn value (mid.reads Objects) (new.reads Objects)) c.larger_layout.ensures.is (c.in_ok-put_first.ensures.put (kept.time.files_told.0 told)) in
    put_over slots a.params start (old.reads Objects) a.object c.requires.first c.requires.larger still c.requires.object filled
    c.in_ok-lsn.lsn value (new.reads Objects) c.if-lsn-eq0.false c.in_ok-lsn.ensures.lsn (c.deref.ensures.value ∙ c.in_ok-lsn.ensures.value old.reads (told_agrees kept told) still.are)
    (subst (λ (f : Files). IsPut (slot_place (larger_layout slots a.params) a.object 0) c.in_ok-lsn.lsn value (f Objects) (new.reads Objects)) (kept.reads told) put)
