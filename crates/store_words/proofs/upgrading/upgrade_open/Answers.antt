use Rattle.std.proofs.Common.{◌≡◌, ◌+◌, ◌++◌, ◌∙◌, inl, inr, ⊎_elim, List, ℕ, ap, refl, subst, arith, Err}
use Rattle.disk_model.specs.Disk.{Disk, Rises}
use Rattle.disk_model.specs.Moments.{passes_twice}
use Rattle.disk_model.specs.declared.machine.FileNo.TheVariants.{Objects}
use Rattle.formats.specs.Objects.{last_slot}
use Rattle.stable_objects.specs.SlotLaws.{layout_of_file}
use Rattle.store_engine.specs.Upgrading.{HasUpgradeCause}
use Rattle.store_engine.specs.declared.upgrade_err.UpgradeErr.{UpgradeErr}
use Rattle.shell_base.specs.Notices.{already_version_two, damaged, smaller}
use Rattle.shell_base.specs.HoldLaws.{attached_of, in_engine, rises_within, told_by}
use Rattle.store_words.specs.Cut.{last_length}
use Rattle.store_words.proofs.UpgradeLemmas.{IsOfDamage, IsOfSmaller, IsOfTwo, all_upgraded, damage_ends, damage_silent, damage_upgrade, it_grows, larger_in, larger_of, leaves_saying, leaves_silent, nothing_done, smaller_ends, smaller_silent, smaller_upgrade, stays_idle, two_ends, two_loud, two_second, two_upgrade}
use Rattle.store_words.proofs.upgrading.upgrade_open.Goals as goal

pub returns-in-Ok-clause-leaves : goal.returns-in-Ok-clause-leaves
returns-in-Ok-clause-leaves g c = λ p commands holds all. leaves_silent c.upgrade.ensures holds all (it_grows c.upgrade.ensures holds all c.in-Ok.ensures.cause (λ two. cc (c.in-Ok.is, two)))

pub returns-in-Err-DiskFault-clause-leaves : goal.returns-in-Err-DiskFault-clause-leaves
returns-in-Err-DiskFault-clause-leaves g c = λ p commands holds all.
    let cause = subst (λ (e : UpgradeErr). HasUpgradeCause c.args.engine c.args.params (Rises (g.M.Machine.disk c.args.machine.now).disk_faults (g.M.Machine.disk c.upgrade.new.machine).disk_faults) (Err e)) c.in-Err-DiskFault.field-0-is c.in-Err-DiskFault.ensures.cause in
    leaves_silent c.upgrade.ensures holds all (it_grows c.upgrade.ensures holds all cause.0 (λ two. cc (c.in-Err-DiskFault.is, c.in-Err-DiskFault.field-0-is, two)))

pub returns-in-Err-Memory-clause-leaves : goal.returns-in-Err-Memory-clause-leaves
returns-in-Err-Memory-clause-leaves g c = λ p commands holds all.
    let cause = subst (λ (e : UpgradeErr). HasUpgradeCause c.args.engine c.args.params (Rises (g.M.Machine.disk c.args.machine.now).disk_faults (g.M.Machine.disk c.upgrade.new.machine).disk_faults) (Err e)) c.in-Err-Memory.field-0-is c.in-Err-Memory.ensures.cause in
    leaves_silent c.upgrade.ensures holds all (it_grows c.upgrade.ensures holds all cause (λ two. cc (c.in-Err-Memory.is, c.in-Err-Memory.field-0-is, two)))

pub returns-in-Err-AlreadyTwo-clause-leaves : goal.returns-in-Err-AlreadyTwo-clause-leaves
returns-in-Err-AlreadyTwo-clause-leaves g c = λ p commands holds all.
    let second = (c.upgrade.ensures.version (told_by holds) (attached_of holds)).0 (cc (c.in-Err-AlreadyTwo.is, c.in-Err-AlreadyTwo.field-0-is)) in
    leaves_saying c.upgrade.ensures holds all {line = already_version_two} c.end_with.ensures.runs (inl (second, refl)) (nothing_done c.upgrade.ensures holds all (c.in-Err-AlreadyTwo.is ∙ ap Err c.in-Err-AlreadyTwo.field-0-is) (λ stays. stays))

pub returns-in-Err-Smaller-clause-leaves : goal.returns-in-Err-Smaller-clause-leaves
returns-in-Err-Smaller-clause-leaves g c = λ p commands holds all.
    let cause = subst (λ (e : UpgradeErr). HasUpgradeCause c.args.engine c.args.params (Rises (g.M.Machine.disk c.args.machine.now).disk_faults (g.M.Machine.disk c.upgrade.new.machine).disk_faults) (Err e)) c.in-Err-Smaller.field-0-is c.in-Err-Smaller.ensures.cause in
    let numbers = holds.shows.shows.store.params in
    let line : smaller c.in-Err-Smaller.objects c.in-Err-Smaller.cap ≡ smaller p.objects p.cap = λ i. smaller ((cause.objects_are ∙ ap (λ q. q.objects) numbers) i) ((cause.cap_is ∙ ap (λ q. q.cap) numbers) i) in
    leaves_saying c.upgrade.ensures holds all c.end_smaller.ensures.runs (inr (inl (λ larger. cause.smaller (larger_of holds larger), line))) (nothing_done c.upgrade.ensures holds all (c.in-Err-Smaller.is ∙ ap Err c.in-Err-Smaller.field-0-is) (λ stays. stays))

pub returns-in-Err-Damaged-clause-leaves : goal.returns-in-Err-Damaged-clause-leaves
returns-in-Err-Damaged-clause-leaves g c = λ p commands holds all.
    let told = told_by holds in
    let attached = attached_of holds in
    let cause = subst (λ (e : UpgradeErr). HasUpgradeCause c.args.engine c.args.params (Rises (g.M.Machine.disk c.args.machine.now).disk_faults (g.M.Machine.disk c.upgrade.new.machine).disk_faults) (Err e)) c.in-Err-Damaged.field-0-is c.in-Err-Damaged.ensures.cause in
    let at = c.upgrade.ensures.damaged told attached c.in-Err-Damaged.file c.in-Err-Damaged.place (cc (c.in-Err-Damaged.is, c.in-Err-Damaged.field-0-is)) in
    let layout = layout_of_file c.args.engine.parts.volatile.objects.slots ((g.M.Machine.disk c.args.machine.now).reads Objects) (attached told).0.slots in
    let line : damaged c.in-Err-Damaged.file c.in-Err-Damaged.place ≡ damaged Objects (last_length ((g.M.Machine.disk c.args.machine.now).reads Objects)) = λ i. damaged (at.file_is i) ((at.place_is ∙ ap (λ l. last_slot l + 9) layout) i) in
    leaves_saying c.upgrade.ensures holds all c.end_damaged.ensures.runs (inr (inr line)) (it_grows c.upgrade.ensures holds all cause (λ two. cc (c.in-Err-Damaged.is, c.in-Err-Damaged.field-0-is, two)))

pub returns-in-Err-AlreadyTwo-clause-quiet : goal.returns-in-Err-AlreadyTwo-clause-quiet
returns-in-Err-AlreadyTwo-clause-quiet g c = λ told is. absurd (two_loud c.end_with.result (two_ends c.end_with.result c.end_with.ensures.status) is)

pub returns-in-Err-Smaller-clause-quiet : goal.returns-in-Err-Smaller-clause-quiet
returns-in-Err-Smaller-clause-quiet g c = λ told is.
    ap (λ (d : Disk). d.said) (ap g.M.Machine.disk (c.end_smaller.ensures.silent (smaller_silent c.end_smaller.result (smaller_ends c.end_smaller.result c.end_smaller.ensures.status) is))) ∙ c.upgrade.ensures.quiet told

pub returns-in-Err-Damaged-clause-quiet : goal.returns-in-Err-Damaged-clause-quiet
returns-in-Err-Damaged-clause-quiet g c = λ told is.
    ap (λ (d : Disk). d.said) (ap g.M.Machine.disk (c.end_damaged.ensures.silent (damage_silent c.end_damaged.result (damage_ends c.end_damaged.result c.end_damaged.ensures.status) is))) ∙ c.upgrade.ensures.quiet told

pub returns-in-Ok-clause-quiet : goal.returns-in-Ok-clause-quiet
returns-in-Ok-clause-quiet g c = λ told is. c.upgrade.ensures.quiet told

pub returns-in-Err-DiskFault-clause-quiet : goal.returns-in-Err-DiskFault-clause-quiet
returns-in-Err-DiskFault-clause-quiet g c = λ told is. c.upgrade.ensures.quiet told

pub returns-in-Err-Memory-clause-quiet : goal.returns-in-Err-Memory-clause-quiet
returns-in-Err-Memory-clause-quiet g c = λ told is. c.upgrade.ensures.quiet told

pub returns-in-Ok-clause-done : goal.returns-in-Ok-clause-done
returns-in-Ok-clause-done g c = λ p commands holds all is. (all_upgraded c.upgrade.ensures holds all (c.in-Ok.ensures.upgraded p commands (in_engine holds)), larger_in holds c.in-Ok.ensures.cause.larger)

pub returns-in-Err-DiskFault-clause-faults : goal.returns-in-Err-DiskFault-clause-faults
returns-in-Err-DiskFault-clause-faults g c =
    let cause = subst (λ (e : UpgradeErr). HasUpgradeCause c.args.engine c.args.params (Rises (g.M.Machine.disk c.args.machine.now).disk_faults (g.M.Machine.disk c.upgrade.new.machine).disk_faults) (Err e)) c.in-Err-DiskFault.field-0-is c.in-Err-DiskFault.ensures.cause in
    record { disk = λ is. cause.1; output = λ is. cc is }

pub returns-in-Err-AlreadyTwo-clause-time : goal.returns-in-Err-AlreadyTwo-clause-time
returns-in-Err-AlreadyTwo-clause-time g c = passes_twice (g.M.Machine.disk c.args.machine.now) (g.M.Machine.disk c.upgrade.new.machine) (g.M.Machine.disk c.end_with.new.machine) (g.met.M.Machine.lawful c.end_with.new.machine) c.upgrade.ensures.time c.end_with.ensures.runs.time

pub returns-in-Err-AlreadyTwo-clause-done : goal.returns-in-Err-AlreadyTwo-clause-done
returns-in-Err-AlreadyTwo-clause-done g c = λ p commands holds all is. absurd (subst IsOfTwo is (two_ends c.end_with.result c.end_with.ensures.status))

pub returns-in-Err-AlreadyTwo-clause-status : goal.returns-in-Err-AlreadyTwo-clause-status
returns-in-Err-AlreadyTwo-clause-status g c = two_upgrade c.end_with.result (two_ends c.end_with.result c.end_with.ensures.status)

pub returns-in-Err-AlreadyTwo-clause-faults : goal.returns-in-Err-AlreadyTwo-clause-faults
returns-in-Err-AlreadyTwo-clause-faults g c = record {
  disk = λ is. absurd (subst IsOfTwo is (two_ends c.end_with.result c.end_with.ensures.status));
  output = λ is. rises_within _ _ _ _ c.upgrade.ensures.time.say_faults (omega arith) (⊎_elim (λ e. cc e) (λ e. e) (c.end_with.ensures.cause is));
}

pub returns-in-Err-AlreadyTwo-clause-smaller : goal.returns-in-Err-AlreadyTwo-clause-smaller
returns-in-Err-AlreadyTwo-clause-smaller g c = λ p commands holds is. absurd (subst IsOfTwo is (two_ends c.end_with.result c.end_with.ensures.status))

pub returns-in-Err-AlreadyTwo-clause-already : goal.returns-in-Err-AlreadyTwo-clause-already
returns-in-Err-AlreadyTwo-clause-already g c = λ told attached is. (
  (c.upgrade.ensures.version told attached).0 (cc (c.in-Err-AlreadyTwo.is, c.in-Err-AlreadyTwo.field-0-is)),
  c.end_with.ensures.all (c.upgrade.ensures.time.files_told.0 told) (λ e. cc (is, e)) ∙ ap (λ (l : List ℕ). l ++ already_version_two) (c.upgrade.ensures.quiet told),
)

pub returns-in-Err-AlreadyTwo-clause-damaged : goal.returns-in-Err-AlreadyTwo-clause-damaged
returns-in-Err-AlreadyTwo-clause-damaged g c = λ told attached is. absurd (subst IsOfTwo is (two_ends c.end_with.result c.end_with.ensures.status))

pub returns-in-Err-Smaller-clause-time : goal.returns-in-Err-Smaller-clause-time
returns-in-Err-Smaller-clause-time g c = passes_twice (g.M.Machine.disk c.args.machine.now) (g.M.Machine.disk c.upgrade.new.machine) (g.M.Machine.disk c.end_smaller.new.machine) (g.met.M.Machine.lawful c.end_smaller.new.machine) c.upgrade.ensures.time c.end_smaller.ensures.runs.time

pub returns-in-Err-Smaller-clause-done : goal.returns-in-Err-Smaller-clause-done
returns-in-Err-Smaller-clause-done g c = λ p commands holds all is. absurd (subst IsOfSmaller is (smaller_ends c.end_smaller.result c.end_smaller.ensures.status))

pub returns-in-Err-Smaller-clause-status : goal.returns-in-Err-Smaller-clause-status
returns-in-Err-Smaller-clause-status g c = smaller_upgrade c.end_smaller.result (smaller_ends c.end_smaller.result c.end_smaller.ensures.status)

pub returns-in-Err-Smaller-clause-faults : goal.returns-in-Err-Smaller-clause-faults
returns-in-Err-Smaller-clause-faults g c = record {
  disk = λ is. absurd (subst IsOfSmaller is (smaller_ends c.end_smaller.result c.end_smaller.ensures.status));
  output = λ is. rises_within _ _ _ _ c.upgrade.ensures.time.say_faults (omega arith) (c.end_smaller.ensures.cause is);
}

pub returns-in-Err-Smaller-clause-smaller : goal.returns-in-Err-Smaller-clause-smaller
returns-in-Err-Smaller-clause-smaller g c = λ p commands holds is.
    let old = (g.M.Machine.disk c.args.machine.now) in
    let cause = subst (λ (e : UpgradeErr). HasUpgradeCause c.args.engine c.args.params (Rises old.disk_faults (g.M.Machine.disk c.upgrade.new.machine).disk_faults) (Err e)) c.in-Err-Smaller.field-0-is c.in-Err-Smaller.ensures.cause in
    let numbers = holds.shows.shows.store.params in (
      λ larger. cause.smaller (larger_of holds larger),
      c.end_smaller.ensures.all (c.upgrade.ensures.time.files_told.0 (told_by holds)) is
          ∙ (λ i. c.upgrade.ensures.quiet (told_by holds) i ++ smaller ((cause.objects_are ∙ ap (λ q. q.objects) numbers) i) ((cause.cap_is ∙ ap (λ q. q.cap) numbers) i)),
    )

pub returns-in-Err-Smaller-clause-already : goal.returns-in-Err-Smaller-clause-already
returns-in-Err-Smaller-clause-already g c = λ told attached is. absurd (subst IsOfSmaller is (smaller_ends c.end_smaller.result c.end_smaller.ensures.status))

pub returns-in-Err-Smaller-clause-damaged : goal.returns-in-Err-Smaller-clause-damaged
returns-in-Err-Smaller-clause-damaged g c = λ told attached is. absurd (subst IsOfSmaller is (smaller_ends c.end_smaller.result c.end_smaller.ensures.status))

pub returns-in-Err-Damaged-clause-time : goal.returns-in-Err-Damaged-clause-time
returns-in-Err-Damaged-clause-time g c = passes_twice (g.M.Machine.disk c.args.machine.now) (g.M.Machine.disk c.upgrade.new.machine) (g.M.Machine.disk c.end_damaged.new.machine) (g.met.M.Machine.lawful c.end_damaged.new.machine) c.upgrade.ensures.time c.end_damaged.ensures.time

pub returns-in-Err-Damaged-clause-done : goal.returns-in-Err-Damaged-clause-done
returns-in-Err-Damaged-clause-done g c = λ p commands holds all is. absurd (subst IsOfDamage is (damage_ends c.end_damaged.result c.end_damaged.ensures.status))

pub returns-in-Err-Damaged-clause-status : goal.returns-in-Err-Damaged-clause-status
returns-in-Err-Damaged-clause-status g c = damage_upgrade c.end_damaged.result (damage_ends c.end_damaged.result c.end_damaged.ensures.status)

pub returns-in-Err-Damaged-clause-faults : goal.returns-in-Err-Damaged-clause-faults
returns-in-Err-Damaged-clause-faults g c = record {
  disk = λ is. absurd (subst IsOfDamage is (damage_ends c.end_damaged.result c.end_damaged.ensures.status));
  output = λ is. rises_within _ _ _ _ c.upgrade.ensures.time.say_faults (omega arith) (c.end_damaged.ensures.cause is);
}

pub returns-in-Err-Damaged-clause-smaller : goal.returns-in-Err-Damaged-clause-smaller
returns-in-Err-Damaged-clause-smaller g c = λ p commands holds is. absurd (subst IsOfDamage is (damage_ends c.end_damaged.result c.end_damaged.ensures.status))

pub returns-in-Err-Damaged-clause-already : goal.returns-in-Err-Damaged-clause-already
returns-in-Err-Damaged-clause-already g c = λ told attached is. absurd (subst IsOfDamage is (damage_ends c.end_damaged.result c.end_damaged.ensures.status))

pub returns-in-Err-Damaged-clause-damaged : goal.returns-in-Err-Damaged-clause-damaged
returns-in-Err-Damaged-clause-damaged g c = λ told attached is.
    let at = c.upgrade.ensures.damaged told attached c.in-Err-Damaged.file c.in-Err-Damaged.place (cc (c.in-Err-Damaged.is, c.in-Err-Damaged.field-0-is)) in
    let slots = c.args.engine.parts.volatile.objects.slots in
    let layout = layout_of_file slots ((g.M.Machine.disk c.args.machine.now).reads Objects) (attached told).0.slots in (
      λ uncut. at.cut uncut,
      c.end_damaged.ensures.all (c.upgrade.ensures.time.files_told.0 told) is
          ∙ (λ i. c.upgrade.ensures.quiet told i ++ damaged (at.file_is i) ((at.place_is ∙ ap (λ l. last_slot l + 9) layout) i)),
    )

pub returns-in-Ok-clause-idle : goal.returns-in-Ok-clause-idle
returns-in-Ok-clause-idle g c = λ p commands holds all is. absurd (⊎_elim (λ e. cc e) (λ e. cc e) is)

pub returns-in-Err-DiskFault-clause-idle : goal.returns-in-Err-DiskFault-clause-idle
returns-in-Err-DiskFault-clause-idle g c = λ p commands holds all is. absurd (⊎_elim (λ e. cc e) (λ e. cc e) is)

pub returns-in-Err-Memory-clause-idle : goal.returns-in-Err-Memory-clause-idle
returns-in-Err-Memory-clause-idle g c = λ p commands holds all is. absurd (⊎_elim (λ e. cc e) (λ e. cc e) is)

pub returns-in-Err-AlreadyTwo-clause-idle : goal.returns-in-Err-AlreadyTwo-clause-idle
returns-in-Err-AlreadyTwo-clause-idle g c = λ p commands holds all is. stays_idle c.upgrade.ensures holds all c.end_with.ensures.runs (c.in-Err-AlreadyTwo.is ∙ ap Err c.in-Err-AlreadyTwo.field-0-is) (λ there. there)

pub returns-in-Err-Smaller-clause-idle : goal.returns-in-Err-Smaller-clause-idle
returns-in-Err-Smaller-clause-idle g c = λ p commands holds all is. stays_idle c.upgrade.ensures holds all c.end_smaller.ensures.runs (c.in-Err-Smaller.is ∙ ap Err c.in-Err-Smaller.field-0-is) (λ there. there)

pub returns-in-Err-Damaged-clause-idle : goal.returns-in-Err-Damaged-clause-idle
returns-in-Err-Damaged-clause-idle g c = λ p commands holds all is.
    let ends = damage_ends c.end_damaged.result c.end_damaged.ensures.status in
    absurd (⊎_elim (λ e. subst IsOfDamage e ends) (λ e. subst IsOfDamage e ends) is)

pub returns-in-Ok-clause-second : goal.returns-in-Ok-clause-second
returns-in-Ok-clause-second g c = λ told attached second. cc (c.in-Ok.is, (c.upgrade.ensures.version told attached).1 second)

pub returns-in-Err-AlreadyTwo-clause-second : goal.returns-in-Err-AlreadyTwo-clause-second
returns-in-Err-AlreadyTwo-clause-second g c = λ told attached second. two_second c.end_with.result (two_ends c.end_with.result c.end_with.ensures.status)

pub returns-in-Err-Smaller-clause-second : goal.returns-in-Err-Smaller-clause-second
returns-in-Err-Smaller-clause-second g c = λ told attached second. cc (c.in-Err-Smaller.is, c.in-Err-Smaller.field-0-is, (c.upgrade.ensures.version told attached).1 second)

pub returns-in-Err-Damaged-clause-second : goal.returns-in-Err-Damaged-clause-second
returns-in-Err-Damaged-clause-second g c = λ told attached second. cc (c.in-Err-Damaged.is, c.in-Err-Damaged.field-0-is, (c.upgrade.ensures.version told attached).1 second)
