use Rattle.std.proofs.Common.{◌≡◌, ◌∙◌, inl, arith, ap, sym, subst, ⊎_elim, Ok, Err}
use Rattle.std.proofs.lemmas.Bool.{false_from_ne_true}
use Rattle.disk_model.specs.declared.machine.FileNo.TheVariants.{Objects}
use Rattle.formats.specs.Objects.{bounds_of}
use Rattle.log_blocks.specs.Reading.{none_told}
use Rattle.stable_objects.specs.Reading.{open_from_read}
use Rattle.stable_objects.specs.declared.open_err.OpenErr.{OpenErr}
use Rattle.explain_core.specs.World.{step}
use Rattle.explain_core.specs.World.Step.{Crash}
use Rattle.explain_core.specs.declared.marks.Marks.{Marks}
use Rattle.standing.specs.Moments.{ShowsSome}
use Rattle.standing.specs.OneStable.{small_store}
use Rattle.running_store.specs.Kept.{IsAttached}
use Rattle.running_store.specs.Taking.{IsAfter}
use Rattle.redo_pass.specs.Endings.{as_error}
use Rattle.restart.specs.Courses.{redo_marks, restart_course}
use Rattle.restart.specs.Damage.{IsReported}
use Rattle.restart.specs.Opening.{IsJudged, IsOpening, OpensThrough, opened}
use Rattle.restart.specs.Starts.{at_start}
use Rattle.restart.proofs.Judged.{quiet_stays, quiet_then, rises_behind, cause_of, not_opened, is_opened, is_reported, none_reported, judged_whole, judged_unread}
use Rattle.restart.proofs.Layouts.{keeps_layout}
use Rattle.restart.proofs.Opened.{filed_well_formed, unharmed}
use Rattle.restart.proofs.Redone.{opening_fails, redo_damages, redo_never}
use Rattle.restart.proofs.Restarts.{read_attached, to_redo, unread_shows, whole_after, whole_moments, whole_reads}
use Rattle.restart.proofs.restarting.restart.Given.{Over}
use Rattle.restart.proofs.restarting.restart.Goals.{In-Ok}
use Rattle.restart.proofs.restarting.restart.Goals as goal

pub returns-in_err-store-clause-opening : goal.returns-in_err-store-clause-opening
returns-in_err-store-clause-opening g c =
    as_error (λ r. IsOpening g.O.Oper.meaning (g.M.Machine.disk c.args.machine.now) (g.M.Machine.disk c.load.new.machine) (opened r)) c.from_residual.result c.in_err-store.field-0.0 c.from_residual.ensures.1
    (not_opened g.O.Oper.meaning (g.M.Machine.disk c.args.machine.now) (g.M.Machine.disk c.load.new.machine) c.in_err-store.field-0.0 (quiet_stays (g.M.Machine.disk c.args.machine.now) (g.M.Machine.disk c.load.new.machine) c.load.ensures.kept) (cause_of _ _ _ _ _ c.in_err-store.ensures.cause))

pub returns-in_err-store-clause-judged : goal.returns-in_err-store-clause-judged
returns-in_err-store-clause-judged g c told =
    as_error (λ r. IsJudged g.O.Oper.meaning (g.M.Machine.disk c.args.machine.now) (g.M.Machine.disk c.load.new.machine) (opened r)) c.from_residual.result c.in_err-store.field-0.0 c.from_residual.ensures.1
    (judged_unread g.O.Oper.meaning g.met.O.Oper.bounded g.met.O.Oper.lawful (g.M.Machine.disk c.args.machine.now) (g.M.Machine.disk c.load.new.machine) told c.load.ensures.kept c.in_err-store.field-0.0 (c.in_err-store.ensures.whole told) c.in_err-store.ensures.cause (λ is. c.in_err-store.ensures.memory told (λ i. Err (is i))))

pub returns-in_err-store-clause-reported : goal.returns-in_err-store-clause-reported
returns-in_err-store-clause-reported g c =
    as_error (λ r. IsReported g.O.Oper.meaning (g.M.Machine.disk c.args.machine.now) (g.M.Machine.disk c.load.new.machine) (opened r)) c.from_residual.result c.in_err-store.field-0.0 c.from_residual.ensures.1
    (is_reported g.O.Oper.meaning (g.M.Machine.disk c.args.machine.now) (g.M.Machine.disk c.load.new.machine) _ _ _ c.in_err-store.field-0.0 c.in_err-store.ensures.cause (λ closed. closed)
    (λ file place damaged files agrees. inl (damaged files agrees)))

pub returns-in_err-store-clause-steps : goal.returns-in_err-store-clause-steps
returns-in_err-store-clause-steps g c told p used w opens =
    at_start (g.M.Machine.disk c.args.machine.now) (g.M.Machine.disk c.load.new.machine) _ c.load.ensures.kept told

pub returns-in_err-store-clause-reads : goal.returns-in_err-store-clause-reads
returns-in_err-store-clause-reads g c told p used w opens =
    unread_shows (g.O.Oper.meaning (bounds_of p)) p (g.M.Machine.disk c.args.machine.now) (g.M.Machine.disk c.load.new.machine) (redo_marks c.args.tuning p) used w c.load.ensures.kept opens

pub open-requires : goal.open-requires
open-requires g c =
    record { ready = c.in_ok-store.ensures.ready }

pub returns-clause-opening : goal.returns-clause-opening
returns-clause-opening g c =
    let first = quiet_stays (g.M.Machine.disk c.args.machine.now) (g.M.Machine.disk c.load.new.machine) c.load.ensures.kept in
    subst (λ (e : OpenErr). IsOpening g.O.Oper.meaning (g.M.Machine.disk c.args.machine.now) (g.M.Machine.disk c.open.new.machine) (Err e)) (sym c.from.ensures)
    (not_opened g.O.Oper.meaning (g.M.Machine.disk c.args.machine.now) (g.M.Machine.disk c.open.new.machine) (open_from_read c.in-Err.cause) (quiet_then (g.M.Machine.disk c.args.machine.now) (g.M.Machine.disk c.load.new.machine) (g.M.Machine.disk c.open.new.machine) first c.in-Err.ensures.call.quiet)
    (λ is. rises_behind (g.M.Machine.disk c.args.machine.now) (g.M.Machine.disk c.load.new.machine) (g.M.Machine.disk c.open.new.machine) first (cause_of _ _ _ (open_from_read c.in-Err.cause) _ (opening_fails g.O.Oper.meaning (g.M.Machine.disk c.load.new.machine) (g.M.Machine.disk c.open.new.machine) c.in_ok-store.store.parts c.open.new.store.parts c.in-Err.cause c.in-Err.ensures.damage) is)))

pub returns-clause-judged : goal.returns-clause-judged
returns-clause-judged g c told =
    subst (λ (e : OpenErr). IsJudged g.O.Oper.meaning (g.M.Machine.disk c.args.machine.now) (g.M.Machine.disk c.open.new.machine) (Err e)) (sym c.from.ensures)
    (judged_whole g.O.Oper.meaning g.met.O.Oper.bounded g.met.O.Oper.lawful (g.M.Machine.disk c.args.machine.now) (g.M.Machine.disk c.open.new.machine) (filed_well_formed g.O.Oper.meaning (g.M.Machine.disk c.args.machine.now).reads c.in_ok-store.store.parts c.in_ok-store.plan (c.in_ok-store.ensures.read told).filed) (Err (open_from_read c.in-Err.cause))
    (unharmed c.in-Err.cause (none_told _ _ c.in-Err.cause (λ f place found. redo_never g.O.Oper.meaning g.met.O.Oper.bounded g.met.O.Oper.lawful (g.M.Machine.disk c.args.machine.now) (g.M.Machine.disk c.load.new.machine) (g.M.Machine.disk c.open.new.machine) c.load.ensures.kept c.in_ok-store.store.parts c.open.new.store.parts c.in_ok-store.plan c.in_ok-store.ensures.ready.bounds f place found told (c.in_ok-store.ensures.read told)) c.in-Err.ensures.damage)) tt)

pub returns-clause-reported : goal.returns-clause-reported
returns-clause-reported g c =
    subst (λ (e : OpenErr). IsReported g.O.Oper.meaning (g.M.Machine.disk c.args.machine.now) (g.M.Machine.disk c.open.new.machine) (Err e)) (sym c.from.ensures)
    (is_reported g.O.Oper.meaning (g.M.Machine.disk c.args.machine.now) (g.M.Machine.disk c.open.new.machine) _ _ _ (open_from_read c.in-Err.cause) (opening_fails g.O.Oper.meaning (g.M.Machine.disk c.load.new.machine) (g.M.Machine.disk c.open.new.machine) c.in_ok-store.store.parts c.open.new.store.parts c.in-Err.cause c.in-Err.ensures.damage) (λ none. absurd none)
    (λ f place found. redo_damages g.O.Oper.meaning g.met.O.Oper.bounded g.met.O.Oper.lawful (g.M.Machine.disk c.args.machine.now) (g.M.Machine.disk c.load.new.machine) (g.M.Machine.disk c.open.new.machine) c.load.ensures.kept c.in_ok-store.store.parts c.open.new.store.parts c.in_ok-store.plan c.in_ok-store.ensures.ready.bounds f place found c.in_ok-store.ensures.formed))

pub returns-clause-steps : goal.returns-clause-steps
returns-clause-steps g c told p used w opens =
    let m = g.O.Oper.meaning (bounds_of p) in
    let small = small_store p ((g.M.Machine.disk c.args.machine.now).reads Objects) opens.shows.objects in
    let to = to_redo g.O.Oper.meaning (g.M.Machine.disk c.args.machine.now) (g.M.Machine.disk c.load.new.machine) c.load.ensures.kept c.in_ok-store.store.parts c.in_ok-store.plan c.in_ok-store.ensures.ready.bounds p used w opens (c.in_ok-store.ensures.read opens.told) (c.crash_keeps.ensures (bounds_of p) w small opens.sound) (c.unseen_steps_change_nothing.ensures p (g.M.Machine.disk c.args.machine.now).reads w Crash opens.sound tt opens.shows) in
    let marks : c.redo_marks-marks.result ≡ redo_marks c.args.tuning p = c.redo_marks-marks.ensures ∙ ap (redo_marks c.args.tuning) (c.params.ensures.value ∙ to.params) in
    subst (λ (k : Marks). OpensThrough m p (g.M.Machine.disk c.args.machine.now) (g.M.Machine.disk c.open.new.machine) w (restart_course m k w used).steps) marks
    (whole_moments g.O.Oper.meaning (g.M.Machine.disk c.args.machine.now) (g.M.Machine.disk c.load.new.machine) c.load.ensures.kept c.in_ok-store.store.parts c.in_ok-store.plan c.in_ok-store.ensures.ready.bounds p used w opens to c.redo_marks-marks.result (g.M.Machine.disk c.open.new.machine) told (c.open.ensures.steps (c.load.ensures.kept.time.moments_told.0 told) p (step m w Crash) to))

pub returns-clause-reads : goal.returns-clause-reads
returns-clause-reads g c told p used w opens =
    let m = g.O.Oper.meaning (bounds_of p) in
    let small = small_store p ((g.M.Machine.disk c.args.machine.now).reads Objects) opens.shows.objects in
    let to = to_redo g.O.Oper.meaning (g.M.Machine.disk c.args.machine.now) (g.M.Machine.disk c.load.new.machine) c.load.ensures.kept c.in_ok-store.store.parts c.in_ok-store.plan c.in_ok-store.ensures.ready.bounds p used w opens (c.in_ok-store.ensures.read opens.told) (c.crash_keeps.ensures (bounds_of p) w small opens.sound) (c.unseen_steps_change_nothing.ensures p (g.M.Machine.disk c.args.machine.now).reads w Crash opens.sound tt opens.shows) in
    let marks : c.redo_marks-marks.result ≡ redo_marks c.args.tuning p = c.redo_marks-marks.ensures ∙ ap (redo_marks c.args.tuning) (c.params.ensures.value ∙ to.params) in
    let passed = c.in-Err.ensures.call.quiet in
    subst (λ (k : Marks). ShowsSome m p w (restart_course m k w used).steps (g.M.Machine.disk c.open.new.machine).reads) marks
    (whole_reads g.O.Oper.meaning (g.M.Machine.disk c.args.machine.now) (g.M.Machine.disk c.load.new.machine) c.load.ensures.kept c.in_ok-store.store.parts c.in_ok-store.plan c.in_ok-store.ensures.ready.bounds p used w opens to c.redo_marks-marks.result (g.M.Machine.disk c.open.new.machine) told passed.ends passed.time (c.open.ensures.steps (c.load.ensures.kept.time.moments_told.0 told) p (step m w Crash) to))

-- the store that is opened is attached to its files
still_attached : (g : Over) (c : In-Ok g) → IsAttached g.O.Oper.meaning (g.M.Machine.disk c.open.new.machine) c.open.new.store.parts
still_attached g c =
    ⊎_elim (λ failed. absurd failed)
    (λ kept. kept (read_attached g.O.Oper.meaning (g.M.Machine.disk c.args.machine.now) (g.M.Machine.disk c.load.new.machine) c.load.ensures.kept c.in_ok-store.store.parts c.in_ok-store.plan c.in_ok-store.ensures.ready.bounds c.in_ok-store.ensures.read)) c.in-Ok.ensures.call.attached

pub returns-in-Ok-clause-opening : goal.returns-in-Ok-clause-opening
returns-in-Ok-clause-opening g c =
    let call = c.in-Ok.ensures.call in
    is_opened g.O.Oper.meaning (g.M.Machine.disk c.args.machine.now) (g.M.Machine.disk c.open.new.machine) c.open.new.store.parts (quiet_then (g.M.Machine.disk c.args.machine.now) (g.M.Machine.disk c.load.new.machine) (g.M.Machine.disk c.open.new.machine) (quiet_stays (g.M.Machine.disk c.args.machine.now) (g.M.Machine.disk c.load.new.machine) c.load.ensures.kept) c.in-Ok.ensures.call.quiet)
    (⊎_elim (λ failed. absurd failed) (λ kept. kept c.in_ok-store.ensures.ready.settled) call.settled)
    (c.params-params.ensures.in_use (false_from_ne_true _ call.broken.0))
    (still_attached g (goal.at.returns-in-Ok-clause-opening g c).In-Ok)

pub returns-in-Ok-clause-judged : goal.returns-in-Ok-clause-judged
returns-in-Ok-clause-judged g c told =
    judged_whole g.O.Oper.meaning g.met.O.Oper.bounded g.met.O.Oper.lawful (g.M.Machine.disk c.args.machine.now) (g.M.Machine.disk c.open.new.machine) (filed_well_formed g.O.Oper.meaning (g.M.Machine.disk c.args.machine.now).reads c.in_ok-store.store.parts c.in_ok-store.plan (c.in_ok-store.ensures.read told).filed) (Ok c.open.new.store.parts) tt
    (keeps_layout c.in_ok-store.store.parts.volatile.objects.slots c.open.new.store.parts.volatile.objects.slots ((g.M.Machine.disk c.args.machine.now).reads Objects) ((g.M.Machine.disk c.open.new.machine).reads Objects) c.in-Ok.ensures.call.layout
    (c.in_ok-store.ensures.read told).filed.laid.slots (still_attached g (goal.at.returns-in-Ok-clause-judged g c).In-Ok (c.in-Ok.ensures.call.quiet.time.files_told.0 (c.load.ensures.kept.time.files_told.0 told))).0.slots)

pub returns-in-Ok-clause-reported : goal.returns-in-Ok-clause-reported
returns-in-Ok-clause-reported g c =
    none_reported g.O.Oper.meaning (g.M.Machine.disk c.args.machine.now) (g.M.Machine.disk c.open.new.machine) c.open.new.store.parts

pub returns-in-Ok-clause-fresh : goal.returns-in-Ok-clause-fresh
returns-in-Ok-clause-fresh g c =
    let call = c.in-Ok.ensures.call in
    record { unbroken = false_from_ne_true _ call.broken.0; uncounted = omega (arith, call.identities, c.in_ok-store.ensures.ready.fresh.uncounted) }

pub returns-in-Ok-clause-follows : goal.returns-in-Ok-clause-follows
returns-in-Ok-clause-follows g c p used w opens =
    let m = g.O.Oper.meaning (bounds_of p) in
    let small = small_store p ((g.M.Machine.disk c.args.machine.now).reads Objects) opens.shows.objects in
    let to = to_redo g.O.Oper.meaning (g.M.Machine.disk c.args.machine.now) (g.M.Machine.disk c.load.new.machine) c.load.ensures.kept c.in_ok-store.store.parts c.in_ok-store.plan c.in_ok-store.ensures.ready.bounds p used w opens (c.in_ok-store.ensures.read opens.told) (c.crash_keeps.ensures (bounds_of p) w small opens.sound) (c.unseen_steps_change_nothing.ensures p (g.M.Machine.disk c.args.machine.now).reads w Crash opens.sound tt opens.shows) in
    let marks : c.redo_marks-marks.result ≡ redo_marks c.args.tuning p = c.redo_marks-marks.ensures ∙ ap (redo_marks c.args.tuning) (c.params.ensures.value ∙ to.params) in
    subst (λ (k : Marks). IsAfter m p (g.M.Machine.disk c.open.new.machine) c.open.new.store.parts w (restart_course m k w used)) marks
    (whole_after g.O.Oper.meaning (g.M.Machine.disk c.args.machine.now) (g.M.Machine.disk c.load.new.machine) c.load.ensures.kept c.in_ok-store.store.parts c.in_ok-store.plan c.in_ok-store.ensures.ready.bounds p used w opens to c.redo_marks-marks.result (g.M.Machine.disk c.open.new.machine) c.open.new.store.parts (c.in-Ok.ensures.follows p (step m w Crash) to))

pub returns-in-Ok-clause-steps : goal.returns-in-Ok-clause-steps
returns-in-Ok-clause-steps g c told p used w opens =
    let m = g.O.Oper.meaning (bounds_of p) in
    let small = small_store p ((g.M.Machine.disk c.args.machine.now).reads Objects) opens.shows.objects in
    let to = to_redo g.O.Oper.meaning (g.M.Machine.disk c.args.machine.now) (g.M.Machine.disk c.load.new.machine) c.load.ensures.kept c.in_ok-store.store.parts c.in_ok-store.plan c.in_ok-store.ensures.ready.bounds p used w opens (c.in_ok-store.ensures.read opens.told) (c.crash_keeps.ensures (bounds_of p) w small opens.sound) (c.unseen_steps_change_nothing.ensures p (g.M.Machine.disk c.args.machine.now).reads w Crash opens.sound tt opens.shows) in
    let marks : c.redo_marks-marks.result ≡ redo_marks c.args.tuning p = c.redo_marks-marks.ensures ∙ ap (redo_marks c.args.tuning) (c.params.ensures.value ∙ to.params) in
    subst (λ (k : Marks). OpensThrough m p (g.M.Machine.disk c.args.machine.now) (g.M.Machine.disk c.open.new.machine) w (restart_course m k w used).steps) marks
    (whole_moments g.O.Oper.meaning (g.M.Machine.disk c.args.machine.now) (g.M.Machine.disk c.load.new.machine) c.load.ensures.kept c.in_ok-store.store.parts c.in_ok-store.plan c.in_ok-store.ensures.ready.bounds p used w opens to c.redo_marks-marks.result (g.M.Machine.disk c.open.new.machine) told (c.open.ensures.steps (c.load.ensures.kept.time.moments_told.0 told) p (step m w Crash) to))

pub returns-in-Ok-clause-reads : goal.returns-in-Ok-clause-reads
returns-in-Ok-clause-reads g c told p used w opens =
    let m = g.O.Oper.meaning (bounds_of p) in
    let small = small_store p ((g.M.Machine.disk c.args.machine.now).reads Objects) opens.shows.objects in
    let to = to_redo g.O.Oper.meaning (g.M.Machine.disk c.args.machine.now) (g.M.Machine.disk c.load.new.machine) c.load.ensures.kept c.in_ok-store.store.parts c.in_ok-store.plan c.in_ok-store.ensures.ready.bounds p used w opens (c.in_ok-store.ensures.read opens.told) (c.crash_keeps.ensures (bounds_of p) w small opens.sound) (c.unseen_steps_change_nothing.ensures p (g.M.Machine.disk c.args.machine.now).reads w Crash opens.sound tt opens.shows) in
    let marks : c.redo_marks-marks.result ≡ redo_marks c.args.tuning p = c.redo_marks-marks.ensures ∙ ap (redo_marks c.args.tuning) (c.params.ensures.value ∙ to.params) in
    let passed = c.in-Ok.ensures.call.quiet in
    subst (λ (k : Marks). ShowsSome m p w (restart_course m k w used).steps (g.M.Machine.disk c.open.new.machine).reads) marks
    (whole_reads g.O.Oper.meaning (g.M.Machine.disk c.args.machine.now) (g.M.Machine.disk c.load.new.machine) c.load.ensures.kept c.in_ok-store.store.parts c.in_ok-store.plan c.in_ok-store.ensures.ready.bounds p used w opens to c.redo_marks-marks.result (g.M.Machine.disk c.open.new.machine) told passed.ends passed.time (c.open.ensures.steps (c.load.ensures.kept.time.moments_told.0 told) p (step m w Crash) to))
