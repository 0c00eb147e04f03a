use Rattle.std.proofs.Common.{◌≡◌, ℕ, ap, refl, subst, Err}
use Rattle.std.proofs.lemmas.Result.{IfErr-at_err, err_from_is_err_and}
use Rattle.disk_model.specs.Moments.{stays_then, told_agrees}
use Rattle.stable_objects.specs.SlotsView.{IsLate}
use Rattle.restart.proofs.Opened.{HasLog, three_stay, has_slots, has_log, slots_gate, slots_fail, log_fails, log_unharmed, late_fails, late_never, are_in_use, is_filed, is_read, is_ready}
use Rattle.restart.proofs.loading.load.Given.{Over}
use Rattle.restart.proofs.loading.load.Goals.{After-first_late, In-Ok}
use Rattle.restart.proofs.loading.load.Goals as goal

loaded : (g : Over) (c : After-first_late g) → HasLog g.O.Oper.meaning (g.M.Machine.disk c.args.machine.now) (g.M.Machine.disk c.load_checked.new.m) c.in_ok-objects.objects c.in_ok-log.log c.in_ok-log.last
loaded g c =
    has_log g.O.Oper.meaning g.met.O.Oper.bounded g.met.O.Oper.lawful (g.M.Machine.disk c.args.machine.now) (g.M.Machine.disk c.load.new.machine) (g.M.Machine.disk c.load_checked.new.m) c.in_ok-objects.objects c.bounds.result c.in_ok-log.log c.in_ok-log.last
    (has_slots (g.M.Machine.disk c.args.machine.now) (g.M.Machine.disk c.settle.new.machine) (g.M.Machine.disk c.load.new.machine) c.in_ok-objects.objects c.settle.ensures.kept c.in_ok-settle.ensures.settled c.load.ensures.kept c.in_ok-objects.ensures.read c.in_ok-objects.ensures.empty)
    c.load_checked.ensures.kept c.bounds.ensures c.in_ok-log.ensures.bounds c.in_ok-log.ensures.next c.in_ok-log.ensures.read c.in_ok-log.ensures.held c.in_ok-log.ensures.counted

none_late : (g : Over) (c : In-Ok g) → (x s : ℕ) → IsLate c.in_ok-objects.objects.slots c.in_ok-log.log.next x s → ⊥
none_late g c = subst (λ (n : ℕ). (x s : ℕ) → IsLate c.in_ok-objects.objects.slots n x s → ⊥) c.next.ensures c.in_default.ensures.none

pub returns-in_err-objects-clause-cause : goal.returns-in_err-objects-clause-cause
returns-in_err-objects-clause-cause g c =
    let p = err_from_is_err_and c.from_residual-in_err-objects.result c.from_residual-in_err-objects.ensures.1 in
    rw (p.1, p.2) (slots_fail g.O.Oper.meaning (g.M.Machine.disk c.args.machine.now) (g.M.Machine.disk c.settle.new.machine) (g.M.Machine.disk c.load.new.machine) c.in_err-objects.field-0.0 c.settle.ensures.kept c.in_err-objects.ensures.cause)

pub returns-in_err-objects-clause-whole : goal.returns-in_err-objects-clause-whole
returns-in_err-objects-clause-whole g c told image =
    let kept = stays_then c.settle.ensures.kept c.load.ensures.kept in
    let p = err_from_is_err_and c.from_residual-in_err-objects.result c.from_residual-in_err-objects.ensures.1 in
    rw (p.1, p.2) (c.in_err-objects.ensures.whole (g.M.Machine.disk c.args.machine.now).reads (told_agrees kept told) image.params image.objects)

pub returns-in_err-objects-clause-memory : goal.returns-in_err-objects-clause-memory
returns-in_err-objects-clause-memory g c told =
    let kept = stays_then c.settle.ensures.kept c.load.ensures.kept in
    let p = err_from_is_err_and c.from_residual-in_err-objects.result c.from_residual-in_err-objects.ensures.1 in
    rw (p.1, p.2) (λ refused. c.in_err-objects.ensures.memory (g.M.Machine.disk c.args.machine.now).reads (told_agrees kept told) (ap (λ e. Err e) (IfErr-at_err (λ e. c.in_err-objects.field-0.0 ≡ e) refused refl)))

pub returns-in_err-log-clause-kept : goal.returns-in_err-log-clause-kept
returns-in_err-log-clause-kept g c =
    three_stay (g.M.Machine.disk c.args.machine.now) (g.M.Machine.disk c.settle.new.machine) (g.M.Machine.disk c.load.new.machine) (g.M.Machine.disk c.load_checked.new.m) c.settle.ensures.kept c.load.ensures.kept c.load_checked.ensures.kept

pub returns-in_err-log-clause-whole : goal.returns-in_err-log-clause-whole
returns-in_err-log-clause-whole g c told image =
    let has = has_slots (g.M.Machine.disk c.args.machine.now) (g.M.Machine.disk c.settle.new.machine) (g.M.Machine.disk c.load.new.machine) c.in_ok-objects.objects c.settle.ensures.kept c.in_ok-settle.ensures.settled c.load.ensures.kept c.in_ok-objects.ensures.read c.in_ok-objects.ensures.empty in
    let p = err_from_is_err_and c.from_residual-in_err-log.result c.from_residual-in_err-log.ensures.1 in
    rw (p.1, p.2) (log_unharmed g.O.Oper.meaning (g.M.Machine.disk c.args.machine.now) (g.M.Machine.disk c.load.new.machine) c.in_ok-objects.objects c.bounds.result c.in_err-log.field-0.0 has c.bounds.ensures told image (c.in_err-log.ensures.whole (has.kept.time.files_told.0 told)))

pub returns-in_err-log-clause-cause : goal.returns-in_err-log-clause-cause
returns-in_err-log-clause-cause g c =
    let has = has_slots (g.M.Machine.disk c.args.machine.now) (g.M.Machine.disk c.settle.new.machine) (g.M.Machine.disk c.load.new.machine) c.in_ok-objects.objects c.settle.ensures.kept c.in_ok-settle.ensures.settled c.load.ensures.kept c.in_ok-objects.ensures.read c.in_ok-objects.ensures.empty in
    let p = err_from_is_err_and c.from_residual-in_err-log.result c.from_residual-in_err-log.ensures.1 in
    rw (p.1, p.2) (log_fails g.O.Oper.meaning (g.M.Machine.disk c.args.machine.now) (g.M.Machine.disk c.load.new.machine) (g.M.Machine.disk c.load_checked.new.m) c.in_ok-objects.objects c.bounds.result c.in_err-log.field-0.0 has c.load_checked.ensures.kept c.bounds.ensures c.in_err-log.ensures.cause)

pub returns-in_err-log-clause-memory : goal.returns-in_err-log-clause-memory
returns-in_err-log-clause-memory g c told refused =
    let has = has_slots (g.M.Machine.disk c.args.machine.now) (g.M.Machine.disk c.settle.new.machine) (g.M.Machine.disk c.load.new.machine) c.in_ok-objects.objects c.settle.ensures.kept c.in_ok-settle.ensures.settled c.load.ensures.kept c.in_ok-objects.ensures.read c.in_ok-objects.ensures.empty in
    slots_gate (g.M.Machine.disk c.args.machine.now) (g.M.Machine.disk c.load.new.machine) c.in_ok-objects.objects has told

pub returns-in-Some-clause-kept : goal.returns-in-Some-clause-kept
returns-in-Some-clause-kept g c =
    three_stay (g.M.Machine.disk c.args.machine.now) (g.M.Machine.disk c.settle.new.machine) (g.M.Machine.disk c.load.new.machine) (g.M.Machine.disk c.load_checked.new.m) c.settle.ensures.kept c.load.ensures.kept c.load_checked.ensures.kept

pub returns-in-Some-clause-whole : goal.returns-in-Some-clause-whole
returns-in-Some-clause-whole g c told image =
    absurd (late_never g.O.Oper.meaning g.met.O.Oper.bounded g.met.O.Oper.lawful (g.M.Machine.disk c.args.machine.now) (g.M.Machine.disk c.load_checked.new.m) c.in_ok-objects.objects c.in_ok-log.log c.in_ok-log.last c.next.result c.in-Some.place (loaded g (goal.at.returns-in-Some-clause-whole g c).After-first_late) c.next.ensures c.in-Some.ensures.some told image)

pub returns-in-Some-clause-cause : goal.returns-in-Some-clause-cause
returns-in-Some-clause-cause g c =
    late_fails g.O.Oper.meaning (g.M.Machine.disk c.args.machine.now) (g.M.Machine.disk c.load_checked.new.m) c.in_ok-objects.objects c.in_ok-log.log c.in_ok-log.last (loaded g (goal.at.returns-in-Some-clause-cause g c).After-first_late) c.next.result c.in-Some.place c.next.ensures c.in-Some.ensures.some

pub returns-in-Err-clause-kept : goal.returns-in-Err-clause-kept
returns-in-Err-clause-kept g c =
    three_stay (g.M.Machine.disk c.args.machine.now) (g.M.Machine.disk c.settle.new.machine) (g.M.Machine.disk c.load.new.machine) (g.M.Machine.disk c.load_checked.new.m) c.settle.ensures.kept c.load.ensures.kept c.load_checked.ensures.kept

pub returns-in-Err-clause-memory : goal.returns-in-Err-clause-memory
returns-in-Err-clause-memory g c told refused =
    let has = has_slots (g.M.Machine.disk c.args.machine.now) (g.M.Machine.disk c.settle.new.machine) (g.M.Machine.disk c.load.new.machine) c.in_ok-objects.objects c.settle.ensures.kept c.in_ok-settle.ensures.settled c.load.ensures.kept c.in_ok-objects.ensures.read c.in_ok-objects.ensures.empty in
    slots_gate (g.M.Machine.disk c.args.machine.now) (g.M.Machine.disk c.load.new.machine) c.in_ok-objects.objects has told

pub new-requires-in-Ok : goal.new-requires-in-Ok
new-requires-in-Ok g c =
    are_in_use g.O.Oper.meaning (g.M.Machine.disk c.args.machine.now) (g.M.Machine.disk c.load_checked.new.m) c.in_ok-objects.objects c.in_ok-log.log c.in_ok-log.last (loaded g (goal.at.new-requires-in-Ok g c).After-first_late) (none_late g c) c.in-Ok.graph.entries c.in-Ok.ensures

pub returns-in-Ok-clause-kept : goal.returns-in-Ok-clause-kept
returns-in-Ok-clause-kept g c =
    three_stay (g.M.Machine.disk c.args.machine.now) (g.M.Machine.disk c.settle.new.machine) (g.M.Machine.disk c.load.new.machine) (g.M.Machine.disk c.load_checked.new.m) c.settle.ensures.kept c.load.ensures.kept c.load_checked.ensures.kept

pub returns-in-Ok-clause-ready : goal.returns-in-Ok-clause-ready
returns-in-Ok-clause-ready g c =
    is_ready g.O.Oper.meaning (g.M.Machine.disk c.args.machine.now) (g.M.Machine.disk c.load_checked.new.m) c.in_ok-objects.objects c.in_ok-log.log c.in_ok-log.last (loaded g (goal.at.returns-in-Ok-clause-ready g c).After-first_late) (none_late g c.before) c.in-Ok.graph.entries c.in-Ok.ensures c.new-in-Ok.result c.new-in-Ok.ensures

pub returns-in-Ok-clause-read : goal.returns-in-Ok-clause-read
returns-in-Ok-clause-read g c =
    is_read g.O.Oper.meaning (g.M.Machine.disk c.args.machine.now) (g.M.Machine.disk c.load_checked.new.m) c.in_ok-objects.objects c.in_ok-log.log c.in_ok-log.last (loaded g (goal.at.returns-in-Ok-clause-read g c).After-first_late) (none_late g c.before) c.in-Ok.graph.entries c.in-Ok.ensures c.new-in-Ok.result c.new-in-Ok.ensures c.analyse-plan.result c.base.result c.base.ensures.value c.analyse-plan.ensures.table c.analyse-plan.ensures.start

pub returns-in-Ok-clause-formed : goal.returns-in-Ok-clause-formed
returns-in-Ok-clause-formed g c =
    is_filed g.O.Oper.meaning (g.M.Machine.disk c.args.machine.now) (g.M.Machine.disk c.load_checked.new.m) c.in_ok-objects.objects c.in_ok-log.log c.in_ok-log.last (loaded g (goal.at.returns-in-Ok-clause-formed g c).After-first_late) (none_late g c.before) c.in-Ok.graph.entries c.in-Ok.ensures c.new-in-Ok.result c.new-in-Ok.ensures c.analyse-plan.result c.base.result c.base.ensures.value c.analyse-plan.ensures.table c.analyse-plan.ensures.start
