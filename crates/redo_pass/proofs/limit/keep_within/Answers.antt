use Rattle.std.proofs.Common.{◌∙◌, sym, ℕ, false, subst, arith}
use Rattle.std.specs.Prelude.{Err}
use Rattle.std.proofs.lemmas.Bool.{false_from_ne_true}
use Rattle.disk_model.specs.declared.machine.FileNo.TheVariants.{Objects}
use Rattle.formats.specs.Objects.{bounds_of}
use Rattle.explain_core.specs.Turns.{turns}
use Rattle.explain_core.specs.World.{run}
use Rattle.standing.specs.OneStable.{small_store}
use Rattle.running_store.specs.Calls.Beside.{beside_twice}
use Rattle.running_store.specs.Calls.{IsCall, Never, call_twice, ending_of_store}
use Rattle.running_store.specs.Taking.{Ending}
use Rattle.running_store.specs.Taking.Ending.{Done}
use Rattle.redo_pass.specs.Endings.{as_error}
use Rattle.redo_pass.proofs.Failing.{thin_same}
use Rattle.redo_pass.proofs.Limits.{limited_few, limited_last, limited_moments, limited_more, limited_start}
use Rattle.redo_pass.proofs.limit.keep_within.Goals as goal

pub loop-marks-init : goal.loop-marks-init
loop-marks-init g c = limited_start (g.met.M.Machine.lawful c.args.machine.now) c.requires.unbroken

pub tend_thin-requires : goal.tend_thin-requires
tend_thin-requires g c = record { unbroken = false_from_ne_true c.loop-marks.store.broken (λ set. c.loop-marks.invariant.call.broken.0 set) }

pub returns-in_err-tend_thin-clause-call : goal.returns-in_err-tend_thin-clause-call
returns-in_err-tend_thin-clause-call g c =
    let old = g.M.Machine.disk c.args.machine.now in
    let new = g.M.Machine.disk c.tend_thin.new.machine in
    let why = c.in_err-tend_thin.field-0.0 in
    let all = call_twice g.O.Oper.meaning old (g.M.Machine.disk c.loop-marks.machine) new c.args.store.now c.loop-marks.store c.tend_thin.new.store 0 0 Never Never (ending_of_store {T = ℕ} (Err why)) c.loop-marks.invariant.call
    c.in_err-tend_thin.ensures.call in
    as_error (λ r. IsCall g.O.Oper.meaning old new c.args.store.now c.tend_thin.new.store 0 Never (ending_of_store r)) c.from_residual.result why c.from_residual.ensures.1
    (subst (λ (e : Ending). IsCall g.O.Oper.meaning old new c.args.store.now c.tend_thin.new.store 0 Never e) (thin_same ℕ (Unit {0}) why) all)

pub returns-in_err-tend_thin-clause-beside : goal.returns-in_err-tend_thin-clause-beside
returns-in_err-tend_thin-clause-beside g c =
    beside_twice (g.M.Machine.disk c.args.machine.now) (g.M.Machine.disk c.loop-marks.machine) (g.M.Machine.disk c.tend_thin.new.machine) c.args.store.now c.loop-marks.store c.tend_thin.new.store
    (λ set. c.loop-marks.invariant.call.broken.0 set) c.loop-marks.invariant.beside c.tend_thin.ensures.beside

pub returns-in_err-tend_thin-clause-steps : goal.returns-in_err-tend_thin-clause-steps
returns-in_err-tend_thin-clause-steps g c =
    limited_moments c.loop-marks.invariant c.turns_keep.ensures.sound (λ p w sound shows. sym (c.is_over.ensures p ((g.M.Machine.disk c.loop-marks.machine).reads Objects) w sound shows) ∙ c.loop-marks-test.true) c.tend_thin.ensures.steps

pub returns-then-branch-eq0-clause-call : goal.returns-then-branch-eq0-clause-call
returns-then-branch-eq0-clause-call g c =
    call_twice g.O.Oper.meaning (g.M.Machine.disk c.args.machine.now) (g.M.Machine.disk c.loop-marks.machine) (g.M.Machine.disk c.tend_thin.new.machine) c.args.store.now c.loop-marks.store c.tend_thin.new.store 0 0 Never Never Done c.loop-marks.invariant.call c.in_ok-tend_thin.ensures.call

pub returns-then-branch-eq0-clause-beside : goal.returns-then-branch-eq0-clause-beside
returns-then-branch-eq0-clause-beside g c =
    beside_twice (g.M.Machine.disk c.args.machine.now) (g.M.Machine.disk c.loop-marks.machine) (g.M.Machine.disk c.tend_thin.new.machine) c.args.store.now c.loop-marks.store c.tend_thin.new.store
    (λ set. c.loop-marks.invariant.call.broken.0 set) c.loop-marks.invariant.beside c.tend_thin.ensures.beside

pub returns-then-branch-eq0-clause-limited : goal.returns-then-branch-eq0-clause-limited
returns-then-branch-eq0-clause-limited g c =
    limited_last c.loop-marks.invariant c.turns_keep.ensures.sound (λ p w sound shows. sym (c.is_over.ensures p ((g.M.Machine.disk c.loop-marks.machine).reads Objects) w sound shows) ∙ c.loop-marks-test.true) c.tend_thin.ensures.steps c.in_ok-tend_thin.field-0 c.tend_thin.new.store c.in_ok-tend_thin.ensures.count c.in_ok-tend_thin.ensures.shows c.if-branch-eq0.true

pub returns-then-branch-eq0-clause-steps : goal.returns-then-branch-eq0-clause-steps
returns-then-branch-eq0-clause-steps g c =
    limited_moments c.loop-marks.invariant c.turns_keep.ensures.sound (λ p w sound shows. sym (c.is_over.ensures p ((g.M.Machine.disk c.loop-marks.machine).reads Objects) w sound shows) ∙ c.loop-marks-test.true) c.tend_thin.ensures.steps

pub loop-marks-preserved : goal.loop-marks-preserved
loop-marks-preserved g c =
    limited_more c.loop-marks.invariant c.turns_keep.ensures.sound (λ p w sound shows. sym (c.is_over.ensures p ((g.M.Machine.disk c.loop-marks.machine).reads Objects) w sound shows) ∙ c.loop-marks-test.true) c.tend_thin.ensures.steps c.in_ok-tend_thin.field-0 c.tend_thin.new.store c.in_ok-tend_thin.ensures.count c.in_ok-tend_thin.ensures.shows (omega (arith, c.if-branch-eq0.false)) c.in_ok-tend_thin.ensures.call c.tend_thin.ensures.beside

pub returns-clause-call : goal.returns-clause-call
returns-clause-call g c = c.loop-marks.invariant.call

pub returns-clause-beside : goal.returns-clause-beside
returns-clause-beside g c = c.loop-marks.invariant.beside

pub returns-clause-limited : goal.returns-clause-limited
returns-clause-limited g c = λ p w shows stable.
    let m = g.O.Oper.meaning (bounds_of p) in
    let so = (c.loop-marks.invariant.shown p w shows stable).0 in
    let small = small_store p ((g.M.Machine.disk c.args.machine.now).reads Objects) shows.files.objects in
    let v = run m w (turns m c.args.marks so.turned w) in
    let sound = c.turns_keep.ensures.sound (bounds_of p) w c.args.marks so.turned small shows.sound stable in
    limited_few m p c.args.marks w (g.M.Machine.disk c.loop-marks.machine).reads c.loop-marks.store.parts.volatile so (sym (c.is_over.ensures p ((g.M.Machine.disk c.loop-marks.machine).reads Objects) v sound so.shown.store_shows) ∙ c.loop-marks-test.false)

pub returns-clause-steps : goal.returns-clause-steps
returns-clause-steps g c = λ told p w shows stable. let first = c.loop-marks.invariant.shown p w shows stable in (first.0.turned, first.1 told)
