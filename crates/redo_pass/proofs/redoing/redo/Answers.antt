use Rattle.std.proofs.Common.{◌≢◌, ◌∙◌, ap, subst, sym, [], ◌∷◌, ◌++◌, arith, inl, inr}
use Rattle.std.specs.Prelude.{Err}
use Rattle.std.proofs.lemmas.Bool.{false_from_ne_true}
use Rattle.disk_model.specs.Disk.{Rises}
use Rattle.disk_model.specs.declared.machine.FileNo.TheVariants.{Objects as ObjectsFile}
use Rattle.oper_core.specs.declared.bounds.Bounds.{Bounds}
use Rattle.formats.specs.Objects.{bounds_of}
use Rattle.formats.specs.Reading.{FailsBy}
use Rattle.log_blocks.specs.Reading.{fails_on}
use Rattle.log_records.specs.CodecLaws.{has_codes}
use Rattle.log_records.specs.Loading.{IsTailFault}
use Rattle.log_records.specs.LsnReader.{LsnReaderView, IsReadingFromLsn}
use Rattle.standing.specs.Crashed.{crashed-stable}
use Rattle.standing.specs.OneStable.{small_store}
use Rattle.running_store.specs.Calls.{IsCall, Never, ending_of_read}
use Rattle.running_store.specs.Calls.Faults.{read_from_store}
use Rattle.running_store.specs.StoreView.{StoreView}
use Rattle.redo_pass.specs.Endings.{as_error, error_fails, store_fails}
use Rattle.redo_pass.proofs.Doing.{IsAt, all_done, done_none, done_on, done_still, moments_on, next_above, next_given, next_in_grammar, none_given, part_log, part_on, part_thin, reads_on, slot_fault, steps_of, still_moments}
use Rattle.redo_pass.proofs.Failing.{never_stopped, rises_of}
use Rattle.redo_pass.proofs.Leaves.{part_replay, part_twice}
use Rattle.redo_pass.proofs.redoing.redo.Given.{Over}
use Rattle.redo_pass.proofs.redoing.redo.Goals.{In-Some}
use Rattle.redo_pass.proofs.redoing.redo.Goals as goal

-- the reader has given one record more than were done
next : (g : Over) (c : In-Some g)
    → IsAt g.O.Oper.meaning c.args.marks c.args.plan.now c.args.store.now (g.M.Machine.disk c.args.machine.now) (g.M.Machine.disk c.read_log.new.machine) c.read_log.new.self c.read_log.new.reader c.loop-reader.invariant.0 (c.loop-reader.invariant.0 ++ c.in-Some.record ∷ [])
next g c =
    next_given (g.M.Machine.disk c.read_log.new.machine) c.read_log.new.reader c.in_ok-record.field-0 c.loop-reader.invariant c.in_ok-record.ensures.read c.read_log.ensures.kept.stays c.in_ok-record.ensures.kept.store c.read_log.ensures.reader.same c.read_log.ensures.reader.bounds c.in-Some.is

pub loop-reader-init : goal.loop-reader-init
loop-reader-init g c = (
  [],
  record {
    so_far = done_still (done_none {meaning = g.O.Oper.meaning} {marks = c.args.marks} {plan = c.args.plan.now} {first = c.args.store.now} (g.met.M.Machine.lawful c.args.machine.now) c.requires.unbroken c.requires.empty) c.log_reader.ensures.kept.stays c.in_ok-reader.ensures.kept.store;
    from = c.in_ok-reader.ensures.reader.from ∙ c.start.ensures;
    bounds = c.in_ok-reader.ensures.reader.bounds;
    reading = subst (λ (b : Bounds). IsReadingFromLsn (g.O.Oper.meaning b) (g.M.Machine.disk c.log_reader.new.machine) c.args.store.now.parts.log c.in_ok-reader.reader []) (sym c.in_ok-reader.ensures.reader.bounds) c.in_ok-reader.ensures.reader.reading;
  },
)

pub returns-in_err-reader-clause-call : goal.returns-in_err-reader-clause-call
returns-in_err-reader-clause-call g c =
    let whole = part_log (Unit {0}) g.O.Oper.meaning _ c.in_err-reader.field-0.0 c.log_reader.ensures.kept.stays c.in_err-reader.ensures.kept.store c.in_err-reader.ensures.cause in
    as_error (λ r. IsCall g.O.Oper.meaning (g.M.Machine.disk c.args.machine.now) (g.M.Machine.disk c.log_reader.new.machine) c.args.store.now c.log_reader.new.self 0 Never (ending_of_read r)) c.from_residual.result c.in_err-reader.field-0.0 c.from_residual.ensures.1 whole.call

pub returns-in_err-reader-clause-objects : goal.returns-in_err-reader-clause-objects
returns-in_err-reader-clause-objects g c =
    (part_log (Unit {0}) g.O.Oper.meaning _ c.in_err-reader.field-0.0 c.log_reader.ensures.kept.stays c.in_err-reader.ensures.kept.store c.in_err-reader.ensures.cause).objects

pub returns-in_err-reader-clause-steps : goal.returns-in_err-reader-clause-steps
returns-in_err-reader-clause-steps g c = λ steps settled p w to.
    steps_of (g.O.Oper.meaning (bounds_of p)) p c.args.marks w to (still_moments (done_none {meaning = g.O.Oper.meaning} {marks = c.args.marks} {plan = c.args.plan.now} {first = c.args.store.now} (g.met.M.Machine.lawful c.args.machine.now) c.requires.unbroken c.requires.empty) c.log_reader.ensures.kept.stays steps settled p w to)

pub returns-in_err-reader-clause-cause : goal.returns-in_err-reader-clause-cause
returns-in_err-reader-clause-cause g c =
    error_fails _ _ c.from_residual.result c.in_err-reader.field-0.0 c.from_residual.ensures.1
    (fails_on _ _ _ _ c.in_err-reader.field-0.0 (λ risen. risen) (λ f p none. absurd none) c.in_err-reader.ensures.cause)

pub read_log-requires : goal.read_log-requires
read_log-requires g c =
    record { unbroken = false_from_ne_true c.loop-reader.store.broken (λ set. c.loop-reader.invariant.1.so_far.part.call.broken.0 set) }

pub returns-in_err-record-clause-call : goal.returns-in_err-record-clause-call
returns-in_err-record-clause-call g c =
    let first = c.args.store.now in
    let inv = c.loop-reader.invariant in
    let whole = part_twice inv.1.so_far.part (part_log (Unit {0}) g.O.Oper.meaning _ c.in_err-record.field-0.0 c.read_log.ensures.kept.stays c.in_err-record.ensures.kept.store (c.in_err-record.ensures.cause first.parts.log inv.0 inv.1.reading)) in
    as_error (λ r. IsCall g.O.Oper.meaning (g.M.Machine.disk c.args.machine.now) (g.M.Machine.disk c.read_log.new.machine) c.args.store.now c.read_log.new.self 0 Never (ending_of_read r)) c.from_residual-in_err-record.result c.in_err-record.field-0.0 c.from_residual-in_err-record.ensures.1 whole.call

pub returns-in_err-record-clause-objects : goal.returns-in_err-record-clause-objects
returns-in_err-record-clause-objects g c =
    let first = c.args.store.now in
    let inv = c.loop-reader.invariant in
    let whole = part_twice inv.1.so_far.part (part_log (Unit {0}) g.O.Oper.meaning _ c.in_err-record.field-0.0 c.read_log.ensures.kept.stays c.in_err-record.ensures.kept.store (c.in_err-record.ensures.cause first.parts.log inv.0 inv.1.reading)) in
    whole.objects

pub returns-in_err-record-clause-steps : goal.returns-in_err-record-clause-steps
returns-in_err-record-clause-steps g c = λ steps settled p w to.
    steps_of (g.O.Oper.meaning (bounds_of p)) p c.args.marks w to (still_moments c.loop-reader.invariant.1.so_far c.read_log.ensures.kept.stays steps settled p w to)

pub returns-in_err-record-clause-cause : goal.returns-in_err-record-clause-cause
returns-in_err-record-clause-cause g c =
    let meaning = g.O.Oper.meaning in
    let first = c.args.store.now in
    let inv = c.loop-reader.invariant in
    let mid = g.M.Machine.disk c.loop-reader.machine in
    let new = g.M.Machine.disk c.read_log.new.machine in
    let log = first.parts.log in
    error_fails _ _ c.from_residual-in_err-record.result c.in_err-record.field-0.0 c.from_residual-in_err-record.ensures.1
    (fails_on _ _ _ _ c.in_err-record.field-0.0 (λ risen below. let rose = risen below in omega (arith, rose, inv.1.so_far.part.call.quiet.time.disk_faults)) (λ f place there. inr there)
    (subst (λ (b : Bounds). FailsBy (Rises mid.disk_faults new.disk_faults) (λ f place. log.log.active ≢ ObjectsFile → IsTailFault (meaning b) new log.log f place) c.in_err-record.field-0.0) inv.1.bounds
    (c.in_err-record.ensures.cause log inv.0 inv.1.reading)))

pub replay-requires-clause-unbroken : goal.replay-requires-clause-unbroken
replay-requires-clause-unbroken g c =
    ap (λ (s : StoreView). s.broken) c.in_ok-record.ensures.kept.store

pub replay-requires-clause-grammar : goal.replay-requires-clause-grammar
replay-requires-clause-grammar g c =
    let one = next g (goal.at.replay-requires-clause-grammar g c).In-Some in
    next_in_grammar c.in-Some.record one (c.params-params.ensures.in_use c.requires.unbroken)

pub replay-requires-clause-above : goal.replay-requires-clause-above
replay-requires-clause-above g c =
    let one = next g (goal.at.replay-requires-clause-above g c).In-Some in
    next_above c.in-Some.record one (c.params-params.ensures.in_use c.requires.unbroken)

pub returns-in_err-replay-clause-call : goal.returns-in_err-replay-clause-call
returns-in_err-replay-clause-call g c =
    let one = next g (goal.at.returns-in_err-replay-clause-call g c).In-Some in
    let why = c.in_err-replay.field-0.0 in
    let whole = part_twice one.so_far.part (part_replay g.O.Oper.meaning (ending_of_read {T = Unit {0}} (Err why)) c.in_err-replay.ensures.replayed (never_stopped (Unit {0}) why) (rises_of (Unit {0}) _ _ why c.in_err-replay.ensures.cause)) in
    as_error (λ r. IsCall g.O.Oper.meaning (g.M.Machine.disk c.args.machine.now) (g.M.Machine.disk c.replay.new.machine) c.args.store.now c.replay.new.store 0 Never (ending_of_read r)) c.from_residual-in_err-replay.result why c.from_residual-in_err-replay.ensures.1 whole.call

pub returns-in_err-replay-clause-objects : goal.returns-in_err-replay-clause-objects
returns-in_err-replay-clause-objects g c =
    let one = next g (goal.at.returns-in_err-replay-clause-objects g c).In-Some in
    let why = c.in_err-replay.field-0.0 in
    let whole = part_twice one.so_far.part (part_replay g.O.Oper.meaning (ending_of_read {T = Unit {0}} (Err why)) c.in_err-replay.ensures.replayed (never_stopped (Unit {0}) why) (rises_of (Unit {0}) _ _ why c.in_err-replay.ensures.cause)) in
    whole.objects

pub returns-in_err-replay-clause-steps : goal.returns-in_err-replay-clause-steps
returns-in_err-replay-clause-steps g c = λ steps settled p w to.
    let one = next g (goal.at.returns-in_err-replay-clause-steps g c).In-Some in
    steps_of (g.O.Oper.meaning (bounds_of p)) p c.args.marks w to (still_moments one.so_far c.replay.ensures.replayed.read.read.stays steps settled p w to)

pub returns-in_err-replay-clause-cause : goal.returns-in_err-replay-clause-cause
returns-in_err-replay-clause-cause g c =
    let one = next g (goal.at.returns-in_err-replay-clause-cause g c).In-Some in
    error_fails _ _ c.from_residual-in_err-replay.result c.in_err-replay.field-0.0 c.from_residual-in_err-replay.ensures.1
    (fails_on _ _ _ _ c.in_err-replay.field-0.0 (λ risen below. let rose = risen below in omega (arith, rose, one.so_far.part.call.quiet.time.disk_faults))
    (λ file place slot. inl (slot_fault one.so_far c.requires.empty.0 c.replay.ensures.replayed.read.read.stays (c.replay.ensures.replayed.set.slots ∙ c.replay.ensures.replayed.read.read.fetched.slots) slot)) c.in_err-replay.ensures.cause)

pub keep_within-requires : goal.keep_within-requires
keep_within-requires g c =
    record { unbroken = false_from_ne_true c.replay.new.store.broken (λ set. let is = c.in_ok-replay.ensures.replayed in is.read.broken.0 (sym is.set.flag ∙ set)) }

pub returns-in_err-keep_within-clause-call : goal.returns-in_err-keep_within-clause-call
returns-in_err-keep_within-clause-call g c =
    let one = next g (goal.at.returns-in_err-keep_within-clause-call g c).In-Some in
    let why = c.in_err-keep_within.field-0.0 in
    let whole = part_twice (part_on c.in-Some.record one (c.params-params.ensures.in_use c.requires.unbroken) c.in_ok-replay.ensures.replayed c.in_ok-replay.ensures.shown (λ b small. has_codes (g.O.Oper.meaning b) b small (g.met.O.Oper.bounded b) (g.met.O.Oper.lawful b small))
    c.turns_keep.ensures.sound c.unseen_steps_change_nothing.ensures) (part_thin (Unit {0}) (Unit {0}) why c.in_err-keep_within.ensures.call c.keep_within.ensures.beside) in
    as_error (λ r. IsCall g.O.Oper.meaning (g.M.Machine.disk c.args.machine.now) (g.M.Machine.disk c.keep_within.new.machine) c.args.store.now c.keep_within.new.store 0 Never (ending_of_read r)) c.from_residual-in_err-keep_within.result (read_from_store why) c.from_residual-in_err-keep_within.ensures.1 whole.call

pub returns-in_err-keep_within-clause-objects : goal.returns-in_err-keep_within-clause-objects
returns-in_err-keep_within-clause-objects g c =
    let one = next g (goal.at.returns-in_err-keep_within-clause-objects g c).In-Some in
    let why = c.in_err-keep_within.field-0.0 in
    let whole = part_twice (part_on c.in-Some.record one (c.params-params.ensures.in_use c.requires.unbroken) c.in_ok-replay.ensures.replayed c.in_ok-replay.ensures.shown (λ b small. has_codes (g.O.Oper.meaning b) b small (g.met.O.Oper.bounded b) (g.met.O.Oper.lawful b small))
    c.turns_keep.ensures.sound c.unseen_steps_change_nothing.ensures) (part_thin (Unit {0}) (Unit {0}) why c.in_err-keep_within.ensures.call c.keep_within.ensures.beside) in
    whole.objects

pub returns-in_err-keep_within-clause-steps : goal.returns-in_err-keep_within-clause-steps
returns-in_err-keep_within-clause-steps g c = λ steps settled p w to.
    let one = next g (goal.at.returns-in_err-keep_within-clause-steps g c).In-Some in
    steps_of (g.O.Oper.meaning (bounds_of p)) p c.args.marks w to
    (moments_on c.in-Some.record one (c.params-params.ensures.in_use c.requires.unbroken) c.in_ok-replay.ensures.replayed c.in_ok-replay.ensures.shown (λ b small. has_codes (g.O.Oper.meaning b) b small (g.met.O.Oper.bounded b) (g.met.O.Oper.lawful b small))
    c.turns_keep.ensures.sound c.unseen_steps_change_nothing.ensures c.keep_within.ensures.steps steps settled p w to)

pub returns-in_err-keep_within-clause-cause : goal.returns-in_err-keep_within-clause-cause
returns-in_err-keep_within-clause-cause g c =
    let one = next g (goal.at.returns-in_err-keep_within-clause-cause g c).In-Some in
    let why = c.in_err-keep_within.field-0.0 in
    let whole = part_twice (part_on c.in-Some.record one (c.params-params.ensures.in_use c.requires.unbroken) c.in_ok-replay.ensures.replayed c.in_ok-replay.ensures.shown (λ b small. has_codes (g.O.Oper.meaning b) b small (g.met.O.Oper.bounded b) (g.met.O.Oper.lawful b small))
    c.turns_keep.ensures.sound c.unseen_steps_change_nothing.ensures) (part_thin (Unit {0}) (Unit {0}) why c.in_err-keep_within.ensures.call c.keep_within.ensures.beside) in
    error_fails _ _ c.from_residual-in_err-keep_within.result (read_from_store why) c.from_residual-in_err-keep_within.ensures.1
    (store_fails (Unit {0}) _ _ why whole.call.fault)

pub loop-reader-preserved : goal.loop-reader-preserved
loop-reader-preserved g c =
    let one = next g (goal.at.loop-reader-preserved g c).In-Some in (
      c.loop-reader.invariant.0 ++ c.in-Some.record ∷ [],
      record {
        so_far = done_on c.in-Some.record one (c.params-params.ensures.in_use c.requires.unbroken) c.in_ok-replay.ensures.replayed c.in_ok-replay.ensures.shown (λ b small. has_codes (g.O.Oper.meaning b) b small (g.met.O.Oper.bounded b) (g.met.O.Oper.lawful b small))
            c.turns_keep.ensures.sound c.unseen_steps_change_nothing.ensures
            c.keep_within.ensures.steps (record { call = c.in_ok-keep_within.ensures.call; objects = c.keep_within.ensures.beside.objects }) c.keep_within.ensures.beside.entries c.in_ok-keep_within.ensures.limited;
        from = one.from;
        bounds = one.bounds;
        reading = reads_on c.in-Some.record one (c.params-params.ensures.in_use c.requires.unbroken) c.replay.ensures.replayed.read.read.stays c.keep_within.ensures.beside.objects.runs;
      },
    )

pub returns-clause-call : goal.returns-clause-call
returns-clause-call g c =
    let done = done_still c.loop-reader.invariant.1.so_far c.read_log.ensures.kept.stays c.in_ok-record.ensures.kept.store in
    done.part.call

pub returns-clause-objects : goal.returns-clause-objects
returns-clause-objects g c =
    let done = done_still c.loop-reader.invariant.1.so_far c.read_log.ensures.kept.stays c.in_ok-record.ensures.kept.store in
    done.part.objects

pub returns-clause-redone : goal.returns-clause-redone
returns-clause-redone g c = λ told settled p w to.
    let meaning = g.O.Oper.meaning in
    let marks = c.args.marks in
    let old = g.M.Machine.disk c.args.machine.now in
    let inv = c.loop-reader.invariant in
    let done = done_still c.loop-reader.invariant.1.so_far c.read_log.ensures.kept.stays c.in_ok-record.ensures.kept.store in
    let found = to.due.found in
    let small = small_store p (old.reads ObjectsFile) found.shows.objects in
    all_done done (c.params-params.ensures.in_use c.requires.unbroken) told settled p w to (has_codes (meaning (bounds_of p)) (bounds_of p) small (g.met.O.Oper.bounded (bounds_of p)) (g.met.O.Oper.lawful (bounds_of p) small)) (ap (λ (v : LsnReaderView). v.from) c.read_log.ensures.reader.same ∙ inv.1.from)
    (none_given (g.M.Machine.disk c.read_log.new.machine) c.read_log.new.reader c.in_ok-record.field-0 inv c.in_ok-record.ensures.read c.in_default.is) (λ n x live. c.turns_keep.ensures.map (bounds_of p) w marks n x small found.sound (crashed-stable (meaning (bounds_of p)) w found.crashed found.sound) live)

pub returns-clause-steps : goal.returns-clause-steps
returns-clause-steps g c = λ steps settled p w to.
    let done = done_still c.loop-reader.invariant.1.so_far c.read_log.ensures.kept.stays c.in_ok-record.ensures.kept.store in
    steps_of (g.O.Oper.meaning (bounds_of p)) p c.args.marks w to (done.steps steps settled p w to)
