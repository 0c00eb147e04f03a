use Rattle.std.proofs.Common.{◌≡◌, ◌∙◌, ◌<◌, ◌≤◌, ap, sym, subst, length, map, List, ℕ, true, false}
use Rattle.std.specs.Prelude.{All}
use Rattle.std.proofs.lemmas.Bool.{false_from_ne_true}
use Rattle.disk_model.specs.Disk.{Rises}
use Rattle.disk_model.specs.declared.machine.FileNo.TheVariants.{Objects}
use Rattle.oper_core.specs.Meaning.{FitsReads, IsInGrammar}
use Rattle.oper_core.specs.State.{is_among}
use Rattle.oper_core.specs.declared.bounds.Bounds.{Bounds}
use Rattle.formats.specs.Objects.{IsInRange, bounds_of}
use Rattle.formats.specs.Reading.{FailsBy}
use Rattle.formats.specs.declared.params.Params.{Params}
use Rattle.formats.specs.declared.read_err.ReadErr.TheVariants.{Memory as OutOfMemory}
use Rattle.install_order.specs.declared.entry.Entry.{Entry}
use Rattle.log_records.specs.RecordLog.{RecordLogView}
use Rattle.stable_objects.specs.SlotsView.{SlotsView}
use Rattle.write_graph.specs.Graph.{lsns}
use Rattle.explain_core.specs.History.Member.{Command}
use Rattle.running_store.specs.Laid.Among.{small_bounds}
use Rattle.running_store.specs.Calls.Entered.{IsEntered}
use Rattle.running_store.specs.Laid.{Laid, values_in}
use Rattle.running_store.specs.Laid.LongSlot.{HasLongSlot}
use Rattle.running_store.specs.Parts.{entry_of, volatile}
use Rattle.redo_pass.specs.Endings.{error_fails}
use Rattle.redo_pass.specs.Replayed.{is_due}
use Rattle.redo_pass.proofs.Failing.{read_failed}
use Rattle.redo_pass.proofs.Leaves.{memory_entered, memory_left, memory_none, replay_error, replay_fetch, replay_memory, replay_then}
use Rattle.redo_pass.proofs.Replaying.{due_later, none_entered, read_lsns, some_entered, nil_if, some_if}
use Rattle.redo_pass.proofs.replay.replay_command.Goals as goal

pub returns-then-is_empty-clause-replayed : goal.returns-then-is_empty-clause-replayed
returns-then-is_empty-clause-replayed g c = replay_memory (g.met.M.Machine.lawful c.args.machine.now) c.requires.unbroken (λ none. none) (memory_none c.args.store.now)

pub returns-then-is_empty-clause-shown : goal.returns-then-is_empty-clause-shown
returns-then-is_empty-clause-shown g c = λ told p w sound shows next.
    let b = bounds_of p in
    let m = g.O.Oper.meaning b in
    let op = c.args.op.now in
    let it = c.args.store.now.parts.volatile in
    let lawful = g.met.O.Oper.lawful b (small_bounds p (subst (λ (q : Params). IsInRange q) shows.params c.params-params.ensures.range)) in
    let grammar = subst (λ (q : Params). IsInGrammar (g.O.Oper.meaning (bounds_of q)) op) shows.params c.requires.grammar in
    let bounds = (g.met.O.Oper.bounded b).objects in
    let writes = subst (λ (n : ℕ). All (λ x. x < n) (m.writes op)) bounds (lawful.writes_below op grammar) in
    let none = sym c.as_slice-2.ensures.value ∙ nil_if c.as_slice-2.result.now (sym c.is_empty.ensures ∙ c.if-is_empty.true) in
    none_entered m p ((g.M.Machine.disk c.args.machine.now).reads Objects) it w c.args.plan.now.table c.args.lsn (Command op) c.due_among-due.result sound shows next bounds writes
    (λ x. c.due_among-due.ensures x ∙ (λ i. is_due c.args.plan.now.table (c.objects-2.ensures i) c.args.lsn ((c.as_slice.ensures.value ∙ c.writes-writes.ensures b) i) x)) none

pub returns-in_err-values-clause-replayed : goal.returns-in_err-values-clause-replayed
returns-in_err-values-clause-replayed g c =
    let why = c.in_err-values.field-0.0 in
    replay_error c.from_residual.result why c.from_residual.ensures.1 (replay_fetch (read_failed (Unit {0}) why) c.in_err-values.ensures.call)

pub returns-in_err-values-clause-cause : goal.returns-in_err-values-clause-cause
returns-in_err-values-clause-cause g c =
    let slots = c.args.store.now.parts.volatile.objects.slots in
    let new = g.M.Machine.disk c.values_of.new.machine in
    let rises = Rises (g.M.Machine.disk c.args.machine.now).disk_faults new.disk_faults in
    let why = c.in_err-values.field-0.0 in
    error_fails _ _ c.from_residual.result why c.from_residual.ensures.1
    (subst (λ (l : List ℕ). FailsBy rises (HasLongSlot new slots l) why) (c.as_slice-3.ensures.value ∙ c.reads-reads.ensures (bounds_of slots.params)) c.in_err-values.ensures.cause)

pub returns-in_err-made-clause-replayed : goal.returns-in_err-made-clause-replayed
returns-in_err-made-clause-replayed g c =
    replay_error c.from_residual-in_err-made.result OutOfMemory c.from_residual-in_err-made.ensures.1
    (replay_fetch (λ is. cc, λ none. absurd none) c.in_ok-values.ensures.call)

pub returns-in_err-enter-clause-replayed : goal.returns-in_err-enter-clause-replayed
returns-in_err-enter-clause-replayed g c =
    replay_error c.from_residual-in_err-enter.result OutOfMemory c.from_residual-in_err-enter.ensures.1
    (replay_then (λ is. cc) (λ none. none) c.in_ok-values.ensures.call
    (memory_left c.in_err-enter.ensures))

pub enter-requires-clause-unbroken : goal.enter-requires-clause-unbroken
enter-requires-clause-unbroken g c = false_from_ne_true c.values_of.new.self.broken (λ set. let no : false ≡ true = c.in_ok-values.ensures.call.broken.0 set in cc)

pub enter-requires-clause-below : goal.enter-requires-clause-below
enter-requires-clause-below g c =
    let p = c.args.store.now.parts.volatile.objects.slots.params in
    let b = bounds_of p in
    let op = c.args.op.now in
    let lawful = g.met.O.Oper.lawful b (small_bounds p c.params-params.ensures.range) in
    let writes = subst (λ (n : ℕ). All (λ x. x < n) ((g.O.Oper.meaning b).writes op)) (g.met.O.Oper.bounded b).objects (lawful.writes_below op c.requires.grammar) in
    subst (λ (s : SlotsView). All (λ x. x < s.params.objects) c.writes-writes.result) (sym c.in_ok-values.ensures.call.read.fetched.slots)
    (subst (λ (l : List ℕ). All (λ x. x < p.objects) l) (sym (c.writes-writes.ensures b)) writes)

pub enter-requires-clause-values : goal.enter-requires-clause-values
enter-requires-clause-values g c =
    let p = c.args.store.now.parts.volatile.objects.slots.params in
    let b = bounds_of p in
    let m = g.O.Oper.meaning b in
    let op = c.args.op.now in
    let lawful = g.met.O.Oper.lawful b (small_bounds p c.params-params.ensures.range) in
    let cap = (g.met.O.Oper.bounded b).cap in
    let shape = c.in_ok-values.ensures.shape in
    let fits : FitsReads m op c.in_ok-values.values = record {
      count = shape.0 ∙ ap (λ (l : List ℕ). length l) (c.as_slice-3.ensures.value ∙ c.reads-reads.ensures b);
      short = subst (λ (n : ℕ). All (λ v. length v ≤ n) c.in_ok-values.values) (sym cap) shape.1;
    } in
    let is = lawful.made op c.in_ok-values.values c.requires.grammar fits in
    let made : c.in_ok-made.made ≡ m.effect op c.in_ok-values.values =
    c.in_ok-made.ensures ∙ ap (λ (d : Bounds). (g.O.Oper.meaning d).effect op c.in_ok-values.values) (c.bounds-bounds.ensures ∙ ap (λ (l : Laid). bounds_of l.slots.params) c.objects.ensures) in (
      ap (λ (l : List (List ℕ)). length l) made ∙ is.0 ∙ ap (λ (l : List ℕ). length l) (sym (c.writes-writes.ensures b)),
      subst (λ (s : SlotsView). All (λ v. length v ≤ s.params.cap) c.in_ok-made.made) (sym c.in_ok-values.ensures.call.read.fetched.slots)
          (subst (λ (l : List (List ℕ)). All (λ v. length v ≤ p.cap) l) (sym made) (subst (λ (n : ℕ). All (λ v. length v ≤ n) (m.effect op c.in_ok-values.values)) cap is.1)),
    )

pub enter-requires-clause-above : goal.enter-requires-clause-above
enter-requires-clause-above g c =
    let read = c.in_ok-values.ensures.call in (
      subst (λ (es : List Entry). All (λ n. n < c.args.lsn) (lsns es)) (sym read.entries) c.requires.above.0,
      subst (λ (l : RecordLogView). c.args.lsn < l.next) (sym read.log) c.requires.above.1,
    )

pub enter-requires-clause-later : goal.enter-requires-clause-later
enter-requires-clause-later g c =
    let it = c.args.store.now.parts.volatile in
    let after = c.values_of.new.self.parts.volatile.objects in
    let used = (c.params-params.ensures.in_use c.requires.unbroken).store in
    due_later c.args.plan.now.table it.objects after c.args.lsn c.writes-writes.result c.as_slice-4.result.now
    (λ x. ap (is_among x) c.as_slice-4.ensures.value ∙ c.due_among-due.ensures x ∙ (λ i. is_due c.args.plan.now.table (c.objects-2.ensures i) c.args.lsn (c.as_slice.ensures.value i) x))
    (λ x. read_lsns it.objects.slots.params c.args.store.now.parts.log.next it after x used c.in_ok-values.ensures.call.read.fetched)

pub returns-clause-replayed : goal.returns-clause-replayed
returns-clause-replayed g c =
    replay_then (λ is. cc) (λ none. none) c.in_ok-values.ensures.call
    (memory_entered (λ k low. low) c.in_ok-enter.ensures)

pub returns-clause-shown : goal.returns-clause-shown
returns-clause-shown g c = λ told p w sound shows next.
    let b = bounds_of p in
    let m = g.O.Oper.meaning b in
    let op = c.args.op.now in
    let it = c.args.store.now.parts.volatile in
    let file = (g.M.Machine.disk c.args.machine.now).reads Objects in
    let lawful = g.met.O.Oper.lawful b (small_bounds p (subst (λ (q : Params). IsInRange q) shows.params c.params-params.ensures.range)) in
    let grammar = subst (λ (q : Params). IsInGrammar (g.O.Oper.meaning (bounds_of q)) op) shows.params c.requires.grammar in
    let bounds = (g.met.O.Oper.bounded b).objects in
    let writes = subst (λ (n : ℕ). All (λ x. x < n) (m.writes op)) bounds (lawful.writes_below op grammar) in
    let reads = subst (λ (n : ℕ). All (λ x. x < n) (m.reads op)) bounds (lawful.reads_below op grammar) in
    let e : Entry = record { lsn = c.args.lsn; reads = c.reads-reads.result; writes = c.writes-writes.result; identity = false } in
    let e_is : e ≡ entry_of m c.args.lsn (Command op) = λ i. record { lsn = c.args.lsn; reads = c.reads-reads.ensures b i; writes = c.writes-writes.ensures b i; identity = false } in
    let fetch = c.in_ok-values.ensures.call.read in
    let read = fetch.cells told shows.laid in
    let values : c.in_ok-values.values ≡ map (values_in it.objects file) (m.reads op) = c.in_ok-values.ensures.values told shows.laid ∙ ap (map (values_in it.objects file)) (c.as_slice-3.ensures.value ∙ c.reads-reads.ensures b) in
    let made : c.in_ok-made.made ≡ m.effect op (map (values_in it.objects file) (m.reads op)) =
    c.in_ok-made.ensures ∙ ap (λ (d : Bounds). (g.O.Oper.meaning d).effect op c.in_ok-values.values) (c.bounds-bounds.ensures ∙ ap (λ (l : Laid). bounds_of l.slots.params) c.objects.ensures ∙ ap bounds_of shows.params)
    ∙ ap (m.effect op) values in
    let same : c.as_slice-2.result.now ≡ c.as_slice-4.result.now = c.as_slice-2.ensures.value ∙ sym c.as_slice-4.ensures.value in
    let some : 0 < length c.as_slice-4.result.now = subst (λ (l : List ℕ). 0 < length l) same (some_if c.as_slice-2.result.now (sym c.is_empty.ensures ∙ c.if-is_empty.false)) in
    let is = subst (λ (es : List Entry). IsEntered (volatile c.values_of.new.self.parts.volatile.objects es) c.enter.new.self.parts.volatile c.as_slice-4.result.now e c.in_ok-made.made) c.in_ok-values.ensures.call.entries c.in_ok-enter.ensures.entered in
    some_entered m p file it w c.args.plan.now.table c.args.lsn (Command op) c.as_slice-4.result.now sound shows next bounds writes
    (λ x. ap (is_among x) c.as_slice-4.ensures.value ∙ c.due_among-due.ensures x ∙ (λ i. is_due c.args.plan.now.table (c.objects-2.ensures i) c.args.lsn ((c.as_slice.ensures.value ∙ c.writes-writes.ensures b) i) x))
    c.values_of.new.self.parts.volatile.objects c.enter.new.self.parts.volatile c.in_ok-made.made fetch.fetched read.0 read.1 reads e e_is is made some
