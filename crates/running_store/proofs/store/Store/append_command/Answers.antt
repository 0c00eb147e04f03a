use Rattle.std.proofs.Common.{rules, ◌≡◌, ◌∙◌, ◌<◌, ℕ, List, ap, arith, refl, subst, sym}
use Rattle.std.specs.Prelude.{All}
use Rattle.std.proofs.lemmas.Result.{err_from_is_err_and}
use Rattle.formats.specs.Objects.{bounds_of}
use Rattle.oper_core.specs.Meaning.{IsLawful, Meaning}
use Rattle.install_order.specs.declared.entry.Entry.{Entry}
use Rattle.log_records.specs.RecordLog.{RecordLogView}
use Rattle.dirty_cache.specs.Contents.{HasRoom}
use Rattle.explain_core.specs.History.Member.{Command}
use Rattle.running_store.specs.Laid.Among.{small_bounds}
use Rattle.running_store.specs.Calls.Commands.{IsCommanded, IsLeft, IsReady}
use Rattle.running_store.specs.Laid.Lent.{inputs_in}
use Rattle.running_store.specs.Parts.{IsAppended, Parts, parts}
use Rattle.running_store.specs.Laid.Ran.{HasRun}
use Rattle.running_store.specs.StoreView.{IsUsable, StoreView, next_of, store_params, view_of}
use Rattle.running_store.specs.Parts.Unchanged.{IsSameLog, IsUntaken}
use Rattle.running_store.proofs.Commanded.{command_usable, left_usable}
use Rattle.running_store.proofs.DoneLemmas.{ran_from, ready_from}
use Rattle.running_store.proofs.Inside.{usable_before}
use Rattle.running_store.proofs.store.Store.append_command.Given.{Over}
use Rattle.running_store.proofs.store.Store.append_command.Goals.{After-append_encoded, After-make_room, In_err-run}
use Rattle.running_store.proofs.store.Store.append_command.Goals as goal

module _ (g : Over) (c : After-make_room g) where
  abbrev before : Parts
  before = parts c.self.inside.log c.self.inside.objects c.self.inside.graph.entries

  abbrev m : Meaning g.row.O.Denot
  m = g.O.Oper.meaning (bounds_of c.self.inside.objects.slots.params)

  used : IsUsable before c.self.inside.identities
  used = usable_before c.self.inside.log c.self.inside.objects c.self.inside.graph.entries c.self.inside.identities c.self.inside.broken c.args.self.now c.self.view_is c.self.invariant c.requires.unbroken

  -- where memory is refused
  left : (log : RecordLogView) (entries : List Entry) → IsSameLog c.self.inside.log log → entries ≡ c.self.inside.graph.entries → IsUntaken before (parts log c.make_room.new.self entries)
  left log entries same graph =
      let room = c.make_room.ensures in
      record { log = same; slots = room.slots; held = room.entries; dirty = room.fetched.dirty; laid = room.laid; entries = graph }

  usable : (log : RecordLogView) (entries : List Entry) → IsSameLog c.self.inside.log log → entries ≡ c.self.inside.graph.entries → IsUsable (parts log c.make_room.new.self entries) c.self.inside.identities
  usable log entries same graph = left_usable before (parts log c.make_room.new.self entries) c.self.inside.identities used (left log entries same graph)

  refused : (log : RecordLogView) (entries : List Entry) → IsSameLog c.self.inside.log log → entries ≡ c.self.inside.graph.entries → IsLeft c.args.self.now (view_of log c.make_room.new.self entries c.self.inside.identities c.self.inside.broken)
  refused log entries same graph =
      subst (λ (s : StoreView). IsLeft s (view_of log c.make_room.new.self entries c.self.inside.identities c.self.inside.broken)) c.self.view_is (record { untaken = left log entries same graph; counted = refl; flag = refl })

  laws : IsLawful m
  laws = g.met.O.Oper.lawful (bounds_of c.self.inside.objects.slots.params) (small_bounds c.self.inside.objects.slots.params c.params-params.ensures.range)

  -- what it reads
  abbrev values : List (List ℕ)
  values = inputs_in c.self.inside.objects.cache (m.reads c.args.op) c.args.copies

  ready : IsReady g.O.Oper.meaning c.self.inside.objects.slots.params c.args.op values
  ready =
      subst (λ (s : StoreView). IsReady g.O.Oper.meaning (store_params s) c.args.op (inputs_in s.parts.volatile.objects.cache ((g.O.Oper.meaning (bounds_of (store_params s))).reads c.args.op) c.args.copies)) (sym c.self.view_is) c.requires.ready

  below : All (λ x. x < m.objects) (m.writes c.args.op)
  below = laws.writes_below c.args.op ready.shape

pub run-requires-clause-ready : goal.run-requires-clause-ready
run-requires-clause-ready g c =
    let at = (goal.at.run-requires-clause-ready g c).After-make_room in
    ready_from g.O.Oper.meaning c.self.inside.objects c.make_room.new.self c.args.op c.args.copies c.make_room.ensures.slots c.make_room.ensures.entries (ready g at)

pub run-requires-clause-writes : goal.run-requires-clause-writes
run-requires-clause-writes g c = c.as_slice-2.ensures.value ∙ c.writes-writes.ensures (bounds_of c.make_room.new.self.slots.params)

pub run-requires-clause-room : goal.run-requires-clause-room
run-requires-clause-room g c =
    subst (λ (l : List ℕ). All (HasRoom c.make_room.new.self.cache) l) (c.as_slice.ensures.value ∙ sym c.as_slice-2.ensures.value) c.in_ok-make_room.ensures.room

pub invariant_of-self : goal.invariant_of-self
invariant_of-self g c = λ fine. usable g (goal.at.invariant_of-self g c).After-make_room c.self.inside.log c.self.inside.graph.entries refl refl

pub returns-in_err-make_room : goal.returns-in_err-make_room
returns-in_err-make_room g c =
    let q = err_from_is_err_and c.from_residual.result c.from_residual.ensures.1 in
    rw (q.1) (refused g (goal.at.returns-in_err-make_room g c).After-make_room c.self.inside.log c.self.inside.graph.entries refl refl)

pub invariant_of-self-in_err-make_room-2 : goal.invariant_of-self-in_err-make_room-2
invariant_of-self-in_err-make_room-2 g c = λ fine. usable g (goal.at.invariant_of-self-in_err-make_room-2 g c).After-make_room c.self.inside.log c.make_room-2.new.self.entries refl c.make_room-2.ensures.same

pub returns-in_err-make_room-2 : goal.returns-in_err-make_room-2
returns-in_err-make_room-2 g c =
    let q = err_from_is_err_and c.from_residual-in_err-make_room-2.result c.from_residual-in_err-make_room-2.ensures.1 in
    rw (q.1) (refused g (goal.at.returns-in_err-make_room-2 g c).After-make_room c.self.inside.log c.make_room-2.new.self.entries refl c.make_room-2.ensures.same)

pub invariant_of-self-in_err-code : goal.invariant_of-self-in_err-code
invariant_of-self-in_err-code g c = λ fine. usable g (goal.at.invariant_of-self-in_err-code g c).After-make_room c.encode_command.new.self c.make_room-2.new.self.entries c.encode_command.ensures.kept c.make_room-2.ensures.same

pub returns-in_err-code : goal.returns-in_err-code
returns-in_err-code g c =
    let q = err_from_is_err_and c.from_residual-in_err-code.result c.from_residual-in_err-code.ensures.1 in
    rw (q.1) (refused g (goal.at.returns-in_err-code g c).After-make_room c.encode_command.new.self c.make_room-2.new.self.entries c.encode_command.ensures.kept c.make_room-2.ensures.same)

-- the values that it was lent are back
module _ (g : Over) (c : In_err-run g) where
  given_back : IsUntaken (parts c.self.inside.log c.self.inside.objects c.self.inside.graph.entries) (parts c.encode_command.new.self c.run.new.self c.make_room-2.new.self.entries)
  given_back =
      let room = c.make_room.ensures in
      record {
        log = c.encode_command.ensures.kept;
        slots = c.in_err-run.ensures.slots ∙ room.slots;
        held = λ x. c.in_err-run.ensures.same x ∙ room.entries x;
        dirty = λ x. c.in_err-run.ensures.fetched.dirty x ∙ room.fetched.dirty x;
        laid = λ file laid. c.in_err-run.ensures.laid file (room.laid file laid);
        entries = c.make_room-2.ensures.same;
      }

pub invariant_of-self-in_err-run : goal.invariant_of-self-in_err-run
invariant_of-self-in_err-run g c = λ fine.
    let at = goal.at.invariant_of-self-in_err-run g c in
    left_usable (before g at.After-make_room) (parts c.encode_command.new.self c.run.new.self c.make_room-2.new.self.entries) c.self.inside.identities (used g at.After-make_room) (given_back g at.In_err-run)

pub returns-in_err-run : goal.returns-in_err-run
returns-in_err-run g c =
    let at = goal.at.returns-in_err-run g c in
    let q = err_from_is_err_and c.from_residual-in_err-run.result c.from_residual-in_err-run.ensures.1 in
    rw (q.1) (subst (λ (s : StoreView). IsLeft s (view_of c.encode_command.new.self c.run.new.self c.make_room-2.new.self.entries c.self.inside.identities c.self.inside.broken)) c.self.view_is
    (record { untaken = given_back g at.In_err-run; counted = refl; flag = refl }))

-- it is done
module _ (g : Over) (c : After-append_encoded g) where
  ran : HasRun g.O.Oper.meaning c.self.inside.objects c.run.new.self c.self.inside.log.next c.args.op c.args.copies
  ran = ran_from g.O.Oper.meaning c.self.inside.objects c.make_room.new.self c.run.new.self c.self.inside.log.next c.args.op c.args.copies c.make_room.ensures.slots c.make_room.ensures.entries c.make_room.ensures.fetched.dirty
      (subst (λ (n : ℕ). HasRun g.O.Oper.meaning c.make_room.new.self c.run.new.self n c.args.op c.args.copies) c.next-lsn.ensures c.in_ok-run.ensures.done)

pub invariant_of-self-2 : goal.invariant_of-self-2
invariant_of-self-2 g c = λ fine.
    let at = goal.at.invariant_of-self-2 g c in
    let here = at.After-make_room in
    let made = (m g here).effect c.args.op (values g here) in
    let after = parts c.append_encoded.new.self c.run.new.self c.add.new.self.entries in
    let is = ran g at.After-append_encoded in
    let done : IsAppended (m g here) (before g here) after (Command c.args.op) made = record { log = search rules; slots = c.in_ok-run.ensures.slots ∙ c.make_room.ensures.slots; held = is.entries; dirty = is.dirty; entries = search rules } in
    command_usable (before g here) after c.self.inside.identities (used g here) (m g here) c.args.op made done
    (λ k d within. omega (arith, below g here k d within, (g.met.O.Oper.bounded (bounds_of c.self.inside.objects.slots.params)).objects)) (omega (arith, ap (λ (s : StoreView). next_of s) c.self.view_is, c.requires.lsn))

pub returns : goal.returns
returns g c =
    let at = goal.at.returns g c in
    let here = at.After-make_room in
    let after = parts c.append_encoded.new.self c.run.new.self c.add.new.self.entries in
    let is = ran g at.After-append_encoded in
    let done : IsAppended (m g here) (before g here) after (Command c.args.op) ((m g here).effect c.args.op (values g here)) = record { log = search rules; slots = c.in_ok-run.ensures.slots ∙ c.make_room.ensures.slots; held = is.entries; dirty = is.dirty; entries = search rules } in
    subst (λ (s : StoreView). IsCommanded g.O.Oper.meaning s (view_of c.append_encoded.new.self c.run.new.self c.add.new.self.entries c.self.inside.identities c.self.inside.broken) c.args.op
    (inputs_in s.parts.volatile.objects.cache ((g.O.Oper.meaning (bounds_of (store_params s))).reads c.args.op) c.args.copies)) c.self.view_is (record {
      ready = ready g here;
      lsn = omega (arith, ap (λ (s : StoreView). next_of s) c.self.view_is, c.requires.lsn);
      bounds = (used g here).in_use.bounds;
      appended = done;
      laid = λ file laid. c.in_ok-run.ensures.laid file (c.make_room.ensures.laid file laid);
      counted = refl;
      flag = refl;
    })
