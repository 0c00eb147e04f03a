use Rattle.std.proofs.Common.{rules, ℕ, Option, Bool, true, false, ◌||◌, ◌≡◌, ◌==◌, ◌<◌, ◌+◌, ◌∙◌, ◌∷◌, ◌++◌, [], List, Some, ap, arith, if◌then◌else◌, length, refl, subst, sym}
use Rattle.std.specs.Prelude.{◌^◌, IsSome}
use Rattle.std.proofs.lemmas.Result.{err_from_is_err_and}
use Rattle.oper_core.specs.declared.bounds.Bounds.{Bounds}
use Rattle.formats.specs.Records.{record_code}
use Rattle.formats.specs.declared.record.Record.{Record}
use Rattle.formats.specs.declared.record.Record.TheVariants.{Identity as Logged_identity}
use Rattle.log_records.specs.RecordLog.{RecordLogView, counts}
use Rattle.install_order.specs.declared.entry.Entry.{Entry}
use Rattle.stable_objects.specs.SlotsView.{SlotsView}
use Rattle.dirty_cache.specs.Contents.{held}
use Rattle.dirty_cache.specs.declared.entry.Entry.{Entry as Pair}
use Rattle.explain_core.specs.History.Member.{Identity}
use Rattle.running_store.specs.Calls.Commands.{IsLeft}
use Rattle.running_store.specs.Courses.{identity_length}
use Rattle.running_store.specs.Parts.InUse.{cached_pair}
use Rattle.running_store.specs.Laid.{Laid, values_in}
use Rattle.running_store.specs.Calls.Logged.{HasPlace}
use Rattle.running_store.specs.Parts.{IsAppended, Parts, parts}
use Rattle.running_store.specs.StoreView.{IsUsable, StoreView, next_of, view_of}
use Rattle.running_store.specs.Parts.Unchanged.{IsSameLog, IsUntaken}
use Rattle.running_store.specs.Calls.Writes.{IsWritten}
use Rattle.running_store.specs.Steps.Written.{value_cached}
use Rattle.running_store.proofs.Commanded.{left_usable, write_usable}
use Rattle.running_store.proofs.Inside.{usable_before}
use Rattle.running_store.proofs.SetLemmas.{entries_cons, entry_of}
use Rattle.running_store.proofs.store.Store.append_identity.Given.{Over}
use Rattle.running_store.proofs.store.Store.append_identity.Goals.{After-add, After-room_for}
use Rattle.running_store.proofs.store.Store.append_identity.Goals as goal

alone : (b : Bool) → b ≡ (b || false)
alone true = refl
alone false = refl

-- the pair that is cached, once there is room for another
module _ (objects later : Laid) (x : ℕ) (same : (y : ℕ) → held later.cache y ≡ held objects.cache y) (some : IsSome (held objects.cache x)) where
  abbrev had : (pair : Pair) × (held objects.cache x ≡ Some pair)
  had = cached_pair (held objects.cache x) some

  -- the value that is asked for is that of the pair
  value_had : (value : List ℕ) → ((file : List ℕ) → value ≡ values_in later file x) → value ≡ had.0.bytes
  value_had value is = value_cached later x had.0 value (same x ∙ had.1) is

-- once there is room in the cache
module _ (g : Over) (c : After-room_for g) where
  abbrev before : Parts
  before = parts c.self.inside.log c.self.inside.objects c.self.inside.graph.entries

  used : IsUsable before c.self.inside.identities
  used = usable_before c.self.inside.log c.self.inside.objects c.self.inside.graph.entries c.self.inside.identities c.self.inside.broken c.args.self.now c.self.view_is c.self.invariant c.requires.unbroken

  -- where memory is refused
  left : (log : RecordLogView) (entries : List Entry) → IsSameLog c.self.inside.log log → entries ≡ c.self.inside.graph.entries → IsUntaken before (parts log c.room_for.new.self entries)
  left log entries same graph =
      let room = c.room_for.ensures in
      record { log = same; slots = room.slots; held = room.entries; dirty = room.fetched.dirty; laid = room.laid; entries = graph }

  usable : (log : RecordLogView) (entries : List Entry) → IsSameLog c.self.inside.log log → entries ≡ c.self.inside.graph.entries → IsUsable (parts log c.room_for.new.self entries) c.self.inside.identities
  usable log entries same graph = left_usable before (parts log c.room_for.new.self entries) c.self.inside.identities used (left log entries same graph)

  refused : (log : RecordLogView) (entries : List Entry) → IsSameLog c.self.inside.log log → entries ≡ c.self.inside.graph.entries → IsLeft c.args.self.now (view_of log c.room_for.new.self entries c.self.inside.identities c.self.inside.broken)
  refused log entries same graph =
      subst (λ (s : StoreView). IsLeft s (view_of log c.room_for.new.self entries c.self.inside.identities c.self.inside.broken)) c.self.view_is (record { untaken = left log entries same graph; counted = refl; flag = refl })

  some : IsSome (held c.self.inside.objects.cache c.args.x)
  some = subst (λ (s : StoreView). IsSome (held s.parts.volatile.objects.cache c.args.x)) (sym c.self.view_is) c.requires.cached

  abbrev pair : (pair : Pair) × (held c.self.inside.objects.cache c.args.x ≡ Some pair)
  pair = had c.self.inside.objects c.room_for.new.self c.args.x c.room_for.ensures.entries some

  -- it is cached still
  cached : IsSome (held c.room_for.new.self.cache c.args.x)
  cached = subst (λ (o : Option Pair). IsSome o) (sym (c.room_for.ensures.entries c.args.x)) some

  value_is : (value : List ℕ) → ((file : List ℕ) → value ≡ values_in c.room_for.new.self file c.args.x) → value ≡ pair.0.bytes
  value_is = value_had c.self.inside.objects c.room_for.new.self c.args.x c.room_for.ensures.entries some

  place : HasPlace c.self.inside.log.log (identity_length (length pair.0.bytes))
  place = subst (λ (s : StoreView). (pair : Pair) → held s.parts.volatile.objects.cache c.args.x ≡ Some pair → HasPlace s.parts.log.log (identity_length (length pair.bytes))) (sym c.self.view_is) c.requires.place pair.0 pair.1

  low : c.self.inside.log.next < 2 ^ 62
  low = omega (arith, ap (λ (s : StoreView). next_of s) c.self.view_is, c.requires.lsn)

-- the entry is in the graph
module _ (g : Over) (c : After-add g) (some : IsSome (held c.self.inside.objects.cache c.args.x)) where
  abbrev bytes : List ℕ
  bytes = (had c.self.inside.objects c.room_for.new.self c.args.x c.room_for.ensures.entries some).0.bytes

  abbrev after : Parts
  after = parts c.append.new.self c.set.new.self c.add.new.self.entries

  done : IsAppended (g.O.Oper.meaning c.self.inside.log.bounds) (parts c.self.inside.log c.self.inside.objects c.self.inside.graph.entries) after (Identity c.args.x bytes) (bytes ∷ [])
  done =
      let log = c.self.inside.log in
      let value_is = value_had c.self.inside.objects c.room_for.new.self c.args.x c.room_for.ensures.entries some in
      let kept : c.new-3.result ≡ bytes = search rules ∙ value_is c.value-2.result.now c.value-2.ensures.value in
      let logged : c.new-2.result ≡ bytes = search rules ∙ value_is c.value.result.now c.value.ensures.value in
      let lsn : c.next-lsn.result ≡ log.next = search rules in
      record {
        log = subst (λ (r : Record g.row.O.Denot). c.append.new.self ≡ record log {
          log = record log.log { pending = log.log.pending ++ record_code (g.O.Oper.meaning log.bounds) r; room = c.append.new.self.log.room };
          next = log.next + 1;
          accepted = log.accepted + counts r;
        }) (λ i. Logged_identity (lsn i) c.args.x (logged i)) c.in_ok-append.ensures.ok;
        slots = c.set.ensures.slots ∙ c.room_for.ensures.slots;
        held = λ y.
            c.set.ensures.entries y ∙ (λ i. if y == c.args.x then Some (entry_of (lsn i) (kept i)) else c.room_for.ensures.entries y i) ∙ sym (entries_cons log.next (held c.self.inside.objects.cache) c.args.x [] bytes [] y);
        dirty = λ y. c.set.ensures.dirty y ∙ (λ i. alone (y == c.args.x) i || c.room_for.ensures.fetched.dirty y i);
        entries = search rules;
      }

pub value-requires : goal.value-requires
value-requires g c = cached g (goal.at.value-requires g c).After-room_for

pub value-requires-2 : goal.value-requires-2
value-requires-2 g c = cached g (goal.at.value-requires-2 g c).After-room_for

pub append-requires-clause-short : goal.append-requires-clause-short
append-requires-clause-short g c =
    let at = (goal.at.append-requires-clause-short g c).After-room_for in
    let first : c.new-2.result ≡ (pair g at).0.bytes = search rules ∙ value_is g at c.value.result.now c.value.ensures.value in
    let room = place g at in
    omega (arith, ap length first, room.block)

pub append-requires-clause-place : goal.append-requires-clause-place
append-requires-clause-place g c =
    let at = (goal.at.append-requires-clause-place g c).After-room_for in
    let first : c.new-2.result ≡ (pair g at).0.bytes = search rules ∙ value_is g at c.value.result.now c.value.ensures.value in
    let room = place g at in
    omega (arith, ap length first, room.file)

pub append-requires-clause-placed : goal.append-requires-clause-placed
append-requires-clause-placed g c =
    let lsn : c.next-lsn.result ≡ c.self.inside.log.next = search rules in
    (lsn, omega (arith, lsn, low g (goal.at.append-requires-clause-placed g c).After-room_for))

pub append-requires-clause-grammar : goal.append-requires-clause-grammar
append-requires-clause-grammar g c =
    let at = (goal.at.append-requires-clause-grammar g c).After-room_for in
    let lsn : c.next-lsn.result ≡ c.self.inside.log.next = search rules in
    let value : c.new-2.result ≡ c.value.result.now = search rules in
    let has = g.met.O.Oper.bounded c.self.inside.log.bounds in
    let bounds = (used g at).in_use.bounds in
    let slots = c.room_for.ensures.slots in (
      omega (arith, lsn, low g at),
      omega (arith, c.value.ensures.there, has.objects, ap (λ (b : Bounds). b.objects) bounds, ap (λ (s : SlotsView). s.params.objects) slots),
      omega (arith, c.value.ensures.short, has.cap, ap (λ (b : Bounds). b.cap) bounds, ap (λ (s : SlotsView). s.params.cap) slots, ap length value),
    )

pub invariant_of-self : goal.invariant_of-self
invariant_of-self g c = λ fine. usable g (goal.at.invariant_of-self g c).After-room_for c.self.inside.log c.self.inside.graph.entries refl refl

pub invariant_of-self-in_err-logged : goal.invariant_of-self-in_err-logged
invariant_of-self-in_err-logged g c = λ fine. usable g (goal.at.invariant_of-self-in_err-logged g c).After-room_for c.self.inside.log c.self.inside.graph.entries refl refl

pub invariant_of-self-in_err-kept : goal.invariant_of-self-in_err-kept
invariant_of-self-in_err-kept g c = λ fine. usable g (goal.at.invariant_of-self-in_err-kept g c).After-room_for c.self.inside.log c.self.inside.graph.entries refl refl

pub invariant_of-self-in_err-make_room : goal.invariant_of-self-in_err-make_room
invariant_of-self-in_err-make_room g c = λ fine. usable g (goal.at.invariant_of-self-in_err-make_room g c).After-room_for c.self.inside.log c.make_room.new.self.entries refl c.make_room.ensures.same

pub invariant_of-self-in_err-append : goal.invariant_of-self-in_err-append
invariant_of-self-in_err-append g c = λ fine. usable g (goal.at.invariant_of-self-in_err-append g c).After-room_for c.append.new.self c.make_room.new.self.entries c.in_err-append.ensures.err c.make_room.ensures.same

pub returns-in_err-room_for : goal.returns-in_err-room_for
returns-in_err-room_for g c =
    let q = err_from_is_err_and c.from_residual.result c.from_residual.ensures.1 in
    rw (q.1) (refused g (goal.at.returns-in_err-room_for g c).After-room_for c.self.inside.log c.self.inside.graph.entries refl refl)

pub returns-in_err-logged : goal.returns-in_err-logged
returns-in_err-logged g c =
    let q = err_from_is_err_and c.from_residual-in_err-logged.result c.from_residual-in_err-logged.ensures.1 in
    rw (q.1) (refused g (goal.at.returns-in_err-logged g c).After-room_for c.self.inside.log c.self.inside.graph.entries refl refl)

pub returns-in_err-kept : goal.returns-in_err-kept
returns-in_err-kept g c =
    let q = err_from_is_err_and c.from_residual-in_err-kept.result c.from_residual-in_err-kept.ensures.1 in
    rw (q.1) (refused g (goal.at.returns-in_err-kept g c).After-room_for c.self.inside.log c.self.inside.graph.entries refl refl)

pub returns-in_err-make_room : goal.returns-in_err-make_room
returns-in_err-make_room g c =
    let q = err_from_is_err_and c.from_residual-in_err-make_room.result c.from_residual-in_err-make_room.ensures.1 in
    rw (q.1) (refused g (goal.at.returns-in_err-make_room g c).After-room_for c.self.inside.log c.make_room.new.self.entries refl c.make_room.ensures.same)

pub returns-in_err-append : goal.returns-in_err-append
returns-in_err-append g c =
    let q = err_from_is_err_and c.from_residual-in_err-append.result c.from_residual-in_err-append.ensures.1 in
    rw (q.1) (refused g (goal.at.returns-in_err-append g c).After-room_for c.append.new.self c.make_room.new.self.entries c.in_err-append.ensures.err c.make_room.ensures.same)

pub invariant_of-self-2 : goal.invariant_of-self-2
invariant_of-self-2 g c = λ fine.
    let in_goal = goal.at.invariant_of-self-2 g c in
    let at = in_goal.After-room_for in
    write_usable (before g at) (after g in_goal.After-add (some g at)) c.self.inside.identities (used g at) (g.O.Oper.meaning c.self.inside.log.bounds) c.args.x (pair g at).0.bytes (done g in_goal.After-add (some g at))
    (omega (arith, c.value.ensures.there, ap (λ (s : SlotsView). s.params.objects) c.room_for.ensures.slots)) (low g at)

pub returns : goal.returns
returns g c =
    let in_goal = goal.at.returns g c in
    let at = in_goal.After-room_for in
    let slots = c.room_for.ensures.slots in
    let value = value_is g at c.value.result.now c.value.ensures.value in
    subst (λ (s : StoreView). IsWritten g.O.Oper.meaning s (view_of c.append.new.self c.set.new.self c.add.new.self.entries (c.self.inside.identities + 1) c.self.inside.broken) c.args.x) c.self.view_is (record {
      pair = (pair g at).0;
      had = (pair g at).1;
      below = omega (arith, c.value.ensures.there, ap (λ (s : SlotsView). s.params.objects) slots);
      short = omega (arith, c.value.ensures.short, ap length value, ap (λ (s : SlotsView). s.params.cap) slots);
      low = low g at;
      bounds = (used g at).in_use.bounds;
      appended = done g in_goal.After-add (some g at);
      counted = refl;
      flag = refl;
    })
