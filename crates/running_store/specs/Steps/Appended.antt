-- Parts that show a world show, with a member appended, the world after that step.
use Rattle.std.proofs.Common.{◌≡◌, ◌∙◌, sym, subst, ap, ℕ, zero, suc, ◌+◌, ◌-◌, ◌<◌, ◌≤◌, Bool, true, false, List, [], ◌∷◌, ◌++◌, length, map, take, drop, refl, arith, inl, inr, Option, Some, length-append, length-take, length-drop}
use Rattle.std.specs.Prelude.{IsTrue, ◌||◌, ◌&&◌, ◌==◌, slice_get, ◌^◌}
use Rattle.std.proofs.lemmas.Bool.{cases_eq, cases_Bool, both_ways, eq-eqb, ne_eqb, cond-true, cond-false}
use Rattle.std.proofs.lemmas.List.{take-append-le, drop-append-le, map-append}
use Rattle.std.proofs.lemmas.List.Folds.{list_any-append}
use Rattle.disk_model.specs.Disk.{Disk}
use Rattle.disk_model.specs.declared.machine.FileNo.TheVariants.{Objects}
use Rattle.oper_core.specs.Cell.{Cell}
use Rattle.oper_core.specs.State.{is_among, value_for}
use Rattle.oper_core.specs.Meaning.{Meaning}
use Rattle.formats.specs.Records.{IsRecord, IsPlaced, next_behind}
use Rattle.formats.specs.declared.params.Params.{Params}
use Rattle.log_records.specs.RecordLog.{RecordLogView}
use Rattle.log_records.specs.RecordLaws.{keeps_append}
use Rattle.install_order.specs.declared.entry.Entry.{Entry}
use Rattle.install_order.specs.Order.{Access}
use Rattle.install_order.specs.Entries.{accesses, reads_at, writes_at}
use Rattle.write_graph.specs.Graph.{lsns}
use Rattle.dirty_cache.specs.Contents.{held, is_dirty}
use Rattle.dirty_cache.specs.declared.entry.Entry.{Entry as Pair}
use Rattle.stable_objects.specs.SlotsView.{SlotsView, AreOf}
use Rattle.explain_core.specs.History.{Member, with_lsn, reads_some, writes_some, reads_of, writes_of, effect_of, made_by}
use Rattle.explain_core.specs.History.Member.{Command, Identity}
use Rattle.explain_core.specs.World.{World, Starts, step, end_of, graph_access}
use Rattle.explain_core.specs.World.Step.{Append}
use Rattle.explain_core.specs.Sound.{IsSound}
use Rattle.standing.specs.Members.{members_of, tables_in, next-members, members-append, tables-append}
use Rattle.standing.specs.Standing.{stored}
use Rattle.std.specs.List.{list_any}
use Rattle.running_store.specs.Courses.{is_identity_some, is_identity_at}
use Rattle.running_store.specs.Laid.{cell_or}
use Rattle.running_store.specs.Parts.{Parts, ShowsVolatile, ShowsLog, Shows, IsAppended, record_of, entry_of, is_identity}

-- a member as a record is one member and no checkpoint, and is right in its place
module _ {O : Type 0} where
  member_is : (lsn : ℕ) (member : Member O) → members_of (record_of lsn member ∷ []) ≡ member ∷ []
  member_is lsn (Command op) = refl
  member_is lsn (Identity x value) = refl

  no_table : (lsn : ℕ) (member : Member O) → tables_in (record_of lsn member ∷ []) ≡ []
  no_table lsn (Command op) = refl
  no_table lsn (Identity x value) = refl

  pub behind_member : (next lsn : ℕ) (member : Member O) → next_behind next (record_of lsn member) ≡ next + 1
  behind_member next lsn (Command op) = refl
  behind_member next lsn (Identity x value) = refl

  pub place_of : (m : Meaning O) (base next : ℕ) (member : Member O) → next < 2 ^ 62 → IsPlaced m base next (record_of next member)
  place_of m base next (Command op) low = (refl, low)
  place_of m base next (Identity x value) low = (refl, low)

-- the base is at most one more than the stable members
pub base_below : {O : Type 0} (m : Meaning O) (w : World O) → IsSound m w → w.base - 1 ≤ w.forced
base_below m w s = s.installed (w.base - 1) (s.below_base (w.base - 1) (omega (arith, s.base)))

-- the LSN after the history is the next one of the log
pub next_lsn : {O : Type 0} (m : Meaning O) (p : Params) (d : Disk) (it : Parts) (w : World O) → Shows m p d it w → it.log.next ≡ end_of w
next_lsn m p d it w s =
    let l = s.log in
    let all : length (members_of (l.stable ++ l.pending)) ≡ length (members_of l.stable) + length (members_of l.pending) = ap length (members-append l.stable l.pending) ∙ length-append (members_of l.stable) (members_of l.pending) in
    omega (
      arith,
      l.keeps.next_is,
      next-members it.log.log.header.base (l.stable ++ l.pending),
      all,
      ap length l.forced,
      ap length l.waiting,
      base_below m w s.running.sound,
      length-drop (w.base - 1) (take w.forced w.history),
      length-take w.forced w.history,
      length-drop w.forced w.history,
      s.running.sound.forced,
      l.base,
      s.running.sound.base,
    )

last_at : {X : Type 0} (h : List X) (x : X) → slice_get (h ++ x ∷ []) (length h) ≡ Some x
last_at [] x = refl
last_at (y ∷ h) x = last_at h x

front_at : {X : Type 0} (h t : List X) (i : ℕ) → i < length h → slice_get (h ++ t) i ≡ slice_get h i
front_at [] t i lt = absurd (omega arith)
front_at (x ∷ xs) t zero lt = refl
front_at (x ∷ xs) t (suc i) lt = front_at xs t i (omega arith)

with_lsn_last : {O : Type 0} (h : List (Member O)) (x : Member O) (n : ℕ) → n ≡ length h + 1 → with_lsn (h ++ x ∷ []) n ≡ Some x
with_lsn_last h x zero e = absurd (omega arith)
with_lsn_last {O} h x (suc n) e = let q : n ≡ length h = omega arith in subst (λ (k : ℕ). slice_get (h ++ x ∷ []) k ≡ Some x) (sym q) (last_at h x)

with_lsn_front : {O : Type 0} (h : List (Member O)) (x : Member O) (n : ℕ) → n ≤ length h → with_lsn (h ++ x ∷ []) n ≡ with_lsn h n
with_lsn_front h x zero le = refl
with_lsn_front h x (suc n) le = front_at h (x ∷ []) n (omega arith)

or_false : (b : Bool) → (b || false) ≡ b
or_false true = refl
or_false false = refl

join_new : (p q g old a b : Bool) → p ≡ true → q ≡ true → g ≡ false → old ≡ (g && a) → (old || ((p && b) || false)) ≡ ((q || g) && b)
join_new p q g old a b e f k o = rw (o, e, f, k) (or_false b)

join_old : (p q g old a b c : Bool) → p ≡ false → q ≡ false → (g ≡ true → a ≡ c) → old ≡ (g && a) → (old || ((p && b) || false)) ≡ ((q || g) && c)
join_old p q true old a b c e f k o = rw (o, e, f) (or_false a ∙ k refl)
join_old p q false old a b c e f k o = rw (o, e, f) refl

swapped : (a b c d : Bool) → a ≡ b → c ≡ d → (a || (c || false)) ≡ (d || b)
swapped true true true true e f = refl
swapped true true true false e f = cc
swapped true true false true e f = cc
swapped true true false false e f = refl
swapped true false c d e f = cc
swapped false true c d e f = cc
swapped false false true true e f = refl
swapped false false true false e f = cc
swapped false false false true e f = cc
swapped false false false false e f = refl

-- the graph with the entry of a member
module _ {O : Type 0} (m : Meaning O) (w : World O) (entries : List Entry) (next : ℕ) (member : Member O) (sound : IsSound m w)
    (members : (n : ℕ) → is_among n (lsns entries) ≡ w.graph n) (same : accesses entries ≡ graph_access m w) (here : next ≡ end_of w) where
  abbrev new : Entry
  new = entry_of m next member

  none_yet : (n : ℕ) → n ≡ end_of w → w.graph n ≡ false
  none_yet n e = elim (cases_Bool (w.graph n)) [
    | inl there ↦ absurd (omega (arith, (sound.graph n there).1, sound.next.1, e))
    | inr none ↦ none
  ]

  pub graph_members : (n : ℕ) → is_among n (lsns (entries ++ new ∷ [])) ≡ ((n == end_of w) || w.graph n)
  graph_members n =
      let split : is_among n (lsns (entries ++ new ∷ [])) ≡ (is_among n (lsns entries) || ((n == next) || false)) =
      ap (λ (l : List ℕ). is_among n l) (map-append (λ (e : Entry). e.lsn) entries (new ∷ [])) ∙ list_any-append (λ y. n == y) (lsns entries) (next ∷ []) in
      split ∙ swapped (is_among n (lsns entries)) (w.graph n) (n == next) (n == end_of w) (members n) (ap (λ k. n == k) here)

  member_at : (n y : ℕ) (side : Option (Member O) → Bool) (b : Bool) (old : Bool) → old ≡ (w.graph n && side (with_lsn w.history n)) → side (Some member) ≡ b
      → (old || (((next == n) && b) || false)) ≡ (((n == end_of w) || w.graph n) && side (with_lsn (w.history ++ member ∷ []) n))
  member_at n y side b old o is = elim (cases_eq n (end_of w)) [
    | inl e ↦ subst (λ (c : Bool). (old || (((next == n) && b) || false)) ≡ (((n == end_of w) || w.graph n) && c)) (sym (ap side (with_lsn_last w.history member n e) ∙ is))
        (join_new (next == n) (n == end_of w) (w.graph n) old (side (with_lsn w.history n)) b (eq-eqb next n (here ∙ sym e)) (eq-eqb n (end_of w) e) (none_yet n e) o)
    | inr ne ↦ join_old (next == n) (n == end_of w) (w.graph n) old (side (with_lsn w.history n)) b (side (with_lsn (w.history ++ member ∷ []) n)) (ne_eqb next n (λ q. ne (sym q ∙ here))) (ne_eqb n (end_of w) ne)
        (λ there. ap side (sym (with_lsn_front w.history member n (omega (arith, (sound.graph n there).1, sound.next.1, ne))))) o
  ]

  pub graph_accesses : accesses (entries ++ new ∷ []) ≡ graph_access m (step m w (Append member))
  unfolding step
  graph_accesses =
      let reads : (n y : ℕ) → reads_at (entries ++ new ∷ []) n y ≡ (((n == end_of w) || w.graph n) && reads_some m (with_lsn (w.history ++ member ∷ []) n) y) =
      λ n y. list_any-append (λ (e : Entry). (e.lsn == n) && is_among y e.reads) entries (new ∷ []) ∙ member_at n y (λ o. reads_some m o y) (is_among y (reads_of m member)) (reads_at entries n y) (ap (λ (a : Access). a.reads n y) same) refl in
      let writes : (n y : ℕ) → writes_at (entries ++ new ∷ []) n y ≡ (((n == end_of w) || w.graph n) && writes_some m (with_lsn (w.history ++ member ∷ []) n) y) =
      λ n y. list_any-append (λ (e : Entry). (e.lsn == n) && is_among y e.writes) entries (new ∷ []) ∙ member_at n y (λ o. writes_some m o y) (is_among y (writes_of m member)) (writes_at entries n y) (ap (λ (a : Access). a.writes n y) same) refl in
      λ i. record { reads = λ n y. reads n y i; writes = λ n y. writes n y i }

  pub graph_identities : ((n : ℕ) → list_any (λ e. (e.lsn == n) && e.identity) entries ≡ (w.graph n && is_identity_at w.history n))
      → (n : ℕ) → list_any (λ e. (e.lsn == n) && e.identity) (entries ++ new ∷ []) ≡ (((n == end_of w) || w.graph n) && is_identity_at (w.history ++ member ∷ []) n)
  graph_identities known n =
      list_any-append (λ (e : Entry). (e.lsn == n) && e.identity) entries (new ∷ [])
      ∙ member_at n 0 (λ o. is_identity_some o) (is_identity member) (list_any (λ e. (e.lsn == n) && e.identity) entries) (known n) (of_member member)
    where
      of_member : (member : Member O) → is_identity_some (Some member) ≡ is_identity member
      of_member (Command op) = refl
      of_member (Identity x value) = refl

-- what is appended, and that it is
module _ {O : Type 0} (m : Meaning O) (p : Params) (d : Disk) (before after : Parts) (member : Member O) (made : List (List ℕ)) (w : World O) (shows : Shows m p d before w) (it : IsAppended m before after member made)
    (values : made ≡ effect_of m member (map (λ (x : ℕ). (w.cache x).value) (reads_of m member))) (there : (x : ℕ) → IsTrue (is_among x (writes_of m member)) → x < p.objects) where
  lsn : before.log.next ≡ end_of w
  lsn = next_lsn m p d before w shows

  -- the slot's LSN is below the new LSN
  older : (y : ℕ) → (w.slots y).lsn < end_of w
  older y = elim (shows.running.sound.slots.origin y) [
    | inl z ↦ omega (arith, z.0)
    | inr g ↦ omega (arith, shows.running.sound.installed _ g.0, shows.running.sound.forced)
  ]

  -- the cell after it: set, or as it was
  cell_set : (y : ℕ) → is_among y (writes_of m member) ≡ true → (step m w (Append member)).cache y ≡ record { lsn = end_of w; value = value_for y (writes_of m member) made }
  unfolding step
  cell_set y is =
      let value : made_by m (Some member) (λ (x : ℕ). (w.cache x).value) y ≡ value_for y (writes_of m member) made =
      cond-true (is_among y (writes_of m member)) (value_for y (writes_of m member) (effect_of m member (map (λ (x : ℕ). (w.cache x).value) (reads_of m member)))) (w.cache y).value is
      ∙ ap (λ (v : List (List ℕ)). value_for y (writes_of m member) v) (sym values) in
      let cell : Cell = record { lsn = end_of w; value = made_by m (Some member) (λ (x : ℕ). (w.cache x).value) y } in
      cond-true (is_among y (writes_of m member)) cell (w.cache y) is ∙ (λ i. record { lsn = end_of w; value = value i })

  cell_left : (y : ℕ) → is_among y (writes_of m member) ≡ false → (step m w (Append member)).cache y ≡ w.cache y
  unfolding step
  cell_left y is = cond-false (is_among y (writes_of m member)) _ _ is

  held_set : (y : ℕ) → is_among y (writes_of m member) ≡ true → held after.volatile.objects.cache y ≡ Some (record { lsn = before.log.next; bytes = value_for y (writes_of m member) made })
  held_set y is = it.held y ∙ cond-true (is_among y (writes_of m member)) _ _ is

  held_left : (y : ℕ) → is_among y (writes_of m member) ≡ false → held after.volatile.objects.cache y ≡ held before.volatile.objects.cache y
  held_left y is = it.held y ∙ cond-false (is_among y (writes_of m member)) _ _ is

  dirty_set : (y : ℕ) → is_among y (writes_of m member) ≡ true → is_dirty after.volatile.objects.cache y ≡ true
  dirty_set y is = it.dirty y ∙ ap (λ (b : Bool). b || is_dirty before.volatile.objects.cache y) is

  dirty_left : (y : ℕ) → is_among y (writes_of m member) ≡ false → is_dirty after.volatile.objects.cache y ≡ is_dirty before.volatile.objects.cache y
  dirty_left y is = it.dirty y ∙ ap (λ (b : Bool). b || is_dirty before.volatile.objects.cache y) is

  pub store_appended : ShowsVolatile m p (d.reads Objects) after.volatile (step m w (Append member))
  unfolding step
  store_appended = record {
    params = ap (λ (s : SlotsView). s.params) it.slots ∙ shows.store.params;
    laid = record {
      slots = subst (λ (s : SlotsView). AreOf s (d.reads Objects)) (sym it.slots) shows.store.laid.slots;
      clean = λ y pair clean had. elim (cases_Bool (is_among y (writes_of m member))) [
        | inl is ↦ absurd (both_ways _ clean (dirty_set y is))
        | inr left ↦ shows.store.laid.clean y pair (sym (dirty_left y left) ∙ clean) (sym (held_left y left) ∙ had)
      ];
    };
    below = λ y pair had. elim (cases_Bool (is_among y (writes_of m member))) [
      | inl is ↦ there y is
      | inr left ↦ shows.store.below y pair (sym (held_left y left) ∙ had)
    ];
    slots = shows.store.slots;
    cache = λ y. elim (cases_Bool (is_among y (writes_of m member))) [
      | inl is ↦ ap (λ (o : Option Pair). cell_or o (stored p (d.reads Objects) y)) (held_set y is) ∙ (λ i. record { lsn = lsn i; value = value_for y (writes_of m member) made }) ∙ sym (cell_set y is)
      | inr left ↦ ap (λ (o : Option Pair). cell_or o (stored p (d.reads Objects) y)) (held_left y left) ∙ shows.store.cache y ∙ sym (cell_left y left)
    ];
    dirty = λ y is_d. elim (cases_Bool (is_among y (writes_of m member))) [
      | inl is ↦ λ same. absurd (omega (arith, older y, same, ap (λ (c : Cell). c.lsn) (cell_set y is)))
      | inr left ↦ λ same. shows.store.dirty y (sym (dirty_left y left) ∙ is_d) (same ∙ ap (λ (c : Cell). c.lsn) (cell_left y left))
    ];
    members = λ n. ap (λ (l : List Entry). is_among n (lsns l)) it.entries ∙ graph_members m w before.volatile.entries before.log.next member shows.running.sound shows.store.members shows.store.accesses lsn n;
    accesses = ap accesses it.entries ∙ graph_accesses m w before.volatile.entries before.log.next member shows.running.sound shows.store.members shows.store.accesses lsn;
    identities = λ n. ap (λ (l : List Entry). list_any (λ e. (e.lsn == n) && e.identity) l) it.entries
        ∙ graph_identities m w before.volatile.entries before.log.next member shows.running.sound shows.store.members shows.store.accesses lsn shows.store.identities n;
  }

  log_appended : IsRecord m (record_of before.log.next member) → before.log.next < 2 ^ 62 → ShowsLog m d after.log (step m w (Append member))
  unfolding step
  log_appended grammar low =
      let l = shows.log in
      let new = record_of before.log.next member in
      record {
        stable = l.stable;
        pending = l.pending ++ new ∷ [];
        keeps = keeps_append m d before.log after.log l.stable l.pending new l.keeps grammar (place_of m before.log.log.header.base before.log.next member low)
            (ap (λ (r : RecordLogView). r.log.active) it.log) (ap (λ (r : RecordLogView). r.log.header) it.log) (ap (λ (r : RecordLogView). r.log.end) it.log)
            (ap (λ (r : RecordLogView). r.log.pending) it.log) (ap (λ (r : RecordLogView). r.next) it.log ∙ sym (behind_member before.log.next before.log.next member))
            (ap (λ (r : RecordLogView). r.accepted) it.log) (ap (λ (r : RecordLogView). r.forced) it.log);
        base = ap (λ (r : RecordLogView). r.log.header.base) it.log ∙ l.base;
        commands_before = ap (λ (r : RecordLogView). r.log.header.commands) it.log ∙ l.commands_before;
        forced = l.forced ∙ sym (ap (λ (h : List (Member O)). drop (w.base - 1) h) (take-append-le w.forced w.history (member ∷ []) shows.running.sound.forced));
        waiting = members-append l.pending (new ∷ []) ∙ ap (λ (h : List (Member O)). members_of l.pending ++ h) (member_is before.log.next member)
            ∙ ap (λ (h : List (Member O)). h ++ member ∷ []) l.waiting ∙ sym (drop-append-le w.forced w.history (member ∷ []) shows.running.sound.forced);
        tables = l.tables;
        pending_tables = tables-append l.pending (new ∷ []) ∙ ap (λ (t : List Starts). t ++ tables_in l.pending) (no_table before.log.next member) ∙ l.pending_tables;
      }

  -- parts and files show the world after the append
  pub appended_shows : IsRecord m (record_of before.log.next member) → before.log.next < 2 ^ 62 → IsSound m (step m w (Append member)) → Shows m p d after (step m w (Append member))
  unfolding step
  appended_shows grammar low sound = record {
    told = shows.told;
    running = record {
      sound = sound;
      live = omega (arith, shows.running.live, length-append w.history (member ∷ []));
      alone = shows.running.alone;
    };
    bounds = ap (λ (r : RecordLogView). r.bounds) it.log ∙ shows.bounds;
    store = store_appended;
    log = log_appended grammar low;
  }
