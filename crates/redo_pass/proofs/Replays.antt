-- A store that shows a world in the middle of a redo shows, with the next member replayed, the world after that step.
use Rattle.std.proofs.Common.{◌≡◌, ◌∙◌, sym, subst, ap, ℕ, ◌<◌, Bool, true, false, List, [], ◌∷◌, map, refl, arith, inl, inr, Option, Some}
use Rattle.std.specs.Prelude.{◌||◌, ◌&&◌, ◌==◌, nat_lt, nat_le}
use Rattle.std.proofs.Math.Bool.{or-false}
use Rattle.std.proofs.lemmas.Bool.{cases_eq, cases_Bool, both_ways, eq-eqb, ne_eqb, cond-true, cond-false, and_parts, ltb-true}
use Rattle.std.proofs.lemmas.List.{map-append}
use Rattle.std.proofs.lemmas.List.Folds.{list_any-append}
use Rattle.std.specs.List.{list_any}
use Rattle.explain_core.specs.History.Member.{Command, Identity}
use Rattle.oper_core.specs.Cell.{Cell}
use Rattle.oper_core.specs.State.{is_among, value_for}
use Rattle.oper_core.specs.Meaning.{Meaning}
use Rattle.formats.specs.Objects.{cell_of}
use Rattle.formats.specs.declared.params.Params.{Params}
use Rattle.stable_objects.specs.SlotsView.{AreOf}
use Rattle.install_order.specs.declared.entry.Entry.{Entry}
use Rattle.install_order.specs.Order.{Access}
use Rattle.install_order.specs.Entries.{accesses, reads_at, writes_at}
use Rattle.install_order.specs.Computed.{some_below}
use Rattle.write_graph.specs.Graph.{lsns}
use Rattle.dirty_cache.specs.Contents.{held, is_dirty}
use Rattle.dirty_cache.specs.declared.entry.Entry.{Entry as Pair}
use Rattle.explain_core.specs.History.{Member, with_lsn, reads_some, writes_some, reads_of, writes_of, effect_of, made_by, accesses_of}
use Rattle.explain_core.specs.Sound.{IsSound}
use Rattle.explain_core.specs.World.{World, step, graph_access, is_redone, plan_of}
use Rattle.explain_core.specs.World.Step.{Replay}
use Rattle.standing.specs.Standing.{stored}
use Rattle.running_store.specs.Laid.{cell_or}
use Rattle.running_store.specs.Courses.{is_identity_at, is_identity_some}
use Rattle.running_store.specs.Parts.{Volatile, ShowsVolatile, entry_of, is_identity}
use Rattle.redo_pass.specs.Replayed.{IsReplayed, with_entry}

joined : (p q g old a b : Bool) → p ≡ true → q ≡ true → g ≡ false → old ≡ (g && a) → a ≡ b → (old || ((p && b) || false)) ≡ (((q && true) || g) && a)
joined p q g old a b e f k o s = rw (o, e, f, k, s) (or-false b)

apart : (p q g old a b : Bool) → p ≡ false → q ≡ false → old ≡ (g && a) → (old || ((p && b) || false)) ≡ (((q && true) || g) && a)
apart p q g old a b e f o = rw (o, e, f) (or-false (g && a))

unjoined : (q g old a : Bool) → old ≡ (g && a) → old ≡ (((q && false) || g) && a)
unjoined true g old a o = o
unjoined false g old a o = o

swapped : (g q : Bool) → (g || (q || false)) ≡ ((q && true) || g)
swapped true true = refl
swapped true false = refl
swapped false true = refl
swapped false false = refl

members_unjoined : (g q : Bool) → g ≡ ((q && false) || g)
members_unjoined g true = refl
members_unjoined g false = refl

module _ {O : Type 0} (m : Meaning O) (w : World O) (entries : List Entry) (member : Member O) (sound : IsSound m w) (member_is : with_lsn w.history w.next ≡ Some member)
    (members : (n : ℕ) → is_among n (lsns entries) ≡ w.graph n) (same : accesses entries ≡ graph_access m w) where
  abbrev new : Entry
  new = entry_of m w.next member

  none_yet : w.graph w.next ≡ false
  none_yet = elim (cases_Bool (w.graph w.next)) [
    | inl there ↦ absurd (omega (arith, (sound.graph w.next there).1))
    | inr none ↦ none
  ]

  side_at : (n : ℕ) (side : Option (Member O) → Bool) (b old : Bool) → old ≡ (w.graph n && side (with_lsn w.history n)) → side (Some member) ≡ b
      → (old || (((w.next == n) && b) || false)) ≡ ((((n == w.next) && true) || w.graph n) && side (with_lsn w.history n))
  side_at n side b old o is = elim (cases_eq n w.next) [
    | inl e ↦ joined (w.next == n) (n == w.next) (w.graph n) old (side (with_lsn w.history n)) b (eq-eqb w.next n (sym e)) (eq-eqb n w.next e) (ap w.graph e ∙ none_yet) o (ap (λ (k : ℕ). side (with_lsn w.history k)) e ∙ ap side member_is ∙ is)
    | inr ne ↦ apart (w.next == n) (n == w.next) (w.graph n) old (side (with_lsn w.history n)) b (ne_eqb w.next n (λ q. ne (sym q))) (ne_eqb n w.next ne) o
  ]

  members_after : (some : Bool) (n : ℕ) → is_among n (lsns (with_entry some entries new)) ≡ (((n == w.next) && some) || w.graph n)
  members_after true n =
      ap (λ (l : List ℕ). is_among n l) (map-append (λ (e : Entry). e.lsn) entries (new ∷ [])) ∙ list_any-append (λ y. n == y) (lsns entries) (w.next ∷ [])
      ∙ ap (λ (b : Bool). b || ((n == w.next) || false)) (members n) ∙ swapped (w.graph n) (n == w.next)
  members_after false n = members n ∙ members_unjoined (w.graph n) (n == w.next)

  reads_after : (some : Bool) (n y : ℕ) → reads_at (with_entry some entries new) n y ≡ ((((n == w.next) && some) || w.graph n) && reads_some m (with_lsn w.history n) y)
  reads_after true n y = list_any-append (λ (e : Entry). (e.lsn == n) && is_among y e.reads) entries (new ∷ []) ∙ side_at n (λ o. reads_some m o y) (is_among y (reads_of m member)) (reads_at entries n y) (ap (λ (a : Access). a.reads n y) same) refl
  reads_after false n y = unjoined (n == w.next) (w.graph n) (reads_at entries n y) (reads_some m (with_lsn w.history n) y) (ap (λ (a : Access). a.reads n y) same)

  writes_after : (some : Bool) (n y : ℕ) → writes_at (with_entry some entries new) n y ≡ ((((n == w.next) && some) || w.graph n) && writes_some m (with_lsn w.history n) y)
  writes_after true n y = list_any-append (λ (e : Entry). (e.lsn == n) && is_among y e.writes) entries (new ∷ []) ∙ side_at n (λ o. writes_some m o y) (is_among y (writes_of m member)) (writes_at entries n y) (ap (λ (a : Access). a.writes n y) same) refl
  writes_after false n y = unjoined (n == w.next) (w.graph n) (writes_at entries n y) (writes_some m (with_lsn w.history n) y) (ap (λ (a : Access). a.writes n y) same)

  identities_after : ((n : ℕ) → list_any (λ e. (e.lsn == n) && e.identity) entries ≡ (w.graph n && is_identity_at w.history n))
      → (some : Bool) (n : ℕ) → list_any (λ e. (e.lsn == n) && e.identity) (with_entry some entries new) ≡ ((((n == w.next) && some) || w.graph n) && is_identity_at w.history n)
  identities_after known true n = list_any-append (λ (e : Entry). (e.lsn == n) && e.identity) entries (new ∷ [])
      ∙ side_at n (λ o. is_identity_some o) (is_identity member) (list_any (λ e. (e.lsn == n) && e.identity) entries) (known n) (of_member member)
    where
      of_member : (it : Member O) → is_identity_some (Some it) ≡ is_identity it
      of_member (Command op) = refl
      of_member (Identity x value) = refl
  identities_after known false n = unjoined (n == w.next) (w.graph n) (list_any (λ e. (e.lsn == n) && e.identity) entries) (is_identity_at w.history n) (known n)

module _ {O : Type 0} (m : Meaning O) (p : Params) (file : List ℕ) (before after : Volatile) (w : World O) (member : Member O) (made : List (List ℕ)) (sound : IsSound m w) (shows : ShowsVolatile m p file before w) (it : IsReplayed m w member made before after)
    (member_is : with_lsn w.history w.next ≡ Some member) (values : made ≡ effect_of m member (map (λ (x : ℕ). (w.cache x).value) (reads_of m member))) (there : (x : ℕ) → is_among x (writes_of m member) ≡ true → x < p.objects) where
  -- an object that is set is one that the member writes, and its LSNs are older
  set_writes : (x : ℕ) → is_redone m w x ≡ true → is_among x (writes_of m member) ≡ true
  set_writes x set = sym (ap (λ (o : Option (Member O)). writes_some m o x) member_is) ∙ (and_parts ((accesses_of m w.history).writes w.next x) _ set).0

  set_older : (x : ℕ) → is_redone m w x ≡ true → (w.cache x).lsn < w.next
  set_older x set = ltb-true (w.cache x).lsn w.next (and_parts (nat_lt (w.cache x).lsn w.next) (nat_le ((plan_of w.tables w.base).redo_from x) w.next) (and_parts ((accesses_of m w.history).writes w.next x) _ set).1).0

  slot_older : (x : ℕ) → is_redone m w x ≡ true → (w.slots x).lsn < w.next
  slot_older x set = elim (cases_eq (w.slots x).lsn (w.cache x).lsn) [
    | inl e ↦ omega (arith, e, set_older x set)
    | inr ne ↦ omega (arith, (sound.dirty x ne).0, set_older x set)
  ]

  cell_set : (y : ℕ) → is_redone m w y ≡ true → (step m w Replay).cache y ≡ record { lsn = w.next; value = value_for y (writes_of m member) made }
  unfolding step
  cell_set y set =
      let value : made_by m (with_lsn w.history w.next) (λ (x : ℕ). (w.cache x).value) y ≡ value_for y (writes_of m member) made =
      ap (λ (o : Option (Member O)). made_by m o (λ (x : ℕ). (w.cache x).value) y) member_is
      ∙ cond-true (is_among y (writes_of m member)) (value_for y (writes_of m member) (effect_of m member (map (λ (x : ℕ). (w.cache x).value) (reads_of m member)))) (w.cache y).value (set_writes y set)
      ∙ ap (λ (v : List (List ℕ)). value_for y (writes_of m member) v) (sym values) in
      let cell : Cell = record { lsn = w.next; value = made_by m (with_lsn w.history w.next) (λ (x : ℕ). (w.cache x).value) y } in
      cond-true (is_redone m w y) cell (w.cache y) set ∙ (λ i. record { lsn = w.next; value = value i })

  cell_left : (y : ℕ) → is_redone m w y ≡ false → (step m w Replay).cache y ≡ w.cache y
  unfolding step
  cell_left y left =
      let cell : Cell = record { lsn = w.next; value = made_by m (with_lsn w.history w.next) (λ (x : ℕ). (w.cache x).value) y } in
      cond-false (is_redone m w y) cell (w.cache y) left

  held_set : (y : ℕ) → is_redone m w y ≡ true → held after.objects.cache y ≡ Some (record { lsn = w.next; bytes = value_for y (writes_of m member) made })
  held_set y set = it.held y ∙ cond-true (is_redone m w y) (Some (record { lsn = w.next; bytes = value_for y (writes_of m member) made })) (held before.objects.cache y) set

  held_left : (y : ℕ) → is_redone m w y ≡ false → held after.objects.cache y ≡ held before.objects.cache y
  held_left y left = it.held y ∙ cond-false (is_redone m w y) (Some (record { lsn = w.next; bytes = value_for y (writes_of m member) made })) (held before.objects.cache y) left

  dirty_set : (y : ℕ) → is_redone m w y ≡ true → is_dirty after.objects.cache y ≡ true
  dirty_set y set = it.dirty y ∙ ap (λ (b : Bool). b || is_dirty before.objects.cache y) set

  dirty_left : (y : ℕ) → is_redone m w y ≡ false → is_dirty after.objects.cache y ≡ is_dirty before.objects.cache y
  dirty_left y left = it.dirty y ∙ ap (λ (b : Bool). b || is_dirty before.objects.cache y) left

  pub store_replayed : ShowsVolatile m p file after (step m w Replay)
  unfolding step
  store_replayed = record {
    params = ap (λ s. s.params) it.slots ∙ shows.params;
    laid = record {
      slots = subst (λ s. AreOf s file) (sym it.slots) shows.laid.slots;
      clean = λ y pair clean had. elim (cases_Bool (is_redone m w y)) [
        | inl set ↦ absurd (both_ways _ clean (dirty_set y set))
        | inr left ↦ ap (λ s. cell_of y file) it.slots ∙ shows.laid.clean y pair (sym (dirty_left y left) ∙ clean) (sym (held_left y left) ∙ had)
      ];
    };
    below = λ y pair had. elim (cases_Bool (is_redone m w y)) [
      | inl set ↦ there y (set_writes y set)
      | inr left ↦ shows.below y pair (sym (held_left y left) ∙ had)
    ];
    slots = shows.slots;
    cache = λ y. elim (cases_Bool (is_redone m w y)) [
      | inl set ↦ ap (λ (o : Option Pair). cell_or o (stored p file y)) (held_set y set) ∙ sym (cell_set y set)
      | inr left ↦ ap (λ (o : Option Pair). cell_or o (stored p file y)) (held_left y left) ∙ shows.cache y ∙ sym (cell_left y left)
    ];
    dirty = λ y is_d. elim (cases_Bool (is_redone m w y)) [
      | inl set ↦ λ same. absurd (omega (arith, slot_older y set, same, ap (λ (c : Cell). c.lsn) (cell_set y set)))
      | inr left ↦ λ same. shows.dirty y (sym (dirty_left y left) ∙ is_d) (same ∙ ap (λ (c : Cell). c.lsn) (cell_left y left))
    ];
    members = λ n. ap (λ (l : List Entry). is_among n (lsns l)) it.entries ∙ members_after m w before.entries member sound member_is shows.members shows.accesses (some_below m.objects (is_redone m w)) n;
    accesses = ap accesses it.entries ∙ (λ i. record {
      reads = λ n y. reads_after m w before.entries member sound member_is shows.members shows.accesses (some_below m.objects (is_redone m w)) n y i;
      writes = λ n y. writes_after m w before.entries member sound member_is shows.members shows.accesses (some_below m.objects (is_redone m w)) n y i;
    });
    identities = λ n. ap (λ (l : List Entry). list_any (λ e. (e.lsn == n) && e.identity) l) it.entries
        ∙ identities_after m w before.entries member sound member_is shows.members shows.accesses shows.identities (some_below m.objects (is_redone m w)) n;
  }
