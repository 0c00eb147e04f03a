-- What a method of a store that makes no device call leaves: a member that is appended, a redone record, a checkpoint.
use Rattle.std.proofs.Common.{◌≡◌, ◌∙◌, sym, subst, ap, ℕ, ◌+◌, ◌<◌, ◌≤◌, Bool, true, false, if◌then◌else◌, List, [], ◌∷◌, ◌++◌, refl, arith, inl, inr, Option, Some}
use Rattle.std.specs.Prelude.{All, ◌^◌, ◌||◌, ◌&&◌}
use Rattle.std.proofs.lemmas.Bool.{and_parts, both_ways, cases_Bool, cond-true, cond-false}
use Rattle.std.proofs.lemmas.List.{map-append}
use Rattle.std.proofs.lemmas.List.Elements.{All-cons, All-nil, All-push, All-weaker}
use Rattle.oper_core.specs.Meaning.{Meaning}
use Rattle.oper_core.specs.State.{is_among, value_for}
use Rattle.formats.specs.Objects.{bounds_of}
use Rattle.formats.specs.declared.params.Params.{Params}
use Rattle.log_records.specs.RecordLog.{RecordLogView}
use Rattle.stable_objects.specs.SlotsView.{SlotsView, lsn_in}
use Rattle.install_order.specs.declared.entry.Entry.{Entry}
use Rattle.write_graph.specs.Graph.{lsns}
use Rattle.dirty_cache.specs.Contents.{held, is_dirty}
use Rattle.dirty_cache.specs.declared.entry.Entry.{Entry as Pair}
use Rattle.explain_core.specs.History.{Member, writes_of}
use Rattle.explain_core.specs.History.Member.{Command, Identity}
use Rattle.running_store.specs.Laid.Among.{all_among, slot_most}
use Rattle.running_store.specs.Calls.Entered.{IsEntered}
use Rattle.running_store.specs.Laid.{object_lsn, lsn_or}
use Rattle.running_store.specs.Parts.{AreInUse, IsAppended, Parts, Volatile, entry_of}
use Rattle.running_store.specs.Parts.Reads.{untaken_in_use}
use Rattle.running_store.specs.StoreView.{IsUsable}
use Rattle.running_store.specs.Taking.{ArePartsInUse}
use Rattle.running_store.specs.Parts.Unchanged.{IsUntaken}

-- a pair that is set is the one that is held
lsn_of : (lsn : ℕ) (bytes : List ℕ) (o : Option Pair) (pair : Pair) → o ≡ Some (record { lsn = lsn; bytes = bytes }) → o ≡ Some pair → pair.lsn ≡ lsn
lsn_of lsn bytes o pair set had = ap (λ (h : Option Pair). lsn_or h 0) (sym had ∙ set)

-- LSNs below the next one, and another after them
above_more : (next : ℕ) (before after : List Entry) (e : Entry) → after ≡ before ++ e ∷ [] → All (λ n. n < next) (lsns before) → e.lsn < next → All (λ n. n < next) (lsns after)
above_more next before after e same all low = subst (λ (l : List ℕ). All (λ n. n < next) l) (sym (ap lsns same ∙ map-append (λ (f : Entry). f.lsn) before (e ∷ [])))
    (All-push (λ n. n < next) (lsns before) e.lsn all low)

-- Objects of a store in use, of which some get new pairs under an LSN that is below the next one and above their own.
set_in_use : (p : Params) (next : ℕ) (before after : Volatile) (lsn : ℕ) (set : ℕ → Bool) (bytes : ℕ → List ℕ) → AreInUse p next before → after.objects.slots ≡ before.objects.slots → lsn < next → All (λ n. n < next) (lsns after.entries)
    → ((x : ℕ) → set x ≡ true → lsn_in before.objects.slots x < lsn)
    → ((x : ℕ) → set x ≡ true → held after.objects.cache x ≡ Some (record { lsn = lsn; bytes = bytes x })) → ((x : ℕ) → set x ≡ false → held after.objects.cache x ≡ held before.objects.cache x)
    → ((x : ℕ) → is_dirty after.objects.cache x ≡ (set x || is_dirty before.objects.cache x)) → AreInUse p next after
set_in_use p next before after lsn set bytes used slots low above early new old dirties = record {
  params = ap (λ (s : SlotsView). s.params) slots ∙ used.params;
  low = used.low;
  above = above;
  dirty = λ x pair dirty had. elim (cases_Bool (set x)) [
    | inl is ↦
        let own = lsn_of lsn (bytes x) (held after.objects.cache x) pair (new x is) had in
        (omega (arith, early x is, own, ap (λ (s : SlotsView). lsn_in s x) slots), omega (arith, own, low))
    | inr left ↦
        let was = used.dirty x pair (sym (dirties x ∙ ap (λ (b : Bool). b || is_dirty before.objects.cache x) left) ∙ dirty) (sym (old x left) ∙ had) in
        (omega (arith, was.0, ap (λ (s : SlotsView). lsn_in s x) slots), was.1)
  ];
  clean = λ x pair clean had. elim (cases_Bool (set x)) [
    | inl is ↦ absurd (both_ways _ clean (dirties x ∙ ap (λ (b : Bool). b || is_dirty before.objects.cache x) is))
    | inr left ↦
        used.clean x pair (sym (dirties x ∙ ap (λ (b : Bool). b || is_dirty before.objects.cache x) left) ∙ clean) (sym (old x left) ∙ had) ∙ ap (λ (s : SlotsView). lsn_in s x) (sym slots)
  ];
}

-- a greater next LSN
in_use_later : (p : Params) (next later : ℕ) (it : Volatile) → AreInUse p next it → next ≤ later → later ≤ 2 ^ 62 → AreInUse p later it
in_use_later p next later it used more low = record {
  params = used.params;
  low = low;
  above = All-weaker (λ n. n < next) (λ n. n < later) (λ n lt. omega (arith, lt, more)) (lsns it.entries) used.above;
  dirty = λ x pair dirty had. let was = used.dirty x pair dirty had in (was.0, omega (arith, was.1, more));
  clean = used.clean;
}

module _ (before after : Parts) (used : ArePartsInUse before) where
  -- parts in use are in use after a member is appended
  appended_in_use : {O : Type 0} (m : Meaning O) (member : Member O) (made : List (List ℕ)) → IsAppended m before after member made → All (λ x. x < before.volatile.objects.slots.params.objects) (writes_of m member) → before.log.next < 2 ^ 62 → ArePartsInUse after
  appended_in_use m member made done below low =
      let next : after.log.next ≡ before.log.next + 1 = ap (λ (r : RecordLogView). r.next) done.log in
      let params : after.volatile.objects.slots.params ≡ before.volatile.objects.slots.params = ap (λ (s : SlotsView). s.params) done.slots in
      let lsn = before.log.next in
      let later = in_use_later before.volatile.objects.slots.params lsn after.log.next before.volatile used.store (omega (arith, next)) (omega (arith, next, low)) in
      record {
        bounds = ap (λ (r : RecordLogView). r.bounds) done.log ∙ used.bounds ∙ ap bounds_of (sym params);
        store = subst (λ (q : Params). AreInUse q after.log.next after.volatile) (sym params) (set_in_use before.volatile.objects.slots.params after.log.next before.volatile after.volatile lsn (λ x. is_among x (writes_of m member)) (λ x. value_for x (writes_of m member) made)
            later done.slots (omega (arith, next)) (above_more after.log.next before.volatile.entries after.volatile.entries (entry_of m lsn member) done.entries later.above (omega (arith, next)))
            (λ x among. used.early x (all_among (λ y. y < before.volatile.objects.slots.params.objects) (writes_of m member) x below among))
            (λ x among. done.held x ∙ cond-true (is_among x (writes_of m member)) _ _ among) (λ x left. done.held x ∙ cond-false (is_among x (writes_of m member)) _ _ left) done.dirty);
        early = λ x below.
            let was = used.early x (subst (λ (q : Params). x < q.objects) params below) in
            omega (arith, was, ap (λ (s : SlotsView). lsn_in s x) done.slots, next);
      }

  -- and after a redone record is entered
  entered_in_use : (due : List ℕ) (e : Entry) (made : List (List ℕ)) → IsEntered before.volatile after.volatile due e made → after.log ≡ before.log → e.lsn < before.log.next → All (λ x. object_lsn before.volatile.objects x < e.lsn) due → ArePartsInUse after
  entered_in_use due e made done log low later =
      let next : after.log.next ≡ before.log.next = ap (λ (r : RecordLogView). r.next) log in
      let params : after.volatile.objects.slots.params ≡ before.volatile.objects.slots.params = ap (λ (s : SlotsView). s.params) done.slots in
      let set : ℕ → Bool = λ x. is_among x due && is_among x e.writes in
      record {
        bounds = ap (λ (r : RecordLogView). r.bounds) log ∙ used.bounds ∙ ap bounds_of (sym params);
        store = subst (λ (n : ℕ). AreInUse after.volatile.objects.slots.params n after.volatile) (sym next) (subst (λ (q : Params). AreInUse q before.log.next after.volatile) (sym params)
            (set_in_use before.volatile.objects.slots.params before.log.next before.volatile after.volatile e.lsn set (λ x. value_for x e.writes made) used.store done.slots low
            (above_more before.log.next before.volatile.entries after.volatile.entries e done.entries used.store.above low)
            (λ x is. let lower = all_among (λ y. object_lsn before.volatile.objects y < e.lsn) due x later (and_parts (is_among x due) (is_among x e.writes) is).0 in
            omega (arith, lower, slot_most before.volatile.objects.slots.params before.log.next before.volatile x used.store))
            (λ x is. let both = and_parts (is_among x due) (is_among x e.writes) is in done.held x ∙ cond-true (is_among x due) _ _ both.0 ∙ cond-true (is_among x e.writes) _ _ both.1)
            (λ x left. done.held x ∙ unset_held (is_among x due) (is_among x e.writes) _ _ left) done.dirty));
        early = λ x below.
            let was = used.early x (subst (λ (q : Params). x < q.objects) params below) in
            omega (arith, was, ap (λ (s : SlotsView). lsn_in s x) done.slots, next);
      }
    where
      unset_held : (a b : Bool) (new old : Option Pair) → (a && b) ≡ false → (if a then (if b then new else old) else old) ≡ old
      unset_held true true new old is = cc
      unset_held true false new old is = refl
      unset_held false b new old is = refl

-- A store that is not broken may be used after such a call.
module _ (before after : Parts) (identities : ℕ) (used : IsUsable before identities) where
  pub left_usable : IsUntaken before after → IsUsable after identities
  left_usable left = record { in_use = untaken_in_use before after left used.in_use; counted = omega (arith, used.counted, ap (λ (r : RecordLogView). r.next) left.log) }

  pub command_usable : {O : Type 0} (m : Meaning O) (op : O) (made : List (List ℕ)) → IsAppended m before after (Command op) made → All (λ x. x < before.volatile.objects.slots.params.objects) (m.writes op) → before.log.next < 2 ^ 62 → IsUsable after identities
  command_usable m op made done below low = record { in_use = appended_in_use before after used.in_use m (Command op) made done below low; counted = omega (arith, used.counted, ap (λ (r : RecordLogView). r.next) done.log) }

  -- an identity write is counted
  pub write_usable : {O : Type 0} (m : Meaning O) (x : ℕ) (bytes : List ℕ) → IsAppended m before after (Identity x bytes) (bytes ∷ []) → x < before.volatile.objects.slots.params.objects → before.log.next < 2 ^ 62 → IsUsable after (identities + 1)
  write_usable m x bytes done below low = record {
    in_use = appended_in_use before after used.in_use m (Identity x bytes) (bytes ∷ []) done (All-cons (λ y. y < before.volatile.objects.slots.params.objects) x [] below (All-nil (λ y. y < before.volatile.objects.slots.params.objects))) low;
    counted = omega (arith, used.counted, ap (λ (r : RecordLogView). r.next) done.log);
  }

  pub entry_usable : (due : List ℕ) (e : Entry) (made : List (List ℕ)) → IsEntered before.volatile after.volatile due e made → after.log ≡ before.log → e.lsn < before.log.next → All (λ x. object_lsn before.volatile.objects x < e.lsn) due → IsUsable after identities
  entry_usable due e made done same low later = record { in_use = entered_in_use before after used.in_use due e made done same low later; counted = omega (arith, used.counted, ap (λ (r : RecordLogView). r.next) same) }
