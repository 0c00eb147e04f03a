-- What the replay of a member enters in a store that shows a world.
use Rattle.std.proofs.Common.{◌≡◌, ◌∙◌, sym, subst, ap, ℕ, ◌<◌, ◌≤◌, ◌&&◌, ◌||◌, ◌==◌, nat_lt, nat_le, if◌then◌else◌, Bool, true, false, List, [], ◌∷◌, length, map, refl, arith, inl, inr, Option, Some, None}
use Rattle.std.specs.Prelude.{All}
use Rattle.std.proofs.lemmas.Bool.{cases_Bool, both_ways, and_parts, ltb-true, cond-true, cond-false, eq-eqb, eqb-true, false_from_ne_true}
use Rattle.std.proofs.lemmas.List.Elements.{All-head, All-tail}
use Rattle.std.proofs.lemmas.Map.Views.{All-from_any}
use Rattle.std.specs.Cmp.{nat_eq_equiv}
use Rattle.oper_core.specs.Meaning.{Meaning}
use Rattle.oper_core.specs.State.{is_among, value_for}
use Rattle.dirty_page_table.specs.declared.table.DirtyPageTable.{DirtyPageTable}
use Rattle.dirty_page_table.specs.RedoStarts.{redo_from}
use Rattle.formats.specs.declared.params.Params.{Params}
use Rattle.stable_objects.specs.SlotsView.{lsn_in}
use Rattle.dirty_cache.specs.Contents.{held, is_dirty}
use Rattle.dirty_cache.specs.declared.entry.Entry.{Entry as Pair}
use Rattle.install_order.specs.Computed.{some_below}
use Rattle.install_order.specs.NodeLaws.{some-from, some-gives}
use Rattle.install_order.specs.declared.entry.Entry.{Entry}
use Rattle.explain_core.specs.History.{Member, with_lsn, reads_of, writes_of, effect_of, writes_some}
use Rattle.explain_core.specs.Sound.{IsSound}
use Rattle.explain_core.specs.World.{World, step, is_redone, plan_of}
use Rattle.explain_core.specs.World.Step.{Replay}
use Rattle.running_store.specs.Laid.Among.{all_among, slot_most}
use Rattle.running_store.specs.Calls.Entered.{IsEntered}
use Rattle.running_store.specs.Laid.Fetched.{IsFetched, fetched-shows}
use Rattle.running_store.specs.Parts.Joins.{cell_shown}
use Rattle.running_store.specs.Laid.{Laid, IsLaidOn, KeepsCells, object_lsn, lsn_or, values_in}
use Rattle.running_store.specs.Parts.{Volatile, ShowsVolatile, AreInUse, entry_of, volatile}
use Rattle.redo_pass.specs.Replayed.{IsNext, is_due, with_entry}
use Rattle.redo_pass.proofs.Begins.{due_shown}
use Rattle.redo_pass.proofs.Replays.{store_replayed}

map_same : (f g : ℕ → List ℕ) (n : ℕ) (xs : List ℕ) → ((x : ℕ) → x < n → f x ≡ g x) → All (λ x. x < n) xs → map f xs ≡ map g xs
map_same f g n [] same all = refl
map_same f g n (x ∷ xs) same all = λ i. same x (All-head (λ y. y < n) x xs all) i ∷ map_same f g n xs same (All-tail (λ y. y < n) x xs all) i

set_cases : (d a : Bool) (new old : Option Pair) → (d ≡ true → a ≡ true) → (if d then (if a then new else old) else old) ≡ (if d then new else old)
set_cases true a new old there = cond-true a new old (there refl)
set_cases false a new old there = refl

and_cases : (d a : Bool) → (d ≡ true → a ≡ true) → (d && a) ≡ d
and_cases true a there = there refl
and_cases false a there = refl

module _ (due : List ℕ) (e : Entry) (made : List (List ℕ)) (before after : Volatile) (is : IsEntered before after due e made) (writes : (x : ℕ) → is_among x due ≡ true → is_among x e.writes ≡ true) where
  held_is : (x : ℕ) → held after.objects.cache x ≡ (if is_among x due then Some (record { lsn = e.lsn; bytes = value_for x e.writes made }) else held before.objects.cache x)
  held_is x = is.held x ∙ set_cases (is_among x due) (is_among x e.writes) (Some (record { lsn = e.lsn; bytes = value_for x e.writes made })) (held before.objects.cache x) (writes x)

  dirty_is : (x : ℕ) → is_dirty after.objects.cache x ≡ (is_among x due || is_dirty before.objects.cache x)
  dirty_is x = is.dirty x ∙ ap (λ (b : Bool). b || is_dirty before.objects.cache x) (and_cases (is_among x due) (is_among x e.writes) (writes x))

-- reading slots raises no LSN
pub read_lsns : (p : Params) (next : ℕ) (it : Volatile) (after : Laid) (x : ℕ) → AreInUse p next it → IsFetched it.objects after → object_lsn after x ≤ object_lsn it.objects x
read_lsns p next it after x used is = by_entry (held after.cache x) refl
  where
    low : lsn_in it.objects.slots x ≤ object_lsn it.objects x
    low = slot_most p next it x used

    here : (o : Option Pair) → held after.cache x ≡ o → object_lsn after x ≡ lsn_or o (lsn_in it.objects.slots x)
    here o had = (λ i. lsn_or (had i) (lsn_in (is.slots i) x))

    by_entry : (o : Option Pair) → held after.cache x ≡ o → object_lsn after x ≤ object_lsn it.objects x
    by_entry None none = omega (arith, here None none, low)
    by_entry (Some pair) had = elim (is.held x pair had) [
      | inl was ↦ omega (arith, here (Some pair) had, ap (λ (h : Option Pair). lsn_or h (lsn_in it.objects.slots x)) was)
      | inr read ↦ omega (arith, here (Some pair) had, read.lsn, low)
    ]

-- an object that is due is one that the record writes, and its LSN is lower
due_parts : (table : DirtyPageTable) (it : Laid) (n : ℕ) (writes : List ℕ) (x : ℕ) → is_due table it n writes x ≡ true → (is_among x writes ≡ true) × (object_lsn it x < n)
due_parts table it n writes x due =
    let both = and_parts (is_among x writes) (nat_lt (object_lsn it x) n && nat_le (redo_from table x) n) due in
    (both.0, ltb-true (object_lsn it x) n (and_parts (nat_lt (object_lsn it x) n) (nat_le (redo_from table x) n) both.1).0)

-- so it is in the store that is entered
pub due_later : (table : DirtyPageTable) (it after : Laid) (n : ℕ) (writes due : List ℕ) → ((x : ℕ) → is_among x due ≡ is_due table it n writes x) → ((x : ℕ) → object_lsn after x ≤ object_lsn it x) → All (λ x. object_lsn after x < n) due
due_later table it after n writes due dues lsns_kept =
    All-from_any nat_eq_equiv (λ x. object_lsn after x < n) due (λ x there. let low = (due_parts table it n writes x (sym (dues x) ∙ there)).1 in let here = lsns_kept x in omega (arith, low, here))

module _ {O : Type 0} (m : Meaning O) (p : Params) (file : List ℕ) (before : Volatile) (w : World O) (table : DirtyPageTable) (n : ℕ) (member : Member O) (due : List ℕ)
    (sound : IsSound m w) (shows : ShowsVolatile m p file before w) (next : IsNext w table n member) (bounds : m.objects ≡ p.objects) (writes : All (λ x. x < p.objects) (writes_of m member))
    (dues : (x : ℕ) → is_among x due ≡ is_due table before.objects n (writes_of m member) x) where
  member_is : with_lsn w.history w.next ≡ Some member
  member_is = ap (with_lsn w.history) (sym next.here) ∙ next.member_is

  there : (x : ℕ) → is_among x (writes_of m member) ≡ true → x < p.objects
  there x = all_among (λ y. y < p.objects) (writes_of m member) x writes

  -- what is due is what the world's replay sets
  set_is : (x : ℕ) → is_among x due ≡ is_redone m w x
  set_is x = dues x ∙ elim (cases_Bool (is_among x (writes_of m member))) [
    | inl is ↦ due_shown m p file before w shows table n member x next (there x is)
    | inr left ↦
        ap (λ (b : Bool). b && (nat_lt (object_lsn before.objects x) n && nat_le (redo_from table x) n)) left
        ∙ sym (ap (λ (b : Bool). b && (nat_lt (w.cache x).lsn w.next && nat_le ((plan_of w.tables w.base).redo_from x) w.next)) (ap (λ (o : Option (Member O)). writes_some m o x) member_is ∙ left))
  ]

  -- where nothing is due the store shows the world after the replay as it is
  pub none_entered : due ≡ [] → ShowsVolatile m p file before (step m w Replay)
  none_entered none =
      let left : (x : ℕ) → is_redone m w x ≡ false = λ x. sym (set_is x) ∙ ap (is_among x) none in
      let unset : some_below m.objects (is_redone m w) ≡ false = false_from_ne_true _ (λ some. let k = some-gives m.objects (is_redone m w) some in both_ways _ (left k.0) k.2) in
      let made : List (List ℕ) = effect_of m member (map (λ (x : ℕ). (w.cache x).value) (reads_of m member)) in
      store_replayed m p file before before w member made sound shows (record {
        slots = refl;
        held = λ x. sym (cond-false (is_redone m w x) _ (held before.objects.cache x) (left x));
        dirty = λ x. ap (λ (b : Bool). b || is_dirty before.objects.cache x) (sym (left x));
        entries = sym (ap (λ (b : Bool). with_entry b before.entries (entry_of m w.next member)) unset);
      }) member_is refl there

  module _ (mid : Laid) (after : Volatile) (made : List (List ℕ)) (fetched : IsFetched before.objects mid) (keeps : KeepsCells file before.objects mid) (laid : IsLaidOn mid file) (reads : All (λ x. x < p.objects) (reads_of m member))
      (e : Entry) (e_is : e ≡ entry_of m n member) (is : IsEntered (volatile mid before.entries) after due e made) (values : made ≡ effect_of m member (map (values_in before.objects file) (reads_of m member))) (some : 0 < length due) where
    is_here : IsEntered (volatile mid before.entries) after due (entry_of m w.next member) made
    is_here = subst (λ (f : Entry). IsEntered (volatile mid before.entries) after due f made) (e_is ∙ ap (λ (k : ℕ). entry_of m k member) next.here) is

    in_writes : (x : ℕ) → is_among x due ≡ true → is_among x (writes_of m member) ≡ true
    in_writes x is_in = (due_parts table before.objects n (writes_of m member) x (sym (dues x) ∙ is_in)).0

    read : map (values_in before.objects file) (reads_of m member) ≡ map (λ (x : ℕ). (w.cache x).value) (reads_of m member)
    read = map_same (values_in before.objects file) (λ x. (w.cache x).value) p.objects (reads_of m member) (λ x below. ap (λ c. c.value) (cell_shown m p file before w shows x below)) reads

    first : (xs : List ℕ) → 0 < length xs → (x : ℕ) × (is_among x xs ≡ true)
    first [] some = absurd (omega (arith, some))
    first (x ∷ xs) some = (x, ap (λ (b : Bool). b || is_among x xs) (eq-eqb x x refl))

    -- and where something is due, the store with it entered
    pub some_entered : ShowsVolatile m p file after (step m w Replay)
    some_entered =
        let one = first due some in
        let found : some_below m.objects (is_redone m w) ≡ true = some-from m.objects (is_redone m w) one.0 (omega (arith, there one.0 (in_writes one.0 one.1), bounds)) (sym (set_is one.0) ∙ one.1) in
        store_replayed m p file (volatile mid before.entries) after w member made sound (fetched-shows m p file before mid w shows fetched keeps laid) (record {
          slots = is.slots;
          held = λ x. held_is due (entry_of m w.next member) made (volatile mid before.entries) after is_here in_writes x
              ∙ ap (λ (b : Bool). if b then Some (record { lsn = w.next; bytes = value_for x (writes_of m member) made }) else held mid.cache x) (set_is x);
          dirty = λ x. dirty_is due (entry_of m w.next member) made (volatile mid before.entries) after is_here in_writes x ∙ ap (λ (b : Bool). b || is_dirty mid.cache x) (set_is x);
          entries = is_here.entries ∙ sym (ap (λ (b : Bool). with_entry b before.entries (entry_of m w.next member)) found);
        }) member_is (values ∙ ap (effect_of m member) read) there

-- a list that is empty, and one that is not
pub nil_if : (xs : List ℕ) → (length xs == 0) ≡ true → xs ≡ []
nil_if [] is = refl
nil_if (x ∷ xs) is = let none : length (x ∷ xs) ≡ 0 = eqb-true (length (x ∷ xs)) 0 is in absurd (omega (arith, none))

pub some_if : (xs : List ℕ) → (length xs == 0) ≡ false → 0 < length xs
some_if [] is = absurd (both_ways _ is refl)
some_if (x ∷ xs) is = omega arith
