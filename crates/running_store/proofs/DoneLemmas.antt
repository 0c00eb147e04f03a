-- A command is done on objects: its values are put into the cache, and marked where they are empty.
use Rattle.std.proofs.Common.{◌≡◌, ◌∙◌, ℕ, ◌<◌, ◌≤◌, ◌==◌, ◌||◌, Bool, true, false, inl, inr, if◌then◌else◌, List, [], ◌∷◌, length, Option, None, Some, refl, sym, ap, subst, arith}
use Rattle.std.specs.Prelude.{All}
use Rattle.std.proofs.lemmas.Bool.{cases_Bool, cond-false, cond-true}
use Rattle.std.proofs.lemmas.List.Elements.{All-head, All-tail, All-nil}
use Rattle.oper_core.specs.Meaning.{Meaning}
use Rattle.oper_core.specs.State.{is_among, value_for}
use Rattle.oper_core.specs.declared.bounds.Bounds.{Bounds}
use Rattle.dirty_cache.specs.Contents.{Contents, held, is_dirty}
use Rattle.dirty_cache.specs.Places.{bytes_or}
use Rattle.dirty_cache.specs.declared.entry.Entry.{Entry}
use Rattle.number_lists.specs.Marks.{mark_at}
use Rattle.stable_objects.specs.SlotsView.{SlotsView, length_in}
use Rattle.running_store.specs.Laid.Among.{all_among}
use Rattle.running_store.specs.Laid.Fetched.{IsFetched, fetched-same}
use Rattle.running_store.specs.Laid.{IsLaidOn, Laid, with_entries}
use Rattle.running_store.specs.Laid.LengthLaws.{dirty_length}
use Rattle.running_store.specs.Laid.Lengths.{AreKept, entry_length, length_at, with_marks}
use Rattle.running_store.specs.Calls.Commands.{IsReady}
use Rattle.running_store.specs.Laid.Lent.{KeepsOthers, cached_values, inputs_in}
use Rattle.running_store.specs.Parts.{meaning_in}
use Rattle.running_store.specs.Laid.Ran.{HasRun}
use Rattle.running_store.proofs.LentLemmas.{inputs_same, or_false}

same_else : {A : Type 0} (b : Bool) (a c d : A) → (b ≡ false → c ≡ d) → (if b then a else c) ≡ (if b then a else d)
same_else true a c d same = refl
same_else false a c d same = same refl

-- values that are short stand beside objects
short_for : (cap x : ℕ) (objects : List ℕ) (values : List (List ℕ)) → All (λ v. length v ≤ cap) values → length (value_for x objects values) ≤ cap
short_for cap x [] values short = omega arith
short_for cap x (o ∷ objects) [] short = omega arith
short_for cap x (o ∷ objects) (v ∷ values) short = elim (x == o) as (λ b. length (if b then v else value_for x objects values) ≤ cap) [
  | true ↦ All-head (λ w. length w ≤ cap) v values short
  | false ↦ short_for cap x objects values (All-tail (λ w. length w ≤ cap) v values short)
]

module _ (slots : SlotsView) (old mid new : Contents) (lsn : ℕ) (writes : List ℕ) (values : List (List ℕ)) (keeps : KeepsOthers writes old mid)
    (entries : (x : ℕ) → held new x ≡ with_entries (held mid) lsn writes values x) (dirty : (x : ℕ) → is_dirty new x ≡ (is_among x writes || is_dirty mid x)) where
  abbrev before : Laid
  before = record { slots = slots; cache = old }

  abbrev later : Laid
  later = record { slots = slots; cache = new }

  set : ℕ → Option Entry
  set x = Some (record { lsn = lsn; bytes = value_for x writes values })

  pub entries_done : (x : ℕ) → held new x ≡ with_entries (held old) lsn writes values x
  entries_done x = entries x ∙ same_else (is_among x writes) (Some (record { lsn = lsn; bytes = value_for x writes values })) (held mid x) (held old x) (keeps.others x)

  pub dirty_done : (x : ℕ) → is_dirty new x ≡ (is_among x writes || is_dirty old x)
  dirty_done x = dirty x ∙ ap (λ (b : Bool). is_among x writes || b) (keeps.dirty x)

  held_written : (x : ℕ) → is_among x writes ≡ true → held new x ≡ Some (record { lsn = lsn; bytes = value_for x writes values })
  held_written x among = entries_done x ∙ cond-true (is_among x writes) _ (held old x) among

  held_other : (x : ℕ) → is_among x writes ≡ false → held new x ≡ held old x
  held_other x out = entries_done x ∙ cond-false (is_among x writes) _ (held old x) out

  pub laid_done : (file : List ℕ) → IsLaidOn before file → IsLaidOn later file
  laid_done file laid = record {
    slots = laid.slots;
    clean = λ x e clean had.
        let out = or_false (is_among x writes) (is_dirty old x) (sym (dirty_done x) ∙ clean) in laid.clean x e out.1 (sym (held_other x out.0) ∙ had);
  }

  pub kept_done : (marks noted : List Bool) → AreKept before marks → All (λ x. x < slots.params.objects) writes → All (λ v. length v ≤ slots.params.cap) values → length noted ≡ length marks
      → ((x : ℕ) → mark_at noted x ≡ with_marks (mark_at marks) writes values x) → AreKept later noted
  kept_done marks noted kept below short count are = record {
    cached = record {
      in_range = kept.cached.in_range;
      each = λ x e had. elim (cases_Bool (is_among x writes)) [
        | inl among ↦
            let bytes : value_for x writes values ≡ e.bytes = ap (λ (o : Option Entry). bytes_or o []) (sym (held_written x among) ∙ had) in
            (all_among (λ y. y < slots.params.objects) writes x below among, subst (λ (b : List ℕ). length b ≤ slots.params.cap) bytes (short_for slots.params.cap x writes values short))
        | inr out ↦ kept.cached.each x e (sym (held_other x out) ∙ had)
      ];
    };
    empties = record {
      count = count ∙ kept.empties.count;
      each = λ x less. are x ∙ elim (cases_Bool (is_among x writes)) [
        | inl among ↦
            cond-true (is_among x writes) (length (value_for x writes values) == 0) (mark_at marks x) among
            ∙ ap (λ (n : ℕ). n == 0) (sym (dirty_length later x (dirty_done x ∙ ap (λ (b : Bool). b || is_dirty old x) among) ∙ ap entry_length (held_written x among)))
        | inr out ↦
            let dirty_same : is_dirty new x ≡ is_dirty old x = dirty_done x ∙ ap (λ (b : Bool). b || is_dirty old x) out in
            let same : length_at later x ≡ length_at before x = λ i. if dirty_same i then entry_length (held_other x out i) else length_in slots x in
            cond-false (is_among x writes) (length (value_for x writes values) == 0) (mark_at marks x) out ∙ kept.empties.each x less ∙ ap (λ (n : ℕ). n == 0) (sym same)
      ];
    };
  }

-- all is as it was
module _ (slots : SlotsView) (old new : Contents) (keeps : KeepsOthers [] old new) where
  pub same_held : (x : ℕ) → held new x ≡ held old x
  same_held x = keeps.others x refl

  pub same_fetched : IsFetched (record { slots = slots; cache = old }) (record { slots = slots; cache = new })
  same_fetched = fetched-same (record { slots = slots; cache = old }) (record { slots = slots; cache = new }) refl keeps.dirty same_held

  pub same_laid : (file : List ℕ) → IsLaidOn (record { slots = slots; cache = old }) file → IsLaidOn (record { slots = slots; cache = new }) file
  same_laid file laid = laid_done slots old new new 0 [] [] keeps (λ x. refl) (λ x. refl) file laid

  pub same_kept : (marks : List Bool) → AreKept (record { slots = slots; cache = old }) marks → AreKept (record { slots = slots; cache = new }) marks
  same_kept marks kept = kept_done slots old new new 0 [] [] keeps (λ x. refl) (λ x. refl) marks marks kept (All-nil _) (All-nil _) refl (λ x. refl)

-- a command that is done after room was taken is done as before
pub ran_from : {O : Type 0} (meaning : Bounds → Meaning O) (old mid new : Laid) (lsn : ℕ) (op : O) (copies : Option (List (List ℕ))) → mid.slots ≡ old.slots → ((x : ℕ) → held mid.cache x ≡ held old.cache x)
    → ((x : ℕ) → is_dirty mid.cache x ≡ is_dirty old.cache x) → HasRun meaning mid new lsn op copies → HasRun meaning old new lsn op copies
ran_from meaning old mid new lsn op copies slots same dirty is =
    let m = meaning_in meaning old.slots.params in
    let writes = m.writes op in
    record {
      entries = λ x. is.entries x
          ∙ ap (λ (s : SlotsView). with_entries (held mid.cache) lsn ((meaning_in meaning s.params).writes op) ((meaning_in meaning s.params).effect op (inputs_in mid.cache ((meaning_in meaning s.params).reads op) copies)) x) slots
          ∙ ap (λ (values : List (List ℕ)). with_entries (held mid.cache) lsn writes (m.effect op values) x) (inputs_same old.cache mid.cache same (m.reads op) copies)
          ∙ same_else (is_among x writes) (Some (record { lsn = lsn; bytes = value_for x writes (m.effect op (inputs_in old.cache (m.reads op) copies)) })) (held mid.cache x) (held old.cache x) (λ out. same x);
      dirty = λ x. is.dirty x ∙ ap (λ (s : SlotsView). is_among x ((meaning_in meaning s.params).writes op) || is_dirty mid.cache x) slots ∙ ap (λ (b : Bool). is_among x writes || b) (dirty x);
    }

-- and it is ready as before
pub ready_from : {O : Type 0} (meaning : Bounds → Meaning O) (old mid : Laid) (op : O) (copies : Option (List (List ℕ))) → mid.slots ≡ old.slots → ((x : ℕ) → held mid.cache x ≡ held old.cache x)
    → IsReady meaning old.slots.params op (inputs_in old.cache ((meaning_in meaning old.slots.params).reads op) copies) → IsReady meaning mid.slots.params op (inputs_in mid.cache ((meaning_in meaning mid.slots.params).reads op) copies)
ready_from meaning old mid op copies slots same ready =
    subst (λ (s : SlotsView). IsReady meaning s.params op (inputs_in mid.cache ((meaning_in meaning s.params).reads op) copies)) (sym slots)
    (subst (λ (values : List (List ℕ)). IsReady meaning old.slots.params op values) (sym (inputs_same old.cache mid.cache same ((meaning_in meaning old.slots.params).reads op) copies)) ready)

-- no cached value is too long
pub short_cached : (laid : Laid) (marks : List Bool) → AreKept laid marks → (x : ℕ) → length (cached_values laid.cache x) ≤ laid.slots.params.cap
short_cached laid marks kept x = by_entry (held laid.cache x) refl
  where
    by_entry : (h : Option Entry) → held laid.cache x ≡ h → length (cached_values laid.cache x) ≤ laid.slots.params.cap
    by_entry None none = omega (arith, ap (λ (o : Option Entry). length (bytes_or o [])) none)
    by_entry (Some e) had = omega (arith, (kept.cached.each x e had).1, ap (λ (o : Option Entry). length (bytes_or o [])) had)
