-- How a cache over the slots changes: what is cached of one object is looked up, kept, or set.
use Rattle.std.proofs.Common.{◌≡◌, ◌≢◌, ◌⊎◌, inl, inr, ⊎_elim, ℕ, ◌+◌, ◌==◌, ◌||◌, ◌<◌, ◌≤◌, Bool, true, false, nat_eq, List, length, get_or, Option, None, Some, is_some, refl, sym, ap, ◌∙◌, subst, true≢false, arith}
use Rattle.std.specs.Prelude.{slice_set}
use Rattle.std.proofs.lemmas.Bool.{both_ways, cases_Bool, ne_eqb}
use Rattle.std.proofs.lemmas.Bool.Decides.{eqb_tells}
use Rattle.std.proofs.lemmas.Grind.{get_or-set_at}
use Rattle.std.proofs.lemmas.List.{get_or-set_other, length-set}
use Rattle.std.specs.Map.{lookup}
use Rattle.std.specs.Option.{option_or}
use Rattle.formats.specs.Objects.{cell_of}
use Rattle.formats.specs.declared.layout.Layout.{Layout}
use Rattle.formats.specs.declared.params.Params.{Params}
use Rattle.stable_objects.specs.SlotsView.{SlotsView, layout_of, length_in}
use Rattle.dirty_cache.specs.Contents.{Contents, held, is_dirty, IsSame, IsSameOrForgotten, IsUnchanged}
use Rattle.dirty_cache.specs.Places.{entry_at}
use Rattle.dirty_cache.specs.declared.entry.Entry.{Entry}
use Rattle.number_lists.specs.Marks.{mark_at}
use Rattle.running_store.specs.Laid.{Laid, AreCached, IsLaidOn, KeepsCells, cell_or}
use Rattle.running_store.specs.Laid.LengthLaws.{clean_length, dirty_length}
use Rattle.running_store.specs.Laid.Lengths.{AreEmpties, AreKept, entry_length, length_at}

-- an option is not both
not_both : {A B : Type 0} (o : Option A) (a : A) → o ≡ None → o ≡ Some a → B
not_both o a none some = let h : None ≡ Some a = sym none ∙ some in cc

same_some : {A : Type 0} (o : Option A) (a b : A) → o ≡ Some a → o ≡ Some b → a ≡ b
same_some o a b first second = let h : Some a ≡ Some b = sym first ∙ second in cc

-- what is not cached is not dirty
pub absent_clean : (c : Contents) (x : ℕ) → held c x ≡ None → is_dirty c x ≡ false
absent_clean c x = elim (entry_at c.places x) as (λ d. option_or d (lookup (nat_eq x) c.clean) ≡ None → is_some d ≡ false) [
  | None ↦ λ h. refl
  | Some e ↦ λ h. cc
]

-- a length stays where that of the slot does, and what is dirty
length_kept : (old new : Laid) (x : ℕ) → length_in new.slots x ≡ length_in old.slots x → IsSameOrForgotten old.cache new.cache x → length_at new x ≡ length_at old x
length_kept old new x slot is = elim (cases_Bool (is_dirty old.cache x)) [
  | inl was ↦
      let same = ⊎_elim (λ same. same) (λ gone. absurd (both_ways _ gone.0 was)) is.entry in
      dirty_length new x (is.dirty ∙ was) ∙ ap entry_length same ∙ sym (dirty_length old x was)
  | inr clean ↦ clean_length new x (is.dirty ∙ clean) ∙ slot ∙ sym (clean_length old x clean)
]

-- The store stays where it is, what is cached was, or is short enough, and each length stays.
kept_by : (old new : Laid) (marks : List Bool) → AreKept old marks → layout_of new.slots ≡ layout_of old.slots
    → ((x : ℕ) (e : Entry) → held new.cache x ≡ Some e → (held old.cache x ≡ Some e) ⊎ ((x < old.slots.params.objects) × (length e.bytes ≤ old.slots.params.cap)))
    → ((x : ℕ) → x < old.slots.params.objects → length_at new x ≡ length_at old x) → AreKept new marks
kept_by old new marks kept layout fits same =
    let params : old.slots.params ≡ new.slots.params = ap (λ (l : Layout). l.params) (sym layout) in
    record {
      cached = subst (λ (p : Params). AreCached p new.cache) params (record { in_range = kept.cached.in_range; each = λ x e is. ⊎_elim (λ was. kept.cached.each x e was) (λ short. short) (fits x e is) });
      empties = subst (λ (p : Params). AreEmpties p.objects (length_at new) marks) params
          (record { count = kept.empties.count; each = λ x below. kept.empties.each x below ∙ ap (λ (n : ℕ). n == 0) (sym (same x below)) });
    }

-- each entry is as it was
pub kept_same : (slots : SlotsView) (old new : Contents) (marks : List Bool) → IsUnchanged old new → AreKept (record { slots = slots; cache = old }) marks → AreKept (record { slots = slots; cache = new }) marks
kept_same slots old new marks is kept =
    kept_by (record { slots = slots; cache = old }) (record { slots = slots; cache = new }) marks kept refl (λ x e there. inl (sym (is.each x).entry ∙ there))
    (λ x below. length_kept (record { slots = slots; cache = old }) (record { slots = slots; cache = new }) x refl (record { entry = inl (is.each x).entry; dirty = (is.each x).dirty }))

pub laid_same : (slots : SlotsView) (old new : Contents) (file : List ℕ) → IsUnchanged old new → IsLaidOn (record { slots = slots; cache = old }) file → IsLaidOn (record { slots = slots; cache = new }) file
laid_same slots old new file is laid = record {
  slots = laid.slots;
  clean = λ x e clean here. laid.clean x e (sym (is.each x).dirty ∙ clean) (sym (is.each x).entry ∙ here);
}

-- the pair of an object that was not cached is kept, or is not; others that are clean may be forgotten
module _ (slots : SlotsView) (old new : Contents) (o lsn : ℕ) (bytes : List ℕ) (absent : held old o ≡ None)
    (entry : (held new o ≡ Some (record { lsn = lsn; bytes = bytes })) ⊎ (held new o ≡ None)) (others : (y : ℕ) → nat_eq o y ≡ false → IsSameOrForgotten old new y) where
  abbrev kept : Entry
  kept = record { lsn = lsn; bytes = bytes }

  abbrev before : Laid
  before = record { slots = slots; cache = old }

  abbrev now_laid : Laid
  now_laid = record { slots = slots; cache = new }

  -- an object's entry is the same, or forgotten, or it is that which is kept
  data IsStep (x : ℕ) : Type 0 where
    stays : held new x ≡ held old x → is_dirty new x ≡ is_dirty old x → IsStep x
    forgotten : is_dirty old x ≡ false → held new x ≡ None → IsStep x
    is_kept : o ≡ x → held new x ≡ Some kept → IsStep x

  step_here : (held new o ≡ Some kept) ⊎ (held new o ≡ None) → IsStep o
  step_here (inl is) = is_kept refl is
  step_here (inr none) = forgotten (absent_clean old o absent) none

  step_there : (y : ℕ) → is_dirty new y ≡ is_dirty old y → (held new y ≡ held old y) ⊎ ((is_dirty old y ≡ false) × (held new y ≡ None)) → IsStep y
  step_there y dirty (inl same) = stays same dirty
  step_there y dirty (inr gone) = forgotten gone.0 gone.1

  step_of : (x : ℕ) → IsStep x
  step_of x = elim (eqb_tells o x) [
    | inl same ↦ subst (λ (y : ℕ). IsStep y) same.1 (step_here entry)
    | inr other ↦ step_there x (others x other.0).dirty (others x other.0).entry
  ]

  pub kept_clean : (marks : List Bool) → AreKept before marks → is_dirty new o ≡ false → o < slots.params.objects → length bytes ≤ slots.params.cap → AreKept now_laid marks
  kept_clean marks was clean below short = kept_by before now_laid marks was refl
      (λ x e is. elim (step_of x) [
        | stays same dirty ↦ inl (sym same ∙ is)
        | forgotten clean none ↦ not_both (held new x) e none is
        | is_kept here some ↦ inr (subst (λ (y : ℕ). y < slots.params.objects) here below, subst (λ (f : Entry). length f.bytes ≤ slots.params.cap) (same_some (held new x) kept e some is) short)
      ])
      (λ x less. elim (eqb_tells o x) [
        | inl same ↦ subst (λ (y : ℕ). length_at now_laid y ≡ length_at before y) same.1 (clean_length now_laid o clean ∙ sym (clean_length before o (absent_clean old o absent)))
        | inr other ↦ length_kept before now_laid x refl (others x other.0)
      ])

  module _ (file : List ℕ) (laid : IsLaidOn before file) (read : cell_of o file ≡ record { lsn = lsn; value = bytes }) where
    -- a clean object that was forgotten has the pair of its slot
    slot_pair : (x : ℕ) (h : Option Entry) → is_dirty old x ≡ false → held old x ≡ h → cell_of x file ≡ cell_or h (cell_of x file)
    slot_pair x None clean is = refl
    slot_pair x (Some e) clean is = laid.clean x e clean is

    kept_pair : cell_or (Some kept) (cell_of o file) ≡ cell_or (held old o) (cell_of o file)
    kept_pair = sym read ∙ sym (ap (λ (h : Option Entry). cell_or h (cell_of o file)) absent)

    pub cells_kept : KeepsCells file before now_laid
    cells_kept x below = elim (step_of x) [
      | stays same dirty ↦ ap (λ (h : Option Entry). cell_or h (cell_of x file)) same
      | forgotten clean none ↦ ap (λ (h : Option Entry). cell_or h (cell_of x file)) none ∙ slot_pair x (held old x) clean refl
      | is_kept here some ↦ ap (λ (h : Option Entry). cell_or h (cell_of x file)) some
          ∙ subst (λ (y : ℕ). cell_or (Some kept) (cell_of y file) ≡ cell_or (held old y) (cell_of y file)) here kept_pair
    ]

    pub laid_kept : IsLaidOn now_laid file
    laid_kept = record {
      slots = laid.slots;
      clean = λ x e clean is. elim (step_of x) [
        | stays same dirty ↦ laid.clean x e (sym dirty ∙ clean) (sym same ∙ is)
        | forgotten before_clean none ↦ not_both (held new x) e none is
        | is_kept here some ↦
            subst (λ (y : ℕ). cell_of y file ≡ record { lsn = lsn; value = bytes }) here read
            ∙ ap (λ (f : Entry). record { lsn = f.lsn; value = f.bytes }) (same_some (held new x) kept e some is)
      ];
    }

-- an object is set
module _ (slots : SlotsView) (old new : Contents) (o : ℕ) (set : Entry) (entry : held new o ≡ Some set) (dirty : is_dirty new o ≡ true)
    (others : (y : ℕ) → nat_eq o y ≡ false → IsSame old new y) where
  pub dirty_set : (x : ℕ) → is_dirty new x ≡ ((x == o) || is_dirty old x)
  dirty_set x = elim (eqb_tells x o) [
    | inl same ↦
        subst (λ (b : Bool). is_dirty new x ≡ (b || is_dirty old x)) (sym same.0)
        (subst (λ (y : ℕ). is_dirty new y ≡ true) (sym same.1) dirty)
    | inr other ↦
        subst (λ (b : Bool). is_dirty new x ≡ (b || is_dirty old x)) (sym other.0)
        (others x (ne_eqb o x (λ same. other.1 (sym same)))).dirty
  ]

  cached_set : AreCached slots.params old → o < slots.params.objects → length set.bytes ≤ slots.params.cap → AreCached slots.params new
  cached_set cached below short = record {
    in_range = cached.in_range;
    each = λ x e is. elim (eqb_tells o x) [
      | inl same ↦
          let here : held new x ≡ Some set = subst (λ (y : ℕ). held new y ≡ Some set) same.1 entry in
          (subst (λ (y : ℕ). y < slots.params.objects) same.1 below, subst (λ (f : Entry). length f.bytes ≤ slots.params.cap) (same_some (held new x) set e here is) short)
      | inr other ↦ cached.each x e (sym (others x other.0).entry ∙ is)
    ];
  }

  -- the marks with that of the object say which values are empty
  pub kept_set : (marks : List Bool) → AreKept (record { slots = slots; cache = old }) marks → o < slots.params.objects → length set.bytes ≤ slots.params.cap
      → AreKept (record { slots = slots; cache = new }) (slice_set marks o (length set.bytes == 0))
  kept_set marks kept below short =
      let was : Laid = record { slots = slots; cache = old } in
      let is : Laid = record { slots = slots; cache = new } in
      let mark = length set.bytes == 0 in
      record {
        cached = cached_set kept.cached below short;
        empties = record {
          count = length-set marks o mark ∙ kept.empties.count;
          each = λ x less. elim (eqb_tells x o) [
            | inl same ↦ get_or-set_at marks o x mark false same.1 (omega (arith, below, kept.empties.count)) ∙ ap (λ (n : ℕ). n == 0) (sym (ap (length_at is) same.1 ∙ dirty_length is o dirty ∙ ap entry_length entry))
            | inr other ↦
                let here = others x (ne_eqb o x (λ same. other.1 (sym same))) in
                get_or-set_other marks o x mark false other.1 ∙ kept.empties.each x less ∙ ap (λ (n : ℕ). n == 0) (sym (length_kept was is x refl (record { entry = inl here.entry; dirty = here.dirty })))
          ];
        };
      }

  pub laid_set : (file : List ℕ) → IsLaidOn (record { slots = slots; cache = old }) file → IsLaidOn (record { slots = slots; cache = new }) file
  laid_set file laid = record {
    slots = laid.slots;
    clean = λ x e clean is. elim (eqb_tells o x) [
      | inl same ↦ absurd (true≢false (sym (subst (λ (y : ℕ). is_dirty new y ≡ true) same.1 dirty) ∙ clean))
      | inr other ↦ laid.clean x e (sym (others x other.0).dirty ∙ clean) (sym (others x other.0).entry ∙ is)
    ];
  }

-- the slots of an object change, of a store that stays where it is
module _ (before : Laid) (later : SlotsView) (layout : layout_of later ≡ layout_of before.slots) (marks : List Bool) (kept : AreKept before marks) where
  -- and no length
  pub kept_failed : later.lengths ≡ before.slots.lengths → AreKept (record { slots = later; cache = before.cache }) marks
  kept_failed same = kept_by before (record { slots = later; cache = before.cache }) marks kept layout (λ x e is. inl is)
      (λ x below. length_kept before (record { slots = later; cache = before.cache }) x (ap (λ (l : List ℕ). get_or l x 0) same) (record { entry = inl refl; dirty = refl }))

  -- and an object becomes clean, whose length is that of its cached value; its entry and others that are clean may be forgotten
  pub kept_flushed : (new : Contents) (o : ℕ) (e : Entry) → held before.cache o ≡ Some e → is_dirty before.cache o ≡ true → length_in later o ≡ length e.bytes → ((y : ℕ) → y ≢ o → length_in later y ≡ length_in before.slots y)
      → (held new o ≡ held before.cache o) ⊎ (held new o ≡ None) → is_dirty new o ≡ false → ((y : ℕ) → nat_eq o y ≡ false → IsSameOrForgotten before.cache new y) → AreKept (record { slots = later; cache = new }) marks
  kept_flushed new o e had dirty long others_long entry clean others =
      let after : Laid = record { slots = later; cache = new } in
      kept_by before after marks kept layout
      (λ x f is. elim (eqb_tells o x) [
        | inl here ↦ subst (λ (y : ℕ). held new y ≡ Some f → (held before.cache y ≡ Some f) ⊎ ((y < before.slots.params.objects) × (length f.bytes ≤ before.slots.params.cap))) here.1
            (λ there. ⊎_elim (λ same. inl (sym same ∙ there)) (λ none. not_both (held new o) f none there) entry) is
        | inr other ↦ ⊎_elim (λ same. inl (sym same ∙ is)) (λ gone. not_both (held new x) f gone.1 is) (others x other.0).entry
      ])
      (λ x below. elim (eqb_tells o x) [
        | inl same ↦ subst (λ (y : ℕ). length_at after y ≡ length_at before y) same.1 (clean_length after o clean ∙ long ∙ ap entry_length (sym had) ∙ sym (dirty_length before o dirty))
        | inr other ↦ length_kept before after x (others_long x (λ is. other.1 (sym is))) (others x other.0)
      ])

-- one object more has a mark
pub more_marks : (objects : ℕ) (long : ℕ → ℕ) (old more marks : List Bool) → AreEmpties objects long old → length more ≡ length old + 1 → ((n : ℕ) → mark_at more n ≡ mark_at old n) → marks ≡ slice_set more objects (long objects == 0)
    → AreEmpties (objects + 1) long marks
more_marks objects long old more marks are count same set = record {
  count = ap length set ∙ length-set more objects (long objects == 0) ∙ omega (arith, count, are.count);
  each = λ x below. ap (λ (l : List Bool). mark_at l x) set ∙ elim (eqb_tells x objects) [
    | inl here ↦ get_or-set_at more objects x (long objects == 0) false here.1 (omega (arith, count, are.count)) ∙ ap (λ (k : ℕ). long k == 0) (sym here.1)
    | inr apart ↦ get_or-set_other more objects x (long objects == 0) false apart.1 ∙ same x ∙ are.each x (omega (arith, below, apart.1))
  ];
}
