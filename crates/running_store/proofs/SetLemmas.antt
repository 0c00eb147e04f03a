-- Values that stand beside objects are set from the back, one after the other.
use Rattle.std.proofs.Common.{◌≡◌, ℕ, suc, ◌<◌, ◌≤◌, ◌+◌, ◌==◌, ◌||◌, ◌&&◌, Bool, true, false, if◌then◌else◌, List, [], ◌∷◌, ◌++◌, Option, Some, nat_eq, inl, inr, length, take, drop, slice_index, get_or, drop-cons, subst, refl, sym, ap, ◌∙◌, arith, length-append, length-take}
use Rattle.std.specs.Prelude.{All, slice_set}
use Rattle.std.proofs.Math.Seq.{get_or-append_seam}
use Rattle.std.proofs.lemmas.Bool.{eqb-true, ne_eqb}
use Rattle.std.proofs.lemmas.Bool.Decides.{eqb_tells}
use Rattle.std.proofs.lemmas.Grind.{get_or-set_at}
use Rattle.std.proofs.lemmas.List.{get_or-set_other, take_at, take-take, get_or-take, take_more}
use Rattle.std.proofs.lemmas.List.Elements.{All-append, All-cons}
use Rattle.oper_core.specs.State.{is_among, value_for}
use Rattle.dirty_cache.specs.declared.entry.Entry.{Entry}
use Rattle.number_lists.specs.Marks.{mark_at}
use Rattle.running_store.specs.Laid.{with_chosen, with_entries}
use Rattle.running_store.specs.Laid.Lengths.{with_marks}

-- the values that are left after the last is taken
pub record IsTaken (values left : List (List ℕ)) (v : List ℕ) : Type 0 where
  pub front : left ≡ take (length left) values
  pub here : get_or values (length left) v ≡ v
  pub more : length left < length values

pub taken : (values old left : List (List ℕ)) (v : List ℕ) → old ≡ left ++ v ∷ [] → old ≡ take (length old) values → IsTaken values left v
taken values old left v split front =
    let size : length old ≡ length left + 1 = omega (arith, ap length split, length-append left (v ∷ [])) in
    let short : length old ≤ length values = omega (arith, ap length front, length-take (length old) values) in
    record {
      front = sym (take_at left (v ∷ []) (length left) refl) ∙ ap (λ (l : List (List ℕ)). take (length left) l) (sym split ∙ front) ∙ take-take (length left) (length old) values (omega arith);
      here = sym (get_or-take (length old) values (length left) v (omega arith)) ∙ ap (λ (l : List (List ℕ)). get_or l (length left) v) (sym front ∙ split) ∙ get_or-append_seam left v [] v;
      more = omega arith;
    }

-- what holds of the first items holds of them still, and of the next
pub all_next : (P Q : ℕ → Type 0) (xs : List ℕ) (i : ℕ) → ((x : ℕ) → P x → Q x) → All P (take i xs) → i < length xs → Q (slice_index xs i) → All Q (take (i + 1) xs)
all_next P Q xs i keeps all within next =
    subst (λ (l : List ℕ). All Q l) (sym (take_more xs i 0 within))
    (All-append Q (take i xs) (slice_index xs i ∷ []) (λ k d below. keeps _ (all k d below)) (All-cons Q (slice_index xs i) [] next (λ k d below. absurd (omega (arith, below)))))

module _ (lsn : ℕ) where
  abbrev pub entry_of : List ℕ → Entry
  entry_of v = record { lsn = lsn; bytes = v }

  -- what is set at the first object stands before what is set at the others
  pub entries_cons : (old : ℕ → Option Entry) (o : ℕ) (objects : List ℕ) (v : List ℕ) (values : List (List ℕ)) (x : ℕ)
      → with_entries old lsn (o ∷ objects) (v ∷ values) x ≡ (if x == o then Some (entry_of v) else with_entries old lsn objects values x)
  entries_cons old o objects v values x =
      elim (x == o) as (λ b. (if (b || is_among x objects) then Some (entry_of (if b then v else value_for x objects values)) else old x) ≡ (if b then Some (entry_of v) else with_entries old lsn objects values x))
      [ true ↦ refl | false ↦ refl ]

  -- so do marks
  marks_cons : (old : ℕ → Bool) (o : ℕ) (objects : List ℕ) (v : List ℕ) (values : List (List ℕ)) (x : ℕ)
      → with_marks old (o ∷ objects) (v ∷ values) x ≡ (if x == o then (length v == 0) else with_marks old objects values x)
  marks_cons old o objects v values x =
      elim (x == o) as (λ b. (if (b || is_among x objects) then (length (if b then v else value_for x objects values) == 0) else old x) ≡ (if b then (length v == 0) else with_marks old objects values x))
      [ true ↦ refl | false ↦ refl ]

  -- tests of two objects that are one where they count
  chosen_cases : (e b a : Bool) (new rest old : Option Entry) → (e ≡ true → b ≡ a)
      → (if e && b then new else (if a then rest else old)) ≡ (if a then (if e then new else rest) else old)
  chosen_cases true b a new rest old same = ap (λ (c : Bool). if c then new else (if a then rest else old)) (same refl) ∙ twice a
    where
      twice : (c : Bool) → (if c then new else (if c then rest else old)) ≡ (if c then new else old)
      twice true = refl
      twice false = refl
  chosen_cases false b a new rest old same = refl

  dirty_cases : (e b a r d : Bool) → (e ≡ true → b ≡ a) → ((e && b) || ((a && r) || d)) ≡ ((a && (e || r)) || d)
  dirty_cases true b a r d same = ap (λ (c : Bool). c || ((a && r) || d)) (same refl) ∙ twice a
    where
      twice : (c : Bool) → (c || ((c && r) || d)) ≡ ((c && true) || d)
      twice true = refl
      twice false = refl
  dirty_cases false b a r d same = refl

  module _ (objects : List ℕ) (values : List (List ℕ)) (n : ℕ) (v : List ℕ) (there : n < length objects) (here : n < length values) (is : get_or values n v ≡ v) where
    values_here : drop n values ≡ v ∷ drop (suc n) values
    values_here = drop-cons values n v here ∙ ap (λ (w : List ℕ). w ∷ drop (suc n) values) is

    objects_here : drop n objects ≡ slice_index objects n ∷ drop (suc n) objects
    objects_here = drop-cons objects n 0 there

    -- the last of the values that are left is set at its object
    pub set_back : (old now next : ℕ → Option Entry) → ((x : ℕ) → now x ≡ with_entries old lsn (drop (suc n) objects) (drop (suc n) values) x)
        → ((x : ℕ) → next x ≡ (if x == slice_index objects n then Some (entry_of v) else now x))
        → (x : ℕ) → next x ≡ with_entries old lsn (drop n objects) (drop n values) x
    set_back old now next before set x =
        set x
        ∙ ap (λ (e : Option Entry). if x == slice_index objects n then Some (entry_of v) else e) (before x)
        ∙ sym (entries_cons old (slice_index objects n) (drop (suc n) objects) v (drop (suc n) values) x)
        ∙ ap (λ (vs : List (List ℕ)). with_entries old lsn (slice_index objects n ∷ drop (suc n) objects) vs x) (sym values_here)
        ∙ ap (λ (os : List ℕ). with_entries old lsn os (drop n values) x) (sym objects_here)

    or_behind : (a b c : Bool) → (a || (b || c)) ≡ ((a || b) || c)
    or_behind true b c = refl
    or_behind false b c = refl

    -- and its object is dirty
    pub dirty_set : (old now next : ℕ → Bool) → ((x : ℕ) → now x ≡ (is_among x (drop (suc n) objects) || old x))
        → ((x : ℕ) → next x ≡ ((x == slice_index objects n) || now x))
        → (x : ℕ) → next x ≡ (is_among x (drop n objects) || old x)
    dirty_set old now next before set x =
        set x
        ∙ ap (λ (b : Bool). (x == slice_index objects n) || b) (before x)
        ∙ or_behind (x == slice_index objects n) (is_among x (drop (suc n) objects)) (old x)
        ∙ ap (λ (os : List ℕ). is_among x os || old x) (sym objects_here)

    -- and its mark is by the value
    pub marks_set : (old now next : ℕ → Bool) → ((x : ℕ) → now x ≡ with_marks old (drop (suc n) objects) (drop (suc n) values) x)
        → ((x : ℕ) → next x ≡ (if x == slice_index objects n then (length v == 0) else now x))
        → (x : ℕ) → next x ≡ with_marks old (drop n objects) (drop n values) x
    marks_set old now next before set x =
        set x
        ∙ ap (λ (b : Bool). if x == slice_index objects n then (length v == 0) else b) (before x)
        ∙ sym (marks_cons old (slice_index objects n) (drop (suc n) objects) v (drop (suc n) values) x)
        ∙ ap (λ (vs : List (List ℕ)). with_marks old (slice_index objects n ∷ drop (suc n) objects) vs x) (sym values_here)
        ∙ ap (λ (os : List ℕ). with_marks old os (drop n values) x) (sym objects_here)

    -- the last of the values that are left is set, where its object is chosen
    pub chosen_back : (chosen : List ℕ) (old now next : ℕ → Option Entry) → ((x : ℕ) → now x ≡ with_chosen old lsn chosen (drop (suc n) objects) (drop (suc n) values) x)
        → ((x : ℕ) → next x ≡ (if (x == slice_index objects n) && is_among (slice_index objects n) chosen then Some (entry_of v) else now x))
        → (x : ℕ) → next x ≡ with_chosen old lsn chosen (drop n objects) (drop n values) x
    chosen_back chosen old now next before set x =
        set x
        ∙ ap (λ (e : Option Entry). if (x == slice_index objects n) && is_among (slice_index objects n) chosen then Some (entry_of v) else e) (before x)
        ∙ chosen_cases (x == slice_index objects n) (is_among (slice_index objects n) chosen) (is_among x chosen) (Some (entry_of v)) (with_entries old lsn (drop (suc n) objects) (drop (suc n) values) x) (old x)
        (λ same. ap (λ y. is_among y chosen) (sym (eqb-true x (slice_index objects n) same)))
        ∙ ap (λ (e : Option Entry). if is_among x chosen then e else old x)
        (sym (entries_cons old (slice_index objects n) (drop (suc n) objects) v (drop (suc n) values) x)
        ∙ ap (λ (vs : List (List ℕ)). with_entries old lsn (slice_index objects n ∷ drop (suc n) objects) vs x) (sym values_here)
        ∙ ap (λ (os : List ℕ). with_entries old lsn os (drop n values) x) (sym objects_here))

    -- and it is dirty
    pub dirty_back : (chosen : List ℕ) (old now next : ℕ → Bool) → ((x : ℕ) → now x ≡ ((is_among x chosen && is_among x (drop (suc n) objects)) || old x))
        → ((x : ℕ) → next x ≡ (((x == slice_index objects n) && is_among (slice_index objects n) chosen) || now x))
        → (x : ℕ) → next x ≡ ((is_among x chosen && is_among x (drop n objects)) || old x)
    dirty_back chosen old now next before set x =
        set x
        ∙ ap (λ (b : Bool). ((x == slice_index objects n) && is_among (slice_index objects n) chosen) || b) (before x)
        ∙ dirty_cases (x == slice_index objects n) (is_among (slice_index objects n) chosen) (is_among x chosen) (is_among x (drop (suc n) objects)) (old x)
        (λ same. ap (λ y. is_among y chosen) (sym (eqb-true x (slice_index objects n) same)))
        ∙ ap (λ (os : List ℕ). (is_among x chosen && is_among x os) || old x) (sym objects_here)

-- what is set at one place
pub set_at : {A : Type 0} (old new : ℕ → A) (o : ℕ) (a : A) → new o ≡ a → ((y : ℕ) → nat_eq o y ≡ false → new y ≡ old y) → (x : ℕ) → new x ≡ (if x == o then a else old x)
set_at old new o a here others x = elim (eqb_tells x o) [
  | inl same ↦ ap new same.1 ∙ here ∙ sym (ap (λ (b : Bool). if b then a else old x) same.0)
  | inr other ↦ others x (ne_eqb o x (λ is. other.1 (sym is))) ∙ sym (ap (λ (b : Bool). if b then a else old x) other.0)
]

-- what is true there
pub true_at : (old new : ℕ → Bool) (o : ℕ) → new o ≡ true → ((y : ℕ) → nat_eq o y ≡ false → new y ≡ old y) → (x : ℕ) → new x ≡ ((x == o) || old x)
true_at old new o here others x = elim (eqb_tells x o) [
  | inl same ↦ ap new same.1 ∙ here ∙ sym (ap (λ (b : Bool). b || old x) same.0)
  | inr other ↦ others x (ne_eqb o x (λ is. other.1 (sym is))) ∙ sym (ap (λ (b : Bool). b || old x) other.0)
]

-- a mark that is set
pub mark_set : (marks : List Bool) (o : ℕ) (mark : Bool) → o < length marks → (x : ℕ) → mark_at (slice_set marks o mark) x ≡ (if x == o then mark else mark_at marks x)
mark_set marks o mark below x = elim (eqb_tells x o) [
  | inl same ↦ get_or-set_at marks o x mark false same.1 below ∙ sym (ap (λ (b : Bool). if b then mark else mark_at marks x) same.0)
  | inr other ↦ get_or-set_other marks o x mark false other.1 ∙ sym (ap (λ (b : Bool). if b then mark else mark_at marks x) other.0)
]
