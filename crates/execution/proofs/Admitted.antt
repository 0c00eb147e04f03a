-- What an operation reads and writes in a store, and what refuses it.
use Rattle.std.proofs.Common.{◌≡◌, ◌<◌, ◌≤◌, ℕ, List, [], ◌∷◌, length, map, refl, sym, ap, ◌∙◌, subst}
use Rattle.std.specs.Prelude.{All, Option, None, Some}
use Rattle.std.proofs.lemmas.List.Elements.{All-head, All-tail}
use Rattle.disk_model.specs.Disk.{Disk}
use Rattle.disk_model.specs.declared.machine.FileNo.TheVariants.{Objects}
use Rattle.oper_core.specs.Cell.{Cell}
use Rattle.oper_core.specs.State.{State}
use Rattle.oper_core.specs.Meaning.{Meaning, HasBounds, IsSmall, IsLawful, IsInGrammar, FitsReads, or_else, read_values, refusal_of}
use Rattle.oper_core.specs.declared.bounds.Bounds.{Bounds}
use Rattle.oper_core.specs.declared.refusal.Refusal.{Refusal}
use Rattle.formats.specs.Objects.{IsInRange, bounds_of}
use Rattle.formats.specs.declared.params.Params.{Params}
use Rattle.explain_core.specs.World.{World}
use Rattle.running_store.specs.Laid.Among.{small_bounds}
use Rattle.running_store.specs.Calls.Commands.{IsReady}
use Rattle.running_store.specs.Parts.Joins.{cell_shown}
use Rattle.running_store.specs.Laid.{Laid, IsLaidOn, values_in}
use Rattle.running_store.specs.Parts.{Parts, Shows, meaning_in}
use Rattle.execution.specs.Courses.{refusal_in}

or_same : (first one other : Option Refusal) → (first ≡ None → one ≡ other) → or_else first one ≡ or_else first other
or_same None one other same = same refl
or_same (Some r) one other same = refl

or_none : (first second : Option Refusal) → first ≡ None → or_else first second ≡ second
or_none first second none = ap (λ (o : Option Refusal). or_else o second) none

-- two states with the same values at these objects
same_values : (n : ℕ) (objects : List ℕ) (one other : State) → All (λ x. x < n) objects → ((x : ℕ) → x < n → one x ≡ other x) → map one objects ≡ map other objects
same_values n [] one other below same = refl
same_values n (x ∷ objects) one other below same =
    let first = same x (All-head (λ y. y < n) x objects below) in
    let rest = same_values n objects one other (All-tail (λ y. y < n) x objects below) same in
    λ i. first i ∷ rest i

module _ {O : Type 0} (meaning : Bounds → Meaning O) where
  module _ (p : Params) (op : O) where
    -- the values that an operation reads of a store's objects
    pub own_read : (file : List ℕ) (laid : Laid) (objects : List ℕ) (values : List (List ℕ)) → objects ≡ (meaning_in meaning p).reads op → values ≡ map (values_in laid file) objects
        → values ≡ read_values (meaning_in meaning p) (values_in laid file) op
    own_read file laid objects values are read = read ∙ ap (map (values_in laid file)) are

    -- what its check says of them is what refuses it
    pub refused_by_check : (b : Bounds) → b ≡ bounds_of p → (s : State) (values : List (List ℕ)) (answer : Option Refusal) → None ≡ (meaning b).shape op → values ≡ read_values (meaning_in meaning p) s op
        → answer ≡ (meaning b).check op values → refusal_of (meaning_in meaning p) s op ≡ answer
    refused_by_check b own s values answer shape read is =
        or_none ((meaning_in meaning p).shape op) ((meaning_in meaning p).check op (read_values (meaning_in meaning p) s op)) (subst (λ (x : Bounds). (meaning x).shape op ≡ None) own (sym shape))
        ∙ ap (λ (l : List (List ℕ)). (meaning_in meaning p).check op l) (sym read) ∙ subst (λ (x : Bounds). (meaning x).check op values ≡ answer) own (sym is)

  module _ (bounded : (b : Bounds) → HasBounds b (meaning b)) (lawful : (b : Bounds) → IsSmall b → IsLawful (meaning b)) where
    module _ (p : Params) (range : IsInRange p) (op : O) (grammar : IsInGrammar (meaning_in meaning p) op) where
      abbrev law : IsLawful (meaning_in meaning p)
      law = lawful (bounds_of p) (small_bounds p range)

      objects_are : (meaning_in meaning p).objects ≡ p.objects
      objects_are = (bounded (bounds_of p)).objects

      cap_is : (meaning_in meaning p).cap ≡ p.cap
      cap_is = (bounded (bounds_of p)).cap

      -- the objects that it reads are there
      pub reads_below : All (λ x. x < p.objects) ((meaning_in meaning p).reads op)
      reads_below = subst (λ (n : ℕ). All (λ x. x < n) ((meaning_in meaning p).reads op)) objects_are (law.reads_below op grammar)

      -- and those that it writes
      pub writes_there : (objects : List ℕ) → objects ≡ (meaning_in meaning p).writes op → All (λ x. x < p.objects) objects
      writes_there objects are = subst (λ (l : List ℕ). All (λ x. x < p.objects) l) (sym are)
          (subst (λ (n : ℕ). All (λ x. x < n) ((meaning_in meaning p).writes op)) objects_are (law.writes_below op grammar))

      -- the values read are as many, and none is too long
      pub values_fit : (objects : List ℕ) (values : List (List ℕ)) → objects ≡ (meaning_in meaning p).reads op → length values ≡ length objects → All (λ v. length v ≤ p.cap) values
          → FitsReads (meaning_in meaning p) op values
      values_fit objects values are count short = record {
        count = count ∙ ap (λ (l : List ℕ). length l) are;
        short = subst (λ (n : ℕ). All (λ v. length v ≤ n) values) (sym cap_is) short;
      }

    module _ (p : Params) (d : Disk) (it : Parts) (w : World O) (shows : Shows (meaning_in meaning p) p d it w) where
      pub range_shown : IsInRange p
      range_shown = subst (λ (q : Params). IsInRange q) shows.store.params shows.store.laid.slots.whole.in_range

      -- an operation reads what it reads in the world
      same_read : (op : O) → IsInGrammar (meaning_in meaning p) op
          → read_values (meaning_in meaning p) (values_in it.volatile.objects (d.reads Objects)) op ≡ read_values (meaning_in meaning p) (λ x. (w.cache x).value) op
      same_read op grammar = same_values p.objects ((meaning_in meaning p).reads op) (values_in it.volatile.objects (d.reads Objects)) (λ x. (w.cache x).value) (reads_below p range_shown op grammar)
          (λ x below. ap (λ (c : Cell). c.value) (cell_shown (meaning_in meaning p) p (d.reads Objects) it.volatile w shows.store x below))

      -- and is refused as it is there
      same_refusal : (op : O) → refusal_of (meaning_in meaning it.volatile.objects.slots.params) (values_in it.volatile.objects (d.reads Objects)) op ≡ refusal_in (meaning_in meaning p) w op
      same_refusal op =
          ap (λ (q : Params). refusal_of (meaning_in meaning q) (values_in it.volatile.objects (d.reads Objects)) op) shows.store.params
          ∙ or_same ((meaning_in meaning p).shape op) _ _ (λ grammar. ap (λ (l : List (List ℕ)). (meaning_in meaning p).check op l) (same_read op grammar))

      pub refused_here : (op : O) (r : Refusal)
          → (d.tells_files → IsLaidOn it.volatile.objects (d.reads Objects) → refusal_of (meaning_in meaning it.volatile.objects.slots.params) (values_in it.volatile.objects (d.reads Objects)) op ≡ Some r)
          → refusal_in (meaning_in meaning p) w op ≡ Some r
      refused_here op r refused = sym (same_refusal op) ∙ refused shows.told shows.store.laid

      module _ (op : O) (values : List (List ℕ)) (ready : IsReady meaning it.volatile.objects.slots.params op values)
          (read : values ≡ read_values (meaning_in meaning it.volatile.objects.slots.params) (values_in it.volatile.objects (d.reads Objects)) op) where
        pub ready_here : IsReady meaning p op values
        ready_here = subst (λ (q : Params). IsReady meaning q op values) shows.store.params ready

        pub read_here : values ≡ read_values (meaning_in meaning p) (λ x. (w.cache x).value) op
        read_here = read ∙ ap (λ (q : Params). read_values (meaning_in meaning q) (values_in it.volatile.objects (d.reads Objects)) op) shows.store.params ∙ same_read op ready_here.shape

        -- one that is admitted is not refused there
        pub accepted : refusal_in (meaning_in meaning p) w op ≡ None
        accepted =
            or_none ((meaning_in meaning p).shape op) ((meaning_in meaning p).check op (read_values (meaning_in meaning p) (λ x. (w.cache x).value) op)) ready_here.shape
            ∙ ap (λ (l : List (List ℕ)). (meaning_in meaning p).check op l) (sym read_here) ∙ ready_here.check
