-- While the gates of several nodes are opened together, each image shows the world after the opening of some of them.
use Rattle.std.proofs.Common.{◌≡◌, ◌∙◌, sym, ap, subst, ℕ, Bool, true, false, List, [], ◌∷◌, refl, inl, inr, ◌⊎◌}
use Rattle.std.specs.Prelude.{◌==◌, ◌||◌, ◌&&◌, IsTrue, if◌then◌else◌}
use Rattle.std.proofs.Math.Path.{fun_ext}
use Rattle.std.proofs.lemmas.Bool.{cases_Bool, cases_lt, cond-false, cond-true, eqb-true}
use Rattle.disk_model.specs.Disk.{Files, OthersStay}
use Rattle.disk_model.specs.declared.machine.FileNo.TheVariants.{Objects}
use Rattle.oper_core.specs.Cell.{Cell}
use Rattle.oper_core.specs.Meaning.{Meaning}
use Rattle.oper_core.specs.State.{is_among}
use Rattle.formats.specs.declared.params.Params.{Params}
use Rattle.stable_objects.specs.Ready.{AreOldOrNew}
use Rattle.explain_core.specs.RoundGates.{Gate, gate_step, gates_of, picked}
use Rattle.explain_core.specs.RunLaws.{begins-gates}
use Rattle.explain_core.specs.Stable.{Stable, stable_of}
use Rattle.explain_core.specs.World.{World, run, step}
use Rattle.standing.specs.Moments.{ShowsSome}
use Rattle.standing.specs.Standing.{FilesShow, HoldsStable, stored}
use Rattle.running_store.specs.Steps.Installed.{stored_past}
use Rattle.running_store.specs.Parts.Joins.{stored_here}
use Rattle.running_store.specs.Parts.Stored.{log_beside}

-- the objects that the gates flush
abbrev pub objects_of : List Gate → List ℕ
objects_of [] = []
objects_of (g ∷ gates) = g.object ∷ objects_of gates

-- a choice by the object alone
abbrev pub by_object : (ℕ → Bool) → List Gate → List Bool
by_object is_new [] = []
by_object is_new (g ∷ gates) = is_new g.object ∷ by_object is_new gates

-- the slots after some gates
abbrev pub slots_after : {O : Type 0} → World O → List Gate → ℕ → Cell
slots_after w gates y = if is_among y (objects_of gates) then w.cache y else w.slots y

cond_or : {A : Type 0} (b c : Bool) (x y : A) → (if b || c then x else y) ≡ (if c then x else (if b then x else y))
cond_or true true x y = refl
cond_or true false x y = refl
cond_or false c x y = refl

module _ {O : Type 0} (m : Meaning O) where
  here_is : (w : World O) (x y : ℕ) → (if y == x then w.cache x else w.slots y) ≡ (if y == x then w.cache y else w.slots y)
  here_is w x y = elim (cases_Bool (y == x)) [
    | inl same ↦ cond-true (y == x) (w.cache x) (w.slots y) same ∙ ap w.cache (sym (eqb-true y x same)) ∙ sym (cond-true (y == x) (w.cache y) (w.slots y) same)
    | inr other ↦ cond-false (y == x) (w.cache x) (w.slots y) other ∙ sym (cond-false (y == x) (w.cache y) (w.slots y) other)
  ]

  -- the world after the gates: the slots of their objects have the cache's cells, and their nodes are installed
  pub run_gates : (w : World O) (gates : List Gate) → (installed : ℕ → Bool) × (run m w (gates_of gates) ≡ record w { slots = slots_after w gates; installed = installed })
  unfolding run step
  run_gates w [] = (w.installed, refl)
  run_gates w (g ∷ gates) =
      let here : slots_after (step m w (gate_step g)) gates ≡ slots_after w (g ∷ gates) = fun_ext (λ (y : ℕ).
      ap (λ (c : Cell). if is_among y (objects_of gates) then w.cache y else c) (here_is w g.object y) ∙ sym (cond_or (y == g.object) (is_among y (objects_of gates)) (w.cache y) (w.slots y))) in
      let more = run_gates (step m w (gate_step g)) gates in
      (more.0, more.1 ∙ ap (λ (slots : ℕ → Cell). record w { slots = slots; installed = more.0 }) here)

  -- and what is stable then
  stable_after : (w : World O) (gates : List Gate) → stable_of (run m w (gates_of gates)) ≡ record (stable_of w) { slots = slots_after w gates }
  stable_after w gates = ap stable_of (run_gates w gates).1

and_off : (b c : Bool) → c ≡ false → (b && c) ≡ false
and_off true c off = off
and_off false c off = refl

-- one gate more
new_one : (is_new : ℕ → Bool) (g : Gate) (gates : List Gate) (y : ℕ) → is_among y (objects_of (picked (by_object is_new gates) gates)) ≡ (is_among y (objects_of gates) && is_new y)
    → (b : Bool) → is_new g.object ≡ b → is_among y (objects_of (picked (b ∷ by_object is_new gates) (g ∷ gates))) ≡ (((y == g.object) || is_among y (objects_of gates)) && is_new y)
new_one is_new g gates y more true chosen = elim (cases_Bool (y == g.object)) [
  | inl same ↦
      ap (λ (b : Bool). b || is_among y (objects_of (picked (by_object is_new gates) gates))) same
      ∙ sym (ap (λ (b : Bool). (b || is_among y (objects_of gates)) && is_new y) same ∙ ap is_new (eqb-true y g.object same) ∙ chosen)
  | inr other ↦
      ap (λ (b : Bool). b || is_among y (objects_of (picked (by_object is_new gates) gates))) other ∙ more
      ∙ sym (ap (λ (b : Bool). (b || is_among y (objects_of gates)) && is_new y) other)
]
new_one is_new g gates y more false left = elim (cases_Bool (y == g.object)) [
  | inl same ↦
      let off : is_new y ≡ false = ap is_new (eqb-true y g.object same) ∙ left in
      more ∙ and_off (is_among y (objects_of gates)) (is_new y) off ∙ sym (and_off ((y == g.object) || is_among y (objects_of gates)) (is_new y) off)
  | inr other ↦ more ∙ sym (ap (λ (b : Bool). (b || is_among y (objects_of gates)) && is_new y) other)
]

-- of the gates those whose objects are new are picked
new_among : (is_new : ℕ → Bool) (gates : List Gate) (y : ℕ) → is_among y (objects_of (picked (by_object is_new gates) gates)) ≡ (is_among y (objects_of gates) && is_new y)
new_among is_new [] y = refl
new_among is_new (g ∷ gates) y = new_one is_new g gates y (new_among is_new gates y) (is_new g.object) refl

abbrev is_second : {A B : Type 0} → A ⊎ B → Bool
is_second (inl a) = false
is_second (inr b) = true

module _ {O : Type 0} (m : Meaning O) (p : Params) (old : Files) (w : World O) (shows : FilesShow m p old w) (gates : List Gate) (pairs : ℕ → Cell)
    (cached : (x : ℕ) → IsTrue (is_among x (objects_of gates)) → w.cache x ≡ pairs x) where
  -- an object has what its slot had, or it is one of these and has what the cache has
  abbrev Either : Files → ℕ → Type 0
  Either files y = (stored p (files Objects) y ≡ w.slots y) ⊎ (IsTrue (is_among y (objects_of gates)) × (stored p (files Objects) y ≡ w.cache y))

  either : (files : Files) → AreOldOrNew p (objects_of gates) pairs (old Objects) (files Objects) → (y : ℕ) → Either files y
  either files is y = elim (cases_lt y p.objects) [
    | inr past ↦ inl (stored_past p (files Objects) y past ∙ sym (stored_past p (old Objects) y past) ∙ shows.cells y)
    | inl below ↦ elim (cases_Bool (is_among y (objects_of gates))) [
      | inr off ↦ inl (stored_here p (files Objects) y below ∙ is.others y below off ∙ sym (stored_here p (old Objects) y below) ∙ shows.cells y)
      | inl among ↦ elim (is.each y below among) [
        | inl same ↦ inl (stored_here p (files Objects) y below ∙ same ∙ sym (stored_here p (old Objects) y below) ∙ shows.cells y)
        | inr new ↦ inr (among, stored_here p (files Objects) y below ∙ new ∙ sym (cached y among))
      ]
    ]
  ]

  -- the files of such a moment show the world after the gates of the objects that are new
  module _ (files : Files) (is : AreOldOrNew p (objects_of gates) pairs (old Objects) (files Objects)) (others : OthersStay Objects old files) where
    is_new : ℕ → Bool
    is_new y = is_second (either files is y)

    which : List Bool
    which = by_object is_new gates

    some : List Gate
    some = picked which gates

    by_choice : (y : ℕ) (e : Either files y) → is_second (either files is y) ≡ is_second e → stored p (files Objects) y ≡ slots_after w some y
    unfolding some which is_new
    by_choice y (inl same) choice =
        same
        ∙ sym (cond-false (is_among y (objects_of some)) (w.cache y) (w.slots y) (new_among is_new gates y ∙ and_off (is_among y (objects_of gates)) (is_second (either files is y)) choice))
    by_choice y (inr new) choice =
        new.1
        ∙ sym (cond-true (is_among y (objects_of some)) (w.cache y) (w.slots y) (new_among is_new gates y ∙ (λ i. new.0 i && choice i)))

    held : HoldsStable m p files (record (stable_of w) { slots = slots_after w some })
    held = record {
      objects = is.whole;
      cells = λ y. by_choice y (either files is y) refl;
      active = shows.active;
      header = shows.header;
      groups = shows.groups;
      log = log_beside m p shows.active old files others shows.groups shows.log;
      base = shows.base;
      commands_before = shows.commands_before;
      members = shows.members;
      tables = shows.tables;
    }

    pub image_of_gates : ShowsSome m p w (gates_of gates) files
    unfolding some which is_new
    image_of_gates = record { taken = gates_of some; begins = begins-gates gates which; holds = subst (λ (s : Stable O). HoldsStable m p files s) (sym (stable_after m w some)) held }
