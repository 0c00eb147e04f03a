-- What an identity write leaves: the log's length, what parts and files show, and which objects are dirty.
use Rattle.std.proofs.Common.{◌≡◌, ◌∙◌, sym, subst, ap, ℕ, ◌+◌, ◌<◌, ◌≤◌, Bool, true, List, [], ◌∷◌, length, refl, arith, inl, inr, Option, Some}
use Rattle.std.specs.Prelude.{IsTrue, ◌^◌, ◌==◌, ◌||◌}
use Rattle.std.proofs.lemmas.Bool.{both_ways, cases_Bool, eqb-true, or_cases}
use Rattle.disk_model.specs.Disk.{Disk}
use Rattle.disk_model.specs.declared.machine.FileNo.TheVariants.{Objects}
use Rattle.oper_core.specs.Cell.{Cell}
use Rattle.oper_core.specs.Meaning.{Meaning}
use Rattle.oper_core.specs.State.{is_among}
use Rattle.formats.specs.Limits.{log_limit}
use Rattle.formats.specs.Objects.{cell_of}
use Rattle.formats.specs.Records.{record_code}
use Rattle.formats.specs.declared.params.Params.{Params}
use Rattle.log_blocks.specs.LogView.{LogView, end_with, used_of, growth_of}
use Rattle.log_records.specs.RecordLog.{RecordLogView}
use Rattle.dirty_cache.specs.Contents.{held, is_dirty}
use Rattle.dirty_cache.specs.declared.entry.Entry.{Entry as Pair}
use Rattle.explain_core.specs.History.Member.{Identity}
use Rattle.explain_core.specs.Sound.{IsSound}
use Rattle.explain_core.specs.World.{World, step, run}
use Rattle.explain_core.specs.World.Step.{Append}
use Rattle.running_store.specs.Steps.Appended.{appended_shows}
use Rattle.running_store.specs.Courses.{cached_length, identity_length, identity_steps}
use Rattle.running_store.specs.Courses.Growth.{code_length, end_more}
use Rattle.running_store.specs.Parts.Joins.{cached_shown}
use Rattle.running_store.specs.Laid.{Laid, cell_or, values_in}
use Rattle.running_store.specs.Calls.Logged.{HasPlace}
use Rattle.running_store.specs.Parts.{IsAppended, Parts, Shows, record_of}
use Rattle.running_store.specs.Parts.Stored.{run_one}

pub same_object : (x y : ℕ) → IsTrue (is_among y (x ∷ [])) → y ≡ x
same_object x y there = elim (or_cases (y == x) (is_among y []) there) [
  | inl here ↦ eqb-true y x here
  | inr none ↦ absurd (both_ways _ refl none)
]

module _ {O : Type 0} (m : Meaning O) (x : ℕ) (pair : Pair) (before after : Parts) (had : held before.volatile.objects.cache x ≡ Some pair)
    (done : IsAppended m before after (Identity x pair.bytes) (pair.bytes ∷ [])) where
  pub written_long : used_of after.log.log ≡ used_of before.log.log + growth_of before.log.log.pending (identity_length (length pair.bytes))
  written_long =
      let bytes = record_code m (record_of before.log.next (Identity x pair.bytes)) in
      let long : length bytes ≡ identity_length (length pair.bytes) = code_length m before.log.next (Identity x pair.bytes) in
      ap (λ (r : RecordLogView). used_of r.log) done.log
      ∙ end_more before.log.log.end before.log.log.pending bytes (omega (arith, long))
      ∙ ap (λ (k : ℕ). used_of before.log.log + growth_of before.log.log.pending k) long

  pub written_shows : (p : Params) (d : Disk) (v : World O) → Shows m p d before v → x < m.objects → length pair.bytes ≤ m.cap → before.log.next < 2 ^ 62
      → IsSound m (step m v (Append (Identity x (v.cache x).value))) → Shows m p d after (run m v (identity_steps m x v))
  written_shows p d v shows below short low sound =
      let value : (v.cache x).value ≡ pair.bytes = ap (λ (c : Cell). c.value) (cached_shown m p (d.reads Objects) before.volatile v shows.store x pair had) in
      let there : x < p.objects = shows.store.below x pair had in
      subst (λ (u : World O). Shows m p d after u) (sym (run_one m v (Append (Identity x (v.cache x).value))))
      (subst (λ (l : List ℕ). Shows m p d after (step m v (Append (Identity x l)))) (sym value)
      (appended_shows m p d before after (Identity x pair.bytes) (pair.bytes ∷ []) v shows done refl (λ y among. subst (λ (z : ℕ). z < p.objects) (sym (same_object x y among)) there)
      (omega (arith, low), below, short) low (subst (λ (l : List ℕ). IsSound m (step m v (Append (Identity x l)))) value sound)))

  -- the same objects are dirty
  pub written_dirty : is_dirty before.volatile.objects.cache x ≡ true → (y : ℕ) → is_dirty after.volatile.objects.cache y ≡ is_dirty before.volatile.objects.cache y
  written_dirty dirty y = elim (cases_Bool (is_among y (x ∷ []))) [
    | inl there ↦
        let was : is_dirty before.volatile.objects.cache y ≡ true = subst (λ (z : ℕ). is_dirty before.volatile.objects.cache z ≡ true) (sym (same_object x y there)) dirty in
        done.dirty y ∙ ap (λ (b : Bool). b || is_dirty before.volatile.objects.cache y) there ∙ sym was
    | inr left ↦ done.dirty y ∙ ap (λ (b : Bool). b || is_dirty before.volatile.objects.cache y) left
  ]

-- the value of a cached object
pub value_cached : (laid : Laid) (x : ℕ) (pair : Pair) (value : List ℕ) → held laid.cache x ≡ Some pair → ((file : List ℕ) → value ≡ values_in laid file x) → value ≡ pair.bytes
value_cached laid x pair value had is = is [] ∙ ap (λ (o : Option Pair). (cell_or o (cell_of x [])).value) had

-- a record of the value that is read has the bytes that the course says
pub course_length : {O : Type 0} (m : Meaning O) (p : Params) (d : Disk) (it : Parts) (w : World O) (x : ℕ) (pair : Pair) (value : List ℕ) → Shows m p d it w → held it.volatile.objects.cache x ≡ Some pair
    → ((file : List ℕ) → value ≡ values_in it.volatile.objects file x) → 17 + length value ≡ identity_length (cached_length m w x)
course_length m p d it w x pair value shows had is =
    ap (λ (l : List ℕ). 17 + length l) (value_cached it.volatile.objects x pair value had is ∙ ap (λ (c : Cell). c.value) (sym (cached_shown m p (d.reads Objects) it.volatile w shows.store x pair had)))

-- a record that fits into the log fits into its file
pub room_is_place : (log : LogView) (n k : ℕ) → n ≡ k → length log.pending + n ≤ 2 ^ 30 → used_of log + growth_of log.pending n ≤ log_limit → HasPlace log k
room_is_place log n k same room fits = record { block = omega (arith, room, same); file = in_file log.pending room fits }
  where
    in_file : (pending : List ℕ) → length pending + n ≤ 2 ^ 30 → end_with log.end pending + growth_of pending n ≤ log_limit → log.end + 5 + length pending + k < 2 ^ 49
    in_file [] room fits = omega (arith, fits, same)
    in_file (b ∷ bytes) room fits = omega (arith, fits, same)
