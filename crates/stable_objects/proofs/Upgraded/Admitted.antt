-- A store of version 2 in which the byte behind N is written.
use Rattle.std.proofs.Common.{◌≡◌, inl, inr, ◌<◌, ◌≤◌, ◌+◌, ◌-◌, ℕ, List, [], ◌∷◌, length, sym, ◌∙◌, ap, subst, arith}
use Rattle.std.specs.Prelude.{false, true, nat_lt}
use Rattle.std.proofs.lemmas.Bool.{cases_eq, lt-ltb}
use Rattle.disk_model.specs.Disk.{Disk, HoldsAt, In, IsSettled, LeavesOnly, Runs, Same, Torn}
use Rattle.disk_model.specs.Moments.{first_call, from_reads}
use Rattle.disk_model.specs.declared.machine.FileNo.TheVariants.{Objects}
use Rattle.oper_core.specs.declared.bounds.Bounds.{Bounds}
use Rattle.formats.specs.Bytes.{byte_at, number_at}
use Rattle.formats.specs.Objects.{BeginsStore, IsInRange, IsInForm, second_form, form_in, params_at, params_in, layout_in, place_in, last_slot}
use Rattle.formats.specs.declared.form.Form.{Form}
use Rattle.formats.specs.declared.layout.Layout.{Layout}
use Rattle.formats.specs.declared.params.Params.{Params}
use Rattle.stable_objects.specs.Upgrades.Admitting.{IsSecond, switch_place, with_more}
use Rattle.stable_objects.specs.Upgrades.Growing.{IsGrown, IsGrowing, IsStillOrGrown}
use Rattle.stable_objects.specs.Upgrades.Larger.{IsStill}
use Rattle.stable_objects.specs.LayoutLaws.{first_in, second_in, form_same}
use Rattle.stable_objects.specs.Replacing.{AgreesOutside}
use Rattle.stable_objects.specs.SlotsView.{SlotsView, AreOf}
use Rattle.stable_objects.proofs.Bytes.{byte_written}
use Rattle.stable_objects.proofs.Cells.{AreWholeBy, whole_in, cell_is_held}
use Rattle.stable_objects.proofs.Changed.{SlotStays}
use Rattle.stable_objects.proofs.Upgraded.Moved.{own_pair}
use Rattle.stable_objects.proofs.Outside.{torn_agrees, byte_beside, read_same, number_stays}
use Rattle.stable_objects.proofs.Upgraded.Staying.{slot_beside, still, still_held, still_whole}

module _ (slots : SlotsView) (old new : List ℕ) (are : AreOf slots old) (second : IsSecond slots) (fewer : slots.params.more ≡ false) (torn : Torn (switch_place slots) 1 old new) where
  abbrev older : Bounds
  older = record { objects = number_at 4 9 old; cap = number_at 4 13 old; more = false }

  version : byte_at 8 old ≡ 50
  version = elim (cases_eq (byte_at 8 old) 50) [
    | inl is ↦ is
    | inr other ↦ absurd (second (are.first ∙ ap (λ (f : Form). f.first) (first_in old other)))
  ]

  was : form_in old ≡ second_form older
  was = second_in old version

  abbrev numbers : ℕ
  numbers = (form_in old).numbers

  -- the byte stands behind N, and the slots behind it
  here : switch_place slots ≡ numbers + 3
  here = omega (arith, are.first, ap (λ (f : Form). f.first) was, ap (λ (f : Form). f.numbers) was)

  behind : numbers + 32 ≡ (form_in old).first
  behind = omega (arith, ap (λ (f : Form). f.first) was, ap (λ (f : Form). f.numbers) was)

  header : 32 ≤ numbers
  header = omega (arith, ap (λ (f : Form). f.numbers) was)

  reach : (form_in old).first ≤ length old
  reach = omega (arith, are.whole.whole)

  agrees : AgreesOutside (switch_place slots) 1 old new
  agrees = torn_agrees (switch_place slots) 1 old new torn

  early : (k place : ℕ) → place + k ≤ numbers + 3 → number_at k place new ≡ number_at k place old
  early k place within = number_stays (switch_place slots) 1 old new agrees place k (inl (omega (arith, within, here), omega (arith, within, behind, reach)))

  late : (k place : ℕ) → numbers + 4 ≤ place → number_at k place new ≡ number_at k place old
  late k place le = number_stays (switch_place slots) 1 old new agrees place k (inr (omega (arith, le, here)))

  same_version : byte_at 8 new ≡ byte_at 8 old
  same_version = agrees.before 8 (omega (arith, header, behind, reach)) (omega (arith, header, here))

  form : form_in new ≡ form_in old
  form = form_same new old same_version (early 4 9 (omega (arith, header))) (early 4 13 (omega (arith, header)))

  begins : BeginsStore new
  begins = read_same (switch_place slots) 1 old new agrees 0 8 (inl (omega (arith, header, here), omega (arith, header, behind, reach))) ∙ are.whole.begins

  -- but for the switch, the numbers are those that were there
  params : (more : _) → nat_lt 0 (byte_at (numbers + 3) new) ≡ more → params_in new ≡ record { objects = (params_in old).objects; cap = (params_in old).cap; limit = (params_in old).limit; more = more }
  params more is =
      let objects = early 3 numbers (omega arith) in
      let cap = late 4 (numbers + 4) (omega arith) in
      let limit = late 4 (numbers + 8) (omega arith) in
      ap (λ (f : Form). params_at f.numbers new) form ∙ (λ i. record { objects = objects i; cap = cap i; limit = limit i; more = is i })

  each : (y t : ℕ) → y < slots.params.objects → t < 2 → SlotStays slots.params.cap (place_in old y t) old new
  each y t below two =
      let place = place_in old y t in
      let there : switch_place slots + 1 ≤ place = omega (arith, here, behind) in
      slot_beside slots.params.cap (switch_place slots) 1 place old new agrees (byte_beside (switch_place slots) 1 old new agrees place (inr there)) (λ is_open k m some fits. inr (omega (arith, there))) (are.whole.slots.each y t below two)

  -- it is 0
  module _ (zero : byte_at (numbers + 3) new ≡ 0) where
    unset : (params_in old).more ≡ false
    unset = ap (λ (p : Params). p.more) are.whole.params ∙ fewer

    same_params : params_in new ≡ params_in old
    same_params = params false (ap (λ (b : ℕ). nat_lt 0 b) zero) ∙ (λ i. record { objects = (params_in old).objects; cap = (params_in old).cap; limit = (params_in old).limit; more = sym unset i })

    pub switch_is_unset : IsStill slots old new
    switch_is_unset = still slots old new are each begins form (λ i. record { params = same_params i; first = (form i).first }) agrees.no_shorter

  -- it is any other byte
  module _ (some : 0 < byte_at (numbers + 3) new) where
    abbrev now : Layout
    now = record { params = with_more (params_in old); first = (form_in old).first }

    layout : layout_in new ≡ now
    layout = λ i. record { params = params true (lt-ltb 0 (byte_at (numbers + 3) new) some) i; first = (form i).first }

    range : IsInRange (with_more slots.params)
    range =
        let is = are.whole.in_range in
        record { some = is.some; objects = is.objects; low = is.low; cap = is.cap; least = is.least; limit = is.limit }

    fits : IsInForm (form_in old) (with_more slots.params)
    fits =
        let is = are.whole.in_form in
        record {
          older_objects = is.older_objects;
          older_cap = is.older_cap;
          no_fewer = is.no_fewer;
          objects = is.objects;
          no_shorter = is.no_shorter;
          cap = is.cap;
          more = λ set. ap (λ (f : Form). f.most.more) was;
        }

    whole : AreWholeBy now (with_more slots.params) new
    whole = let slots_whole = still_whole slots old new are each in record { each = slots_whole.each; apart = slots_whole.apart }

    pub switch_is_set : IsGrown slots.params (with_more slots.params) old new
    switch_is_set = record {
      version = same_version ∙ version;
      whole = record {
        begins = begins;
        params = ap (λ (l : Layout). l.params) layout ∙ ap with_more are.whole.params;
        in_range = range;
        in_form = subst (λ (f : Form). IsInForm f (with_more slots.params)) (sym form) fits;
        whole = subst (λ (l : Layout). last_slot l < length new) (sym layout) (omega (arith, are.whole.whole, agrees.no_shorter));
        slots = whole_in now (with_more slots.params) new layout whole;
      };
      cells = λ x below. cell_is_held now x new layout ∙ still_held slots old new are each x below ∙ sym (own_pair slots.params old x below);
    }

  pub either_version : IsStillOrGrown slots (with_more slots.params) old new
  either_version = elim (cases_eq (byte_at (numbers + 3) new) 0) [
    | inl zero ↦ inl (switch_is_unset zero)
    | inr some ↦ inr (switch_is_set (omega (arith, some)))
  ]

  -- the byte that is written
  pub now_set : HoldsAt (switch_place slots) (1 ∷ []) old new → IsGrown slots.params (with_more slots.params) old new
  now_set holds =
      let byte : byte_at (switch_place slots) new ≡ 1 = ap (λ (l : List ℕ). byte_at (switch_place slots) l) holds ∙ byte_written (switch_place slots) 1 old in
      let there : byte_at (numbers + 3) new ≡ 1 = ap (λ (j : ℕ). byte_at j new) (sym here) ∙ byte in
      switch_is_set (omega (arith, there))

-- a write at the place that was computed
pub at_switch : (at place : ℕ) (old new : Disk) → at ≡ place → Runs (In Objects (Torn at 1)) Same old new → Runs (In Objects (Torn place 1)) Same old new
at_switch at place old new same run = subst (λ (p : ℕ). Runs (In Objects (Torn p 1)) Same old new) same run

-- a crash leaves it torn or done
pub admitting : (slots : SlotsView) (old new : Disk) → old.tells_moments → IsSettled old → AreOf slots (old.reads Objects) → IsSecond slots → slots.params.more ≡ false
    → Runs (In Objects (Torn (switch_place slots) 1)) Same old new → LeavesOnly old new (IsGrowing old slots (with_more slots.params))
admitting slots old new told settled are second fewer run = first_call old new (IsGrowing old slots (with_more slots.params)) told run.time (λ c s left.
    let from = from_reads old new (In Objects (Torn (switch_place slots) 1)) Same told settled run.crash c s left in
    record { objects = either_version slots (old.reads Objects) (c Objects) are second fewer from.0.changed; others = from.0.others; silent = from.1 })
