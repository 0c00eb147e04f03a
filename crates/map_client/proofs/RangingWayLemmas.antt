-- The way to a leaf: how it begins, goes on, and meets a bad page.
use Rattle.std.proofs.Common.{◌≡◌, ◌≤◌, ◌<◌, refl, sym, ap, ◌∙◌, subst, ℕ, zero, suc, ◌+◌, ◌-◌, ◌==◌, Bool, false, ◌&&◌, if◌then◌else◌, Option, None, Some, Result, Ok, Err, List, option_and_then, option_map, arith}
use Rattle.oper_core.specs.State.{State}
use Rattle.key_entries.specs.EntryLaws.{if_some, same_some}
use Rattle.page_ops.specs.Reading.{level_in, opens}
use Rattle.page_map.specs.Map.{Span, all_keys, bytes_at}
use Rattle.page_map.specs.Ranges.{Stop, at_step, stop, stop_from}
use Rattle.page_map.specs.Steps.{Step, next_end, span_of_step, step_in, step_to}
use Rattle.page_map.specs.Walk.{child_in, is_on}
use Rattle.map_client.specs.Answers.{MapErr, bad_map, or_bad, told}
use Rattle.map_client.specs.Ranging.{step_by}
use Rattle.map_client.specs.RangingWay.{IsOnWay}
use Rattle.map_client.specs.Reading.{level_of}
use Rattle.map_client.proofs.RangingLemmas.{step_bad, step_found}
use Rattle.map_client.proofs.WalkLemmas.{child_within, none_opens, was_bad, was_read}

-- a step leads to an object of the range
module _ (lo hi : ℕ) (bytes : List ℕ) (to : Option (List ℕ)) (step : Step) where
  object_of : (i child : ℕ) (o : Option (Option (List ℕ))) → option_map (step_to bytes i child) o ≡ Some step → step.object ≡ child
  object_of i child None is = cc
  object_of i child (Some end) is = sym (ap (λ (t : Step). t.object) (same_some (step_to bytes i child end) step is))

  at_within : (i : ℕ) → step_in lo hi bytes to i ≡ Some step → step.object ≤ hi
  at_within i is = by_child (child_in lo hi bytes i) refl is
    where
      by_child : (o : Option ℕ) → child_in lo hi bytes i ≡ o → option_and_then (λ child. option_map (step_to bytes i child) (next_end bytes to i)) o ≡ Some step → step.object ≤ hi
      by_child None at_cell is = cc
      by_child (Some child) at_cell is = subst (λ (x : ℕ). x ≤ hi) (sym (object_of i child (next_end bytes to i) is)) (child_within lo hi bytes (Some i) child at_cell)

  place_within : (place : Option ℕ) → option_and_then (step_in lo hi bytes to) place ≡ Some step → step.object ≤ hi
  place_within None is = cc
  place_within (Some i) is = at_within i is

  step_within : (level : ℕ) (place : Option ℕ) → (if is_on level bytes then option_and_then (step_in lo hi bytes to) place else None) ≡ Some step → step.object ≤ hi
  step_within level place is = place_within place (if_some (is_on level bytes) (option_and_then (step_in lo hi bytes to) place) step is).1

module _ (lo hi : ℕ) (s : State) (choose : List ℕ → Option ℕ) where
  abbrev at : ℕ → List ℕ
  at x = bytes_at lo s x

  abbrev way : ℕ → ℕ → Span → Result Stop ℕ
  way = stop_from lo hi s choose

  -- from an object that is no page
  no_page : (level x : ℕ) (span : Span) → opens (at x) ≡ false → way level x span ≡ Err x
  no_page zero x span shut =
      let here : Result Stop ℕ = Ok (record { object = x; span = span }) in
      ap (λ (t : Bool). if t && (level_in (at x) == 0) then here else Err x) shut
  no_page (suc level) x span shut =
      ap (λ (t : Bool). if t && (level_in (at x) == suc level) then at_step (way level) x span (option_and_then (step_in lo hi (at x) span.to) (choose (at x))) else Err x) shut

  -- it begins at the root, or that is bad
  pub way_begins : (level : ℕ) → lo ≤ hi → Ok level ≡ or_bad lo (level_of (at lo)) → IsOnWay lo hi s choose level lo all_keys
  way_begins level order is =
      let begun = if_some (opens (at lo)) (Some (level_in (at lo))) level (was_read lo (level_of (at lo)) level is) in
      record {
        goes_on = ap (λ (l : ℕ). way l lo all_keys) (same_some (level_in (at lo)) level begun.1);
        within = order;
      }

  pub begins_bad : (e : MapErr) → Err e ≡ or_bad lo (level_of (at lo)) → told (stop lo hi s choose) ≡ Err e
  begins_bad e is =
      let bad = was_bad lo (level_of (at lo)) e is in
      ap told (no_page (level_in (at lo)) lo all_keys (none_opens (at lo) bad.0)) ∙ ap (λ (o : MapErr). Err o) (sym bad.1)

  module _ (levels step x : ℕ) (span : Span) (left : step < levels) (on : IsOnWay lo hi s choose (levels - step) x span) where
    one_less : levels - step ≡ suc (levels - (step + 1))
    one_less = omega (arith, left)

    -- it goes on to a child, or the page is bad
    pub way_goes_on : (down : Step) → step_by lo hi choose (levels - step) (at x) span.to ≡ Some down → (child : ℕ) → child ≡ down.object → (next : Span) → next ≡ span_of_step span.to down
        → IsOnWay lo hi s choose (levels - (step + 1)) child next
    way_goes_on down is child same next same_span =
        let below : step_by lo hi choose (suc (levels - (step + 1))) (at x) span.to ≡ Some down = ap (λ (l : ℕ). step_by lo hi choose l (at x) span.to) (sym one_less) ∙ is in
        record {
          goes_on = on.goes_on ∙ ap (λ (l : ℕ). way l x span) one_less ∙ step_found lo hi s choose (levels - (step + 1)) x span down below
              ∙ (λ k. way (levels - (step + 1)) (sym same k) (sym same_span k));
          within = subst (λ (y : ℕ). y ≤ hi) (sym same) (step_within lo hi (at x) span.to down (levels - step) (choose (at x)) is);
        }

    pub way_bad : (e : MapErr) → (step_by lo hi choose (levels - step) (at x) span.to ≡ None) × (e ≡ bad_map x) → told (stop lo hi s choose) ≡ Err e
    way_bad e bad =
        let below : step_by lo hi choose (suc (levels - (step + 1))) (at x) span.to ≡ None = ap (λ (l : ℕ). step_by lo hi choose l (at x) span.to) (sym one_less) ∙ bad.0 in
        ap told (on.goes_on ∙ ap (λ (l : ℕ). way l x span) one_less ∙ step_bad lo hi s choose (levels - (step + 1)) x span below) ∙ ap (λ (o : MapErr). Err o) (sym bad.1)
