-- The way to a leaf, one page after the other, with the span of its keys.
use Rattle.std.proofs.Common.{◌≡◌, refl, ap, ◌∙◌, ℕ, suc, true, false, if◌then◌else◌, Option, None, Some, Result, Err, List, option_and_then}
use Rattle.std.proofs.lemmas.Bool.{cond-true}
use Rattle.oper_core.specs.State.{State}
use Rattle.key_entries.specs.EntryLaws.{if_some}
use Rattle.page_map.specs.Map.{Span, bytes_at}
use Rattle.page_map.specs.Ranges.{Stop, at_step, stop_from}
use Rattle.page_map.specs.Steps.{Step, span_of_step, step_in}
use Rattle.page_map.specs.Walk.{is_on}
use Rattle.map_client.specs.Ranging.{step_by}

module _ (lo hi : ℕ) (s : State) (choose : List ℕ → Option ℕ) (level x : ℕ) (span : Span) where
  abbrev on : ℕ → Span → Result Stop ℕ
  on = stop_from lo hi s choose level

  abbrev next : Option Step
  next = option_and_then (step_in lo hi (bytes_at lo s x) span.to) (choose (bytes_at lo s x))

  -- it goes on below a page, or the page is bad
  pub step_found : (step : Step) → step_by lo hi choose (suc level) (bytes_at lo s x) span.to ≡ Some step → stop_from lo hi s choose (suc level) x span ≡ on step.object (span_of_step span.to step)
  step_found step is =
      let there = if_some (is_on (suc level) (bytes_at lo s x)) next step is in
      cond-true (is_on (suc level) (bytes_at lo s x)) (at_step on x span next) (Err x) there.0 ∙ ap (at_step on x span) there.1

  pub step_bad : step_by lo hi choose (suc level) (bytes_at lo s x) span.to ≡ None → stop_from lo hi s choose (suc level) x span ≡ Err x
  step_bad is =
      elim (is_on (suc level) (bytes_at lo s x)) as (λ t. (if t then next else None) ≡ None → (if t then at_step on x span next else Err x) ≡ Err x) [
        | true ↦ λ e. ap (at_step on x span) e
        | false ↦ λ e. refl
      ] is
