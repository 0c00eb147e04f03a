use Rattle.std.proofs.Common.{sym, ap, ◌∙◌, ℕ, Option, None, Some, List, option_map}
use Rattle.page_map.specs.Steps.{Step, beside_in, step_seen}
use Rattle.map_client.specs.Tidying.{both_seen}
use Rattle.map_client.proofs.TidyLemmas.{both_is, some_mapped}
use Rattle.map_client.proofs.tidying.both_on.Goals as goal

-- the child beside does not fit
pub returns-in_err-beside : goal.returns-in_err-beside
returns-in_err-beside c =
    let lo = c.args.map.now.lo in
    let hi = c.args.map.now.hi in
    let to : Option (List ℕ) = option_map (λ end. end.now) c.args.to in
    let step : Step = step_seen c.in_ok-step.step in
    ap (option_map both_seen) c.from_residual-in_err-beside.ensures
    ∙ both_is lo hi c.args.bytes.now c.in_ok-page.page to c.args.key.now step None (sym c.in_ok-page.ensures.there) c.in_ok-page.ensures.page c.in_ok-step.ensures
    (c.in_err-beside.ensures ∙ ap (beside_in lo hi c.in_ok-page.page step.place) (c.is_some.ensures ∙ some_mapped (λ e. e.now) c.in_ok-step.step.end))

pub returns : goal.returns
returns c =
    let lo = c.args.map.now.lo in
    let hi = c.args.map.now.hi in
    let to : Option (List ℕ) = option_map (λ end. end.now) c.args.to in
    let step : Step = step_seen c.in_ok-step.step in
    both_is lo hi c.args.bytes.now c.in_ok-page.page to c.args.key.now step (Some c.in_ok-beside.beside) (sym c.in_ok-page.ensures.there) c.in_ok-page.ensures.page c.in_ok-step.ensures
    (c.in_ok-beside.ensures ∙ ap (beside_in lo hi c.in_ok-page.page step.place) (c.is_some.ensures ∙ some_mapped (λ e. e.now) c.in_ok-step.step.end))
