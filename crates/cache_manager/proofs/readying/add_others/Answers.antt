use Rattle.std.proofs.Common.{◌∙◌, subst, ap, ℕ, List, [], length}
use Rattle.std.specs.Prelude.{IfSome}
use Rattle.std.proofs.lemmas.List.{length-map}
use Rattle.identity_writes.specs.Plan.{IsKeptBeside}
use Rattle.running_store.specs.Laid.{values_in}
use Rattle.cache_manager.proofs.NextNode.Planned.{planned_others}
use Rattle.cache_manager.proofs.readying.add_others.Goals as goal

pub plan-requires-clause-beside : goal.plan-requires-clause-beside
plan-requires-clause-beside c = ap length (c.as_slice.ensures.value ∙ c.in_ok-lengths.ensures []) ∙ length-map c.args.work.now (λ (x : ℕ). length (values_in c.args.objects.now [] x))

pub returns : goal.returns
returns c = (
  c.as_slice-2.result.now,
  c.in_ok-extend_from_slice.ensures.items,
  λ file lengths same.
      c.as_slice-2.ensures
      ∙ planned_others lengths c.args.copied c.args.work.now c.in_ok-planned.planned.log c.in_ok-planned.planned.keep c.requires.rising
      (subst (λ (l : List ℕ). IfSome c.in_ok-planned.planned.keep (IsKeptBeside c.args.copied c.args.work.now l)) (c.as_slice.ensures.value ∙ c.in_ok-lengths.ensures file ∙ same) c.in_ok-planned.ensures.keep)
      c.in_ok-planned.ensures.none.0 c.in_ok-planned.ensures.others,
)
