use Rattle.std.proofs.Common.{ℕ, List, [], ◌∷◌, ◌++◌, ap, ◌∙◌}
use Rattle.key_entries.proofs.NoValues.{empties_more}
use Rattle.key_entries.proofs.objects.no_values.Goals as goal

pub loop-object-preserved : goal.loop-object-preserved
loop-object-preserved c =
    c.in_ok-push.ensures.ok ∙ ap (λ (vs : List (List ℕ)). vs ++ [] ∷ []) c.loop-object.invariant
    ∙ empties_more c.args.objects.now c.loop-object._object-index c.loop-object-test.true
