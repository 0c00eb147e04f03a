use Rattle.std.proofs.Common.{◌∙◌}
use Rattle.page_ops.specs.Effects.{are_alike, join_in}
use Rattle.page_ops.proofs.Outcomes.{kind_holds, kind_fails}
use Rattle.page_ops.proofs.effects.join.Goals as goal

pub returns-in-Some : goal.returns-in-Some
returns-in-Some c =
    let pages = c.in-Some.ensures.pages in
    kind_holds (are_alike c.args.bytes.now c.args.other.now) _ _ c.in-Some.ensures.there
    (c.join_in.ensures ∙ (λ i. join_in c.args.from c.args.to (pages.0 i) (pages.1 i)))

pub returns-in-None : goal.returns-in-None
returns-in-None c = kind_fails (are_alike c.args.bytes.now c.args.other.now) (join_in c.args.from c.args.to c.args.bytes.now c.args.other.now) c.in-None.ensures.there
