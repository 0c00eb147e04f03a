use Rattle.std.proofs.Common.{◌∙◌}
use Rattle.page_ops.specs.Effects.{are_alike, absorb_in}
use Rattle.page_ops.proofs.Outcomes.{kind_holds, kind_fails}
use Rattle.page_ops.proofs.effects.absorb.Goals as goal

pub returns-in-Some : goal.returns-in-Some
returns-in-Some c =
    let pages = c.in-Some.ensures.pages in
    kind_holds (are_alike c.args.bytes.now c.args.other.now) _ _ c.in-Some.ensures.there
    (c.absorb_in.ensures ∙ (λ i. absorb_in c.args.count (pages.0 i) (pages.1 i)))

pub returns-in-None : goal.returns-in-None
returns-in-None c = kind_fails (are_alike c.args.bytes.now c.args.other.now) (absorb_in c.args.count c.args.bytes.now c.args.other.now) c.in-None.ensures.there
