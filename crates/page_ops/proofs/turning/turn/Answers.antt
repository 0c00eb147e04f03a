use Rattle.std.proofs.Common.{List, ℕ, ap, ◌∙◌}
use Rattle.page_ops.specs.Reading.{is_inner}
use Rattle.page_ops.specs.Effects.{turn_in}
use Rattle.page_ops.proofs.Outcomes.{kind_holds, kind_fails}
use Rattle.page_ops.proofs.turning.turn.Goals as goal

pub returns-in-Some : goal.returns-in-Some
returns-in-Some c =
    kind_holds (is_inner c.args.bytes.now) _ _ c.in-Some.ensures.there
    (c.turn_in.ensures ∙ ap (λ (bytes : List ℕ). turn_in c.args.place c.args.count c.args.child bytes) c.in-Some.ensures.page)

pub returns-in-None : goal.returns-in-None
returns-in-None c = kind_fails (is_inner c.args.bytes.now) (turn_in c.args.place c.args.count c.args.child c.args.bytes.now) c.in-None.ensures.there
