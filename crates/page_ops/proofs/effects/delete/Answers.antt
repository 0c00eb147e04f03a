use Rattle.std.proofs.Common.{List, ℕ, ap, ◌∙◌}
use Rattle.page_ops.specs.Reading.{is_leaf}
use Rattle.page_ops.specs.Effects.{delete_in}
use Rattle.page_ops.proofs.Outcomes.{kind_holds, kind_fails}
use Rattle.page_ops.proofs.effects.delete.Goals as goal

pub returns-in-Some : goal.returns-in-Some
returns-in-Some c =
    kind_holds (is_leaf c.args.bytes.now) _ _ c.in-Some.ensures.there
    (c.delete_in.ensures ∙ ap (λ (bytes : List ℕ). delete_in c.args.place bytes) c.in-Some.ensures.page)

pub returns-in-None : goal.returns-in-None
returns-in-None c = kind_fails (is_leaf c.args.bytes.now) (delete_in c.args.place c.args.bytes.now) c.in-None.ensures.there
