use Rattle.std.proofs.Common.{◌∙◌, ap, sym, subst, ◌<◌, length}
use Rattle.std.specs.Prelude.{false}
use Rattle.std.proofs.lemmas.List.{get_or_default}
use Rattle.number_lists.specs.Marks.{Marks, mark_at}
use Rattle.number_lists.proofs.level.Level.has.Goals as goal

pub returns : goal.returns
returns c =
    let lt = subst (λ (m : Marks). c.args.n < length m.marks) (sym c.self.view_is) c.requires in
    c.index.ensures ∙ get_or_default c.self.inside.marks.items c.args.n c.index.result.now false lt ∙ ap (λ (m : Marks). mark_at m.marks c.args.n) c.self.view_is
