use Rattle.std.proofs.Common.{sym, subst, refl, List, take, inl, inr}
use Rattle.explain_core.specs.Backup.{copy_of, installed_in_copy}
use Rattle.explain_core.specs.Stable.{IsStableOf}
use Rattle.explain_core.specs.World.{Starts}
use Rattle.formats.specs.Objects.{bounds_of}
use Rattle.standing.proofs.standing_files.a_copy_stands.Goals as goal

pub returns : goal.returns
returns g c = λ p files w copied cells tables sound has which holds.
    let m = g.O.Oper.meaning (bounds_of p) in
    record {
      parts = copy_of w copied cells tables;
      holds = holds;
      history = take w.forced w.history;
      installed = installed_in_copy m w copied cells;
      stable = elim which [
        | inl none ↦ subst (λ (l : List Starts). IsStableOf m (copy_of w copied cells l) (take w.forced w.history) (installed_in_copy m w copied cells)) (sym none) (c.copy_stands.ensures.stands (bounds_of p) w copied cells sound has)
        | inr one ↦ subst (λ (l : List Starts). IsStableOf m (copy_of w copied cells l) (take w.forced w.history) (installed_in_copy m w copied cells)) (sym one) (c.copy_stands.ensures.with_checkpoint (bounds_of p) w copied cells sound has)
      ];
      commands_are = refl;
    }
