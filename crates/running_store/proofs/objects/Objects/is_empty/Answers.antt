use Rattle.std.proofs.Common.{◌∙◌, ◌<◌, ◌==◌, ap, sym, subst, arith}
use Rattle.running_store.specs.Laid.{Laid}
use Rattle.running_store.specs.Laid.Lengths.{length_at}
use Rattle.running_store.proofs.objects.Objects.is_empty.Goals as goal

pub contains-requires : goal.contains-requires
contains-requires c = omega (arith, c.self.invariant.empties.count, subst (λ (l : Laid). c.args.object < l.slots.params.objects) (sym c.self.view_is) c.requires)

pub returns : goal.returns
returns c =
    c.contains.ensures ∙ c.self.invariant.empties.each c.args.object (subst (λ (l : Laid). c.args.object < l.slots.params.objects) (sym c.self.view_is) c.requires)
    ∙ ap (λ (l : Laid). length_at l c.args.object == 0) c.self.view_is
