use Rattle.std.proofs.Common.{◌≡◌, ◌∙◌, ◌<◌, sym, subst, ap, arith, List, [], Option, None, Some, ℕ, refl}
use Rattle.std.specs.Prelude.{All, IfSome}
use Rattle.std.proofs.lemmas.List.Elements.{All-nil}
use Rattle.dirty_cache.specs.Contents.{held}
use Rattle.install_order.specs.declared.entry.Entry.{Entry}
use Rattle.running_store.specs.Laid.Flushed.{AreEarly}
use Rattle.running_store.specs.StoreView.{StoreView}
use Rattle.write_graph.specs.Graph.{lsns}
use Rattle.redo_tests.proofs.redone.begun.Goals as goal

not_held : {X : Type 0} (pair : X) → None ≡ Some pair → ⊥
not_held {X} pair same = subst (λ (o : Option X). IfSome o (λ x. ⊥)) same tt

pub first_late-requires : goal.first_late-requires
first_late-requires c = omega (arith, c.next.ensures, c.in_ok-log.ensures.next.0)

pub new-requires-in-Ok : goal.new-requires-in-Ok
new-requires-in-Ok c = record {
  bounds = c.in_ok-log.ensures.bounds ∙ c.bounds.ensures;
  store = record {
    params = refl;
    low = c.in_ok-log.ensures.next.1;
    above = subst (λ (l : List Entry). All (λ n. n < c.in_ok-log.log.next) (lsns l)) (sym c.in-Ok.ensures) (All-nil (λ n. n < c.in_ok-log.log.next));
    dirty = λ x pair is had. absurd (not_held pair (sym (c.in_ok-objects.ensures.empty x) ∙ had));
    clean = λ x pair is had. absurd (not_held pair (sym (c.in_ok-objects.ensures.empty x) ∙ had));
  };
  early = subst (λ (n : ℕ). AreEarly n c.in_ok-objects.objects) c.next.ensures c.in_default.ensures;
}

pub returns-in-Ok-clause-unbroken : goal.returns-in-Ok-clause-unbroken
returns-in-Ok-clause-unbroken c = ap (λ (s : StoreView). s.broken) c.new-in-Ok.ensures

pub returns-in-Ok-clause-empty : goal.returns-in-Ok-clause-empty
returns-in-Ok-clause-empty c =
    subst (λ (s : StoreView). ((x : ℕ) → held s.parts.volatile.objects.cache x ≡ None) × (s.parts.volatile.entries ≡ [])) (sym c.new-in-Ok.ensures) (c.in_ok-objects.ensures.empty, c.in-Ok.ensures)
