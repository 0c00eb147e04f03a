use Rattle.std.proofs.Common.{◌≡◌, ℕ, ◌-◌, ◌++◌, ◌∷◌, [], true, List, sym, subst}
use Rattle.std.specs.Prelude.{slice_set}
use Rattle.page_map.specs.Checks.{IsMarked, Reached, is_new}
use Rattle.page_map.proofs.ReachedLemmas.{marked_more}
use Rattle.page_map.proofs.reached.Reached.add.Goals as goal

pub invariant_of-self-2 : goal.invariant_of-self-2
invariant_of-self-2 c =
    let range = c.self.inside.map.now in
    let objects : List ℕ = c.self.inside.objects.items in
    let marks = c.self.inside.marks.items in
    let new : is_new range objects c.args.object ≡ true = subst (λ (r : Reached). is_new r.range r.objects c.args.object ≡ true) (sym c.self.view_is) c.requires in
    let root : range.lo ≡ c.root.result = sym c.root.ensures in
    subst (λ (items : List ℕ). IsMarked range (slice_set marks (c.args.object - c.root.result) true) items) (sym c.in_ok-push.ensures.items)
    (subst (λ (n : ℕ). IsMarked range (slice_set marks (c.args.object - n) true) (objects ++ c.args.object ∷ [])) root (marked_more range marks objects c.self.invariant c.args.object new))
