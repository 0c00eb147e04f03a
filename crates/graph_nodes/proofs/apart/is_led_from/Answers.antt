use Rattle.std.proofs.Common.{◌≡◌, sym, subst, ℕ, List, ◌∷◌, refl}
use Rattle.std.specs.Prelude.{IsTrue, ◌==◌}
use Rattle.std.proofs.lemmas.Bool.{or_left, eq-eqb}
use Rattle.oper_core.specs.State.{is_among}
use Rattle.graph_nodes.proofs.apart.is_led_from.Goals as goal

-- what stands first is in the list
in_front : (xs rest : List ℕ) (k : ℕ) → xs ≡ k ∷ rest → IsTrue (is_among k xs)
in_front xs rest k e = subst (λ (ys : List ℕ). IsTrue (is_among k ys)) (sym e) (or_left (k == k) _ (eq-eqb k k refl))

pub is_start_of-requires-clause-cell : goal.is_start_of-requires-clause-cell
is_start_of-requires-clause-cell c = let first = c.in-Some.ensures in (c.requires.cells c.in-Some.cell (in_front _ first.0 _ first.1)).0

pub is_start_of-requires-clause-slot : goal.is_start_of-requires-clause-slot
is_start_of-requires-clause-slot c = let first = c.in-Some.ensures in (c.requires.cells c.in-Some.cell (in_front _ first.0 _ first.1)).1

pub returns : goal.returns
returns c = λ t. let first = c.in-Some.ensures in (c.in-Some.cell, in_front _ first.0 _ first.1, c.is_start_of.ensures.0 t)
