use Rattle.std.proofs.Common.{ap, ℕ, ◌+◌, ◌*◌, arith}
use Rattle.write_graph.proofs.Place.{place-among}
use Rattle.write_graph.proofs.cells.own_cell.Goals as goal

pub overflow_add-result-2 : goal.overflow_add-result-2
overflow_add-result-2 c = omega (arith, c.requires.small, c.place_in.ensures, place-among c.args.x c.args.objects.now c.requires.there, c.requires.few)

pub returns : goal.returns
returns c = (ap (λ (k : ℕ). 8 * c.args.slot + 4 + k) c.place_in.ensures, omega (arith, c.place_in.ensures, place-among c.args.x c.args.objects.now c.requires.there, c.requires.few))
