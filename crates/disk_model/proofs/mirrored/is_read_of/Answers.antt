use Rattle.std.proofs.Common.{◌∙◌, ℕ, take, drop, ap, arith}
use Rattle.std.proofs.lemmas.Bool.Decides.{Decides-eqb}
use Rattle.std.proofs.lemmas.List.{take_min, length-drop}
use Rattle.std.proofs.lemmas.Slice.Eq.{slice_eq-Decides}
use Rattle.disk_model.proofs.mirrored.is_read_of.Goals as goal

pub returns : goal.returns
returns c is =
    let d = slice_eq-Decides Decides-eqb c.args.given.now _ c.eq.result c.eq.ensures in
    d.0 is ∙ ap (λ (n : ℕ). take n (drop c.args.at c.args.bytes.now)) (omega (arith, c.min-count.ensures, length-drop c.args.at c.args.bytes.now)) ∙ take_min c.args.room (drop c.args.at c.args.bytes.now)
