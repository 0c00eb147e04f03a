use Rattle.std.proofs.Common.{ℕ, List, Option, take, take_all, sym, ap, ◌∙◌, arith}
use Rattle.page_ops.specs.Search.{place_for}
use Rattle.page_map.specs.Splits.{front_of}
use Rattle.page_map.proofs.CellLemmas.{front_all, front_taken, place_inside}
use Rattle.page_map.proofs.cells.Cells.ending.Goals as goal

pub returns-in-Some : goal.returns-in-Some
returns-in-Some c = record {
  front =
      ap (λ (n : ℕ). take n c.args.self.now) (c.place_for.ensures ∙ ap (λ (k : List ℕ). place_for k c.args.self.now) c.as_slice.ensures.value)
      ∙ sym (front_taken c.in-Some.end c.args.self.now) ∙ ap (λ (o : Option (List ℕ)). front_of o c.args.self.now) (sym c.in-Some.is);
  within = omega (arith, c.place_for.ensures, place_inside c.as_slice.result.now c.args.self.now);
}

pub returns-in-None : goal.returns-in-None
returns-in-None c = record {
  front =
      take_all c.count.result c.args.self.now (omega (arith, c.count.ensures.value)) ∙ sym (front_all c.args.self.now)
      ∙ ap (λ (o : Option (List ℕ)). front_of o c.args.self.now) (sym c.in-None.is);
  within = omega (arith, c.count.ensures.value);
}
