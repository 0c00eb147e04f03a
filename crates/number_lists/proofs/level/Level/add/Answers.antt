use Rattle.std.proofs.Common.{◌≡◌, sym, subst, ap, List, [], ◌∷◌, length, length-append, ◌<◌, ◌^◌, arith}
use Rattle.std.specs.Prelude.{Bool, false}
use Rattle.number_lists.specs.Marks.{Marks}
use Rattle.number_lists.specs.Counts.{AreCounted}
use Rattle.number_lists.proofs.Counted.{counted-push}
use Rattle.number_lists.proofs.level.Level.add.Goals as goal

pub invariant_of-self : goal.invariant_of-self
invariant_of-self c =
    let marks = c.self.inside.marks.items in
    let counts = c.self.inside.counts.items in
    let small : length marks < 2 ^ 32 = subst (λ (m : Marks). length m.marks < 2 ^ 32) (sym c.self.view_is) c.requires.small in
    let len : c.len.result ≡ length marks = omega (arith, c.len.ensures, c.self.inside.marks.ok.0) in
    let are = counted-push marks counts c.add_row.new.counts.items (omega (arith, len, c.add_row.ensures.enough)) c.add_row.ensures.each c.self.invariant.0 in
    (subst (λ (xs : List Bool). AreCounted xs c.add_row.new.counts.items) (sym c.push_in_room.ensures.items) are, omega (arith, ap length c.push_in_room.ensures.items, length-append marks (false ∷ []), small))
