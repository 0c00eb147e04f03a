use Rattle.std.proofs.Common.{◌≡◌, ◌∙◌, ◌/◌, ap, sym, Some}
use Rattle.write_graph.specs.Rows.{its_slot, last_of}
use Rattle.write_graph.proofs.linking.lead_writer.Goals as goal

pub is_held-requires : goal.is_held-requires
is_held-requires c =
    let last : last_of c.args.rows.now c.args.x ≡ Some (c.in-Some.cell / 8) = ap its_slot (sym c.last.ensures ∙ c.in-Some.is) in
    c.requires.below (c.in-Some.cell / 8) last
