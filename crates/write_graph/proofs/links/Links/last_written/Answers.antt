use Rattle.std.proofs.Common.{◌∙◌, ap, ℕ, Bool, arith}
use Rattle.std.specs.Prelude.{slice_index}
use Rattle.std.specs.List.{filter}
use Rattle.std.proofs.lemmas.List.{take_all}
use Rattle.write_graph.specs.Rows.{last_held}
use Rattle.write_graph.specs.Listing.{is_with}
use Rattle.write_graph.proofs.Loops.{get-index}
use Rattle.write_graph.proofs.Listed.{filter-on}
use Rattle.write_graph.proofs.links.Links.last_written.Goals as goal

pub loop-x-preserved : goal.loop-x-preserved
loop-x-preserved c =
    let t : ℕ → Bool = λ x. is_with c.args.self.now.graph c.args.slot (last_held c.args.self.now.graph.held c.args.self.now.rows x) in
    c.in_ok-push_if.ensures ∙ filter-on t c.args.objects.now c.loop-x.x-index (slice_index c.args.objects.now c.loop-x.x-index) c.loop-x.found.items c.is_last_in.result (get-index c.args.objects.now c.loop-x.x-index (omega (arith, c.loop-x-test.true))) c.loop-x.invariant c.is_last_in.ensures

pub returns : goal.returns
returns c =
    let t : ℕ → Bool = λ x. is_with c.args.self.now.graph c.args.slot (last_held c.args.self.now.graph.held c.args.self.now.rows x) in
    c.loop-x.invariant ∙ ap (filter t) (take_all c.loop-x.x-index c.args.objects.now c.loop-x-test.false)
