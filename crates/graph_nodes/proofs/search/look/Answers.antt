use Rattle.std.proofs.Common.{◌∙◌, sym, subst, ℕ, ◌<◌, length, refl, arith}
use Rattle.std.specs.Prelude.{slice_index}
use Rattle.std.specs.Vec.{vec_capacity}
use Rattle.graph_nodes.specs.Search.{IsSearching}
use Rattle.graph_nodes.proofs.Found.{searching-start, searching-on}
use Rattle.graph_nodes.proofs.Turned.{searchable-on}
use Rattle.graph_nodes.proofs.search.look.Goals as goal

pub steps-init : goal.steps-init
steps-init c = (
  searching-start c.args.nodes.now.arcs.now.cells c.args.nodes.now.node.now c.args.near.now c.args.v c.args.stop c.clear.new.self c.add.new.self c.clear.ensures.members c.add.ensures,
  record { end = c.add.ensures.end ∙ c.clear.ensures.end; room = omega (arith, c.add.ensures.room, c.clear.ensures.room) },
  refl,
  omega arith,
)

pub step_back-requires-clause-ready : goal.step_back-requires-clause-ready
step_back-requires-clause-ready c =
    let was = c.args.searches.now in
    searchable-on c.args.nodes.now.arcs.now.cells c.args.nodes.now.node.now c.args.near.now was.found.end c.steps.searches.found.end (vec_capacity was.cells) (vec_capacity c.steps.searches.cells) c.steps.invariant.1.end c.steps.invariant.3 c.requires.ready

pub steps-preserved : goal.steps-preserved
steps-preserved c =
    let was = c.steps.invariant in
    let now = c.steps.searches in
    let is = c.step_back.ensures.step in
    let lt : now.back.next < length now.found.members = omega (arith, c.steps-test.true, c.len.ensures.count) in (
      subst (λ (k : ℕ). IsSearching c.args.nodes.now.arcs.now.cells c.args.nodes.now.node.now c.args.near.now c.args.v c.args.stop k c.step_back.new.found.members) (sym is.next)
          (searching-on c.args.nodes.now.arcs.now.cells c.args.nodes.now.node.now c.args.near.now c.args.v c.args.stop now.back.next (slice_index now.found.members now.back.next) now.found c.step_back.new.found was.0 lt refl is.step),
      record { end = is.step.same.end ∙ was.1.end; room = omega (arith, is.step.same.room, was.1.room) },
      was.2,
      omega (arith, c.step_back.ensures.capacity, was.3),
    )
