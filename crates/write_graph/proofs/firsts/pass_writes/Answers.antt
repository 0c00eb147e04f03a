use Rattle.std.proofs.Common.{◌≡◌, ◌∙◌, sym, subst, ℕ, List, take, nat_eq, arith}
use Rattle.std.specs.Prelude.{IsTrue, slice_index}
use Rattle.std.proofs.lemmas.List.{take_all}
use Rattle.indexmap.specs.IndexMap.{get}
use Rattle.oper_core.specs.State.{is_among}
use Rattle.write_graph.specs.Cells.{writes_of}
use Rattle.write_graph.specs.Firsts.{IsOutside}
use Rattle.write_graph.proofs.Loops.{among-none, get-index}
use Rattle.write_graph.proofs.FirstWriters.{outside-stays, outside-next}
use Rattle.write_graph.proofs.firsts.pass_writes.Goals as goal

pub loop-x-init : goal.loop-x-init
loop-x-init c = (c.requires.passed, (λ x t. absurd (among-none x t)), (λ x was. was), omega arith)

pub loop-x-preserved : goal.loop-x-preserved
loop-x-preserved c =
    let g = c.args.links.now.graph in
    let items = c.writes-x-items.result.now in
    let i = c.loop-x.x-index in
    let x = slice_index items i in
    let old : ℕ → _ = get nat_eq c.loop-x.firsts in
    let new : ℕ → _ = get nat_eq c.pass_write.new.firsts in
    let stays : (y : ℕ) → IsOutside g c.args.node (old y) → IsOutside g c.args.node (new y) = outside-stays g c.args.node x old new c.pass_write.ensures.here c.pass_write.ensures.others in
    (c.pass_write.ensures.passed, outside-next g c.args.node i x items old new (get-index items i (omega (arith, c.loop-x-test.true))) c.loop-x.invariant.1 c.pass_write.ensures.here stays, (λ y was. stays y (c.loop-x.invariant.2 y was)), omega (arith, c.loop-x.invariant.3, c.pass_write.ensures.room))

pub returns-clause-outside : goal.returns-clause-outside
returns-clause-outside c x there =
    let entries = c.args.entries.now.items in
    let slot = c.args.slot in
    let items = c.writes-x-items.result.now in
    let all : take c.loop-x.x-index items ≡ writes_of entries slot = take_all c.loop-x.x-index items c.loop-x-test.false ∙ c.writes-x-items.ensures.value in
    c.loop-x.invariant.1 x (subst (λ (xs : List ℕ). IsTrue (is_among x xs)) (sym all) there)
