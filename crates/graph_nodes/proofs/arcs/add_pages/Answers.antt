use Rattle.std.proofs.Common.{◌∙◌, ap, ℕ, List, [], ◌∷◌, ◌++◌, length, Option, None, refl, arith}
use Rattle.std.specs.Prelude.{slice_index_or}
use Rattle.std.proofs.lemmas.List.{length_push}
use Rattle.graph_nodes.specs.ArcPages.{count_pages}
use Rattle.graph_nodes.proofs.Paged.{count-none}
use Rattle.graph_nodes.proofs.Slot.{arc-same}
use Rattle.graph_nodes.proofs.arcs.add_pages.Goals as goal

pub loop-i-init : goal.loop-i-init
loop-i-init c = ((λ k. refl), refl, omega (arith, c.len-i.ensures, c.args.pages.now.ok.0), omega (arith, c.len-i.ensures, c.args.pages.now.ok.0), omega (arith, c.len-i.ensures, c.args.pages.now.ok.0), omega arith)

pub push_in_room-requires : goal.push_in_room-requires
push_in_room-requires c = omega (arith, c.loop-i.invariant.2, c.loop-i.invariant.5, c.loop-i-test.true, c.loop-i.pages.ok.0, c.requires)

pub loop-i-preserved : goal.loop-i-preserved
loop-i-preserved c =
    let was = c.loop-i.invariant in (
      (λ k. ap (λ (xs : List (Option ℕ)). slice_index_or xs k None) (c.push_in_room.ensures.items ∙ ap (λ (o : Option ℕ). c.loop-i.pages.items ++ o ∷ []) c.none.ensures) ∙ arc-same c.loop-i.pages.items 1 k ∙ was.0 k),
      ap count_pages (c.push_in_room.ensures.items ∙ ap (λ (o : Option ℕ). c.loop-i.pages.items ++ o ∷ []) c.none.ensures) ∙ count-none c.loop-i.pages.items ∙ was.1,
      omega (arith, ap length c.push_in_room.ensures.items, length_push c.loop-i.pages.items c.none.result, was.2),
      omega (arith, was.3, c.loop-i-test.true),
      omega (arith, was.4),
      omega (arith, was.5, c.push_in_room.ensures.capacity),
    )

pub returns-clause-size : goal.returns-clause-size
returns-clause-size c = omega (arith, c.loop-i-test.false, c.loop-i.invariant.2, c.loop-i.invariant.3, c.loop-i.invariant.4)
