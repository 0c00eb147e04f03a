use Rattle.std.proofs.Common.{◌∙◌, ap, None, sym, subst, ℕ, Option, [], ◌∷◌, ◌++◌, ◌<◌, ◌^◌, length, arith}
use Rattle.std.specs.Prelude.{nat_eq}
use Rattle.std.specs.List.{list_any}
use Rattle.std.proofs.lemmas.Bool.{not-true}
use Rattle.std.proofs.lemmas.List.{length_push}
use Rattle.write_graph.specs.Rows.{Rows}
use Rattle.write_graph.proofs.Loops.{not-not}
use Rattle.write_graph.proofs.Tables.{tables-more, row-made, row-there}
use Rattle.write_graph.proofs.rows.Rows.row.Goals as goal

pub invariant_of-self : goal.invariant_of-self
invariant_of-self c =
    let keys = c.self.inside.objects.keys in
    let few : length keys < 2 ^ 32 = omega (arith, subst (λ (r : Rows). 0 < r.row_room) (sym c.self.view_is) c.requires) in
    tables-more keys c.insert_full.new.self.keys c.self.inside.last.items c.push_in_room.new.items.items c.self.inside.waiting c.add_list.new.self c.args.x c.self.invariant (not-true (list_any (nat_eq c.args.x) c.self.inside.objects.keys) (sym c.in-Ok.ensures.added ∙ sym c.in-Ok.is_new-is ∙ c.if-is_new.true)) c.in-Ok.ensures.keys (c.push_in_room.ensures.items ∙ ap (λ (o : Option ℕ). c.self.inside.last.items ++ o ∷ []) c.none.ensures) c.add_list.ensures few

pub returns-then-is_new : goal.returns-then-is_new
returns-then-is_new c =
    let none = not-true (list_any (nat_eq c.args.x) c.self.inside.objects.keys) (sym c.in-Ok.ensures.added ∙ sym c.in-Ok.is_new-is ∙ c.if-is_new.true) in
    let items = c.self.inside.last.items in
    rw (← c.self.view_is) (
    row-made c.self.inside.objects.keys c.insert_full.new.self.keys items c.push_in_room.new.items.items c.self.inside.waiting c.add_list.new.self _ _ c.args.x c.in-Ok.row c.self.invariant none c.in-Ok.ensures.keys (c.in-Ok.row-is ∙ c.in-Ok.ensures.index) (c.push_in_room.ensures.items ∙ ap (λ (o : Option ℕ). c.self.inside.last.items ++ o ∷ []) c.none.ensures) c.add_list.ensures
    (omega (arith, c.in-Ok.ensures.spare, c.push_in_room.ensures.capacity, ap length (c.push_in_room.ensures.items ∙ ap (λ (o : Option ℕ). c.self.inside.last.items ++ o ∷ []) c.none.ensures), length_push items None)))

pub returns-else-is_new : goal.returns-else-is_new
returns-else-is_new c =
    let there = not-not (list_any (nat_eq c.args.x) c.self.inside.objects.keys) (sym c.in-Ok.ensures.added ∙ sym c.in-Ok.is_new-is ∙ c.if-is_new.false) in
    rw (← c.self.view_is) (
    row-there c.self.inside.objects.keys c.insert_full.new.self.keys c.self.inside.last.items c.self.inside.waiting _ _ c.args.x c.in-Ok.row there c.in-Ok.ensures.keys (c.in-Ok.row-is ∙ c.in-Ok.ensures.index) (omega (arith, c.in-Ok.ensures.spare)))
