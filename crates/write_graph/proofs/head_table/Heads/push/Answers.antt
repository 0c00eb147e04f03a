use Rattle.std.proofs.Common.{◌≡◌, ◌∙◌, ap, ℕ, List, [], ◌∷◌, ◌++◌, length, arith}
use Rattle.std.proofs.lemmas.List.{length_push}
use Rattle.write_graph.specs.declared.head.Head.{Head}
use Rattle.write_graph.specs.Heads.{Heads, head_of, heads_of}
use Rattle.write_graph.proofs.Tabled.{heads-push}
use Rattle.write_graph.proofs.head_table.Heads.push.Goals as goal

pub invariant_of-self : goal.invariant_of-self
invariant_of-self c = omega (arith, ap length c.push_in_room.ensures.items, ap length c.push_in_room-2.ensures.items, length_push c.self.inside.starts.items c.args.head.start, length_push c.self.inside.codes.items c.code_of.result, c.self.invariant)

pub returns-clause-items : goal.returns-clause-items
returns-clause-items c =
    let starts = c.self.inside.starts.items in
    let codes = c.self.inside.codes.items in
    let is : head_of c.args.head.start c.code_of.result ≡ c.args.head = λ i. record { start = c.args.head.start; reads = c.code_of.ensures.reads i; writes = c.code_of.ensures.writes i; identity = c.code_of.ensures.identity i } in
    ap (λ (xs : List ℕ). heads_of xs c.push_in_room-2.new.items.items) c.push_in_room.ensures.items
    ∙ ap (heads_of (starts ++ c.args.head.start ∷ [])) c.push_in_room-2.ensures.items
    ∙ heads-push starts codes c.args.head.start c.code_of.result c.self.invariant
    ∙ ap (λ (h : Head). heads_of starts codes ++ h ∷ []) is
    ∙ ap (λ (v : Heads). v.items ++ c.args.head ∷ []) c.self.view_is

pub returns-clause-room : goal.returns-clause-room
returns-clause-room c = omega (arith, ap (λ (v : Heads). v.room) c.self.view_is, c.push_in_room.ensures.capacity, c.push_in_room-2.ensures.capacity, ap length c.push_in_room.ensures.items, length_push c.self.inside.starts.items c.args.head.start)
