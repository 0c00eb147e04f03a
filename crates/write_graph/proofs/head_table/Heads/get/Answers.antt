use Rattle.std.proofs.Common.{◌≡◌, ◌∙◌, ap, sym, subst, ℕ, ◌<◌, length, arith}
use Rattle.std.specs.Prelude.{slice_index, slice_index_or}
use Rattle.std.proofs.lemmas.List.{get_or_default}
use Rattle.write_graph.specs.declared.head.Head.{Head}
use Rattle.write_graph.specs.Heads.{Heads, head_of}
use Rattle.write_graph.proofs.Tabled.{length-heads, head-at}
use Rattle.write_graph.proofs.head_table.Heads.get.Goals as goal

pub index-start-requires : goal.index-start-requires
index-start-requires c =
    let lt = subst (λ (v : Heads). c.args.i < length v.items) (sym c.self.view_is) c.requires in
    omega (arith, lt, length-heads c.self.inside.starts.items c.self.inside.codes.items c.self.invariant, c.self.inside.starts.ok.0)

pub index-code-requires : goal.index-code-requires
index-code-requires c =
    let lt = subst (λ (v : Heads). c.args.i < length v.items) (sym c.self.view_is) c.requires in
    omega (arith, lt, length-heads c.self.inside.starts.items c.self.inside.codes.items c.self.invariant, c.self.invariant, c.self.inside.codes.ok.0)

pub returns : goal.returns
returns c =
    let starts = c.self.inside.starts.items in
    let codes = c.self.inside.codes.items in
    let lt : c.args.i < length starts = omega (arith, subst (λ (v : Heads). c.args.i < length v.items) (sym c.self.view_is) c.requires, length-heads c.self.inside.starts.items c.self.inside.codes.items c.self.invariant) in
    let start : c.index-start.result.now ≡ slice_index starts c.args.i = c.index-start.ensures ∙ get_or_default starts c.args.i c.index-start.result.now 0 lt in
    let code : c.index-code.result.now ≡ slice_index codes c.args.i = c.index-code.ensures ∙ get_or_default codes c.args.i c.index-code.result.now 0 (omega (arith, lt, c.self.invariant)) in
    let d : Head = head_of c.index-start.result.now c.index-code.result.now in
    ap (λ (k : ℕ). head_of k c.index-code.result.now) start ∙ ap (head_of (slice_index starts c.args.i)) code ∙ sym (head-at starts codes c.args.i d c.self.invariant lt) ∙ ap (λ (v : Heads). slice_index_or v.items c.args.i d) c.self.view_is
