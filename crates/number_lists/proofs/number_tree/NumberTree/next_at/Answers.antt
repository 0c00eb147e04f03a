use Rattle.std.proofs.Common.{◌≡◌, subst, ℕ, ◌+◌, ◌/◌, List, length}
use Rattle.std.specs.Prelude.{Bool}
use Rattle.number_lists.specs.Marks.{IsFirstBelow, IsNext}
use Rattle.number_lists.proofs.Marked.{next-row, next-last}
use Rattle.number_lists.proofs.number_tree.NumberTree.next_at.Goals as goal

pub next_over-blocks-requires-clause-row : goal.next_over-blocks-requires-clause-row
next_over-blocks-requires-clause-row c =
    let top = c.self.inside.top.marks in
    let part = ((c.args.from / 64 + 1) / 64 + 1) / 64 + 1 in
    let r = c.first_in-parts.result in
    let count : c.len.result ≡ length top = c.len.ensures.count in
    let first : IsFirstBelow top part (length top) r = subst (λ (n : ℕ). IsFirstBelow top part n r) count (subst (λ (xs : List Bool). IsFirstBelow xs part c.len.result r) c.marks-2.ensures c.first_in-parts.ensures) in
    rw c.marks-3.ensures (next-row c.self.inside.high.marks top part r c.self.invariant.0.tops (next-last top part r first))

pub next_over-rows-requires-clause-row : goal.next_over-rows-requires-clause-row
next_over-rows-requires-clause-row c =
    let high = c.self.inside.high.marks in
    let block = (c.args.from / 64 + 1) / 64 + 1 in
    let r = c.next_over-blocks.result in
    let is : IsNext high block r = subst (λ (xs : List Bool). IsNext xs block r) c.marks-3.ensures c.next_over-blocks.ensures in
    rw c.marks-4.ensures (next-row c.self.inside.mid.marks high block r c.self.invariant.0.highs is)

pub next_over-requires-clause-row : goal.next_over-requires-clause-row
next_over-requires-clause-row c =
    let mid = c.self.inside.mid.marks in
    let row = c.args.from / 64 + 1 in
    let r = c.next_over-rows.result in
    let is : IsNext mid row r = subst (λ (xs : List Bool). IsNext xs row r) c.marks-4.ensures c.next_over-rows.ensures in
    rw c.marks-5.ensures (next-row c.self.inside.low.marks mid row r c.self.invariant.0.mids is)
