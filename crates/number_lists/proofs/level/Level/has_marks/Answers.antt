use Rattle.std.proofs.Common.{◌≡◌, ◌∙◌, sym, subst, ℕ, ◌/◌, ◌<◌, length, arith}
use Rattle.std.specs.Prelude.{IsTrue, slice_index_or}
use Rattle.std.proofs.lemmas.Bool.{ltb-true}
use Rattle.std.proofs.lemmas.List.{get_or_default}
use Rattle.number_lists.specs.Marks.{Marks, mark_at, IsEmptyRow}
use Rattle.number_lists.proofs.Counted.{counted-some, counted-empty, none-counted}
use Rattle.number_lists.proofs.level.Level.has_marks.Goals as goal

pub returns-clause-some : goal.returns-clause-some
returns-clause-some c = λ t.
    let marks = c.self.inside.marks.items in
    let counts = c.self.inside.counts.items in
    let lt : c.args.n < length marks = subst (λ (m : Marks). c.args.n < length m.marks) (sym c.self.view_is) c.requires in
    let k : c.index.result.now ≡ slice_index_or counts (c.args.n / 64) 0 = c.index.ensures ∙ get_or_default counts (c.args.n / 64) c.index.result.now 0 (omega (arith, lt, c.self.invariant.0.size)) in
    let some : 0 < c.index.result.now = ltb-true 0 c.index.result.now t in
    subst (λ (m : Marks). (i : ℕ) × (i / 64 ≡ c.args.n / 64) × IsTrue (mark_at m.marks i)) c.self.view_is (counted-some marks counts (c.args.n / 64) c.self.invariant.0 (omega (arith, k, some)))

pub returns-clause-none : goal.returns-clause-none
returns-clause-none c = λ f.
    let marks = c.self.inside.marks.items in
    let counts = c.self.inside.counts.items in
    let lt : c.args.n < length marks = subst (λ (m : Marks). c.args.n < length m.marks) (sym c.self.view_is) c.requires in
    let k : c.index.result.now ≡ slice_index_or counts (c.args.n / 64) 0 = c.index.ensures ∙ get_or_default counts (c.args.n / 64) c.index.result.now 0 (omega (arith, lt, c.self.invariant.0.size)) in
    let zero : c.index.result.now ≡ 0 = none-counted c.index.result.now f in
    subst (λ (m : Marks). IsEmptyRow m.marks (c.args.n / 64)) c.self.view_is (counted-empty marks counts (c.args.n / 64) c.self.invariant.0 (sym k ∙ zero))
