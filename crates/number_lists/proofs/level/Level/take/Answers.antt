use Rattle.std.proofs.Common.{◌≡◌, ◌∙◌, sym, subst, ◌-◌, ◌/◌, ◌<◌, length, arith}
use Rattle.std.specs.Prelude.{false, IsTrue, slice_index_or}
use Rattle.std.proofs.lemmas.List.{length-set, get_or_default}
use Rattle.number_lists.specs.Marks.{Marks, mark_at}
use Rattle.number_lists.proofs.Counted.{counted-less, counted-positive}
use Rattle.number_lists.proofs.level.Level.take.Goals as goal

pub overflow_sub-index_mut : goal.overflow_sub-index_mut
overflow_sub-index_mut c =
    let marks = c.self.inside.marks.items in
    let counts = c.self.inside.counts.items in
    let lt : c.args.n < length marks = subst (λ (m : Marks). c.args.n < length m.marks) (sym c.self.view_is) c.requires in
    let on : IsTrue (mark_at marks c.args.n) = sym (c.index.ensures ∙ get_or_default marks c.args.n c.index.result.now false lt) ∙ c.if-not-index.false in
    let k : c.index_mut-2.result.now ≡ slice_index_or counts (c.args.n / 64) 0 = c.index_mut-2.ensures.value ∙ get_or_default counts (c.args.n / 64) c.index_mut-2.result.now 0 (omega (arith, lt, c.self.invariant.0.size)) in
    omega (arith, k, counted-positive marks counts c.args.n on c.self.invariant.0)

pub invariant_of-self : goal.invariant_of-self
invariant_of-self c =
    let marks = c.self.inside.marks.items in
    let counts = c.self.inside.counts.items in
    let lt : c.args.n < length marks = subst (λ (m : Marks). c.args.n < length m.marks) (sym c.self.view_is) c.requires in
    let on : IsTrue (mark_at marks c.args.n) = sym (c.index.ensures ∙ get_or_default marks c.args.n c.index.result.now false lt) ∙ c.if-not-index.false in
    let k : c.index_mut-2.result.now ≡ slice_index_or counts (c.args.n / 64) 0 = c.index_mut-2.ensures.value ∙ get_or_default counts (c.args.n / 64) c.index_mut-2.result.now 0 (omega (arith, lt, c.self.invariant.0.size)) in
    let some = counted-positive marks counts c.args.n on c.self.invariant.0 in
    (counted-less marks counts c.args.n (c.index_mut-2.result.now - 1) lt on (omega (arith, k, some)) c.self.invariant.0, omega (arith, length-set marks c.args.n false, c.self.invariant.1))
