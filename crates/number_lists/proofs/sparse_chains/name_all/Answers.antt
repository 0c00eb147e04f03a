use Rattle.std.proofs.Common.{◌≡◌, ◌∙◌, ap, sym, subst, ℕ, suc, List, ◌+◌, ◌<◌, length, arith}
use Rattle.std.specs.Prelude.{IsTrue, slice_index, slice_index_or, slice_set}
use Rattle.std.proofs.lemmas.Grind.{get_or_default_zero}
use Rattle.oper_core.specs.State.{is_among}
use Rattle.number_lists.proofs.Placed.{place-among}
use Rattle.number_lists.proofs.Standing.{replaced, replaced-none, replaced-next, replaced-read, replaced-length, replaced-all}
use Rattle.number_lists.proofs.sparse_chains.name_all.Goals as goal

pub loop-i-init : goal.loop-i-init
loop-i-init c = sym (replaced-none (slice_index c.args.numbers.now) c.args.places.now.items)

pub bounds-numbers-place : goal.bounds-numbers-place
bounds-numbers-place c =
    let xs = c.args.places.now.items in
    let f : ℕ → ℕ = slice_index c.args.numbers.now in
    let i = c.loop-i.i in
    let lt : i < length xs = omega (arith, c.loop-i-test.true, c.len-i-end.ensures, c.args.places.now.ok.0) in
    let low : i < length c.loop-i.places.items = omega (arith, lt, ap length c.loop-i.invariant, replaced-length f xs i) in
    let read : c.index-place.result.now ≡ slice_index xs i = c.index-place.ensures ∙ get_or_default_zero c.loop-i.places.items i c.index-place.result.now low ∙ ap (λ (ys : List ℕ). slice_index ys i) c.loop-i.invariant ∙ replaced-read f xs i in
    c.requires c.index-place.result.now (subst (λ (k : ℕ). IsTrue (is_among k xs)) (sym read) (place-among xs i lt))

pub loop-i-preserved : goal.loop-i-preserved
loop-i-preserved c =
    let xs = c.args.places.now.items in
    let f : ℕ → ℕ = slice_index c.args.numbers.now in
    let i = c.loop-i.i in
    let v = slice_index_or c.args.numbers.now c.index-place.result.now 0 in
    let next : suc i ≡ i + 1 = omega arith in
    let lt : i < length xs = omega (arith, c.loop-i-test.true, c.len-i-end.ensures, c.args.places.now.ok.0) in
    let low : i < length c.loop-i.places.items = omega (arith, lt, ap length c.loop-i.invariant, replaced-length f xs i) in
    let read : c.index-place.result.now ≡ slice_index xs i = c.index-place.ensures ∙ get_or_default_zero c.loop-i.places.items i c.index-place.result.now low ∙ ap (λ (ys : List ℕ). slice_index ys i) c.loop-i.invariant ∙ replaced-read f xs i in
    ap (λ (ys : List ℕ). slice_set ys i v) c.loop-i.invariant ∙ replaced-next f xs i v lt (ap f read) ∙ ap (replaced f xs) next

pub returns-clause-items : goal.returns-clause-items
returns-clause-items c = c.loop-i.invariant ∙ replaced-all (slice_index c.args.numbers.now) c.args.places.now.items c.loop-i.i (omega (arith, c.loop-i-test.false, c.len-i-end.ensures, c.args.places.now.ok.0))
