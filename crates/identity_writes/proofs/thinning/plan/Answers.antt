use Rattle.std.proofs.Common.{◌≡◌, ◌-◌, ◌∙◌, sym, subst, ap, ℕ, List, length, drop, take, refl, arith}
use Rattle.std.proofs.lemmas.List.{take_all, length-drop}
use Rattle.std.proofs.lemmas.List.Sorted.{IsPermutation-remove}
use Rattle.identity_writes.specs.Plan.{IsFirstLongest}
use Rattle.identity_writes.proofs.Keeping.{kept_beside, none_kept, all_copied}
use Rattle.identity_writes.proofs.Others.{others_are}
use Rattle.identity_writes.proofs.thinning.plan.Goals as goal

-- the lengths from a place on are all of them behind it
rest : (first : ℕ) (lengths : List ℕ) → take (length lengths - first) (drop first lengths) ≡ drop first lengths
rest first lengths = take_all (length lengths - first) (drop first lengths) (let n = length-drop first lengths in omega (arith, n))

pub returns-in-Some-clause-keep : goal.returns-in-Some-clause-keep
returns-in-Some-clause-keep c =
    let first = c.first_from-first.result in
    let is = subst (λ (l : List ℕ). IsFirstLongest l c.in-Some.place) (rest first c.args.lengths.now) c.in-Some.ensures.some in
    kept_beside c.args.objects.now c.args.lengths.now c.args.copied first c.in-Some.place c.remove.result c.requires.rising c.requires.beside c.first_from-first.ensures.within
    c.first_from-first.ensures.below c.first_from-first.ensures.above is (grind arith)

pub returns-in-Some-clause-none : goal.returns-in-Some-clause-none
returns-in-Some-clause-none c =
    let first = c.first_from-first.result in
    let is = subst (λ (l : List ℕ). IsFirstLongest l c.in-Some.place) (rest first c.args.lengths.now) c.in-Some.ensures.some in (
      (λ e. cc),
      (λ all. absurd (none_kept c.args.objects.now c.args.lengths.now c.args.copied first c.in-Some.place c.remove.result c.requires.rising c.requires.beside c.first_from-first.ensures.within
          c.first_from-first.ensures.below c.first_from-first.ensures.above is (grind arith) all)),
    )

pub returns-in-Some-clause-together : goal.returns-in-Some-clause-together
returns-in-Some-clause-together c =
    let first = c.first_from-first.result in
    let is = subst (λ (l : List ℕ). IsFirstLongest l c.in-Some.place) (rest first c.args.lengths.now) c.in-Some.ensures.some in
    let low = is.there in
    let n = length-drop first c.args.lengths.now in
    let copied = c.in_ok-others.ensures.items in
    grind (arith, IsPermutation-remove)

pub returns-in-Some-clause-others : goal.returns-in-Some-clause-others
returns-in-Some-clause-others c =
    let first = c.first_from-first.result in
    let is = subst (λ (l : List ℕ). IsFirstLongest l c.in-Some.place) (rest first c.args.lengths.now) c.in-Some.ensures.some in
    let low = is.there in
    let n = length-drop first c.args.lengths.now in
    let copied = c.in_ok-others.ensures.items in
    grind (arith, others_are)

pub returns-in-None-clause-none : goal.returns-in-None-clause-none
returns-in-None-clause-none c =
    let first = c.first_from-first.result in
    let n = length-drop first c.args.lengths.now in
    let none : length (drop first c.args.lengths.now) ≡ 0 = ap (λ (l : List ℕ). length l) (sym (rest first c.args.lengths.now) ∙ c.in-None.ensures.none) in
    ((λ e. all_copied c.args.objects.now c.args.copied first (omega (arith, n, none, c.requires.beside, c.first_from-first.ensures.within)) c.first_from-first.ensures.below), (λ all. refl))
