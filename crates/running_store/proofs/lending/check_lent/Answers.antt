use Rattle.std.proofs.Common.{◌≡◌, ◌∙◌, ℕ, List, [], nat_eq, length, map, sym, ap, subst}
use Rattle.std.specs.List.{IsDistinct}
use Rattle.std.proofs.lemmas.List.{length-map}
use Rattle.oper_core.specs.Meaning.{FitsReads}
use Rattle.oper_core.specs.State.{value_for}
use Rattle.running_store.specs.Laid.Lent.{KeepsOthers, cached_values}
use Rattle.running_store.proofs.LentLemmas.{beside, lent_back}
use Rattle.running_store.proofs.lending.check_lent.Goals as goal

pub lend-values-requires-clause-apart : goal.lend-values-requires-clause-apart
lend-values-requires-clause-apart g c =
    subst (λ (l : List ℕ). IsDistinct nat_eq l) (sym (c.as_slice.ensures.value ∙ c.reads-reads.ensures c.args.bounds)) ((g.met.O.Oper.lawful c.args.bounds c.requires.small).reads_apart c.args.op.now c.requires.grammar)

pub check-answer-requires : goal.check-answer-requires
check-answer-requires g c =
    subst (λ (vs : List (List ℕ)). FitsReads (g.O.Oper.meaning c.args.bounds) c.args.op.now vs) (sym (c.lend-values.ensures.values ∙ ap (map (cached_values c.args.cache.now)) (c.as_slice.ensures.value ∙ c.reads-reads.ensures c.args.bounds))) c.requires.fits

pub give_back-requires : goal.give_back-requires
give_back-requires g c = record { count = ap length c.lend-values.ensures.values ∙ length-map c.as_slice.result.now (cached_values c.args.cache.now) ∙ ap length (c.as_slice.ensures.value ∙ sym c.as_slice-2.ensures.value) }

pub returns-clause-answer : goal.returns-clause-answer
returns-clause-answer g c =
    c.check-answer.ensures ∙ ap (λ (vs : List (List ℕ)). (g.O.Oper.meaning c.args.bounds).check c.args.op.now vs) (c.lend-values.ensures.values ∙ ap (map (cached_values c.args.cache.now)) (c.as_slice.ensures.value ∙ c.reads-reads.ensures c.args.bounds))

pub returns-clause-same : goal.returns-clause-same
returns-clause-same g c =
    let objects = c.as_slice-2.result.now in
    let lent = subst (λ (l : List ℕ). KeepsOthers l c.args.cache.now c.lend-values.new.cache) (c.as_slice.ensures.value ∙ sym c.as_slice-2.ensures.value) c.lend-values.ensures.kept in
    let values : c.lend-values.result ≡ map (cached_values c.args.cache.now) objects = c.lend-values.ensures.values ∙ ap (map (cached_values c.args.cache.now)) (c.as_slice.ensures.value ∙ sym c.as_slice-2.ensures.value) in
    lent_back objects [] c.lend-values.result c.args.cache.now c.lend-values.new.cache c.give_back.new.cache lent c.give_back.ensures.kept c.give_back.ensures.values
    (λ x out among. ap (λ (vs : List (List ℕ)). value_for x objects vs) values ∙ beside (cached_values c.args.cache.now) objects x among)
