use Rattle.std.proofs.Common.{◌≡◌, ◌∙◌, ℕ, List, [], false, true, nat_eq, length, map, sym, ap, subst}
use Rattle.std.specs.List.{IsDistinct}
use Rattle.std.proofs.lemmas.List.{length-map}
use Rattle.std.proofs.lemmas.Result.{IfOk-weaker, on_err_weaker, on_ok_weaker}
use Rattle.oper_core.specs.Meaning.{FitsReads, KeepsUnwritten, Meaning}
use Rattle.oper_core.specs.State.{is_among, value_for}
use Rattle.running_store.specs.Laid.Lent.{KeepsOthers, cached_values}
use Rattle.running_store.proofs.LentLemmas.{beside, either_way, lent_back, unwritten}
use Rattle.running_store.proofs.lending.apply_lent.Given.{Over}
use Rattle.running_store.proofs.lending.apply_lent.Goals.{After-give_back}
use Rattle.running_store.proofs.lending.apply_lent.Goals as goal

pub lend-lent-requires-clause-apart : goal.lend-lent-requires-clause-apart
lend-lent-requires-clause-apart g c =
    subst (λ (l : List ℕ). IsDistinct nat_eq l) (sym (c.as_slice.ensures.value ∙ c.reads-reads.ensures c.args.bounds)) ((g.met.O.Oper.lawful c.args.bounds c.requires.small).reads_apart c.args.op c.requires.grammar)

pub apply_in_place-answer-requires : goal.apply_in_place-answer-requires
apply_in_place-answer-requires g c =
    subst (λ (vs : List (List ℕ)). FitsReads (g.O.Oper.meaning c.args.bounds) c.args.op vs) (sym (c.lend-lent.ensures.values ∙ ap (map (cached_values c.args.cache.now)) (c.as_slice.ensures.value ∙ c.reads-reads.ensures c.args.bounds))) c.requires.fits

pub give_back-requires : goal.give_back-requires
give_back-requires g c = record {
  count =
      either_way c.apply_in_place-answer.result c.apply_in_place-answer.ensures.kept c.apply_in_place-answer.ensures.err (λ kept. kept.count) (λ same. ap length same)
      ∙ ap length c.lend-lent.ensures.values ∙ length-map c.as_slice.result.now (cached_values c.args.cache.now) ∙ ap length (c.as_slice.ensures.value ∙ sym c.as_slice-2.ensures.value);
}

module _ (g : Over) (c : After-give_back g) where
  abbrev m : Meaning g.row.O.Denot
  m = g.O.Oper.meaning c.args.bounds

  abbrev objects : List ℕ
  objects = c.as_slice-2.result.now

  same_objects : c.as_slice.result.now ≡ objects
  same_objects = c.as_slice.ensures.value ∙ sym c.as_slice-2.ensures.value

  values : c.lend-lent.result ≡ map (cached_values c.args.cache.now) objects
  values = c.lend-lent.ensures.values ∙ ap (map (cached_values c.args.cache.now)) same_objects

  reads_are : objects ≡ m.reads c.args.op
  reads_are = c.as_slice-2.ensures.value ∙ c.reads-reads.ensures c.args.bounds

  -- the values that come back are those of objects that are not written
  back : (written : List ℕ) → ((x : ℕ) → is_among x written ≡ false → is_among x objects ≡ true → value_for x objects c.apply_in_place-answer.new.values ≡ value_for x objects c.lend-lent.result)
      → KeepsOthers written c.args.cache.now c.give_back.new.cache
  back written same =
      lent_back objects written c.apply_in_place-answer.new.values c.args.cache.now c.lend-lent.new.cache c.give_back.new.cache
      (subst (λ (l : List ℕ). KeepsOthers l c.args.cache.now c.lend-lent.new.cache) same_objects c.lend-lent.ensures.kept) c.give_back.ensures.kept c.give_back.ensures.values
      (λ x out among. same x out among ∙ ap (λ (vs : List (List ℕ)). value_for x objects vs) values ∙ beside (cached_values c.args.cache.now) objects x among)

  count : length c.lend-lent.result ≡ length objects
  count = ap length values ∙ length-map objects (cached_values c.args.cache.now)

pub returns : goal.returns
returns g c =
    let m = g.O.Oper.meaning c.args.bounds in
    let at = (goal.at.returns g c).After-give_back in
    record {
      made =
          let at = goal.at.returns g c in
          let reads = values g at.After-give_back ∙ ap (map (cached_values c.args.cache.now)) (reads_are g at.After-give_back) in
          IfOk-weaker c.apply_in_place-answer.result (λ made. made ≡ m.effect c.args.op c.lend-lent.result) (λ made. made ≡ m.effect c.args.op (map (cached_values c.args.cache.now) (m.reads c.args.op)))
          (λ made is. is ∙ ap (λ (vs : List (List ℕ)). m.effect c.args.op vs) reads) c.apply_in_place-answer.ensures.made;
      kept =
          on_ok_weaker c.apply_in_place-answer.result
          (λ kept. back g at (m.writes c.args.op) (λ x out among. unwritten (objects g at) (m.writes c.args.op) c.lend-lent.result c.apply_in_place-answer.new.values x
          (subst (λ (l : List ℕ). KeepsUnwritten l (m.writes c.args.op) c.lend-lent.result c.apply_in_place-answer.new.values) (sym (reads_are g at)) kept) (count g at) out among))
          c.apply_in_place-answer.ensures.kept;
      same = on_err_weaker c.apply_in_place-answer.result (λ same. back g at [] (λ x out among. ap (λ (vs : List (List ℕ)). value_for x (objects g at) vs) same)) c.apply_in_place-answer.ensures.err;
    }
