use Rattle.std.proofs.Common.{◌≡◌, ◌∙◌, ◌+◌, [], ◌∷◌, ◌++◌, slice_index, take, ap, sym}
use Rattle.std.proofs.lemmas.List.{take_more}
use Rattle.oper_core.specs.State.{is_among}
use Rattle.dirty_cache.specs.Contents.{held}
use Rattle.dirty_cache.specs.Places.{bytes_or}
use Rattle.running_store.specs.Laid.Lent.{cached_values}
use Rattle.running_store.proofs.LentLemmas.{among_behind, apart_before, keeps_more, lent_more}
use Rattle.running_store.proofs.lending.lend.Goals as goal

pub loop-object-preserved : goal.loop-object-preserved
loop-object-preserved c =
    let so_far = c.loop-object.invariant in
    let i = c.loop-object.object-index in
    let objects = c.args.objects.now in
    let o = slice_index objects i in
    let front = take i objects in
    let more : take (i + 1) objects ≡ front ++ o ∷ [] = take_more objects i 0 c.loop-object-test.true in
    let none : c.new-value.result ≡ [] = c.new-value.ensures ∙ c.new.ensures.items in
    let same : held c.loop-object.cache o ≡ held c.args.cache.now o = so_far.kept.others o (apart_before objects i c.requires.apart c.loop-object-test.true) in
    let value : c.swap.new.bytes ≡ cached_values c.args.cache.now o = c.swap.ensures.bytes ∙ (λ j. bytes_or (same j) (none j)) in
    record {
      values = c.push_list.ensures ∙ lent_more (cached_values c.args.cache.now) objects c.loop-object.values c.swap.new.bytes i c.loop-object-test.true so_far.values value;
      kept = keeps_more so_far.kept c.swap.ensures.after (take (i + 1) objects) (λ x out. among_behind o front x (sym (ap (is_among x) more) ∙ out)) c.swap.ensures.rooms;
    }
