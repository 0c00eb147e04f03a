use Rattle.std.proofs.Common.{◌≡◌, ◌≢◌, ◌<◌, ◌≤◌, ◌∙◌, subst, arith, ap, ℕ, Option, Some, length, option_map}
use Rattle.std.specs.Prelude.{nat_le}
use Rattle.std.specs.FinMap.{get}
use Rattle.std.proofs.lemmas.Bool.{leb-true}
use Rattle.formats.specs.Objects.{bounds_of}
use Rattle.key_entries.specs.EntryLaws.{both_true}
use Rattle.range_calls.specs.Store.{state_of}
use Rattle.name_ranges.specs.Directory.{key_of, number_bytes, sizes_of}
use Rattle.name_ranges.specs.Named.{directory_of}
use Rattle.name_ranges.specs.Putting.{written_in}
use Rattle.named_objects.specs.Giving.{changed, fresh, given_value, source_of}
use Rattle.named_objects.proofs.Acts.{put_acts, put_new, put_old, still_spare, take_acts, there}
use Rattle.named_objects.proofs.RecordLemmas.{changed_fits}
use Rattle.named_objects.proofs.Written.{writes_changed, writes_fresh}
use Rattle.named_objects.proofs.laws.calls_act_on_names.Goals as goal

pub returns : goal.returns
returns c = record {
  put = λ p commands lo hi names is name given spare has giving.
      let b = bounds_of p in
      let s = state_of p commands in
      let d = directory_of is in
      let had = get names name in
      let bytes = given_value s had given in
      let below = has.admits.objects in
      let most = has.small.objects in
      let fit = both_true (nat_le (length name) (sizes_of b).name) (nat_le (length bytes) p.cap) giving.short in
      let name_fits : length name ≤ (sizes_of b).name = leb-true (length name) (sizes_of b).name fit.0 in
      let fits : length bytes ≤ p.cap = leb-true (length bytes) p.cap fit.1 in
      let ops = c.operations_write_one_object.ensures in
      put_acts p commands lo hi names is name given spare (c.calls_are_told_of_names.ensures.object b lo hi s names is name has)
      (λ x found.
      let within = is.directory.within name x found in
      let apart = subst (λ (o : Option ℕ). (y : ℕ) → source_of given ≡ Some y → (y < p.objects) × (y ≢ written_in spare o)) found giving.source in
      let writes = writes_changed b s (ops.put b s) (ops.copy b s) (ops.append b s) x within.1 given apart had (is.value name ∙ ap (option_map s) found) fits in
      put_old p commands lo hi names is name given spare x (changed given x) writes
      (c.a_value_is_written.ensures.given b lo hi s names is (changed given x) name bytes x writes fits found) (changed_fits p given x))
      (λ none.
      let is_spare = giving.spare_is none in
      let op = fresh given spare in
      let apart = subst (λ (o : Option ℕ). (y : ℕ) → source_of given ≡ Some y → (y < p.objects) × (y ≢ written_in spare o)) none giving.source in
      let writes = writes_fresh b s (ops.put b s) (ops.copy b s) (ops.append b s) spare is_spare.before given apart had (is.value name ∙ ap (option_map s) none) fits in
      let leaves = c.a_value_is_written.ensures.spare b lo hi s names is op bytes spare writes fits is_spare in
      let behind = there p commands lo hi names is name given spare spare op writes leaves in
      put_new p commands lo hi names is name given spare writes leaves is_spare name_fits
      (c.a_name_is_given_an_object.ensures b lo hi _ names behind.named name spare has (still_spare p commands lo hi names is name given spare spare op writes leaves is_spare))
      (c.calls_act_as_on_an_ordered_map.ensures.set p _ lo hi (key_of name) (number_bytes spare) (omega (arith, below, most)) has.admits has.wide behind.named.kept));
  take = λ p commands lo hi names is name has.
      let below = has.admits.objects in
      let most = has.small.objects in
      take_acts p commands lo hi names is name (c.a_name_is_taken_away.ensures (bounds_of p) lo hi (state_of p commands) names is name has)
      (c.calls_act_as_on_an_ordered_map.ensures.delete p commands lo hi (key_of name) (omega (arith, below, most)) has.admits has.wide is.kept);
}
