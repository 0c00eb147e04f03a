use Rattle.page_map.specs.Sets.{IsKept}
use Rattle.name_ranges.specs.Directory.{key_of}
use Rattle.name_ranges.proofs.Calls.{takes}
use Rattle.name_ranges.proofs.Untouched.{below_all, narrow, narrow_admits}
use Rattle.name_ranges.proofs.laws.a_name_is_taken_away.Goals as goal

pub returns : goal.returns
returns c = λ b lo hi s names is name has.
    let small = below_all b hi has in
    let narrowly : IsKept (narrow b hi) lo hi s = record { map = is.kept.map; short = is.kept.short; values_fit = is.kept.values_fit } in
    let delete = c.a_delete_is_done_or_refused.ensures.delete in
    takes b lo hi s names is has name (delete b lo hi s (key_of name) small has.admits is.kept) narrowly (delete (narrow b hi) lo hi s (key_of name) small (narrow_admits b hi has) narrowly)
    (c.changes_are_those_of_the_map.ensures.delete b lo hi s (key_of name) small is.kept.map)
