use Rattle.page_map.specs.Sets.{IsKept}
use Rattle.name_ranges.specs.Directory.{key_of, number_bytes}
use Rattle.name_ranges.proofs.Calls.{gives}
use Rattle.name_ranges.proofs.Untouched.{below_all, narrow, narrow_admits}
use Rattle.name_ranges.proofs.laws.a_name_is_given_an_object.Goals as goal

pub returns : goal.returns
returns c = λ b lo hi s names is name x has spare.
    let small = below_all b hi has in
    let narrowly : IsKept (narrow b hi) lo hi s = record { map = is.kept.map; short = is.kept.short; values_fit = is.kept.values_fit } in
    let set = c.a_set_is_done_or_refused.ensures in
    gives b lo hi s names is has name x spare (set b lo hi s (key_of name) (number_bytes x) small has.admits is.kept) narrowly
    (set (narrow b hi) lo hi s (key_of name) (number_bytes x) small (narrow_admits b hi has) narrowly)
