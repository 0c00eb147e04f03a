use Rattle.name_ranges.proofs.Calls.{no_names, one_names}
use Rattle.name_ranges.proofs.laws.a_range_has_one_map_of_names.Goals as goal

pub returns : goal.returns
returns c = record {
  one = λ b lo hi s names others small is also. one_names b lo hi s names others (λ key map. c.a_get_finds_what_the_map_has.ensures lo hi s key small map) is also;
  none = λ b lo hi s fit order none. let kept = c.an_empty_root_is_an_empty_map.ensures.kept b lo hi s fit order none in no_names b lo hi s kept.0 kept.1;
}
