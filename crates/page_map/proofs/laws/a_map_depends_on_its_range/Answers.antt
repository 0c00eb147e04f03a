use Rattle.page_map.proofs.AlikeLemmas.{alike_map}
use Rattle.page_map.proofs.laws.a_map_depends_on_its_range.Goals as goal

pub returns : goal.returns
returns c = alike_map
