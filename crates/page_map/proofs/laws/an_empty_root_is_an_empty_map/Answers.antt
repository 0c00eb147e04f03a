use Rattle.page_map.proofs.AlikeLemmas.{empty_kept, empty_map}
use Rattle.page_map.proofs.laws.an_empty_root_is_an_empty_map.Goals as goal

pub returns-clause-map : goal.returns-clause-map
returns-clause-map c = empty_map

pub returns-clause-kept : goal.returns-clause-kept
returns-clause-kept c = empty_kept
