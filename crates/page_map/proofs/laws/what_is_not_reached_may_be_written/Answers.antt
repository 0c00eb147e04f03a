use Rattle.page_map.proofs.ChangeLemmas.{out_of_reach}
use Rattle.page_map.proofs.laws.what_is_not_reached_may_be_written.Goals as goal

pub returns : goal.returns
returns c = out_of_reach
