use Rattle.page_map.proofs.ReadLemmas.{first_is, last_is, next_is, prev_is, with_prefix_is}
use Rattle.page_map.proofs.laws.reads_are_ranges.Goals as goal

pub returns : goal.returns
returns c = record { first = first_is; last = last_is; next = next_is; prev = prev_is; prefix = with_prefix_is }
