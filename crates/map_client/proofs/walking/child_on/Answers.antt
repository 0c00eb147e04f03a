use Rattle.page_ops.specs.Reading.{under}
use Rattle.map_client.proofs.WalkLemmas.{found_within}
use Rattle.map_client.proofs.walking.child_on.Goals as goal

pub returns-clause-within : goal.returns-clause-within
returns-clause-within c = found_within c.args.map.now.lo c.args.map.now.hi c.in_ok-page.page (under c.in_ok-page.page c.args.key.now) c.child_for.result c.child_for.ensures
