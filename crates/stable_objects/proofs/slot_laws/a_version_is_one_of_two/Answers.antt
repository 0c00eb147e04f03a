use Rattle.stable_objects.proofs.Upgraded.Staying.{still_first, now_second}
use Rattle.stable_objects.proofs.slot_laws.a_version_is_one_of_two.Goals as goal

pub returns-clause-first : goal.returns-clause-first
returns-clause-first c = still_first

pub returns-clause-second : goal.returns-clause-second
returns-clause-second c = now_second
