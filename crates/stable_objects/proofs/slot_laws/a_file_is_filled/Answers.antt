use Rattle.stable_objects.proofs.Upgraded.Filled.{filled_none, filled_more, filled_past}
use Rattle.stable_objects.proofs.slot_laws.a_file_is_filled.Goals as goal

pub returns-clause-begins : goal.returns-clause-begins
returns-clause-begins c = filled_none

pub returns-clause-put : goal.returns-clause-put
returns-clause-put c = filled_more

pub returns-clause-passed : goal.returns-clause-passed
returns-clause-passed c = filled_past
