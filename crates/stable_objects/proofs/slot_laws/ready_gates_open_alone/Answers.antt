use Rattle.stable_objects.proofs.Opened.{held_are, old_or_new, opened_new}
use Rattle.stable_objects.proofs.slot_laws.ready_gates_open_alone.Goals as goal

pub returns-clause-any : goal.returns-clause-any
returns-clause-any c slots objects pairs old new are ready keeps = old_or_new slots objects pairs old new are ready keeps

pub returns-clause-opened : goal.returns-clause-opened
returns-clause-opened c slots objects pairs old new are ready keeps opened x below among = opened_new slots objects pairs old new are ready keeps x below among (opened x among)

pub returns-clause-held : goal.returns-clause-held
returns-clause-held c slots later objects pairs old new are ready keeps opened held = held_are slots objects pairs old new are ready keeps later held opened
