use Rattle.write_queue.specs.Before.{first_of}
use Rattle.write_queue.specs.Lending.{made, waiting_in}
use Rattle.write_queue.proofs.Fronts.{moments_are_fronts}
use Rattle.write_queue.proofs.real_files.lent_fronts_are_what_is_left.Goals as goal

pub returns-clause-fronts : goal.returns-clause-fronts
returns-clause-fronts c m files said = moments_are_fronts (first_of m.past) m.past.taken (waiting_in m) files said

pub returns-clause-again : goal.returns-clause-again
returns-clause-again c m = made m
