use Rattle.write_queue.specs.Memory.{first_files, taken_from, waiting_in}
use Rattle.write_queue.proofs.Fronts.{moments_are_fronts}
use Rattle.write_queue.proofs.real_files.fronts_are_what_is_left.Goals as goal

pub returns : goal.returns
returns c m files said = moments_are_fronts (first_files m) (taken_from m) (waiting_in m) files said
