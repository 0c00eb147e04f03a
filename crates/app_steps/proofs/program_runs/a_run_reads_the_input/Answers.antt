use Rattle.app_steps.proofs.Reading.{as_many, state_read, steps_read}
use Rattle.app_steps.proofs.program_runs.a_run_reads_the_input.Goals as goal

pub returns : goal.returns
returns c = record {
  steps = λ k s small enough. steps_read k s small enough;
  state = λ p commands app k s there is has enough. state_read p app there k commands s is has enough;
  accepted = λ p commands app n s there is has. as_many p app there n commands s is has;
}
