use Rattle.std.proofs.Common.{◌∙◌}
use Rattle.formats.specs.Objects.{bounds_of}
use Rattle.running_store.specs.Laid.Among.{small_bounds}
use Rattle.app_steps.proofs.Given.{value_bytes}
use Rattle.app_steps.proofs.program_runs.stored_values_are_bytes.Goals as goal

pub returns : goal.returns
returns c = λ p files commands before since stands same are x. record {
  bytes = value_bytes p before are x;
  short = c.values_fit.ensures (bounds_of p) stands.history before since (small_bounds p stands.holds.objects.in_range) stands.stable.members (stands.commands_are ∙ same) x;
}
