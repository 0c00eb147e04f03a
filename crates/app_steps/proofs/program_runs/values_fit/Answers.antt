use Rattle.std.proofs.Common.{subst, ℕ, length, ◌≤◌}
use Rattle.oper_core.specs.Meaning.{state_after}
use Rattle.app_steps.proofs.Accepted.{values_fit}
use Rattle.app_steps.proofs.program_runs.values_fit.Goals as goal

pub returns : goal.returns
returns g c = λ b h before since small is same x.
    let m = g.O.Oper.meaning b in
    subst (λ (n : ℕ). length (state_after m before x) ≤ n) (g.met.O.Oper.bounded b).cap (values_fit m (g.met.O.Oper.lawful b small) h is before since same x)
