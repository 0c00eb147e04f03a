use Rattle.std.proofs.Common.{◌∙◌, ℕ, List, [], length, min, take, ap}
use Rattle.std.specs.Result.{result_err}
use Rattle.op_codec.specs.AllOps.{all_meaning}
use Rattle.cache_manager.specs.Endings.{at_err}
use Rattle.store_engine.specs.Commands.{HasFetched}
use Rattle.store_engine.specs.Lists.{AreCalls, as_exec}
use Rattle.embed.proofs.store.Store.get.Goals as goal

pub returns-clause-value : goal.returns-clause-value
returns-clause-value g c = λ p commands holds.
    let room = length c.args.into.now in
    let value = c.get.ensures.value [] ∙ c.in_ok-fetch.ensures.value p commands holds c.if-not-branch.false [] in (
      c.copy_front.ensures.count ∙ ap (λ (l : List ℕ). length l) value,
      ap (λ (n : ℕ). take (min n room) c.copy_front.new.into) c.copy_front.ensures.count ∙ c.copy_front.ensures.front ∙ ap (λ (l : List ℕ). take room l) value,
    )

pub returns-in_err-fetch-clause-fetched : goal.returns-in_err-fetch-clause-fetched
returns-in_err-fetch-clause-fetched g c = λ unbroken.
    at_err (λ r. HasFetched all_meaning (g.M.Machine.disk c.args.self.now.machine) (g.M.Machine.disk c.fetch.new.machine) c.args.self.now.engine c.fetch.new.self c.args.object (result_err r)) c.from_residual.result
    c.in_err-fetch.field-0.0 c.from_residual.ensures.1 c.in_err-fetch.ensures.fetched

pub returns-in_err-fetch-clause-calls : goal.returns-in_err-fetch-clause-calls
returns-in_err-fetch-clause-calls g c = λ unbroken.
    at_err (λ r. AreCalls all_meaning (g.M.Machine.disk c.args.self.now.machine) (g.M.Machine.disk c.fetch.new.machine) c.args.self.now.engine c.fetch.new.self (as_exec (result_err r))) c.from_residual.result
    c.in_err-fetch.field-0.0 c.from_residual.ensures.1 c.in_err-fetch.ensures.calls
