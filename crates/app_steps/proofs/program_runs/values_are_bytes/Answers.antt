use Rattle.std.proofs.Common.{◌∙◌, subst, List}
use Rattle.oper_core.specs.State.{start}
use Rattle.formats.specs.Objects.{IsInRange, bounds_of}
use Rattle.op_codec.specs.AllOps.{AllOps, all_meaning}
use Rattle.running_store.specs.Laid.Among.{small_bounds}
use Rattle.store_engine.specs.Store.{meaning_in}
use Rattle.app_steps.specs.Programs.{AreOfBytes}
use Rattle.app_steps.proofs.Accepted.{AreAccepted, back_accepted, history_accepted}
use Rattle.app_steps.proofs.Given.{given, value_bytes}
use Rattle.app_steps.proofs.program_runs.values_are_bytes.Goals as goal

pub returns-clause-range : goal.returns-clause-range
returns-clause-range g c = λ p commands holds. subst IsInRange holds.shows.shows.store.params c.params.ensures.range

pub returns-clause-values : goal.returns-clause-values
returns-clause-values g c = λ p commands before since holds same are x.
    let range : IsInRange p = subst IsInRange holds.shows.shows.store.params c.params.ensures.range in
    record {
      bytes = value_bytes p before are x;
      short = c.values_fit.ensures (bounds_of p) holds.world.history before since (small_bounds p range) holds.shows.sound.history (holds.commands_are ∙ same) x;
    }

pub returns-clause-given : goal.returns-clause-given
returns-clause-given g c = λ p commands before since app code holds same are only.
    let m = meaning_in all_meaning p in
    let all = subst (λ (l : List AllOps). AreAccepted m start l) (holds.commands_are ∙ same) (history_accepted m holds.world.history holds.shows.sound.history) in
    given p app code since before (back_accepted m before since start all) (subst (λ (l : List AllOps). AreOfBytes p l) same are) only
