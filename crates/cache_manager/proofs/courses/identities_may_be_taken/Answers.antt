use Rattle.std.proofs.Common.{sym, subst, ◌<◌, ℕ}
use Rattle.std.specs.Prelude.{All}
use Rattle.cache_manager.specs.InstallCourses.{identities}
use Rattle.running_store.specs.Running.{KeepsSound, may_be_taken}
use Rattle.cache_manager.specs.Upkeep.{upkeep_identities}
use Rattle.cache_manager.proofs.IdentityWrite.Logging.{identities_run}
use Rattle.cache_manager.proofs.courses.identities_may_be_taken.Goals as goal

pub returns : goal.returns
returns g c = λ b w objects used small is each.
    let m = g.O.Oper.meaning b in
    let keeps : KeepsSound m = λ v taken sound may. c.every_run_keeps.ensures.from_sound b v taken small sound may in
    let within = subst (λ (n : ℕ). All (λ x. x < n) objects) (sym (g.met.O.Oper.bounded b).objects) each in
    may_be_taken m w (identities m objects w used).steps keeps is (upkeep_identities m objects w used) (identities_run m keeps objects w used is within).allowed
