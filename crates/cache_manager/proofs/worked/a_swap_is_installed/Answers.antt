use Rattle.std.proofs.Common.{refl, arith}
use Rattle.oper_core.specs.Meaning.{IsSmall}
use Rattle.explain_core.specs.World.{step, run, AreAllowed, new_world}
use Rattle.explain_core.specs.Worked.{two}
use Rattle.explain_core.specs.declared.byte_op.ByteOp.{ByteOp}
use Rattle.running_store.specs.Running.{IsRunning}
use Rattle.cache_manager.specs.Worked.{two_objects, put_both, both_put}
use Rattle.cache_manager.proofs.worked.a_swap_is_installed.Goals as goal

are_small : IsSmall two
are_small = record { objects = omega arith; cap = omega arith }

put_allowed : AreAllowed two_objects (new_world ByteOp) put_both
unfolding step
put_allowed = ((omega arith, refl), ((omega arith, refl), ((omega arith, refl), tt)))

pub returns : goal.returns
unfolding step run
returns c =
    let running : IsRunning two_objects both_put = record {
      sound = c.every_run_keeps.ensures.from_new two put_both are_small put_allowed;
      live = omega arith;
      alone = refl;
    } in
    record {
      running = running;
      taken = c.install_may_be_taken.ensures two 0 both_put 74 are_small running;
      install = refl;
      node = (refl, refl, refl, refl);
      members = refl;
      drain = (refl, refl, refl, refl);
      full = refl;
    }
