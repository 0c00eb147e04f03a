-- Small worlds of which a checkpoint and a trim are worked out: two objects of at most one byte, which are put.
use Rattle.std.specs.Prelude.{ℕ}
use Rattle.explain_core.specs.World.{World, run}
use Rattle.explain_core.specs.declared.byte_op.ByteOp.{ByteOp}
use Rattle.running_store.specs.Courses.{Course}
use Rattle.cache_manager.specs.InstallCourses.{install_course}
use Rattle.cache_manager.specs.Worked.{two_objects, apart_put}
use Rattle.checkpointing.specs.Courses.{checkpoint_course, closing_course, trim_course}

-- the first of the two puts is installed; the log has a header of 33 bytes, a block's head of 5, and two records of 12
abbrev pub one_installed : World ByteOp
one_installed = run two_objects apart_put (install_course two_objects 0 apart_put 62).steps

abbrev pub checkpoint_both : ℕ → Course ByteOp
checkpoint_both used = checkpoint_course two_objects apart_put used

abbrev pub closing_both : ℕ → Course ByteOp
closing_both used = closing_course two_objects apart_put used

abbrev pub trim_both : ℕ → Course ByteOp
trim_both epoch = trim_course two_objects epoch apart_put 62

abbrev pub trim_one : Course ByteOp
trim_one = trim_course two_objects 1 one_installed 62
