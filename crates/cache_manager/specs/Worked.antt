-- Small worlds of which an install is worked out: objects of at most one byte, put and swapped.
use Rattle.std.specs.Prelude.{ℕ, Bool, List, [], ◌∷◌}
use Rattle.oper_core.specs.Meaning.{Meaning}
use Rattle.explain_core.specs.ByteOps.{byte_meaning}
use Rattle.explain_core.specs.History.Member.{Command, Identity}
use Rattle.explain_core.specs.Worked.{two, after_steps}
use Rattle.explain_core.specs.World.{World, Step, run}
use Rattle.explain_core.specs.World.Step.{Append}
use Rattle.explain_core.specs.declared.byte_op.ByteOp.{ByteOp}
use Rattle.explain_core.specs.declared.byte_op.ByteOp.TheVariants.{Put, Swap}
use Rattle.running_store.specs.Courses.{Course}
use Rattle.cache_manager.specs.InstallCourses.{install_course, drain_course, next_node}

abbrev pub two_objects : Meaning ByteOp
two_objects = byte_meaning two

-- aa is put into 0 and bb into 1, and the two are swapped; the log has a header of 33 bytes, a block's head of 5, and three
-- records of 12
abbrev pub put_both : List (Step ByteOp)
put_both = Append (Command (Put 0 170)) ∷ Append (Command (Put 1 187)) ∷ Append (Command (Swap 0 1)) ∷ []

abbrev pub both_put : World ByteOp
both_put = after_steps put_both

abbrev pub install_both : ℕ → Course ByteOp
install_both used = install_course two_objects 0 both_put used

abbrev pub drain_both : Course ByteOp
drain_both = drain_course two_objects 0 both_put 74

-- the node that is next after the identity write of 1
abbrev pub swap_node : ℕ → Bool
swap_node = next_node two_objects (run two_objects both_put (Append (Identity 1 (170 ∷ [])) ∷ []))

-- aa is put into 0, and it is swapped with 1, which is empty
abbrev pub one_put : World ByteOp
one_put = after_steps (Append (Command (Put 0 170)) ∷ Append (Command (Swap 0 1)) ∷ [])

abbrev pub install_one_put : Course ByteOp
install_one_put = install_course two_objects 0 one_put 62

-- the two are put alone
abbrev pub apart_put : World ByteOp
apart_put = after_steps (Append (Command (Put 0 170)) ∷ Append (Command (Put 1 187)) ∷ [])

abbrev pub drain_apart : Course ByteOp
drain_apart = drain_course two_objects 0 apart_put 62
