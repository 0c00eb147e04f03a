-- Which member may come next in a world, and its course.
use Rattle.std.proofs.Common.{◌≡◌, sym, ap, ℕ, false, [], Option, None, Some}
use Rattle.std.specs.Prelude.{IsTrue, not}
use Rattle.std.specs.Option.{is_some}
use Rattle.std.proofs.lemmas.Bool.{cond-true, cond-false}
use Rattle.oper_core.specs.Meaning.{Meaning}
use Rattle.oper_core.specs.State.{State}
use Rattle.oper_core.specs.declared.refusal.Refusal.{Refusal}
use Rattle.explain_core.specs.History.{Member}
use Rattle.explain_core.specs.History.Member.{Command}
use Rattle.explain_core.specs.World.{World}
use Rattle.running_store.specs.Courses.{course}
use Rattle.running_store.specs.Courses.Stop.{Through}
use Rattle.execution.specs.Courses.{refusal_in}
use Rattle.execution.specs.Following.{member_course, taken_course}
use Rattle.execution.specs.Judged.{may_follow}

module _ {O : Type 0} (m : Meaning O) (w : World O) where
  abbrev values : State
  values x = (w.cache x).value

  -- a command that nothing refuses
  pub command_may : (op : O) → refusal_in m w op ≡ None → IsTrue (may_follow m values (Command op))
  command_may op accepted = ap (λ (o : Option Refusal). not (is_some o)) accepted

  pub refused_may_not : (op : O) (r : Refusal) → refusal_in m w op ≡ Some r → may_follow m values (Command op) ≡ false
  refused_may_not op r refused = ap (λ (o : Option Refusal). not (is_some o)) refused

  module _ (member : Member O) (used : ℕ) where
    pub may_is : IsTrue (may_follow m values member) → taken_course m member w used ≡ member_course m member w used
    may_is may = sym (cond-true (may_follow m values member) _ _ may)

    pub may_not_is : may_follow m values member ≡ false → course [] used Through ≡ member_course m member w used
    may_not_is not_so = sym (cond-false (may_follow m values member) _ _ not_so)
