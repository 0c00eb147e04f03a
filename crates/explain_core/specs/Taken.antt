-- What holds after some first steps of a list: what a call that takes steps leaves, wherever it is stopped.
use Rattle.std.proofs.Common.{◌∙◌, sym, subst, List, [], ◌++◌}
use Rattle.std.specs.Prelude.{IsTrue}
use Rattle.oper_core.specs.Meaning.{Meaning}
use Rattle.explain_core.specs.World.{World, Step, run}
use Rattle.explain_core.specs.RunLaws.{Begins, begins-none, begins-all, begins-longer, begins-behind, run-append}
use Rattle.explain_core.specs.declared.marks.Marks.{Marks}
use Rattle.explain_core.specs.Turns.{must_install, thin_turn, turns}
use Rattle.explain_core.specs.TurnLaws.{one_turn, install_turn}

-- after some first steps of the list, none or all among them, the world has P
pub record IsAfterSome {O : Type 0} (m : Meaning O) (P : World O → Type 0) (w : World O) (steps : List (Step O)) : Type 0 where
  pub taken : List (Step O)
  pub begins : Begins steps taken
  pub holds : P (run m w taken)

module _ {O : Type 0} (m : Meaning O) (P : World O → Type 0) (w : World O) where
  -- no step was taken yet
  pub after_none : (steps : List (Step O)) → P w → IsAfterSome m P w steps
  unfolding run
  after_none steps here = record { taken = []; begins = begins-none steps; holds = here }

  -- all steps were taken
  pub after_all : (steps : List (Step O)) → P (run m w steps) → IsAfterSome m P w steps
  after_all steps there = record { taken = steps; begins = begins-all steps; holds = there }

  -- some first steps of a list are some of a longer one
  pub after_longer : (xs ys : List (Step O)) → IsAfterSome m P w xs → IsAfterSome m P w (xs ++ ys)
  after_longer xs ys is = record { taken = is.taken; begins = begins-longer xs ys is.taken is.begins; holds = is.holds }

  -- all steps of a list, and then some of the next
  pub after_behind : (xs ys : List (Step O)) → IsAfterSome m P (run m w xs) ys → IsAfterSome m P w (xs ++ ys)
  after_behind xs ys is = record {
    taken = xs ++ is.taken;
    begins = begins-behind xs ys is.taken is.begins;
    holds = subst P (sym (run-append m w xs is.taken)) is.holds;
  }

  -- some steps of a turn that logs nothing, where a redo takes one, are some of its own
  pub after_install : (marks : Marks) → IsTrue (must_install m marks w) → IsAfterSome m P w (thin_turn m marks.most w) → IsAfterSome m P w (turns m marks 1 w)
  after_install marks must is = subst (λ (l : List (Step O)). IsAfterSome m P w l) (sym (one_turn m marks w ∙ install_turn m marks w must)) is
