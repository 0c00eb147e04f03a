-- A world that a crash leaves as it is: that of a store just after a stop.
use Rattle.std.proofs.Common.{◌≡◌, ◌∙◌, sym, ap, false, [], length, length-take-le}
use Rattle.oper_core.specs.Meaning.{Meaning}
use Rattle.explain_core.specs.Sound.{IsSound}
use Rattle.explain_core.specs.World.{World, step, IsAllStable, plan_of, start_of}
use Rattle.explain_core.specs.World.Step.{Crash}

module _ {O : Type 0} (m : Meaning O) (w : World O) (crashed : step m w Crash ≡ w) where
  -- nothing newer is cached, nothing is in the graph, and no checkpoint waits
  pub crashed-cache : w.cache ≡ w.slots
  unfolding step
  crashed-cache = sym (ap (λ (v : World O). v.cache) crashed)

  pub crashed-graph : w.graph ≡ (λ n. false)
  unfolding step
  crashed-graph = sym (ap (λ (v : World O). v.graph) crashed)

  pub crashed-pending : w.pending ≡ []
  unfolding step
  crashed-pending = sym (ap (λ (v : World O). v.pending) crashed)

  -- a redo begins where the plan says
  pub crashed-next : w.next ≡ start_of m.objects (plan_of w.tables w.base)
  unfolding step
  crashed-next = sym (ap (λ (v : World O). v.next) crashed)

  -- all members are stable, and no group is open
  pub crashed-stable : IsSound m w → IsAllStable w
  unfolding step
  crashed-stable sound = (
    sym (length-take-le w.forced w.history sound.forced) ∙ ap (λ (v : World O). length v.history) crashed,
    sym (ap (λ (v : World O). v.group) crashed),
  )
