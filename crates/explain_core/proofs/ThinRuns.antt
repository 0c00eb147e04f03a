-- A turn that logs nothing is allowed: a round, or the removal of a node that has nothing to flush.
use Rattle.std.proofs.Common.{ℕ, true, List}
use Rattle.std.specs.Prelude.{max}
use Rattle.oper_core.specs.Meaning.{Meaning, IsLawful}
use Rattle.explain_core.specs.RoundGates.{gates_of, removals_of}
use Rattle.explain_core.specs.RoundRemovals.{nodes_removed}
use Rattle.explain_core.specs.RunLaws.{allowed-append}
use Rattle.explain_core.specs.Sound.{IsSound}
use Rattle.explain_core.specs.ThinLaws.{removal_allowed}
use Rattle.explain_core.specs.TurnLaws.{by_thin_turn}
use Rattle.explain_core.specs.Turns.{free_gates, free_round, thin_turn}
use Rattle.explain_core.specs.World.{AreAllowed, IsAllStable, Step, World}
use Rattle.explain_core.proofs.RoundMay.{round_may}

module _ {O : Type 0} (m : Meaning O) (lawful : IsLawful m) (w : World O) (sound : IsSound m w) (stable : IsAllStable w) (most : ℕ) where
  round_allowed : AreAllowed m w (free_round m (max 1 most) w)
  round_allowed =
      let gates = free_gates m (max 1 most) w in
      let may = round_may m lawful w sound stable (λ v x. true) (max 1 most) in
      allowed-append m w (gates_of gates) (removals_of gates) may (nodes_removed m w gates may)

  pub thin_turn_allowed : AreAllowed m w (thin_turn m most w)
  thin_turn_allowed =
      by_thin_turn m (λ (l : List (Step O)). AreAllowed m w l) most w (λ thin some. round_allowed) (λ thin none. removal_allowed m lawful w sound stable thin none) (λ no_thin. tt)
