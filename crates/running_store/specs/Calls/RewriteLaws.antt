-- Where a log may be rewritten.
use Rattle.std.proofs.Common.{◌≡◌, length, arith, inl, inr}
use Rattle.std.proofs.lemmas.Bool.{cases_lt}
use Rattle.oper_core.specs.Meaning.{Meaning}
use Rattle.install_order.specs.NodeLaws.{least-is}
use Rattle.explain_core.specs.Sound.{IsSound}
use Rattle.explain_core.specs.World.{World, IsAllowed, IsLive, NoGroup, end_of}
use Rattle.explain_core.specs.World.Step.{Header_gate}
use Rattle.running_store.specs.Calls.Rewrites.{new_base}

-- where all is forced the header's gate may be opened at the least member of the graph
pub gate_allowed : {O : Type 0} (m : Meaning O) (w : World O) → IsSound m w → IsLive w → NoGroup w → w.forced ≡ length w.history → IsAllowed m w (Header_gate (new_base m w))
gate_allowed m w sound live alone all =
    let low = least-is w.graph (end_of w) in (
      live,
      (all, alone),
      elim (cases_lt (new_base m w) (end_of w)) [
        | inl below ↦ (sound.graph (new_base m w) (low.1 below)).0
        | inr past ↦ omega (arith, past, sound.next.0, sound.next.1)
      ],
      omega (arith, low.0, live),
      λ n there. low.2 n (omega (arith, (sound.graph n there).1, sound.next.1)) there,
    )
