-- How a record is judged on the values of a world's cache, and behind its history.
use Rattle.std.proofs.Common.{◌≡◌, ◌∙◌, ap, sym, ℕ, length}
use Rattle.std.proofs.Math.Path.{fun_ext}
use Rattle.oper_core.specs.Meaning.{Meaning, state_after}
use Rattle.oper_core.specs.State.{State}
use Rattle.formats.specs.declared.record.Record.{Record}
use Rattle.explain_core.specs.History.{IsHistory, commands_of, value_at}
use Rattle.explain_core.specs.Sound.{IsSound}
use Rattle.explain_core.specs.World.{IsLive, World, end_of}
use Rattle.execution.specs.Following.{judge_in}
use Rattle.execution.specs.Judged.{judge, judge_behind}
use Rattle.store_engine.proofs.Holding.{IsLiveMap}

-- both are the map
pub judged_behind : {O : Type 0} (m : Meaning O) → IsLiveMap m → ((h : _) (x : ℕ) → IsHistory m h → value_at m h (length h) x ≡ state_after m (commands_of h) x) → (w : World O) (r : Record O) → IsSound m w → IsLive w
    → judge_in m w r ≡ judge_behind m w.history r
judged_behind m map of_history w r sound live = ap (λ (s : State). judge m s (end_of w) r) (fun_ext (λ (x : ℕ). map w x sound live ∙ sym (of_history w.history x sound.history)))
