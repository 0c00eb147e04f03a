-- The turns of a redo are allowed, and keep a world sound.
use Rattle.std.proofs.Common.{◌≡◌, ◌∙◌, sym, subst, ap, ℕ, zero, suc, List, [], ◌∷◌, length, nat_le, if◌then◌else◌}
use Rattle.std.proofs.lemmas.Bool.{cond_both, leb-true}
use Rattle.oper_core.specs.Meaning.{Meaning, IsLawful, state_after}
use Rattle.explain_core.specs.History.{Member, commands_of}
use Rattle.explain_core.specs.World.{World, Step, run, AreAllowed, IsLive, IsAllStable}
use Rattle.explain_core.specs.World.Step.{Replay}
use Rattle.explain_core.specs.RunLaws.{allowed-append}
use Rattle.explain_core.specs.Sound.{IsSound}
use Rattle.explain_core.specs.declared.marks.Marks.{Marks}
use Rattle.explain_core.specs.Turns.{must_install, thin_turn, turn, turns}
use Rattle.explain_core.specs.TurnLaws.{turns_next, turns_none}
use Rattle.explain_core.specs.KeptLog.{kept_stable, run_kept, quiet_turn, run_next, run_zero, turns_kept}
use Rattle.explain_core.proofs.Runs.{run_sound, sound-map}
use Rattle.explain_core.proofs.ThinRuns.{thin_turn_allowed}

module _ {O : Type 0} (m : Meaning O) (law : IsLawful m) (marks : Marks) where
  turn_allowed : (w : World O) → IsSound m w → IsAllStable w → AreAllowed m w (turn m marks w)
  turn_allowed w sound stable =
      let replay : List (Step O) = if nat_le w.next (length w.history) then Replay ∷ [] else [] in
      cond_both (must_install m marks w) (thin_turn m marks.most w) replay (λ (l : List (Step O)). AreAllowed m w l) (λ must. thin_turn_allowed m law w sound stable marks.most)
      (λ enough. cond_both (nat_le w.next (length w.history)) (Replay ∷ []) [] (λ (l : List (Step O)). AreAllowed m w l) (λ old. (leb-true _ _ old, tt)) (λ over. tt))

  pub turns-sound : (n : ℕ) (w : World O) → IsSound m w → IsAllStable w → AreAllowed m w (turns m marks n w) × IsSound m (run m w (turns m marks n w))
  turns-sound zero w sound stable = (
    subst (λ (steps : List (Step O)). AreAllowed m w steps) (sym (turns_none m marks w)) tt,
    subst (λ (v : World O). IsSound m v) (run_zero m marks w) sound,
  )
  turns-sound (suc n) w sound stable =
      let t = turn m marks w in
      let v = run m w t in
      let kept = run_kept m w t (quiet_turn m marks w) in
      let may = turn_allowed w sound stable in
      let rest = turns-sound n v (run_sound m law w t may sound) (kept_stable w v kept stable) in (
        subst (λ (steps : List (Step O)). AreAllowed m w steps) (sym (turns_next m marks n w)) (allowed-append m w t (turns m marks n v) may rest.0),
        subst (λ (u : World O). IsSound m u) (run_next m marks n w) rest.1,
      )

  -- after turns that leave nothing to replay the cache is the map
  pub turns-map : (n : ℕ) (w : World O) → IsSound m w → IsAllStable w → IsLive (run m w (turns m marks n w)) → (x : ℕ) → ((run m w (turns m marks n w)).cache x).value ≡ state_after m (commands_of w.history) x
  turns-map n w sound stable live x =
      sound-map m (run m w (turns m marks n w)) live (turns-sound n w sound stable).1 x
      ∙ ap (λ (h : List (Member O)). state_after m (commands_of h) x) (turns_kept m marks n w).history
