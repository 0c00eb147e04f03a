-- A redo that has no records left, and nothing to install, is over.
use Rattle.std.proofs.Common.{◌≡◌, ◌∙◌, sym, ap, subst, ℕ, ◌+◌, ◌-◌, ◌<◌, false, if◌then◌else◌, List, [], ◌∷◌, ◌++◌, length, arith, inl, inr}
use Rattle.std.specs.Prelude.{◌*◌, nat_le}
use Rattle.std.proofs.lemmas.Bool.{and_parts, cases_Bool, cond-false, cond-true, leb-false, lt-leb}
use Rattle.std.proofs.lemmas.List.{append-nil}
use Rattle.disk_model.specs.Disk.{Files}
use Rattle.disk_model.specs.declared.machine.FileNo.TheVariants.{Objects}
use Rattle.oper_core.specs.Meaning.{Meaning, state_after}
use Rattle.formats.specs.declared.params.Params.{Params}
use Rattle.explain_core.specs.History.{Member, commands_of}
use Rattle.explain_core.specs.KeptLog.{turns_kept}
use Rattle.explain_core.specs.TurnBound.{thin_some, turns_stay, redo_over}
use Rattle.explain_core.specs.TurnLaws.{turns_join}
use Rattle.explain_core.specs.Turns.{has_thin, is_over, must_install, thin_turn, turn, turns}
use Rattle.explain_core.specs.World.{World, Step, run, end_of, IsLive}
use Rattle.explain_core.specs.World.Step.{Replay}
use Rattle.explain_core.specs.declared.marks.Marks.{Marks}
use Rattle.standing.specs.Standing.{FilesShow}
use Rattle.running_store.specs.Parts.{Volatile, ShowsVolatile}
use Rattle.redo_pass.specs.Progress.{SoFar}
use Rattle.redo_pass.specs.Redo.{IsRedone, redone_world}

module _ {O : Type 0} (m : Meaning O) (marks : Marks) (w : World O) where
  abbrev pub at : ℕ → World O
  at n = run m w (turns m marks n w)

  -- turns that end the redo are as all its turns
  pub no_more : (a b : ℕ) → turn m marks (at a) ≡ [] → turns m marks (a + b) w ≡ turns m marks a w
  no_more a b over = turns_join m marks a b w ∙ ap (λ (l : List (Step O)). turns m marks a w ++ l) (turns_stay m marks b (at a) over) ∙ append-nil (turns m marks a w)

  all_turns : (a b : ℕ) → turn m marks (at a) ≡ [] → turn m marks (at b) ≡ [] → at a ≡ at b
  all_turns a b over also =
      let swapped : a + b ≡ b + a = omega arith in
      ap (λ (l : List (Step O)). run m w l) (sym (no_more a b over) ∙ ap (λ (n : ℕ). turns m marks n w) swapped ∙ no_more b a also)

  -- nothing is to be installed, and nothing left to replay
  turn_over : (v : World O) → must_install m marks v ≡ false → length v.history < v.next → turn m marks v ≡ []
  turn_over v enough live = cond-false (must_install m marks v) _ _ enough ∙ cond-false (nat_le v.next (length v.history)) _ _ (lt-leb v.next (length v.history) live)

  pub ended : (p : Params) (files : Files) (it : Volatile) → ((n : ℕ) → w.graph n ≡ false) → ((n x : ℕ) → IsLive (at n) → ((at n).cache x).value ≡ state_after m (commands_of w.history) x)
      → SoFar m p files it marks w [] → IsRedone m p files it marks w
  ended p files it none map so_far =
      let a = so_far.turned in
      let live : IsLive (at a) = omega (arith, so_far.members, ap (λ (h : List (Member O)). length h) (turns_kept m marks a w).history) in
      let same : at a ≡ redone_world m marks w = all_turns a (2 * (end_of w - w.next)) (turn_over (at a) so_far.enough live) (redo_over m marks w none) in
      record {
        files_show = subst (λ (v : World O). FilesShow m p files v) same so_far.shown.files_show;
        store_shows = subst (λ (v : World O). ShowsVolatile m p (files Objects) it v) same so_far.shown.store_shows;
        live = subst IsLive same live;
        enough = ap (must_install m marks) (sym same) ∙ so_far.enough;
        map_is = λ x. ap (λ (v : World O). (v.cache x).value) (sym same) ∙ map a x live;
      }

  abbrev AreNone : List (Step O) → Type 0
  AreNone steps = steps ≡ []

  -- a turn that does nothing has nothing left to replay
  over_live : (v : World O) → turn m marks v ≡ [] → IsLive v
  over_live v over =
      let replay : List (Step O) = if nat_le v.next (length v.history) then Replay ∷ [] else [] in
      elim (cases_Bool (must_install m marks v)) [
        | inl must ↦ absurd (thin_some m marks marks.most v (and_parts (is_over m marks v) (has_thin m v) must).1 (sym (cond-true (must_install m marks v) (thin_turn m marks.most v) replay must) ∙ over))
        | inr enough ↦ elim (cases_Bool (nat_le v.next (length v.history))) [
          | inl left ↦ absurd (one_step (sym (cond-false (must_install m marks v) (thin_turn m marks.most v) replay enough ∙ cond-true (nat_le v.next (length v.history)) (Replay ∷ []) [] left) ∙ over))
          | inr past ↦ leb-false v.next (length v.history) past
        ]
      ]
    where
      one_step : AreNone (Replay ∷ []) → ⊥
      one_step is = cc

  -- so has the world after all turns
  pub redone_live : ((n : ℕ) → w.graph n ≡ false) → IsLive (redone_world m marks w)
  redone_live none = over_live (redone_world m marks w) (redo_over m marks w none)
