-- One record more is replayed, and nodes are installed after it: how far a redo then has come.
use Rattle.std.proofs.Common.{◌≡◌, ◌∙◌, sym, ap, subst, ℕ, zero, suc, ◌+◌, ◌-◌, ◌≤◌, false, Some, List, length, arith, inl, inr}
use Rattle.std.specs.Prelude.{◌*◌}
use Rattle.std.proofs.lemmas.Bool.{cases_lt}
use Rattle.std.proofs.lemmas.Option.{slice_get_within}
use Rattle.disk_model.specs.Disk.{Files, Disk}
use Rattle.disk_model.specs.declared.machine.FileNo.TheVariants.{Objects}
use Rattle.oper_core.specs.Meaning.{Meaning}
use Rattle.formats.specs.declared.params.Params.{Params}
use Rattle.formats.specs.declared.record.Record.{Record}
use Rattle.explain_core.specs.History.{Member, with_lsn}
use Rattle.explain_core.specs.KeptLog.{turns_kept}
use Rattle.explain_core.specs.TurnBound.{redo_over}
use Rattle.explain_core.specs.TurnLaws.{turns_join, run_join, run_replay}
use Rattle.explain_core.specs.Turns.{must_install, turns}
use Rattle.explain_core.specs.World.{World, Step, step, run, end_of}
use Rattle.explain_core.specs.World.Step.{Replay}
use Rattle.explain_core.specs.declared.marks.Marks.{Marks}
use Rattle.standing.specs.Moments.{TakesSome, moments_longer}
use Rattle.standing.specs.Standing.{FilesShow}
use Rattle.running_store.specs.Parts.{Volatile, ShowsVolatile}
use Rattle.redo_pass.specs.Progress.{HasTurned, SoFar, IsLimited}
use Rattle.redo_pass.specs.Redo.{redo_steps}
use Rattle.redo_pass.specs.Rising.{AreMembers}
use Rattle.redo_pass.proofs.Ends.{at, no_more}

-- an LSN that some member has is within the history
pub with_lsn_within : {O : Type 0} (h : List (Member O)) (n : ℕ) (it : Member O) → with_lsn h n ≡ Some it → n ≤ length h
with_lsn_within h zero it is = omega arith
with_lsn_within h (suc n) it is = let r = slice_get_within h n it is in omega (arith, r)

module _ {O : Type 0} (m : Meaning O) (p : Params) (marks : Marks) (w : World O) where
  -- the next member is replayed: that is one turn more
  pub replay_on : (turned : ℕ) → must_install m marks (at m marks w turned) ≡ false → (at m marks w turned).next ≤ length w.history → step m (at m marks w turned) Replay ≡ at m marks w (turned + 1)
  replay_on turned enough left =
      let v = at m marks w turned in
      let old : v.next ≤ length v.history = omega (arith, left, ap (λ (h : List (Member O)). length h) (turns_kept m marks turned w).history) in
      sym (run_replay m marks v enough old) ∙ sym (run_join m marks turned 1 w)

  pub replay_turned : (files : Files) (after : Volatile) (turned : ℕ) → must_install m marks (at m marks w turned) ≡ false → (at m marks w turned).next ≤ length w.history
      → FilesShow m p files (step m (at m marks w turned) Replay) → ShowsVolatile m p (files Objects) after (step m (at m marks w turned) Replay) → HasTurned m p files after marks w (turned + 1)
  replay_turned files after turned enough left files_show store_shows =
      let same = replay_on turned enough left in
      record {
        files_show = subst (λ (u : World O). FilesShow m p files u) same files_show;
        store_shows = subst (λ (u : World O). ShowsVolatile m p (files Objects) after u) same store_shows;
      }

  -- nodes are installed after it, until none must be
  pub limited_so_far : (files : Files) (it : Volatile) (turned : ℕ) (rest : List (Record O)) → IsLimited m p files it marks (at m marks w turned)
      → AreMembers w.history (at m marks w turned).next rest → SoFar m p files it marks w rest
  limited_so_far files it turned rest is members =
      let more = is.limiting.turned in
      let same : run m (at m marks w turned) (turns m marks more (at m marks w turned)) ≡ at m marks w (turned + more) = sym (run_join m marks turned more w) in
      record {
        turned = turned + more;
        shown = record {
          files_show = subst (λ (u : World O). FilesShow m p files u) same is.limiting.shown.files_show;
          store_shows = subst (λ (u : World O). ShowsVolatile m p (files Objects) it u) same is.limiting.shown.store_shows;
        };
        enough = ap (must_install m marks) (sym same) ∙ is.enough;
        members = subst (λ (k : ℕ). AreMembers w.history k rest) (sym is.limiting.next ∙ ap (λ (u : World O). u.next) same) members;
      }

  -- what a crash leaves after some first steps of some turns is after some first steps of the redo
  pub turns_are_steps : ((n : ℕ) → w.graph n ≡ false) → (old new : Disk) (turned : ℕ) → TakesSome m p old new w (turns m marks turned w) → TakesSome m p old new w (redo_steps m marks w)
  turns_are_steps none old new turned some =
      let most = 2 * (end_of w - w.next) in
      elim (cases_lt most turned) [
        | inl past ↦
            let split : most + (turned - most) ≡ turned = omega (arith, past) in
            subst (λ (l : List (Step O)). TakesSome m p old new w l)
            (ap (λ (n : ℕ). turns m marks n w) (sym split) ∙ no_more m marks w most (turned - most) (redo_over m marks w none)) some
        | inr up ↦
            let split : turned + (most - turned) ≡ most = omega (arith, up) in
            subst (λ (l : List (Step O)). TakesSome m p old new w l)
            (sym (turns_join m marks turned (most - turned) w) ∙ ap (λ (n : ℕ). turns m marks n w) split)
            (moments_longer m p old new w (turns m marks turned w) (turns m marks (most - turned) (at m marks w turned)) some)
      ]
