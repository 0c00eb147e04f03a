-- A run goes on by upkeep before its next line, or ends in it.
use Rattle.std.proofs.Common.{◌≡◌, ◌∙◌, ap, refl, sym, subst, arith, inl, inr, ⊎_elim, ◌⊎◌, ◌≤◌, ◌++◌, ℕ, List, [], length, take, Option, None, Some, Bool, Result, Ok, Err}
use Rattle.std.specs.Prelude.{IfSome}
use Rattle.std.proofs.lemmas.List.{append-nil}
use Rattle.std.specs.List.{flat_map}
use Rattle.disk_model.specs.Disk.{Files, Disk, IsDisk, LeavesOnly, Passes}
use Rattle.disk_model.specs.Moments.{passes_twice, runs_on, weaker}
use Rattle.disk_model.specs.Silent.{IsSilent}
use Rattle.formats.specs.declared.params.Params.{Params}
use Rattle.op_codec.specs.AllOps.{all_meaning}
use Rattle.explain_core.specs.World.{World, Step, run}
use Rattle.script_lines.specs.Replies.{said_line}
use Rattle.store_engine.specs.Beside.{MayGoBeside}
use Rattle.store_engine.specs.Engine.{EngineView, accepted_in, forced_in, so_far}
use Rattle.store_engine.specs.Upkept.{epoch_in}
use Rattle.store_engine.specs.declared.pace.Pace.{Pace}
use Rattle.backup_copy.specs.Copies.{Copies}
use Rattle.shell_base.specs.First.{Stage}
use Rattle.shell_base.specs.HoldLaws.{told_by}
use Rattle.shell_base.specs.Store.{Between, Command, ShowsIn, meaning_in}
use Rattle.shell_base.specs.declared.status.Status.{Status}
use Rattle.shell_base.specs.declared.stop.Stop.{Stop}
use Rattle.script_run.specs.Courses.{IsBetween}
use Rattle.script_run.specs.Run.{FreshGoing, Going, IsRun, IsTrueSoFar, MomentSoFar, StageSoFar}
use Rattle.script_run.specs.Saving.{IsBackedUp}
use Rattle.script_run.specs.StartLaws.{AreFew}
use Rattle.script_run.specs.Stages.{IsTendedTo, PacedStage, paced_in}
use Rattle.script_run.specs.Tended.{IsTended, Tends}
use Rattle.script_run.specs.declared.tending.Tending.{Tending}
use Rattle.script_run.proofs.SavingLemmas.{whole_going}
use Rattle.script_run.proofs.BackupLemmas.{FreshBeside, GoingBeside, backed_up, passes_as}
use Rattle.script_run.proofs.RunLemmas.{IsTold, even_of, moments_so_far, tending_moment, told_so_far, told_so_far_by, whole_at}
use Rattle.script_run.proofs.TrueLemmas.{all_said, truly_quiet}

module _ (few : AreFew) {T : Type 0} {tending : Tending} {p : Params} {first : Stage} {start now new : Disk} {engine after : EngineView} {commands : List Command} {script todo : List (List ℕ)} {refusing : Bool} {pace later : Pace} {result : Result T Stop}
    (g : FreshGoing tending p first start now engine pace commands script todo refusing) (time : Passes start now) (t : Tends tending now new engine after pace later result) where
  abbrev told_now : start.tells_moments → now.tells_moments
  told_now told = time.moments_told.0 told

  pub still_quiet : new.said ≡ now.said
  still_quiet = t.quiet (told_by g.holds)

  pub tending_images : start.tells_moments → LeavesOnly start new (MomentSoFar p commands script start.said)
  tending_images told =
      runs_on start now new (MomentSoFar p commands script start.said) (g.images told)
      (weaker now new (Between p now engine.group (forced_in engine) (length g.account.commands) g.account.commands) (MomentSoFar p commands script start.said) (t.images p g.account.commands g.holds (told_now told)) (tending_moment few g))

  -- behind the last answer
  between : (f : Files) (s : List ℕ) → IsSilent (IsBetween tending p (paced_in engine g.holds.world pace)) now.said f s → StageSoFar tending p first script start.said f s
  between f s b =
      let here : IsBetween tending p g.stage f = subst (λ (x : PacedStage). IsBetween tending p x f) (sym g.done) b.holds in
      record {
        is = record {
          lines = g.lines;
          todo = todo;
          replies = g.replies;
          part = [];
          stage = g.stage;
          script_is = g.script_is;
          said_is = b.silent ∙ g.said_is ∙ sym (append-nil (start.said ++ flat_map said_line g.replies));
          goes = g.goes;
          work = inl (refl, here);
        };
        waiting = λ none. (refl, here);
      }

  pub tending_steps : start.tells_moments → LeavesOnly start new (StageSoFar tending p first script start.said)
  tending_steps told =
      runs_on start now new (StageSoFar tending p first script start.said) (g.steps told)
      (weaker now new (IsSilent (IsBetween tending p (paced_in engine g.holds.world pace)) now.said) (StageSoFar tending p first script start.said) (t.works p g.account.commands g.holds (told_now told)) between)

  pub tending_truly : start.tells_moments → LeavesOnly start new (IsTrueSoFar p start.said g.lines g.replies g.waits new.said)
  tending_truly told =
      runs_on start now new (IsTrueSoFar p start.said g.lines g.replies g.waits new.said)
      (subst (λ (l : List ℕ). LeavesOnly start now (IsTrueSoFar p start.said g.lines g.replies g.waits l)) (sym still_quiet) (g.truly told))
      (weaker now new (Between p now engine.group (forced_in engine) (length g.account.commands) g.account.commands) (IsTrueSoFar p start.said g.lines g.replies g.waits new.said) (t.images p g.account.commands g.holds (told_now told)) (λ f s b. record {
        true_within = all_said p start.said g.lines g.replies g.waits f s (even_of g) (omega (arith, ap length b.quiet, ap length g.said_is));
        no_longer = omega (arith, ap length b.quiet, ap length still_quiet);
      }))

  -- the store was tended
  abbrev pub tended_on : IsTended tending p new engine after pace later g.holds.world g.account.commands → Going tending p first start new after later commands script todo refusing
  tended_on it = record {
    lines = g.lines;
    replies = g.replies;
    waits = g.waits;
    account = g.account;
    script_is = g.script_is;
    said_is = still_quiet ∙ g.said_is;
    answers = g.answers;
    holds = it.kept.holds;
    group = g.group ∙ sym it.same;
    whole = whole_at g (forced_in after) (⊎_elim (λ (same : forced_in after ≡ forced_in engine). inl same) (λ (later : (engine.group ≡ None) × (accepted_in engine ≤ forced_in after)). inr (later.0, omega (arith, later.1, g.holds.says.accepted))) it.kept.which);
    ends_within = g.ends_within;
    all_before = omega (arith, g.all_before, it.kept.rising);
    acked = λ n has. omega (arith, g.acked n has, it.kept.rising);
    kind = g.kind;
    images = tending_images;
    truly = tending_truly;
    stage = g.stage;
    goes = g.goes;
    done = subst (λ (x : PacedStage). IsTendedTo tending p x (paced_in after it.kept.holds.world later)) (sym g.done) (epoch_in engine, it.leads);
    steps = tending_steps;
  }

  -- the run ends meanwhile
  pub told_tending : IsTold tending p first commands script start new g.lines g.replies g.account.commands []
  told_tending = told_so_far_by [] (take 1 todo) refl g still_quiet (λ told. truly_quiet (even_of g) (g.truly told) g.said_is (t.images p g.account.commands g.holds (told_now told)) (λ files said b. omega (arith, ap length b.quiet)))

  pub ends_tending : (status : Status) → IsRun tending p first start new commands script status
  ends_tending status = record {
    says = told_tending.truly;
    images = λ told. moments_so_far (tending_images told);
    steps = λ told. told_so_far (tending_steps told);
    unclosed = λ cut told. tending_images told;
  }

-- and time passes
pub tended_time : {T : Type 0} {tending : Tending} {start now new : Disk} {engine after : EngineView} {pace later : Pace} {result : Result T Stop} → IsDisk new → Passes start now → Tends tending now new engine after pace later result → Passes start new
tended_time {start = start} {now} {new} lawful time t = passes_twice start now new lawful time t.time

-- what is said of a copy that goes on beside some steps
abbrev pub CopyGoesOn : Params → Disk → Disk → EngineView → EngineView → Disk → Type 0
CopyGoesOn p now new engine after backup = (w : World Command) (steps : List (Step Command)) → Copies all_meaning p now engine w backup → MayGoBeside (meaning_in p) (so_far engine.copied) w steps
    → ShowsIn p new after (run (meaning_in p) w steps) → after.copied ≡ engine.copied → Copies all_meaning p new after (run (meaning_in p) w steps) backup

-- so one that is made goes on
still_copying : (p : Params) (now new : Disk) (engine after : EngineView) (backup : Disk) (w v : World Command) (o : Option ℕ) → engine.copied ≡ o → CopyGoesOn p now new engine after backup → IfSome o (λ n. Copies all_meaning p now engine w backup) → ShowsIn p new after v
    → after.copied ≡ engine.copied → IfSome o (λ n. (steps : List (Step Command)) × MayGoBeside (meaning_in p) (so_far engine.copied) w steps × (v ≡ run (meaning_in p) w steps)) → IfSome after.copied (λ n. Copies all_meaning p new after v backup)
still_copying p now new engine after backup w v None was law copies shows same beside = subst (λ (x : Option ℕ). IfSome x (λ n. Copies all_meaning p new after v backup)) (sym (same ∙ was)) tt
still_copying p now new engine after backup w v (Some n) was law copies shows same (taken, may, is) =
    subst (λ (x : Option ℕ). IfSome x (λ n. Copies all_meaning p new after v backup)) (sym (same ∙ was))
    (subst (λ (u : World Command). Copies all_meaning p new after u backup) (sym is) (law w taken copies may (subst (λ (u : World Command). ShowsIn p new after u) is shows) same))

module _ (few : AreFew) {T : Type 0} {tending : Tending} {p : Params} {first : Stage} {start now new : Disk} {engine after : EngineView} {commands : List Command} {script todo : List (List ℕ)} {refusing : Bool} {pace later : Pace} (time : Passes start now) where
  -- it goes on
  abbrev pub tended_going : {value : T} → FreshGoing tending p first start now engine pace commands script todo refusing → Tends tending now new engine after pace later (Ok value) → Going tending p first start new after later commands script todo refusing
  tended_going g t = tended_on few g time t (t.done p g.account.commands g.holds)

  -- or ends
  pub ends_in_tending : {stop : Stop} (status : Status) → FreshGoing tending p first start now engine pace commands script todo refusing → Tends {T = T} tending now new engine after pace later (Err stop) → IsRun tending p first start new commands script status
  ends_in_tending status g t = ends_tending few g time t status

  module _ {B : Type 0} (disk : B → Disk) {before mid : B} where
    -- with its backup
    pub tended_beside : {value : T} → CopyGoesOn p now new engine after (disk mid) → FreshBeside tending disk before mid p first start now engine pace commands script todo refusing → Tends tending now new engine after pace later (Ok value)
        → GoingBeside tending disk before mid p first start new after later commands script todo refusing
    tended_beside law b t =
        let it = t.done p b.going.account.commands b.going.holds in
        record {
          going = tended_on few b.going time t it;
          passes = b.passes;
          backup = λ tells.
              let was = b.backup tells in
              record { count = was.count; forced = omega (arith, was.forced, it.kept.rising); going = record { says = was.going.says; store = was.going.store; copying = still_copying p now new engine after (disk mid) b.going.holds.world it.kept.holds.world engine.copied refl law was.going.copying it.kept.holds.shows it.copied it.beside } };
        }

    pub ends_in_tending_beside : {stop : Stop} → FreshBeside tending disk before mid p first start now engine pace commands script todo refusing → Tends {T = T} tending now new engine after pace later (Err stop) → IsBackedUp tending disk p first commands script start new before mid
    ends_in_tending_beside b t = backed_up disk (told_tending few b.going time t) (passes_as before mid (sym (append-nil b.going.lines)) b.passes) (λ tells. (whole_going (b.backup tells)).says)
