-- Steps of a piece, one after the other.
use Rattle.std.proofs.Common.{◌≡◌, ◌∙◌, ℕ, ◌≤◌, false, List, refl, arith, inl, inr, ◌⊎◌, ⊎_elim}
use Rattle.std.specs.Prelude.{Result, Ok, Err, IsErrOf, OnOk}
use Rattle.std.proofs.lemmas.Bool.{both_ways}
use Rattle.disk_model.specs.Disk.{Disk, IsDisk}
use Rattle.disk_model.specs.Moments.{passes_none, passes_twice, runs_on, stays_here, weaker}
use Rattle.disk_model.specs.declared.machine.FileNo.{FileNo}
use Rattle.oper_core.specs.Meaning.{Meaning}
use Rattle.oper_core.specs.declared.bounds.Bounds.{Bounds}
use Rattle.formats.specs.declared.params.Params.{Params}
use Rattle.explain_core.specs.History.{Member}
use Rattle.explain_core.specs.World.{World}
use Rattle.store_engine.specs.Engine.{EngineView, IsAttached, forced_in}
use Rattle.store_engine.specs.Store.{meaning_in}
use Rattle.standby_node.specs.Feeding.{FeedsTo, IsAtFrameEnd, IsLedTo, feeds_on}
use Rattle.standby_node.specs.Standby.{IsFollowing, StandbyView}
use Rattle.standby_node.specs.Steps.{FollowsStep, GoesOn}
use Rattle.standby_node.specs.declared.follow_err.FollowErr.{FollowErr}
use Rattle.standby_node.specs.declared.follow_err.FollowErr.TheVariants.{BadFrame, Gap, Differs, LogFull, DiskFault, Damaged, Memory, Stopped}
use Rattle.standby_node.proofs.Ends.{Stand, later_end, still_end}

-- the disk did not fail in a step that was done
pub not_failed : {e : FollowErr} → IsErrOf {T = Unit {0}} (Ok tt) e → ⊥
not_failed same = cc

-- what holds of any answer holds of one that is done
pub on_ok : {P : Type 0} (result : Result (Unit {0}) FollowErr) → P → OnOk result P
on_ok (Ok done) is = is
on_ok (Err e) is = tt

-- what a step that is done keeps, and one after it, both keep
and_then : {F G P Q R : Type 0} → (F → ⊥) → F ⊎ (P → Q) → G ⊎ (Q → R) → G ⊎ (P → R)
and_then never first second = ⊎_elim (λ failed. absurd (never failed)) (λ kept. ⊎_elim (λ failed. inl failed) (λ on. inr (λ at. on (kept at))) second) first

module _ {O : Type 0} (meaning : Bounds → Meaning O) where
  -- what a step leaves says less of the world
  pub step_weaker : (One Two : Meaning O → World O → Type 0) (result : Result (Unit {0}) FollowErr) → OnOk result ((m : Meaning O) (w : World O) → One m w → Two m w) → (p : Params) (first : List (Member O)) (bytes : List ℕ) (d : Disk) (s : StandbyView)
      → FollowsStep meaning One p first bytes d s result → FollowsStep meaning Two p first bytes d s result
  step_weaker One Two (Ok done) so p first bytes d s is = (is.0, so (meaning_in meaning p) is.0.world is.1)
  step_weaker One Two (Err (BadFrame place)) so p first bytes d s is = is
  step_weaker One Two (Err (Gap expected got)) so p first bytes d s is = is
  step_weaker One Two (Err (Differs lsn)) so p first bytes d s is = is
  step_weaker One Two (Err (LogFull used need limit)) so p first bytes d s is = is
  step_weaker One Two (Err DiskFault) so p first bytes d s is = is
  step_weaker One Two (Err (Damaged file place)) so p first bytes d s is = is
  step_weaker One Two (Err Memory) so p first bytes d s is = is
  step_weaker One Two (Err (Stopped place)) so p first bytes d s is = is

  leads_on : (p : Params) (d : Disk) (engine : EngineView) (w v : World O) (result : Result (Unit {0}) FollowErr) → FeedsTo (meaning_in meaning p) w v → OnOk result (IsLedTo meaning p d engine v) → OnOk result (IsLedTo meaning p d engine w)
  leads_on p d engine w v (Ok done) first more = (more.0, more.1, feeds_on (meaning_in meaning p) w v more.0 first more.2)
  leads_on p d engine w v (Err e) first more = tt

  -- a step that is done, and one after it
  pub goes_twice : (old mid new : Disk) → IsDisk old → IsDisk new → (before here after : StandbyView) (Start Reached Both : Type 0) (Some One Two : Meaning O → World O → Type 0) (result : Result (Unit {0}) FollowErr)
      → (Start → OnOk result Reached → OnOk result Both) → OnOk result ((m : Meaning O) (w : World O) → One m w → Two m w) → GoesOn meaning old mid before here Start Some (Ok tt) → GoesOn meaning mid new here after Reached One result
      → GoesOn meaning old new before after Both Two result
  goes_twice old mid new begins lawful before here after Start Reached Both Some One Two result joins so first second = record {
    time = passes_twice old mid new lawful first.time second.time;
    quiet = λ told. second.quiet (first.time.files_told.0 told) ∙ first.quiet told;
    params = second.params ∙ first.params;
    attached = and_then not_failed first.attached second.attached;
    broken = second.broken;
    fault = λ failed. let rises = second.fault failed in λ few. let passed = first.time.disk_faults in omega (arith, rises few, passed);
    stopped = second.stopped ∙ first.stopped;
    taken = second.taken ∙ first.taken;
    done = joins first.done second.done;
    rising = λ p list bytes f.
        ⊎_elim (λ failed. absurd (not_failed failed)) (λ rises. ⊎_elim (λ failed. inl failed) (λ more. inr (omega (arith, rises, more))) (second.rising p list bytes (first.follows_it p list bytes f).0)) (first.rising p list bytes f);
    leads = λ p w shown. let led = first.leads p w shown in leads_on p new after.engine w led.0 result led.2 (second.leads p led.0 led.1);
    follows_it = λ p list bytes f. step_weaker One Two result so p list bytes new after (second.follows_it p list bytes (first.follows_it p list bytes f).0);
    images = λ told p list bytes f.
        let ends = IsAtFrameEnd meaning p old (forced_in before.engine) list bytes in
        let rises = ⊎_elim (λ failed. absurd (not_failed failed)) (λ (more : forced_in before.engine ≤ forced_in here.engine). more) (first.rising p list bytes f) in
        runs_on old mid new ends (first.images told p list bytes f)
        (weaker mid new (IsAtFrameEnd meaning p mid (forced_in here.engine) list bytes) ends (second.images (first.time.moments_told.0 told) p list bytes (first.follows_it p list bytes f).0)
        (λ files said is. later_end meaning p old mid (forced_in before.engine) (forced_in here.engine) list bytes (first.quiet (begins.telling told)) rises files said is));
    undamaged = λ told attached file place is.
        let here_it : IsAttached meaning mid here.engine = ⊎_elim (λ failed. absurd (not_failed failed)) (λ kept. kept attached) first.attached in
        second.undamaged (first.time.files_told.0 told) here_it file place is;
  }

  -- no step at all: nothing is done
  pub goes_nowhere : (old : Disk) → IsDisk old → (before : StandbyView) → before.engine.broken ≡ false → Stand meaning → (Reached : Type 0) (Left : Meaning O → World O → Type 0) (result : Result (Unit {0}) FollowErr)
      → (IsErrOf result DiskFault → ⊥) → ((file : FileNo) (place : ℕ) → IsErrOf result (Damaged file place) → ⊥) → OnOk result Reached
      → ((p : Params) (first : List (Member O)) (bytes : List ℕ) → IsFollowing meaning p first bytes old before → FollowsStep meaning Left p first bytes old before result)
      → GoesOn meaning old old before before Reached Left result
  goes_nowhere old lawful before unbroken stand Reached Left result fine whole reached follows_it = record {
    time = passes_none old;
    quiet = λ told. refl;
    params = refl;
    attached = inr (λ at. at);
    broken = (λ set. absurd (both_ways _ unbroken set), λ failed. absurd (fine failed));
    fault = λ failed. absurd (fine failed);
    stopped = refl;
    taken = refl;
    done = reached;
    rising = λ p list bytes f. inr (omega arith);
    follows_it = follows_it;
    leads = λ p w shown. on_ok result (w, shown, FeedsTo.Nothing);
    images = λ told p list bytes f. still_end meaning p list bytes old before f stand old (stays_here old lawful) told;
    undamaged = λ told attached file place is. whole file place is;
  }

-- a step that is done has reached this too
pub reached_also : {O : Type 0} (meaning : Bounds → Meaning O) (old new : Disk) (before after : StandbyView) (One Two : Type 0) (Left : Meaning O → World O → Type 0) → Two → GoesOn meaning old new before after One Left (Ok tt)
    → GoesOn meaning old new before after Two Left (Ok tt)
reached_also meaning old new before after One Two Left reached it = record {
  time = it.time;
  quiet = it.quiet;
  params = it.params;
  attached = it.attached;
  broken = it.broken;
  fault = it.fault;
  stopped = it.stopped;
  taken = it.taken;
  done = reached;
  rising = it.rising;
  follows_it = it.follows_it;
  leads = it.leads;
  images = it.images;
  undamaged = it.undamaged;
}
