-- A standby is kept up between two frames, and goes on.
use Rattle.std.proofs.Common.{◌≡◌, ◌∙◌, sym, ap, ℕ, ◌≤◌, true, false, List, [], ◌++◌, length, refl, inl, inr, ◌⊎◌, ⊎_elim, Some}
use Rattle.std.specs.Prelude.{Result, Ok, Err, IsErrOf, is_err}
use Rattle.std.specs.Result.{result_err}
use Rattle.std.proofs.lemmas.Bool.{both_ways}
use Rattle.disk_model.specs.Disk.{Disk}
use Rattle.disk_model.specs.declared.machine.Failed.{Failed}
use Rattle.oper_core.specs.Meaning.{Meaning}
use Rattle.oper_core.specs.declared.bounds.Bounds.{Bounds}
use Rattle.formats.specs.Log.{IsPayload}
use Rattle.formats.specs.declared.params.Params.{Params}
use Rattle.frame_stream.specs.Frames.{frame}
use Rattle.log_records.specs.declared.rewrite_err.RewriteErr.{RewriteErr}
use Rattle.log_records.specs.declared.rewrite_err.RewriteErr.TheVariants as of_rewrite
use Rattle.explain_core.specs.History.{Member}
use Rattle.explain_core.specs.RunLaws.{Begins, begins-all}
use Rattle.explain_core.specs.World.{Step, World, run}
use Rattle.checkpointing.specs.Courses.{checkpoint_course, trim_course}
use Rattle.checkpointing.specs.declared.checkpoint_err.CheckpointErr.{CheckpointErr}
use Rattle.checkpointing.specs.declared.checkpoint_err.CheckpointErr.TheVariants as of_taking
use Rattle.running_store.specs.declared.store_err.StoreErr.{StoreErr}
use Rattle.running_store.specs.declared.store_err.StoreErr.TheVariants as of_store
use Rattle.store_engine.specs.Calls.{IsTakingCheckpoint, IsForcing, IsTrimming, work_of_checkpoint, work_of_force, work_of_trim}
use Rattle.store_engine.specs.Engine.{EngineView, ShowsIn, used_in}
use Rattle.store_engine.specs.Following.{HasTendedThin}
use Rattle.store_engine.specs.Store.{meaning_in}
use Rattle.store_engine.specs.declared.work_err.WorkErr.{WorkErr}
use Rattle.store_engine.specs.declared.work_err.WorkErr.TheVariants.{DiskFault, Memory}
use Rattle.standby_node.specs.Standby.{IsFollowing, StandbyView}
use Rattle.standby_node.proofs.Ended.{MayBeForced, forced_following, installed_following, settled_here, settled_world}
use Rattle.standby_node.proofs.Fed.{all_past, none_waits}
use Rattle.standby_node.proofs.Settled.{IsSettledAt, calm_front, checkpoint_settled, run_settled, trim_calm}

-- a force failed, or it was made
pub not_forced : (Says : Result ℕ Failed → Type 0) (result : Result ℕ WorkErr) (answer : Result ℕ Failed) → result ≡ work_of_force answer → is_err result ≡ true → Says answer → (e : Failed) × Says (Err e)
not_forced Says result (Ok n) is failed says = let fine : is_err result ≡ false = ap is_err is in absurd (both_ways _ fine failed)
not_forced Says result (Err e) is failed says = (e, says)

pub is_forced : (Says : Result ℕ Failed → Type 0) (result : Result ℕ WorkErr) (answer : Result ℕ Failed) → result ≡ work_of_force answer → is_err result ≡ false → Says answer → (n : ℕ) × Says (Ok n)
is_forced Says result (Ok n) is fine says = (n, says)
is_forced Says result (Err e) is fine says = let failed : is_err result ≡ true = ap is_err is in absurd (both_ways _ fine failed)

-- the error that is told is that of the result
pub error_told : {T E : Type 0} (result : Result T E) (e : E) → result_err result ≡ Some e → IsErrOf result e
error_told (Ok value) e is = cc
error_told {T} {E} (Err x) e is = ap (λ (k : E). Err k) cc

-- no frame begins no bytes
no_frame : (payload later : List ℕ) → [] ≡ frame payload ++ later → ⊥
no_frame payload later is = cc

module _ {O : Type 0} (meaning : Bounds → Meaning O) (p : Params) (first : List (Member O)) (bytes : List ℕ) (old : Disk) (before : StandbyView) (between : before.frames.kept ≡ []) (f : IsFollowing meaning p first bytes old before) where
  -- of no frame a part was followed
  none_done : before.done ≡ 0
  none_done = ⊎_elim (λ none. none)
      (λ (it : (payload : List ℕ) × (later : List ℕ) × IsPayload payload × (before.frames.kept ≡ frame payload ++ later) × (before.done ≤ length payload)). absurd (no_frame it.0 it.1 (sym between ∙ it.3))) f.in_hand.within

  pub none_waits_between : before.engine.parts.log.log.pending ≡ []
  none_waits_between = none_waits meaning p first bytes old before f none_done

  pub may_be_forced : MayBeForced meaning p first bytes old before f
  may_be_forced = inl (all_past meaning p first bytes old before f none_done)

  -- another world that is settled is shown
  go_on : (new : Disk) (after : EngineView) (v : World O) → IsSettledAt f.world.history v → ShowsIn meaning p new after v → IsFollowing meaning p first bytes new (record before { engine = after })
  go_on new after v settled there = settled_world meaning p first bytes old before f new after v may_be_forced there settled

  settled_between : IsSettledAt f.world.history f.world
  settled_between = settled_here meaning p first bytes old before f none_waits_between

  abbrev m : Meaning O
  m = meaning_in meaning p

  abbrev used : ℕ
  used = used_in before.engine

  -- after a checkpoint
  checkpointed_on : (new : Disk) (after : EngineView) → ShowsIn meaning p new after (run m f.world (checkpoint_course m f.world used).steps) → IsFollowing meaning p first bytes new (record before { engine = after })
  checkpointed_on new after there = go_on new after (run m f.world (checkpoint_course m f.world used).steps) (checkpoint_settled m f.world.history f.world used settled_between) there

  pub checkpointed_following : {T : Type 0} (new : Disk) (after : EngineView) (answer : Result T CheckpointErr) → IsTakingCheckpoint meaning old new before.engine after answer
      → (IsErrOf (work_of_checkpoint answer) DiskFault ⊎ IsErrOf (work_of_checkpoint answer) Memory) ⊎ IsFollowing meaning p first bytes new (record before { engine = after })
  checkpointed_following new after (Ok value) it = inr (checkpointed_on new after (it.takes.follows p f.world f.shows).1.shows)
  checkpointed_following new after (Err (of_taking.LogFull full need limit)) it = inr (checkpointed_on new after (it.takes.follows p f.world f.shows).1.shows)
  checkpointed_following new after (Err of_taking.DiskFault) it = inl (inl refl)
  checkpointed_following new after (Err of_taking.Memory) it = inl (inr refl)

  -- after a trim
  abbrev trimming : List (Step O)
  trimming = (trim_course m before.engine.parts.log.log.header.epoch f.world used).steps

  trimmed_on : (new : Disk) (after : EngineView) (taken : List (Step O)) → Begins trimming taken → ShowsIn meaning p new after (run m f.world taken) → IsFollowing meaning p first bytes new (record before { engine = after })
  trimmed_on new after taken begins there =
      go_on new after (run m f.world taken) (run_settled m f.world.history f.world taken (calm_front trimming taken begins (trim_calm m before.engine.parts.log.log.header.epoch f.world used)) settled_between) there

  pub trimmed_following : {T : Type 0} (new : Disk) (after : EngineView) (answer : Result T RewriteErr) → IsTrimming meaning old new before.engine after answer
      → IsErrOf (work_of_trim answer) DiskFault ⊎ IsFollowing meaning p first bytes new (record before { engine = after })
  trimmed_following new after (Ok value) it = inr (trimmed_on new after trimming (begins-all trimming) (it.takes.follows p f.world f.shows).1.shows)
  trimmed_following new after (Err (of_rewrite.LogFull full need limit)) it = inr (trimmed_on new after trimming (begins-all trimming) (it.takes.follows p f.world f.shows).1.shows)
  trimmed_following new after (Err (of_rewrite.Exhausted epoch)) it = inr (trimmed_on new after trimming (begins-all trimming) (it.takes.follows p f.world f.shows).1.shows)
  trimmed_following new after (Err of_rewrite.DiskFault) it = inl refl
  trimmed_following new after (Err (of_rewrite.Damaged file place)) it = let some = it.takes.follows p f.world f.shows in inr (trimmed_on new after some.taken some.begins some.holds)
  trimmed_following new after (Err of_rewrite.Memory) it = let some = it.takes.follows p f.world f.shows in inr (trimmed_on new after some.taken some.begins some.holds)

-- after a force a turn is taken for which nothing is logged
pub thinned_following : {O : Type 0} (meaning : Bounds → Meaning O) (p : Params) (first : List (Member O)) (bytes : List ℕ) (old mid new : Disk) (before : StandbyView) → before.frames.kept ≡ [] → IsFollowing meaning p first bytes old before
    → (here after : EngineView) (n : ℕ) → IsForcing meaning old mid before.engine here (Ok n) → (most : ℕ) (answer : Result ℕ StoreErr) → HasTendedThin meaning mid new here after most answer
    → IsErrOf answer of_store.DiskFault ⊎ IsFollowing meaning p first bytes new (record before { engine = after })
thinned_following meaning p first bytes old mid new before between f here after n forced most answer it =
    let g = forced_following meaning old mid before here p first bytes f (may_be_forced meaning p first bytes old before between f) n forced in
    let then : StandbyView = record before { engine = here } in
    installed_following meaning mid new then after p first bytes g (may_be_forced meaning p first bytes mid then between g) forced.empty most answer it
