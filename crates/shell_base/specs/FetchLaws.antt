-- What a fetch leaves.
use Rattle.std.proofs.Common.{◌≡◌, ◌<◌, ◌≤◌, ◌∙◌, inl, List, ℕ, ap, sym, subst, arith, Bool, true, false, Result, Ok, Err, IfErr}
use Rattle.std.specs.Prelude.{nat_lt}
use Rattle.std.specs.Result.{IsErrAnd}
use Rattle.std.proofs.lemmas.Bool.{false_from_ne_true}
use Rattle.std.proofs.lemmas.Bool.Decides.{nat_tests}
use Rattle.disk_model.specs.Disk.{Disk, Stays}
use Rattle.formats.specs.declared.params.Params.{Params}
use Rattle.formats.specs.declared.read_err.ReadErr.{ReadErr}
use Rattle.formats.specs.declared.read_err.ReadErr.TheVariants.{DiskFault, Damaged, Memory}
use Rattle.op_codec.specs.AllOps.{all_meaning}
use Rattle.log_blocks.specs.LogView.{used_of}
use Rattle.log_records.specs.RecordLog.{RecordLogView}
use Rattle.store_engine.specs.Engine.{EngineView}
use Rattle.store_engine.specs.Engine as of_engine
use Rattle.store_engine.specs.FailureLaws.{none_damaged}
use Rattle.store_engine.specs.Failures.{IsFetchFailure}
use Rattle.shell_base.specs.Stops.{IsCaused, IsUndamaged}
use Rattle.shell_base.specs.First.{stage_of}
use Rattle.shell_base.specs.Status.{stop_from_read}
use Rattle.shell_base.specs.Store.{Command, IsAttached, ShowsIn, Says, Holds, Kept}
use Rattle.shell_base.specs.declared.stop.Stop.{Stop}

pub not_a_fault : (broken : Bool) → (broken ≡ true → ⊥) → broken ≡ false
not_a_fault broken none = false_from_ne_true broken none

-- the world is still shown, and the log is as it was
pub fetched_kept : {p : Params} {old new : Disk} {before after : EngineView} {commands : List Command} → (holds : Holds p old before commands) → ShowsIn p new after holds.world
    → after.parts.log ≡ before.parts.log → after.identities ≡ before.identities → after.copied ≡ before.copied → (of_engine.Holds all_meaning p new after commands → Says p new after commands)
    → (kept : Kept p before new after commands) × (stage_of after kept.holds.world ≡ stage_of before holds.world)
fetched_kept {p} {old} {new} {before} {after} {commands} holds shows log identities copies says = (
  record {
    holds = record {
      world = holds.world;
      shows = shows;
      commands_are = holds.commands_are;
      says = says (record { world = holds.world; shows = shows; commands_are = holds.commands_are });
    };
    rising = let same = ap (λ (l : RecordLogView). l.forced) log in omega (arith, same);
    which = inl (ap (λ (l : RecordLogView). l.forced) log);
  },
  λ i. record { world = holds.world; used = used_of (log i).log; identities = identities i; copied = copies i },
)

-- there is an object exactly where its number is below how many there are
module _ {there : Bool} {object : ℕ} {own : Params} (p : Params) (same : own ≡ p) (is : there ≡ nat_lt object own.objects) where
  pub is_one : there ≡ true → object < p.objects
  is_one one = let here : nat_lt object own.objects ≡ true = sym is ∙ one in subst (λ (q : Params). object < q.objects) same (grind (arith, nat_tests, here))

  pub is_none : there ≡ false → p.objects ≤ object
  is_none none = let here : nat_lt object own.objects ≡ false = sym is ∙ none in subst (λ (q : Params). q.objects ≤ object) same (grind (arith, nat_tests, here))

module _ (old new : Disk) (before : EngineView) (object : ℕ) where
  by_fault : (e : ReadErr) → IsFetchFailure old new before object e → IsCaused (stop_from_read e) old new
  by_fault DiskFault failure = failure.1
  by_fault (Damaged file place) failure = tt
  by_fault Memory failure = tt

  -- what a fetch fails by has its cause
  pub fetch_cause : (result : Result Bool Stop) (e : ReadErr) → IsErrAnd result (λ stop. stop ≡ stop_from_read e) → IsFetchFailure old new before object e → IfErr result (λ stop. IsCaused stop old new)
  fetch_cause (Ok there) e is failure = tt
  fetch_cause (Err stop) e is failure = subst (λ (s : Stop). IsCaused s old new) (sym is) (by_fault e failure)

  no_damage : (e : ReadErr) → Stays old new → IsFetchFailure old new before object e → old.tells_files → IsAttached old before → IsUndamaged (stop_from_read e)
  no_damage DiskFault stays failure told attached = tt
  no_damage (Damaged file place) stays failure told attached = none_damaged all_meaning before.parts stays told attached failure.1
  no_damage Memory stays failure told attached = tt

  -- no slot of an engine with its files is damaged
  pub fetch_undamaged : (result : Result Bool Stop) (e : ReadErr) → IsErrAnd result (λ stop. stop ≡ stop_from_read e) → Stays old new → IsFetchFailure old new before object e
      → old.tells_files → IsAttached old before → IfErr result IsUndamaged
  fetch_undamaged (Ok there) e is stays failure told attached = tt
  fetch_undamaged (Err stop) e is stays failure told attached = subst IsUndamaged (sym is) (no_damage e stays failure told attached)
