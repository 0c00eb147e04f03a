-- What the calls say that no group allows, of an engine in which none is open: from what the call on its store says.
use Rattle.std.proofs.Common.{◌≡◌, ◌∙◌, ap, ℕ, ◌+◌, ◌≤◌, false, List, [], length, refl, arith, subst, Option, None}
use Rattle.std.specs.Prelude.{Result, Ok, Err, IfOk, IfErr, OnOk}
use Rattle.disk_model.specs.Disk.{Disk}
use Rattle.disk_model.specs.declared.machine.Failed.{Failed as Failure}
use Rattle.oper_core.specs.Meaning.{IsSmall, Meaning}
use Rattle.oper_core.specs.declared.bounds.Bounds.{Bounds}
use Rattle.formats.specs.Limits.{log_limit}
use Rattle.formats.specs.Objects.{bounds_of}
use Rattle.formats.specs.Reading.{TellsDamage}
use Rattle.formats.specs.declared.params.Params.{Params}
use Rattle.formats.specs.declared.read_err.ReadErr.{ReadErr}
use Rattle.log_records.specs.Loading.{IsTailFault}
use Rattle.log_records.specs.RecordLog.{RecordLogView}
use Rattle.log_records.specs.declared.rewrite_err.RewriteErr.{RewriteErr}
use Rattle.dirty_cache.specs.Contents.{AreDirty, is_dirty}
use Rattle.explain_core.specs.Turns.{count_below, dirty_in}
use Rattle.explain_core.specs.World.{World, end_of}
use Rattle.running_store.specs.Calls as of_store
use Rattle.running_store.specs.Calls.{IsForce, Never, ending_of_force, ending_of_read}
use Rattle.running_store.specs.Courses.{force_course}
use Rattle.cache_manager.specs.InstallCourses.{drain_course, install_course, removals, turn_course}
use Rattle.running_store.specs.Kept.{HasLog, StopsAt}
use Rattle.running_store.specs.Parts.{Shows}
use Rattle.running_store.specs.Calls.Rewrites.{ending_of_rewrite}
use Rattle.running_store.specs.Running.{IsRunning}
use Rattle.running_store.specs.StoreView.{StoreView, log_length, logged_since, next_of}
use Rattle.running_store.specs.Taking.{Takes}
use Rattle.cache_manager.specs.Endings.{ending_of}
use Rattle.cache_manager.specs.Told.{IsInstall, TellsParts, TellsTend}
use Rattle.cache_manager.specs.Upkeep.{upkeep_drain, upkeep_force, upkeep_install, upkeep_turn}
use Rattle.cache_manager.specs.declared.install.Install.{Install}
use Rattle.cache_manager.specs.declared.install_err.InstallErr.{InstallErr}
use Rattle.checkpointing.specs.Left.{ending_of_checkpoint}
use Rattle.checkpointing.specs.Courses.{checkpoint_course, trim_within, upkeep_course}
use Rattle.checkpointing.specs.Left.{DamagedBy, IsTooLong}
use Rattle.checkpointing.specs.Told.{TellsUpkeep}
use Rattle.checkpointing.specs.declared.checkpoint_err.CheckpointErr.{CheckpointErr}
use Rattle.checkpointing.specs.declared.due.Due.{Due}
use Rattle.checkpointing.specs.declared.upkeep_report.UpkeepReport.{UpkeepReport}
use Rattle.store_engine.specs.Calls.{IsTakingCheckpoint, IsDraining, IsForcing, IsInstalling, IsTending, IsTrimmingWithin}
use Rattle.store_engine.specs.Engine.{engine_of, so_far}
use Rattle.store_engine.specs.Store.{meaning_in}
use Rattle.store_engine.specs.Upkept.{TakesDue}
use Rattle.store_engine.proofs.Calls.{call_of, keeps_of, takes_of}
use Rattle.store_engine.proofs.Grouped.{alone_shown}
use Rattle.store_engine.proofs.Holding.{Stand, holds_accepted}
use Rattle.store_engine.proofs.Keeping.{KeepsRuns, MayTake, small_shown}
use Rattle.store_engine.proofs.PlainCourses.{upkeep_checkpoint, upkeep_trim, upkeep_upkeep}
use Rattle.store_engine.proofs.Steps.{are_plain}
use Rattle.store_engine.proofs.Ways.{bounded_so, damaged_by}

-- so many commands are stable where a force did not fail
abbrev pub counted : {T : Type 0} → StoreView → Result T Failure → Result ℕ Failure
counted later (Ok value) = Ok later.parts.log.forced
counted later (Err e) = Err e

module _ {O : Type 0} (meaning : Bounds → Meaning O) (old new : Disk) (store later : StoreView) (copied : Option ℕ) (keeps : KeepsRuns meaning) (stand : (p : Params) → Stand meaning p) where
  -- ---- a force

  pub forcing : {T : Type 0} (r : Result T Failure) → of_store.IsCall meaning old new store later 0 Never (ending_of_force r) → Takes meaning old new store.parts later.parts (λ m w used. force_course m w used) (ending_of_force r)
      → IsForce store later r → MayTake meaning (λ m w used. force_course m w used) → IsForcing meaning old new (engine_of store None copied) (engine_of later None copied) (counted later r)
  forcing (Ok value) call takes forced may =
      let all = ap (λ (l : RecordLogView). l.forced) forced.0 in
      record {
        call = call_of meaning old new store later 0 Never _ call log_limit None copied (λ log stop is. absurd is);
        takes = takes_of meaning old new store later 0 Never _ call copied (λ m w used. force_course m w used) takes;
        commands = keeps_of meaning old new store later 0 Never _ call copied (λ m w used. force_course m w used) takes keeps stand may (λ m w used. are_plain (force_course m w used).steps (upkeep_force m w));
        forced = λ p commands holds. let is = all ∙ holds_accepted meaning p old (engine_of store None copied) commands holds in (is, is);
        empty = ap (λ (l : RecordLogView). l.log.pending) forced.0;
        count = refl;
      }
  forcing (Err e) call takes forced may = record {
    call = call_of meaning old new store later 0 Never _ call log_limit None copied (λ log stop is. absurd is);
    takes = takes_of meaning old new store later 0 Never _ call copied (λ m w used. force_course m w used) takes;
    commands = keeps_of meaning old new store later 0 Never _ call copied (λ m w used. force_course m w used) takes keeps stand may (λ m w used. are_plain (force_course m w used).steps (upkeep_force m w));
    forced = λ p commands holds. tt;
    empty = tt;
    count = tt;
  }

  -- ---- installs

  pub installing : (n : ℕ) → n ≡ so_far copied → (r : Result Install InstallErr) → of_store.IsCall meaning old new store later (logged_since store later) (StopsAt log_limit) (ending_of r)
      → Takes meaning old new store.parts later.parts (λ m w used. install_course m n w used) (ending_of r)
      → ((p : Params) (w : World O) → Shows (meaning_in meaning p) p old store.parts w → IfOk r (IsInstall (meaning_in meaning p) w (install_course (meaning_in meaning p) n w (log_length store)).steps))
      → IfOk r (TellsParts store.parts later.parts) → MayTake meaning (λ m w used. install_course m (so_far copied) w used)
      → IsInstalling meaning old new (engine_of store None copied) (engine_of later None copied) r
  installing n is r call taken telling tells may =
      let k = so_far copied in
      let takes = subst (λ (n : ℕ). Takes meaning old new store.parts later.parts (λ m w used. install_course m n w used) (ending_of r)) is taken in
      let told = subst (λ (n : ℕ). (p : Params) (w : World O) → Shows (meaning_in meaning p) p old store.parts w → IfOk r (IsInstall (meaning_in meaning p) w (install_course (meaning_in meaning p) n w (log_length store)).steps)) is telling in
      record {
        call = call_of meaning old new store later (logged_since store later) (StopsAt log_limit) (ending_of r) call log_limit None copied (λ log stop at. at);
        takes = takes_of meaning old new store later (logged_since store later) (StopsAt log_limit) (ending_of r) call copied (λ m w used. install_course m k w used) takes;
        commands = keeps_of meaning old new store later (logged_since store later) (StopsAt log_limit) (ending_of r) call copied (λ m w used. install_course m k w used) takes keeps stand may (λ m w used. are_plain (install_course m k w used).steps (upkeep_install m k w used));
        told = λ p w shows. told p w (alone_shown meaning p old (engine_of store None copied) w shows refl);
        tells = tells;
      }

  -- ---- a turn

  pub tending : (n : ℕ) → n ≡ so_far copied → (most : ℕ) (r : Result ℕ InstallErr) → of_store.IsCall meaning old new store later (logged_since store later) (StopsAt log_limit) (ending_of r)
      → Takes meaning old new store.parts later.parts (λ m w used. turn_course m n most w used) (ending_of r)
      → ((p : Params) (w : World O) → Shows (meaning_in meaning p) p old store.parts w → IfOk r (λ count. count ≡ removals (turn_course (meaning_in meaning p) n most w (log_length store)).steps))
      → IfOk r (TellsTend most store.parts later.parts) → MayTake meaning (λ m w used. turn_course m (so_far copied) most w used)
      → IsTending meaning old new (engine_of store None copied) (engine_of later None copied) most r
  tending n is most r call taken counts tells may =
      let k = so_far copied in
      let takes = subst (λ (n : ℕ). Takes meaning old new store.parts later.parts (λ m w used. turn_course m n most w used) (ending_of r)) is taken in
      let count = subst (λ (n : ℕ). (p : Params) (w : World O) → Shows (meaning_in meaning p) p old store.parts w → IfOk r (λ count. count ≡ removals (turn_course (meaning_in meaning p) n most w (log_length store)).steps)) is counts in
      record {
        call = call_of meaning old new store later (logged_since store later) (StopsAt log_limit) (ending_of r) call log_limit None copied (λ log stop at. at);
        takes = takes_of meaning old new store later (logged_since store later) (StopsAt log_limit) (ending_of r) call copied (λ m w used. turn_course m k most w used) takes;
        commands = keeps_of meaning old new store later (logged_since store later) (StopsAt log_limit) (ending_of r) call copied (λ m w used. turn_course m k most w used) takes keeps stand may (λ m w used. are_plain (turn_course m k most w used).steps (upkeep_turn m k most w used));
        count = λ p w shows. count p w (alone_shown meaning p old (engine_of store None copied) w shows refl);
        tells = tells;
      }

  -- ---- a drain

  -- a drain removes few nodes, where the steps that it takes do
  few_removed : (r : Result ℕ InstallErr) (removed bound : ℕ) → IfOk r (λ n. n ≡ removed) → removed ≤ bound → IfOk r (λ n. n ≤ bound)
  few_removed (Ok n) removed bound count few = omega (arith, count, few)
  few_removed (Err e) removed bound count few = tt

  pub draining : (n : ℕ) → n ≡ so_far copied → (r : Result ℕ InstallErr) → of_store.IsCall meaning old new store later (logged_since store later) (StopsAt log_limit) (ending_of r)
      → Takes meaning old new store.parts later.parts (λ m w used. drain_course m n w used) (ending_of r)
      → ((p : Params) (w : World O) → Shows (meaning_in meaning p) p old store.parts w → IfOk r (λ count. count ≡ removals (drain_course (meaning_in meaning p) n w (log_length store)).steps))
      → IfOk r (λ n. n + next_of store ≤ length store.parts.volatile.entries + next_of later)
      → ((objects : List ℕ) → AreDirty store.parts.volatile.objects.cache objects → IfOk r (λ n. n ≤ length store.parts.volatile.entries + length objects)) → OnOk r (later.parts.volatile.entries ≡ [])
      → ((p : Params) (w : World O) → Shows (meaning_in meaning p) p old store.parts w → OnOk r ((x : ℕ) → is_dirty later.parts.volatile.objects.cache x ≡ false))
      → MayTake meaning (λ m w used. drain_course m (so_far copied) w used)
      → ((p : Params) (w : World O) (used : ℕ) → IsSmall (bounds_of p) → IsRunning (meaning_in meaning p) w → removals (drain_course (meaning_in meaning p) (so_far copied) w used).steps ≤ count_below (end_of w) w.graph + dirty_in (meaning_in meaning p) w)
      → IsDraining meaning old new (engine_of store None copied) (engine_of later None copied) r
  draining n is r call taken counts bounded within drained clean may removed =
      let k = so_far copied in
      let takes = subst (λ (n : ℕ). Takes meaning old new store.parts later.parts (λ m w used. drain_course m n w used) (ending_of r)) is taken in
      let count = subst (λ (n : ℕ). (p : Params) (w : World O) → Shows (meaning_in meaning p) p old store.parts w → IfOk r (λ count. count ≡ removals (drain_course (meaning_in meaning p) n w (log_length store)).steps)) is counts in
      record {
        call = call_of meaning old new store later (logged_since store later) (StopsAt log_limit) (ending_of r) call log_limit None copied (λ log stop at. at);
        takes = takes_of meaning old new store later (logged_since store later) (StopsAt log_limit) (ending_of r) call copied (λ m w used. drain_course m k w used) takes;
        commands = keeps_of meaning old new store later (logged_since store later) (StopsAt log_limit) (ending_of r) call copied (λ m w used. drain_course m k w used) takes keeps stand may (λ m w used. are_plain (drain_course m k w used).steps (upkeep_drain m k w used));
        count = λ p w shows. count p w (alone_shown meaning p old (engine_of store None copied) w shows refl);
        bounded = bounded_so r (next_of store) (next_of later) (length store.parts.volatile.entries) call.rising bounded;
        within = within;
        few = λ p w shows.
            let alone = alone_shown meaning p old (engine_of store None copied) w shows refl in
            few_removed r (removals (drain_course (meaning_in meaning p) k w (log_length store)).steps) (count_below (end_of w) w.graph + dirty_in (meaning_in meaning p) w)
            (count p w alone) (removed p w (log_length store) (small_shown (meaning_in meaning p) p old store.parts w alone) alone.running);
        drained = drained;
        clean = λ p w shows. clean p w (alone_shown meaning p old (engine_of store None copied) w shows refl);
      }

  -- ---- a checkpoint, and a trim

  pub checking : {T : Type 0} (r : Result T CheckpointErr) → of_store.IsCall meaning old new store later 0 (StopsAt log_limit) (ending_of_checkpoint r)
      → Takes meaning old new store.parts later.parts (λ m w used. checkpoint_course m w used) (ending_of_checkpoint r) → MayTake meaning (λ m w used. checkpoint_course m w used)
      → IsTakingCheckpoint meaning old new (engine_of store None copied) (engine_of later None copied) r
  checking r call takes may = record {
    call = call_of meaning old new store later 0 (StopsAt log_limit) (ending_of_checkpoint r) call log_limit None copied (λ log stop at. at);
    takes = takes_of meaning old new store later 0 (StopsAt log_limit) (ending_of_checkpoint r) call copied (λ m w used. checkpoint_course m w used) takes;
    commands = keeps_of meaning old new store later 0 (StopsAt log_limit) (ending_of_checkpoint r) call copied (λ m w used. checkpoint_course m w used) takes keeps stand may (λ m w used. are_plain (checkpoint_course m w used).steps (upkeep_checkpoint m w used));
  }

  abbrev epoch : ℕ
  epoch = store.parts.log.log.header.epoch

  pub trimming : {T : Type 0} (most : ℕ) (r : Result T RewriteErr) → of_store.IsCall meaning old new store later 0 (StopsAt most) (ending_of_rewrite r)
      → Takes meaning old new store.parts later.parts (λ m w used. trim_within m most store.parts.log.log.header.epoch w used) (ending_of_rewrite r)
      → OnOk r (later.parts.log.log.header.epoch ≡ store.parts.log.log.header.epoch + 1) → (old.tells_files → HasLog (meaning store.parts.log.bounds) old store.parts.log → IfErr r (DamagedBy (λ file place. ⊥)))
      → IfErr r (DamagedBy (IsTailFault (meaning later.parts.log.bounds) new later.parts.log.log)) → IfErr r IsTooLong → (store.parts.volatile.entries ≡ [] → OnOk r (later.parts.log.log.header.base ≡ next_of later))
      → MayTake meaning (λ m w used. trim_within m most store.parts.log.log.header.epoch w used) → IsTrimmingWithin meaning old new (engine_of store None copied) (engine_of later None copied) most r
  trimming most r call takes raised undamaged damage long emptied may = record {
    call = call_of meaning old new store later 0 (StopsAt most) (ending_of_rewrite r) call most None copied (λ log stop at. at);
    takes = takes_of meaning old new store later 0 (StopsAt most) (ending_of_rewrite r) call copied (λ m w used. trim_within m most epoch w used) takes;
    commands = keeps_of meaning old new store later 0 (StopsAt most) (ending_of_rewrite r) call copied (λ m w used. trim_within m most epoch w used) takes keeps stand may (λ m w used. are_plain (trim_within m most epoch w used).steps (upkeep_trim m most epoch w used));
    epoch = raised;
    undamaged = λ told attached file place is. damaged_by (λ f n. ⊥) r file place (undamaged told (attached told).1) is;
    damage = λ file place is. damaged_by _ r file place damage is;
    long = long;
    emptied = emptied;
  }

  -- ---- upkeep

  pub keeping : (n : ℕ) → n ≡ so_far copied → (due : Due) (r : Result UpkeepReport ReadErr) → of_store.IsCall meaning old new store later (logged_since store later) Never (ending_of_read r)
      → Takes meaning old new store.parts later.parts (λ m w used. upkeep_course m due store.parts.log.log.header.epoch n w used) (ending_of_read r)
      → ((p : Params) (w : World O) → Shows (meaning_in meaning p) p old store.parts w → IfOk r (TellsUpkeep (meaning_in meaning p) due store.parts.log.log.header.epoch n w (log_length store)))
      → (old.tells_files → HasLog (meaning store.parts.log.bounds) old store.parts.log → IfErr r (λ e. TellsDamage e → ⊥))
      → MayTake meaning (λ m w used. upkeep_course m due store.parts.log.log.header.epoch (so_far copied) w used) → TakesDue meaning old new (engine_of store None copied) (engine_of later None copied) due r
  keeping n is due r call taken telling undamaged may =
      let k = so_far copied in
      let takes = subst (λ (n : ℕ). Takes meaning old new store.parts later.parts (λ m w used. upkeep_course m due epoch n w used) (ending_of_read r)) is taken in
      let told = subst (λ (n : ℕ). (p : Params) (w : World O) → Shows (meaning_in meaning p) p old store.parts w → IfOk r (TellsUpkeep (meaning_in meaning p) due epoch n w (log_length store))) is telling in
      record {
        call = call_of meaning old new store later (logged_since store later) Never (ending_of_read r) call log_limit None copied (λ log stop is. absurd is);
        takes = takes_of meaning old new store later (logged_since store later) Never (ending_of_read r) call copied (λ m w used. upkeep_course m due epoch k w used) takes;
        commands = keeps_of meaning old new store later (logged_since store later) Never (ending_of_read r) call copied (λ m w used. upkeep_course m due epoch k w used) takes keeps stand may (λ m w used. are_plain (upkeep_course m due epoch k w used).steps (upkeep_upkeep m due epoch k w used));
        told = λ p w shows. told p w (alone_shown meaning p old (engine_of store None copied) w shows refl);
        undamaged = λ told attached file place is. subst (λ (x : Result UpkeepReport ReadErr). IfErr x (λ e. TellsDamage e → ⊥)) is (undamaged told (attached told).1) tt;
      }
