-- A turn for which nothing is logged, in a store whose members are all stable.
use Rattle.std.proofs.Common.{◌≡◌, ◌∙◌, ap, sym, subst, refl, ℕ, ◌+◌, ◌≤◌, List, [], length, drop, arith, None, Option}
use Rattle.std.specs.Prelude.{IfOk, IsErrOf, OnOk, Ok, Err, Result, nat_lt, max}
use Rattle.std.proofs.lemmas.List.{length-drop}
use Rattle.disk_model.specs.Disk.{Disk, OthersStay}
use Rattle.disk_model.specs.Moments.{weaker}
use Rattle.disk_model.specs.Silent.{IsSilent}
use Rattle.disk_model.specs.declared.machine.FileNo.TheVariants.{Objects}
use Rattle.oper_core.specs.Meaning.{IsSmall, Meaning}
use Rattle.oper_core.specs.declared.bounds.Bounds.{Bounds}
use Rattle.formats.specs.Limits.{log_limit}
use Rattle.formats.specs.Objects.{bounds_of}
use Rattle.formats.specs.declared.params.Params.{Params}
use Rattle.formats.specs.declared.record.Record.{Record}
use Rattle.log_blocks.specs.LogView.{used_of}
use Rattle.log_records.specs.RecordLog.{RecordLogView}
use Rattle.explain_core.specs.History.{Member}
use Rattle.explain_core.specs.Sound.{IsSound}
use Rattle.explain_core.specs.Taken.{after_none}
use Rattle.explain_core.specs.Turns.{has_thin, thin_turn}
use Rattle.explain_core.specs.World.{AreAllowed, IsAllStable, World, run}
use Rattle.standing.specs.Members.{members_of}
use Rattle.standing.specs.Moments.{ShowsSome, TakesSome}
use Rattle.running_store.specs.Calls as of_store
use Rattle.running_store.specs.Calls.{Never, ending_of_store}
use Rattle.running_store.specs.Parts.{Parts, Shows, VolatileShows}
use Rattle.running_store.specs.Parts.Stored.{store_shown}
use Rattle.running_store.specs.StoreView.{StoreView}
use Rattle.running_store.specs.Taking.{Follows, Takes}
use Rattle.running_store.specs.declared.store_err.StoreErr.{StoreErr}
use Rattle.running_store.specs.declared.store_err.StoreErr.TheVariants.{DiskFault, Memory}
use Rattle.cache_manager.specs.InstallCourses.{removals}
use Rattle.cache_manager.specs.ThinShown.{turn_shown}
use Rattle.store_engine.specs.Engine.{Between, EngineView, KeepsCommands, accepted_in, engine_of, forced_in}
use Rattle.store_engine.specs.Following.{HasTendedThin, thin_course}
use Rattle.store_engine.specs.Store.{meaning_in}
use Rattle.store_engine.proofs.Calls.{call_of, fine, takes_of}
use Rattle.store_engine.proofs.Grouped.{alone_shown}
use Rattle.store_engine.proofs.Holding.{Stand, no_records}
use Rattle.store_engine.proofs.Keeping.{KeepsRuns, between_plainly, small_shown, takes_holds}
use Rattle.store_engine.proofs.PlainCourses.{plain_thin_turn}

-- where nothing waits in the log all members are stable
all_stable : {O : Type 0} (m : Meaning O) (p : Params) (d : Disk) (it : Parts) (w : World O) → Shows m p d it w → it.log.log.pending ≡ [] → IsAllStable w
all_stable {O} m p d it w shows none =
    let log = shows.log in
    let no_more : log.pending ≡ [] = no_records m log.pending (sym none ∙ log.keeps.pending_are) in
    let behind : drop w.forced w.history ≡ [] = sym log.waiting ∙ ap (λ (rs : List (Record O)). members_of rs) no_more in
    let count : length (drop w.forced w.history) ≡ 0 = ap (λ (h : List (Member O)). length h) behind in
    (omega (arith, count, length-drop w.forced w.history, shows.running.sound.forced), shows.running.alone)

-- such a turn may be taken where all members are stable
abbrev pub MayTend : {O : Type 0} → (Bounds → Meaning O) → Type 0
MayTend {O} meaning = (b : Bounds) (most : ℕ) (w : World O) → IsSmall b → IsSound (meaning b) w → IsAllStable w → AreAllowed (meaning b) w (thin_turn (meaning b) most w)

module _ {O T : Type 0} (meaning : Bounds → Meaning O) (disk : T → Disk) (old new : T) (store later : StoreView) (copied : Option ℕ) (most : ℕ) (result : Result ℕ StoreErr)
    (call : of_store.IsCall meaning (disk old) (disk new) store later 0 Never (ending_of_store result)) (empty : store.parts.log.log.pending ≡ []) where
  abbrev before : EngineView
  before = engine_of store None copied

  abbrev after : EngineView
  after = engine_of later None copied

  -- what the call on the store says of a world
  abbrev InWorld : (Meaning O → Params → World O → Type 0) → Type 0
  InWorld Says = (p : Params) (w : World O) → VolatileShows (meaning_in meaning p) p (disk old) store.parts.volatile w → IsAllStable w → Says (meaning_in meaning p) p w

  abbrev ShowsThin : Meaning O → Params → World O → Type 0
  ShowsThin m p w = OnOk result (VolatileShows m p (disk new) later.parts.volatile (run m w (thin_turn m most w)))

  abbrev CountsThin : Meaning O → Params → World O → Type 0
  CountsThin m p w = IfOk result (λ n. (nat_lt 0 n ≡ has_thin m w) × (n ≡ removals (thin_turn m most w)))

  abbrev TakesThin : Meaning O → Params → World O → Type 0
  TakesThin m p w = TakesSome m p (disk old) (disk new) w (thin_turn m most w)

  module _ (log : later.parts.log ≡ store.parts.log) (others : (disk old).tells_files → OthersStay Objects (disk old).reads (disk new).reads) (shown : InWorld ShowsThin) (steps : (disk old).tells_moments → InWorld TakesThin)
      (memory : IsErrOf result Memory → (new ≡ old) × (later ≡ store)) where
    takes : Takes meaning (disk old) (disk new) store.parts later.parts (λ m w used. thin_course m most w used) (ending_of_store result)
    takes = record {
      follows = λ p w shows. by_answer p w shows result (shown p w (store_shown (meaning_in meaning p) p (disk old) store.parts w shows) (all_stable (meaning_in meaning p) p (disk old) store.parts w shows empty)) memory;
      steps = λ told p w shows. steps told p w (store_shown (meaning_in meaning p) p (disk old) store.parts w shows) (all_stable (meaning_in meaning p) p (disk old) store.parts w shows empty);
    }
      where
        by_answer : (p : Params) (w : World O) → Shows (meaning_in meaning p) p (disk old) store.parts w → (r : Result ℕ StoreErr)
            → OnOk r (VolatileShows (meaning_in meaning p) p (disk new) later.parts.volatile (run (meaning_in meaning p) w (thin_turn (meaning_in meaning p) most w)))
            → (IsErrOf r Memory → (new ≡ old) × (later ≡ store)) → Follows (meaning_in meaning p) p (disk new) later.parts w (thin_course (meaning_in meaning p) most w (used_of store.parts.log.log)) (ending_of_store r)
        by_answer p w shows (Ok n) done same =
            let m = meaning_in meaning p in
            let here = turn_shown m p (disk old) (disk new) store.parts later.parts.volatile most w shows (others shows.told) done in (
              refl,
              record {
                shows = subst (λ (l : RecordLogView). Shows m p (disk new) (record { log = l; volatile = later.parts.volatile }) (run m w (thin_turn m most w))) (sym log) here;
                used = ap (λ (l : RecordLogView). used_of l.log) log;
              },
            )
        by_answer p w shows (Err DiskFault) done same = tt
        by_answer p w shows (Err Memory) done same =
            let m = meaning_in meaning p in
            let still = same refl in
            after_none m (λ v. Shows m p (disk new) later.parts v) w (thin_turn m most w)
            (subst (λ (s : StoreView). Shows m p (disk new) s.parts w) (sym still.1) (subst (λ (n : T). Shows m p (disk n) store.parts w) (sym still.0) shows))

    module _ (keeps : KeepsRuns meaning) (stand : (p : Params) → Stand meaning p) (may : MayTend meaning) where
      keeps_thin : KeepsCommands meaning (disk old) (disk new) before after (ending_of_store result)
      keeps_thin = record {
        holds = takes_holds meaning (disk old) (disk new) before after (λ m w used. thin_course m most w used) (ending_of_store result) takes refl refl (fine meaning (disk old) (disk new) store later 0 Never (ending_of_store result) call)
            (λ m w used. plain_thin_turn m most w);
        images = λ told p commands holds.
            let m = meaning_in meaning p in
            let w = holds.world in
            let shows = alone_shown meaning p (disk old) before w holds.shows refl in
            let allowed = may (bounds_of p) most w (small_shown m p (disk old) store.parts w shows) shows.running.sound (all_stable m p (disk old) store.parts w shows empty) in
            weaker (disk old) (disk new) (IsSilent (ShowsSome m p w (thin_turn m most w)) (disk old).said)
            (Between meaning p (disk old) before.group (forced_in before) (accepted_in before) commands) (takes.steps told p w shows)
            (λ files said is. between_plainly meaning p (disk old) (disk new) before after refl refl commands holds keeps (stand p) (thin_turn m most w) (plain_thin_turn m most w) allowed files said is);
      }

      pub tended_thin : InWorld CountsThin → IfOk result (λ n. (n ≤ max 1 most) × (length later.parts.volatile.entries + n ≤ length store.parts.volatile.entries))
          → HasTendedThin meaning (disk old) (disk new) before after most result
      tended_thin count few = record {
        call = call_of meaning (disk old) (disk new) store later 0 Never (ending_of_store result) call log_limit None copied (λ log stop is. absurd is);
        takes = takes_of meaning (disk old) (disk new) store later 0 Never (ending_of_store result) call copied (λ m w used. thin_course m most w used) takes;
        commands = keeps_thin;
        told = λ p w shows.
            let m = meaning_in meaning p in
            let here = alone_shown meaning p (disk old) before w shows refl in
            count p w (store_shown m p (disk old) store.parts w here) (all_stable m p (disk old) store.parts w here empty);
        log = log;
        few = few;
      }
