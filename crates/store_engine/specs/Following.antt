-- What an engine says of a record of another log, and of nodes that are installed for which nothing is logged.
use Rattle.std.specs.Prelude.{◌≡◌, ◌+◌, ◌≤◌, ℕ, Bool, nat_lt, max, length, Some, Result, IfErr, IfOk, IsErrOf, OnErr}
use Rattle.disk_model.specs.Disk.{Disk}
use Rattle.disk_model.specs.declared.machine.FileNo.{FileNo}
use Rattle.oper_core.specs.Meaning.{Meaning}
use Rattle.oper_core.specs.declared.bounds.Bounds.{Bounds}
use Rattle.formats.specs.Limits.{log_limit}
use Rattle.formats.specs.declared.params.Params.{Params}
use Rattle.formats.specs.declared.record.Record.{Record}
use Rattle.explain_core.specs.Turns.{has_thin, thin_turn}
use Rattle.explain_core.specs.World.{World}
use Rattle.cache_manager.specs.InstallCourses.{removals}
use Rattle.running_store.specs.Calls.{ending_of_store}
use Rattle.running_store.specs.Courses.{Course, course}
use Rattle.running_store.specs.Courses.Stop.{Through}
use Rattle.running_store.specs.declared.store_err.StoreErr.{StoreErr}
use Rattle.execution.specs.Following.{ForcesNone, HasFollowCause, IsFollowFailure, ending_of_follow, follow_course, identities_logged}
use Rattle.execution.specs.declared.record_err.RecordErr.{RecordErr}
use Rattle.execution.specs.declared.record_err.RecordErr.TheVariants.{Damaged}
use Rattle.store_engine.specs.Engine.{EngineView, IsAttached, IsEngineCall, KeepsCommands, ShowsIn, TakesIn, params_of, used_in}
use Rattle.store_engine.specs.Store.{meaning_in}

-- the engine as in a group that begins with its next LSN: there nothing is forced where a record has no room
abbrev pub grouped_from : ℕ → EngineView → EngineView
grouped_from begun engine = record engine { group = Some begun }

-- a turn of so many nodes at most, for which nothing is logged
abbrev pub thin_course : {O : Type 0} → Meaning O → ℕ → World O → ℕ → Course O
thin_course m most w used = course (thin_turn m most w) used Through

module _ {O : Type 0} (meaning : Bounds → Meaning O) (old new : Disk) (before after : EngineView) where
  -- A record of another log was taken as the next one, or passed over; or it was refused, and then the log has no record more.
  -- The log may have 2^48 bytes, whatever the store's limit is.
  pub record HasFollowed (r : Record O) (result : Result Bool RecordErr) : Type 0 where
    pub call : IsEngineCall meaning log_limit old new (grouped_from before.parts.log.next before) (grouped_from before.parts.log.next after) (identities_logged r result) (ending_of_follow result)
    pub group : after.group ≡ before.group
    pub untaken : OnErr result (after.parts.log.next ≡ before.parts.log.next)
    pub takes : TakesIn meaning old new before after (λ m w used. follow_course m r w used) (ending_of_follow result)
    pub in_world : (p : Params) (w : World O) → ShowsIn meaning p old before w → HasFollowCause (meaning_in meaning p) w (used_in before) r result
    pub quiet : ForcesNone (meaning_in meaning (params_of before)) (length before.parts.log.log.pending) r old new
    pub cause : IfErr result (IsFollowFailure (meaning_in meaning (params_of before)) r before.parts.log.next old new before.parts.volatile.objects)
    pub undamaged : old.tells_files → IsAttached meaning old before → (file : FileNo) (place : ℕ) → IsErrOf result (Damaged file place) → ⊥

  -- nodes were installed in such a turn, or none was left that is thin
  pub record HasTendedThin (most : ℕ) (answer : Result ℕ StoreErr) : Type 0 where
    pub call : IsEngineCall meaning log_limit old new before after 0 (ending_of_store answer)
    pub takes : TakesIn meaning old new before after (λ m w used. thin_course m most w used) (ending_of_store answer)
    pub commands : KeepsCommands meaning old new before after (ending_of_store answer)
    pub told : (p : Params) (w : World O) → ShowsIn meaning p old before w
        → IfOk answer (λ n. (nat_lt 0 n ≡ has_thin (meaning_in meaning p) w) × (n ≡ removals (thin_turn (meaning_in meaning p) most w)))
    pub log : after.parts.log ≡ before.parts.log
    pub few : IfOk answer (λ n. (n ≤ max 1 most) × (length after.parts.volatile.entries + n ≤ length before.parts.volatile.entries))
