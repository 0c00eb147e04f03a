-- What a record of another log leaves of an engine in which no group is open: from what the call on its store says.
use Rattle.std.proofs.Common.{◌≡◌, subst, refl, ◌⊎◌, ⊎_elim, ℕ, Bool, length, None, Option, Some}
use Rattle.std.specs.Prelude.{Err, IfErr, Ok, OnErr, Result}
use Rattle.disk_model.specs.Disk.{Disk}
use Rattle.oper_core.specs.Meaning.{Meaning}
use Rattle.oper_core.specs.declared.bounds.Bounds.{Bounds}
use Rattle.formats.specs.Limits.{log_limit}
use Rattle.formats.specs.declared.params.Params.{Params}
use Rattle.formats.specs.declared.record.Record.{Record}
use Rattle.explain_core.specs.World.{World}
use Rattle.running_store.specs.Calls as of_store
use Rattle.running_store.specs.Calls.{IsFailed}
use Rattle.running_store.specs.Kept as of_parts
use Rattle.running_store.specs.Parts.{Shows}
use Rattle.running_store.specs.StoreView.{StoreView, log_length, next_of, store_params}
use Rattle.running_store.specs.Taking.{Takes}
use Rattle.execution.specs.Following.{ForcesNone, HasFollowCause, IsFollowFailure, ending_of_follow, follow_course, identities_logged}
use Rattle.execution.specs.Stops.{StopsWithin}
use Rattle.execution.specs.declared.record_err.RecordErr.{RecordErr}
use Rattle.store_engine.specs.Engine.{engine_of}
use Rattle.store_engine.specs.FailureLaws.{still_none_damaged}
use Rattle.store_engine.specs.Following.{HasFollowed}
use Rattle.store_engine.specs.Store.{meaning_in}
use Rattle.store_engine.proofs.Calls.{call_of, takes_of}
use Rattle.store_engine.proofs.Grouped.{alone_shown}

module _ {O : Type 0} (meaning : Bounds → Meaning O) (old new : Disk) (store later : StoreView) (copied : Option ℕ) (r : Record O) (result : Result Bool RecordErr) where
  abbrev m : Meaning O
  m = meaning_in meaning (store_params store)

  -- what the call on the store says
  pub record HasFollowedStore : Type 0 where
    pub call : of_store.IsCall meaning old new store later (identities_logged r result) (StopsWithin log_limit) (ending_of_follow result)
    pub takes : Takes meaning old new store.parts later.parts (λ m w used. follow_course m r w used) (ending_of_follow result)
    pub in_world : (p : Params) (w : World O) → Shows (meaning_in meaning p) p old store.parts w → HasFollowCause (meaning_in meaning p) w (log_length store) r result
    pub untaken : OnErr result ((next_of later ≡ next_of store) × (later.parts.volatile.objects.slots ≡ store.parts.volatile.objects.slots))
    pub quiet : ForcesNone m (length store.parts.log.log.pending) r old new
    pub cause : IfErr result (IsFollowFailure m r (next_of store) old new store.parts.volatile.objects)

  module _ (so : HasFollowedStore) where
    abbrev Attached : Type 0
    Attached = of_parts.IsAttached meaning old store.parts → of_parts.IsAttached meaning new later.parts

    none_more : (k : Result Bool RecordErr) → OnErr k ((next_of later ≡ next_of store) × (later.parts.volatile.objects.slots ≡ store.parts.volatile.objects.slots)) → OnErr k (next_of later ≡ next_of store)
    none_more (Ok taken) is = tt
    none_more (Err e) is = is.0

    pub has_followed : HasFollowed meaning old new (engine_of store None copied) (engine_of later None copied) r result
    has_followed = record {
      call = call_of meaning old new store later (identities_logged r result) (StopsWithin log_limit) (ending_of_follow result) so.call log_limit (Some (next_of store)) copied (λ log stop is. is);
      group = refl;
      untaken = none_more result so.untaken;
      takes = takes_of meaning old new store later (identities_logged r result) (StopsWithin log_limit) (ending_of_follow result) so.call copied (λ m w used. follow_course m r w used) so.takes;
      in_world = λ p w shows. so.in_world p w (alone_shown meaning p old (engine_of store None copied) w shows refl);
      quiet = so.quiet;
      cause = so.cause;
      undamaged = λ told attached file place is.
          let why = subst (λ (k : Result Bool RecordErr). IfErr k (IsFollowFailure m r (next_of store) old new store.parts.volatile.objects)) is so.cause in
          let kept = subst (λ (k : Result Bool RecordErr). OnErr k ((next_of later ≡ next_of store) × (later.parts.volatile.objects.slots ≡ store.parts.volatile.objects.slots))) is so.untaken in
          let keeps = subst (λ (k : Result Bool RecordErr). IsFailed (ending_of_follow k) ⊎ Attached) is so.call.attached in
          still_none_damaged meaning store.parts later.parts so.call.quiet.ends so.call.quiet.time kept.1 (⊎_elim (λ failed. absurd failed) (λ on. on) keeps) told attached why.1.slot;
    }
