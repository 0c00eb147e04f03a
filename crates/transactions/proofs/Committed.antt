-- What a commit leaves, in each way in which it ends.
use Rattle.std.proofs.Common.{◌≡◌, ◌∙◌, sym, subst, ap, ℕ, ◌+◌, ◌≤◌, Bool, true, false, List, ◌++◌, length, take, refl, inl, inr, ◌⊎◌, ⊎_elim, Option, None, Some, arith, length-take, IsTrue, IfSome}
use Rattle.std.proofs.Math.Seq.{take-append_seam, take-length}
use Rattle.disk_model.specs.Disk.{Disk, LeavesOnly, Passes}
use Rattle.disk_model.specs.Moments.{runs_on, weaker}
use Rattle.oper_core.specs.Meaning.{Meaning}
use Rattle.oper_core.specs.declared.bounds.Bounds.{Bounds}
use Rattle.formats.specs.declared.params.Params.{Params}
use Rattle.running_store.specs.Calls.{IsFailed}
use Rattle.running_store.specs.Taking.{Ending}
use Rattle.running_store.specs.Taking.Ending.{Done}
use Rattle.store_engine.specs.Engine.{EngineView, Between, Holds, forced_in, group_size, params_of, records_of}
use Rattle.store_engine.specs.Store.{Stands}
use Rattle.store_engine.specs.Lists.{AddsFront, larger}
use Rattle.store_engine.specs.ListLaws.{all_hold}
use Rattle.transactions.specs.Committing.{HasBegun}
use Rattle.transactions.specs.Room.{HasRoomFor, HasRoomOf}

-- a fact about the number of an open group that is about something else
pub where_open : {P : Type 0} (group : Option ℕ) (at : ℕ) → group ≡ Some at → IfSome group (λ n. P) → P
where_open {P} group at is some = subst (λ (o : Option ℕ). IfSome o (λ n. P)) is some

pub not_true : (b : Bool) → b ≡ false → IsTrue b → ⊥
not_true true untrue is = cc untrue
not_true false untrue is = cc is

pub is_true : (b : Bool) → b ≡ true → IsTrue b
is_true true untrue = refl
is_true false untrue = cc untrue

as_long : {A : Type 0} (n : ℕ) (xs : List A) → n ≤ length xs → 0 + n ≡ length (take n xs)
as_long n xs within = omega (arith, within, length-take n xs)

module _ {O : Type 0} (meaning : Bounds → Meaning O) (p : Params) (old mid : Disk) (before between : EngineView) (commands ops : List O) (begun : HasBegun meaning p old mid before between commands) where
  -- the room that was tested
  pub room_for : (bytes : ℕ) → bytes ≡ records_of meaning (params_of before) ops → params_of between ≡ params_of before → HasRoomOf between bytes → HasRoomFor meaning between ops
  room_for bytes are same room = subst (λ (n : ℕ). HasRoomOf between n) (are ∙ ap (λ (q : Params). records_of meaning q ops) (sym same)) room

  pub room_of : (bytes : ℕ) → bytes ≡ records_of meaning (params_of before) ops → params_of between ≡ params_of before → HasRoomFor meaning between ops → HasRoomOf between bytes
  room_of bytes are same room = subst (λ (n : ℕ). HasRoomOf between n) (sym (are ∙ ap (λ (q : Params). records_of meaning q ops) (sym same))) room

  -- no room: nothing but the group's beginning was done
  module _ (closed : EngineView) (kept : IfSome between.group (λ n. closed ≡ record between { group = None })) where
    shut : closed ≡ record between { group = None }
    shut = where_open between.group begun.at begun.group kept

    pub full_left : (mid_holds : IfSome between.group (λ n. Holds meaning p mid closed commands)) → (HasRoomFor meaning between ops → ⊥)
        → Holds meaning p mid closed commands × (forced_in closed ≡ length commands) × (closed.group ≡ None) × (HasRoomFor meaning closed ops → ⊥)
    full_left holds none = (
      where_open between.group begun.at begun.group holds,
      ap (λ (e : EngineView). forced_in e) shut ∙ begun.forced,
      ap (λ (e : EngineView). e.group) shut,
      λ room. none (subst (λ (e : EngineView). HasRoomFor meaning e ops) shut room),
    )

  module _ (new : Disk) (after : EngineView) (ending : Ending) (adds : AddsFront meaning p mid new between after begun.holds.world commands ops ending) where
    abbrev in_group : after.group ≡ Some begun.at
    in_group = adds.group ∙ begun.group

    -- a moment of it is a moment before it
    none_yet : (files : _) (said : _) → Between meaning p mid between.group (forced_in between) (length commands) (commands ++ take adds.done ops) files said
        → Between meaning p old None (forced_in before) (length commands) commands files said
    none_yet files said is =
        let as_many : is.kept ≡ length commands = ⊎_elim (λ same. same ∙ begun.forced) (λ (all : (between.group ≡ None) × (length commands ≤ is.kept)). absurd (cc (all.0, begun.group))) is.which in
        record {
          quiet = is.quiet ∙ begun.quiet;
          kept = length commands;
          enough = begun.fewer;
          within = omega arith;
          which = inr (refl, omega arith);
          stands = subst (λ (l : List O). Stands meaning p files l) (ap (λ (n : ℕ). take n (commands ++ take adds.done ops)) as_many ∙ take-append_seam commands (take adds.done ops) ∙ sym (take-length commands)) is.stands;
        }

    pub moments : old.tells_moments → Passes old mid → LeavesOnly old mid (Between meaning p old None (forced_in before) (length commands) commands)
        → LeavesOnly old new (Between meaning p old None (forced_in before) (length commands) commands)
    moments told time first =
        runs_on old mid new (Between meaning p old None (forced_in before) (length commands) commands) first
        (weaker mid new (Between meaning p mid between.group (forced_in between) (length commands) (commands ++ take adds.done ops)) (Between meaning p old None (forced_in before) (length commands) commands)
        (adds.images (time.moments_told.0 told)) none_yet)

    -- what is there of it, unless the disk failed
    pub cut_left : IsFailed ending ⊎ ((done : ℕ) × Holds meaning p new after (commands ++ take done ops) × (group_size after ≡ Some (length (take done ops))))
    cut_left = ⊎_elim (λ failed. inl failed)
        (λ has. inr (adds.done, record { world = has.world; shows = has.shows; commands_are = has.commands_are }, adds.size ∙ ap (λ (s : Option ℕ). larger s adds.done) begun.size ∙ ap (λ (n : ℕ). Some n) (as_long adds.done ops adds.front))) adds.kept

  -- all of it
  module _ (new : Disk) (after closed : EngineView) (adds : AddsFront meaning p mid new between after begun.holds.world commands ops Done) where
    all_there : Holds meaning p new after (commands ++ ops)
    all_there = all_hold meaning mid new between after p begun.holds.world commands ops adds

    still : forced_in after ≡ length commands
    still = ⊎_elim (λ failed. absurd failed) (λ which. ⊎_elim (λ same. same ∙ begun.forced) (λ (all : (between.group ≡ None) × (length commands ≤ forced_in after)). absurd (cc (all.0, begun.group))) which) adds.which

    pub all_left : ((all : List O) → Holds meaning p new after all → IfSome after.group (λ n. Holds meaning p new closed all)) → IfSome after.group (λ n. closed ≡ record after { group = None })
        → Holds meaning p new closed (commands ++ ops) × (forced_in closed ≡ length commands) × (closed.group ≡ None)
    all_left holds kept =
        let is : after.group ≡ Some begun.at = adds.group ∙ begun.group in
        let shut : closed ≡ record after { group = None } = where_open after.group begun.at is kept in
        (where_open after.group begun.at is (holds (commands ++ ops) all_there), ap (λ (e : EngineView). forced_in e) shut ∙ still, ap (λ (e : EngineView). e.group) shut)
