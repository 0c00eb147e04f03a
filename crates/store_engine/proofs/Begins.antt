-- A group begins after a force, and ends.
use Rattle.std.proofs.Common.{◌≡◌, ◌∙◌, sym, subst, ap, ℕ, ◌≤◌, false, List, [], ◌∷◌, ◌++◌, length, refl, arith, inl, inr, ⊎_elim, Option, None, Some}
use Rattle.std.specs.Prelude.{IsTrue, Ok, Err, nat_lt}
use Rattle.std.specs.Option.{is_some}
use Rattle.std.proofs.lemmas.Bool.{cases_Bool, cond-true, cond-false, ltb-false, or_parts}
use Rattle.disk_model.specs.Disk.{Disk}
use Rattle.disk_model.specs.declared.machine.Failed.{Failed as Failure}
use Rattle.oper_core.specs.Meaning.{Meaning}
use Rattle.oper_core.specs.declared.bounds.Bounds.{Bounds}
use Rattle.formats.specs.Limits.{log_limit}
use Rattle.formats.specs.Objects.{bounds_of}
use Rattle.formats.specs.declared.params.Params.{Params}
use Rattle.explain_core.specs.History.{commands_of}
use Rattle.explain_core.specs.RunLaws.{run-append}
use Rattle.explain_core.specs.Sound.{IsSound}
use Rattle.explain_core.specs.World.{World, Step, Starts, step, run, IsAllowed}
use Rattle.explain_core.specs.World.Step.{Begin, End, Block_gate}
use Rattle.standing.specs.Moments.{moments_longer}
use Rattle.running_store.specs.Steps.Appended.{next_lsn}
use Rattle.running_store.specs.Courses.{force_steps, waits}
use Rattle.running_store.specs.Taking.Ending.{Done, Failed}
use Rattle.cache_manager.specs.Upkeep.{upkeep_force}
use Rattle.store_engine.specs.Calls.{IsBeginning, IsForcing}
use Rattle.store_engine.specs.Engine.{EngineView, IsEngineCall, Kept, ShowsIn}
use Rattle.store_engine.specs.Store.{meaning_in}
use Rattle.store_engine.proofs.Steps.{are_plain, same_commands, steps_extend}

-- the beginning of a group, where it is allowed, keeps a world sound, and so does its end
abbrev pub BeginKeeps : {O : Type 0} → (Bounds → Meaning O) → Type 0
BeginKeeps {O} meaning = (b : Bounds) (w : World O) → IsSound (meaning b) w → IsAllowed (meaning b) w Begin → IsSound (meaning b) (step (meaning b) w Begin)

abbrev pub EndKeeps : {O : Type 0} → (Bounds → Meaning O) → Type 0
EndKeeps {O} meaning = (b : Bounds) (w : World O) → IsSound (meaning b) w → IsAllowed (meaning b) w End → IsSound (meaning b) (step (meaning b) w End)

-- after a force all members are stable, and no checkpoint waits
pub record IsStill {O : Type 0} (w : World O) : Type 0 where
  pub forced : w.forced ≡ length w.history
  pub none : w.pending ≡ []

no_tables : (l : List Starts) → nat_lt 0 (length l) ≡ false → l ≡ []
no_tables [] is = refl
no_tables (t ∷ l) is = absurd (omega (arith, ltb-false _ _ is))

pub force_still : {O : Type 0} (m : Meaning O) (w : World O) → w.forced ≤ length w.history → IsStill (run m w (force_steps m w))
unfolding run step
force_still {O} m w within = elim (cases_Bool (waits m w)) [
  | inl some ↦ subst (λ (l : List (Step O)). IsStill (run m w l)) (sym (cond-true (waits m w) (Block_gate ∷ []) [] some)) (record { forced = refl; none = refl })
  | inr none ↦
      let parts = or_parts (nat_lt w.forced (length w.history)) (nat_lt 0 (length w.pending)) none in
      subst (λ (l : List (Step O)). IsStill (run m w l)) (sym (cond-false (waits m w) (Block_gate ∷ []) [] none))
      (record { forced = omega (arith, within, ltb-false _ _ parts.0); none = no_tables w.pending parts.1 })
]

module _ {O : Type 0} (meaning : Bounds → Meaning O) (old new : Disk) (before mid : EngineView) (was : before.group ≡ None) where
  -- the force failed
  pub not_begun : (e : Failure) → IsForcing meaning old new before mid (Err e) → IsBeginning meaning old new before mid {T = Unit {0}} (Err e)
  not_begun e it = record {
    call = subst (λ (o : Option ℕ). IsEngineCall meaning log_limit old new before (record mid { group = o }) 0 Failed) it.call.group it.call;
    takes = record {
      follows = λ p w shows. tt;
      steps = λ told p w shows. moments_longer (meaning_in meaning p) p old new w (force_steps (meaning_in meaning p) w) (Begin ∷ []) (it.takes.steps told p w shows);
    };
    commands = it.commands;
    opened = tt;
    unopened = it.call.group ∙ was;
    empty = tt;
  }

  module _ (n : ℕ) (it : IsForcing meaning old new before mid (Ok n)) (begin_keeps : BeginKeeps meaning) where
    -- the engine with a group open
    abbrev pub opened_engine : EngineView
    opened_engine = record mid { group = Some mid.parts.log.next }

    module _ (p : Params) (w : World O) (shows : ShowsIn meaning p old before w) where
      abbrev m : Meaning O
      m = meaning_in meaning p

      abbrev v : World O
      v = run m w (force_steps m w)

      begun_world : run m w (force_steps m w ++ Begin ∷ []) ≡ step m v Begin
      unfolding run
      begun_world = run-append m w (force_steps m w) (Begin ∷ [])

      still : IsStill v
      still = force_still m w shows.sound.forced

      shown : ShowsIn meaning p new mid v → ShowsIn meaning p new opened_engine (step m v Begin)
      unfolding step
      shown there = record {
        unbroken = there.unbroken;
        sound = begin_keeps (bounds_of p) v there.sound (there.shows.running.live, (still.forced, there.group ∙ it.call.group ∙ was));
        group = ap (λ (k : ℕ). Some k) (sym (next_lsn m p new mid.parts (record v { group = None }) there.shows));
        shows = there.shows;
        no_checkpoint = still.none;
      }

      shown_after : ShowsIn meaning p new mid v → ShowsIn meaning p new opened_engine (run m w (force_steps m w ++ Begin ∷ []))
      shown_after there = subst (λ (u : World O). ShowsIn meaning p new opened_engine u) (sym begun_world) (shown there)

      same_after : commands_of (run m w (force_steps m w ++ Begin ∷ [])).history ≡ commands_of w.history
      unfolding step
      same_after = ap (λ (u : World O). commands_of u.history) begun_world ∙ same_commands w v (steps_extend m w (force_steps m w) (are_plain (force_steps m w) (upkeep_force m w)) shows.sound.forced)

    -- the force was made, and the group is open
    pub begun : IsBeginning meaning old new before opened_engine {T = Unit {0}} (Ok tt)
    begun = record {
      call = subst (λ (o : Option ℕ). IsEngineCall meaning log_limit old new before (record mid { group = o }) 0 Done) it.call.group it.call;
      takes = record {
        follows = λ p w shows.
            let there = it.takes.follows p w shows in
            (refl, record { shows = shown_after p w shows there.1.shows; used = there.1.used });
        steps = λ told p w shows. moments_longer (meaning_in meaning p) p old new w (force_steps (meaning_in meaning p) w) (Begin ∷ []) (it.takes.steps told p w shows);
      };
      commands = record {
        holds = λ p commands holds.
            let there = it.takes.follows p holds.world holds.shows in
            ⊎_elim (λ failed. absurd failed) (λ (kept : Kept meaning p before new mid commands). inr (record {
              holds = record {
                world = run (meaning_in meaning p) holds.world (force_steps (meaning_in meaning p) holds.world ++ Begin ∷ []);
                shows = shown_after p holds.world holds.shows there.1.shows;
                commands_are = same_after p holds.world holds.shows ∙ holds.commands_are;
              };
              rising = kept.rising;
              which = kept.which;
            })) (it.commands.holds p commands holds);
        images = it.commands.images;
      };
      opened = refl;
      unopened = tt;
      empty = it.empty;
    }

-- the end of a group
module _ {O : Type 0} (meaning : Bounds → Meaning O) (p : Params) (d : Disk) (engine : EngineView) (w : World O) (end_keeps : EndKeeps meaning) (shows : ShowsIn meaning p d engine w) (in_one : IsTrue (is_some w.group)) where
  pub ended : ShowsIn meaning p d (record engine { group = None }) (step (meaning_in meaning p) w End)
  unfolding step
  ended = record {
    unbroken = shows.unbroken;
    sound = end_keeps (bounds_of p) w shows.sound in_one;
    group = refl;
    shows = shows.shows;
    no_checkpoint = tt;
  }
