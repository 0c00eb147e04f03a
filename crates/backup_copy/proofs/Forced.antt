-- A force, and reads after it.
use Rattle.std.proofs.Common.{◌≡◌, ◌⊎◌, ◌∙◌, inl, inr, ⊎_elim, ◌≤◌, ℕ, Bool, true, false, List, [], ◌∷◌, length, refl, sym, ap, subst, arith, take}
use Rattle.std.specs.Prelude.{◌||◌, nat_lt, Ok, Err}
use Rattle.std.proofs.lemmas.Bool.{cases_Bool, cond-true, cond-false, ltb-false}
use Rattle.std.proofs.lemmas.List.{take_all}
use Rattle.disk_model.specs.Disk.{Files, Disk, IsDisk, Rises, Stays}
use Rattle.disk_model.specs.Moments.{passes_twice}
use Rattle.disk_model.specs.declared.machine.Failed.{Failed}
use Rattle.disk_model.specs.declared.machine.FileNo.TheVariants.{Objects}
use Rattle.oper_core.specs.Meaning.{Meaning}
use Rattle.oper_core.specs.declared.bounds.Bounds.{Bounds}
use Rattle.formats.specs.declared.params.Params.{Params}
use Rattle.explain_core.specs.History.{Member}
use Rattle.explain_core.specs.World.{World, Step, run, step}
use Rattle.explain_core.specs.World.Step.{Block_gate}
use Rattle.running_store.specs.Courses.{force_steps, waits}
use Rattle.running_store.specs.Kept as of_parts
use Rattle.running_store.specs.Kept.Laws.{stays_log}
use Rattle.running_store.specs.Laid.{IsLaidOn}
use Rattle.store_engine.specs.Calls.{IsForcing}
use Rattle.store_engine.specs.Engine.{Between, EngineView, Holds, IsAttached, ShowsIn, forced_in, accepted_in}
use Rattle.store_engine.specs.ImageLaws.{leaves_still}
use Rattle.store_engine.specs.Store.{meaning_in}

-- after a force all members are stable
module _ {O : Type 0} (m : Meaning O) (w : World O) where
  unfolded_step : (step m w Block_gate).forced ≡ length w.history
  unfolding step
  unfolded_step = refl

  first_false : (a b : Bool) → (a || b) ≡ false → a ≡ false
  first_false true b is = cc
  first_false false b is = refl

  steps_waiting : waits m w ≡ true → force_steps m w ≡ Block_gate ∷ []
  steps_waiting is = cond-true (waits m w) (Block_gate ∷ []) [] is

  steps_idle : waits m w ≡ false → force_steps m w ≡ []
  steps_idle is = cond-false (waits m w) (Block_gate ∷ []) [] is

  abbrev forced_world : World O
  forced_world = run m w (force_steps m w)

  forced_history : forced_world.history ≡ w.history
  unfolding run step
  forced_history = elim (cases_Bool (waits m w)) [
    | inl is ↦ ap (λ (l : List (Step O)). (run m w l).history) (steps_waiting is)
    | inr not ↦ ap (λ (l : List (Step O)). (run m w l).history) (steps_idle not)
  ]

  forced_all : w.forced ≤ length w.history → length w.history ≤ forced_world.forced
  unfolding run step
  forced_all within = elim (cases_Bool (waits m w)) [
    | inl is ↦ let same = ap (λ (l : List (Step O)). (run m w l).forced) (steps_waiting is) in omega (arith, same)
    | inr not ↦
        let same = ap (λ (l : List (Step O)). (run m w l).forced) (steps_idle not) in
        omega (arith, same, ltb-false w.forced (length w.history) (first_false (nat_lt w.forced (length w.history)) (nat_lt 0 (length w.pending)) not))
  ]

  -- so all of its history is
  pub forced_stable : w.forced ≤ length w.history → take forced_world.forced forced_world.history ≡ w.history
  forced_stable within = ap (λ (h : List (Member O)). take forced_world.forced h) forced_history ∙ take_all forced_world.forced w.history (forced_all within)

module _ {O : Type 0} (meaning : Bounds → Meaning O) where
  -- where the files stay, what the machine reports is as it was
  pub attached_still : (mid new : Disk) (engine : EngineView) → Stays mid new → IsAttached meaning mid engine → IsAttached meaning new engine
  attached_still mid new engine stays at told =
      let before = stays.time.files_told.1 told in
      let was = at before in (
        subst (λ (f : Files). IsLaidOn engine.parts.volatile.objects (f Objects)) (sym (stays.reads before)) was.0,
        stays_log (meaning engine.parts.log.bounds) mid new engine.parts.log before stays was.1,
      )

  module _ (old mid new : Disk) (before between : EngineView) (disk : IsDisk mid) (last : IsDisk new) (stays : Stays mid new) where
    holds_still : (p : Params) → ((w : World O) → ShowsIn meaning p mid between w → ShowsIn meaning p new between w) → (commands : List O) → Holds meaning p mid between commands → Holds meaning p new between commands
    holds_still p shows commands holds = record { world = holds.world; shows = shows holds.world holds.shows; commands_are = holds.commands_are }

    -- a force that was done, and reads after it
    pub forced_then : (n : ℕ) → ((p : Params) (w : World O) → ShowsIn meaning p mid between w → ShowsIn meaning p new between w) → IsForcing meaning old mid before between (Ok n) → IsForcing meaning old new before between (Ok n)
    forced_then n shows is = record {
      call = record {
        time = passes_twice old mid new last is.call.time stays.time;
        quiet = λ told. stays.said (is.call.time.files_told.0 told) ∙ is.call.quiet told;
        params = is.call.params;
        group = is.call.group;
        copied = is.call.copied;
        attached = ⊎_elim (λ failed. absurd failed) (λ keeps. inr (λ at. attached_still mid new between stays (keeps at))) is.call.attached;
        identities = is.call.identities;
        stopped = is.call.stopped;
        broken = is.call.broken;
        fault = λ failed. absurd failed;
      };
      takes = record {
        follows = λ p w was. let done = is.takes.follows p w was in (done.0, record { shows = shows p (run (meaning_in meaning p) w (force_steps (meaning_in meaning p) w)) done.1.shows; used = done.1.used });
        steps = λ told p w was. leaves_still old mid new _ disk is.call.time stays told (is.takes.steps told p w was);
      };
      commands = record {
        holds = λ p commands holds. ⊎_elim (λ failed. absurd failed) (λ kept. inr (record { holds = holds_still p (shows p) commands kept.holds; rising = kept.rising; which = kept.which })) (is.commands.holds p commands holds);
        images = λ told p commands holds. leaves_still old mid new (Between meaning p old before.group (forced_in before) (accepted_in before) commands) disk is.call.time stays told (is.commands.images told p commands holds);
      };
      forced = is.forced;
      empty = is.empty;
      count = is.count;
    }

    -- and one of them failed
    pub forced_failed : (n : ℕ) (after : EngineView) (e : Failed) → after ≡ record between { broken = true } → Rises mid.disk_faults new.disk_faults → IsForcing meaning old mid before between (Ok n) → IsForcing meaning old new before after (Err e)
    forced_failed n after e same rises is =
        record {
          call = record {
            time = passes_twice old mid new last is.call.time stays.time;
            quiet = λ told. stays.said (is.call.time.files_told.0 told) ∙ is.call.quiet told;
            params = ap (λ (v : EngineView). v.parts.volatile.objects.slots.params) same ∙ is.call.params;
            group = ap (λ (v : EngineView). v.group) same ∙ is.call.group;
            copied = ap (λ (v : EngineView). v.copied) same ∙ is.call.copied;
            attached = inl tt;
            identities = ap (λ (v : EngineView). v.identities) same ∙ is.call.identities;
            stopped = λ stop never. cc;
            broken = (λ raised. tt, λ failed. ap (λ (v : EngineView). v.broken) same);
            fault = λ failed below. let risen = rises below in omega (arith, risen, is.call.time.disk_faults);
          };
          takes = record {
            follows = λ p w was. tt;
            steps = λ told p w was. leaves_still old mid new _ disk is.call.time stays told (is.takes.steps told p w was);
          };
          commands = record {
            holds = λ p commands holds. inl tt;
            images = λ told p commands holds. leaves_still old mid new (Between meaning p old before.group (forced_in before) (accepted_in before) commands) disk is.call.time stays told (is.commands.images told p commands holds);
          };
          forced = λ p commands holds. tt;
          empty = tt;
          count = tt;
        }
