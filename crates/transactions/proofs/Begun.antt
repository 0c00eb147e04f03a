-- The beginning of a group: which world engine and files then show.
use Rattle.std.proofs.Common.{◌≡◌, ◌∙◌, sym, subst, ap, ℕ, ◌-◌, ◌+◌, List, [], ◌∷◌, ◌++◌, length, refl, inl, inr, Option, None, Some, arith}
use Rattle.std.specs.Prelude.{Result, Ok, Err, OnOk}
use Rattle.std.proofs.lemmas.Bool.{cases_Bool, cond-true, cond-false}
use Rattle.disk_model.specs.Disk.{Disk, LeavesOnly}
use Rattle.disk_model.specs.declared.machine.Failed.{Failed}
use Rattle.oper_core.specs.Meaning.{Meaning}
use Rattle.oper_core.specs.declared.bounds.Bounds.{Bounds}
use Rattle.formats.specs.declared.params.Params.{Params}
use Rattle.explain_core.specs.History.{Member, commands_of}
use Rattle.explain_core.specs.World.{World, Step, run, step}
use Rattle.explain_core.specs.World.Step.{Begin, Block_gate}
use Rattle.running_store.specs.Steps.Appended.{next_lsn}
use Rattle.running_store.specs.Courses.{force_steps, waits}
use Rattle.store_engine.specs.Calls.{IsBeginning, work_of_force}
use Rattle.store_engine.specs.declared.work_err.WorkErr.{WorkErr}
use Rattle.store_engine.specs.Engine.{EngineView, Between, Holds, Says, commands_since, forced_in, accepted_in}
use Rattle.store_engine.specs.Grouping.{ungrouped}
use Rattle.store_engine.specs.Store.{meaning_in}
use Rattle.transactions.specs.Committing.{HasBegun}

module _ {O : Type 0} (meaning : Bounds → Meaning O) (p : Params) where
  abbrev m : Meaning O
  m = meaning_in meaning p

  abbrev behind : World O → World O
  behind w = run m w (force_steps m w ++ Begin ∷ [])

  history_forced : (w : World O) → (run m w (Block_gate ∷ Begin ∷ [])).history ≡ w.history
  unfolding run step
  history_forced w = refl

  history_alone : (w : World O) → (run m w (Begin ∷ [])).history ≡ w.history
  unfolding run step
  history_alone w = refl

  history_behind : (w : World O) → (behind w).history ≡ w.history
  history_behind w = elim (cases_Bool (waits m w)) [
    | inl some ↦ ap (λ (l : List (Step O)). (run m w (l ++ Begin ∷ [])).history) (cond-true (waits m w) (Block_gate ∷ []) [] some) ∙ history_forced w
    | inr none ↦ ap (λ (l : List (Step O)). (run m w (l ++ Begin ∷ [])).history) (cond-false (waits m w) (Block_gate ∷ []) [] none) ∙ history_alone w
  ]

  module _ (old new : Disk) (before after : EngineView) (commands : List O) (holds : Holds meaning p old before commands) (says : Says meaning p old before commands) where
    abbrev w : World O
    w = holds.world

    -- the images of it
    pub begun_images : (none : before.group ≡ None) → LeavesOnly old new (Between meaning p old before.group (forced_in before) (accepted_in before) commands)
        → LeavesOnly old new (Between meaning p old None (forced_in before) (length commands) commands)
    begun_images none leaves = subst (λ (n : ℕ). LeavesOnly old new (Between meaning p old None (forced_in before) n commands)) says.accepted
        (subst (λ (g : Option ℕ). LeavesOnly old new (Between meaning p old g (forced_in before) (accepted_in before) commands)) none leaves)

    module _ {T : Type 0} (value : T) (begun : IsBeginning meaning old new before after (Ok value)) (after_says : (commands : List O) → Holds meaning p new after commands → Says meaning p new after commands) where
      abbrev there : Holds meaning p new after commands
      there = record {
        world = behind w;
        shows = (begun.takes.follows p w holds.shows).1.shows;
        commands_are = ap (λ (h : List (Member O)). commands_of h) (history_behind w) ∙ holds.commands_are;
      }

      pub has_begun : HasBegun meaning p old new before after commands
      has_begun = record {
        holds = there;
        next = ap (λ (h : List (Member O)). length h + 1) (history_behind w) ∙ sym (next_lsn m p old before.parts (ungrouped w) holds.shows.shows);
        forced = ((after_says commands there).none_waits begun.empty).0;
        fewer = says.forced;
        at = after.parts.log.next;
        group = begun.opened;
        size = ap (λ (g : Option ℕ). commands_since after.parts.log.next g) begun.opened ∙ ap (λ (n : ℕ). Some n) (omega arith);
        quiet = begun.call.quiet holds.shows.shows.told;
      }

    pub begun_where_ok : {T : Type 0} (answer : Result T Failed) (result : Result T WorkErr) → result ≡ work_of_force answer → IsBeginning meaning old new before after answer
        → ((commands : List O) → Holds meaning p new after commands → Says meaning p new after commands) → OnOk result (HasBegun meaning p old new before after commands)
    begun_where_ok {T} (Ok value) result is begun after_says = subst (λ (r : Result T WorkErr). OnOk r (HasBegun meaning p old new before after commands)) (sym is) (has_begun value begun after_says)
    begun_where_ok {T} (Err e) result is begun after_says = subst (λ (r : Result T WorkErr). OnOk r (HasBegun meaning p old new before after commands)) (sym is) tt
