-- What follows from the records of calls that add commands.
use Rattle.std.proofs.Common.{◌≡◌, ◌∙◌, ap, ℕ, List, ◌++◌, take, false, inl, inr, refl, ⊎_elim, None, Some}
use Rattle.std.proofs.Math.Seq.{take-length}
use Rattle.std.proofs.lemmas.Bool.{cases_Bool}
use Rattle.disk_model.specs.Disk.{Disk}
use Rattle.oper_core.specs.Meaning.{Meaning}
use Rattle.oper_core.specs.declared.bounds.Bounds.{Bounds}
use Rattle.oper_core.specs.declared.refusal.Refusal.{Refusal}
use Rattle.formats.specs.declared.params.Params.{Params}
use Rattle.explain_core.specs.World.{World}
use Rattle.running_store.specs.Taking.Ending.{Done}
use Rattle.execution.specs.declared.exec_err.ExecErr.TheVariants.{Refused}
use Rattle.store_engine.specs.Engine.{EngineView, Holds}
use Rattle.store_engine.specs.Lists.{AddsFront, AreCalls}

module _ {O : Type 0} (meaning : Bounds → Meaning O) (old new : Disk) (before after : EngineView) where
  -- where all are added, engine and files stand for all
  pub all_hold : (p : Params) (w : World O) (commands ops : List O) → AddsFront meaning p old new before after w commands ops Done → Holds meaning p new after (commands ++ ops)
  all_hold p w commands ops adds =
      let reached = ⊎_elim (λ failed. absurd failed) (λ has. has) adds.kept in
      record {
        world = reached.world;
        shows = reached.shows;
        commands_are = reached.commands_are ∙ ap (λ (n : ℕ). commands ++ take n ops) (adds.all refl) ∙ ap (λ (l : List O). commands ++ l) (take-length ops);
      }

  -- an engine is not broken after calls of which none failed
  pub calls_unbroken : AreCalls meaning old new before after None → after.broken ≡ false
  calls_unbroken calls = elim (cases_Bool after.broken) [ inl broken ↦ absurd (calls.call.broken.0 broken) | inr fine ↦ fine ]

  -- a call that is refused is one in which none failed
  pub refused_calls : (refusal : Refusal) → AreCalls meaning old new before after (Some (Refused refusal)) → AreCalls meaning old new before after None
  refused_calls refusal calls = record { call = calls.call; undamaged = λ told attached. tt; damaged = tt }
