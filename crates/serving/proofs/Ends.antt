-- A group is ended and forced.
use Rattle.std.proofs.Common.{◌≡◌, ◌∙◌, ◌⊎◌, ◌≤◌, inl, inr, ⊎_elim, ℕ, List, length, refl, sym, ap, subst, arith, Option, None, Some, Result, Ok, Err}
use Rattle.std.specs.Prelude.{IfOk, IfSome, IsTrue}
use Rattle.std.specs.Option.{is_some}
use Rattle.std.proofs.lemmas.Bool.{both_ways}
use Rattle.disk_model.specs.Disk.{Disk}
use Rattle.disk_model.specs.Moments.{weaker}
use Rattle.disk_model.specs.declared.machine.Failed.{Failed as Failure}
use Rattle.formats.specs.declared.params.Params.{Params}
use Rattle.oper_core.specs.Meaning.{Meaning}
use Rattle.op_codec.specs.AllOps.{all_meaning}
use Rattle.explain_core.specs.History.{Member, commands_of}
use Rattle.explain_core.specs.World.{World, step}
use Rattle.explain_core.specs.World.Step.{End}
use Rattle.running_store.specs.Calls.{IsFailed, ending_of_force}
use Rattle.store_engine.specs.Calls.{IsForcing, work_of_force}
use Rattle.store_engine.specs.Engine as of_engine
use Rattle.store_engine.specs.Engine.{EngineView, accepted_in, commands_since, forced_in, group_size}
use Rattle.store_engine.specs.declared.work_err.WorkErr.{WorkErr}
use Rattle.shell_base.specs.HoldLaws.{holds_of}
use Rattle.shell_base.specs.Store.{Command, Holds, Says, ShowsIn, meaning_in}
use Rattle.named_words.specs.Effects.{Names}
use Rattle.serving.specs.Calls.{MakesStable}
use Rattle.serving.specs.Held.{HaveNames, HoldsNames}
use Rattle.serving.proofs.Stables.{SaysSo, all_have, all_stable, stable_have}

-- a group is open exactly where the engine tells how many commands it has
pub some_told : (engine : EngineView) (size : ℕ) (result : Option ℕ) → result ≡ group_size engine → result ≡ Some size → IsTrue (is_some engine.group)
some_told engine size result told is = by_group engine.group (sym told ∙ is)
  where
    by_group : (group : Option ℕ) → commands_since engine.parts.log.next group ≡ Some size → IsTrue (is_some group)
    by_group None some = cc some
    by_group (Some begun) some = refl

pub none_told : (engine : EngineView) (result : Option ℕ) → result ≡ group_size engine → result ≡ None → engine.group ≡ None
none_told engine result told is = by_group engine.group (sym told ∙ is)
  where
    by_group : (group : Option ℕ) → commands_since engine.parts.log.next group ≡ None → group ≡ None
    by_group None none = refl
    by_group (Some begun) none = cc none

-- the engine without its group
abbrev pub ended : EngineView → EngineView
ended engine = record engine { group = None }

pub end_is : {E : Type 0} (result : Result ℕ E) (before mid : EngineView) → IsTrue (is_some before.group) → IfSome (group_size before) (λ size. (result ≡ Ok size) × (mid ≡ ended before)) → mid ≡ ended before
end_is {E} result before mid some is = by_group before.group some is
  where
    by_group : (group : Option ℕ) → IsTrue (is_some group) → IfSome (commands_since before.parts.log.next group) (λ size. (result ≡ Ok size) × (mid ≡ ended before)) → mid ≡ ended before
    by_group None some is = absurd (both_ways _ refl some)
    by_group (Some begun) some is = is.1

-- a force from this engine answers so
abbrev pub Forces : Disk → Disk → EngineView → EngineView → Result ℕ WorkErr → Type 0
Forces old new before after result = (answer : Result ℕ Failure) × (result ≡ work_of_force answer) × IsForcing all_meaning old new before after answer

pub forces : (old new : Disk) (before mid after : EngineView) (result : Result ℕ WorkErr) → mid ≡ ended before → (mid.group ≡ None → Forces old new mid after result) → Forces old new (ended before) after result
forces old new before mid after result same alone = subst (λ (e : EngineView). Forces old new e after result) same (alone (ap (λ (e : EngineView). e.group) same))

pub force_done : {T : Type 0} (answer : Result T Failure) (result : Result T WorkErr) (n : T) → result ≡ work_of_force answer → result ≡ Ok n → answer ≡ Ok n
force_done (Ok m) result n is done = cc (is, done)
force_done (Err e) result n is done = cc (is, done)

pub force_failed : {T : Type 0} (answer : Result T Failure) (result : Result T WorkErr) (e : WorkErr) → result ≡ work_of_force answer → result ≡ Err e → IsFailed (ending_of_force answer)
force_failed (Ok m) result e is failed = cc (is, failed)
force_failed (Err cause) result e is failed = tt

end_history : (m : Meaning Command) (w : World Command) → (step m w End).history ≡ w.history
unfolding step
end_history m w = refl

-- the law that the end of a group is a step
abbrev pub Ends : Disk → EngineView → Type 0
Ends d engine = (p : Params) (w : World Command) → ShowsIn p d engine w → IsTrue (is_some w.group) → ShowsIn p d (ended engine) (step (meaning_in p) w End)

ended_holds : {p : Params} {d : Disk} {engine : EngineView} {commands : List Command} → IsTrue (is_some engine.group) → Ends d engine → Holds p d engine commands → of_engine.Holds all_meaning p d (ended engine) commands
ended_holds {p} {d} {engine} some ends holds = record {
  world = step (meaning_in p) holds.world End;
  shows = ends p holds.world holds.shows (ap (λ (o : Option ℕ). is_some o) holds.shows.group ∙ some);
  commands_are = ap (λ (h : List (Member Command)). commands_of h) (end_history (meaning_in p) holds.world) ∙ holds.commands_are;
}

module _ {lo hi : ℕ} {p : Params} {old new : Disk} {before after : EngineView} {commands : List Command} {names stable : Names} (h : HoldsNames lo hi p old before commands names stable) (some : IsTrue (is_some before.group))
    (ends : Ends old before) {answer : Result ℕ Failure} (it : IsForcing all_meaning old new (ended before) after answer) (says : SaysSo p new after commands) where
  pub made_stable : {done : Type 0} → (done → (n : ℕ) × (answer ≡ Ok n)) → MakesStable lo hi p old new after names stable done commands
  made_stable {done} well =
      let here = ended_holds some ends h.holds in
      record {
        quiet = it.call.quiet h.holds.shows.shows.told;
        moments = weaker old new (of_engine.Between all_meaning p old None (forced_in before) (accepted_in before) commands) (λ files said. (left : Names) × HaveNames lo hi files left × ((said ≡ old.said) × ((left ≡ stable) ⊎ (left ≡ names))))
            (it.commands.images h.told p commands here)
            (λ files said b. ⊎_elim
            (λ same. (stable, stable_have h b.kept same b.stands, (b.quiet, inl refl)))
            (λ (all : (None ≡ None) × (accepted_in before ≤ b.kept)). (names, all_have h b.kept (omega (arith, all.1, h.holds.says.accepted)) b.stands, (b.quiet, inr refl)))
            b.which);
        holds = λ is.
            let (n, ok) = well is in
            let kept : ⊥ ⊎ of_engine.Kept all_meaning p (ended before) new after commands = subst (λ (r : Result ℕ Failure). IsFailed (ending_of_force r) ⊎ of_engine.Kept all_meaning p (ended before) new after commands) ok (it.commands.holds p commands here) in
            let forced = subst (λ (r : Result ℕ Failure). IfOk r (λ k. (k ≡ length commands) × (forced_in after ≡ length commands))) ok (it.forced p commands here) in
            let holds : Holds p new after commands = holds_of (⊎_elim (λ failed. absurd failed) (λ (k : of_engine.Kept all_meaning p (ended before) new after commands). k.holds) kept) says in
            all_stable (it.call.time.moments_told.0 h.told) h.small holds h.named forced.1;
        alone = λ is. it.call.group;
      }

-- what is done has not failed
pub not_failed : {T : Type 0} (answer : Result T Failure) (value : T) → answer ≡ Ok value → IsFailed (ending_of_force answer) → ⊥
not_failed (Ok value) same is failed = failed
not_failed (Err e) value is failed = cc is
