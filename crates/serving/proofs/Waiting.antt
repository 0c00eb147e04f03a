-- What is done in an open group waits for its end.
use Rattle.std.proofs.Common.{◌≡◌, ◌∙◌, ◌⊎◌, ◌++◌, ⊎_elim, ℕ, List, length, take, refl, sym, ap, subst, arith, Option, None, Some}
use Rattle.std.specs.Prelude.{IsTrue}
use Rattle.std.specs.Option.{is_some}
use Rattle.std.proofs.lemmas.Bool.{both_ways}
use Rattle.std.proofs.lemmas.List.{take_all, take-append-le}
use Rattle.disk_model.specs.Disk.{Disk, Files}
use Rattle.disk_model.specs.Moments.{weaker}
use Rattle.formats.specs.Objects.{bounds_of}
use Rattle.formats.specs.declared.params.Params.{Params}
use Rattle.op_codec.specs.AllOps.{all_meaning}
use Rattle.running_store.specs.Calls.{IsFailed}
use Rattle.running_store.specs.Taking.{Ending}
use Rattle.running_store.specs.Taking.Ending.{Done}
use Rattle.execution.specs.declared.exec_err.ExecErr.{ExecErr}
use Rattle.store_engine.specs.Engine as of_engine
use Rattle.store_engine.specs.Engine.{EngineView, forced_in, used_in}
use Rattle.store_engine.specs.Lists.{AddsFront, AreCalls, HasReached, ending_of}
use Rattle.shell_base.specs.HoldLaws.{holds_of}
use Rattle.shell_base.specs.Store.{Command, Holds, Stands, state_of}
use Rattle.named_words.specs.Effects.{Names}
use Rattle.name_ranges.specs.Named.{IsNamed}
use Rattle.serving.specs.Calls.{KeepsStable}
use Rattle.serving.specs.Held.{HaveNames, HoldsNames}
use Rattle.serving.proofs.Stables.{SaysSo, stable_have}

-- an open group is one
open_one : {P : Type 0} (group : Option ℕ) → IsTrue (is_some group) → group ≡ None → P
open_one None some none = absurd (both_ways _ refl some)
open_one (Some begun) some none = cc none

-- what is done has not failed
done_well : (ending : Ending) → ending ≡ Done → IsFailed ending → ⊥
done_well ending done failed = subst IsFailed done failed

module _ {lo hi : ℕ} {p : Params} {old new : Disk} {before after : EngineView} {commands ops : List Command} {names stable left : Names} {error : Option ExecErr} (h : HoldsNames lo hi p old before commands names stable) (some : IsTrue (is_some before.group))
    (calls : AreCalls all_meaning old new before after error) (adds : AddsFront all_meaning p old new before after h.holds.world commands ops (ending_of error)) (says : SaysSo p new after (commands ++ ops))
    (named : ending_of error ≡ Done → IsNamed (bounds_of p) lo hi (state_of p (commands ++ ops)) left) where
  -- the commands that were forced are those of before
  front : (more : List Command) → take (forced_in before) (commands ++ more) ≡ take (forced_in before) commands
  front more = take-append-le (forced_in before) commands more h.holds.says.forced

  waits : {files : Files} (kept : ℕ) (more : List Command) → kept ≡ forced_in before → Stands p files (take kept (commands ++ more)) → HaveNames lo hi files stable
  waits {files} kept more same stands = stable_have h (forced_in before) refl (subst (λ (l : List Command). Stands p files l) (ap (λ (n : ℕ). take n (commands ++ more)) same ∙ front more) stands)

  module _ (done : ending_of error ≡ Done) where
    reached : HasReached all_meaning p new after h.holds.world (used_in before) ops (commands ++ take adds.done ops) (ending_of error)
    reached = ⊎_elim (λ failed. absurd (done_well (ending_of error) done failed)) (λ r. r) adds.kept

    all : commands ++ take adds.done ops ≡ commands ++ ops
    all = ap (λ (l : List Command). commands ++ l) (take_all adds.done ops (omega (arith, adds.all done)))

    holds : Holds p new after (commands ++ ops)
    holds = holds_of (record { world = reached.world; shows = reached.shows; commands_are = reached.commands_are ∙ all }) says

    same : forced_in after ≡ forced_in before
    same = ⊎_elim (λ failed. absurd (done_well (ending_of error) done failed)) (λ which. ⊎_elim (λ is. is) (λ (none : (before.group ≡ None) × _). open_one before.group some none.0) which) adds.which

    holds_left : HoldsNames lo hi p new after (commands ++ ops) left stable
    holds_left = record {
      told = adds.time.moments_told.0 h.told;
      small = h.small;
      holds = holds;
      named = named done;
      forced = subst (λ (l : List Command). IsNamed (bounds_of p) lo hi (state_of p l) stable) (sym (front ops) ∙ ap (λ (n : ℕ). take n (commands ++ ops)) (sym same)) h.forced;
      alone = λ none. open_one before.group some (sym adds.group ∙ none);
    }

  pub request_waits : KeepsStable lo hi p old new after left stable (ending_of error ≡ Done) (commands ++ ops)
  request_waits = record {
    quiet = calls.call.quiet h.holds.shows.shows.told;
    moments = weaker old new (of_engine.Between all_meaning p old before.group (forced_in before) (length commands) (commands ++ take adds.done ops)) (λ files said. (left : Names) × HaveNames lo hi files left × ((said ≡ old.said) × (left ≡ stable)))
        (adds.images h.told)
        (λ files said b. (stable, waits b.kept (take adds.done ops) (⊎_elim (λ is. is) (λ (none : (before.group ≡ None) × _). open_one before.group some none.0) b.which) b.stands, (b.quiet, refl)));
    holds = λ done. holds_left done;
  }
