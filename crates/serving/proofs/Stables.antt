-- What a crash leaves of names.
use Rattle.std.proofs.Common.{◌≡◌, ◌∙◌, ◌⊎◌, ◌<◌, ◌≤◌, ◌^◌, ◌++◌, inl, ⊎_elim, ℕ, List, length, take, refl, sym, subst, arith, None}
use Rattle.std.proofs.lemmas.List.{take_all}
use Rattle.disk_model.specs.Disk.{Disk, Files, IsDisk, Passes, Runs, Same, SaysFront}
use Rattle.disk_model.specs.Moments.{first_call, started, weaker}
use Rattle.formats.specs.Objects.{bounds_of}
use Rattle.formats.specs.declared.params.Params.{Params}
use Rattle.op_codec.specs.AllOps.{all_meaning}
use Rattle.running_store.specs.Calls.{IsFailed}
use Rattle.running_store.specs.Taking.{Ending}
use Rattle.store_engine.specs.Engine as of_engine
use Rattle.store_engine.specs.Engine.{EngineView, KeepsCommands, accepted_in, forced_in}
use Rattle.shell_base.specs.HoldLaws.{holds_of, holds_stays, in_engine}
use Rattle.shell_base.specs.Store.{Between, Command, Holds, Says, Stands, state_of}
use Rattle.named_words.specs.Effects.{Names}
use Rattle.name_ranges.specs.Named.{IsNamed}
use Rattle.serving.specs.Calls.{KeepsStable, MakesStable, SaysBeside}
use Rattle.serving.specs.Held.{HaveNames, HoldsNames}

-- what the engine says of itself once it stands for commands
abbrev pub SaysSo : Params → Disk → EngineView → List Command → Type 0
SaysSo p d engine commands = of_engine.Holds all_meaning p d engine commands → Says p d engine commands

-- where all are forced the names are stable
pub all_stable : {lo hi : ℕ} {p : Params} {d : Disk} {engine : EngineView} {commands : List Command} {names : Names} → d.tells_moments → hi < 2 ^ 32 → Holds p d engine commands → IsNamed (bounds_of p) lo hi (state_of p commands) names
    → forced_in engine ≡ length commands → HoldsNames lo hi p d engine commands names names
all_stable {lo} {hi} {p} {engine = engine} {commands = commands} {names = names} told small holds named all = record {
  told = told;
  small = small;
  holds = holds;
  named = named;
  forced = subst (λ (l : List Command). IsNamed (bounds_of p) lo hi (state_of p l) names) (sym (take_all (forced_in engine) commands (omega (arith, all)))) named;
  alone = λ none. all;
}

module _ {lo hi : ℕ} {p : Params} {d : Disk} {engine : EngineView} {commands : List Command} {names stable : Names} (h : HoldsNames lo hi p d engine commands names stable) where
  -- files that stand for so many of the commands as are forced have the stable names
  pub stable_have : {files : Files} (kept : ℕ) → kept ≡ forced_in engine → Stands p files (take kept commands) → HaveNames lo hi files stable
  stable_have {files} kept same stands = record {
    numbers = p;
    commands = take (forced_in engine) commands;
    stands = subst (λ (n : ℕ). Stands p files (take n commands)) same stands;
    named = h.forced;
  }

  -- those that stand for all of them have all names
  pub all_have : {files : Files} (kept : ℕ) → length commands ≤ kept → Stands p files (take kept commands) → HaveNames lo hi files names
  all_have {files} kept all stands =
      record { numbers = p; commands = commands; stands = subst (λ (l : List Command). Stands p files l) (take_all kept commands all) stands; named = h.named }

  -- where no call is made the stable names are left
  pub stable_here : {done : Type 0} → IsDisk d → KeepsStable lo hi p d d engine names stable done commands
  stable_here lawful = record {
    quiet = refl;
    moments = started d (λ files said. (left : Names) × HaveNames lo hi files left × ((said ≡ d.said) × (left ≡ stable)))
        (λ files said left. (stable, stable_have (forced_in engine) refl (h.holds.says.images.1 h.told files said left), (lawful.said_now h.told files said left, refl)));
    holds = λ done. h;
  }

  -- and where no group is open these are all
  pub made_here : {done : Type 0} → IsDisk d → engine.group ≡ None → MakesStable lo hi p d d engine names stable done commands
  made_here {done} lawful none =
      let here = stable_here {done = done} lawful in
      record {
        quiet = refl;
        moments = weaker d d (λ files said. (left : Names) × HaveNames lo hi files left × ((said ≡ d.said) × (left ≡ stable)))
            (λ files said. (left : Names) × HaveNames lo hi files left × ((said ≡ d.said) × ((left ≡ stable) ⊎ (left ≡ names)))) here.moments
            (λ files said is. (is.0, is.1, (is.2.0, inl is.2.1)));
        holds = λ done. all_stable h.told h.small h.holds h.named (h.alone none);
        alone = λ done. none;
      }

  -- while bytes are said
  pub says_beside : (new : Disk) {done : Type 0} {bytes : List ℕ} → Runs Same (SaysFront bytes) d new → (done → new.said ≡ d.said ++ bytes) → SaysBeside lo hi p d new engine names stable done commands bytes
  says_beside new {done} {bytes} runs all = record {
    said = all;
    moments = first_call d new (λ files said. (left : Names) × HaveNames lo hi files left × (((n : ℕ) × (said ≡ d.said ++ take n bytes)) × (left ≡ stable))) h.told runs.time (λ files said left.
        let from = runs.crash h.told files said left in
        (stable, stable_have (forced_in engine) refl (subst (λ (f : Files). Stands p f (take (forced_in engine) commands)) (sym from.0.2) (h.holds.says.images.1 h.told from.0.0 d.said from.0.1)), ((from.1.0, from.1.2), refl)));
    holds = record { told = runs.time.moments_told.0 h.told; small = h.small; holds = holds_stays runs h.holds; named = h.named; forced = h.forced; alone = h.alone };
  }

-- a call that adds no command, where no group was open
module _ {lo hi : ℕ} {p : Params} {old new : Disk} {before after : EngineView} {commands : List Command} {names stable : Names} (h : HoldsNames lo hi p old before commands names stable) (none : before.group ≡ None) {ending : Ending}
    (keeps : KeepsCommands all_meaning old new before after ending) (time : Passes old new) (quiet : old.tells_files → new.said ≡ old.said) (says : SaysSo p new after commands) where
  pub kept_stable : {done : Type 0} → (done → IsFailed ending → ⊥) → KeepsStable lo hi p old new after names stable done commands
  kept_stable {done} well = record {
    quiet = quiet h.holds.shows.shows.told;
    moments = weaker old new (of_engine.Between all_meaning p old before.group (forced_in before) (accepted_in before) commands) (λ files said. (left : Names) × HaveNames lo hi files left × ((said ≡ old.said) × (left ≡ stable)))
        (keeps.images h.told p commands (in_engine h.holds))
        (λ files said b. (stable, stable_have h b.kept (omega (arith, b.enough, b.within, h.alone none)) b.stands, (b.quiet, refl)));
    holds = λ is.
        let kept : of_engine.Kept all_meaning p before new after commands = ⊎_elim (λ failed. absurd (well is failed)) (λ k. k) (keeps.holds p commands (in_engine h.holds)) in
        let holds : Holds p new after commands = holds_of kept.holds says in
        let all : forced_in after ≡ length commands = omega (arith, kept.rising, holds.says.forced, h.alone none) in
        record {
          told = time.moments_told.0 h.told;
          small = h.small;
          holds = holds;
          named = h.named;
          forced = subst (λ (n : ℕ). IsNamed (bounds_of p) lo hi (state_of p (take n commands)) stable) (h.alone none ∙ sym all) h.forced;
          alone = λ alone. all;
        };
  }
