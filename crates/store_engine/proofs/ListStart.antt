-- Before the first call nothing is added.
use Rattle.std.proofs.Common.{◌≡◌, ◌∙◌, sym, subst, ap, ℕ, List, [], ◌++◌, length, refl, inl, inr, Option, None, Some, arith}
use Rattle.std.proofs.lemmas.List.{append-nil}
use Rattle.std.proofs.Math.Path.{fun_ext}
use Rattle.disk_model.specs.Disk.{Files, Disk, IsDisk}
use Rattle.disk_model.specs.Moments.{passes_none, started}
use Rattle.disk_model.specs.Silent.{IsSilent}
use Rattle.disk_model.specs.declared.machine.FileNo.{FileNo}
use Rattle.oper_core.specs.Meaning.{Meaning}
use Rattle.oper_core.specs.declared.bounds.Bounds.{Bounds}
use Rattle.formats.specs.declared.params.Params.{Params}
use Rattle.explain_core.specs.Taken.{after_none}
use Rattle.explain_core.specs.World.{run}
use Rattle.standing.specs.Moments.{ShowsSome}
use Rattle.standing.specs.Standing.{FilesShow}
use Rattle.running_store.specs.Steps.Forced.{files_shown}
use Rattle.running_store.specs.Taking.Ending.{Done}
use Rattle.store_engine.specs.Engine.{EngineView, Between, Holds, Says, forced_in, group_size}
use Rattle.store_engine.specs.Grouping.{ungrouped}
use Rattle.store_engine.specs.Store.{meaning_in}
use Rattle.store_engine.specs.Lists.{AddsFront, larger}

-- a group with none more has as many
pub larger_none : (size : Option ℕ) → size ≡ larger size 0
larger_none None = refl
larger_none (Some n) = ap (λ (k : ℕ). Some k) (omega arith)

module _ {O : Type 0} (meaning : Bounds → Meaning O) (p : Params) (d : Disk) (engine : EngineView) (commands : List O) (holds : Holds meaning p d engine commands) (lawful : IsDisk d) (says : Says meaning p d engine commands) where
  -- an image of the moment stands for the forced ones
  between_now : d.tells_moments → (files : Files) (said : List ℕ) → d.left_since d.clock files said → Between meaning p d engine.group (forced_in engine) (length commands) commands files said
  between_now told files said left = record {
    quiet = lawful.said_now told files said left;
    kept = forced_in engine;
    enough = omega arith;
    within = says.forced;
    which = inl refl;
    stands = says.images.1 told files said left;
  }

  -- and it shows the world
  shows_now : d.tells_moments → (files : Files) (said : List ℕ) → d.left_since d.clock files said → IsSilent (ShowsSome (meaning_in meaning p) p holds.world []) d.said files said
  shows_now told files said left =
      let shown = holds.shows.shows in
      let m = meaning_in meaning p in
      record {
        silent = lawful.said_now told files said left;
        holds = after_none m (FilesShow m p files) holds.world [] (subst (λ (f : Files). FilesShow m p f holds.world) (fun_ext (λ (n : FileNo). sym (shown.log.keeps.settled n told files said left))) (files_shown m p d engine.parts (ungrouped holds.world) shown));
      }

  pub front_none : AddsFront meaning p d d engine engine holds.world commands [] Done
  unfolding run
  front_none = record {
    time = passes_none d;
    done = 0;
    front = omega arith;
    all = λ e. refl;
    kept = inr (record {
      world = holds.world;
      shows = holds.shows;
      commands_are = holds.commands_are ∙ sym (append-nil commands);
      ends = (refl, record { world_is = refl; used_is = refl });
    });
    rising = inr (omega arith);
    which = inr (inl refl);
    group = refl;
    size = larger_none (group_size engine);
    stopped = λ stop e. cc;
    identities = refl;
    images = λ told. started d (Between meaning p d engine.group (forced_in engine) (length commands) (commands ++ [])) (subst (λ (l : List O). (files : Files) (said : List ℕ) → d.left_since d.clock files said → Between meaning p d engine.group (forced_in engine) (length commands) l files said) (sym (append-nil commands)) (between_now told));
    steps = λ told. started d (IsSilent (ShowsSome (meaning_in meaning p) p holds.world []) d.said) (shows_now told);
  }
