-- The world that stable parts make.
use Rattle.std.proofs.Common.{◌≡◌, ◌∙◌, sym, subst, ap, ℕ, ◌-◌, Bool, List, length, take, drop, refl, arith}
use Rattle.std.proofs.lemmas.List.{take_all}
use Rattle.disk_model.specs.Disk.{Files}
use Rattle.oper_core.specs.Meaning.{Meaning}
use Rattle.formats.specs.declared.params.Params.{Params}
use Rattle.explain_core.specs.History.{Member, commands_of}
use Rattle.explain_core.specs.Sound.{IsSound}
use Rattle.explain_core.specs.Stable.{Stable, IsStableOf, world_of, stable_of}
use Rattle.explain_core.specs.World.{World, step}
use Rattle.explain_core.specs.World.Step.{Crash}
use Rattle.standing.specs.Standing.{HoldsStable, IsFound}

module _ {O : Type 0} (m : Meaning O) (parts : Stable O) (history : List (Member O)) (installed : ℕ → Bool) (is : IsStableOf m parts history installed) where
  abbrev world : World O
  world = world_of m parts history installed

  all_stable : take (length history) history ≡ history
  all_stable = take_all (length history) history (omega arith)

  -- what is stable in it are these parts
  same_parts : stable_of world ≡ parts
  same_parts =
      let records : drop (parts.base - 1) (take (length history) history) ≡ parts.records = ap (λ (l : List (Member O)). drop (parts.base - 1) l) all_stable ∙ is.records in
      λ i. record { slots = parts.slots; tables = parts.tables; base = parts.base; commands_before = parts.commands_before; records = records i }

  -- so a restart finds it in files that hold them
  pub found : (p : Params) (files : Files) → HoldsStable m p files parts → IsSound m world
      → (IsSound m world → step m world Crash ≡ world_of m (stable_of world) (take (length history) history) installed)
      → IsFound m p files (commands_of history) world
  found p files holds sound crash = record {
    shows = subst (λ (it : Stable O). HoldsStable m p files it) (sym same_parts) holds;
    sound = sound;
    crashed = crash sound ∙ λ i. world_of m (same_parts i) (all_stable i) installed;
    commands_are = refl;
  }
