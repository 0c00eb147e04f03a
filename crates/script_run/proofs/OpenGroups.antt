-- The open group of a world: how many commands it has, and that it stays while members come behind it.
use Rattle.std.proofs.Common.{◌≡◌, ◌∙◌, ap, sym, subst, refl, ◌≤◌, ◌-◌, ◌++◌, ℕ, zero, suc, List, [], ◌∷◌, length, length-append, length-drop, take, drop, arith, Option, Some, None}
use Rattle.std.specs.Prelude.{⊤, IfSome, IsTrue, slice_get}
use Rattle.std.specs.Option.{is_some}
use Rattle.std.proofs.lemmas.Bool.{both_ways}
use Rattle.std.proofs.lemmas.List.{take-append-drop, take-append-le}
use Rattle.std.proofs.Math.Seq.{drop-append_seam, take-append_seam}
use Rattle.disk_model.specs.Disk.{Disk}
use Rattle.oper_core.specs.Meaning.{Meaning}
use Rattle.formats.specs.declared.params.Params.{Params}
use Rattle.explain_core.specs.History.{IsCommand, Member, commands_of}
use Rattle.explain_core.specs.History.Member.{Command as Logged_command, Identity}
use Rattle.explain_core.specs.Sound.{IsGroup, IsSound}
use Rattle.explain_core.specs.StableLaws.{commands_of-append}
use Rattle.explain_core.specs.World.{World, end_of}
use Rattle.running_store.specs.Steps.Appended.{next_lsn}
use Rattle.script_lines.specs.declared.line.Line.TheVariants.{Group}
use Rattle.script_lines.specs.declared.line.Grouping.TheVariants.{Abort as abort_group}
use Rattle.store_engine.specs.Engine.{EngineView, commands_since, group_size}
use Rattle.store_engine.specs.Grouping.{ungrouped}
use Rattle.shell_base.specs.Store.{Command, ShowsIn, meaning_in}
use Rattle.script_run.specs.Groups.{all_after, begun_after, open_in, size_of, waiting}

-- members that are all commands
abbrev AreCommands : List (Member Command) → Type 0
AreCommands [] = ⊤
AreCommands (member ∷ members) = IsCommand member × AreCommands members

each_command : (h : List (Member Command)) → ((i : ℕ) → IfSome (slice_get h i) IsCommand) → AreCommands h
each_command [] each = tt
each_command (member ∷ h) each = (each 0, each_command h (λ i. each (suc i)))

later_commands : (h : List (Member Command)) (f : ℕ) → ((i : ℕ) → f ≤ i → IfSome (slice_get h i) IsCommand) → AreCommands (drop f h)
later_commands h zero each = each_command h (λ i. each i (omega arith))
later_commands [] (suc f) each = tt
later_commands (member ∷ h) (suc f) each = later_commands h f (λ i le. each (suc i) (omega (arith, le)))

commands_counted : (h : List (Member Command)) → AreCommands h → length (commands_of h) ≡ length h
commands_counted [] are = refl
commands_counted (Logged_command op ∷ h) are = omega (arith, commands_counted h are.1)
commands_counted (Identity x value ∷ h) are = absurd are.0

module _ {m : Meaning Command} {w : World Command} (sound : IsSound m w) where
  in_group : (begun : ℕ) → w.group ≡ Some begun → IsGroup w.history w.forced begun
  in_group begun is = subst (λ (o : Option ℕ). IfSome o (IsGroup w.history w.forced)) is sound.group

  -- all before the group is stable
  stable_before : (begun : ℕ) → w.group ≡ Some begun → begun - 1 ≡ w.forced
  stable_before begun is = omega (arith, (in_group begun is).stable)

  abbrev stable : List Command
  stable = commands_of (take w.forced w.history)

  abbrev unstable : List Command
  unstable = commands_of (drop w.forced w.history)

  both : commands_of w.history ≡ stable ++ unstable
  both = ap (λ (h : List (Member Command)). commands_of h) (sym (take-append-drop w.forced w.history)) ∙ commands_of-append (take w.forced w.history) (drop w.forced w.history)

  -- its commands are those that are not stable
  pub waiting_are : (group : Option ℕ) → w.group ≡ group → IsTrue (is_some group) → waiting (begun_after w group) (commands_of w.history) ≡ unstable
  waiting_are None is some = absurd (both_ways _ refl some)
  waiting_are (Some begun) is some =
      ap (λ (k : ℕ). drop (length (commands_of (take k w.history))) (commands_of w.history)) (stable_before begun is)
      ∙ ap (λ (l : List Command). drop (length stable) l) both
      ∙ drop-append_seam stable unstable

  -- and those before it are stable: an abort leaves them
  pub stable_are : (group : Option ℕ) (added : List Command) → w.group ≡ group → IsTrue (is_some group) → all_after (Group abort_group) (begun_after w group) (commands_of w.history) added ≡ stable
  stable_are None added is some = absurd (both_ways _ refl some)
  stable_are (Some begun) added is some =
      ap (λ (k : ℕ). take (length (commands_of (take k w.history))) (commands_of w.history)) (stable_before begun is)
      ∙ ap (λ (l : List Command). take (length stable) l) both
      ∙ take-append_seam stable unstable

  -- so many has it
  size_is : (group : Option ℕ) → w.group ≡ group → commands_since (end_of w) group ≡ size_of (begun_after w group) (commands_of w.history)
  size_is None is = refl
  size_is (Some begun) is =
      let it = in_group begun is in
      let are = later_commands w.history w.forced (λ i le. it.commands (suc i) (omega (arith, le, it.stable))) in
      let before = ap (λ (k : ℕ). length (commands_of (take k w.history))) (stable_before begun is) in
      let same : end_of w - begun ≡ length (commands_of w.history) - length (commands_of (take (begun - 1) w.history)) =
      omega (arith, ap (λ (l : List Command). length l) both, length-append stable unstable, commands_counted (drop w.forced w.history) are, length-drop w.forced w.history, it.stable, sound.forced, before) in
      ap (λ (k : ℕ). Some k) same

-- the number that the engine says is that of the open group
pub open_size : {p : Params} {d : Disk} {engine : EngineView} {w : World Command} {commands : List Command} → ShowsIn p d engine w → commands_of w.history ≡ commands → group_size engine ≡ size_of (open_in w) commands
open_size {p} {d} {engine} {w} shows are =
    let next = next_lsn (meaning_in p) p d engine.parts (ungrouped w) shows.shows in
    (λ i. commands_since (next i) (sym shows.group i)) ∙ size_is shows.sound w.group refl ∙ ap (λ (l : List Command). size_of (open_in w) l) are

-- the later world has the members of the first, and perhaps others behind them
pub record Grows (w later : World Command) : Type 0 where
  pub more : List (Member Command)
  pub history : later.history ≡ w.history ++ more

-- then the same group is open, if it is the same number
pub same_open : {m : Meaning Command} (w later : World Command) → IsSound m w → later.group ≡ w.group → Grows w later → open_in later ≡ open_in w
same_open w later sound same grows = ap (λ (group : Option ℕ). begun_after later group) same ∙ by_group w.group refl
  where
    by_group : (group : Option ℕ) → w.group ≡ group → begun_after later group ≡ begun_after w group
    by_group None is = refl
    by_group (Some begun) is =
        let front = ap (λ (h : List (Member Command)). take (begun - 1) h) grows.history ∙ take-append-le (begun - 1) w.history grows.more (omega (arith, (in_group sound begun is).stable, sound.forced)) in
        ap (λ (h : List (Member Command)). Some (length (commands_of h))) front

-- a group is open in the world where one is open in the engine
pub some_open : {p : Params} {d : Disk} {engine : EngineView} {w : World Command} → ShowsIn p d engine w → IsTrue (is_some engine.group) → IsTrue (is_some (open_in w))
some_open {engine = engine} {w = w} shows some = by_group w.group (ap (λ (o : Option ℕ). is_some o) shows.group ∙ some)
  where
    by_group : (group : Option ℕ) → IsTrue (is_some group) → IsTrue (is_some (begun_after w group))
    by_group None is = is
    by_group (Some begun) is = refl

-- and none in the engine where none is in the world
pub none_in : {p : Params} {d : Disk} {engine : EngineView} {w : World Command} → ShowsIn p d engine w → open_in w ≡ None → engine.group ≡ None
none_in {w = w} shows none = sym shows.group ∙ by_group w.group none
  where
    by_group : (group : Option ℕ) → begun_after w group ≡ None → group ≡ None
    by_group None is = refl
    by_group (Some begun) is = cc is

-- what is said of an open group's size
pub in_open : (P : ℕ → Type 0) (engine : EngineView) → IfSome (group_size engine) P → IsTrue (is_some engine.group) → (size : ℕ) × P size
in_open P engine said inside = by_group engine.group said inside
  where
    by_group : (group : Option ℕ) → IfSome (commands_since engine.parts.log.next group) P → IsTrue (is_some group) → (size : ℕ) × P size
    by_group None said inside = absurd (both_ways _ refl inside)
    by_group (Some begun) said inside = (engine.parts.log.next - begun, said)

-- a group is open in the engine exactly where it tells its size
pub group_given : (engine : EngineView) (size : ℕ) (result : Option ℕ) → result ≡ group_size engine → result ≡ Some size → IsTrue (is_some engine.group)
group_given engine size result told is = by_group engine.group (sym told ∙ is)
  where
    by_group : (group : Option ℕ) → commands_since engine.parts.log.next group ≡ Some size → IsTrue (is_some group)
    by_group None some = cc some
    by_group (Some begun) some = refl

pub none_given : (engine : EngineView) (result : Option ℕ) → result ≡ group_size engine → result ≡ None → engine.group ≡ None
none_given engine result told is = by_group engine.group (sym told ∙ is)
  where
    by_group : (group : Option ℕ) → commands_since engine.parts.log.next group ≡ None → group ≡ None
    by_group None none = refl
    by_group (Some begun) none = cc none
