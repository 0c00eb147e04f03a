-- Calls that add commands leave the open group as it began.
use Rattle.std.proofs.Common.{◌≡◌, ◌∙◌, ap, sym, refl, ◌≤◌, ◌+◌, ◌-◌, ◌++◌, ℕ, List, length, length-append, take, drop, arith, Option, Some, None}
use Rattle.std.specs.Prelude.{IfSome}
use Rattle.std.proofs.lemmas.List.{take-append-drop}
use Rattle.disk_model.specs.Disk.{Disk}
use Rattle.formats.specs.declared.params.Params.{Params}
use Rattle.explain_core.specs.History.{Member, commands_of}
use Rattle.explain_core.specs.StableLaws.{commands_of-append}
use Rattle.explain_core.specs.World.{World}
use Rattle.store_engine.specs.Lists.{larger}
use Rattle.store_engine.specs.Engine.{EngineView, group_size}
use Rattle.shell_base.specs.Store.{Command, ShowsIn}
use Rattle.script_run.specs.Groups.{begun_after, open_in, size_of}
use Rattle.script_run.proofs.OpenGroups.{open_size}

-- the first members have no more commands than all
fewer_commands : (f : ℕ) (h : List (Member Command)) → length (commands_of (take f h)) ≤ length (commands_of h)
fewer_commands f h =
    let both = ap (λ (l : List (Member Command)). commands_of l) (sym (take-append-drop f h)) ∙ commands_of-append (take f h) (drop f h) in
    omega (arith, ap (λ (l : List Command). length l) both, length-append (commands_of (take f h)) (commands_of (drop f h)))

-- the open group began after some of the commands
begun_within : (w : World Command) (group : Option ℕ) → IfSome (begun_after w group) (λ n. n ≤ length (commands_of w.history))
begun_within w None = tt
begun_within w (Some begun) = fewer_commands (begun - 1) w.history

-- two groups that began after so many commands began after equally many, where the second has as many more as commands were added
begun_same : (one other : Option ℕ) (commands all added : List Command) → all ≡ commands ++ added → IfSome one (λ n. n ≤ length commands) → IfSome other (λ n. n ≤ length all)
    → size_of other all ≡ larger (size_of one commands) (length added) → other ≡ one
begun_same None None commands all added are here there is = refl
begun_same None (Some n) commands all added are here there is = cc is
begun_same (Some k) None commands all added are here there is = cc is
begun_same (Some k) (Some n) commands all added are here there is =
    let more : length all - n ≡ length commands - k + length added = cc is in
    ap (λ (j : ℕ). Some j) (omega (arith, ap length are, length-append commands added, here, there, more))

-- so a call that adds commands to the open group, or adds them where none is open, leaves it as it began
pub open_same : {p : Params} {old new : Disk} {before after : EngineView} {w v : World Command} (added : List Command) → ShowsIn p old before w → ShowsIn p new after v → commands_of v.history ≡ commands_of w.history ++ added
    → group_size after ≡ larger (group_size before) (length added) → open_in v ≡ open_in w
open_same {w = w} {v = v} added shows shows_now are size =
    begun_same (open_in w) (open_in v) (commands_of w.history) (commands_of v.history) added are (begun_within w w.group) (begun_within v v.group)
    (sym (open_size shows_now refl) ∙ size ∙ ap (λ (o : Option ℕ). larger o (length added)) (open_size shows refl))
