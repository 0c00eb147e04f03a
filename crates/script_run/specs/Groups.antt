-- What a plain map has while a script is answered: the commands so far, and the groups that they stand in.
use Rattle.std.specs.Prelude.{◌≡◌, ◌≤◌, ◌⊎◌, ◌-◌, ◌++◌, ℕ, List, [], ◌∷◌, length, drop, take, Option, None, Some, IfSome}
use Rattle.std.specs.List.{AllByRecursion}
use Rattle.explain_core.specs.History.{commands_of}
use Rattle.explain_core.specs.World.{World}
use Rattle.script_lines.specs.Grammar.{Request, AsksFor}
use Rattle.script_lines.specs.declared.line.Line.TheVariants.{Group}
use Rattle.script_lines.specs.declared.line.Grouping.TheVariants.{Begin as begin_group, End as end_group, Abort as abort_group}
use Rattle.script_lines.specs.Replies.{Reply, ok}
use Rattle.shell_base.specs.Store.{Command}

-- a closed group: it began after so many commands, and ended after so many
pub record Span : Type 0 where
  pub from : ℕ
  pub to : ℕ

pub record Account : Type 0 where
  pub commands : List Command
  pub closed : List Span
  -- the open group began after so many commands
  pub group : Option ℕ

-- these commands, and no group yet
abbrev pub account_of : List Command → Account
account_of commands = record { commands = commands; closed = []; group = None }

-- the closed groups, and the open one, if there is one, as it ends after so many commands
abbrev pub closed_with : Option ℕ → ℕ → List Span → List Span
closed_with None now spans = spans
closed_with (Some n) now spans = record { from = n; to = now } ∷ spans

-- the account with its open group closed
abbrev pub ended : Account → Account
ended a = record { commands = a.commands; closed = closed_with a.group (length a.commands) a.closed; group = None }

-- The account while these lines are still to be answered: after the last one the open group is closed.
abbrev pub account_before : List (List ℕ) → Account → Account
account_before [] a = ended a
account_before (line ∷ lines) a = a

-- so many commands have all of a closed group or none
abbrev pub IsWhole : ℕ → Span → Type 0
IsWhole kept span = (span.to ≤ kept) ⊎ (kept ≤ span.from)

-- and none of the open one: they split no group
pub record AreWhole (kept : ℕ) (account : Account) : Type 0 where
  pub closed : AllByRecursion (IsWhole kept) account.closed
  pub group : IfSome account.group (λ n. kept ≤ n)

-- each closed group ended with one of the commands, and before the open one began
pub record AreInOrder (account : Account) : Type 0 where
  pub ends : AllByRecursion (λ span. span.to ≤ length account.commands) account.closed
  pub group : IfSome account.group (λ n. (n ≤ length account.commands) × AllByRecursion (λ span. span.to ≤ n) account.closed)

-- the commands of the open group, where it began after so many
abbrev pub waiting : Option ℕ → List Command → List Command
waiting None commands = []
waiting (Some n) commands = drop n commands

-- their number
abbrev pub size_of : Option ℕ → List Command → Option ℕ
size_of None commands = None
size_of (Some n) commands = Some (length commands - n)

-- the open group after a request that is answered `ok`, and the closed ones
abbrev pub group_after : Request → Option ℕ → List Command → Option ℕ
group_after (Group begin_group) group commands = Some (length commands)
group_after (Group end_group) group commands = None
group_after (Group abort_group) group commands = None
group_after request group commands = group

abbrev pub closed_after : Request → Account → List Span
closed_after (Group end_group) a = closed_with a.group (length a.commands) a.closed
closed_after request a = a.closed

-- the commands after it: what it adds comes after those that are there, and an abort takes those of the open group away
abbrev pub all_after : Request → Option ℕ → List Command → List Command → List Command
all_after (Group abort_group) (Some n) commands added = take n commands
all_after request group commands added = commands ++ added

-- Answered `ok`, `begin` opens a group, `end` closes it and `abort` gives it up; no other answer changes the groups, or takes a
-- command away.
abbrev pub IsAfter : Account → List ℕ → Reply → List Command → Account → Type 0
IsAfter a line ok added b = (request : Request) × AsksFor line request
    × (b ≡ record { commands = all_after request a.group a.commands added; closed = closed_after request a; group = group_after request a.group a.commands })
IsAfter a line reply added b = b ≡ record { commands = a.commands ++ added; closed = a.closed; group = a.group }

-- so a line that gets this answer after these commands makes the second open group of the first
abbrev pub Regroups : List ℕ → Reply → List Command → Option ℕ → Option ℕ → Type 0
Regroups line ok commands before after = (request : Request) × AsksFor line request × (after ≡ group_after request before commands)
Regroups line reply commands before after = after ≡ before

-- and these are the commands after it, where it adds these
abbrev pub Becomes : List ℕ → Reply → Option ℕ → List Command → List Command → List Command → Type 0
Becomes line ok group commands added all = (request : Request) × AsksFor line request × (all ≡ all_after request group commands added)
Becomes line reply group commands added all = all ≡ commands ++ added

-- a group that began with this number began after so many commands of the world
abbrev pub begun_after : World Command → Option ℕ → Option ℕ
begun_after w None = None
begun_after w (Some n) = Some (length (commands_of (take (n - 1) w.history)))

abbrev pub open_in : World Command → Option ℕ
open_in w = begun_after w w.group
