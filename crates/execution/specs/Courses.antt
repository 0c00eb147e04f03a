-- What a command does, as a function of the world and of the log's length.
use Rattle.std.specs.Prelude.{ℕ, ◌+◌, ◌^◌, nat_lt, nat_le, Bool, true, false, List, [], ◌∷◌, Option, None, Some, if◌then◌else◌}
use Rattle.oper_core.specs.Meaning.{Meaning, refusal_of}
use Rattle.oper_core.specs.declared.refusal.Refusal.{Refusal}
use Rattle.explain_core.specs.History.Member.{Command}
use Rattle.explain_core.specs.World.{World, Step, end_of}
use Rattle.explain_core.specs.World.Step.{Append}
use Rattle.running_store.specs.Calls.Commands.{command_length}
use Rattle.running_store.specs.Courses.{Course, course, force_steps, grown, waits}
use Rattle.running_store.specs.Courses.Stop.{Through, Full, At_end}

-- the course of a command that nothing refuses, and of one that is refused: none
abbrev pub unless_refused : {O : Type 0} → ℕ → Course O → Option Refusal → Course O
unless_refused used accepted None = accepted
unless_refused used accepted (Some refusal) = course [] used Through

module _ {O : Type 0} (m : Meaning O) where
  -- the first refusal that a command meets on the values of the world's objects
  abbrev pub refusal_in : World O → O → Option Refusal
  refusal_in w op = refusal_of m (λ x. (w.cache x).value) op

  -- where a record has no place what waits is forced, but nothing within a group
  abbrev pub unplaced_steps : Bool → World O → List (Step O)
  unplaced_steps true w = []
  unplaced_steps false w = force_steps m w

  -- then a record of n bytes needs so many: the head of a block too, where nothing waits any more
  abbrev pub needed : Bool → World O → ℕ → ℕ
  needed true w n = if waits m w then n else n + 5
  needed false w n = n + 5

  -- A command that nothing refuses is appended, where its record has room below the limit, and an LSN is left for it; else
  -- what waits is forced, unless a group is open (`grouped`).
  abbrev pub append_course : Bool → ℕ → O → World O → ℕ → Course O
  append_course grouped limit op w used =
      let n = command_length m op in
      if nat_lt limit (grown m w used n) then course (unplaced_steps grouped w) used (Full used (needed grouped w n) limit)
      else (if nat_le (2 ^ 62) (end_of w) then course (unplaced_steps grouped w) used (At_end (end_of w)) else course (Append (Command op) ∷ []) (grown m w used n) Through)

  -- a command, in a log with this limit
  abbrev pub exec_course : Bool → ℕ → O → World O → ℕ → Course O
  exec_course grouped limit op w used = unless_refused used (append_course grouped limit op w used) (refusal_in w op)
