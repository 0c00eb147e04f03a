-- What holds of each append and of a force holds of each step of commands.
use Rattle.std.proofs.Common.{ℕ, Bool, true, false, List, [], ◌∷◌}
use Rattle.std.specs.Prelude.{◌^◌, nat_lt, nat_le, if◌then◌else◌}
use Rattle.std.specs.List.{AllByRecursion}
use Rattle.std.specs.Option.{is_some}
use Rattle.oper_core.specs.Meaning.{Meaning}
use Rattle.explain_core.specs.History.{Member}
use Rattle.explain_core.specs.History.Member.{Command}
use Rattle.explain_core.specs.World.{World, Step, end_of}
use Rattle.explain_core.specs.World.Step.{Append, Block_gate}
use Rattle.running_store.specs.Calls.Commands.{command_length}
use Rattle.running_store.specs.Courses.{course, grown}
use Rattle.running_store.specs.Courses.Stop.{Through, Full, At_end}
use Rattle.cache_manager.specs.EachStep.{each_either, each_force, each_then}
use Rattle.execution.specs.Courses.{append_course, needed, unplaced_steps}
use Rattle.store_engine.specs.Lists.{commands_course}

module _ {O : Type 0} (m : Meaning O) (P : Step O → Type 0) (append : (member : Member O) → P (Append member)) (force : P Block_gate) where
  each_unplaced : (grouped : Bool) (w : World O) → AllByRecursion P (unplaced_steps m grouped w)
  each_unplaced true w = tt
  each_unplaced false w = each_force m P force w

  -- one
  pub each_placed : (grouped : Bool) (limit : ℕ) (op : O) (w : World O) (used : ℕ) → AllByRecursion P (append_course m grouped limit op w used).steps
  each_placed grouped limit op w used =
      let n = command_length m op in
      let ends = course (unplaced_steps m grouped w) used (At_end (end_of w)) in
      let fits = course (Append (Command op) ∷ []) (grown m w used n) Through in
      each_either m P (nat_lt limit (grown m w used n)) (course (unplaced_steps m grouped w) used (Full used (needed m grouped w n) limit)) (if nat_le (2 ^ 62) (end_of w) then ends else fits) (each_unplaced grouped w)
      (each_either m P (nat_le (2 ^ 62) (end_of w)) ends fits (each_unplaced grouped w) (append (Command op), tt))

  -- several, one after the other
  pub each_command : (limit : ℕ) (ops : List O) (w : World O) (used : ℕ) → AllByRecursion P (commands_course m limit ops w used).steps
  each_command limit [] w used = tt
  each_command limit (op ∷ ops) w used =
      each_then m P w (append_course m (is_some w.group) limit op w used) (λ v used. commands_course m limit ops v used) (each_placed (is_some w.group) limit op w used) (λ v used. each_command limit ops v used)
