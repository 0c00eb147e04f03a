use Rattle.std.proofs.Common.{◌≡◌, ◌≤◌, ◌+◌, ◌^◌, ◌++◌, List, ℕ, [], length, false, None}
use Rattle.disk_model.specs.Disk.{Passes}
use Rattle.formats.specs.declared.params.Params.{Params}
use Rattle.script_lines.specs.Grammar.{lines_of}
use Rattle.script_lines.specs.Reading.{ReadsOn, still_to_give}
use Rattle.store_engine.specs.Engine.{forced_in}
use Rattle.shell_base.specs.Store.{IsAttached, Command, Holds}
use Rattle.shell_base.specs.First.{stage_of}
use Rattle.script_run.specs.Noted.{NotesFront}
use Rattle.script_run.proofs.BackupLemmas.{FreshBeside}
use Rattle.script_run.specs.Run.{FreshGoing}
use Rattle.script_run.proofs.script.answer_script.Given as goal

abbrev pub invariant-loop-lines : goal.invariant-loop-lines
invariant-loop-lines g l = record {
  told : g.S.Source.tells l.fn.input → g.S.Source.tells l.input;
  unbroken : l.engine.broken ≡ false;
  attached : IsAttached (g.M.Machine.disk l.fn.machine) l.fn.engine → IsAttached (g.M.Machine.disk l.machine) l.engine;
  time : Passes (g.M.Machine.disk l.fn.machine) (g.M.Machine.disk l.machine);
  going : (p : Params) (commands : List Command) → (holds : Holds p (g.M.Machine.disk l.fn.machine) l.fn.engine commands) → forced_in l.fn.engine ≡ length commands → l.fn.engine.group ≡ None → g.S.Source.tells l.fn.input →
      FreshGoing l.fn.tending p (stage_of l.fn.engine holds.world) (g.M.Machine.disk l.fn.machine) (g.M.Machine.disk l.machine) l.engine l.pace commands (lines_of (g.S.Source.left l.fn.input)) (lines_of (l.lines.ahead ++ g.S.Source.left l.input)) l.refusing;
  backup_time : Passes (g.T.Machine.disk l.fn.backup) (g.T.Machine.disk l.backup);
  beside : (p : Params) (commands : List Command) → (holds : Holds p (g.M.Machine.disk l.fn.machine) l.fn.engine commands) → forced_in l.fn.engine ≡ length commands → l.fn.engine.group ≡ None → l.fn.engine.copied ≡ None → g.S.Source.tells l.fn.input →
      FreshBeside l.fn.tending g.T.Machine.disk l.fn.backup l.backup p (stage_of l.fn.engine holds.world) (g.M.Machine.disk l.fn.machine) (g.M.Machine.disk l.machine) l.engine l.pace commands (lines_of (g.S.Source.left l.fn.input)) (lines_of (l.lines.ahead ++ g.S.Source.left l.input)) l.refusing;
  some : (script : List (List ℕ)) × ((p : Params) (commands : List Command) → (holds : Holds p (g.M.Machine.disk l.fn.machine) l.fn.engine commands) → forced_in l.fn.engine ≡ length commands → l.fn.engine.group ≡ None →
      FreshGoing l.fn.tending p (stage_of l.fn.engine holds.world) (g.M.Machine.disk l.fn.machine) (g.M.Machine.disk l.machine) l.engine l.pace commands script [] l.refusing)
      × ((p : Params) (commands : List Command) → (holds : Holds p (g.M.Machine.disk l.fn.machine) l.fn.engine commands) → forced_in l.fn.engine ≡ length commands → l.fn.engine.group ≡ None → l.fn.engine.copied ≡ None →
      FreshBeside l.fn.tending g.T.Machine.disk l.fn.backup l.backup p (stage_of l.fn.engine holds.world) (g.M.Machine.disk l.fn.machine) (g.M.Machine.disk l.machine) l.engine l.pace commands script [] l.refusing);
  reads : g.S.Source.faults l.fn.input ≤ g.S.Source.faults l.input;
  takes : g.S.Source.tells l.fn.input → ReadsOn (g.S.Source.left l.fn.input) (g.S.Source.left l.input) 0 l.lines.taken;
  noted : g.S.Source.tells l.fn.input → NotesFront (lines_of (g.S.Source.left l.fn.input)) (lines_of (l.lines.ahead ++ g.S.Source.left l.input)) l.notes;
  lines : l.notes.lines + still_to_give l.lines ≤ 2 ^ 40;
}

abbrev pub decreases-loop-lines : goal.decreases-loop-lines
decreases-loop-lines g l = still_to_give l.lines
