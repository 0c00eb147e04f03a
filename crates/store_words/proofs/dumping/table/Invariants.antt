use Rattle.std.proofs.Common.{◌≡◌, false, List}
use Rattle.std.specs.List.{flat_map}
use Rattle.disk_model.specs.Disk.{Stays}
use Rattle.formats.specs.declared.params.Params.{Params}
use Rattle.script_lines.specs.Replies.{said_line}
use Rattle.shell_base.specs.Store.{IsAttached, Command, Holds, state_of}
use Rattle.store_words.specs.Dump.{rows_below}
use Rattle.store_words.proofs.dumping.table.Given as goal

abbrev pub invariant-loop-object : goal.invariant-loop-object
invariant-loop-object g l = record {
  kept : Stays (g.M.Machine.disk l.fn.machine) (g.M.Machine.disk l.machine);
  unbroken : l.engine.broken ≡ false;
  attached : IsAttached (g.M.Machine.disk l.fn.machine) l.fn.engine → IsAttached (g.M.Machine.disk l.machine) l.engine;
  holds : (p : Params) (commands : List Command) → Holds p (g.M.Machine.disk l.fn.machine) l.fn.engine commands → Holds p (g.M.Machine.disk l.machine) l.engine commands;
  rows : (p : Params) (commands : List Command) → Holds p (g.M.Machine.disk l.fn.machine) l.fn.engine commands → l.table.items ≡ flat_map said_line (rows_below (state_of p commands) l.object);
}
