use Rattle.std.proofs.Common.{◌≤◌, ◌+◌, ◌^◌, ◌++◌}
use Rattle.script_lines.specs.Grammar.{lines_of}
use Rattle.script_lines.specs.Reading.{ReadsOn, still_to_give}
use Rattle.graph_view.proofs.LineLemmas.{AreRead}
use Rattle.graph_view.proofs.drawing.read_lines.Given as goal

abbrev pub invariant-loop-line : goal.invariant-loop-line
invariant-loop-line g l = record {
  told : g.S.Source.tells l.fn.input → g.S.Source.tells l.input;
  read : g.S.Source.tells l.fn.input → AreRead (lines_of (g.S.Source.left l.fn.input)) (lines_of (l.lines.ahead ++ g.S.Source.left l.input)) l.line l.commands;
  takes : g.S.Source.tells l.fn.input → ReadsOn (g.S.Source.left l.fn.input) (g.S.Source.left l.input) 0 l.lines.taken;
  few : l.line + still_to_give l.lines ≤ 2 ^ 40 + 1;
  later : g.S.Source.faults l.fn.input ≤ g.S.Source.faults l.input;
}
