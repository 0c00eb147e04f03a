use Rattle.std.proofs.Common.{◌≤◌, ◌+◌, ◌++◌, length}
use Rattle.script_lines.specs.Reading.{ReadsOn, still_to_give}
use Rattle.script_lines.proofs.LineLemmas.{Taken}
use Rattle.script_lines.proofs.reader.LineReader.next.Given as goal

abbrev pub invariant-loop-self : goal.invariant-loop-self
invariant-loop-self g l = record {
  told : g.S.Source.tells l.fn.input → g.S.Source.tells l.input;
  taken : g.S.Source.tells l.fn.input → Taken (l.fn.self.ahead ++ g.S.Source.left l.fn.input) (l.self.ahead ++ g.S.Source.left l.input) l.self.line;
  takes : g.S.Source.tells l.fn.input → ReadsOn (g.S.Source.left l.fn.input) (g.S.Source.left l.input) l.fn.self.taken l.self.taken;
  less : still_to_give l.self + length l.self.line ≤ still_to_give l.fn.self;
  later : g.S.Source.faults l.fn.input ≤ g.S.Source.faults l.input;
}

abbrev pub decreases-loop-self : goal.decreases-loop-self
decreases-loop-self g l = still_to_give l.self
