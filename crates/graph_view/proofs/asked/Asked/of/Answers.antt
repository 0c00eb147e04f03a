use Rattle.std.proofs.Common.{ap, sym, subst}
use Rattle.script_lines.specs.Grammar.{AsksFor, Request}
use Rattle.script_lines.specs.declared.line.Line.TheVariants.{Run}
use Rattle.graph_view.specs.declared.asked.Asked.TheVariants.{Command}
use Rattle.graph_view.proofs.asked.Asked.of.Goals as goal

pub returns-in-Run : goal.returns-in-Run
returns-in-Run c = λ bytes asks.
    (Run c.in-Run.op, subst (λ (r : Request). AsksFor bytes r) c.in-Run.is asks, ap Command (sym c.accesses_of.ensures))
