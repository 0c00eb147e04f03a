use Rattle.std.proofs.Common.{subst, sym}
use Rattle.script_lines.specs.declared.line.Line.TheVariants.{Ask}
use Rattle.script_lines.specs.declared.line.Question.TheVariants.{Map}
use Rattle.script_lines.specs.declared.line.MapQuestion.{MapQuestion}
use Rattle.script_run.specs.Found.{IsAsked}
use Rattle.script_run.proofs.map_asking.find_in_map.Goals as goal

pub returns-in-Get : goal.returns-in-Get
returns-in-Get g c =
    subst (λ (q : MapQuestion). IsAsked (g.M.Machine.disk c.args.machine.now) (g.M.Machine.disk c.map_get.new.machine) c.args.engine.now c.map_get.new.engine (Ask (Map c.args.low c.args.high q)) c.map_get.result)
    (sym c.in-Get.is) c.map_get.ensures

pub returns-in-Range : goal.returns-in-Range
returns-in-Range g c =
    subst (λ (q : MapQuestion). IsAsked (g.M.Machine.disk c.args.machine.now) (g.M.Machine.disk c.map_range.new.machine) c.args.engine.now c.map_range.new.engine (Ask (Map c.args.low c.args.high q)) c.map_range.result)
    (sym c.in-Range.is) c.map_range.ensures

pub returns-in-Back : goal.returns-in-Back
returns-in-Back g c =
    subst (λ (q : MapQuestion). IsAsked (g.M.Machine.disk c.args.machine.now) (g.M.Machine.disk c.map_back.new.machine) c.args.engine.now c.map_back.new.engine (Ask (Map c.args.low c.args.high q)) c.map_back.result)
    (sym c.in-Back.is) c.map_back.ensures

pub returns-in-Count : goal.returns-in-Count
returns-in-Count g c =
    subst (λ (q : MapQuestion). IsAsked (g.M.Machine.disk c.args.machine.now) (g.M.Machine.disk c.map_count.new.machine) c.args.engine.now c.map_count.new.engine (Ask (Map c.args.low c.args.high q)) c.map_count.result)
    (sym c.in-Count.is) c.map_count.ensures

pub returns-in-Next : goal.returns-in-Next
returns-in-Next g c =
    subst (λ (q : MapQuestion). IsAsked (g.M.Machine.disk c.args.machine.now) (g.M.Machine.disk c.map_next.new.machine) c.args.engine.now c.map_next.new.engine (Ask (Map c.args.low c.args.high q)) c.map_next.result)
    (sym c.in-Next.is) c.map_next.ensures

pub returns-in-Prev : goal.returns-in-Prev
returns-in-Prev g c =
    subst (λ (q : MapQuestion). IsAsked (g.M.Machine.disk c.args.machine.now) (g.M.Machine.disk c.map_prev.new.machine) c.args.engine.now c.map_prev.new.engine (Ask (Map c.args.low c.args.high q)) c.map_prev.result)
    (sym c.in-Prev.is) c.map_prev.ensures
