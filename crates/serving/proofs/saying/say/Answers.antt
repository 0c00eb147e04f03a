use Rattle.std.proofs.Common.{Result, Ok, Err}
use Rattle.std.specs.Prelude.{IsOk, OnOk}
use Rattle.serving.proofs.Stables.{says_beside}
use Rattle.serving.proofs.saying.say.Goals as goal

-- what is so where all is well
well : {T E P : Type 0} (result : Result T E) → OnOk result P → IsOk result → P
well (Ok value) is done = is
well (Err e) is done = cc done

pub returns-clause-says : goal.returns-clause-says
returns-clause-says g c engine lo hi p commands names stable h =
    let new = g.M.Machine.disk c.say_line.new.machine in
    says_beside h new c.say_line.ensures.runs (well c.say_line.result (c.say_line.ensures.all h.holds.shows.shows.told))
