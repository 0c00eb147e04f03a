use Rattle.std.proofs.Common.{Ok, [], sym}
use Rattle.std.proofs.lemmas.List.{append-nil}
use Rattle.op_codec.specs.AllOps.{all_meaning}
use Rattle.store_engine.specs.Store.{state_of}
use Rattle.app_steps.proofs.Given.{ran_on_bytes}
use Rattle.app_steps.proofs.program_runs.runs_ask_for_bytes.Goals as goal

pub returns : goal.returns
returns g c = λ p commands app program k holds runs.
    let given = c.values_are_bytes.ensures in
    ran_on_bytes p commands app program (Ok k) runs
    (given.range p commands holds) (λ are. given.values p commands commands [] holds (sym (append-nil commands)) are program)
    (λ before since same are only. given.given p commands before since app (state_of all_meaning p commands program) holds same are only)
