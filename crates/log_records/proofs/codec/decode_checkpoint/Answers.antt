use Rattle.std.proofs.Common.{◌∙◌, List, ℕ}
use Rattle.oper_core.specs.LittleEndian.{slice_from}
use Rattle.log_records.proofs.Reading.{no_checkpoint}
use Rattle.log_records.proofs.codec.decode_checkpoint.Goals as goal

pub returns-in-None-clause-none : goal.returns-in-None-clause-none
returns-in-None-clause-none g c =
    let bytes : List ℕ = c.args.bytes.now in
    let none = rw c.in-None.is at c.in_ok-table.ensures.none in
    no_checkpoint (g.O.Oper.meaning c.args.b) bytes c.requires.kind (λ table it. none table (record { rest = it.rest; split = slice_from 1 bytes ∙ it.split; in_grammar = it.in_grammar }))
