use Rattle.std.proofs.Common.{rules, take, sym, subst}
use Rattle.log_blocks.specs.Writing.{LogWriterView, HasPut}
use Rattle.log_blocks.proofs.Written.{put_behind}
use Rattle.log_blocks.proofs.log_writer.LogWriter.put_some.Goals as goal

pub returns-clause-put : goal.returns-clause-put
returns-clause-put g c told front has =
    let new = g.M.Machine.disk c.make_room.new.machine in
    let it : LogWriterView = record { file = c.self.inside.file; place = c.self.inside.place; bytes = c.self.inside.piece.items } in
    put_behind new it c.extend_from_slice.new.self.items (take c.min-n.result c.args.bytes.now) front (search rules) (subst (λ (v : LogWriterView). HasPut new v front) (sym c.self.view_is) (c.in_ok-make_room.ensures.put told front has))
