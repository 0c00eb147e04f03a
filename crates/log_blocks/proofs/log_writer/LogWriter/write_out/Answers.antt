use Rattle.std.proofs.Common.{rules, ◌+◌, sym, subst, arith}
use Rattle.disk_model.specs.Disk.{In, Runs, Same}
use Rattle.log_blocks.specs.Rewriting.{KeepsClosed}
use Rattle.log_blocks.specs.Writing.{LogWriterView, HasPut}
use Rattle.log_blocks.proofs.Written.{keeps_write, written_out}
use Rattle.log_blocks.proofs.log_writer.LogWriter.write_out.Goals as goal

pub returns-in_err-write_at-clause-runs : goal.returns-in_err-write_at-clause-runs
returns-in_err-write_at-clause-runs g c =
    subst (λ (v : LogWriterView). Runs (In v.file KeepsClosed) Same (g.M.Machine.disk c.args.machine.now) (g.M.Machine.disk c.write_at.new.self)) c.self.view_is
    (keeps_write _ _ c.self.inside.file c.self.inside.place _ c.self.invariant.behind c.write_at.ensures.runs)

pub returns-clause-runs : goal.returns-clause-runs
returns-clause-runs g c =
    subst (λ (v : LogWriterView). Runs (In v.file KeepsClosed) Same (g.M.Machine.disk c.args.machine.now) (g.M.Machine.disk c.write_at.new.self)) c.self.view_is
    (keeps_write _ _ c.self.inside.file c.self.inside.place _ c.self.invariant.behind c.write_at.ensures.runs)

pub returns-clause-put : goal.returns-clause-put
returns-clause-put g c told front has =
    let old = g.M.Machine.disk c.args.machine.now in
    let new = g.M.Machine.disk c.write_at.new.self in
    let it : LogWriterView = record { file = c.self.inside.file; place = c.self.inside.place; bytes = c.self.inside.piece.items } in
    let has_it : HasPut old it front = subst (λ (v : LogWriterView). HasPut old v front) (sym c.self.view_is) has in
    written_out old new it c.deref.result.now c.clear.new.self.items front (c.self.inside.place + c.len.result) c.deref.ensures.value (search rules) (omega (arith, c.len.ensures)) has_it (c.in_ok-write_at.ensures.written told).changed
