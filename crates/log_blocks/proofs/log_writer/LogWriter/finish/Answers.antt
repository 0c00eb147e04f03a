use Rattle.std.proofs.Common.{◌∷◌, ◌++◌, sym, ap, subst}
use Rattle.disk_model.specs.Disk.{Files, In, Runs, Same}
use Rattle.disk_model.specs.Moments.{runs_then_stays}
use Rattle.disk_model.specs.declared.machine.FileNo.{FileNo}
use Rattle.formats.specs.Log.{blocks, header_fields}
use Rattle.log_blocks.specs.Rewriting.{IsPrepared, KeepsClosed}
use Rattle.log_blocks.specs.Writing.{LogWriterView}
use Rattle.log_blocks.specs.RewriteLaws.{keeps_twice}
use Rattle.log_blocks.proofs.Written.{put_whole}
use Rattle.log_blocks.proofs.log_writer.LogWriter.finish.Goals as goal

pub returns-in_err-write_out-clause-runs : goal.returns-in_err-write_out-clause-runs
returns-in_err-write_out-clause-runs g c =
    let mid = g.M.Machine.disk c.put.new.machine in
    let new = g.M.Machine.disk c.write_out.new.machine in
    keeps_twice (g.M.Machine.disk c.args.machine.now) mid new c.args.self.now.file c.put.ensures.runs
    (subst (λ (f : FileNo). Runs (In f KeepsClosed) Same mid new) c.put.ensures.file c.write_out.ensures.runs)

pub returns-in_err-sync-clause-runs : goal.returns-in_err-sync-clause-runs
returns-in_err-sync-clause-runs g c =
    let mid = g.M.Machine.disk c.put.new.machine in
    let new = g.M.Machine.disk c.write_out.new.machine in
    runs_then_stays _ _ _ _ (keeps_twice (g.M.Machine.disk c.args.machine.now) mid new c.args.self.now.file c.put.ensures.runs
    (subst (λ (f : FileNo). Runs (In f KeepsClosed) Same mid new) c.put.ensures.file c.write_out.ensures.runs)) c.sync.ensures.kept

pub returns-clause-runs : goal.returns-clause-runs
returns-clause-runs g c =
    let mid = g.M.Machine.disk c.put.new.machine in
    let new = g.M.Machine.disk c.write_out.new.machine in
    runs_then_stays _ _ _ _ (keeps_twice (g.M.Machine.disk c.args.machine.now) mid new c.args.self.now.file c.put.ensures.runs
    (subst (λ (f : FileNo). Runs (In f KeepsClosed) Same mid new) c.put.ensures.file c.write_out.ensures.runs)) c.sync.ensures.kept

pub returns-clause-prepared : goal.returns-clause-prepared
returns-clause-prepared g c told header payloads is =
    let new = g.M.Machine.disk c.write_out.new.machine in
    let told_mid = c.put.ensures.runs.time.files_told.0 told in
    let told_new = c.write_out.ensures.runs.time.files_told.0 told_mid in
    let has = c.in_ok-put.ensures.put told (is.gate ∷ (header_fields header ++ blocks payloads)) is.has in
    let whole = put_whole new c.write_out.new.self header payloads is.gate (ap (λ (v : LogWriterView). v.bytes) c.in_ok-write_out.ensures.emptied) (c.in_ok-write_out.ensures.put told_mid _ has) in
    let here = subst (λ (f : FileNo). IsPrepared header payloads (new.reads f)) (ap (λ (v : LogWriterView). v.file) c.in_ok-write_out.ensures.emptied) whole in
    let there = subst (λ (f : FileNo). IsPrepared header payloads (new.reads f)) c.put.ensures.file here in
    subst (λ (f : Files). IsPrepared header payloads (f c.args.self.now.file)) (sym (c.sync.ensures.kept.reads told_new)) there
