use Rattle.std.proofs.Common.{◌+◌, ◌<◌, drop, length, subst, refl, arith}
use Rattle.disk_model.specs.Disk.{Runs, Same, In}
use Rattle.disk_model.specs.declared.machine.FileNo.{FileNo}
use Rattle.log_blocks.specs.RewriteLaws.{keeps_twice}
use Rattle.log_blocks.specs.Rewriting.{KeepsClosed}
use Rattle.log_records.proofs.Copies.{laid_in_next}
use Rattle.log_records.proofs.Laid.{drop_one}
use Rattle.log_records.proofs.copying.put_first.Goals as goal

pub returns-in_err-put-clause-runs : goal.returns-in_err-put-clause-runs
returns-in_err-put-clause-runs g c =
    let mid = g.M.Machine.disk c.begin_block.new.machine in
    let new = g.M.Machine.disk c.put.new.machine in
    keeps_twice (g.M.Machine.disk c.args.m.now) mid new c.args.out.now.file c.begin_block.ensures.runs (subst (λ (f : FileNo). Runs (In f KeepsClosed) Same mid new) c.begin_block.ensures.file c.put.ensures.runs)

pub returns-clause-runs : goal.returns-clause-runs
returns-clause-runs g c =
    let mid = g.M.Machine.disk c.begin_block.new.machine in
    let new = g.M.Machine.disk c.put.new.machine in
    keeps_twice (g.M.Machine.disk c.args.m.now) mid new c.args.out.now.file c.begin_block.ensures.runs (subst (λ (f : FileNo). Runs (In f KeepsClosed) Same mid new) c.begin_block.ensures.file c.put.ensures.runs)

pub returns-clause-laid : goal.returns-clause-laid
returns-clause-laid g c =
    let blocks = c.args.blocks.now in
    let within : blocks.next < length blocks.lengths.items = omega (arith, c.if-blocks-len.false, c.len.ensures) in
    laid_in_next (g.M.Machine.disk c.args.m.now) (g.M.Machine.disk c.put.new.machine) c.args.out.now c.put.new.self blocks _ c.args.code.now c.index-len.result.now (drop (blocks.next + 1) blocks.lengths.items) (g.M.Machine.disk c.begin_block.new.machine) c.begin_block.new.self
    c.requires.full (drop_one blocks.lengths.items blocks.next c.index-len.result.now within c.index-len.ensures) (omega (arith, c.if-code-len.false)) refl refl c.begin_block.ensures.runs.time.files_told.0
    c.in_ok-begin_block.ensures.put c.in_ok-begin_block.ensures.end c.in_ok-put.ensures.put c.in_ok-put.ensures.end
