use Rattle.std.proofs.Common.{inl, inr}
use Rattle.disk_model.specs.Moments.{told_agrees}
use Rattle.log_blocks.proofs.Alone.{all_stay_settled}
use Rattle.log_blocks.proofs.Closing.{look_then_write, look_at_closed, closed_after}
use Rattle.log_blocks.proofs.creating.close.Goals as goal
use Rattle.log_blocks.proofs.creating.close.Goals.{then-read-eq0-via-then-read-eq0, then-read-eq0-via-else-read-eq0+then-gate-eq-OPEN}

pub returns-in_err-write_through-clause-runs : goal.returns-in_err-write_through-clause-runs
returns-in_err-write_through-clause-runs g c = look_then_write _ _ _ c.args.file c.read.ensures.kept c.write_through.ensures.runs

pub returns-in_ok-write_through-clause-runs : goal.returns-in_ok-write_through-clause-runs
returns-in_ok-write_through-clause-runs g c = look_then_write _ _ _ c.args.file c.read.ensures.kept c.write_through.ensures.runs

pub returns-in_ok-write_through-clause-settled : goal.returns-in_ok-write_through-clause-settled
returns-in_ok-write_through-clause-settled g c settled = c.in_ok-write_through.ensures.settled (all_stay_settled _ _ c.read.ensures.kept settled)

pub returns-in_err-write_through-clause-idle : goal.returns-in_err-write_through-clause-idle
returns-in_err-write_through-clause-idle g c told closed =
    absurd (look_at_closed ((g.M.Machine.disk c.args.machine.now).reads c.args.file) c.read.new.into c.in_ok-read.read (c.in_ok-read.ensures.count _ (told_agrees c.read.ensures.kept told)) (c.in_ok-read.ensures.bytes _ (told_agrees c.read.ensures.kept told)) closed
    (elim c.then-read-eq0.branch [ then-read-eq0-via-then-read-eq0 w ↦ inl w.if-read-eq0.true | then-read-eq0-via-else-read-eq0+then-gate-eq-OPEN w ↦ inr w.if-gate-eq-OPEN.true ]))

pub returns-in_ok-write_through-clause-idle : goal.returns-in_ok-write_through-clause-idle
returns-in_ok-write_through-clause-idle g c told closed =
    absurd (look_at_closed ((g.M.Machine.disk c.args.machine.now).reads c.args.file) c.read.new.into c.in_ok-read.read (c.in_ok-read.ensures.count _ (told_agrees c.read.ensures.kept told)) (c.in_ok-read.ensures.bytes _ (told_agrees c.read.ensures.kept told)) closed
    (elim c.then-read-eq0.branch [ then-read-eq0-via-then-read-eq0 w ↦ inl w.if-read-eq0.true | then-read-eq0-via-else-read-eq0+then-gate-eq-OPEN w ↦ inr w.if-gate-eq-OPEN.true ]))

pub returns-in_ok-write_through-clause-closed : goal.returns-in_ok-write_through-clause-closed
returns-in_ok-write_through-clause-closed g c told = closed_after _ _ (c.in_ok-write_through.ensures.written (c.read.ensures.kept.time.files_told.0 told)).changed
