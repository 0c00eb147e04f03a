use Rattle.std.proofs.Common.{◌∙◌, subst, sym}
use Rattle.write_queue.specs.Handed.{handed}
use Rattle.embed_c.specs.Backups.{IsTargetOf, target_of}
use Rattle.embed_c.proofs.OnTargets.{now_open, stays_closed, stays_open}
use Rattle.embed_c.proofs.backing_up.redo_core_target_open.Goals as goal

pub returns-then-is_open : goal.returns-then-is_open
returns-then-is_open c = stays_open (handed c.args.objects.now c.args.log_a.now c.args.log_b.now) (target_of c.args.handle.now) (c.is_open.ensures ∙ c.if-is_open.true)

pub returns-in_default : goal.returns-in_default
returns-in_default c = stays_closed (handed c.args.objects.now c.args.log_a.now c.args.log_b.now) (target_of c.args.handle.now) (c.is_open.ensures ∙ c.if-is_open.false)

pub returns-in-Ok : goal.returns-in-Ok
returns-in-Ok c =
    let files = handed c.args.objects.now c.args.log_a.now c.args.log_b.now in
    now_open files (target_of c.args.handle.now) (target_of c.put_back.new.self) c.in-Ok.target.value (c.is_open.ensures ∙ c.if-is_open.false) c.put_back.ensures
    (subst (IsTargetOf files) (sym c.in-Ok.ensures.ok) c.in-Some.ensures)

pub returns : goal.returns
returns c = stays_closed (handed c.args.objects.now c.args.log_a.now c.args.log_b.now) (target_of c.args.handle.now) (c.is_open.ensures ∙ c.if-is_open.false)
