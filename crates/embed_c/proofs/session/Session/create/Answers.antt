use Rattle.std.proofs.Common.{arith, inl, inr, subst, sym}
use Rattle.disk_model.specs.Disk.{Files}
use Rattle.disk_model.specs.declared.machine.FileNo.TheVariants.{Objects}
use Rattle.formats.specs.Objects.{BeginsStore}
use Rattle.write_queue.specs.Handed.{handed}
use Rattle.write_queue.specs.Memory.{disk_of}
use Rattle.embed_c.specs.Opening.{IsFailure, IsUncreated}
use Rattle.embed_c.specs.declared.answer.Answer.{Answer}
use Rattle.embed_c.proofs.Failures.{init_cause, init_fails, new_unopened}
use Rattle.embed_c.proofs.Fronts.{created}
use Rattle.embed_c.proofs.Untaken.{untaken}
use Rattle.embed_c.proofs.session.Session.create.Goals as goal

pub returns-then-not-is_in_range-clause-err : goal.returns-then-not-is_in_range-clause-err
returns-then-not-is_in_range-clause-err c = subst IsFailure (sym c.alone.ensures) (λ done. omega (arith, done))

pub returns-then-not-is_in_range-clause-why : goal.returns-then-not-is_in_range-clause-why
returns-then-not-is_in_range-clause-why c = inl (c.alone.ensures, c.is_in_range.ensures.no c.if-not-is_in_range.true)

pub returns-in_default-clause-err : goal.returns-in_default-clause-err
returns-in_default-clause-err c = subst IsFailure (sym c.alone-in_default.ensures) (λ done. omega (arith, done))

pub returns-in_default-clause-why : goal.returns-in_default-clause-why
returns-in_default-clause-why c = inr (inr (inr c.alone-in_default.ensures))

pub returns-in-Ok-clause-ok : goal.returns-in-Ok-clause-ok
returns-in-Ok-clause-ok c = created c.in-Some.ensures c.args.params c.lay_out.new.machine (untaken c.in-Ok.ensures.time) (c.in-Ok.ensures.ok tt) (c.in-Ok.ensures.fresh tt) (c.in-Ok.ensures.images tt (c.in-Ok.ensures.fresh tt))
    c.over.result c.over.ensures.ready c.over.ensures.holds c.over.ensures.kept

pub returns-in-Ok-clause-why : goal.returns-in-Ok-clause-why
returns-in-Ok-clause-why c = new_unopened c.args.params (handed c.args.objects.now c.args.log_a.now c.args.log_b.now) (disk_of c.lay_out.new.machine).reads c.over.result
    (c.standing_files_meet_their_format.ensures.format c.args.params (disk_of c.lay_out.new.machine).reads _ (c.in-Ok.ensures.ok tt).0.stands) c.over.ensures.why

pub returns-in-Err-clause-err : goal.returns-in-Err-clause-err
returns-in-Err-clause-err c = subst IsFailure (sym c.of_init.ensures) (init_fails c.in-Err.cause)

pub returns-in-Err-clause-why : goal.returns-in-Err-clause-why
returns-in-Err-clause-why c =
    let files = handed c.args.objects.now c.args.log_a.now c.args.log_b.now in
    subst (λ (told : Answer). IsUncreated c.args.params files told) (sym c.of_init.ensures) (init_cause c.args.params files c.in-Err.cause (λ there.
    subst (λ (f : Files). BeginsStore (f Objects)) c.in-Some.ensures.reads ((c.in-Err.ensures.already there).1 tt)))
