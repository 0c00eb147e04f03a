use Rattle.std.proofs.Common.{subst}
use Rattle.std.proofs.lemmas.Result.{err_from_is_err_and}
use Rattle.disk_model.specs.Disk.{Files}
use Rattle.disk_model.specs.declared.machine.FileNo.TheVariants.{Objects}
use Rattle.stable_objects.specs.Heads.{Head, head_at, IsReadWhole, IsHeadFault}
use Rattle.stable_objects.proofs.Found.{handed_on}
use Rattle.stable_objects.proofs.HeadBytes.{head_read}
use Rattle.stable_objects.proofs.heads.read_head.Goals as goal

pub returns-in_err-found-clause-cause : goal.returns-in_err-found-clause-cause
returns-in_err-found-clause-cause g c =
    let new = g.M.Machine.disk c.head_at.new.machine in
    let a = c.args in
    let head = c.in_ok-head.head in
    let e = err_from_is_err_and c.from_residual-in_err-found.result c.from_residual-in_err-found.ensures.1 in
    rw (e.1, e.2) (handed_on ⊥ _ _ (λ at. (files : Files) → new.agrees files → IsHeadFault a.cap a.place a.size (head_at a.place (files Objects)) at) _ (λ none. absurd none)
    (λ at fault files agree. subst (λ (h : Head). IsHeadFault a.cap a.place a.size h at) (head_read (files Objects) head a.place (c.in_ok-head.ensures.head files agree)) fault)
    c.in_err-found.ensures.cause)

pub returns-clause-read : goal.returns-clause-read
returns-clause-read g c files agree =
    let a = c.args in
    subst (λ (h : Head). IsReadWhole a.cap a.place a.size h c.in_ok-found.found.lsn c.in_ok-found.found.long) (head_read (files Objects) c.in_ok-head.head a.place (c.in_ok-head.ensures.head files agree)) c.in_ok-found.ensures.read
