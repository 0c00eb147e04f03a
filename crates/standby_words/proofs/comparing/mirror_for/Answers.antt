use Rattle.std.proofs.Common.{◌∙◌, Bool, Some, [], ap, subst, sym}
use Rattle.std.specs.Prelude.{Err}
use Rattle.standby_words.specs.Comparing.{HasMirror}
use Rattle.standby_words.specs.Following.{IsOfMachine}
use Rattle.standby_words.proofs.ComparingLemmas.{machine_failed, mirror_begins, read_as, ship_fails}
use Rattle.standby_words.proofs.comparing.mirror_for.Goals as goal

pub returns-in-Ok-clause-read : goal.returns-in-Ok-clause-read
returns-in-Ok-clause-read g c = read_as _ _ _ _ _ _ (λ failed. cc (c.in-Ok.is, failed), λ failed. cc failed) c.mirror.ensures.read

pub returns-in-Ok-clause-mirrors : goal.returns-in-Ok-clause-mirrors
returns-in-Ok-clause-mirrors g c =
    let old = g.M.Machine.disk c.args.machine.now in
    let engine = c.args.standby.now.engine in
    subst (λ (b : Bool). HasMirror b old engine [] (Some c.in-Ok.mirror)) (sym c.if-not-same.false) (mirror_begins old engine c.in-Ok.mirror c.in-Ok.ensures.start c.in-Ok.ensures.mirrors)

pub returns-in-Err-clause-read : goal.returns-in-Err-clause-read
returns-in-Err-clause-read g c = read_as _ _ _ _ _ _ (λ failed. ap Err c.unread_log.ensures ∙ (ship_fails c.in-Err.cause).0 (sym c.in-Err.is ∙ failed), λ failed. c.in-Err.is ∙ (ship_fails c.in-Err.cause).1 (sym (ap Err c.unread_log.ensures) ∙ failed)) c.mirror.ensures.read

pub returns-in-Err-clause-undamaged : goal.returns-in-Err-clause-undamaged
returns-in-Err-clause-undamaged g c told attached = subst IsOfMachine (sym c.unread_log.ensures) (machine_failed c.in-Err.cause (λ file place is. c.mirror.ensures.undamaged told attached file place (c.in-Err.is ∙ is)))
