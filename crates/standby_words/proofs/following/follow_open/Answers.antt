use Rattle.std.proofs.Common.{◌∙◌, ⊎_elim, Err, ap, subst, sym}
use Rattle.disk_model.specs.Disk.{Disk}
use Rattle.disk_model.specs.Moments.{passes_twice}
use Rattle.shell_base.specs.Status.{status_of, IsOfOpened}
use Rattle.shell_base.specs.StopLaws.{stop_status}
use Rattle.standby_words.specs.Following.{IsInputFollowed}
use Rattle.standby_node.specs.Same.Unlike.{other, gone}
use Rattle.standby_words.specs.declared.cut.Cut.{Cut}
use Rattle.standby_words.specs.declared.cut.Cut.TheVariants as cuts
use Rattle.standby_words.proofs.FollowingLemmas.{damage_cause, open_done, open_refused, open_short, open_unlike, open_unread, refusal_found, refusal_is, refused_silent}
use Rattle.standby_words.proofs.following.follow_open.Goals as goal

pub returns-in-Ok-clause-time : goal.returns-in-Ok-clause-time
returns-in-Ok-clause-time g c = passes_twice (g.M.Machine.disk c.args.machine.now) (g.M.Machine.disk c.follow_input.new.machine) (g.M.Machine.disk c.end_numbered.new.machine) (g.met.M.Machine.lawful c.end_numbered.new.machine) c.follow_input.ensures.time c.end_numbered.ensures.says.time

pub returns-in-Ok-clause-followed : goal.returns-in-Ok-clause-followed
returns-in-Ok-clause-followed g c = open_done (g.met.M.Machine.lawful c.follow_input.new.machine) c.follow_input.ensures.time c.follow_input.ensures.quiet c.end_numbered.ensures.says c.in-Ok.commands c.in-Ok.ensures.followed c.end_numbered.ensures.status c.end_numbered.ensures.all
    (λ is. ap (λ (d : Disk). d.said) (ap g.M.Machine.disk (⊎_elim (λ e. cc e) (λ same. same) (c.end_numbered.ensures.silent is))))

pub returns-in-Err-Short-clause-time : goal.returns-in-Err-Short-clause-time
returns-in-Err-Short-clause-time g c = passes_twice (g.M.Machine.disk c.args.machine.now) (g.M.Machine.disk c.follow_input.new.machine) (g.M.Machine.disk c.end_numbered-in-Err-Short.new.machine) (g.met.M.Machine.lawful c.end_numbered-in-Err-Short.new.machine) c.follow_input.ensures.time c.end_numbered-in-Err-Short.ensures.says.time

pub returns-in-Err-Short-clause-followed : goal.returns-in-Err-Short-clause-followed
returns-in-Err-Short-clause-followed g c =
    open_short (g.met.M.Machine.lawful c.follow_input.new.machine) c.follow_input.ensures.time c.follow_input.ensures.quiet c.end_numbered-in-Err-Short.ensures.says c.in-Err-Short.place
    (subst (λ (cut : Cut). IsInputFollowed c.args.same (g.S.Source.tells c.args.input.now) (g.S.Source.left c.args.input.now) (g.S.Source.left c.follow_input.new.input) (g.M.Machine.disk c.args.machine.now) (g.M.Machine.disk c.follow_input.new.machine) c.args.standby.now c.follow_input.new.standby (Err cut)) c.in-Err-Short.field-0-is c.in-Err-Short.ensures.followed)
    c.end_numbered-in-Err-Short.ensures.status c.end_numbered-in-Err-Short.ensures.all
    (λ is. ap (λ (d : Disk). d.said) (ap g.M.Machine.disk (⊎_elim (λ e. cc e) (λ same. same) (c.end_numbered-in-Err-Short.ensures.silent is))))

pub returns-in-Err-Refused-clause-time : goal.returns-in-Err-Refused-clause-time
returns-in-Err-Refused-clause-time g c = passes_twice (g.M.Machine.disk c.args.machine.now) (g.M.Machine.disk c.follow_input.new.machine) (g.M.Machine.disk c.end_refused.new.machine) (g.met.M.Machine.lawful c.end_refused.new.machine) c.follow_input.ensures.time c.end_refused.ensures.says.time

pub returns-in-Err-Refused-clause-followed : goal.returns-in-Err-Refused-clause-followed
returns-in-Err-Refused-clause-followed g c =
    open_refused (g.met.M.Machine.lawful c.follow_input.new.machine) c.follow_input.ensures.time c.follow_input.ensures.quiet c.end_refused.ensures.says c.in-Err-Refused.cause
    (subst (λ (cut : Cut). IsInputFollowed c.args.same (g.S.Source.tells c.args.input.now) (g.S.Source.left c.args.input.now) (g.S.Source.left c.follow_input.new.input) (g.M.Machine.disk c.args.machine.now) (g.M.Machine.disk c.follow_input.new.machine) c.args.standby.now c.follow_input.new.standby (Err cut)) c.in-Err-Refused.field-0-is c.in-Err-Refused.ensures.followed)
    c.end_refused.ensures.ends c.end_refused.ensures.said (λ is. ap (λ (d : Disk). d.said) (ap g.M.Machine.disk (refused_silent c.in-Err-Refused.cause c.end_refused.ensures.ends c.end_refused.ensures.silent is))) (λ failure. ap g.M.Machine.disk (c.end_refused.ensures.failed failure))

pub returns-in-Err-Refused-clause-store : goal.returns-in-Err-Refused-clause-store
returns-in-Err-Refused-clause-store g c = λ told attached. (
  λ is. subst IsOfOpened is (refusal_found c.in-Err-Refused.cause c.end_refused.ensures.ends),
  λ is.
      let damage = damage_cause c.in-Err-Refused.cause (refusal_is c.in-Err-Refused.cause (λ e. cc e) (λ e. cc e) c.end_refused.ensures.ends is) in
      c.in-Err-Refused.ensures.undamaged told attached damage.0 damage.1 (cc (c.in-Err-Refused.field-0-is, damage.2)),
)

pub returns-in-Err-Unread-clause-followed : goal.returns-in-Err-Unread-clause-followed
returns-in-Err-Unread-clause-followed g c =
    open_unread c.follow_input.ensures.quiet c.in-Err-Unread.error (subst (λ (cut : Cut). IsInputFollowed c.args.same (g.S.Source.tells c.args.input.now) (g.S.Source.left c.args.input.now) (g.S.Source.left c.follow_input.new.input) (g.M.Machine.disk c.args.machine.now) (g.M.Machine.disk c.follow_input.new.machine) c.args.standby.now c.follow_input.new.standby (Err cut)) c.in-Err-Unread.field-0-is c.in-Err-Unread.ensures.followed) (c.status.ensures ∙ ap status_of c.from.ensures)

pub returns-in-Err-Refused-clause-found : goal.returns-in-Err-Refused-clause-found
returns-in-Err-Refused-clause-found g c = refusal_found c.in-Err-Refused.cause c.end_refused.ensures.ends

pub returns-in-Ok-clause-found : goal.returns-in-Ok-clause-found
returns-in-Ok-clause-found g c = ⊎_elim (λ e. subst IsOfOpened (sym e) tt) (λ rest. ⊎_elim (λ e. subst IsOfOpened (sym e) tt) (λ e. subst IsOfOpened (sym e) tt) rest) c.end_numbered.ensures.status

pub returns-in-Err-Short-clause-found : goal.returns-in-Err-Short-clause-found
returns-in-Err-Short-clause-found g c = ⊎_elim (λ e. subst IsOfOpened (sym e) tt) (λ rest. ⊎_elim (λ e. subst IsOfOpened (sym e) tt) (λ e. subst IsOfOpened (sym e) tt) rest) c.end_numbered-in-Err-Short.ensures.status

pub returns-in-Err-Unread-clause-found : goal.returns-in-Err-Unread-clause-found
returns-in-Err-Unread-clause-found g c = subst IsOfOpened (sym c.status.ensures) (stop_status _).1

pub returns-in-Err-Unlike-clause-time : goal.returns-in-Err-Unlike-clause-time
returns-in-Err-Unlike-clause-time g c = passes_twice (g.M.Machine.disk c.args.machine.now) (g.M.Machine.disk c.follow_input.new.machine) (g.M.Machine.disk c.end_numbered-in-Err-Unlike.new.machine) (g.met.M.Machine.lawful c.end_numbered-in-Err-Unlike.new.machine) c.follow_input.ensures.time c.end_numbered-in-Err-Unlike.ensures.says.time

pub returns-in-Err-Unlike-clause-followed : goal.returns-in-Err-Unlike-clause-followed
returns-in-Err-Unlike-clause-followed g c =
    open_unlike (g.met.M.Machine.lawful c.follow_input.new.machine) c.follow_input.ensures.time c.follow_input.ensures.quiet c.end_numbered-in-Err-Unlike.ensures.says c.a_stream_is_compared.ensures.later (cuts.Unlike c.in-Err-Unlike.lsn) (other c.in-Err-Unlike.lsn) (λ p first front ended bytes it. it) (λ p w front bytes it. it) (λ P it. it)
    (subst (λ (cut : Cut). IsInputFollowed c.args.same (g.S.Source.tells c.args.input.now) (g.S.Source.left c.args.input.now) (g.S.Source.left c.follow_input.new.input) (g.M.Machine.disk c.args.machine.now) (g.M.Machine.disk c.follow_input.new.machine) c.args.standby.now c.follow_input.new.standby (Err cut)) c.in-Err-Unlike.field-0-is c.in-Err-Unlike.ensures.followed)
    c.end_numbered-in-Err-Unlike.ensures.status c.end_numbered-in-Err-Unlike.ensures.all
    (λ is. ap (λ (d : Disk). d.said) (ap g.M.Machine.disk (⊎_elim (λ e. cc e) (λ same. same) (c.end_numbered-in-Err-Unlike.ensures.silent is))))

pub returns-in-Err-Unlike-clause-found : goal.returns-in-Err-Unlike-clause-found
returns-in-Err-Unlike-clause-found g c = ⊎_elim (λ e. subst IsOfOpened (sym e) tt) (λ rest. ⊎_elim (λ e. subst IsOfOpened (sym e) tt) (λ e. subst IsOfOpened (sym e) tt) rest) c.end_numbered-in-Err-Unlike.ensures.status

pub returns-in-Err-Unknown-clause-time : goal.returns-in-Err-Unknown-clause-time
returns-in-Err-Unknown-clause-time g c = passes_twice (g.M.Machine.disk c.args.machine.now) (g.M.Machine.disk c.follow_input.new.machine) (g.M.Machine.disk c.end_numbered-in-Err-Unknown.new.machine) (g.met.M.Machine.lawful c.end_numbered-in-Err-Unknown.new.machine) c.follow_input.ensures.time c.end_numbered-in-Err-Unknown.ensures.says.time

pub returns-in-Err-Unknown-clause-followed : goal.returns-in-Err-Unknown-clause-followed
returns-in-Err-Unknown-clause-followed g c =
    open_unlike (g.met.M.Machine.lawful c.follow_input.new.machine) c.follow_input.ensures.time c.follow_input.ensures.quiet c.end_numbered-in-Err-Unknown.ensures.says c.a_stream_is_compared.ensures.later (cuts.Unknown c.in-Err-Unknown.lsn) (gone c.in-Err-Unknown.lsn) (λ p first front ended bytes it. it) (λ p w front bytes it. it) (λ P it. it)
    (subst (λ (cut : Cut). IsInputFollowed c.args.same (g.S.Source.tells c.args.input.now) (g.S.Source.left c.args.input.now) (g.S.Source.left c.follow_input.new.input) (g.M.Machine.disk c.args.machine.now) (g.M.Machine.disk c.follow_input.new.machine) c.args.standby.now c.follow_input.new.standby (Err cut)) c.in-Err-Unknown.field-0-is c.in-Err-Unknown.ensures.followed)
    c.end_numbered-in-Err-Unknown.ensures.status c.end_numbered-in-Err-Unknown.ensures.all
    (λ is. ap (λ (d : Disk). d.said) (ap g.M.Machine.disk (⊎_elim (λ e. cc e) (λ same. same) (c.end_numbered-in-Err-Unknown.ensures.silent is))))

pub returns-in-Err-Unknown-clause-found : goal.returns-in-Err-Unknown-clause-found
returns-in-Err-Unknown-clause-found g c = ⊎_elim (λ e. subst IsOfOpened (sym e) tt) (λ rest. ⊎_elim (λ e. subst IsOfOpened (sym e) tt) (λ e. subst IsOfOpened (sym e) tt) rest) c.end_numbered-in-Err-Unknown.ensures.status
