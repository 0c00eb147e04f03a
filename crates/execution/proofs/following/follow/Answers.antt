use Rattle.std.proofs.Common.{◌≡◌, ◌∙◌, ap, sym, subst, ℕ, Option}
use Rattle.std.specs.Prelude.{IfSome, Ok}
use Rattle.formats.specs.Records.{lsn_of}
use Rattle.log_records.specs.RecordLog.{RecordLogView}
use Rattle.running_store.specs.Parts.{meaning_in}
use Rattle.running_store.specs.StoreView.{StoreView, log_length, next_of}
use Rattle.running_store.specs.Taking.{Takes}
use Rattle.execution.specs.Following.{HasFollowCause, ending_of_follow, ending_of_record_error, follow_course}
use Rattle.execution.specs.declared.record_err.RecordErr.{RecordErr}
use Rattle.cache_manager.specs.Endings.{at_err}
use Rattle.execution.proofs.Due.{due_or}
use Rattle.execution.proofs.Undue.{higher_cause, higher_takes, lower_cause, lower_takes, said_higher, said_lower}
use Rattle.execution.proofs.following.follow.Given.{Over}
use Rattle.execution.proofs.following.follow.Goals.{After-is_due}
use Rattle.execution.proofs.following.follow.Goals as goal

-- what is said of its LSN
said : (g : Over) (c : After-is_due g) → IfSome (lsn_of c.args.logged) (λ n. c.is_due.result ≡ due_or (next_of c.args.store.now) n)
said g c =
    let next : c.next.result ≡ next_of c.args.store.now = c.next.ensures ∙ ap (λ (l : RecordLogView). l.next) c.log.ensures in
    subst (λ (k : ℕ). IfSome (lsn_of c.args.logged) (λ n. c.is_due.result ≡ due_or k n)) next
    (subst (λ (o : Option ℕ). IfSome o (λ n. c.is_due.result ≡ due_or c.next.result n)) c.lsn-lsn.ensures c.is_due.ensures.some)

pub returns-in_err-is_due-clause-takes : goal.returns-in_err-is_due-clause-takes
returns-in_err-is_due-clause-takes g c =
    let at = (goal.at.returns-in_err-is_due-clause-takes g c).After-is_due in
    let d = g.M.Machine.disk c.args.machine.now in
    let store : StoreView = c.args.store.now in
    let e = c.in_err-is_due.field-0.0 in
    let found = said_higher c.args.logged c.requires.logged.with_lsn (next_of store) c.is_due.result (said g at) e c.in_err-is_due.was in
    at_err (λ r. Takes g.O.Oper.meaning d d store.parts store.parts (λ m w used. follow_course m c.args.logged w used) (ending_of_follow r)) c.from_residual.result e c.from_residual.ensures.1
    (subst (λ (f : RecordErr). Takes g.O.Oper.meaning d d store.parts store.parts (λ m w used. follow_course m c.args.logged w used) (ending_of_record_error f)) (sym found.3)
    (higher_takes g.O.Oper.meaning d store.parts c.args.logged c.requires.logged.with_lsn found.0 found.1 found.2 e found.3 (g.met.M.Machine.lawful c.args.machine.now)))

pub returns-in_err-is_due-clause-in_world : goal.returns-in_err-is_due-clause-in_world
returns-in_err-is_due-clause-in_world g c p w shows =
    let at = (goal.at.returns-in_err-is_due-clause-in_world g c).After-is_due in
    let store : StoreView = c.args.store.now in
    let e = c.in_err-is_due.field-0.0 in
    let found = said_higher c.args.logged c.requires.logged.with_lsn (next_of store) c.is_due.result (said g at) e c.in_err-is_due.was in
    at_err (λ r. HasFollowCause (meaning_in g.O.Oper.meaning p) w (log_length store) c.args.logged r) c.from_residual.result e c.from_residual.ensures.1
    (higher_cause g.O.Oper.meaning (g.M.Machine.disk c.args.machine.now) store.parts c.args.logged c.requires.logged.with_lsn found.0 found.1 found.2 e found.3 p w shows)

pub returns-then-not-branch-clause-takes : goal.returns-then-not-branch-clause-takes
returns-then-not-branch-clause-takes g c =
    let at = (goal.at.returns-then-not-branch-clause-takes g c).After-is_due in
    let store : StoreView = c.args.store.now in
    let found = said_lower c.args.logged c.requires.logged.with_lsn (next_of store) c.is_due.result (said g at) (c.in_ok-is_due.was ∙ (λ i. Ok (c.if-not-branch.true i))) in
    lower_takes g.O.Oper.meaning (g.M.Machine.disk c.args.machine.now) store.parts c.args.logged c.requires.logged.with_lsn found.0 found.1 found.2 (g.met.M.Machine.lawful c.args.machine.now)

pub returns-then-not-branch-clause-in_world : goal.returns-then-not-branch-clause-in_world
returns-then-not-branch-clause-in_world g c p w shows =
    let at = (goal.at.returns-then-not-branch-clause-in_world g c).After-is_due in
    let store : StoreView = c.args.store.now in
    let found = said_lower c.args.logged c.requires.logged.with_lsn (next_of store) c.is_due.result (said g at) (c.in_ok-is_due.was ∙ (λ i. Ok (c.if-not-branch.true i))) in
    lower_cause g.O.Oper.meaning (g.M.Machine.disk c.args.machine.now) store.parts c.args.logged c.requires.logged.with_lsn found.0 found.1 found.2 p w shows
