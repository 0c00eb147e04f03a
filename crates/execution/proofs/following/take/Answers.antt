use Rattle.std.proofs.Common.{◌≡◌, ◌∙◌, ap, sym, subst, ℕ, List, Some}
use Rattle.std.specs.Prelude.{Err, Ok, true}
use Rattle.formats.specs.Records.{lsn_of}
use Rattle.formats.specs.declared.record.Record.{Record}
use Rattle.formats.specs.declared.record.Record.TheVariants.{Identity as Logged_identity}
use Rattle.explain_core.specs.History.Member.{Command, Identity}
use Rattle.running_store.specs.Parts.{meaning_in}
use Rattle.running_store.specs.StoreView.{StoreView, log_length, next_of}
use Rattle.running_store.specs.Taking.{Ending, Takes}
use Rattle.execution.specs.Following.{HasFollowCause, ending_of_follow, ending_of_record_error, follow_course}
use Rattle.cache_manager.specs.Endings.{at_err}
use Rattle.execution.proofs.Due.{record_refused, record_taken, record_takes}
use Rattle.execution.proofs.following.take.Given.{Over}
use Rattle.execution.proofs.following.take.Goals.{In-Command, In-Identity}
use Rattle.execution.proofs.following.take.Goals as goal

-- the record has the next LSN
next_lsn : {O : Type 0} (r : Record O) (lsn next : ℕ) → lsn_of r ≡ Some lsn → lsn_of r ≡ Some next → lsn ≡ next
next_lsn r lsn next own due = let same : Some lsn ≡ Some next = sym own ∙ due in cc same

command_next : (g : Over) (c : In-Command g) → c.in-Command.field-0 ≡ next_of c.args.store.now
command_next g c = next_lsn c.args.logged c.in-Command.field-0 (next_of c.args.store.now) (ap (λ (r : Record g.row.O.Denot). lsn_of r) c.in-Command.is) c.requires.due

pub returns-in_err-follow_command-in-Command-clause-takes : goal.returns-in_err-follow_command-in-Command-clause-takes
returns-in_err-follow_command-in-Command-clause-takes g c =
    let next = command_next g (goal.at.returns-in_err-follow_command-in-Command-clause-takes g c).In-Command in
    let old = g.M.Machine.disk c.args.machine.now in
    let new = g.M.Machine.disk c.follow_command.new.machine in
    let before : StoreView = c.args.store.now in
    let after : StoreView = c.follow_command.new.store in
    let e = c.in_err-follow_command-in-Command.field-0.0 in
    at_err (λ r. Takes g.O.Oper.meaning old new before.parts after.parts (λ m w used. follow_course m c.args.logged w used) (ending_of_follow r)) c.from_residual.result e c.from_residual.ensures.1
    (subst (λ (r : Record g.row.O.Denot). Takes g.O.Oper.meaning old new before.parts after.parts (λ m w used. follow_course m r w used) (ending_of_record_error e)) (sym c.in-Command.is)
    (record_takes g.O.Oper.meaning old new before.parts c.in-Command.field-0 next (Command c.in-Command.op) after.parts (ending_of_record_error e) c.in_err-follow_command-in-Command.ensures.takes))

pub returns-in_err-follow_command-in-Command-clause-in_world : goal.returns-in_err-follow_command-in-Command-clause-in_world
returns-in_err-follow_command-in-Command-clause-in_world g c p w shows =
    let next = command_next g (goal.at.returns-in_err-follow_command-in-Command-clause-in_world g c).In-Command in
    let old = g.M.Machine.disk c.args.machine.now in
    let new = g.M.Machine.disk c.follow_command.new.machine in
    let before : StoreView = c.args.store.now in
    let e = c.in_err-follow_command-in-Command.field-0.0 in
    at_err (λ r. HasFollowCause (meaning_in g.O.Oper.meaning p) w (log_length before) c.args.logged r) c.from_residual.result e c.from_residual.ensures.1
    (subst (λ (r : Record g.row.O.Denot). HasFollowCause (meaning_in g.O.Oper.meaning p) w (log_length before) r (Err e)) (sym c.in-Command.is)
    (record_refused g.O.Oper.meaning old new before.parts c.in-Command.field-0 next (Command c.in-Command.op) p w shows e (c.in_err-follow_command-in-Command.ensures.in_world p w shows)))

pub returns-in-Command-clause-takes : goal.returns-in-Command-clause-takes
returns-in-Command-clause-takes g c =
    let next = command_next g (goal.at.returns-in-Command-clause-takes g c).In-Command in
    let old = g.M.Machine.disk c.args.machine.now in
    let new = g.M.Machine.disk c.follow_command.new.machine in
    let before : StoreView = c.args.store.now in
    let after : StoreView = c.follow_command.new.store in
    subst (λ (r : Record g.row.O.Denot). Takes g.O.Oper.meaning old new before.parts after.parts (λ m w used. follow_course m r w used) Ending.Done) (sym c.in-Command.is)
    (record_takes g.O.Oper.meaning old new before.parts c.in-Command.field-0 next (Command c.in-Command.op) after.parts Ending.Done c.in_ok-follow_command-in-Command.ensures.takes)

pub returns-in-Command-clause-in_world : goal.returns-in-Command-clause-in_world
returns-in-Command-clause-in_world g c p w shows =
    let next = command_next g (goal.at.returns-in-Command-clause-in_world g c).In-Command in
    let old = g.M.Machine.disk c.args.machine.now in
    let new = g.M.Machine.disk c.follow_command.new.machine in
    let before : StoreView = c.args.store.now in
    subst (λ (r : Record g.row.O.Denot). HasFollowCause (meaning_in g.O.Oper.meaning p) w (log_length before) r (Ok true)) (sym c.in-Command.is)
    (record_taken g.O.Oper.meaning old new before.parts c.in-Command.field-0 next (Command c.in-Command.op) p w shows (c.in_ok-follow_command-in-Command.ensures.in_world p w shows))

identity_next : (g : Over) (c : In-Identity g) → c.in-Identity.field-0 ≡ next_of c.args.store.now
identity_next g c = next_lsn c.args.logged c.in-Identity.field-0 (next_of c.args.store.now) (ap (λ (r : Record g.row.O.Denot). lsn_of r) c.in-Identity.is) c.requires.due

pub returns-in_err-follow_identity-in-Identity-clause-takes : goal.returns-in_err-follow_identity-in-Identity-clause-takes
returns-in_err-follow_identity-in-Identity-clause-takes g c =
    let next = identity_next g (goal.at.returns-in_err-follow_identity-in-Identity-clause-takes g c).In-Identity in
    let old = g.M.Machine.disk c.args.machine.now in
    let new = g.M.Machine.disk c.follow_identity.new.machine in
    let before : StoreView = c.args.store.now in
    let after : StoreView = c.follow_identity.new.store in
    let e = c.in_err-follow_identity-in-Identity.field-0.0 in
    let is = c.in-Identity.is ∙ ap (λ (v : List ℕ). Logged_identity c.in-Identity.field-0 c.in-Identity.object v) (sym c.as_slice.ensures) in
    at_err (λ r. Takes g.O.Oper.meaning old new before.parts after.parts (λ m w used. follow_course m c.args.logged w used) (ending_of_follow r)) c.from_residual-in_err-follow_identity-in-Identity.result e
    c.from_residual-in_err-follow_identity-in-Identity.ensures.1
    (subst (λ (r : Record g.row.O.Denot). Takes g.O.Oper.meaning old new before.parts after.parts (λ m w used. follow_course m r w used) (ending_of_record_error e)) (sym is)
    (record_takes g.O.Oper.meaning old new before.parts c.in-Identity.field-0 next (Identity c.in-Identity.object c.as_slice.result.now) after.parts (ending_of_record_error e) c.in_err-follow_identity-in-Identity.ensures.takes))

pub returns-in_err-follow_identity-in-Identity-clause-in_world : goal.returns-in_err-follow_identity-in-Identity-clause-in_world
returns-in_err-follow_identity-in-Identity-clause-in_world g c p w shows =
    let next = identity_next g (goal.at.returns-in_err-follow_identity-in-Identity-clause-in_world g c).In-Identity in
    let old = g.M.Machine.disk c.args.machine.now in
    let new = g.M.Machine.disk c.follow_identity.new.machine in
    let before : StoreView = c.args.store.now in
    let e = c.in_err-follow_identity-in-Identity.field-0.0 in
    let is = c.in-Identity.is ∙ ap (λ (v : List ℕ). Logged_identity c.in-Identity.field-0 c.in-Identity.object v) (sym c.as_slice.ensures) in
    at_err (λ r. HasFollowCause (meaning_in g.O.Oper.meaning p) w (log_length before) c.args.logged r) c.from_residual-in_err-follow_identity-in-Identity.result e c.from_residual-in_err-follow_identity-in-Identity.ensures.1
    (subst (λ (r : Record g.row.O.Denot). HasFollowCause (meaning_in g.O.Oper.meaning p) w (log_length before) r (Err e)) (sym is)
    (record_refused g.O.Oper.meaning old new before.parts c.in-Identity.field-0 next (Identity c.in-Identity.object c.as_slice.result.now) p w shows e (c.in_err-follow_identity-in-Identity.ensures.in_world p w shows)))

pub returns-in-Identity-clause-takes : goal.returns-in-Identity-clause-takes
returns-in-Identity-clause-takes g c =
    let next = identity_next g (goal.at.returns-in-Identity-clause-takes g c).In-Identity in
    let old = g.M.Machine.disk c.args.machine.now in
    let new = g.M.Machine.disk c.follow_identity.new.machine in
    let before : StoreView = c.args.store.now in
    let after : StoreView = c.follow_identity.new.store in
    let is = c.in-Identity.is ∙ ap (λ (v : List ℕ). Logged_identity c.in-Identity.field-0 c.in-Identity.object v) (sym c.as_slice.ensures) in
    subst (λ (r : Record g.row.O.Denot). Takes g.O.Oper.meaning old new before.parts after.parts (λ m w used. follow_course m r w used) Ending.Done) (sym is)
    (record_takes g.O.Oper.meaning old new before.parts c.in-Identity.field-0 next (Identity c.in-Identity.object c.as_slice.result.now) after.parts Ending.Done c.in_ok-follow_identity-in-Identity.ensures.takes)

pub returns-in-Identity-clause-in_world : goal.returns-in-Identity-clause-in_world
returns-in-Identity-clause-in_world g c p w shows =
    let next = identity_next g (goal.at.returns-in-Identity-clause-in_world g c).In-Identity in
    let old = g.M.Machine.disk c.args.machine.now in
    let new = g.M.Machine.disk c.follow_identity.new.machine in
    let before : StoreView = c.args.store.now in
    let is = c.in-Identity.is ∙ ap (λ (v : List ℕ). Logged_identity c.in-Identity.field-0 c.in-Identity.object v) (sym c.as_slice.ensures) in
    subst (λ (r : Record g.row.O.Denot). HasFollowCause (meaning_in g.O.Oper.meaning p) w (log_length before) r (Ok true)) (sym is)
    (record_taken g.O.Oper.meaning old new before.parts c.in-Identity.field-0 next (Identity c.in-Identity.object c.as_slice.result.now) p w shows (c.in_ok-follow_identity-in-Identity.ensures.in_world p w shows))
