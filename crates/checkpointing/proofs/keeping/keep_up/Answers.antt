use Rattle.disk_model.specs.Disk.{Disk}
use Rattle.running_store.specs.Calls.Laws.{logging_twice}
use Rattle.running_store.specs.Calls.{IsCall, Never, ending_of_read}
use Rattle.running_store.specs.StoreView.{logged_since}
use Rattle.running_store.specs.Taking.{Takes}
use Rattle.running_store.specs.Taking.Ending.{Done}
use Rattle.cache_manager.specs.Endings.{at_err}
use Rattle.checkpointing.specs.Courses.{upkeep_course}
use Rattle.checkpointing.proofs.Kept.{both_told, trim_fails, turn_follows}
use Rattle.checkpointing.proofs.keeping.keep_up.Given.{Over}
use Rattle.checkpointing.proofs.keeping.keep_up.Goals.{After-trim_if_due, After-turn_if_due}
use Rattle.checkpointing.proofs.keeping.keep_up.Goals as goal

module _ (g : Over) (c : After-trim_if_due g) where
  abbrev old : Disk
  old = g.M.Machine.disk c.args.machine.now

  abbrev mid : Disk
  mid = g.M.Machine.disk c.trim_if_due.new.machine

abbrev new : (g : Over) → After-turn_if_due g → Disk
new g c = g.M.Machine.disk c.turn_if_due.new.machine

pub returns-in_err-trim-clause-call : goal.returns-in_err-trim-clause-call
returns-in_err-trim-clause-call g c =
    let at = (goal.at.returns-in_err-trim-clause-call g c).After-trim_if_due in
    let it = c.args.store.now in
    let here = c.trim_if_due.new.store in
    at_err (λ r. IsCall g.O.Oper.meaning (old g at) (mid g at) it here (logged_since it here) Never (ending_of_read r)) c.from_residual.result c.in_err-trim.field-0.0 c.from_residual.ensures.1 c.in_err-trim.ensures.call

pub returns-in_err-trim-clause-takes : goal.returns-in_err-trim-clause-takes
returns-in_err-trim-clause-takes g c =
    let at = (goal.at.returns-in_err-trim-clause-takes g c).After-trim_if_due in
    let it = c.args.store.now in
    let here = c.trim_if_due.new.store in
    let epoch = it.parts.log.log.header.epoch in
    at_err (λ r. Takes g.O.Oper.meaning (old g at) (mid g at) it.parts here.parts (λ m w used. upkeep_course m c.args.due epoch c.args.copied w used) (ending_of_read r)) c.from_residual.result c.in_err-trim.field-0.0 c.from_residual.ensures.1
    (trim_fails g.O.Oper.meaning c.args.due epoch c.args.copied (old g at) (mid g at) it here c.in_err-trim.field-0.0 c.in_err-trim.ensures.takes)

pub returns-in_err-turn-clause-call : goal.returns-in_err-turn-clause-call
returns-in_err-turn-clause-call g c =
    let at = goal.at.returns-in_err-turn-clause-call g c in
    let it = c.args.store.now in
    let after = c.turn_if_due.new.store in
    at_err (λ r. IsCall g.O.Oper.meaning (old g at.After-trim_if_due) (new g at.After-turn_if_due) it after (logged_since it after) Never (ending_of_read r)) c.from_residual-in_err-turn.result c.in_err-turn.field-0.0 c.from_residual-in_err-turn.ensures.1
    (logging_twice g.O.Oper.meaning (old g at.After-trim_if_due) (mid g at.After-trim_if_due) (new g at.After-turn_if_due) it c.trim_if_due.new.store after Never _ c.in_ok-trim.ensures.call c.in_err-turn.ensures.call)

pub returns-in_err-turn-clause-takes : goal.returns-in_err-turn-clause-takes
returns-in_err-turn-clause-takes g c =
    let at = goal.at.returns-in_err-turn-clause-takes g c in
    let it = c.args.store.now in
    let after = c.turn_if_due.new.store in
    let epoch = it.parts.log.log.header.epoch in
    at_err (λ r. Takes g.O.Oper.meaning (old g at.After-trim_if_due) (new g at.After-turn_if_due) it.parts after.parts (λ m w used. upkeep_course m c.args.due epoch c.args.copied w used) (ending_of_read r)) c.from_residual-in_err-turn.result c.in_err-turn.field-0.0
    c.from_residual-in_err-turn.ensures.1
    (turn_follows g.O.Oper.meaning c.args.due epoch c.args.copied (old g at.After-trim_if_due) (mid g at.After-trim_if_due) it c.trim_if_due.new.store (new g at.After-turn_if_due) after c.in_ok-trim.ensures.takes _ c.trim_if_due.ensures.call.quiet c.in_err-turn.ensures.takes)

pub returns-clause-call : goal.returns-clause-call
returns-clause-call g c =
    let at = goal.at.returns-clause-call g c in
    logging_twice g.O.Oper.meaning (old g at.After-trim_if_due) (mid g at.After-trim_if_due) (new g at.After-turn_if_due) c.args.store.now c.trim_if_due.new.store c.turn_if_due.new.store Never Done c.in_ok-trim.ensures.call c.in_ok-turn.ensures.call

pub returns-clause-takes : goal.returns-clause-takes
returns-clause-takes g c =
    let at = goal.at.returns-clause-takes g c in
    let it = c.args.store.now in
    turn_follows g.O.Oper.meaning c.args.due it.parts.log.log.header.epoch c.args.copied (old g at.After-trim_if_due) (mid g at.After-trim_if_due) it c.trim_if_due.new.store (new g at.After-turn_if_due) c.turn_if_due.new.store c.in_ok-trim.ensures.takes Done
    c.trim_if_due.ensures.call.quiet c.in_ok-turn.ensures.takes

pub returns-clause-told : goal.returns-clause-told
returns-clause-told g c =
    let at = goal.at.returns-clause-told g c in
    let it = c.args.store.now in
    both_told g.O.Oper.meaning c.args.due it.parts.log.log.header.epoch c.args.copied (old g at.After-trim_if_due) (mid g at.After-trim_if_due) it c.trim_if_due.new.store (new g at.After-turn_if_due) c.turn_if_due.new.store c.in_ok-trim.ensures.takes
    c.in_ok-trim.trim c.in_ok-turn.turn c.in_ok-trim.ensures.told c.in_ok-turn.ensures.told
