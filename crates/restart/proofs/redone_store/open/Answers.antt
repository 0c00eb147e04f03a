use Rattle.std.proofs.Common.{subst, sym}
use Rattle.std.proofs.lemmas.Bool.{false_from_ne_true}
use Rattle.formats.specs.Objects.{bounds_of}
use Rattle.log_blocks.specs.Reading.{fails_on}
use Rattle.standing.specs.Crashed.{crashed-stable}
use Rattle.standing.specs.OneStable.{small_store}
use Rattle.running_store.specs.Calls.{IsCall, IsFailed, Never, call_twice, ending_of_read}
use Rattle.running_store.specs.Calls.Faults.{read_from_store}
use Rattle.running_store.specs.Taking.{Ending}
use Rattle.redo_pass.specs.Endings.{as_error, error_fails, store_ends, store_fails}
use Rattle.restart.specs.DamageLaws.{codes_in}
use Rattle.restart.proofs.Redone.{checkpoint_moments, is_due, opened_after, redo_moments}
use Rattle.restart.proofs.redone_store.open.Goals as goal

pub redo-requires-clause-unbroken : goal.redo-requires-clause-unbroken
redo-requires-clause-unbroken g c =
    c.requires.ready.fresh.unbroken

pub redo-requires-clause-empty : goal.redo-requires-clause-empty
redo-requires-clause-empty g c =
    c.requires.ready.empty

pub returns-in_err-redo-clause-call : goal.returns-in_err-redo-clause-call
returns-in_err-redo-clause-call g c =
    as_error (λ r. IsCall g.O.Oper.meaning (g.M.Machine.disk c.args.machine.now) (g.M.Machine.disk c.redo.new.machine) c.args.store.now c.redo.new.store 0 Never (ending_of_read r)) c.from_residual.result c.in_err-redo.field-0.0 c.from_residual.ensures.1 c.in_err-redo.ensures.call

pub returns-in_err-redo-clause-steps : goal.returns-in_err-redo-clause-steps
returns-in_err-redo-clause-steps g c told p w to =
    let codes = codes_in g.O.Oper.meaning g.met.O.Oper.bounded g.met.O.Oper.lawful p to.found.shows.objects.in_range in
    let due = is_due g.O.Oper.meaning p codes (g.M.Machine.disk c.args.machine.now) c.args.store.now c.args.plan.now w to (λ slots plan. c.a_found_world_is_due.ensures p _ _ w to.found slots plan) in
    redo_moments g.O.Oper.meaning p codes (g.M.Machine.disk c.args.machine.now) c.args.store.now c.args.plan.now w to c.args.marks (g.M.Machine.disk c.redo.new.machine) (c.redo.ensures.steps told c.requires.ready.settled p w due)

pub returns-in_err-redo-clause-damage : goal.returns-in_err-redo-clause-damage
returns-in_err-redo-clause-damage g c =
    error_fails _ _ c.from_residual.result c.in_err-redo.field-0.0 c.from_residual.ensures.1
    (fails_on _ _ _ _ c.in_err-redo.field-0.0 (λ risen. risen) (λ file place fault. record { runs = c.redo.ensures.objects.runs; fault = fault }) c.in_err-redo.ensures.cause)

pub closing_checkpoint-requires : goal.closing_checkpoint-requires
closing_checkpoint-requires g c =
    record { unbroken = false_from_ne_true _ c.in_ok-redo.ensures.call.broken.0 }

pub returns-in_err-closing_checkpoint-clause-call : goal.returns-in_err-closing_checkpoint-clause-call
returns-in_err-closing_checkpoint-clause-call g c =
    let why = c.in_err-closing_checkpoint.field-0.0 in
    as_error (λ r. IsCall g.O.Oper.meaning (g.M.Machine.disk c.args.machine.now) (g.M.Machine.disk c.closing_checkpoint.new.machine) c.args.store.now c.closing_checkpoint.new.store 0 Never (ending_of_read r)) c.from_residual-in_err-closing_checkpoint.result (read_from_store why) c.from_residual-in_err-closing_checkpoint.ensures.1
    (subst (λ (ending : Ending). IsCall g.O.Oper.meaning (g.M.Machine.disk c.args.machine.now) (g.M.Machine.disk c.closing_checkpoint.new.machine) c.args.store.now c.closing_checkpoint.new.store 0 Never ending) (store_ends (Unit {0}) (Unit {0}) why) (call_twice g.O.Oper.meaning (g.M.Machine.disk c.args.machine.now) (g.M.Machine.disk c.redo.new.machine) (g.M.Machine.disk c.closing_checkpoint.new.machine) c.args.store.now c.redo.new.store c.closing_checkpoint.new.store 0 0 Never Never _ c.in_ok-redo.ensures.call c.in_err-closing_checkpoint.ensures.call))

pub returns-in_err-closing_checkpoint-clause-steps : goal.returns-in_err-closing_checkpoint-clause-steps
returns-in_err-closing_checkpoint-clause-steps g c told p w to =
    let codes = codes_in g.O.Oper.meaning g.met.O.Oper.bounded g.met.O.Oper.lawful p to.found.shows.objects.in_range in
    let due = is_due g.O.Oper.meaning p codes (g.M.Machine.disk c.args.machine.now) c.args.store.now c.args.plan.now w to (λ slots plan. c.a_found_world_is_due.ensures p _ _ w to.found slots plan) in
    let sound = c.turns_keep.ensures.sound (bounds_of p) w c.args.marks _ (small_store p _ to.found.shows.objects) to.found.sound (crashed-stable _ w to.found.crashed to.found.sound) in
    checkpoint_moments g.O.Oper.meaning p codes (g.M.Machine.disk c.args.machine.now) c.args.store.now c.args.plan.now w to c.args.marks (g.M.Machine.disk c.redo.new.machine) c.redo.new.store c.in_ok-redo.ensures.call c.redo.ensures.objects (g.M.Machine.disk c.closing_checkpoint.new.machine) c.closing_checkpoint.new.store.parts sound (c.in_ok-redo.ensures.redone to.told c.requires.ready.settled p w due) told (c.redo.ensures.steps told c.requires.ready.settled p w due) c.in_err-closing_checkpoint.ensures.takes

pub returns-in_err-closing_checkpoint-clause-damage : goal.returns-in_err-closing_checkpoint-clause-damage
returns-in_err-closing_checkpoint-clause-damage g c =
    let call = call_twice g.O.Oper.meaning (g.M.Machine.disk c.args.machine.now) (g.M.Machine.disk c.redo.new.machine) (g.M.Machine.disk c.closing_checkpoint.new.machine) c.args.store.now c.redo.new.store c.closing_checkpoint.new.store 0 0 Never Never _ c.in_ok-redo.ensures.call c.in_err-closing_checkpoint.ensures.call in
    error_fails _ _ c.from_residual-in_err-closing_checkpoint.result (read_from_store c.in_err-closing_checkpoint.field-0.0) c.from_residual-in_err-closing_checkpoint.ensures.1
    (store_fails (Unit {0}) _ _ c.in_err-closing_checkpoint.field-0.0 (λ failed. call.fault (subst (λ (ending : Ending). IsFailed ending) (sym (store_ends (Unit {0}) (Unit {0}) c.in_err-closing_checkpoint.field-0.0)) failed)))

pub returns-clause-call : goal.returns-clause-call
returns-clause-call g c =
    call_twice g.O.Oper.meaning (g.M.Machine.disk c.args.machine.now) (g.M.Machine.disk c.redo.new.machine) (g.M.Machine.disk c.closing_checkpoint.new.machine) c.args.store.now c.redo.new.store c.closing_checkpoint.new.store 0 0 Never Never _ c.in_ok-redo.ensures.call c.in_ok-closing_checkpoint.ensures.call

pub returns-clause-follows : goal.returns-clause-follows
returns-clause-follows g c p w to =
    let codes = codes_in g.O.Oper.meaning g.met.O.Oper.bounded g.met.O.Oper.lawful p to.found.shows.objects.in_range in
    let due = is_due g.O.Oper.meaning p codes (g.M.Machine.disk c.args.machine.now) c.args.store.now c.args.plan.now w to (λ slots plan. c.a_found_world_is_due.ensures p _ _ w to.found slots plan) in
    let sound = c.turns_keep.ensures.sound (bounds_of p) w c.args.marks _ (small_store p _ to.found.shows.objects) to.found.sound (crashed-stable _ w to.found.crashed to.found.sound) in
    opened_after g.O.Oper.meaning p codes (g.M.Machine.disk c.args.machine.now) c.args.store.now c.args.plan.now w to c.args.marks (g.M.Machine.disk c.redo.new.machine) c.redo.new.store c.in_ok-redo.ensures.call c.redo.ensures.objects (g.M.Machine.disk c.closing_checkpoint.new.machine) c.closing_checkpoint.new.store.parts sound (c.in_ok-redo.ensures.redone to.told c.requires.ready.settled p w due) c.in_ok-closing_checkpoint.ensures.takes

pub returns-clause-steps : goal.returns-clause-steps
returns-clause-steps g c told p w to =
    let codes = codes_in g.O.Oper.meaning g.met.O.Oper.bounded g.met.O.Oper.lawful p to.found.shows.objects.in_range in
    let due = is_due g.O.Oper.meaning p codes (g.M.Machine.disk c.args.machine.now) c.args.store.now c.args.plan.now w to (λ slots plan. c.a_found_world_is_due.ensures p _ _ w to.found slots plan) in
    let sound = c.turns_keep.ensures.sound (bounds_of p) w c.args.marks _ (small_store p _ to.found.shows.objects) to.found.sound (crashed-stable _ w to.found.crashed to.found.sound) in
    checkpoint_moments g.O.Oper.meaning p codes (g.M.Machine.disk c.args.machine.now) c.args.store.now c.args.plan.now w to c.args.marks (g.M.Machine.disk c.redo.new.machine) c.redo.new.store c.in_ok-redo.ensures.call c.redo.ensures.objects (g.M.Machine.disk c.closing_checkpoint.new.machine) c.closing_checkpoint.new.store.parts sound (c.in_ok-redo.ensures.redone to.told c.requires.ready.settled p w due) told (c.redo.ensures.steps told c.requires.ready.settled p w due) c.in_ok-closing_checkpoint.ensures.takes
