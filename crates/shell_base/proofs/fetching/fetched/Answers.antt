use Rattle.std.proofs.Common.{⊎_elim}
use Rattle.shell_base.specs.FetchLaws.{fetch_cause, fetch_undamaged, fetched_kept, is_none, is_one, not_a_fault}
use Rattle.shell_base.specs.HoldLaws.{in_engine}
use Rattle.shell_base.proofs.fetching.fetched.Goals as goal

pub returns-clause-kept : goal.returns-clause-kept
returns-clause-kept g c = c.fetch.ensures.fetched.call.kept

pub returns-clause-holds : goal.returns-clause-holds
returns-clause-holds g c = λ p commands holds.
    fetched_kept holds (⊎_elim (λ fault. cc fault) (λ shows. shows) (c.in_ok-there.ensures.fetched.shows p holds.world holds.shows)) c.in_ok-there.ensures.fetched.call.log c.in_ok-there.ensures.fetched.call.identities c.in_ok-there.ensures.fetched.call.copied (c.engine_stands.ensures p commands)

pub returns-clause-value : goal.returns-clause-value
returns-clause-value g c = λ p commands holds there. (is_one p holds.shows.shows.store.params c.in_ok-there.ensures.there there, c.in_ok-there.ensures.value p commands (in_engine holds) there)

pub returns-clause-none : goal.returns-clause-none
returns-clause-none g c = λ p commands holds none. is_none p holds.shows.shows.store.params c.in_ok-there.ensures.there none

pub returns-clause-attached : goal.returns-clause-attached
returns-clause-attached g c = c.fetch.ensures.fetched.call.attached

pub returns-clause-unbroken : goal.returns-clause-unbroken
returns-clause-unbroken g c = not_a_fault c.fetch.new.self.broken (λ e. cc (c.in_ok-there.ensures.fetched.call.broken.0 e))

pub returns-in_err-there-clause-cause : goal.returns-in_err-there-clause-cause
returns-in_err-there-clause-cause g c = fetch_cause (g.M.Machine.disk c.args.machine.now) (g.M.Machine.disk c.fetch.new.machine) c.args.engine.now c.args.object c.from_residual.result c.in_err-there.field-0.0 c.from_residual.ensures.1 c.in_err-there.ensures.fetched.cause

pub returns-in_err-there-clause-undamaged : goal.returns-in_err-there-clause-undamaged
returns-in_err-there-clause-undamaged g c = fetch_undamaged (g.M.Machine.disk c.args.machine.now) (g.M.Machine.disk c.fetch.new.machine) c.args.engine.now c.args.object c.from_residual.result c.in_err-there.field-0.0 c.from_residual.ensures.1 c.fetch.ensures.fetched.call.kept c.in_err-there.ensures.fetched.cause
