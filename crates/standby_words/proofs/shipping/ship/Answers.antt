use Rattle.std.proofs.Common.{arith, subst}
use Rattle.disk_model.specs.Moments.{passes_twice}
use Rattle.shell_base.specs.Status.{IsOfOpened}
use Rattle.shell_base.specs.HoldLaws.{rises_within}
use Rattle.shell_base.specs.OpeningLaws.{judged_open}
use Rattle.standby_words.proofs.ShippingLemmas.{ship_on, ship_unopened, unopened_ship}
use Rattle.standby_words.proofs.shipping.ship.Goals as goal

pub returns-in-Ok-clause-time : goal.returns-in-Ok-clause-time
returns-in-Ok-clause-time g c =
    passes_twice (g.M.Machine.disk c.args.machine.now) (g.M.Machine.disk c.open_store.new.machine) (g.M.Machine.disk c.ship_open-status.new.machine) (g.met.M.Machine.lawful c.ship_open-status.new.machine)
    c.open_store.ensures.time c.ship_open-status.ensures.time

pub returns-in-Ok-clause-call : goal.returns-in-Ok-clause-call
returns-in-Ok-clause-call g c =
    let old = g.M.Machine.disk c.args.machine.now in
    let mid = g.M.Machine.disk c.open_store.new.machine in
    let new = g.M.Machine.disk c.ship_open-status.new.machine in
    let attached = c.in-Ok.ensures.ready.1 in
    let shipped = c.ship_open-status.ensures in
    record {
      log = λ p commands opens.
          let opened = c.in-Ok.ensures.ok p commands opens in
          let files = c.open_store.ensures.opens p commands opens in
          let holds = (opened.shows files.first.0 files.first.1).0 in
          ship_on p commands old c.args.from mid new _ c.ship_open-status.result (g.met.M.Machine.lawful c.args.machine.now) (g.met.M.Machine.lawful c.open_store.new.machine) (g.met.M.Machine.lawful c.ship_open-status.new.machine)
          c.open_store.ensures.time shipped.time opens files opened holds c.in-Ok.ensures.settled shipped.keeps (shipped.done p commands holds) (shipped.gone p commands holds) (shipped.said p commands holds) (shipped.images p commands holds) (shipped.store (c.open_store.ensures.time.files_told.0 opens.told) attached) shipped.found;
      ends = shipped.status;
      judged = λ told. judged_open c.ship_open-status.result (c.in-Ok.ensures.read told) (shipped.store (c.open_store.ensures.time.files_told.0 told) attached) shipped.found;
      read = λ is. absurd (subst IsOfOpened is shipped.found);
    }

pub returns-in-Ok-clause-faults : goal.returns-in-Ok-clause-faults
returns-in-Ok-clause-faults g c = record {
  disk = λ is. rises_within _ _ _ _ c.open_store.ensures.time.disk_faults (omega arith) (c.ship_open-status.ensures.faults.disk is);
  output = λ is. rises_within _ _ _ _ c.open_store.ensures.time.say_faults (omega arith) (c.ship_open-status.ensures.faults.output is);
}

pub returns-in-Err-clause-call : goal.returns-in-Err-clause-call
returns-in-Err-clause-call g c =
    let old = g.M.Machine.disk c.args.machine.now in
    let mid = g.M.Machine.disk c.open_store.new.machine in
    let unopened = c.in-Err.ensures.unopened in
    record {
      log = λ p commands opens.
          let files = c.open_store.ensures.opens p commands opens in
          let image = c.standing_files_meet_their_format.ensures.format p _ commands opens.stands in
          ship_unopened p commands old c.args.from mid c.in-Err.status (g.met.M.Machine.lawful c.args.machine.now) opens files unopened.ends ((unopened.judged opens.told).store image) (unopened.quiet opens.told image);
      ends = unopened_ship c.in-Err.status unopened.ends;
      judged = unopened.judged;
      read = unopened.read;
    }

pub returns-in-Err-clause-faults : goal.returns-in-Err-clause-faults
returns-in-Err-clause-faults g c = c.in-Err.ensures.unopened.faults
