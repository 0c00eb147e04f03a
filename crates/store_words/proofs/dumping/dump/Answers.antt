use Rattle.std.proofs.Common.{arith, subst}
use Rattle.disk_model.specs.Moments.{passes_twice}
use Rattle.shell_base.specs.Status.{IsOfUnopened, IsOfOpened}
use Rattle.shell_base.specs.OpeningLaws.{dump_steps, dump_shows, dump_stands, judged_open}
use Rattle.shell_base.specs.HoldLaws.{rises_within}
use Rattle.shell_base.specs.KeepLaws.{keeps_settled}
use Rattle.store_words.proofs.DumpLemmas.{dump_on, dump_unopened, unopened_dump}
use Rattle.store_words.proofs.dumping.dump.Goals as goal

pub returns-in-Ok-clause-time : goal.returns-in-Ok-clause-time
returns-in-Ok-clause-time g c =
    passes_twice (g.M.Machine.disk c.args.machine.now) (g.M.Machine.disk c.open_store.new.machine) (g.M.Machine.disk c.dump_open-status.new.machine) (g.met.M.Machine.lawful c.dump_open-status.new.machine)
    c.open_store.ensures.time c.dump_open-status.ensures.time

pub returns-in-Ok-clause-call : goal.returns-in-Ok-clause-call
returns-in-Ok-clause-call g c =
    let old = g.M.Machine.disk c.args.machine.now in
    let mid = g.M.Machine.disk c.open_store.new.machine in
    let new = g.M.Machine.disk c.dump_open-status.new.machine in
    let attached = c.in-Ok.ensures.ready.1 in
    let settled = keeps_settled mid new (g.met.M.Machine.lawful c.open_store.new.machine) (g.met.M.Machine.lawful c.dump_open-status.new.machine) c.dump_open-status.ensures.time c.dump_open-status.ensures.keeps c.in-Ok.ensures.settled in
    record {
      table = λ p commands opens.
          let opened = c.in-Ok.ensures.ok p commands opens in
          let files = c.open_store.ensures.opens p commands opens in
          let holds = (opened.shows files.first.0 files.first.1).0 in
          dump_on p old mid new commands c.dump_open-status.result
          (λ first is. (dump_steps p old mid new commands _ opened files c.dump_open-status.ensures.keeps first is c.in-Ok.ensures.settled (λ telling. c.open_store.ensures.time.moments_told.0 telling), λ done. dump_shows p old mid new commands _ opened files c.dump_open-status.ensures.keeps first is (c.open_store.ensures.time.files_told.0 opens.told)))
          (g.met.M.Machine.lawful c.args.machine.now) opens files.images (λ telling. c.open_store.ensures.time.moments_told.0 telling) files.quiet
          (c.dump_open-status.ensures.images p commands holds opened.all) (c.dump_open-status.ensures.said p commands holds) (c.dump_open-status.ensures.all p commands holds)
          (c.dump_open-status.ensures.store (c.open_store.ensures.time.files_told.0 opens.told) attached) c.dump_open-status.ensures.found settled
          (dump_stands p mid new _ commands holds opened.all c.dump_open-status.ensures.keeps settled);
      settled = λ done. settled;
      ends = c.dump_open-status.ensures.status;
      judged = λ told. judged_open c.dump_open-status.result (c.in-Ok.ensures.read told) (c.dump_open-status.ensures.store (c.open_store.ensures.time.files_told.0 told) attached) c.dump_open-status.ensures.found;
      read = λ is. absurd (subst IsOfOpened is c.dump_open-status.ensures.found);
    }

pub returns-in-Ok-clause-faults : goal.returns-in-Ok-clause-faults
returns-in-Ok-clause-faults g c = record {
  disk = λ is. rises_within _ _ _ _ c.open_store.ensures.time.disk_faults (omega arith) (c.dump_open-status.ensures.disk_fault is);
  output = λ is. rises_within _ _ _ _ c.open_store.ensures.time.say_faults (omega arith) (c.dump_open-status.ensures.say_fault is);
}

pub returns-in-Err-clause-call : goal.returns-in-Err-clause-call
returns-in-Err-clause-call g c =
    let old = g.M.Machine.disk c.args.machine.now in
    let mid = g.M.Machine.disk c.open_store.new.machine in
    let unopened = c.in-Err.ensures.unopened in
    record {
      table = λ p commands opens.
          let files = c.open_store.ensures.opens p commands opens in
          let image = c.standing_files_meet_their_format.ensures.format p _ commands opens.stands in
          dump_unopened p old mid commands c.in-Err.status (g.met.M.Machine.lawful c.args.machine.now) opens files files.quiet unopened.ends ((unopened.judged opens.told).store image) (unopened.quiet opens.told image);
      settled = λ done. absurd (subst IsOfUnopened done unopened.ends);
      ends = unopened_dump c.in-Err.status unopened.ends;
      judged = unopened.judged;
      read = unopened.read;
    }

pub returns-in-Err-clause-faults : goal.returns-in-Err-clause-faults
returns-in-Err-clause-faults g c = c.in-Err.ensures.unopened.faults
