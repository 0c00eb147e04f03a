use Rattle.std.proofs.Common.{arith, [], refl, subst}
use Rattle.disk_model.specs.Moments.{passes_twice}
use Rattle.shell_base.specs.Status.{IsOfUnopened, IsOfOpened}
use Rattle.shell_base.specs.HoldLaws.{rises_within}
use Rattle.shell_base.specs.OpeningLaws.{judged_open}
use Rattle.standby_words.proofs.FollowingLemmas.{follow_on, follow_unopened, unopened_follow}
use Rattle.standby_words.proofs.following.follow.Goals as goal

pub follow_open-status-requires : goal.follow_open-status-requires
follow_open-status-requires g c = record { unbroken = c.in-Ok.ensures.ready.0; fine = c.in-Ok.ensures.ready.1; fresh = c.in-Ok.ensures.ready.2 }

pub returns-in-Ok-clause-time : goal.returns-in-Ok-clause-time
returns-in-Ok-clause-time g c =
    passes_twice (g.M.Machine.disk c.args.machine.now) (g.M.Machine.disk c.attach_store.new.machine) (g.M.Machine.disk c.follow_open-status.new.machine) (g.met.M.Machine.lawful c.follow_open-status.new.machine)
    c.attach_store.ensures.time c.follow_open-status.ensures.time

pub returns-in-Ok-clause-call : goal.returns-in-Ok-clause-call
returns-in-Ok-clause-call g c =
    let followed = c.follow_open-status.ensures in
    let before = c.attach_store.ensures.time in
    record {
      bytes = followed.followed.bytes;
      taken = followed.followed.taken;
      few = followed.followed.few;
      stream = λ p commands opens. follow_on (g.met.M.Machine.lawful c.args.machine.now) opens (c.attach_store.ensures.opens p commands opens) (g.met.M.Machine.lawful c.follow_open-status.new.machine) before followed.time
          (c.attach_store.ensures.first p commands opens) (c.in-Ok.ensures.begins p commands opens) followed.followed (followed.store (before.files_told.0 opens.told) c.in-Ok.ensures.attached) followed.found;
      ends = followed.status;
      judged = λ told. judged_open c.follow_open-status.result (c.in-Ok.ensures.read told) (followed.store (before.files_told.0 told) c.in-Ok.ensures.attached) followed.found;
      read = λ is. absurd (subst IsOfOpened is followed.found);
    }

pub returns-in-Ok-clause-faults : goal.returns-in-Ok-clause-faults
returns-in-Ok-clause-faults g c = record {
  disk = λ is. rises_within _ _ _ _ c.attach_store.ensures.time.disk_faults (omega arith) (c.follow_open-status.ensures.faults.disk is);
  output = λ is. rises_within _ _ _ _ c.attach_store.ensures.time.say_faults (omega arith) (c.follow_open-status.ensures.faults.output is);
}

pub returns-in-Err-clause-call : goal.returns-in-Err-clause-call
returns-in-Err-clause-call g c =
    let unopened = c.in-Err.ensures.unopened in
    record {
      bytes = [];
      taken = λ told. refl;
      few = omega arith;
      stream = λ p commands opens.
          let image = c.standing_files_meet_their_format.ensures.format p _ commands opens.stands in
          follow_unopened (g.met.M.Machine.lawful c.args.machine.now) opens (c.attach_store.ensures.opens p commands opens) (c.attach_store.ensures.first p commands opens) unopened.ends ((unopened.judged opens.told).store image) (unopened.quiet opens.told image);
      ends = unopened_follow c.in-Err.status unopened.ends;
      judged = unopened.judged;
      read = unopened.read;
    }

pub returns-in-Err-clause-faults : goal.returns-in-Err-clause-faults
returns-in-Err-clause-faults g c = c.in-Err.ensures.unopened.faults

pub returns-in-Err-clause-read_fault : goal.returns-in-Err-clause-read_fault
returns-in-Err-clause-read_fault g c = λ is. absurd (subst IsOfUnopened is c.in-Err.ensures.unopened.ends)

pub returns-in-Err-clause-too_long : goal.returns-in-Err-clause-too_long
returns-in-Err-clause-too_long g c = λ told is. absurd (subst IsOfUnopened is c.in-Err.ensures.unopened.ends)

pub returns-in-Ok-clause-unopened : goal.returns-in-Ok-clause-unopened
returns-in-Ok-clause-unopened g c = λ is. absurd (subst IsOfOpened is c.follow_open-status.ensures.found)

pub returns-in-Err-clause-unopened : goal.returns-in-Err-clause-unopened
returns-in-Err-clause-unopened g c = λ is. refl
