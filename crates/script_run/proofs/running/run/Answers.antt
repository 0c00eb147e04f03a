use Rattle.std.proofs.Common.{[], arith, refl, subst}
use Rattle.disk_model.specs.Moments.{passes_twice}
use Rattle.script_lines.specs.Grammar.{lines_of}
use Rattle.shell_base.specs.Status.{IsOfUnopened, IsOfOpened}
use Rattle.shell_base.specs.HoldLaws.{rises_within}
use Rattle.shell_base.specs.OpeningLaws.{judged_open}
use Rattle.script_run.proofs.OpenLemmas.{unopened_run, backed_each, backed_from, run_on, run_unopened, runs_from_each, not_done}
use Rattle.script_run.specs.StartLaws.{beside_none, notes_begin, none_backed, printed_backed, keeps_none}
use Rattle.script_run.proofs.running.run.Goals as goal

pub run_open-status-requires : goal.run_open-status-requires
run_open-status-requires g c = record { sound = c.in-Ok.ensures.ready.0; fresh = c.requires }

pub returns-in-Ok-clause-time : goal.returns-in-Ok-clause-time
returns-in-Ok-clause-time g c =
    passes_twice (g.M.Machine.disk c.args.machine.now) (g.M.Machine.disk c.open_store.new.machine) (g.M.Machine.disk c.run_open-status.new.machine) (g.met.M.Machine.lawful c.run_open-status.new.machine)
    c.open_store.ensures.time c.run_open-status.ensures.time

pub returns-in-Ok-clause-call : goal.returns-in-Ok-clause-call
returns-in-Ok-clause-call g c =
    let old = g.M.Machine.disk c.args.machine.now in
    let mid = g.M.Machine.disk c.open_store.new.machine in
    let new = g.M.Machine.disk c.run_open-status.new.machine in
    let lawful = g.met.M.Machine.lawful c.args.machine.now in
    let ends = g.met.M.Machine.lawful c.run_open-status.new.machine in
    let few = c.standing_files_meet_their_format.ensures.few in
    let attached = c.in-Ok.ensures.ready.1 in
    record {
      script = λ p commands opens told.
          let opened = c.in-Ok.ensures.ok p commands opens in
          run_on few old mid new (lines_of (g.S.Source.left c.args.input.now)) c.run_open-status.result lawful ends opens (c.open_store.ensures.opens p commands opens) c.open_store.ensures.time c.run_open-status.ensures.time
          (runs_from_each (lines_of (g.S.Source.left c.args.input.now)) new c.run_open-status.result opened (λ holds. (c.run_open-status.ensures.answers p commands holds opened.all opened.alone told, c.run_open-status.ensures.complete p commands holds opened.all opened.alone told)))
          (c.run_open-status.ensures.store (c.open_store.ensures.time.files_told.0 opens.told) attached) c.run_open-status.ensures.status.1;
      untold =
          let (script, each, backed) = c.run_open-status.ensures.some in (
            script,
            λ p commands opens.
                let opened = c.in-Ok.ensures.ok p commands opens in
                run_on few old mid new script c.run_open-status.result lawful ends opens (c.open_store.ensures.opens p commands opens) c.open_store.ensures.time c.run_open-status.ensures.time
                (runs_from_each script new c.run_open-status.result opened (λ holds. each p commands holds opened.all opened.alone))
                (c.run_open-status.ensures.store (c.open_store.ensures.time.files_told.0 opens.told) attached) c.run_open-status.ensures.status.1,
          );
      input = λ told. (c.run_open-status.ensures.input told).all;
      ends = c.run_open-status.ensures.status.0;
      judged = λ told. judged_open c.run_open-status.result (c.in-Ok.ensures.read told) (c.run_open-status.ensures.store (c.open_store.ensures.time.files_told.0 told) attached) c.run_open-status.ensures.status.1;
      read = λ is. absurd (subst IsOfOpened is c.run_open-status.ensures.status.1);
    }

pub returns-in-Ok-clause-backup : goal.returns-in-Ok-clause-backup
returns-in-Ok-clause-backup g c = record {
  opened = λ p commands opens told first is.
      let opened = c.in-Ok.ensures.ok p commands opens in
      printed_backed c.standing_files_meet_their_format.ensures.few g.T.Machine.disk
      (backed_from g.T.Machine.disk (g.met.M.Machine.lawful c.args.machine.now) (c.open_store.ensures.opens p commands opens) c.open_store.ensures.time
      (backed_each g.T.Machine.disk opened (λ holds. c.run_open-status.ensures.backup p commands holds opened.all opened.alone opened.uncopied told) first is));
  untold =
      let (script, each, backed) = c.run_open-status.ensures.some in (
        script,
        λ p commands opens first is.
            let opened = c.in-Ok.ensures.ok p commands opens in
            printed_backed c.standing_files_meet_their_format.ensures.few g.T.Machine.disk
            (backed_from g.T.Machine.disk (g.met.M.Machine.lawful c.args.machine.now) (c.open_store.ensures.opens p commands opens) c.open_store.ensures.time
            (backed_each g.T.Machine.disk opened (λ holds. backed p commands holds opened.all opened.alone opened.uncopied) first is)),
      );
  kept = λ p commands opens tells begins.
      let opened = c.in-Ok.ensures.ok p commands opens in
      let files = c.open_store.ensures.opens p commands opens in
      let (script, each, backed) = c.run_open-status.ensures.some in
      let its = backed_each g.T.Machine.disk opened (λ holds. backed p commands holds opened.all opened.alone opened.uncopied) files.first.0 files.first.1 in
      (its.says tells).kept begins;
  unopened = λ tells broken. absurd (broken (c.in-Ok.ensures.read tells));
}

pub returns-in-Ok-clause-noted : goal.returns-in-Ok-clause-noted
returns-in-Ok-clause-noted g c = λ told. (c.run_open-status.ensures.input told).notes

pub returns-in-Ok-clause-faults : goal.returns-in-Ok-clause-faults
returns-in-Ok-clause-faults g c = record {
  disk = λ is. rises_within _ _ _ _ c.open_store.ensures.time.disk_faults (omega arith) (c.run_open-status.ensures.faults.disk is);
  output = λ is. rises_within _ _ _ _ c.open_store.ensures.time.say_faults (omega arith) (c.run_open-status.ensures.faults.output is);
}

pub returns-in-Err-clause-call : goal.returns-in-Err-clause-call
returns-in-Err-clause-call g c =
    let old = g.M.Machine.disk c.args.machine.now in
    let mid = g.M.Machine.disk c.open_store.new.machine in
    let lawful = g.met.M.Machine.lawful c.args.machine.now in
    let few = c.standing_files_meet_their_format.ensures.few in
    record {
      script = λ p commands opens told. run_unopened few old mid (lines_of (g.S.Source.left c.args.input.now)) c.in-Err.status lawful opens (c.open_store.ensures.opens p commands opens) c.open_store.ensures.time
          (c.standing_files_meet_their_format.ensures.format p _ commands opens.stands) c.in-Err.ensures.unopened;
      untold = (
        [],
        λ p commands opens. run_unopened few old mid [] c.in-Err.status lawful opens (c.open_store.ensures.opens p commands opens) c.open_store.ensures.time
            (c.standing_files_meet_their_format.ensures.format p _ commands opens.stands) c.in-Err.ensures.unopened,
      );
      input = λ told done. absurd (not_done c.in-Err.status c.in-Err.ensures.unopened.ends done);
      ends = unopened_run c.in-Err.status c.in-Err.ensures.unopened.ends;
      judged = c.in-Err.ensures.unopened.judged;
      read = c.in-Err.ensures.unopened.read;
    }

pub returns-in-Err-clause-backup : goal.returns-in-Err-clause-backup
returns-in-Err-clause-backup g c = record {
  opened = λ p commands opens told first is. printed_backed c.standing_files_meet_their_format.ensures.few g.T.Machine.disk (none_backed g.T.Machine.disk first c.open_store.ensures.time (c.open_store.ensures.opens p commands opens).quiet);
  untold = ([], λ p commands opens first is. printed_backed c.standing_files_meet_their_format.ensures.few g.T.Machine.disk (none_backed g.T.Machine.disk first c.open_store.ensures.time (c.open_store.ensures.opens p commands opens).quiet));
  kept = λ p commands opens tells begins. keeps_none (g.T.Machine.disk c.args.backup.now);
  unopened = λ tells broken. refl;
}

pub returns-in-Err-clause-beside : goal.returns-in-Err-clause-beside
returns-in-Err-clause-beside g c = beside_none (g.T.Machine.disk c.args.backup.now) c.in-Err.status (λ is. subst IsOfUnopened is c.in-Err.ensures.unopened.ends)

pub returns-in-Err-clause-noted : goal.returns-in-Err-clause-noted
returns-in-Err-clause-noted g c = λ told. record { todo = _; front = notes_begin c.requires; all = λ done. absurd (not_done c.in-Err.status c.in-Err.ensures.unopened.ends done) }

pub returns-in-Err-clause-faults : goal.returns-in-Err-clause-faults
returns-in-Err-clause-faults g c = c.in-Err.ensures.unopened.faults

pub returns-in-Err-clause-read_fault : goal.returns-in-Err-clause-read_fault
returns-in-Err-clause-read_fault g c = λ is. absurd (subst IsOfUnopened is c.in-Err.ensures.unopened.ends)

pub returns-in-Err-clause-too_long : goal.returns-in-Err-clause-too_long
returns-in-Err-clause-too_long g c = λ told is. absurd (subst IsOfUnopened is c.in-Err.ensures.unopened.ends)

pub returns-in-Ok-clause-unopened : goal.returns-in-Ok-clause-unopened
returns-in-Ok-clause-unopened g c = λ is. absurd (subst IsOfOpened is c.run_open-status.ensures.status.1)

pub returns-in-Err-clause-unopened : goal.returns-in-Err-clause-unopened
returns-in-Err-clause-unopened g c = λ is. (refl, refl)
