use Rattle.std.proofs.Common.{⊎_elim, inl, inr, subst, sym, refl, map, string_bytes}
use Rattle.disk_model.specs.Moments.{stays_here}
use Rattle.command_words.specs.Refusals.{IsRefusal}
use Rattle.shell_base.specs.declared.status.Status.TheVariants.{Memory}
use Rattle.shell_base.specs.KeepLaws.{keeps_once}
use Rattle.redo_shell.proofs.CallLemmas.{call_adds_nothing, backup_called, backup_idle, backup_unread, call_for, call_caused, call_exactly, call_goes_on, unread_goes_on}
use Rattle.redo_shell.specs.Causes.{IsUnread}
use Rattle.redo_shell.proofs.ExactLemmas.{IsOfUsage, usage_ends}
use Rattle.redo_shell.proofs.BesideLemmas.{noted_called, none_called}
use Rattle.redo_shell.proofs.program.top.Goals as goal

pub serve-requires : goal.serve-requires
serve-requires g c = record { allowed = c.in-Ok.ensures.ok.named.allowed; fresh = c.new.ensures }

pub returns-in-Ok-clause-call : goal.returns-in-Ok-clause-call
returns-in-Ok-clause-call g c = λ asked asks. inl (call_for _ _ _ _ _ _ _ (c.words_ask_one_thing.ensures (map string_bytes c.args.words.now) c.in-Ok.asked asked c.in-Ok.ensures.ok asks) c.serve.ensures.call)

pub returns-in-Ok-clause-backup : goal.returns-in-Ok-clause-backup
returns-in-Ok-clause-backup g c = backup_called _ g.T.Machine.disk _ _ _ _ _ _ c.in-Ok.asked c.in-Ok.ensures.ok (λ other asks. c.words_ask_one_thing.ensures (map string_bytes c.args.words.now) c.in-Ok.asked other c.in-Ok.ensures.ok asks) c.serve.ensures.beside c.serve.ensures.backup

pub returns-in-Ok-clause-noted : goal.returns-in-Ok-clause-noted
returns-in-Ok-clause-noted g c = noted_called _ _ _ _ c.in-Ok.asked c.in-Ok.ensures.ok (λ other asks. c.words_ask_one_thing.ensures (map string_bytes c.args.words.now) c.in-Ok.asked other c.in-Ok.ensures.ok asks) c.serve.ensures.noted

pub returns-in-Ok-clause-cause : goal.returns-in-Ok-clause-cause
returns-in-Ok-clause-cause g c = call_caused c.args.budget c.in-Ok.asked c.serve.ensures.call c.serve.ensures.faults c.serve.ensures.read_fault c.serve.ensures.beside c.serve.ensures.too_long c.in-Ok.ensures.ok

pub returns-in-Ok-clause-exactly : goal.returns-in-Ok-clause-exactly
returns-in-Ok-clause-exactly g c = call_exactly c.args.budget c.in-Ok.asked c.serve.ensures.call c.serve.ensures.faults c.serve.ensures.read_fault c.serve.ensures.beside c.serve.ensures.too_long
    c.in-Ok.ensures.ok (λ other asks. c.words_ask_one_thing.ensures (map string_bytes c.args.words.now) c.in-Ok.asked other c.in-Ok.ensures.ok asks)
    (record { place = c.one_damage.ensures.place (g.M.Machine.disk c.args.machine.now).reads; none = c.one_damage.ensures.none (g.M.Machine.disk c.args.machine.now).reads })
    (λ p commands opens. c.standing_files_meet_their_format.ensures.format p _ commands opens.stands)

pub returns-in-Ok-clause-session : goal.returns-in-Ok-clause-session
returns-in-Ok-clause-session g c = call_goes_on g.M.Machine.disk c.args.machine.now c.serve.new.machine (g.met.M.Machine.lawful c.args.machine.now) c.serve.ensures.time
    (λ other asks. call_for _ _ _ _ _ _ _ (c.words_ask_one_thing.ensures (map string_bytes c.args.words.now) c.in-Ok.asked other c.in-Ok.ensures.ok asks) c.serve.ensures.call)

pub returns-in-Err-Refused-clause-call : goal.returns-in-Err-Refused-clause-call
returns-in-Err-Refused-clause-call g c = λ asked asks. absurd (c.in-Err-Refused.ensures.refused (subst IsRefusal (sym c.in-Err-Refused.field-0-is) tt) asked asks)

pub returns-in-Err-Refused-clause-backup : goal.returns-in-Err-Refused-clause-backup
returns-in-Err-Refused-clause-backup g c = backup_idle g.T.Machine.disk c.args.backup.now (λ tend asks. c.in-Err-Refused.ensures.refused (subst IsRefusal (sym c.in-Err-Refused.field-0-is) tt) _ asks)

pub returns-in-Err-Refused-clause-noted : goal.returns-in-Err-Refused-clause-noted
returns-in-Err-Refused-clause-noted g c = record { run = λ tend asks. absurd (c.in-Err-Refused.ensures.refused (subst IsRefusal (sym c.in-Err-Refused.field-0-is) tt) _ asks); other = λ none. c.new.ensures }

pub returns-in-Err-Refused-clause-cause : goal.returns-in-Err-Refused-clause-cause
returns-in-Err-Refused-clause-cause g c = record {
  nothing = λ none. inl (record {
    keeps = keeps_once (g.M.Machine.disk c.args.machine.now) (g.M.Machine.disk c.end_with.new.machine) c.end_with.ensures.runs;
    ends = c.end_with.ensures.status;
  });
  usage = λ is asked asks. c.in-Err-Refused.ensures.refused (subst IsRefusal (sym c.in-Err-Refused.field-0-is) tt) asked asks;
  usage_said = λ told is. c.end_with.ensures.all told (λ e. cc (is, e));
  no_store = λ told is. absurd (subst IsOfUsage is (usage_ends c.end_with.result c.end_with.ensures.status));
  damaged = λ told is. absurd (subst IsOfUsage is (usage_ends c.end_with.result c.end_with.ensures.status));
  already = λ told is. absurd (subst IsOfUsage is (usage_ends c.end_with.result c.end_with.ensures.status));
  faults = record {
    disk = λ is. absurd (subst IsOfUsage is (usage_ends c.end_with.result c.end_with.ensures.status));
    output = λ is. ⊎_elim (λ e. cc e) (λ e. e) (c.end_with.ensures.cause is);
  };
  read_fault = λ is. absurd (subst IsOfUsage is (usage_ends c.end_with.result c.end_with.ensures.status));
  backup_fault = λ is. absurd (subst IsOfUsage is (usage_ends c.end_with.result c.end_with.ensures.status));
  too_long = λ told is. absurd (subst IsOfUsage is (usage_ends c.end_with.result c.end_with.ensures.status));
  gone = λ is. absurd (subst IsOfUsage is (usage_ends c.end_with.result c.end_with.ensures.status));
  stream = λ is. absurd (subst IsOfUsage is (usage_ends c.end_with.result c.end_with.ensures.status));
  full = λ is. absurd (subst IsOfUsage is (usage_ends c.end_with.result c.end_with.ensures.status));
}

pub returns-in-Err-Refused-clause-exactly : goal.returns-in-Err-Refused-clause-exactly
returns-in-Err-Refused-clause-exactly g c = λ faultless. record {
  usage = λ memory. (λ is asked asks. c.in-Err-Refused.ensures.refused (subst IsRefusal (sym c.in-Err-Refused.field-0-is) tt) asked asks, λ none. ⊎_elim (λ e. e) (λ e. absurd (faultless.output (⊎_elim (λ e. cc e) (λ e. e) (c.end_with.ensures.cause e)))) c.end_with.ensures.status);
  run = λ tend asks. absurd (c.in-Err-Refused.ensures.refused (subst IsRefusal (sym c.in-Err-Refused.field-0-is) tt) _ asks);
  runs = λ tend asks. absurd (c.in-Err-Refused.ensures.refused (subst IsRefusal (sym c.in-Err-Refused.field-0-is) tt) _ asks);
  dump = λ asks. absurd (c.in-Err-Refused.ensures.refused (subst IsRefusal (sym c.in-Err-Refused.field-0-is) tt) _ asks);
  dumps = λ asks. absurd (c.in-Err-Refused.ensures.refused (subst IsRefusal (sym c.in-Err-Refused.field-0-is) tt) _ asks);
  init = λ p asks. absurd (c.in-Err-Refused.ensures.refused (subst IsRefusal (sym c.in-Err-Refused.field-0-is) tt) _ asks);
  demos = λ seed steps asks. absurd (c.in-Err-Refused.ensures.refused (subst IsRefusal (sym c.in-Err-Refused.field-0-is) tt) _ asks);
  upgrades = λ q asks. absurd (c.in-Err-Refused.ensures.refused (subst IsRefusal (sym c.in-Err-Refused.field-0-is) tt) _ asks);
  ship = λ from asks. absurd (c.in-Err-Refused.ensures.refused (subst IsRefusal (sym c.in-Err-Refused.field-0-is) tt) _ asks);
  ships = λ from asks. absurd (c.in-Err-Refused.ensures.refused (subst IsRefusal (sym c.in-Err-Refused.field-0-is) tt) _ asks);
  follow = λ same asks. absurd (c.in-Err-Refused.ensures.refused (subst IsRefusal (sym c.in-Err-Refused.field-0-is) tt) _ asks);
  follows = λ same asks. absurd (c.in-Err-Refused.ensures.refused (subst IsRefusal (sym c.in-Err-Refused.field-0-is) tt) _ asks);
}

pub returns-in-Err-Refused-clause-session : goal.returns-in-Err-Refused-clause-session
returns-in-Err-Refused-clause-session g c = record {
  time = c.end_with.ensures.runs.time;
  run = λ tend first next sizes runs bytes asks. absurd (c.in-Err-Refused.ensures.refused (subst IsRefusal (sym c.in-Err-Refused.field-0-is) tt) _ asks);
  run_untold = λ tend asks. absurd (c.in-Err-Refused.ensures.refused (subst IsRefusal (sym c.in-Err-Refused.field-0-is) tt) _ asks);
  init = λ p first next sizes runs said asks. absurd (c.in-Err-Refused.ensures.refused (subst IsRefusal (sym c.in-Err-Refused.field-0-is) tt) _ asks);
  dump = λ first next sizes runs said asks. absurd (c.in-Err-Refused.ensures.refused (subst IsRefusal (sym c.in-Err-Refused.field-0-is) tt) _ asks);
  upgrade = λ q first next sizes runs said asks. absurd (c.in-Err-Refused.ensures.refused (subst IsRefusal (sym c.in-Err-Refused.field-0-is) tt) _ asks);
  ship = λ from first next sizes runs said asks. absurd (c.in-Err-Refused.ensures.refused (subst IsRefusal (sym c.in-Err-Refused.field-0-is) tt) _ asks);
  follow = λ same asks. absurd (c.in-Err-Refused.ensures.refused (subst IsRefusal (sym c.in-Err-Refused.field-0-is) tt) _ asks);
}

pub returns-clause-call : goal.returns-clause-call
returns-clause-call g c = λ asked asks. inr (record { ends = refl; stays = stays_here (g.M.Machine.disk c.args.machine.now) (g.met.M.Machine.lawful c.args.machine.now) })

pub returns-clause-exactly : goal.returns-clause-exactly
returns-clause-exactly g c = λ faultless.
    let unread : IsUnread (g.M.Machine.disk c.args.machine.now) (g.M.Machine.disk c.args.machine.now) Memory = record { ends = refl; stays = stays_here (g.M.Machine.disk c.args.machine.now) (g.met.M.Machine.lawful c.args.machine.now) } in
    record {
      usage = λ memory. absurd (memory tt);
      run = λ tend asks told. inr unread;
      runs = λ tend asks memory. absurd (memory tt);
      dump = λ asks told. inr unread;
      dumps = λ asks memory. absurd (memory tt);
      init = λ p asks told. inr unread;
      demos = λ seed steps asks memory. absurd (memory tt);
      upgrades = λ q asks memory. absurd (memory tt);
      ship = λ from asks told. inr unread;
      ships = λ from asks memory. absurd (memory tt);
      follow = λ same asks told. inr unread;
      follows = λ same asks memory. absurd (memory tt);
    }

pub returns-clause-session : goal.returns-clause-session
returns-clause-session g c =
    let unread : IsUnread (g.M.Machine.disk c.args.machine.now) (g.M.Machine.disk c.args.machine.now) Memory = record { ends = refl; stays = stays_here (g.M.Machine.disk c.args.machine.now) (g.met.M.Machine.lawful c.args.machine.now) } in
    unread_goes_on g.M.Machine.disk c.args.machine.now c.args.machine.now unread

pub returns-clause-noted : goal.returns-clause-noted
returns-clause-noted g c = none_called Memory (λ done. ⊎_elim (λ e. cc e) (λ e. cc e) done) c.new.ensures

pub returns-clause-backup : goal.returns-clause-backup
returns-clause-backup g c = backup_unread c.standing_files_meet_their_format.ensures.few g.T.Machine.disk (g.M.Machine.disk c.args.machine.now) c.args.backup.now

pub returns-clause-cause : goal.returns-clause-cause
returns-clause-cause g c = record {
  nothing = λ none. inr (record { ends = refl; stays = stays_here (g.M.Machine.disk c.args.machine.now) (g.met.M.Machine.lawful c.args.machine.now) });
  usage = λ is. cc;
  usage_said = λ told is. cc;
  no_store = λ told is. cc;
  damaged = λ told is. cc;
  already = λ told is. cc;
  faults = record { disk = λ is. cc; output = λ is. cc };
  read_fault = λ is. cc;
  backup_fault = λ is. cc;
  too_long = λ told is. cc;
  gone = λ is. cc;
  stream = λ is. cc;
  full = λ is. cc;
}

pub returns-in-Ok-clause-unopened : goal.returns-in-Ok-clause-unopened
returns-in-Ok-clause-unopened g c = λ is.
    let same = c.serve.ensures.unopened is in
    (same.0, same.1, call_adds_nothing g.M.Machine.disk c.args.budget (g.S.Source.tells c.args.input.now) (g.S.Source.left c.args.input.now) (g.S.Source.left c.serve.new.input) c.args.machine.now c.serve.new.machine c.in-Ok.asked (g.met.M.Machine.lawful c.args.machine.now) c.serve.ensures.call is)

pub returns-in-Err-Refused-clause-unopened : goal.returns-in-Err-Refused-clause-unopened
returns-in-Err-Refused-clause-unopened g c = λ is. absurd (subst IsOfUsage is (usage_ends c.end_with.result c.end_with.ensures.status))

pub returns-clause-unopened : goal.returns-clause-unopened
returns-clause-unopened g c = λ is. absurd (cc is)
