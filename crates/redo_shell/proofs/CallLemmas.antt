-- What holds of a call for any words, from what holds of one that was asked one thing.
use Rattle.std.proofs.Common.{Bool, ◌≡◌, ◌≢◌, ◌⊎◌, ◌^◌, ⊎_elim, List, [], ℕ, inl, inr, refl, subst}
use Rattle.std.specs.Prelude.{⊤}
use Rattle.disk_model.specs.Disk.{Disk, IsDisk, LeavesOnly, Passes, Rises}
use Rattle.disk_model.specs.Moments.{passes_none}
use Rattle.formats.specs.declared.params.Params.{Params}
use Rattle.script_lines.specs.Grammar.{lines_of}
use Rattle.script_lines.specs.Reading.{ReadsOn}
use Rattle.command_words.specs.Words.{Asks}
use Rattle.command_words.specs.declared.asked.Asked.{Asked}
use Rattle.command_words.specs.declared.asked.Asked.TheVariants.{Init, Run, Dump, Demo, Upgrade, Ship, Follow}
use Rattle.restart.specs.Starts.{OrAtStart, at_start, or_weaker}
use Rattle.shell_base.specs.Again.{StandsStill}
use Rattle.shell_base.specs.Judging.{CountsFaults, JudgesFiles, SaysNoStore, SaysDamage}
use Rattle.shell_base.specs.Keeps.{KeepsFiles}
use Rattle.shell_base.specs.Status.{IsOfRun, IsOfDump, IsOfInit, IsOfUpgrade, IsOfShip, IsOfFollow, LacksMemory}
use Rattle.shell_base.specs.Store.{Command, IsWellFormed, Opens, Stands, StandsInEither}
use Rattle.shell_base.specs.declared.budget.Budget.{Budget}
use Rattle.shell_base.specs.declared.status.Status.{Status}
use Rattle.shell_base.specs.declared.status.Status.TheVariants.{Done, Usage, NotAStore, AlreadyStore, Damaged, DiskFault, ReadFault, SayFault, Memory, RestartMemory, TooLong, AlreadyTwo, Smaller, Gone, BadStream, StandbyFull}
use Rattle.shell_base.specs.KeepLaws.{keeps_once}
use Rattle.shell_base.specs.RestartLaws.{image_begins}
use Rattle.store_words.specs.Cut.{JudgesUpgrade, SaysCut}
use Rattle.store_words.specs.Making.{SaysStore}
use Rattle.store_words.specs.Upgrading.{UpgradeMoment}
use Rattle.store_words.specs.Dump.{DumpMoment}
use Rattle.standby_words.specs.Following.{StandbyMoment, StreamMoment}
use Rattle.standby_words.specs.FollowingLaws.{standby_moment}
use Rattle.standby_words.specs.Shipping.{ShipMoment}
use Rattle.script_run.specs.Saving.{IsBesideRun}
use Rattle.script_run.specs.StartLaws.{none_backed, AreFew, printed_backed, keeps_none}
use Rattle.redo_shell.specs.Calls.{IsCallFor, GoesOn}
use Rattle.redo_shell.specs.Causes.{IsCutUpgrade, IsUnread, ComesByCause}
use Rattle.redo_shell.specs.Demo.{IsOfDemo}
use Rattle.redo_shell.specs.Exactly.{IsFaultless, IsUpgradeEnd, ComesExactly}
use Rattle.redo_shell.specs.Beside.{IsBackupCall, IsBackupFor}
use Rattle.redo_shell.specs.Sessions.{AddsNothing, run, init, reads, upgrade, follow}
use Rattle.redo_shell.proofs.DamageLemmas.{HasOneDamage}
use Rattle.redo_shell.proofs.ExactLemmas.{calm_run, calm_told, calm_dump, calm_shipped, calm_followed, whole_ship, whole_follow, opens_exactly, runs_exactly, makes_exactly}

module _ (budget : Budget) (told : Type 0) (left rest : List ℕ) (old new : Disk) (status : Status) where
  -- what was asked is this
  pub call_for : {asked other : Asked} → asked ≡ other → IsCallFor budget asked told left rest old new status → IsCallFor budget other told left rest old new status
  call_for is call = subst (λ (a : Asked). IsCallFor budget a told left rest old new status) is call

  not_usage : (asked : Asked) → IsCallFor budget asked told left rest old new status → status ≡ Usage → ⊥
  not_usage (Run tend) call is = subst IsOfRun is call.ends
  not_usage Dump call is = subst IsOfDump is call.ends
  not_usage (Init p) call is = subst IsOfInit is call.ends
  not_usage (Demo seed steps) call is = subst IsOfDemo is call.ends
  not_usage (Upgrade q) call is = subst IsOfUpgrade is call.ends
  not_usage (Ship from) call is = subst IsOfShip is call.ends
  not_usage (Follow same) call is = subst IsOfFollow is call.ends

  -- of a store that was opened, and not called damaged but where it is cut, nothing is said as of none
  no_store_judged : JudgesUpgrade old new status → status ≡ NotAStore → SaysNoStore old new
  no_store_judged judged is = ⊎_elim (λ (files : JudgesFiles old new status). files.no_store is) (λ (cut : (status ≡ Damaged) × SaysCut old new). absurd (cc (cut.0, is))) judged

  no_store_said : (asked : Asked) → IsCallFor budget asked told left rest old new status → old.tells_files → status ≡ NotAStore → SaysNoStore old new
  no_store_said (Run tend) call files is = (call.judged files).no_store is
  no_store_said Dump call files is = (call.judged files).no_store is
  no_store_said (Init p) call files is = absurd (subst IsOfInit is call.ends)
  no_store_said (Demo seed steps) call files is = absurd (subst IsOfDemo is call.ends)
  no_store_said (Upgrade q) call files is = no_store_judged (call.judged files) is
  no_store_said (Ship from) call files is = (call.judged files).no_store is
  no_store_said (Follow same) call files is = (call.judged files).no_store is

  damage_said : (words : List (List ℕ)) (asked : Asked) → Asks words asked → IsCallFor budget asked told left rest old new status → old.tells_files → status ≡ Damaged → SaysDamage old new ⊎ IsCutUpgrade words old new
  damage_said words (Run tend) asks call files is = inl ((call.judged files).damaged is)
  damage_said words Dump asks call files is = inl ((call.judged files).damaged is)
  damage_said words (Init p) asks call files is = absurd (subst IsOfInit is call.ends)
  damage_said words (Demo seed steps) asks call files is = absurd (subst IsOfDemo is call.ends)
  damage_said words (Upgrade q) asks call files is = ⊎_elim (λ (judged : JudgesFiles old new status). inl (judged.damaged is)) (λ (cut : (status ≡ Damaged) × SaysCut old new). inr (q, asks, cut.1)) (call.judged files)
  damage_said words (Ship from) asks call files is = inl ((call.judged files).damaged is)
  damage_said words (Follow same) asks call files is = inl ((call.judged files).damaged is)

  store_said : (asked : Asked) → IsCallFor budget asked told left rest old new status → old.tells_files → status ≡ AlreadyStore → SaysStore old new
  store_said (Run tend) call files is = absurd (subst IsOfRun is call.ends)
  store_said Dump call files is = absurd (subst IsOfDump is call.ends)
  store_said (Init p) call files is = call.already files is
  store_said (Demo seed steps) call files is = absurd (subst IsOfDemo is call.ends)
  store_said (Upgrade q) call files is = absurd (subst IsOfUpgrade is call.ends)
  store_said (Ship from) call files is = absurd (subst IsOfShip is call.ends)
  store_said (Follow same) call files is = absurd (subst IsOfFollow is call.ends)

  -- the statuses of a shipment and of the following of a stream come of these alone
  gone_asked : (words : List (List ℕ)) (asked : Asked) → Asks words asked → IsCallFor budget asked told left rest old new status → status ≡ Gone → (from : ℕ) × Asks words (Ship from)
  gone_asked words (Run tend) asks call is = absurd (subst IsOfRun is call.ends)
  gone_asked words Dump asks call is = absurd (subst IsOfDump is call.ends)
  gone_asked words (Init p) asks call is = absurd (subst IsOfInit is call.ends)
  gone_asked words (Demo seed steps) asks call is = absurd (subst IsOfDemo is call.ends)
  gone_asked words (Upgrade q) asks call is = absurd (subst IsOfUpgrade is call.ends)
  gone_asked words (Ship from) asks call is = (from, asks)
  gone_asked words (Follow same) asks call is = absurd (subst IsOfFollow is call.ends)

  -- the two of a stream
  abbrev IsOfFrames : Status → Type 0
  IsOfFrames BadStream = ⊤
  IsOfFrames StandbyFull = ⊤
  IsOfFrames status = ⊥

  stream_asked : (words : List (List ℕ)) (asked : Asked) (is_of : Status) → IsOfFrames is_of → Asks words asked → IsCallFor budget asked told left rest old new status → status ≡ is_of → (same : Bool) × Asks words (Follow same)
  stream_asked words (Run tend) BadStream of asks call is = absurd (subst IsOfRun is call.ends)
  stream_asked words (Run tend) StandbyFull of asks call is = absurd (subst IsOfRun is call.ends)
  stream_asked words Dump BadStream of asks call is = absurd (subst IsOfDump is call.ends)
  stream_asked words Dump StandbyFull of asks call is = absurd (subst IsOfDump is call.ends)
  stream_asked words (Init p) BadStream of asks call is = absurd (subst IsOfInit is call.ends)
  stream_asked words (Init p) StandbyFull of asks call is = absurd (subst IsOfInit is call.ends)
  stream_asked words (Demo seed steps) BadStream of asks call is = absurd (subst IsOfDemo is call.ends)
  stream_asked words (Demo seed steps) StandbyFull of asks call is = absurd (subst IsOfDemo is call.ends)
  stream_asked words (Upgrade q) BadStream of asks call is = absurd (subst IsOfUpgrade is call.ends)
  stream_asked words (Upgrade q) StandbyFull of asks call is = absurd (subst IsOfUpgrade is call.ends)
  stream_asked words (Ship from) BadStream of asks call is = absurd (subst IsOfShip is call.ends)
  stream_asked words (Ship from) StandbyFull of asks call is = absurd (subst IsOfShip is call.ends)
  stream_asked words (Follow same) is_of of asks call is = (same, asks)
  stream_asked words asked is_of of asks call is = absurd of

-- a demo that finds memory, in which no count of faults rises
calm_demo : {old new : Disk} {before now : ℕ} {backup backed : Disk} (status : Status) → IsFaultless old new before now backup backed → (LacksMemory status → ⊥) → IsOfDemo status → CountsFaults old new status → status ≡ Done
calm_demo Done calm memory of faults = refl
calm_demo SayFault calm memory of faults = absurd (calm.output (faults.output refl))
calm_demo Memory calm memory of faults = absurd (memory tt)
calm_demo status calm memory of faults = absurd of

-- an upgrade of a store, with memory, in which no count of faults rises
calm_upgrade : {old new : Disk} {before now : ℕ} {backup backed : Disk} (status : Status) → IsFaultless old new before now backup backed → (LacksMemory status → ⊥) → IsOfUpgrade status → CountsFaults old new status → status ≢ NotAStore → IsUpgradeEnd status
calm_upgrade Done calm memory of faults store = inl refl
calm_upgrade AlreadyTwo calm memory of faults store = inr (inl refl)
calm_upgrade Smaller calm memory of faults store = inr (inr (inl refl))
calm_upgrade Damaged calm memory of faults store = inr (inr (inr refl))
calm_upgrade NotAStore calm memory of faults store = absurd (store refl)
calm_upgrade DiskFault calm memory of faults store = absurd (calm.disk (faults.disk refl))
calm_upgrade SayFault calm memory of faults store = absurd (calm.output (faults.output refl))
calm_upgrade Memory calm memory of faults store = absurd (memory tt)
calm_upgrade RestartMemory calm memory of faults store = absurd (memory tt)
calm_upgrade status calm memory of faults store = absurd of

module _ (budget : Budget) {words : List (List ℕ)} {told : Type 0} {left rest : List ℕ} {before now : ℕ} {old new backup backed : Disk} {status : Status} (asked : Asked) (call : IsCallFor budget asked told left rest old new status)
    (faults : CountsFaults old new status) (read_fault : status ≡ ReadFault → Rises before now) (beside : IsBesideRun backup backed status) (too_long : told → status ≡ TooLong → ReadsOn left rest 0 (2 ^ 40)) where
  -- each status of trouble comes only with its cause
  pub call_caused : Asks words asked → ComesByCause words told left rest before now backup backed old new status
  call_caused asks = record {
    nothing = λ none. absurd (none asked asks);
    usage = λ is. absurd (not_usage budget told left rest old new status asked call is);
    usage_said = λ files is. absurd (not_usage budget told left rest old new status asked call is);
    no_store = no_store_said budget told left rest old new status asked call;
    damaged = damage_said budget told left rest old new status words asked asks call;
    already = store_said budget told left rest old new status asked call;
    faults = faults;
    read_fault = read_fault;
    backup_fault = beside.fault;
    too_long = too_long;
    gone = gone_asked budget told left rest old new status words asked asks call;
    stream = stream_asked budget told left rest old new status words asked BadStream tt asks call;
    full = stream_asked budget told left rest old new status words asked StandbyFull tt asks call;
  }

  -- and where no count of faults rises, exactly there
  pub call_exactly : Asks words asked → ((other : Asked) → Asks words other → asked ≡ other) → HasOneDamage old.reads → ((p : Params) (commands : List Command) → Opens p old commands → IsWellFormed old.reads) → IsFaultless old new before now backup backed
      → ComesExactly words told left old new status
  call_exactly asks one damage format faultless = record {
    usage = λ memory. (λ is. absurd (not_usage budget told left rest old new status asked call is), λ none. absurd (none asked asks));
    run = λ tend is files.
        let it = call_for budget told left rest old new status (one (Run tend) is) call in
        inl (opens_exactly status (calm_run status faultless it.ends faults read_fault beside.fault) damage (it.judged files));
    runs = λ tend is memory.
        let it = call_for budget told left rest old new status (one (Run tend) is) call in
        runs_exactly status (calm_run status faultless it.ends faults read_fault beside.fault) memory it too_long format;
    dump = λ is files.
        let it = call_for budget told left rest old new status (one Dump is) call in
        inl (opens_exactly status (calm_told status faultless it.ends faults) damage (it.judged files));
    dumps = λ is memory p commands opens.
        let it = call_for budget told left rest old new status (one Dump is) call in
        calm_dump status faultless memory it.ends faults ((it.judged opens.told).store (format p commands opens));
    init = λ p is files. inl (makes_exactly status faultless (call_for budget told left rest old new status (one (Init p) is) call) faults files);
    upgrades = λ q is memory p commands opens.
        let it = call_for budget told left rest old new status (one (Upgrade q) is) call in
        calm_upgrade status faultless memory it.ends faults (it.stands p commands opens).store;
    ship = λ from is files.
        let it = call_for budget told left rest old new status (one (Ship from) is) call in
        inl (opens_exactly status (calm_shipped status faultless it.ends faults) damage (it.judged files));
    ships = λ from is memory p commands opens.
        let it = call_for budget told left rest old new status (one (Ship from) is) call in
        whole_ship status (calm_shipped status faultless it.ends faults) it.ends memory ((it.judged opens.told).store (format p commands opens));
    follow = λ same is files.
        let it = call_for budget told left rest old new status (one (Follow same) is) call in
        inl (opens_exactly status (calm_followed status faultless it.ends faults read_fault) damage (it.judged files));
    follows = λ same is memory p commands opens.
        let it = call_for budget told left rest old new status (one (Follow same) is) call in
        whole_follow status (calm_followed status faultless it.ends faults read_fault) it.ends memory ((it.judged opens.told).store (format p commands opens));
    demos = λ seed steps is memory. calm_demo status faultless memory (call_for budget told left rest old new status (one (Demo seed steps) is) call).ends faults;
  }

-- files that do not meet their format are kept by an upgrade
keeps_judged : {old new : Disk} {status : Status} → JudgesUpgrade old new status → (IsWellFormed old.reads → ⊥) → KeepsFiles old new
keeps_judged {old} {new} {status} judged broken = ⊎_elim (λ (files : JudgesFiles old new status). files.keeps broken) (λ (cut : (status ≡ Damaged) × SaysCut old new). absurd (broken cut.1.whole)) judged

-- what it does goes on any calls before it
pub call_goes_on : {T : Type 0} {budget : Budget} (disk : T → Disk) {words : List (List ℕ)} {told : Type 0} {left rest : List ℕ} {status : Status} (old new : T) → IsDisk (disk old) → Passes (disk old) (disk new)
    → ((other : Asked) → Asks words other → IsCallFor budget other told left rest (disk old) (disk new) status) → GoesOn disk words told left rest old new
call_goes_on disk {words} {told} {left} old new lawful time call = record {
  time = time;
  run = λ tend first next sizes runs bytes asks told begins before follows.
      run old new next (record { script = lines_of left; bytes = bytes }) before begins (λ p commands opens. ((call (Run tend) asks).script p commands opens told).images) follows;
  run_untold = λ tend asks.
      let (script, each) = (call (Run tend) asks).untold in (
        script,
        λ first next sizes runs bytes begins before follows. run old new next (record { script = script; bytes = bytes }) before begins (λ p commands opens. (each p commands opens).images) follows,
      );
  init = λ p first next sizes runs said asks none before follows. init old new next p said before none (λ telling. (call (Init p) asks).images telling none) follows;
  dump = λ first next sizes runs said asks before follows.
      reads old new next said before (λ none telling. ((call Dump asks).judged (lawful.telling telling)).keeps (λ image. none (image_begins image)))
      (λ p commands opens telling. or_weaker (disk old) (disk new) (DumpMoment p commands (disk old).said) (λ files bytes. Stands p files commands) (((call Dump asks).table p commands opens).images telling) (λ files bytes moment. moment.stands)) follows;
  ship = λ from first next sizes runs said asks before follows.
      reads old new next said before (λ none telling. ((call (Ship from) asks).judged (lawful.telling telling)).keeps (λ image. none (image_begins image)))
      (λ p commands opens telling. or_weaker (disk old) (disk new) (ShipMoment p commands from (disk old).said) (λ files bytes. Stands p files commands) (((call (Ship from) asks).log p commands opens).images telling) (λ files bytes moment. moment.0)) follows;
  follow = λ same asks. (
    (call (Follow same) asks).bytes,
    (call (Follow same) asks).taken,
    λ first next sizes runs said before follows.
        follow old new next (call (Follow same) asks).bytes said before (λ none telling. ((call (Follow same) asks).judged (lawful.telling telling)).keeps (λ image. none (image_begins image)))
        (λ p commands opens telling.
        let on = (call (Follow same) asks).stream p commands opens in
        let history = on.first.0.world.history in
        let bytes = (call (Follow same) asks).bytes in (
          history,
          on.first.2,
          or_weaker (disk old) (disk new) (StandbyMoment p commands history bytes (disk old) (disk new)) (λ files taken. StreamMoment p history bytes files) (on.images telling on.first.0 on.first.1) (λ files taken moment. standby_moment (disk old) (disk new) on.first.2 moment),
        )) follows,
  );
  upgrade = λ q first next sizes runs said asks before follows.
      upgrade old new next q said before (λ none telling. keeps_judged ((call (Upgrade q) asks).judged (lawful.telling telling)) (λ image. none (image_begins image)))
      (λ p commands opens telling. or_weaker (disk old) (disk new) (UpgradeMoment p q commands (disk old).reads (disk old).said) (λ files bytes. StandsInEither p q commands files) (((call (Upgrade q) asks).stands p commands opens).images telling) (λ files bytes moment. moment.0)) follows;
}

-- where files stand for commands as they did, each image does
alone : (p : Params) (commands : List Command) {old new : Disk} → StandsStill p commands old new → LeavesOnly old new (OrAtStart old (λ files said. Stands p files commands))
alone p commands {old} {new} still = or_weaker old new (λ files said. Stands p files commands × (said ≡ old.said)) (λ files said. Stands p files commands) still.images (λ files said is. is.0)

-- one whose restart was refused memory adds nothing to them
pub call_adds_nothing : {T : Type 0} (disk : T → Disk) (budget : Budget) (told : Type 0) (left rest : List ℕ) {status : Status} (old new : T) (asked : Asked) → IsDisk (disk old) → IsCallFor budget asked told left rest (disk old) (disk new) status
    → status ≡ RestartMemory → AddsNothing disk old new
call_adds_nothing disk budget told left rest old new (Run tend) lawful call is = λ first next sizes runs said before follows.
    reads old new next said before (λ none telling. (call.judged (lawful.telling telling)).keeps (λ image. none (image_begins image)))
    (λ p commands opens telling. alone p commands ((call.untold.1 p commands opens).unopened telling is).still) follows
call_adds_nothing disk budget told left rest old new Dump lawful call is = λ first next sizes runs said before follows.
    reads old new next said before (λ none telling. (call.judged (lawful.telling telling)).keeps (λ image. none (image_begins image)))
    (λ p commands opens telling. or_weaker (disk old) (disk new) (DumpMoment p commands (disk old).said) (λ files bytes. Stands p files commands) ((call.table p commands opens).images telling) (λ files bytes moment. moment.stands)) follows
call_adds_nothing disk budget told left rest old new (Init p) lawful call is = absurd (subst IsOfInit is call.ends)
call_adds_nothing disk budget told left rest old new (Demo seed steps) lawful call is = absurd (subst IsOfDemo is call.ends)
call_adds_nothing disk budget told left rest old new (Upgrade q) lawful call is = λ first next sizes runs said before follows.
    reads old new next said before (λ none telling. keeps_judged (call.judged (lawful.telling telling)) (λ image. none (image_begins image)))
    (λ p commands opens telling. alone p commands ((call.stands p commands opens).unopened telling is).still) follows
call_adds_nothing disk budget told left rest old new (Ship from) lawful call is = λ first next sizes runs said before follows.
    reads old new next said before (λ none telling. (call.judged (lawful.telling telling)).keeps (λ image. none (image_begins image)))
    (λ p commands opens telling. or_weaker (disk old) (disk new) (ShipMoment p commands from (disk old).said) (λ files bytes. Stands p files commands) ((call.log p commands opens).images telling) (λ files bytes moment. moment.0)) follows
call_adds_nothing disk budget told left rest old new (Follow same) lawful call is = λ first next sizes runs said before follows.
    reads old new next said before (λ none telling. (call.judged (lawful.telling telling)).keeps (λ image. none (image_begins image)))
    (λ p commands opens telling. alone p commands ((call.stream p commands opens).unopened telling is).still) follows

-- where there was no memory to read the words, it goes on them too
pub unread_goes_on : {T : Type 0} (disk : T → Disk) {words : List (List ℕ)} {told : Type 0} {left : List ℕ} {status : Status} (old new : T) → IsUnread (disk old) (disk new) status
    → GoesOn disk words told left left old new
unread_goes_on disk {words} {left = left} old new unread = record {
  time = unread.stays.time;
  run = λ tend first next sizes runs bytes asks told begins before follows.
      run old new next (record { script = lines_of left; bytes = bytes }) before begins (λ p commands opens telling. at_start (disk old) (disk new) _ unread.stays telling) follows;
  run_untold = λ tend asks. (
    [],
    λ first next sizes runs bytes begins before follows. run old new next (record { script = []; bytes = bytes }) before begins (λ p commands opens telling. at_start (disk old) (disk new) _ unread.stays telling) follows,
  );
  init = λ p first next sizes runs said asks none before follows. init old new next p said before none (λ telling. at_start (disk old) (disk new) _ unread.stays telling) follows;
  dump = λ first next sizes runs said asks before follows.
      reads old new next said before (λ none telling. keeps_once (disk old) (disk new) unread.stays) (λ p commands opens telling. at_start (disk old) (disk new) _ unread.stays telling) follows;
  ship = λ from first next sizes runs said asks before follows.
      reads old new next said before (λ none telling. keeps_once (disk old) (disk new) unread.stays) (λ p commands opens telling. at_start (disk old) (disk new) _ unread.stays telling) follows;
  follow = λ same asks. (
    [],
    λ reports. refl,
    λ first next sizes runs said before follows.
        follow old new next [] said before (λ none telling. keeps_once (disk old) (disk new) unread.stays)
        (λ p commands opens telling. (opens.stands.history, opens.stands.commands_are, at_start (disk old) (disk new) _ unread.stays telling)) follows,
  );
  upgrade = λ q first next sizes runs said asks before follows.
      upgrade old new next q said before (λ none telling. keeps_once (disk old) (disk new) unread.stays) (λ p commands opens telling. at_start (disk old) (disk new) _ unread.stays telling) follows;
}

-- Of the backup, by what was asked.
module _ {T : Type 0} (budget : Budget) (disk : T → Disk) (told : Type 0) (script : List (List ℕ)) (old new : Disk) (before after : T) where
  pub backup_for : {asked other : Asked} → asked ≡ other → IsBackupFor budget disk asked told script old new before after → IsBackupFor budget disk other told script old new before after
  backup_for is here = subst (λ (a : Asked). IsBackupFor budget disk a told script old new before after) is here

  unless_run : {words : List (List ℕ)} (asked : Asked) → Asks words asked → IsBackupFor budget disk asked told script old new before after → ((tend : Bool) → Asks words (Run tend) → ⊥) → after ≡ before
  unless_run (Run tend) asks here other = absurd (other tend asks)
  unless_run Dump asks here other = here
  unless_run (Init p) asks here other = here
  unless_run (Demo seed steps) asks here other = here
  unless_run (Upgrade q) asks here other = here
  unless_run (Ship from) asks here other = here
  unless_run (Follow same) asks here other = here

  pub backup_called : {words : List (List ℕ)} {status : Status} (asked : Asked) → Asks words asked → ((other : Asked) → Asks words other → asked ≡ other) → IsBesideRun (disk before) (disk after) status → IsBackupFor budget disk asked told script old new before after
      → IsBackupCall budget disk words told script old new before after
  backup_called asked asks one beside here = record {
    time = beside.time;
    run = λ tend is. backup_for (one (Run tend) is) here;
    other = unless_run asked asks here;
  }

-- nothing is done with it
pub backup_idle : {T : Type 0} {budget : Budget} (disk : T → Disk) {words script : List (List ℕ)} {told : Type 0} {old new : Disk} (backup : T) → ((tend : Bool) → Asks words (Run tend) → ⊥) → IsBackupCall budget disk words told script old new backup backup
backup_idle disk backup none = record { time = passes_none (disk backup); run = λ tend is. absurd (none tend is); other = λ none. refl }

-- where there was no memory to read the words, nothing at all is done
pub backup_unread : AreFew → {T : Type 0} {budget : Budget} (disk : T → Disk) {words script : List (List ℕ)} {told : Type 0} (old : Disk) (backup : T) → IsBackupCall budget disk words told script old old backup backup
backup_unread few disk old backup = record {
  time = passes_none (disk backup);
  run = λ tend asks. record {
    opened = λ p commands opens tells first is. printed_backed few disk (none_backed disk first (passes_none old) refl);
    untold = ([], λ p commands opens first is. printed_backed few disk (none_backed disk first (passes_none old) refl));
    kept = λ p commands opens tells begins. keeps_none (disk backup);
    unopened = λ tells broken. refl;
  };
  other = λ none. refl;
}
