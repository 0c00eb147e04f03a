-- What a dump says, row by row, and what its moments leave.
use Rattle.std.proofs.Common.{inl, inr, ◌≡◌, ◌≢◌, ◌<◌, ◌+◌, ◌++◌, List, ℕ, suc, [], ◌∷◌, length, take, sym, ap, ◌∙◌, subst, arith, Option, None}
use Rattle.std.proofs.lemmas.List.{append-nil, take_all}
use Rattle.std.proofs.lemmas.List.Concat.{flat_map-append}
use Rattle.std.specs.List.{flat_map}
use Rattle.disk_model.specs.Disk.{Files, Disk, IsDisk, IsSettled, Runs, Stays, Same, SaysFront, LeavesOnly}
use Rattle.disk_model.specs.Moments.{first_call, runs_on, weaker}
use Rattle.formats.specs.declared.params.Params.{Params}
use Rattle.oper_core.specs.State.{State}
use Rattle.script_lines.specs.Replies.{object_value, command_count, said_line}
use Rattle.standing.specs.Standing.{FilesShow}
use Rattle.restart.specs.Starts.{OrAtStart, or_weaker, from_settled}
use Rattle.store_engine.specs.Engine.{EngineView, InEachImage, forced_in}
use Rattle.shell_base.specs.Store.{Command, meaning_in, Stands, Opens, state_of, Holds, Between}
use Rattle.shell_base.specs.First.{OpeningMoment, TableMoment, Stage, IsFirst}
use Rattle.shell_base.specs.Open.{OpensFiles}
use Rattle.shell_base.specs.Status.{IsOfOpened, IsOfUnopened, status_of, IsOfDump}
use Rattle.shell_base.specs.declared.budget.Budget.{Budget}
use Rattle.shell_base.specs.declared.status.Status.{Status}
use Rattle.shell_base.specs.declared.status.Status.TheVariants.{Done, NotAStore, Damaged, SayFault, Memory as OutOfMemory, DiskFault, Memory, RestartMemory}
use Rattle.shell_base.specs.HoldLaws.{holds_stays, stays_between, told_by}
use Rattle.shell_base.specs.OpeningLaws.{OpensSo, opening_failed, start_refused}
use Rattle.shell_base.specs.declared.stop.Stop.{Stop}
use Rattle.shell_base.specs.declared.stop.Stop.TheVariants.{DiskFault, Damaged, ReadFault, SayFault, BackupFault, Memory, TooLong}
use Rattle.store_words.specs.Dump.{IsDumpOn, row_of, rows_below, dump_of, DumpMoment}

-- an object that is empty has no row, and any other one
pub no_row : (x : ℕ) (value text : List ℕ) → length value ≡ 0 → text ≡ text ++ flat_map said_line (row_of x value)
no_row x [] text none = sym (append-nil text)
no_row x (byte ∷ bytes) text none = absurd (omega (arith, none))

pub some_row : (x : ℕ) (value text row new : List ℕ) → 0 < length value → row ≡ said_line (object_value x value) → new ≡ text ++ row → new ≡ text ++ flat_map said_line (row_of x value)
some_row x [] text row new some is more = absurd (omega (arith, some))
some_row x (byte ∷ bytes) text row new some is more = more ∙ ap (λ (l : List ℕ). text ++ l) (is ∙ sym (append-nil (said_line (object_value x (byte ∷ bytes)))))

-- the row of a value that is the object's
pub row_of_value : (s : State) (x : ℕ) (text value new : List ℕ) → new ≡ text ++ flat_map said_line (row_of x value) → value ≡ s x → new ≡ text ++ flat_map said_line (row_of x (s x))
row_of_value s x text value new more is = more ∙ ap (λ (v : List ℕ). text ++ flat_map said_line (row_of x v)) is

-- the rows so far, with that of the next object
pub rows_more : (s : State) (x : ℕ) (text new : List ℕ) → text ≡ flat_map said_line (rows_below s x) → new ≡ text ++ flat_map said_line (row_of x (s x)) → new ≡ flat_map said_line (rows_below s (x + 1))
rows_more s x text new so_far more =
    let next : suc x ≡ x + 1 = omega arith in
    subst (λ (n : ℕ). new ≡ flat_map said_line (rows_below s n)) next (more ∙ ap (λ (l : List ℕ). l ++ flat_map said_line (row_of x (s x))) so_far ∙ sym (flat_map-append said_line (rows_below s x) (row_of x (s x))))

-- all rows, and the number of commands
pub whole_table : (p : Params) (commands : List Command) (objects accepted : ℕ) (text row new : List ℕ) → objects ≡ p.objects → accepted ≡ length commands → text ≡ flat_map said_line (rows_below (state_of p commands) objects)
    → row ≡ said_line (command_count accepted) → new ≡ text ++ row → new ≡ dump_of p commands
whole_table p commands objects accepted text row new all count rows is more =
    more
    ∙ ap (λ (l : List ℕ). text ++ l) (is ∙ ap (λ (n : ℕ). said_line (command_count n)) count ∙ sym (append-nil (said_line (command_count (length commands)))))
    ∙ ap (λ (l : List ℕ). l ++ flat_map said_line (command_count (length commands) ∷ [])) (rows ∙ ap (λ (n : ℕ). flat_map said_line (rows_below (state_of p commands) n)) all)
    ∙ sym (flat_map-append said_line (rows_below (state_of p commands) p.objects) (command_count (length commands) ∷ []))

-- while the store is opened, or read, nothing is said
opens_dump : (p : Params) (old : Disk) (group : Option ℕ) (commands : List Command) (files : Files) (said : List ℕ) → Between p old group (length commands) (length commands) commands files said → DumpMoment p commands old.said files said
opens_dump p old group commands files said b =
    let enough = b.enough in
    record {
      stands = subst (λ (l : List Command). Stands p files l) (take_all b.kept commands enough) b.stands;
      count = 0;
      said_is = b.quiet ∙ sym (append-nil old.said);
    }

pub dump_opens : (p : Params) (old mid : Disk) (group : Option ℕ) (commands : List Command) → LeavesOnly old mid (Between p old group (length commands) (length commands) commands) → LeavesOnly old mid (DumpMoment p commands old.said)
dump_opens p old mid group commands opening = weaker old mid (Between p old group (length commands) (length commands) commands) (DumpMoment p commands old.said) opening (opens_dump p old group commands)

dump_opening : (p : Params) (old mid : Disk) (commands : List Command) → OpensSo p old mid commands → old.tells_moments → LeavesOnly old mid (OrAtStart old (DumpMoment p commands old.said))
dump_opening p old mid commands opening told = or_weaker old mid (Between p old None (length commands) (length commands) commands) (DumpMoment p commands old.said) (opening told) (opens_dump p old None commands)

-- while an open store is read nothing is said
pub dump_reads : (p : Params) (old mid : Disk) (engine : EngineView) (commands : List Command) → Stays old mid → Holds p old engine commands → (forced_in engine) ≡ length commands → old.tells_moments
    → LeavesOnly old mid (DumpMoment p commands old.said)
dump_reads p old mid engine commands run h all told = dump_opens p old mid engine.group commands (subst (λ (n : ℕ). LeavesOnly old mid (Between p old engine.group n (length commands) commands)) all (stays_between run h told))

-- then the table is said
pub dump_says : (p : Params) (old mid new : Disk) (engine : EngineView) (commands : List Command) (text : List ℕ) → Stays old mid → Holds p old engine commands → (forced_in engine) ≡ length commands → text ≡ dump_of p commands
    → Runs Same (SaysFront text) mid new → old.tells_moments → LeavesOnly old new (DumpMoment p commands old.said)
dump_says p old mid new engine commands text run h all is say told =
    runs_on old mid new (DumpMoment p commands old.said) (dump_reads p old mid engine commands run h all told)
    (first_call mid new (DumpMoment p commands old.said) told_now say.time during)
  where
    told_now : mid.tells_moments
    told_now = run.time.moments_told.0 told

    during : (files : Files) (said : List ℕ) → new.left_since mid.clock files said → DumpMoment p commands old.said files said
    during files said left =
        let from = say.crash told_now files said left in
        let here = holds_stays run h in
        record {
          stands = subst (λ (l : List Command). Stands p files l) (take_all (forced_in engine) commands (omega (arith, all)))
              (subst (λ (x : Files). Stands p x (take (forced_in engine) commands)) (sym from.0.2) (here.says.images.1 told_now from.0.0 mid.said from.0.1));
          count = from.1.0;
          said_is = from.1.2 ∙ ap (λ (l : List ℕ). l ++ take from.1.0 text) (run.said (told_by h)) ∙ ap (λ (l : List ℕ). old.said ++ take from.1.0 l) is;
        }

-- a dump from before the store was opened
pub dump_from : (p : Params) (old mid new : Disk) (commands : List Command) → OpensSo p old mid commands → (old.tells_moments → mid.tells_moments) → mid.said ≡ old.said → (mid.tells_moments → LeavesOnly mid new (DumpMoment p commands mid.said)) → old.tells_moments
    → LeavesOnly old new (OrAtStart old (DumpMoment p commands old.said))
dump_from p old mid new commands opening telling quiet dumping told =
    runs_on old mid new (OrAtStart old (DumpMoment p commands old.said)) (dump_opening p old mid commands opening told)
    (weaker mid new (DumpMoment p commands old.said) (OrAtStart old (DumpMoment p commands old.said))
    (subst (λ (s : List ℕ). LeavesOnly mid new (DumpMoment p commands s)) quiet (dumping (telling told))) (λ f s m. inr m))

-- what reads give, before anything is said
pub start_dump : (p : Params) (old : Disk) (commands : List Command) → Stands p old.reads commands → DumpMoment p commands old.said old.reads old.said
start_dump p old commands stands = record { stands = stands; count = 0; said_is = sym (append-nil old.said) }

-- a beginning of it was said
pub dump_begun : (p : Params) (old mid new : Disk) (commands : List Command) (text : List ℕ) → mid.said ≡ old.said → text ≡ dump_of p commands → SaysFront text mid.said new.said
    → (count : ℕ) × (new.said ≡ old.said ++ take count (dump_of p commands))
dump_begun p old mid new commands text quiet is front =
    (front.0, front.2 ∙ ap (λ (l : List ℕ). l ++ take front.0 text) quiet ∙ ap (λ (l : List ℕ). old.said ++ take front.0 l) is)

pub dump_quiet : (p : Params) (old new : Disk) (commands : List Command) → new.said ≡ old.said → (count : ℕ) × (new.said ≡ old.said ++ take count (dump_of p commands))
dump_quiet p old new commands quiet = (0, quiet ∙ sym (append-nil old.said))

-- what the courses say of a dump
abbrev pub GoesBy : Budget → Params → List Command → Disk → Disk → Status → Type 0
GoesBy budget p commands old new status = (first : Stage) → (is : IsFirst budget p commands old first) → (old.tells_moments → LeavesOnly old new (OrAtStart old (TableMoment budget p commands old first is))) × (status ≡ Done → FilesShow (meaning_in p) p new.reads first.world)

-- a dump of files that stand for commands, from before they were opened
pub dump_on : {budget : Budget} (p : Params) (old mid new : Disk) (commands : List Command) (status : Status) → GoesBy budget p commands old new status → IsDisk old → Opens p old commands → OpensSo p old mid commands → (old.tells_moments → mid.tells_moments) → mid.said ≡ old.said
    → (mid.tells_moments → LeavesOnly mid new (DumpMoment p commands mid.said))
    → (count : ℕ) × (new.said ≡ mid.said ++ take count (dump_of p commands)) → (status ≡ Done → new.said ≡ mid.said ++ dump_of p commands) → (status ≢ NotAStore) × (status ≢ Damaged) → IsOfOpened status → IsSettled new
    → InEachImage new (λ files. Stands p files commands) → IsDumpOn budget p commands old new status
dump_on {budget} p old mid new commands status goes lawful opens opening telling quiet dumping said all store fine settled stands =
    let images : old.tells_moments → LeavesOnly old new (OrAtStart old (DumpMoment p commands old.said)) = dump_from p old mid new commands opening telling quiet dumping in
    record {
      images = images;
      from_settled = λ told settled_old. from_settled old new (DumpMoment p commands old.said) lawful told settled_old (start_dump p old commands opens.stands) (images told);
      said = (said.0, said.1 ∙ ap (λ (l : List ℕ). l ++ take said.0 (dump_of p commands)) quiet);
      all = λ done. all done ∙ ap (λ (l : List ℕ). l ++ dump_of p commands) quiet;
      store = store;
      settled = λ disk memory. settled;
      stands = λ disk memory. stands;
      unopened = λ told is. absurd (subst IsOfOpened is fine);
      steps = λ told first is. (goes first is).0 told;
      shows = λ first is done. (goes first is).1 done;
    }

pub dump_unopened : {budget : Budget} (p : Params) (old mid : Disk) (commands : List Command) (status : Status) → IsDisk old → Opens p old commands → OpensFiles budget p commands old mid → mid.said ≡ old.said → IsOfUnopened status
    → (status ≢ NotAStore) × (status ≢ Damaged) → (status ≢ SayFault) × (status ≢ OutOfMemory) → IsDumpOn budget p commands old mid status
dump_unopened {budget} p old mid commands status lawful opens files quiet of store output =
    let images : old.tells_moments → LeavesOnly old mid (OrAtStart old (DumpMoment p commands old.said)) = dump_opening p old mid commands files.images in
    record {
      images = images;
      from_settled = λ told settled. from_settled old mid (DumpMoment p commands old.said) lawful told settled (start_dump p old commands opens.stands) (images told);
      said = dump_quiet p old mid commands quiet;
      all = λ done. absurd (subst (λ (s : Status). IsOfUnopened s) done of);
      store = store;
      settled = λ disk memory. absurd (opening_failed status of store output disk memory);
      stands = λ disk memory. absurd (opening_failed status of store output disk memory);
      unopened = λ told is. start_refused p commands files told;
      steps = λ told first is. or_weaker old mid (OpeningMoment budget p commands old first is) (TableMoment budget p commands old first is) (files.steps told first is) (λ f s here. inl here);
      shows = λ first is done. absurd (subst (λ (s : Status). IsOfUnopened s) done of);
    }

-- what ends a call early is not reported as done
pub never_done : (stop : Stop) → status_of stop ≡ Done → ⊥
never_done DiskFault is = cc is
never_done (Damaged file place) is = cc is
never_done ReadFault is = cc is
never_done SayFault is = cc is
never_done BackupFault is = cc is
never_done Memory is = cc is
never_done TooLong is = cc is

pub unopened_dump : (status : Status) → IsOfUnopened status → IsOfDump status
unopened_dump NotAStore of = tt
unopened_dump Damaged of = tt
unopened_dump DiskFault of = tt
unopened_dump SayFault of = tt
unopened_dump Memory of = tt
unopened_dump RestartMemory of = tt
unopened_dump status of = absurd of
