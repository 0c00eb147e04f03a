-- What the laying out of a target leaves at each moment, and at its end.
use Rattle.std.proofs.Common.{◌≡◌, ◌∙◌, ℕ, List, [], sym, ap, subst}
use Rattle.disk_model.specs.Disk.{Files, Disk, Runs, Stays, Same, In, Torn, IsSettled, LeavesOnly}
use Rattle.disk_model.specs.Moments.{first_call, goes_on, weaker, from_reads, passes_twice}
use Rattle.disk_model.specs.declared.machine.FileNo.TheVariants.{Objects, LogA}
use Rattle.oper_core.specs.Cell.{Cell}
use Rattle.formats.specs.Log.{new_header}
use Rattle.formats.specs.Objects.{BeginsStore}
use Rattle.formats.specs.declared.params.Params.{Params}
use Rattle.log_blocks.specs.Creating.{LogsAlone, IsNewLog}
use Rattle.log_blocks.specs.Laws.{log_stays}
use Rattle.stable_objects.specs.Upgrades.Filling.{IsFilledTo}
use Rattle.stable_objects.specs.GateLaws.{closed_begins, kept_closed, torn_begins}
use Rattle.stable_objects.specs.Making.{IsClosedFile, IsLaidOut, IsNewFile, KeepsGate, opened}
use Rattle.restart.specs.Starts.{OrAtStart, then_leaves}
use Rattle.backup_copy.specs.Calls.{BeginsNone, IsQuiet, NoneIn}
use Rattle.backup_copy.specs.Target.{IsPartCopy}

-- where nothing changes, no store begins that did not begin before
pub none_still : (old mid : Disk) → Stays old mid → old.tells_moments → BeginsNone old.reads → BeginsNone mid.reads
none_still old mid kept told none begins = none (subst (λ (f : Files). BeginsStore (f Objects)) (kept.reads (kept.begins.telling told)) begins)

-- one run after another is quiet, as both are
pub quiet_twice : (old mid new : Disk) (step : Files → Files → Type 0) → IsQuiet old mid → Runs step Same mid new → IsQuiet old new
quiet_twice old mid new step first run = record {
  time = passes_twice old mid new run.ends first.time run.time;
  said = λ told. run.said (first.time.files_told.0 told) ∙ first.said told;
}

pub quiet_run : (old new : Disk) (step : Files → Files → Type 0) → Runs step Same old new → IsQuiet old new
quiet_run old new step run = record { time = run.time; said = λ told. run.said told }

-- the calls in a row, from a settled machine on which no store begins
module _ (old first second : Disk) (told : old.tells_moments) (settled : IsSettled old) (none : BeginsNone old.reads) (run : Runs (In Objects (Torn 0 1)) Same old first)
    (idle : old.tells_files → IsClosedFile (old.reads Objects) → Stays old first) where
  tells : old.tells_files
  tells = run.begins.telling told

  -- while the gate is closed
  pub closing : LeavesOnly old first (NoneIn old)
  closing = first_call old first (NoneIn old) told run.time (λ files said left.
      let from = from_reads old first (In Objects (Torn 0 1)) Same told settled run.crash files said left in
      let same = λ (closed : IsClosedFile (old.reads Objects)).
      ap (λ (f : Files). f Objects) (from_reads old first Same Same told settled (idle tells closed).crash files said left).0 in
      (torn_begins (old.reads Objects) (files Objects) none same from.0.changed, from.1))

  module _ (settles : IsSettled old → IsSettled first) (closes : old.tells_files → IsClosedFile (first.reads Objects)) (logs : Runs LogsAlone Same first second) where
    told_first : first.tells_moments
    told_first = run.time.moments_told.0 told

    tells_first : first.tells_files
    tells_first = run.time.files_told.0 tells

    -- while the logs are made
    pub logging : LeavesOnly old second (NoneIn old)
    logging = goes_on old first second (NoneIn old) told_first closing logs.time (λ files said left.
        let from = from_reads first second LogsAlone Same told_first (settles settled) logs.crash files said left in
        let same : files Objects ≡ first.reads Objects = from.0 in
        (closed_begins (files Objects) (subst (λ (l : List ℕ). IsClosedFile l) (sym same) (closes tells)).closed, from.1 ∙ run.said tells))

    -- while the slots are laid out
    pub laying_out : (third : Disk) → (IsSettled first → IsSettled second) → Runs (In Objects KeepsGate) Same second third → LeavesOnly old third (NoneIn old)
    laying_out third settles_second slots =
        let told_second = logs.time.moments_told.0 told_first in
        let same : second.reads Objects ≡ first.reads Objects = logs.reads tells_first in
        let closed : IsClosedFile (second.reads Objects) = subst (λ (l : List ℕ). IsClosedFile l) (sym same) (closes tells) in
        goes_on old second third (NoneIn old) told_second logging slots.time (λ files said left.
        let from = from_reads second third (In Objects KeepsGate) Same told_second (settles_second (settles settled)) slots.crash files said left in
        (closed_begins (files Objects) (kept_closed (second.reads Objects) (files Objects) from.0.changed closed).closed, from.1 ∙ logs.said tells_first ∙ run.said tells))

-- so far none begins, whatever the start could leave
pub behind_start : (old mid new : Disk) → Stays old mid → old.tells_moments → LeavesOnly mid new (NoneIn mid) → LeavesOnly old new (OrAtStart old (NoneIn old))
behind_start old mid new kept told leaves = then_leaves old mid new (NoneIn old) kept told
    (weaker mid new (NoneIn mid) (NoneIn old) leaves (λ files said is. (is.0, is.1 ∙ kept.said (kept.begins.telling told))))

-- a target that is laid out has the copy of no object
pub begun_copy : (p : Params) (cells : ℕ → Cell) (first second third : Disk) → first.tells_files → IsClosedFile (first.reads Objects) → Runs LogsAlone Same first second → IsNewLog second.reads
    → Runs (In Objects KeepsGate) Same second third → IsSettled third → IsLaidOut p (third.reads Objects) → (IsNewFile p (opened (third.reads Objects)) → IsFilledTo p 0 cells (opened (third.reads Objects)))
    → IsPartCopy p 0 cells third
begun_copy p cells first second third tells closed logs log slots settled laid filled =
    let tells_second = logs.time.files_told.0 tells in
    let same : second.reads Objects ≡ first.reads Objects = logs.reads tells in
    let step = slots.reads tells_second in
    let shut : IsClosedFile (third.reads Objects) = kept_closed (second.reads Objects) (third.reads Objects) step.changed (subst (λ (l : List ℕ). IsClosedFile l) (sym same) closed) in
    record {
      objects = record { closed = shut; filled = filled laid.new; layout = laid.layout };
      shut = λ told files said left. subst (λ (l : List ℕ). IsClosedFile l) (sym (settled Objects told files said left)) shut;
      log = log_stays LogA new_header [] KeepsGate second.reads third.reads step log;
      settled = settled LogA;
    }
