-- The backup over the lines of a script, and what a run says of it.
use Rattle.std.proofs.Common.{arith, ◌≡◌, ◌∙◌, ap, sym, subst, refl, inl, inr, ⊎_elim, ◌⊎◌, ◌++◌, ◌||◌, ℕ, List, [], ◌∷◌, append_assoc, length, take, Option, None, Result, Ok, Err, IfOk, OnErr, Bool, false}
use Rattle.std.specs.Prelude.{IfSome}
use Rattle.std.proofs.lemmas.List.{append-nil, append_cancel_left}
use Rattle.std.proofs.lemmas.List.Elements.{Contains-append_left}
use Rattle.disk_model.specs.Disk.{Disk, IsDisk, LeavesOnly, Passes}
use Rattle.formats.specs.declared.params.Params.{Params}
use Rattle.explain_core.specs.World.{World}
use Rattle.op_codec.specs.AllOps.{all_meaning}
use Rattle.script_lines.specs.Replies.{Reply}
use Rattle.store_engine.specs.Engine.{EngineView, forced_in}
use Rattle.store_engine.specs.Paces.{first_pace}
use Rattle.store_engine.specs.declared.pace.Pace.{Pace}
use Rattle.backup_copy.specs.Copies.{Copies}
use Rattle.shell_base.specs.First.{Stage, stage_of}
use Rattle.shell_base.specs.Store.{Between, Command, Holds}
use Rattle.shell_base.specs.declared.stop.Stop.{Stop}
use Rattle.script_run.specs.declared.tending.Tending.{Tending}
use Rattle.script_run.specs.Answers.{with_begun}
use Rattle.script_run.specs.Run.{Answering, GoingOn, IsAnswered, IsPartly}
use Rattle.script_run.specs.Stages.{IsTendedTo, PacedStage}
use Rattle.script_run.specs.Saving.{AnsweringBeside, AsksBackup, AsksFinish, BackupGoesOn, BackupIsSaid, BackupSoFar, BackupStays, IsBackedUp, PassesBy, SaysOfBackup}
use Rattle.script_run.proofs.GroupLemmas.{AsksOnce}
use Rattle.script_run.specs.StartLaws.{AreFew, same_passes, says_none}
use Rattle.script_run.proofs.RunLemmas.{IsTold, gone_on, opened, told_begun, told_finish, told_here, told_quiet, whole_at, with_next}
use Rattle.script_run.proofs.SavingLemmas.{says_longer, says_next, whole_going}

-- an answer beside a backup is an answer
pub answering_of : {p : Params} {start old new : Disk} {before after : EngineView} {w : World Command} {commands : List Command} {line : List ℕ} {backup backed : Disk} (result : Result Bool Stop)
    → AnsweringBeside p start old new before after w commands line backup backed result → Answering p old new before after w commands line result
answering_of (Ok refusing) b = record { whole = b.whole.0; partly = tt; images = b.images; steps = b.steps }
answering_of {p} {start} {old} {new} {before} {after} {w} {commands} {line} {backup} {backed} (Err stop) b = record {
  whole = tt;
  partly = ⊎_elim
      (λ (quiet : (new.said ≡ old.said) × BackupStays p start old new before after w commands line backup backed). inl quiet.0)
      (λ (part : (its : IsPartly p old new (stage_of before w) commands line) × BackupIsSaid p start old new before after w commands line backup backed its.reply its.added). inr part.0)
      b.partly;
  images = b.images;
  steps = b.steps;
}

-- so do lines that were not come to
passes_more : {T : Type 0} (lines more : List (List ℕ)) (before after : T) → PassesBy lines before after → PassesBy (lines ++ more) before after
passes_more [] more before after same = subst (λ x. PassesBy more before x) (sym same) (same_passes more before)
passes_more (line ∷ lines) more before after passes = (passes.0, passes.1, passes_more lines more passes.0 after passes.2)

-- one line more
passes_on : {T : Type 0} (lines : List (List ℕ)) (line : List ℕ) (before mid after : T) → PassesBy lines before mid → ((AsksBackup line → ⊥) → after ≡ mid) → PassesBy (lines ++ line ∷ []) before after
passes_on [] line before mid after same goes = (after, λ other. goes other ∙ same, refl)
passes_on (l ∷ lines) line before mid after passes goes = (passes.0, passes.1, passes_on lines line passes.0 mid after passes.2 goes)

-- the same lines
pub passes_as : {T : Type 0} {lines others : List (List ℕ)} (before after : T) → lines ≡ others → PassesBy lines before after → PassesBy others before after
passes_as before after same passes = subst (λ (l : List (List ℕ)). PassesBy l before after) same passes

-- A run so far, and what it has made of the backup, which was in the one state as it began and is in the other now. So much was done
-- behind its last answer.
pub record BesideOn {T : Type 0} (does : PacedStage → PacedStage → Type 0) (tending : Tending) (disk : T → Disk) (before mid : T) (p : Params) (first : Stage) (start now : Disk) (engine : EngineView) (pace : Pace) (commands : List Command) (script todo : List (List ℕ)) (refusing : Bool) : Type 0 where
  pub going : GoingOn does tending p first start now engine pace commands script todo refusing
  pub passes : PassesBy going.lines before mid
  pub backup : (disk before).tells_files → BackupSoFar p (disk before) going.lines going.replies going.account.commands now engine going.holds.world (disk mid)

-- the store was tended, or nothing was done
abbrev pub GoingBeside : {T : Type 0} → Tending → (T → Disk) → T → T → Params → Stage → Disk → Disk → EngineView → Pace → List Command → List (List ℕ) → List (List ℕ) → Bool → Type 0
GoingBeside tending disk before mid p = BesideOn (IsTendedTo tending p) tending disk before mid p

abbrev pub FreshBeside : {T : Type 0} → Tending → (T → Disk) → T → T → Params → Stage → Disk → Disk → EngineView → Pace → List Command → List (List ℕ) → List (List ℕ) → Bool → Type 0
FreshBeside tending disk before mid p = BesideOn (λ old new. old ≡ new) tending disk before mid p

pub none_made : {p : Params} {d : Disk} {engine : EngineView} {w : World Command} (commands : List Command) (start : Disk) → engine.copied ≡ None → BackupSoFar p start [] [] commands d engine w start
none_made {p} {d} {engine} {w} commands start none = record {
  count = 0;
  forced = omega arith;
  going = record {
    says = says_none p [] [] start;
    store = (λ is. is, λ is. is);
    copying = subst (λ (o : Option ℕ). IfSome o (λ n. Copies all_meaning p d engine w start)) (sym none) tt;
  };
}

-- the line that it came to next
next_of : {tending : Tending} {p : Params} {first : Stage} {start new : Disk} {commands : List Command} {script lines : List (List ℕ)} {replies : List Reply} {every : List Command} {next : List (List ℕ)} (told : IsTold tending p first commands script start new lines replies every next)
    → take 1 told.truly.says.story.todo ≡ next ++ told.rest
next_of {lines = lines} {next = next} told =
    let rest = take 1 told.truly.says.story.todo in
    append_cancel_left lines rest (next ++ told.rest) (ap (λ (l : List (List ℕ)). l ++ rest) (sym told.lines_are) ∙ told.taken_are ∙ append_assoc lines next told.rest)

finish_among : (next rest : List (List ℕ)) → AsksFinish next → AsksFinish (next ++ rest)
finish_among next rest (line, has, asks) = (line, Contains-append_left next rest line has, asks)

-- what is said of the first commands, where no line was come to next, is true of all
says_all : {p : Params} {start now : Disk} {lines : List (List ℕ)} {replies : List Reply} (next : List (List ℕ)) (every all : List Command) → (all ≡ every) ⊎ ((next ≡ []) × (n : ℕ) × (every ≡ take n all))
    → SaysOfBackup p start lines replies next every now → SaysOfBackup p start lines replies next all now
says_all {p} {start} {now} {lines} {replies} next every all (inl same) says = subst (λ (l : List Command). SaysOfBackup p start lines replies next l now) (sym same) says
says_all {p} {start} {now} {lines} {replies} next every all (inr (none, n, is)) says =
    subst (λ (x : List (List ℕ)). SaysOfBackup p start lines replies x all now) (sym none)
    (says_longer n all (subst (λ (l : List Command). SaysOfBackup p start lines replies [] l now) is (subst (λ (x : List (List ℕ)). SaysOfBackup p start lines replies x every now) none says)))

-- what a run says of the backup
pub backed_up : {T : Type 0} (disk : T → Disk) {before later : T} {tending : Tending} {p : Params} {first : Stage} {start new : Disk} {commands : List Command} {script lines : List (List ℕ)} {replies : List Reply} {every : List Command} {next : List (List ℕ)}
    → IsTold tending p first commands script start new lines replies every next → PassesBy (lines ++ next) before later → ((disk before).tells_files → SaysOfBackup p (disk before) lines replies next every (disk later))
    → IsBackedUp tending disk p first commands script start new before later
backed_up disk {before} {later} {tending} {p} {lines = lines} {replies} {every} {next} told passes says = record {
  truly = told.truly;
  passes = passes_as before later (sym told.taken_are) (passes_more (lines ++ next) told.rest before later passes);
  says = λ tells.
      let story = told.truly.says.story in
      let due = take 1 story.todo in
      subst (λ (l : List (List ℕ)). SaysOfBackup p (disk before) l (with_begun story.replies story.work) due (story.account.commands ++ story.added) (disk later)) (sym told.lines_are)
      (subst (λ (r : List Reply). SaysOfBackup p (disk before) lines r due (story.account.commands ++ story.added) (disk later)) (sym told.replies_are)
      (subst (λ (n : List (List ℕ)). SaysOfBackup p (disk before) lines replies n (story.account.commands ++ story.added) (disk later)) (sym (next_of told))
      (says_next next (next ++ told.rest) (finish_among next told.rest) (says_all next every (story.account.commands ++ story.added) told.all (says tells)))));
}

-- a store is open, of which no backup is made yet
abbrev pub opened_beside : {T : Type 0} (disk : T → Disk) (before : T) → AreFew → {tending : Tending} {p : Params} {start : Disk} {engine : EngineView} {commands : List Command} {pace : Pace} (script : List (List ℕ)) → IsDisk start → (holds : Holds p start engine commands)
    → forced_in engine ≡ length commands → engine.group ≡ None → engine.copied ≡ None → pace ≡ first_pace → FreshBeside tending disk before before p (stage_of engine holds.world) start start engine pace commands script script false
opened_beside disk before few {commands = commands} script lawful holds all alone none is = record {
  going = opened few script lawful holds all alone is;
  passes = refl;
  backup = λ tells. none_made commands (disk before) none;
}

module _ {T : Type 0} (disk : T → Disk) {before mid later : T} {tending : Tending} {p : Params} {first : Stage} {start now new : Disk} {engine after : EngineView} {commands : List Command} {script todo : List (List ℕ)} {refusing : Bool} {pace : Pace} {result : Result Bool Stop}
    (few : AreFew) (line : List ℕ) (b : GoingBeside tending disk before mid p first start now engine pace commands script (line ∷ todo) refusing) (time : Passes start now) (backup_time : Passes (disk before) (disk mid))
    (a : AnsweringBeside p (disk before) now new engine after b.going.holds.world b.going.account.commands line (disk mid) (disk later) result) (idle : (AsksBackup line → ⊥) → later ≡ mid) where
  -- only a line of a backup did anything with it
  still_passes : PassesBy (b.going.lines ++ line ∷ []) before later
  still_passes = passes_on b.going.lines line before mid later b.passes idle

  -- what the answer leaves of the backup
  abbrev Whole : Bool → Type 0
  Whole refusing = (whole : IsAnswered p now new engine after b.going.holds.world b.going.account.commands line refusing)
      × BackupGoesOn p (disk before) now new engine after b.going.holds.world b.going.account.commands line (disk mid) (disk later) whole.reply whole.all whole.kept.holds.world

  -- the run goes on
  pub goes_on_beside : {kind : Bool} → AsksOnce → result ≡ Ok kind → FreshBeside tending disk before later p first start new after pace commands script todo (refusing || kind)
  goes_on_beside {kind} once is =
      let g = b.going in
      let both : Whole kind = subst (λ (r : Result Bool Stop). IfOk r Whole) is a.whole in
      let whole = both.0 in
      let on = gone_on few once line g time (answering_of result a) whole in
      record {
        going = on.later;
        passes = passes_as before later (sym on.lines_are) still_passes;
        backup = λ tells.
            subst (λ (l : List (List ℕ)). BackupSoFar p (disk before) l on.later.replies on.later.account.commands new after on.later.holds.world (disk later)) (sym on.lines_are)
            (subst (λ (r : List Reply). BackupSoFar p (disk before) (g.lines ++ line ∷ []) r on.later.account.commands new after on.later.holds.world (disk later)) (sym on.replies_are)
            (subst (λ (c : List Command). BackupSoFar p (disk before) (g.lines ++ line ∷ []) (g.replies ++ whole.reply ∷ []) c new after on.later.holds.world (disk later)) (sym on.commands_are)
            (subst (λ (v : World Command). BackupSoFar p (disk before) (g.lines ++ line ∷ []) (g.replies ++ whole.reply ∷ []) whole.all new after v (disk later)) (sym on.world_is)
            (both.1 (backup_time.files_told.0 tells) g.lines g.replies (b.backup tells)))));
      }

  abbrev Quiet : Type 0
  Quiet = (new.said ≡ now.said) × BackupStays p (disk before) now new engine after b.going.holds.world b.going.account.commands line (disk mid) (disk later)

  abbrev Begun : Type 0
  Begun = (part : IsPartly p now new (stage_of engine b.going.holds.world) b.going.account.commands line)
      × BackupIsSaid p (disk before) now new engine after b.going.holds.world b.going.account.commands line (disk mid) (disk later) part.reply part.added

  -- or it ends while the line is answered
  pub ends_in_line_beside : {stop : Stop} → result ≡ Err stop → IsBackedUp tending disk p first commands script start new before later
  ends_in_line_beside is = ⊎_elim
      (λ (quiet : Quiet). backed_up disk (told_quiet line b.going time (answering_of result a) quiet.0) still_passes (λ tells. quiet.1 (backup_time.files_told.0 tells) b.going.lines b.going.replies (b.backup tells)))
      (λ (part : Begun).
      let (kept, within, which, says) = part.1 in
      backed_up disk (told_begun line b.going time (answering_of result a) part.0 kept within (whole_at b.going kept which))
      (passes_as before later (sym (append-nil (b.going.lines ++ line ∷ []))) still_passes)
      (λ tells. says (backup_time.files_told.0 tells) b.going.lines b.going.replies (b.backup tells)))
      (subst (λ (r : Result Bool Stop). OnErr r (Quiet ⊎ Begun)) is a.partly)

-- a run that ends between two lines, or in the last force
module _ {T : Type 0} (disk : T → Disk) {before mid : T} {tending : Tending} {p : Params} {first : Stage} {start now : Disk} {engine : EngineView} {commands : List Command} {script : List (List ℕ)} {refusing : Bool} {does : PacedStage → PacedStage → Type 0} {pace : Pace} where
  pub ends_here_beside : {todo : List (List ℕ)} → BesideOn does tending disk before mid p first start now engine pace commands script todo refusing → IsBackedUp tending disk p first commands script start now before mid
  ends_here_beside b = backed_up disk (told_here b.going) (passes_as before mid (sym (append-nil b.going.lines)) b.passes) (λ tells. (whole_going (b.backup tells)).says)

  pub ends_in_finish_beside : {new : Disk} (b : BesideOn does tending disk before mid p first start now engine pace commands script [] refusing) → Passes start now → new.said ≡ now.said
      → (now.tells_moments → LeavesOnly now new (Between p now None (forced_in engine) (length b.going.account.commands) b.going.account.commands)) → IsBackedUp tending disk p first commands script start new before mid
  ends_in_finish_beside b time quiet images = backed_up disk (told_finish b.going time quiet images) (passes_as before mid (sym (append-nil b.going.lines)) b.passes) (λ tells. (whole_going (b.backup tells)).says)

  -- the lines that are left
  pub goes_to_beside : {todo : List (List ℕ)} (rest : List (List ℕ)) → BesideOn does tending disk before mid p first start now engine pace commands script todo refusing → todo ≡ rest → BesideOn does tending disk before mid p first start now engine pace commands script rest refusing
  goes_to_beside rest b is = subst (λ (l : List (List ℕ)). BesideOn does tending disk before mid p first start now engine pace commands script l refusing) is b

  -- a run that has answered all its lines has one more
  pub next_beside : (line : List ℕ) → BesideOn does tending disk before mid p first start now engine pace commands script [] refusing → BesideOn does tending disk before mid p first start now engine pace commands (script ++ line ∷ []) (line ∷ []) refusing
  next_beside line b = record { going = with_next line b.going; passes = b.passes; backup = b.backup }
