-- What was found for a line is said.
use Rattle.std.proofs.Common.{◌≡◌, ap, refl, subst, sym, List, ℕ, [], Bool, Some, Result, Ok, Err, arith, false}
use Rattle.std.specs.Prelude.{IsErr, IsTrue}
use Rattle.std.specs.Option.{is_some}
use Rattle.std.specs.Result.{IsErrAnd}
use Rattle.std.proofs.lemmas.List.{append-nil}
use Rattle.disk_model.specs.Disk.{Disk, IsDisk, Same, SaysFront}
use Rattle.disk_model.specs.Moments.{passes_none, passes_twice, runs_silent}
use Rattle.formats.specs.declared.params.Params.{Params}
use Rattle.op_codec.specs.AllOps.{all_meaning}
use Rattle.script_lines.specs.Grammar.{AsksFor}
use Rattle.script_lines.specs.declared.answer.Answer.{Answer}
use Rattle.script_lines.specs.declared.line.Line.TheVariants.{Save}
use Rattle.script_lines.specs.declared.line.Saving.{Saving}
use Rattle.script_lines.specs.Replies.{reply_of, silence}
use Rattle.store_engine.specs.Engine as of_engine
use Rattle.store_engine.specs.Engine.{EngineView}
use Rattle.shell_base.specs.Stops.{IsUndamaged}
use Rattle.shell_base.specs.Store.{Command, Holds, Says}
use Rattle.shell_base.specs.declared.stop.Stop.{Stop}
use Rattle.shell_base.specs.declared.stop.Stop.TheVariants.{Memory}
use Rattle.shell_base.specs.HoldLaws.{always, attached_said, holds_between}
use Rattle.shell_base.specs.StopLaws.{passed_whole}
use Rattle.script_run.specs.Finding.{AnswersBeside, FindsBeside, IsLineOf, IsSaid, outcome_reply}
use Rattle.script_run.specs.Run.{IsCausedBeside}
use Rattle.script_run.specs.Saving.{IsSaving, IsSavingDone}
use Rattle.script_run.specs.declared.outcome.Outcome.{Outcome}
use Rattle.script_run.proofs.DoneLemmas.{SaysAlone, SaysWithin}
use Rattle.script_run.proofs.MomentLemmas.{works_at_once}
use Rattle.script_run.proofs.RunLemmas.{stops_before, works_none}
use Rattle.script_run.proofs.SavingLemmas.{beside_quiet}
use Rattle.script_run.proofs.SavingSaid.{passed_beside, said_beside, saving_said, saving_stopped, saving_works}

-- The answer to a line of a backup is found.
pub saving_finds : {M T : Type 0} (first : M → Disk) (disk : T → Disk) {old now : M} {before after : EngineView} {backup backed : T} (saving : Saving) {result : Result Answer Stop} → IsDisk (first old)
    → IsSaving (Save saving) (first old) (first now) before after (disk backup) (disk backed) result → (IsTrue (is_some before.group) → now ≡ old)
    → ((start : T) (p : Params) (commands : List Command) (line : List ℕ) → (holds : Holds p (first old) before commands) → AsksFor line (Save saving)
    → IsSavingDone p (disk start) (first old) (first now) before after holds.world commands line (disk backup) (disk backed) result)
    → FindsBeside reply_of disk (IsLineOf (Some (Save saving))) (first old) (first now) before after backup backed result
saving_finds {M} first disk {old} {now} saving lawful call inside done = record {
  time = call.time;
  backup_time = call.backup_time;
  quiet = call.quiet;
  cause = call.cause;
  undamaged = call.undamaged;
  attached = call.attached;
  unbroken = call.unbroken;
  idle = λ line asks other. absurd (other (Save saving, tt, asks));
  images = λ p commands line asks holds. works_none (call.images p commands holds);
  works = λ p commands line asks holds. saving_works saving lawful holds asks (λ some. ap first (inside some)) (call.steps p holds.world holds.shows);
  done = λ start p commands line asks holds. done start p commands line holds asks;
}

module _ {T : Type 0} {disk : T → Disk} {asks : List ℕ → Type 0} {old mid : Disk} {before after : EngineView} {backup backed : T} where
  -- it is said, or a beginning of it
  pub answers_said : {new : Disk} {outcome : Outcome} (result : Result Bool Stop) → FindsBeside (outcome_reply after) disk asks old mid before after backup backed (Ok outcome) → IsDisk new
      → ((p : Params) (all : List Command) → of_engine.Holds all_meaning p mid after all → Says p mid after all) → SaysAlone mid after → SaysWithin mid after → IsSaid (outcome_reply after outcome) mid new result
      → AnswersBeside disk asks old new before after backup backed result
  answers_said {new} {outcome} result f lawful stands alone within s = record {
    time = passes_twice old mid new lawful f.time s.runs.time;
    backup_time = f.backup_time;
    cause = said_beside result old mid new (disk backup) (disk backed) f.time s.cause;
    undamaged = λ told attached. s.undamaged;
    attached = λ attached. always result (attached_said mid new after s.runs (f.attached attached));
    unbroken = always result f.unbroken;
    idle = f.idle;
    answers = λ start p commands line asked holds.
        saving_said (outcome_reply after) outcome result holds (f.done start p commands line asked holds) (stands p) alone within (f.images p commands line asked holds) (f.works p commands line asked holds) f.time s.runs s.all s.kind;
  }

  -- nothing is said of it, since the call failed
  pub answers_stopped : (result : Result Bool Stop) (found : Result Outcome Stop) (why : Stop) → IsErrAnd result (λ stop. stop ≡ why) → IsErr result → found ≡ Err why
      → FindsBeside (outcome_reply after) disk asks old mid before after backup backed found → AnswersBeside disk asks old mid before after backup backed result
  answers_stopped (Ok refusing) found why is err was f = absurd (cc err)
  answers_stopped (Err stop) found why is err was f = record {
    time = f.time;
    backup_time = f.backup_time;
    cause = passed_beside {T = Bool} (Err stop) found why old mid (disk backup) (disk backed) is was f.cause;
    undamaged = λ told attached. passed_whole {T = Bool} (Err stop) found why is was (f.undamaged told attached);
    attached = λ attached. tt;
    unbroken = tt;
    idle = f.idle;
    answers = λ start p commands line asked holds.
        saving_stopped (outcome_reply after) (Err stop) found was err (f.done start p commands line asked holds) (f.images p commands line asked holds) (f.works p commands line asked holds) (f.quiet holds.shows.shows.told);
  }

  -- so are other lines, if each of them is one of these
  pub answers_for : {others : List ℕ → Type 0} {result : Result Bool Stop} → ((line : List ℕ) → others line → asks line) → AnswersBeside disk asks old mid before after backup backed result → AnswersBeside disk others old mid before after backup backed result
  answers_for so a = record {
    time = a.time;
    backup_time = a.backup_time;
    cause = a.cause;
    undamaged = a.undamaged;
    attached = a.attached;
    unbroken = a.unbroken;
    idle = λ line other. a.idle line (so line other);
    answers = λ start p commands line other. a.answers start p commands line (so line other);
  }

-- there was no memory to find out what the line asks
pub unasked : {T : Type 0} {disk : T → Disk} {asks : List ℕ → Type 0} {d : Disk} {engine : EngineView} {backup : T} (result : Result Bool Stop) → IsErr result → IsErrAnd result (λ stop. stop ≡ Memory) → IsDisk d
    → AnswersBeside disk asks d d engine engine backup backup result
unasked (Ok refusing) err is lawful = absurd (cc err)
unasked {disk = disk} {d = d} {backup = backup} (Err stop) err is lawful = record {
  time = passes_none d;
  backup_time = passes_none (disk backup);
  cause = subst (λ (s : Stop). IsCausedBeside s d d (disk backup) (disk backup)) (sym is) tt;
  undamaged = λ told attached. subst IsUndamaged (sym is) tt;
  attached = λ attached. tt;
  unbroken = tt;
  idle = λ line asked other. refl;
  answers = λ start p commands line asked holds.
      beside_quiet (disk backup) (Err stop) err refl (stops_before (Err stop) err (works_none (holds_between lawful holds)) (works_at_once line lawful holds) refl);
}

-- of a line that gets no answer nothing is said
pub said_nothing : {d : Disk} → IsDisk d → IsSaid silence d d (Ok false)
said_nothing {d} lawful = record {
  runs = runs_silent d Same (SaysFront []) (λ c. refl) (0, omega arith, sym (append-nil d.said)) lawful;
  all = λ told. sym (append-nil d.said);
  kind = refl;
  cause = tt;
  undamaged = tt;
}
