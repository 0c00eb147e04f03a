-- What is noted of a script's lines.
use Rattle.std.proofs.Common.{◌≡◌, ◌⊎◌, ◌+◌, ◌++◌, ◌∙◌, ⊎_elim, List, ℕ, [], ◌∷◌, Bool, Option, None, Some, Result, Ok, Err, IsErr, length, length-append, append_assoc, ap, arith, refl, subst, sym}
use Rattle.std.specs.List.{AllByRecursion}
use Rattle.script_lines.specs.Grammar.{IsBad}
use Rattle.script_lines.specs.Reading.{IsLine}
use Rattle.script_lines.specs.declared.next.Next.{Next}
use Rattle.shell_base.specs.Status.{status_after, status_of}
use Rattle.shell_base.specs.declared.stop.Stop.{Stop}
use Rattle.shell_base.specs.declared.stop.Stop.TheVariants as stops
use Rattle.shell_base.specs.declared.status.Status.{Status}
use Rattle.shell_base.specs.declared.status.Status.TheVariants.{Done, DoneWithRefusals, Damaged, Memory, SayFault}
use Rattle.script_run.specs.Noted.{IsFirstBad, IsFirstBadAt, Noted, NotesFront, TakesInput, TakesLine, TakesLineIf, TakesScript, or_this}

-- what was found first stays, and what is found now is the first where nothing was found before
pub first_kept : {found old : Option ℕ} {a : ℕ} (n : ℕ) → found ≡ Some a → found ≡ old → found ≡ or_this old n
first_kept n is same = is ∙ ap (λ (o : Option ℕ). or_this o n) (sym is ∙ same)

pub first_now : {found old : Option ℕ} {n : ℕ} → found ≡ None → found ≡ old → Some n ≡ or_this old n
first_now {found} {old} {n} none same = ap (λ (o : Option ℕ). or_this o n) (sym none ∙ same)

all_push : (P : List ℕ → Type 0) (lines : List (List ℕ)) (line : List ℕ) → AllByRecursion P lines → P line → AllByRecursion P (lines ++ line ∷ [])
all_push P [] line all is = (is, tt)
all_push P (first ∷ lines) line all is = (all.0, all_push P lines line all.1 is)

-- one line more
found_before : (number : ℕ) (lines : List (List ℕ)) (line : List ℕ) → IsFirstBadAt number lines → IsFirstBadAt number (lines ++ line ∷ [])
found_before number lines line first = record {
  before = first.before;
  line = first.line;
  after = first.after ++ line ∷ [];
  lines_are = ap (λ (l : List (List ℕ)). l ++ line ∷ []) first.lines_are ∙ append_assoc first.before (first.line ∷ first.after) (line ∷ []);
  number_is = first.number_is;
  bad = first.bad;
  fine = first.fine;
}

fine_line : (found : Option ℕ) (lines : List (List ℕ)) (line : List ℕ) → (IsBad line → ⊥) → IsFirstBad found lines → IsFirstBad found (lines ++ line ∷ [])
fine_line None lines line fine first = all_push (λ other. IsBad other → ⊥) lines line first fine
fine_line (Some number) lines line fine first = found_before number lines line first

bad_line : (found : Option ℕ) (lines : List (List ℕ)) (line : List ℕ) → IsBad line → IsFirstBad found lines → IsFirstBad (or_this found (length lines + 1)) (lines ++ line ∷ [])
bad_line None lines line bad first = record { before = lines; line = line; after = []; lines_are = refl; number_is = refl; bad = bad; fine = first }
bad_line (Some number) lines line bad first = found_before number lines line first

-- one is taken
pub notes_on : {next : Next} {stored : List ℕ} {script todo rest : List (List ℕ)} {old new : Noted} (line : List ℕ) → TakesLine next stored old new → IsLine next stored line → todo ≡ line ∷ rest → NotesFront script todo old → NotesFront script rest new
notes_on {rest = rest} {old = old} {new = new} line taken is todo_is front =
    let lines = front.lines ++ line ∷ [] in
    let count : new.lines ≡ length front.lines + 1 = taken.lines ∙ ap (λ (n : ℕ). n + 1) front.count in
    record {
      lines = lines;
      script_is = front.script_is ∙ ap (λ (l : List (List ℕ)). front.lines ++ l) todo_is ∙ sym (append_assoc front.lines (line ∷ []) rest);
      count = omega (arith, count, length-append front.lines (line ∷ []));
      first = ⊎_elim
          (λ (bad : IsBad line × (new.first_bad ≡ or_this old.first_bad new.lines)).
          subst (λ (found : Option ℕ). IsFirstBad found lines) (sym (bad.1 ∙ ap (λ (n : ℕ). or_this old.first_bad n) count)) (bad_line old.first_bad front.lines line bad.0 front.first))
          (λ (fine : (IsBad line → ⊥) × (new.first_bad ≡ old.first_bad)). subst (λ (found : Option ℕ). IsFirstBad found lines) (sym fine.1) (fine_line old.first_bad front.lines line fine.0 front.first))
          (taken.first_bad line is);
    }

-- it is where the line was answered
pub line_taken : {result : Result Bool Stop} {next : Next} {stored : List ℕ} {old new : Noted} (value : Bool) → result ≡ Ok value → TakesLineIf result next stored old new → TakesLine next stored old new
line_taken value is taken = ⊎_elim (λ it. it) (λ failed. absurd (cc (subst (λ (r : Result Bool Stop). IsErr r) is failed.0))) taken

-- and else it may be
pub notes_to : (result : Result Bool Stop) {next : Next} {stored : List ℕ} {script todo rest : List (List ℕ)} {old new : Noted} (line : List ℕ) → TakesLineIf result next stored old new → IsLine next stored line → todo ≡ line ∷ rest → NotesFront script todo old
    → (left : List (List ℕ)) × NotesFront script left new
notes_to result {script = script} {todo = todo} {rest = rest} {old = old} {new = new} line taken is todo_is front =
    ⊎_elim (λ it. (rest, notes_on line it is todo_is front)) (λ failed. (todo, subst (λ (n : Noted). NotesFront script todo n) (sym failed.1) front)) taken

-- a run that did not answer its script notes what it took of it
abbrev IsDone : Status → Type 0
IsDone status = (status ≡ Done) ⊎ (status ≡ DoneWithRefusals)

pub stop_undone : (stop : Stop) → IsDone (status_of stop) → ⊥
stop_undone stops.DiskFault done = ⊎_elim (λ e. cc e) (λ e. cc e) done
stop_undone (stops.Damaged file place) done = ⊎_elim (λ e. cc e) (λ e. cc e) done
stop_undone stops.ReadFault done = ⊎_elim (λ e. cc e) (λ e. cc e) done
stop_undone stops.SayFault done = ⊎_elim (λ e. cc e) (λ e. cc e) done
stop_undone stops.BackupFault done = ⊎_elim (λ e. cc e) (λ e. cc e) done
stop_undone stops.Memory done = ⊎_elim (λ e. cc e) (λ e. cc e) done
stop_undone stops.TooLong done = ⊎_elim (λ e. cc e) (λ e. cc e) done

pub damage_undone : (status : Status) → (status ≡ Damaged) ⊎ ((status ≡ Memory) ⊎ (status ≡ SayFault)) → IsDone status → ⊥
damage_undone status ends done =
    let one : (other : Status) → (other ≡ Done → ⊥) → (other ≡ DoneWithRefusals → ⊥) → status ≡ other → ⊥ = λ other first second is. ⊎_elim (λ e. first (sym is ∙ e)) (λ e. second (sym is ∙ e)) done in
    ⊎_elim (λ is. one Damaged (λ e. cc e) (λ e. cc e) is) (λ rest. ⊎_elim (λ is. one Memory (λ e. cc e) (λ e. cc e) is) (λ is. one SayFault (λ e. cc e) (λ e. cc e) is) rest) ends

module _ {left rest : List ℕ} {noted : Noted} where
  pub undone_input : {result : Result Bool Stop} (status : Status) → (IsDone status → ⊥) → TakesScript left rest noted result → TakesInput left rest noted status
  undone_input status undone taken = record {
    all = λ done. absurd (undone done);
    notes = record { todo = taken.todo; front = taken.front; all = λ done. absurd (undone done) };
  }

  pub script_input : (result : Result Bool Stop) (status : Status) → status ≡ status_after result → TakesScript left rest noted result → TakesInput left rest noted status
  script_input (Ok refusing) status is taken = record { all = λ done. (taken.all.1, taken.all.2); notes = record { todo = taken.todo; front = taken.front; all = λ done. taken.all.0 } }
  script_input (Err stop) status is taken = undone_input status (λ done. stop_undone stop (subst IsDone is done)) taken
