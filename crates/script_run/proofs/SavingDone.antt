-- How the lines of a backup are answered, and how the backup goes on by it.
use Rattle.std.proofs.Common.{◌≡◌, ◌∙◌, ap, sym, subst, refl, ◌⊎◌, inl, inr, ⊎_elim, ◌≤◌, ◌<◌, ◌+◌, ◌++◌, ℕ, zero, suc, List, [], ◌∷◌, length, length-append, get_or, drop, take, arith, Contains, min, Option, Some, None, Result, Ok, Err, IfErr, IfOk, OnErr, OnOk}
use Rattle.std.specs.Prelude.{⊤, IfSome, IsTrue}
use Rattle.std.specs.Option.{is_some}
use Rattle.std.specs.Result.{IsErrOf}
use Rattle.std.proofs.lemmas.Bool.{cases_eq}
use Rattle.std.proofs.lemmas.List.{append-nil, take_all}
use Rattle.std.proofs.lemmas.List.Elements.{Contains-push}
use Rattle.disk_model.specs.Disk.{Files, Disk, In, IsDisk, LeavesOnly, Passes, Runs, Same, Stays}
use Rattle.disk_model.specs.Moments.{first_call, passes_twice, runs_on, weaker}
use Rattle.disk_model.specs.declared.machine.FileNo.{FileNo}
use Rattle.disk_model.specs.declared.machine.FileNo.TheVariants.{Objects}
use Rattle.formats.specs.Objects.{BeginsStore}
use Rattle.formats.specs.declared.params.Params.{Params}
use Rattle.stable_objects.specs.GateLaws.{closed_begins, kept_closed}
use Rattle.stable_objects.specs.Laws.{begins_store}
use Rattle.stable_objects.specs.Making.{KeepsGate}
use Rattle.explain_core.specs.History.{commands_of}
use Rattle.explain_core.specs.World.{World, run}
use Rattle.running_store.specs.Courses.{force_steps}
use Rattle.running_store.specs.Running.{run_upkept}
use Rattle.cache_manager.specs.Upkeep.{upkeep_force}
use Rattle.restart.specs.Starts.{OrAtStart, at_start}
use Rattle.op_codec.specs.AllOps.{all_meaning}
use Rattle.script_lines.specs.Grammar.{Request, AsksFor}
use Rattle.script_lines.specs.declared.backup_denial.BackupDenial.{BackupDenial}
use Rattle.script_lines.specs.declared.line.Line.TheVariants.{Save}
use Rattle.script_lines.specs.declared.line.Saving.TheVariants.{Start as bstart, Copy as bcopy, Finish as bfinish}
use Rattle.script_lines.specs.Replies.{Reply, ok, full, in_group, copied, saved, backup_denied}
use Rattle.script_lines.specs.declared.answer.Answer.{Answer}
use Rattle.script_lines.specs.declared.answer.Answer.TheVariants as answers
use Rattle.script_lines.specs.declared.backup_denial.BackupDenial.TheVariants as denials
use Rattle.store_engine.specs.Engine as of_engine
use Rattle.store_engine.specs.Engine.{EngineView, InEachImage, IsEngineRead, forced_in, params_of, used_in}
use Rattle.backup_copy.specs.Calls.{BeginsNone, CopiesUpTo, CopyFailsBy, FinishFailsBy, ForcesFirst, HasForced, HasLength, HasStartCause, IsFault, IsShutOrWhole, IsUntouched, LooksFirst, NoneIn, but_copied, copied_by_finish, copied_by_start}
use Rattle.backup_copy.specs.Copies.{Copies}
use Rattle.backup_copy.specs.Length.{backup_length}
use Rattle.backup_copy.specs.Refusals.{IsRefusedSo, judge_copy, judge_finish, judge_start}
use Rattle.backup_copy.specs.Target.{AreShut}
use Rattle.backup_copy.specs.declared.backup_err.BackupErr.{BackupErr}
use Rattle.backup_copy.specs.declared.backup_err.BackupErr.TheVariants as errors
use Rattle.shell_base.specs.First.{stage_of}
use Rattle.shell_base.specs.Store.{Command, Holds, ShowsIn, Stands, meaning_in}
use Rattle.shell_base.specs.declared.stop.Stop.{Stop as Early}
use Rattle.shell_base.specs.declared.stop.Stop.TheVariants.{BackupFault, Damaged, DiskFault, Memory}
use Rattle.shell_base.specs.HoldLaws.{each_stays, in_engine}
use Rattle.script_run.specs.Found.{IsDone, IsOfEngine}
use Rattle.script_run.specs.Groups.{Regroups, open_in}
use Rattle.script_run.specs.Replies.{IsBarred, IsDenied, Replies}
use Rattle.script_run.specs.Saving.{BackupGoesOn, BackupGoing, FindsStore, IsSavingDone, KeepsAll, MayBeLeft, SaysOfBackup, WasThere, answer_of_backup_error, store_after, store_behind}
use Rattle.script_run.specs.Stages.{GoesBy, IsDeniedAt, forced_stage, with_copied}
use Rattle.script_run.specs.StoryLaws.{grows_to}
use Rattle.script_run.proofs.CourseLemmas.{logged_force}
use Rattle.script_run.proofs.DoneLemmas.{HasRisen, risen, unmoved}
use Rattle.script_run.proofs.GroupLemmas.{none_open}
use Rattle.script_run.proofs.OpenGroups.{some_open}
use Rattle.script_run.proofs.SavingCalls.{CopyJudged, FinishJudged, StartJudged, answer_of_call, copy_barred, copy_denied, copy_allowed, copy_judged, finish_barred, finish_denied, finish_early, finish_allowed, finish_judged, refused_along, start_barred, start_denied, start_allowed, start_judged}
use Rattle.script_run.proofs.SavingLemmas.{GoesOnAll, StaysAll, full_last, goes_all, goes_so, same_first, says_come, says_more, says_on, stays_so, store_more}

-- whether a store begins there
list_cases : (xs ys : List ℕ) → (xs ≡ ys) ⊎ (xs ≡ ys → ⊥)
list_cases [] [] = inl refl
list_cases [] (y ∷ ys) = inr (λ e. cc e)
list_cases (x ∷ xs) [] = inr (λ e. cc e)
list_cases (x ∷ xs) (y ∷ ys) = ⊎_elim
    (λ (first : x ≡ y). ⊎_elim (λ (rest : xs ≡ ys). inl (λ i. first i ∷ rest i)) (λ (other : xs ≡ ys → ⊥). inr (λ e. other (ap (λ (l : List ℕ). drop 1 l) e))) (list_cases xs ys))
    (λ (other : x ≡ y → ⊥). inr (λ e. other (ap (λ (l : List ℕ). get_or l 0 0) e)))
    (cases_eq x y)

begins_cases : (file : List ℕ) → BeginsStore file ⊎ (BeginsStore file → ⊥)
begins_cases file = list_cases (take 8 file) _

-- a store that is there stays there
after_it : (there : Type 0) (reply : Reply) → there → store_after there reply
after_it there (saved n) it = tt
after_it there reply it = it

store_stays : (there : Type 0) (replies : List Reply) → there → store_behind there replies
store_stays there [] it = it
store_stays there (reply ∷ replies) it = store_stays (store_after there reply) replies (after_it there reply it)

-- one that was saved is there
saved_behind : (there : Type 0) (replies : List Reply) (n : ℕ) → Contains replies (saved n) → store_behind there replies
saved_behind there [] n (k, small, is) = absurd (omega (arith, small))
saved_behind there (reply ∷ replies) n (zero, small, is) = store_stays (store_after there reply) replies (subst (λ (r : Reply). store_after there r) (sym is) tt)
saved_behind there (reply ∷ replies) n (suc k, small, is) = saved_behind (store_after there reply) replies n (k, omega (arith, small), is)

-- no store begins behind a closed gate
shut_none : (files : Files) → AreShut files → BeginsStore (files Objects) → ⊥
shut_none files shut begins = closed_begins (files Objects) shut.closed begins

copies_closed : {p : Params} {d : Disk} {engine : EngineView} {w : World Command} {t : Disk} → Copies all_meaning p d engine w t → t.tells_files → BeginsStore (t.reads Objects) → ⊥
copies_closed {t = t} copies told = shut_none t.reads (copies.target told).objects.closed

copying_of : {p : Params} {d : Disk} {engine : EngineView} {w : World Command} {t : Disk} → Copies all_meaning p d engine w t → IfSome engine.copied (λ n. Copies all_meaning p d engine w t)
copying_of {p} {d} {engine} {w} {t} copies = subst (λ (o : Option ℕ). IfSome o (λ n. Copies all_meaning p d engine w t)) (sym copies.so_far) copies

no_copying : (p : Params) (d : Disk) (engine : EngineView) (w : World Command) (t : Disk) → engine.copied ≡ None → IfSome engine.copied (λ n. Copies all_meaning p d engine w t)
no_copying p d engine w t none = subst (λ (o : Option ℕ). IfSome o (λ n. Copies all_meaning p d engine w t)) (sym none) tt

-- what a call on the backup's machine may leave, whatever was said
abbrev Q : Params → List (List ℕ) → List Reply → List (List ℕ) → List Command → Files → List ℕ → Type 0
Q p lines replies next commands files said = MayBeLeft p lines replies next commands files

-- where nothing is written it is all kept
moved_kept : (start t u : Disk) → IsDisk t → Passes start t → Stays t u → t.tells_files → KeepsAll start t → KeepsAll start u
moved_kept start t u lawful so_far stays told (same, images) = (
  stays.reads told ∙ same,
  λ telling.
      let before = images telling in
      runs_on start t u (WasThere start) before
      (weaker t u (OrAtStart t (λ files said. ⊥)) (WasThere start) (at_start t u (λ files said. ⊥) stays (so_far.moments_told.0 telling)) (λ files said here. ⊎_elim
      (λ was. before.each files said (lawful.among start.clock t.clock files said before.later (omega arith) was))
      (λ none. absurd none)
      here)),
)

module _ {p : Params} {start t u : Disk} (lawful : IsDisk t) (ends : IsDisk u) (time : Passes t u) where
  moved : {lines : List (List ℕ)} {replies : List Reply} {commands : List Command} (next : List (List ℕ)) → SaysOfBackup p start lines replies [] commands t → (BeginsStore (start.reads Objects) → KeepsAll start t → KeepsAll start u)
      → ((n : ℕ) → Contains replies (saved n) → InEachImage u (λ files. Stands p files (take n commands))) → (t.tells_moments → LeavesOnly t u (OrAtStart t (Q p lines replies next commands))) → SaysOfBackup p start lines replies next commands u
  moved {lines} {replies} {commands} next says kept saves images = record {
    time = passes_twice start t u ends says.time time;
    saves = λ n has. ((says.saves n has).0, saves n has);
    finds = says.finds;
    kept = λ begins. kept begins (says.kept begins);
    images = λ told.
        let before = (says_come next says).images told in
        runs_on start t u (OrAtStart start (Q p lines replies next commands)) before
        (weaker t u (OrAtStart t (Q p lines replies next commands)) (OrAtStart start (Q p lines replies next commands)) (images (says.time.moments_told.0 told)) (λ files said here. ⊎_elim
        (λ was. before.each files said (lawful.among start.clock t.clock files said before.later (omega arith) was))
        (λ left. inr left)
        here));
  }

  -- nothing was saved where no store begins
  none_saved : {lines : List (List ℕ)} {replies : List Reply} {commands : List Command} {d : Disk} {engine : EngineView} {w : World Command} → BackupGoing p start lines replies commands d engine w t → (BeginsStore (t.reads Objects) → ⊥)
      → (n : ℕ) → Contains replies (saved n) → ⊥
  none_saved {replies = replies} g none n has = none (g.store.1 (saved_behind (BeginsStore (start.reads Objects)) replies n has))

  -- nor was one there as the run began
  none_kept : {lines : List (List ℕ)} {replies : List Reply} {commands : List Command} {d : Disk} {engine : EngineView} {w : World Command} → BackupGoing p start lines replies commands d engine w t → (BeginsStore (t.reads Objects) → ⊥)
      → BeginsStore (start.reads Objects) → KeepsAll start t → KeepsAll start u
  none_kept {replies = replies} g none begins kept = absurd (none (g.store.1 (store_stays (BeginsStore (start.reads Objects)) replies begins)))

  -- the machine was only read
  moved_still : {lines : List (List ℕ)} {replies : List Reply} {commands : List Command} (next : List (List ℕ)) → Stays t u → t.tells_files → SaysOfBackup p start lines replies [] commands t → SaysOfBackup p start lines replies next commands u
  moved_still {lines} {replies} {commands} next stays told says =
      moved next says (λ begins kept. moved_kept start t u lawful says.time stays told kept) (λ n has. each_stays {P = λ (files : Files). Stands p files (take n commands)} stays told (says.saves n has).1) (λ telling. at_start t u (Q p lines replies next commands) stays telling)

  -- no store was there, and none is meanwhile
  moved_none : {lines : List (List ℕ)} {replies : List Reply} {commands : List Command} {d : Disk} {engine : EngineView} {w : World Command} (next : List (List ℕ)) → BackupGoing p start lines replies commands d engine w t → (BeginsStore (t.reads Objects) → ⊥)
      → (t.tells_moments → LeavesOnly t u (OrAtStart t (NoneIn t))) → SaysOfBackup p start lines replies next commands u
  moved_none {lines} {replies} {commands} next g none images =
      moved next g.says (none_kept g none) (λ n has. absurd (none_saved g none n has)) (λ telling. weaker t u (OrAtStart t (NoneIn t)) (OrAtStart t (Q p lines replies next commands)) (images telling) (λ files said here. ⊎_elim (λ was. inl was) (λ gone. inr (inl (inl gone.0))) here))

  -- the gate was closed, and stayed so
  moved_shut : {lines : List (List ℕ)} {replies : List Reply} {commands : List Command} {d : Disk} {engine : EngineView} {w : World Command} (next : List (List ℕ)) → BackupGoing p start lines replies commands d engine w t → t.tells_files → Copies all_meaning p d engine w t
      → Runs (In Objects KeepsGate) Same t u → SaysOfBackup p start lines replies next commands u
  moved_shut {lines} {replies} {commands} next g told copies runs =
      moved next g.says (none_kept g (copies_closed copies told)) (λ n has. absurd (none_saved g (copies_closed copies told) n has))
      (λ telling. first_call t u (OrAtStart t (Q p lines replies next commands)) telling runs.time (λ files said left.
      let from = runs.crash telling files said left in
      inr (inl (inl (shut_none files (kept_closed (from.0.0 Objects) (files Objects) from.0.2.changed ((copies.target told).shut telling from.0.0 t.said from.0.1)))))))

  -- it was closed, until the store was whole, as the line asks
  moved_whole : {lines : List (List ℕ)} {replies : List Reply} {commands others : List Command} {d : Disk} {engine : EngineView} {w : World Command} {line : List ℕ} → AsksFor line (Save bfinish) → BackupGoing p start lines replies commands d engine w t → t.tells_files → Copies all_meaning p d engine w t
      → others ≡ commands → (t.tells_moments → LeavesOnly t u (IsShutOrWhole all_meaning p others t)) → SaysOfBackup p start lines replies (line ∷ []) commands u
  moved_whole {lines} {replies} {commands} {others} {line = line} asks g told copies same images =
      moved (line ∷ []) g.says (none_kept g (copies_closed copies told)) (λ n has. absurd (none_saved g (copies_closed copies told) n has))
      (λ telling. weaker t u (IsShutOrWhole all_meaning p others t) (OrAtStart t (Q p lines replies (line ∷ []) commands)) (images telling) (λ files said here. ⊎_elim
      (λ (shut : AreShut files). inr (inl (inl (shut_none files shut))))
      (λ (stands : Stands p files others). inr (inr ((line, (0, omega arith, refl), asks), subst (λ (l : List Command). Stands p files l) same stands)))
      here.0))

-- How the backup goes on by each answer.
module _ (p : Params) (start old new t u : Disk) (before after : EngineView) (w v : World Command) (commands : List Command) (line : List ℕ) (lawful : IsDisk t) (ends : IsDisk u) (time : Passes t u) where
  abbrev GoesOn : Reply → World Command → Type 0
  GoesOn reply x = GoesOnAll p start old new before after w commands line t u reply x

  -- an answer after which no store is there, and the backup is still made
  shut_goes : (reply : Reply) → ((there : Type 0) → store_after there reply ≡ there) → {lines : List (List ℕ)} {replies : List Reply} → BackupGoing p start lines replies commands old before w t
      → (BeginsStore (t.reads Objects) → ⊥) → SaysOfBackup p start (lines ++ line ∷ []) (replies ++ reply ∷ []) [] (commands ++ []) u → t.tells_files → Copies all_meaning p new after v u
      → BackupGoing p start (lines ++ line ∷ []) (replies ++ reply ∷ []) (commands ++ []) new after v u
  shut_goes reply same {lines} {replies} g none says told copies = record {
    says = says;
    store = (
      λ is. absurd (copies_closed copies (time.files_told.0 told) is),
      λ is. absurd (none (g.store.1 (subst (λ (A : Type 0). A) (store_more (BeginsStore (start.reads Objects)) replies reply ∙ same (store_behind (BeginsStore (start.reads Objects)) replies)) is))),
    );
    copying = copying_of copies;
  }

  pub started_goes : Copies all_meaning p new after v u → (t.tells_files → BeginsNone t.reads) → (t.tells_moments → BeginsNone t.reads → LeavesOnly t u (OrAtStart t (NoneIn t))) → GoesOn ok v
  started_goes copies none images told lines replies g =
      shut_goes ok (λ there. refl) g (none told) (says_more line ok [] (moved_none lawful ends time [] g (none told) (λ telling. images telling (none told))) (λ n e. cc e) (λ asks is. none told (g.store.1 is))) told copies

  pub copied_goes : (n k : ℕ) → before.copied ≡ Some k → (Copies all_meaning p old before w t → Copies all_meaning p new after v u) → Runs (In Objects KeepsGate) Same t u → GoesOn (copied n) v
  copied_goes n k is on runs told lines replies g =
      let copies = subst (λ (o : Option ℕ). IfSome o (λ n. Copies all_meaning p old before w t)) is g.copying in
      shut_goes (copied n) (λ there. refl) g (copies_closed copies told) (says_more line (copied n) [] (moved_shut lawful ends time [] g told copies runs) (λ n e. cc e) tt) told (on copies)

  -- all of the commands stand for themselves
  all_first : (n : ℕ) → n ≡ length commands → take n (commands ++ []) ≡ commands
  all_first n is = ap (λ (l : List Command). take n l) (append-nil commands) ∙ take_all n commands (omega (arith, is))

  pub full_goes : AsksFor line (Save bfinish) → (used need limit k : ℕ) → before.copied ≡ Some k → commands_of w.history ≡ commands → (Copies all_meaning p old before w t → Copies all_meaning p new after v u)
      → (t.tells_moments → Copies all_meaning p old before w t → LeavesOnly t u (IsShutOrWhole all_meaning p (commands_of w.history) t)) → GoesOn (full used need limit) v
  full_goes asks used need limit k is are on images told lines replies g =
      let copies = subst (λ (o : Option ℕ). IfSome o (λ n. Copies all_meaning p old before w t)) is g.copying in
      shut_goes (full used need limit) (λ there. refl) g (copies_closed copies told)
      (says_on line (full used need limit) [] (moved_whole lawful ends time asks g told copies are (λ telling. images telling copies)) (λ n e. absurd (cc e))
      (λ files last stands. inr (inr (
        full_last (BeginsStore (start.reads Objects)) lines replies line used need limit g.says.finds asks,
        length commands,
        omega (arith, length-append commands []),
        subst (λ (l : List Command). Stands p files l) (sym (all_first (length commands) refl)) stands,
      ))) tt) told (on copies)

  pub saved_goes : AsksFor line (Save bfinish) → (n k : ℕ) → before.copied ≡ Some k → after.copied ≡ None → n ≡ length commands → commands_of w.history ≡ commands
      → (Copies all_meaning p old before w t → t.tells_files → InEachImage u (λ files. Stands p files (commands_of w.history)))
      → (t.tells_moments → Copies all_meaning p old before w t → LeavesOnly t u (IsShutOrWhole all_meaning p (commands_of w.history) t)) → GoesOn (saved n) v
  saved_goes asks n k is none count are stands images told lines replies g =
      let copies = subst (λ (o : Option ℕ). IfSome o (λ n. Copies all_meaning p old before w t)) is g.copying in
      let each = stands copies told in
      let all : (m : ℕ) → saved n ≡ saved m → (m ≤ length (commands ++ [])) × InEachImage u (λ files. Stands p files (take m (commands ++ [])))
      = λ m same.
      let here : m ≡ length commands = cc (same, count) in (
        omega (arith, here, length-append commands []),
        subst (λ (l : List Command). InEachImage u (λ files. Stands p files l)) (are ∙ sym (all_first m here)) each,
      ) in
      record {
        says = says_on line (saved n) [] (moved_whole lawful ends time asks g told copies are (λ telling. images telling copies)) all
            (λ files last stands. inr (inl (n, Contains-push replies (saved n), subst (λ (l : List Command). Stands p files l) (sym (all_first n count)) stands))) tt;
        store = (λ begins. subst (λ (A : Type 0). A) (sym (store_more (BeginsStore (start.reads Objects)) replies (saved n))) tt, λ there. begins_store p (u.reads Objects) each.0.holds.objects);
        copying = no_copying p new after v u none;
      }

  -- where a store was there, it stays
  pub kept_goes : after.copied ≡ None → (t.tells_files → BeginsStore (t.reads Objects)) → (t.tells_files → BeginsStore (t.reads Objects) → Stays t u) → GoesOn (backup_denied denials.AlreadyStore) v
  kept_goes none begins stays told lines replies g =
      let run = stays told (begins told) in
      let there = g.store.0 (begins told) in
      record {
        says = says_more line (backup_denied denials.AlreadyStore) [] (moved_still lawful ends time [] run told g.says) (λ n e. cc e) there;
        store = (
          λ is. subst (λ (A : Type 0). A) (sym (store_more (BeginsStore (start.reads Objects)) replies (backup_denied denials.AlreadyStore))) there,
          λ is. subst (λ (files : Files). BeginsStore (files Objects)) (sym (run.reads told)) (begins told),
        );
        copying = no_copying p new after v u none;
      }

  -- Where a call fails, what the answers say stays true.
  pub start_stays : (t.tells_files → BeginsStore (t.reads Objects) → Stays t u) → (t.tells_moments → BeginsNone t.reads → LeavesOnly t u (OrAtStart t (NoneIn t))) → StaysAll p start old new before after w commands line t u
  start_stays stays images told lines replies g = ⊎_elim
      (λ (begins : BeginsStore (t.reads Objects)). moved_still lawful ends time (line ∷ []) (stays told begins) told g.says)
      (λ (none : BeginsStore (t.reads Objects) → ⊥). moved_none lawful ends time (line ∷ []) g none (λ telling. images telling none))
      (begins_cases (t.reads Objects))

  pub copy_stays : (k : ℕ) → before.copied ≡ Some k → Runs (In Objects KeepsGate) Same t u → StaysAll p start old new before after w commands line t u
  copy_stays k is runs told lines replies g =
      moved_shut lawful ends time (line ∷ []) g told (subst (λ (o : Option ℕ). IfSome o (λ n. Copies all_meaning p old before w t)) is g.copying) runs

  pub finish_stays : AsksFor line (Save bfinish) → (k : ℕ) → before.copied ≡ Some k → commands_of w.history ≡ commands → (t.tells_moments → Copies all_meaning p old before w t → LeavesOnly t u (IsShutOrWhole all_meaning p (commands_of w.history) t))
      → StaysAll p start old new before after w commands line t u
  finish_stays asks k is are images told lines replies g =
      let copies = subst (λ (o : Option ℕ). IfSome o (λ n. Copies all_meaning p old before w t)) is g.copying in
      moved_whole lawful ends time asks g told copies are (λ telling. images telling copies)

-- Nothing was done, and that is answered.
still_goes : (p : Params) (start d t : Disk) (engine : EngineView) (w : World Command) (commands : List Command) (line : List ℕ) (reply : Reply) → ((n : ℕ) → reply ≡ saved n → ⊥) → ((there : Type 0) → store_after there reply ≡ there)
    → ((there : Type 0) → FindsStore there line reply) → GoesOnAll p start d d engine engine w commands line t t reply w
still_goes p start d t engine w commands line reply fresh same finds told lines replies g =
    let begins = BeginsStore (start.reads Objects) in
    let is = store_more begins replies reply ∙ same (store_behind begins replies) in
    record {
      says = says_more line reply [] g.says fresh (finds (store_behind begins replies));
      store = (λ here. subst (λ (A : Type 0). A) (sym is) (g.store.0 here), λ here. g.store.1 (subst (λ (A : Type 0). A) is here));
      copying = g.copying;
    }

module _ (p : Params) (start d t : Disk) (engine : EngineView) (commands : List Command) (line : List ℕ) (holds : Holds p d engine commands) where
  abbrev Undone : Answer → Type 0
  Undone answer = IsSavingDone p start d d engine engine holds.world commands line t t (Ok answer)

  -- the backup is as it was
  undone_so : (reply : Reply) → ((n : ℕ) → GoesOnAll p start d d engine engine holds.world (take n commands) line t t reply holds.world)
      → BackupGoesOn p start d d engine engine holds.world commands line t t reply (commands_of holds.world.history) holds.world
  undone_so reply goes = goes_so reply holds.world (omega arith) (same_first commands _ (forced_in engine) (holds.commands_are ∙ sym (append-nil commands))) goes

  barred_so : (request : Request) → IsBarred request → AsksFor line request → IsTrue (is_some engine.group) → Undone answers.InGroup
  barred_so request barred asks inside = record {
    whole = (unmoved in_group holds (request, barred, asks, some_open holds.shows inside, refl) refl refl tt, undone_so in_group (λ n. still_goes p start d t engine holds.world (take n commands) line in_group (λ n e. cc e) (λ there. refl) (λ there. tt)));
    stopped = tt;
  }

  denied_so : (why : BackupDenial) (request : Request) → IsDenied why request → AsksFor line request → engine.group ≡ None → IsDeniedAt p.objects engine.copied why → ((there : Type 0) → FindsStore there line (backup_denied why)) → Undone (answers.BackupDenied why)
  denied_so why request is asks alone at finds = record {
    whole = (unmoved (backup_denied why) holds (request, is, asks, none_open holds.shows alone, refl) (at, refl) refl tt, undone_so (backup_denied why) (λ n. still_goes p start d t engine holds.world (take n commands) line (backup_denied why) (λ n e. cc e) (λ there. refl) finds));
    stopped = tt;
  }

-- After a force: what engine and files show, and that the commands are the same.
record IsForcedSo (p : Params) (now : Disk) (before after : EngineView) (w : World Command) (commands : List Command) : Type 0 where
  pub shows : ShowsIn p now after (run (meaning_in p) w (force_steps (meaning_in p) w))
  pub commands_are : commands_of (run (meaning_in p) w (force_steps (meaning_in p) w)).history ≡ commands ++ []
  pub group : open_in (run (meaning_in p) w (force_steps (meaning_in p) w)) ≡ open_in w
  pub risen : HasRisen before after commands
  pub used : used_in after ≡ (forced_stage p (stage_of before w)).used
  pub identities : after.identities ≡ (forced_stage p (stage_of before w)).identities
  pub none_waits : after.parts.log.log.pending ≡ []
  pub alone : after.group ≡ None
  pub all : forced_in after ≡ length commands

forced_so : {p : Params} {old now : Disk} {before after : EngineView} {commands : List Command} {n : ℕ} → (holds : Holds p old before commands) → before.group ≡ None → HasForced all_meaning old now before after (Ok n)
    → IsForcedSo p now before after holds.world commands
forced_so {p} {old} {now} {before} {after} {commands} holds alone it =
    let m = meaning_in p in
    let w = holds.world in
    let there = it.takes.follows p w holds.shows in
    let none = holds.shows.group ∙ alone in
    let rose = risen holds (⊎_elim (λ failed. absurd failed) (λ (k : of_engine.Kept all_meaning p before now (but_copied before after) commands). k) (it.commands.holds p commands (in_engine holds))) in
    let shown = there.1.shows in
    record {
      shows = record { unbroken = shown.unbroken; sound = shown.sound; group = shown.group; shows = shown.shows; no_checkpoint = shown.no_checkpoint };
      commands_are = (run_upkept m w (force_steps m w) (upkeep_force m w) holds.shows.shows.running.live none).commands ∙ holds.commands_are ∙ sym (append-nil commands);
      group = none_open shown (it.call.group ∙ alone) ∙ sym (none_open holds.shows alone);
      risen = record { rising = rose.rising; which = rose.which };
      used = there.1.used;
      identities = it.call.identities ∙ ap (λ (l : List ℕ). before.identities + length l) (sym (logged_force m w));
      none_waits = it.empty;
      alone = it.call.group ∙ alone;
      all = (it.forced p commands (in_engine holds)).1;
    }

-- the stage after it, with so many objects copied
forced_stage_is : {p : Params} {now : Disk} {before after : EngineView} {w : World Command} {commands : List Command} (copies : Option ℕ) → IsForcedSo p now before after w commands → after.copied ≡ copies
    → stage_of after (run (meaning_in p) w (force_steps (meaning_in p) w)) ≡ with_copied copies (forced_stage p (stage_of before w))
forced_stage_is {p} {w = w} copies f is = λ i. record { world = run (meaning_in p) w (force_steps (meaning_in p) w); used = f.used i; identities = f.identities i; copied = is i }

-- what is answered after a force
abbrev forced_done : {p : Params} {old now : Disk} {before after : EngineView} {commands : List Command} {line : List ℕ} (quiet : now.said ≡ old.said) (reply : Reply) (holds : Holds p old before commands) (f : IsForcedSo p now before after holds.world commands)
    → Replies p (open_in holds.world) commands line reply [] → Regroups line reply commands (open_in holds.world) (open_in (run (meaning_in p) holds.world (force_steps (meaning_in p) holds.world)))
    → GoesBy p (stage_of before holds.world) line reply (stage_of after (run (meaning_in p) holds.world (force_steps (meaning_in p) holds.world))) → IsOfEngine after line reply → IsDone p old now before after holds.world commands line reply
forced_done {p} {commands = commands} {line = line} quiet reply holds f replies regroups goes is_of = record {
  added = [];
  replies = replies;
  quiet = quiet;
  world = run (meaning_in p) holds.world (force_steps (meaning_in p) holds.world);
  shows = f.shows;
  becomes = grows_to line reply commands [] (open_in holds.world) (open_in (run (meaning_in p) holds.world (force_steps (meaning_in p) holds.world))) regroups f.group f.commands_are;
  regroups = regroups;
  rising = f.risen.rising;
  which = f.risen.which;
  goes = goes;
  is_of = is_of;
}

-- what is answered is no fault
ok_no_fault : (call : Result ℕ BackupErr) (n : ℕ) → call ≡ Ok n → IsFault call → ⊥
ok_no_fault call n is failed = ⊎_elim (λ e. cc (e, is)) (λ e. cc (e, is)) failed

full_no_fault : (call : Result ℕ BackupErr) (used need limit : ℕ) → call ≡ Err (errors.LogFull used need limit) → IsFault call → ⊥
full_no_fault call used need limit is failed = ⊎_elim (λ e. cc (e, is)) (λ e. cc (e, is)) failed

-- a failure that is not answered
abbrev IsFailure : BackupErr → Type 0
IsFailure errors.DiskFault = ⊤
IsFailure errors.TargetFault = ⊤
IsFailure (errors.Damaged file place) = ⊤
IsFailure errors.Memory = ⊤
IsFailure e = ⊥

-- The three lines.
module _ {M T : Type 0} (disk : M → Disk) (other : T → Disk) (old new : M) (t u : T) (before after : EngineView) (lawful : IsDisk (other t)) (ends : IsDisk (other u)) (time : Passes (other t) (other u))
    (p : Params) (start : Disk) (commands : List Command) (line : List ℕ) (holds : Holds p (disk old) before commands) where
  abbrev Answers : Result Answer Early → Type 0
  Answers result = IsSavingDone p start (disk old) (disk new) before after holds.world commands line (other t) (other u) result

  -- a call that was refused
  refused_done : {A : Type 0} (call : Result A BackupErr) (done : A → Answer) (why : BackupErr) → IsRefusedSo why old new t u before after call
      → IsSavingDone p start (disk old) (disk old) before before holds.world commands line (other t) (other t) (answer_of_backup_error why) → Answers (answer_of_call done call)
  refused_done call done why r here = refused_along r done (λ x e y result. IsSavingDone p start (disk old) (disk x) before e holds.world commands line (other t) (other y) result) here

  failed_done : (stop : Early) → StaysAll p start (disk old) (disk new) before after holds.world commands line (other t) (other u) → Answers (Err stop)
  failed_done stop stays = record { whole = tt; stopped = stays_so p start (disk old) (disk new) before after holds.world commands line (other t) (other u) stays }

  -- a start
  module _ (asks : AsksFor line (Save bstart)) (kept : (other t).tells_files → BeginsStore ((other t).reads Objects) → Stays (other t) (other u))
      (moments : (other t).tells_moments → BeginsNone (other t).reads → LeavesOnly (other t) (other u) (OrAtStart (other t) (NoneIn (other t)))) where
    start_goes : before.group ≡ None → before.copied ≡ None → (call : Result (Unit {0}) BackupErr) → LooksFirst all_meaning (disk old) (disk new) before after (IsUntouched old new before after) call → after.copied ≡ copied_by_start before.copied call
        → ((p : Params) (w : World Command) → ShowsIn p (disk old) before w → OnOk call (Copies all_meaning p (disk new) after (run (meaning_in p) w (force_steps (meaning_in p) w)) (other u)))
        → (rises target_rises : Type 0) → HasStartCause ((other t).tells_files → BeginsStore ((other t).reads Objects)) ((other t).tells_files → BeginsNone (other t).reads) rises target_rises call → Answers (answer_of_call (λ done. answers.Done) call)
    start_goes alone none (Ok done) forced copies begun rises target_rises cause =
        let f = forced_so holds alone forced.1 in
        record {
          whole = (
            forced_done (forced.1.call.quiet holds.shows.shows.told) ok holds f (inr (Save bstart, none_open holds.shows alone, asks, refl)) (Save bstart, asks, f.group) (inr (inl (asks, none, forced_stage_is (Some 0) f copies))) tt,
            goes_so ok (run (meaning_in p) holds.world (force_steps (meaning_in p) holds.world)) f.risen.rising (same_first commands _ (forced_in before) f.commands_are)
                (λ n. started_goes p start (disk old) (disk new) (other t) (other u) before after holds.world (run (meaning_in p) holds.world (force_steps (meaning_in p) holds.world)) (take n commands) line lawful ends time (begun p holds.world holds.shows) cause moments),
          );
          stopped = tt;
        }
    start_goes alone none (Err errors.AlreadyStore) untouched copies begun rises target_rises cause =
        subst (λ (x : M). IsSavingDone p start (disk old) (disk x) before after holds.world commands line (other t) (other u) (answer_of_backup_error errors.AlreadyStore)) (sym untouched.machine)
        (subst (λ (e : EngineView). IsSavingDone p start (disk old) (disk old) before e holds.world commands line (other t) (other u) (answer_of_backup_error errors.AlreadyStore)) (sym untouched.engine) (record {
          whole = (
            unmoved (backup_denied denials.AlreadyStore) holds (Save bstart, tt, asks, none_open holds.shows alone, refl) (none, refl) refl tt,
            goes_so (backup_denied denials.AlreadyStore) holds.world (omega arith) (same_first commands _ (forced_in before) (holds.commands_are ∙ sym (append-nil commands)))
                (λ n. kept_goes p start (disk old) (disk old) (other t) (other u) before before holds.world holds.world (take n commands) line lawful ends time none cause kept),
          );
          stopped = tt;
        }))
    start_goes alone none (Err errors.DiskFault) forced copies begun rises target_rises cause = failed_done DiskFault (start_stays p start (disk old) (disk new) (other t) (other u) before after holds.world holds.world commands line lawful ends time kept moments)
    start_goes alone none (Err errors.TargetFault) way copies begun rises target_rises cause = failed_done BackupFault (start_stays p start (disk old) (disk new) (other t) (other u) before after holds.world holds.world commands line lawful ends time kept moments)
    start_goes alone none (Err (errors.InGroup size)) way copies begun rises target_rises cause = absurd way
    start_goes alone none (Err (errors.InBackup n)) way copies begun rises target_rises cause = absurd way
    start_goes alone none (Err errors.NoBackup) way copies begun rises target_rises cause = absurd way
    start_goes alone none (Err (errors.NotCopied n)) way copies begun rises target_rises cause = absurd way
    start_goes alone none (Err (errors.Damaged file place)) way copies begun rises target_rises cause = absurd way
    start_goes alone none (Err (errors.LogFull used need limit)) way copies begun rises target_rises cause = absurd way
    start_goes alone none (Err errors.Memory) way copies begun rises target_rises cause = absurd way

    pub start_done : (call : Result (Unit {0}) BackupErr) → IfErr (judge_start before) (λ why. IsRefusedSo why old new t u before after call)
        → IfOk (judge_start before) (λ done. LooksFirst all_meaning (disk old) (disk new) before after (IsUntouched old new before after) call) → after.copied ≡ copied_by_start before.copied call
        → ((p : Params) (w : World Command) → ShowsIn p (disk old) before w → OnOk call (Copies all_meaning p (disk new) after (run (meaning_in p) w (force_steps (meaning_in p) w)) (other u)))
        → (rises target_rises : Type 0) → IfOk (judge_start before) (λ done. HasStartCause ((other t).tells_files → BeginsStore ((other t).reads Objects)) ((other t).tells_files → BeginsNone (other t).reads) rises target_rises call)
        → Answers (answer_of_call (λ done. answers.Done) call)
    start_done call refused looks copies begun rises target_rises cause = judged (start_judged before)
      where
        judged : StartJudged before → Answers (answer_of_call (λ done. answers.Done) call)
        judged (start_barred size some is) = refused_done call (λ done. answers.Done) (errors.InGroup size) (subst (λ (r : Result (Unit {0}) BackupErr). IfErr r (λ why. IsRefusedSo why old new t u before after call)) is refused)
            (barred_so p start (disk old) (other t) before commands line holds (Save bstart) tt asks some)
        judged (start_denied n alone is judge) = refused_done call (λ done. answers.Done) (errors.InBackup n) (subst (λ (r : Result (Unit {0}) BackupErr). IfErr r (λ why. IsRefusedSo why old new t u before after call)) judge refused)
            (denied_so p start (disk old) (other t) before commands line holds denials.InBackup (Save bstart) tt asks alone (subst (λ (o : Option ℕ). IsTrue (is_some o)) (sym is) refl) (λ there. tt))
        judged (start_allowed alone none judge) = start_goes alone none call
            (subst (λ (r : Result (Unit {0}) BackupErr). IfOk r (λ done. LooksFirst all_meaning (disk old) (disk new) before after (IsUntouched old new before after) call)) judge looks) copies begun rises target_rises
            (subst (λ (r : Result (Unit {0}) BackupErr). IfOk r (λ done. HasStartCause ((other t).tells_files → BeginsStore ((other t).reads Objects)) ((other t).tells_files → BeginsNone (other t).reads) rises target_rises call)) judge cause)

  -- a copy
  module _ (count : ℕ) (asks : AsksFor line (Save (bcopy count))) (runs : Runs (In Objects KeepsGate) Same (other t) (other u)) where
    copy_fails : (k : ℕ) → before.copied ≡ Some k → (stop : Early) → Answers (Err stop)
    copy_fails k is stop = failed_done stop (copy_stays p start (disk old) (disk new) (other t) (other u) before after holds.world holds.world commands line lawful ends time k is runs)

    copy_goes : (k : ℕ) → before.group ≡ None → before.copied ≡ Some k → (call : Result ℕ BackupErr) → IsEngineRead all_meaning (disk old) (disk new) before (but_copied before after) (IsErrOf call errors.DiskFault)
        → CopiesUpTo k (min (k + count) (params_of before).objects) after.copied call → IfOk call (λ n. after.copied ≡ Some n)
        → ((p : Params) (w : World Command) → Copies all_meaning p (disk old) before w (other t) → IsFault call ⊎ Copies all_meaning p (disk new) after w (other u))
        → IfErr call IsFailure → Answers (answer_of_call answers.Copied call)
    copy_goes k alone is (Ok n) read end now on cause =
        let shown = ⊎_elim (λ failed. cc failed) (λ (s : ShowsIn p (disk new) (but_copied before after) holds.world). s) (read.shows p holds.world holds.shows) in
        let number : n ≡ min (k + count) p.objects = cc (now, end) ∙ ap (λ (q : Params). min (k + count) q.objects) holds.shows.shows.store.params in
        let used : used_in after ≡ used_in before = ap (λ (e : EngineView). used_in e) read.engine in
        let identities : after.identities ≡ before.identities = ap (λ (e : EngineView). e.identities) read.engine in
        record {
          whole = (
            record {
              added = [];
              replies = (count, asks, none_open holds.shows alone, refl);
              quiet = read.kept.said holds.shows.shows.told;
              world = holds.world;
              shows = record { unbroken = shown.unbroken; sound = shown.sound; group = shown.group; shows = shown.shows; no_checkpoint = shown.no_checkpoint };
              becomes = holds.commands_are ∙ sym (append-nil commands);
              regroups = refl;
              rising = omega (arith, ap (λ (e : EngineView). forced_in e) read.engine);
              which = inl (ap (λ (e : EngineView). forced_in e) read.engine);
              goes = (k, count, asks, is, number, λ i. record { world = holds.world; used = used i; identities = identities i; copied = now i });
              is_of = tt;
            },
            goes_so (copied n) holds.world (omega (arith, ap (λ (e : EngineView). forced_in e) read.engine)) (same_first commands _ (forced_in before) (holds.commands_are ∙ sym (append-nil commands)))
                (λ k0. copied_goes p start (disk old) (disk new) (other t) (other u) before after holds.world holds.world (take k0 commands) line lawful ends time n k is (λ copies. ⊎_elim (λ failed. absurd (ok_no_fault (Ok n) n refl failed)) (λ c. c) (on p holds.world copies)) runs),
          );
          stopped = tt;
        }
    copy_goes k alone is (Err errors.DiskFault) read end now on cause = copy_fails k is DiskFault
    copy_goes k alone is (Err errors.TargetFault) read end now on cause = copy_fails k is BackupFault
    copy_goes k alone is (Err (errors.Damaged file place)) read end now on cause = copy_fails k is (Damaged file place)
    copy_goes k alone is (Err errors.Memory) read end now on cause = copy_fails k is Memory
    copy_goes k alone is (Err (errors.InGroup size)) read end now on cause = absurd cause
    copy_goes k alone is (Err (errors.InBackup n)) read end now on cause = absurd cause
    copy_goes k alone is (Err errors.NoBackup) read end now on cause = absurd cause
    copy_goes k alone is (Err errors.AlreadyStore) read end now on cause = absurd cause
    copy_goes k alone is (Err (errors.NotCopied n)) read end now on cause = absurd cause
    copy_goes k alone is (Err (errors.LogFull used need limit)) read end now on cause = absurd cause

    failure_of : (rises target_rises : Type 0) (e : BackupErr) → CopyFailsBy (disk new) before after.copied rises target_rises e → IsFailure e
    failure_of rises target_rises errors.DiskFault cause = tt
    failure_of rises target_rises errors.TargetFault cause = tt
    failure_of rises target_rises (errors.Damaged file place) cause = tt
    failure_of rises target_rises errors.Memory cause = tt
    failure_of rises target_rises (errors.InGroup size) cause = cause
    failure_of rises target_rises (errors.InBackup n) cause = cause
    failure_of rises target_rises errors.NoBackup cause = cause
    failure_of rises target_rises errors.AlreadyStore cause = cause
    failure_of rises target_rises (errors.NotCopied n) cause = cause
    failure_of rises target_rises (errors.LogFull used need limit) cause = cause

    failure_in : (rises target_rises : Type 0) (call : Result ℕ BackupErr) → IfErr call (CopyFailsBy (disk new) before after.copied rises target_rises) → IfErr call IsFailure
    failure_in rises target_rises (Ok n) cause = tt
    failure_in rises target_rises (Err e) cause = failure_of rises target_rises e cause

    pub copy_done : (call : Result ℕ BackupErr) → IfErr (judge_copy before) (λ why. IsRefusedSo why old new t u before after call) → IsEngineRead all_meaning (disk old) (disk new) before (but_copied before after) (IsErrOf call errors.DiskFault)
        → IfOk (judge_copy before) (λ k. CopiesUpTo k (min (k + count) (params_of before).objects) after.copied call) → IfOk call (λ n. after.copied ≡ Some n)
        → ((p : Params) (w : World Command) → Copies all_meaning p (disk old) before w (other t) → IsFault call ⊎ Copies all_meaning p (disk new) after w (other u))
        → (rises target_rises : Type 0) → IfOk (judge_copy before) (λ k. IfErr call (CopyFailsBy (disk new) before after.copied rises target_rises)) → Answers (answer_of_call answers.Copied call)
    copy_done call refused read end now on rises target_rises cause = judged (copy_judged before)
      where
        judged : CopyJudged before → Answers (answer_of_call answers.Copied call)
        judged (copy_barred size some judge) = refused_done call answers.Copied (errors.InGroup size) (subst (λ (r : Result ℕ BackupErr). IfErr r (λ why. IsRefusedSo why old new t u before after call)) judge refused)
            (barred_so p start (disk old) (other t) before commands line holds (Save (bcopy count)) tt asks some)
        judged (copy_denied alone none judge) = refused_done call answers.Copied errors.NoBackup (subst (λ (r : Result ℕ BackupErr). IfErr r (λ why. IsRefusedSo why old new t u before after call)) judge refused)
            (denied_so p start (disk old) (other t) before commands line holds denials.NoBackup (Save (bcopy count)) tt asks alone none (λ there. tt))
        judged (copy_allowed k alone is judge) = copy_goes k alone is call read (subst (λ (r : Result ℕ BackupErr). IfOk r (λ k. CopiesUpTo k (min (k + count) (params_of before).objects) after.copied call)) judge end) now on
            (failure_in rises target_rises call (subst (λ (r : Result ℕ BackupErr). IfOk r (λ k. IfErr call (CopyFailsBy (disk new) before after.copied rises target_rises))) judge cause))

  -- a finish
  module _ (asks : AsksFor line (Save bfinish)) (within : IfSome before.copied (λ n. n ≤ (params_of before).objects))
      (moments : (other t).tells_moments → (p : Params) (w : World Command) → Copies all_meaning p (disk old) before w (other t) → LeavesOnly (other t) (other u) (IsShutOrWhole all_meaning p (commands_of w.history) (other t))) where
    finish_fails : (k : ℕ) → before.copied ≡ Some k → (stop : Early) → Answers (Err stop)
    finish_fails k is stop = failed_done stop (finish_stays p start (disk old) (disk new) (other t) (other u) before after holds.world holds.world commands line lawful ends time asks k is holds.commands_are (λ telling copies. moments telling p holds.world copies))

    -- all objects are copied
    all_copied : (k : ℕ) → before.copied ≡ Some k → (params_of before).objects ≤ k → before.copied ≡ Some p.objects
    all_copied k is high =
        let low = subst (λ (o : Option ℕ). IfSome o (λ n. n ≤ (params_of before).objects)) is within in
        let same : k ≡ (params_of before).objects = omega (arith, low, high) in
        is ∙ ap (λ (n : ℕ). Some n) (same ∙ ap (λ (q : Params). q.objects) holds.shows.shows.store.params)

    abbrev Again : Result ℕ BackupErr → Type 0
    Again call = (p : Params) (w : World Command) → Copies all_meaning p (disk old) before w (other t) → OnErr call (IsFault call ⊎ Copies all_meaning p (disk new) after (run (meaning_in p) w (force_steps (meaning_in p) w)) (other u))

    -- how long the log of the backup is, after the force
    abbrev TellsLong : Result ℕ BackupErr → Type 0
    TellsLong call = HasLength (backup_length (meaning_in p) (run (meaning_in p) holds.world (force_steps (meaning_in p) holds.world))) call

    abbrev HasSaved : Result ℕ BackupErr → Type 0
    HasSaved call = (p : Params) (w : World Command) → Copies all_meaning p (disk old) before w (other t)
        → IfOk call (λ n. (n ≡ length (commands_of w.history)) × ((other t).tells_files → InEachImage (other u) (λ files. Stands p files (commands_of w.history))))

    finish_goes : (k : ℕ) → before.group ≡ None → before.copied ≡ Some k → (params_of before).objects ≤ k → (call : Result ℕ BackupErr) → ForcesFirst all_meaning (disk old) (disk new) before after call → after.copied ≡ copied_by_finish before.copied call
        → HasSaved call → Again call → TellsLong call → (rises target_rises : Type 0) (fault : FileNo → ℕ → Type 0) → IfErr call (FinishFailsBy rises target_rises fault after) → Answers (answer_of_call answers.Saved call)
    finish_goes k alone is high (Ok n) forced copies stands again long rises target_rises fault cause =
        let f = forced_so holds alone forced in
        let count : n ≡ length commands = (forced.forced p commands (in_engine holds)).0 in
        record {
          whole = (
            forced_done (forced.call.quiet holds.shows.shows.told) (saved n) holds f (asks, none_open holds.shows alone, count, refl) f.group (all_copied k is high, long, forced_stage_is None f copies) tt,
            goes_all p start (disk old) (disk new) before after holds.world commands line (other t) (other u) (saved n) (run (meaning_in p) holds.world (force_steps (meaning_in p) holds.world)) (omega (arith, f.all)) f.commands_are
                (saved_goes p start (disk old) (disk new) (other t) (other u) before after holds.world (run (meaning_in p) holds.world (force_steps (meaning_in p) holds.world)) commands line lawful ends time asks n k is copies count holds.commands_are (λ c told. (stands p holds.world c).1 told) (λ telling c. moments telling p holds.world c)),
          );
          stopped = tt;
        }
    finish_goes k alone is high (Err (errors.LogFull used need limit)) forced copies stands again long rises target_rises fault cause =
        let f = forced_so holds alone forced.1 in
        record {
          whole = (
            forced_done (forced.1.call.quiet holds.shows.shows.told) (full used need limit) holds f (inr (Save bfinish, tt, asks, none_open holds.shows alone, cause.1, cause.2, refl)) f.group
                (inr (asks, all_copied k is high, cause.0 ∙ f.used, long, forced_stage_is before.copied f copies)) (inr (record { none_waits = f.none_waits; alone = f.alone; used_is = cause.0 })),
            goes_all p start (disk old) (disk new) before after holds.world commands line (other t) (other u) (full used need limit) (run (meaning_in p) holds.world (force_steps (meaning_in p) holds.world)) (omega (arith, f.all)) f.commands_are
                (full_goes p start (disk old) (disk new) (other t) (other u) before after holds.world (run (meaning_in p) holds.world (force_steps (meaning_in p) holds.world)) commands line lawful ends time asks used need limit k is holds.commands_are (λ c. ⊎_elim (λ failed. absurd (full_no_fault (Err (errors.LogFull used need limit)) used need limit refl failed)) (λ c. c) (again p holds.world c)) (λ telling c. moments telling p holds.world c)),
          );
          stopped = tt;
        }
    finish_goes k alone is high (Err errors.DiskFault) forced copies stands again long rises target_rises fault cause = finish_fails k is DiskFault
    finish_goes k alone is high (Err errors.TargetFault) forced copies stands again long rises target_rises fault cause = finish_fails k is BackupFault
    finish_goes k alone is high (Err (errors.Damaged file place)) forced copies stands again long rises target_rises fault cause = finish_fails k is (Damaged file place)
    finish_goes k alone is high (Err errors.Memory) forced copies stands again long rises target_rises fault cause = finish_fails k is Memory
    finish_goes k alone is high (Err (errors.InGroup size)) forced copies stands again long rises target_rises fault cause = absurd cause
    finish_goes k alone is high (Err (errors.InBackup n)) forced copies stands again long rises target_rises fault cause = absurd cause
    finish_goes k alone is high (Err errors.NoBackup) forced copies stands again long rises target_rises fault cause = absurd cause
    finish_goes k alone is high (Err errors.AlreadyStore) forced copies stands again long rises target_rises fault cause = absurd cause
    finish_goes k alone is high (Err (errors.NotCopied n)) forced copies stands again long rises target_rises fault cause = absurd cause

    pub finish_done : (call : Result ℕ BackupErr) → IfErr (judge_finish before) (λ why. IsRefusedSo why old new t u before after call) → IfOk (judge_finish before) (λ done. ForcesFirst all_meaning (disk old) (disk new) before after call)
        → after.copied ≡ copied_by_finish before.copied call → HasSaved call
        → ((p : Params) (w : World Command) → Copies all_meaning p (disk old) before w (other t) → IfOk (judge_finish before) (λ done. OnErr call (IsFault call ⊎ Copies all_meaning p (disk new) after (run (meaning_in p) w (force_steps (meaning_in p) w)) (other u))))
        → TellsLong call → (rises target_rises : Type 0) (fault : FileNo → ℕ → Type 0) → IfOk (judge_finish before) (λ done. IfErr call (FinishFailsBy rises target_rises fault after)) → Answers (answer_of_call answers.Saved call)
    finish_done call refused forces copies stands again long rises target_rises fault cause = judged (finish_judged before)
      where
        judged : FinishJudged before → Answers (answer_of_call answers.Saved call)
        judged (finish_barred size some judge) = refused_done call answers.Saved (errors.InGroup size) (subst (λ (r : Result (Unit {0}) BackupErr). IfErr r (λ why. IsRefusedSo why old new t u before after call)) judge refused)
            (barred_so p start (disk old) (other t) before commands line holds (Save bfinish) tt asks some)
        judged (finish_denied alone none judge) = refused_done call answers.Saved errors.NoBackup (subst (λ (r : Result (Unit {0}) BackupErr). IfErr r (λ why. IsRefusedSo why old new t u before after call)) judge refused)
            (denied_so p start (disk old) (other t) before commands line holds denials.NoBackup (Save bfinish) tt asks alone none (λ there. tt))
        judged (finish_early n alone is low judge) = refused_done call answers.Saved (errors.NotCopied n) (subst (λ (r : Result (Unit {0}) BackupErr). IfErr r (λ why. IsRefusedSo why old new t u before after call)) judge refused)
            (denied_so p start (disk old) (other t) before commands line holds denials.NotCopied (Save bfinish) tt asks alone (n, is, subst (λ (q : Params). n < q.objects) holds.shows.shows.store.params low) (λ there. tt))
        judged (finish_allowed k alone is high judge) = finish_goes k alone is high call (subst (λ (r : Result (Unit {0}) BackupErr). IfOk r (λ done. ForcesFirst all_meaning (disk old) (disk new) before after call)) judge forces) copies stands
            (λ p w c. subst (λ (r : Result (Unit {0}) BackupErr). IfOk r (λ done. OnErr call (IsFault call ⊎ Copies all_meaning p (disk new) after (run (meaning_in p) w (force_steps (meaning_in p) w)) (other u)))) judge (again p w c))
            long rises target_rises fault (subst (λ (r : Result (Unit {0}) BackupErr). IfOk r (λ done. IfErr call (FinishFailsBy rises target_rises fault after))) judge cause)
