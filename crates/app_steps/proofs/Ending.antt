-- What a run makes of a store, and answers, where its next step is not done, and where all are.
use Rattle.std.proofs.Common.{◌≡◌, ◌∙◌, true, false, true≢false, sym, subst, ap, refl, ℕ, ◌+◌, ◌-◌, ◌<◌, List, [], ◌∷◌, ◌++◌, replicate, Option, None, Some, arith}
use Rattle.std.specs.Prelude.{unwrap_or, Result, Ok, Err}
use Rattle.std.proofs.lemmas.List.{append-nil}
use Rattle.std.specs.Result.{result_err}
use Rattle.disk_model.specs.Disk.{Disk}
use Rattle.oper_core.specs.declared.refusal.Refusal.{Refusal}
use Rattle.formats.specs.declared.params.Params.{Params}
use Rattle.op_codec.specs.AllOps.{AllOps, all_meaning}
use Rattle.running_store.specs.Taking.{Ending}
use Rattle.running_store.specs.Taking.Ending.{Done}
use Rattle.execution.specs.declared.exec_err.ExecErr.{ExecErr}
use Rattle.execution.specs.declared.exec_err.ExecErr.TheVariants.{Refused, LogFull, LsnEnd, DiskFault, Damaged, Memory}
use Rattle.store_engine.specs.Store.{refusal_after}
use Rattle.store_engine.specs.Lists.{ending_of}
use Rattle.store_calls.specs.Laws.{GoOn}
use Rattle.store_calls.specs.Making.{Calls, Runs, one_accepted}
use Rattle.store_calls.specs.View.{View}
use Rattle.app_steps.specs.Steps.{EndsSo, HasAnswer, ends_a_run, steps, steps_accepted}
use Rattle.app_steps.proofs.Counting.{IsUnderWay, after, all_done, all_refused, behind_next, goes_on, none_count, one_behind}

module _ {S : Type 0} (view : View AllOps S) where
  -- what is made so far: so many steps, and they are among those that are accepted
  pub record IsMade (p : Params) (old now : Disk) (before between : S) (commands : List AllOps) (op : AllOps) (n done : ℕ) : Type 0 where
    pub front : view.adds p old now before between commands (replicate done op) Done
    pub counts : IsUnderWay p commands op n done

  module _ {T : Type 0} (disk : T → Disk) (goes : GoOn view disk) (old mid new : T) (before between now : S) (op : AllOps) (n done : ℕ) where
    -- the answer is of the calls that were made
    pub ends_calls : Calls view (disk old) (disk mid) before between None → (e : ExecErr) → Calls view (disk mid) (disk new) between now (Some e)
        → (r : Result ℕ ExecErr) → EndsSo done e r → Calls view (disk old) (disk new) before now (result_err r)
    ends_calls first e second (Ok k) so =
        goes.refused old new before now so.1.0
        (subst (λ (f : ExecErr). Calls view (disk old) (disk new) before now (Some f)) so.1.1 (goes.calls old mid new before between now (Some e) first second))
    ends_calls first e second (Err f) so =
        subst (λ (g : ExecErr). Calls view (disk old) (disk new) before now (Some g)) (sym so.0) (goes.calls old mid new before between now (Some e) first second)

    abbrev Ran : Option ExecErr → Type 0
    Ran error = Runs view (disk mid) (disk new) between now all_meaning op error

    module _ (p : Params) (commands : List AllOps) (holds : view.holds p (disk old) before commands) (made : IsMade p (disk old) (disk mid) before between commands op n done) where
      -- the store stands for the steps that are done, too
      holds_now : view.holds p (disk mid) between (after p commands op n done)
      holds_now = goes.holds old mid before between p commands (replicate done op) holds made.front

      abbrev refusal : Option Refusal
      refusal = refusal_after all_meaning p (after p commands op n done) op

      abbrev Adds : List AllOps → Ending → Type 0
      Adds ops ending = view.adds p (disk old) (disk new) before now commands ops ending

      -- what the next step adds comes behind them
      behind : (error : Option ExecErr) → Ran error → (o : Option Refusal) → refusal ≡ o → (rest : List AllOps) → (ending_of error ≡ Done → rest ≡ [])
          → Adds (replicate done op ++ (one_accepted op o ++ rest)) (ending_of error)
      behind error ran o is rest ended =
          subst (λ (r : Option Refusal). Adds (replicate done op ++ (one_accepted op r ++ rest)) (ending_of error)) is
          (goes.adds old mid new before between now p commands (replicate done op) (one_accepted op refusal ++ rest) (ending_of error) made.front (ran.makes.adds p (after p commands op n done) holds_now rest ended))

      pub one_more : done < n → Ran None → IsMade p (disk old) (disk new) before now commands op n (done + 1)
      one_more more ran =
          let none = ran.answers p (after p commands op n done) holds_now in record {
            front = subst (λ (l : List AllOps). Adds l Done) (one_behind done op) (behind None ran None none [] (λ done. refl));
            counts = goes_on p commands op n done more made.counts none;
          }

      -- A refusal adds nothing, and all that are accepted are done. Where nothing refuses the next step it comes behind them, and then others.
      ends_by : done < n → (e : ExecErr) → Ran (Some e) → (o : Option Refusal) → refusal ≡ o → (ending_of (Some e) ≡ Done → (why : Refusal) × (o ≡ Some why)) → Adds (steps p commands op n) (ending_of (Some e))
      ends_by more e ran None none early =
          subst (λ (l : List AllOps). Adds l (ending_of (Some e))) (sym (behind_next p commands op n done more made.counts none))
          (behind (Some e) ran None none (replicate (steps_accepted p (after p commands op n done ++ op ∷ []) op (n - (done + 1))) op) (λ ended. let why = early ended in cc why.1))
      ends_by more e ran (Some why) is early =
          subst (λ (k : ℕ). Adds (replicate k op) (ending_of (Some e))) (sym (all_refused p commands op n done why made.counts is))
          (subst (λ (l : List AllOps). Adds l (ending_of (Some e))) (append-nil (replicate done op)) (behind (Some e) ran (Some why) is [] (λ ended. refl)))

      -- only a refusal ends it as one that is done
      refused_only : (e : ExecErr) → Ran (Some e) → ending_of (Some e) ≡ Done → (why : Refusal) × (refusal ≡ Some why)
      refused_only (Refused why) ran ended = (why, ran.answers p (after p commands op n done) holds_now)
      refused_only (LogFull used need limit) ran ended = cc ended
      refused_only (LsnEnd number) ran ended = cc ended
      refused_only DiskFault ran ended = cc ended
      refused_only (Damaged file place) ran ended = cc ended
      refused_only Memory ran ended = cc ended

      pub ends_front : done < n → (e : ExecErr) → Ran (Some e) → (r : Result ℕ ExecErr) → EndsSo done e r → Adds (steps p commands op n) (ending_of (result_err r))
      ends_front more e ran (Ok k) so =
          subst (λ (f : ExecErr). Adds (steps p commands op n) (ending_of (Some f))) so.1.1 (ends_by more e ran refusal refl (refused_only e ran))
      ends_front more e ran (Err f) so =
          subst (λ (g : ExecErr). Adds (steps p commands op n) (ending_of (Some g))) (sym so.0) (ends_by more e ran refusal refl (refused_only e ran))

      -- with none done the next is the first
      first_refused : (why : Refusal) → done ≡ 0 → refusal ≡ Some why → refusal_after all_meaning p commands op ≡ Some why
      first_refused why none is =
          ap (λ (l : List AllOps). refusal_after all_meaning p l op) (sym (append-nil commands) ∙ ap (λ (k : ℕ). after p commands op n k) (sym none)) ∙ is

      answers_refused : (why : Refusal) → Ran (Some (Refused why)) → (done ≡ 0 → ends_a_run why ≡ true) → HasAnswer p commands op n (Ok done)
      answers_refused why ran only =
          let refused = ran.answers p (after p commands op n done) holds_now in
          let count = all_refused p commands op n done why made.counts refused in (
            sym count,
            λ other at_once.
                let none : done ≡ 0 = sym count ∙ none_count p commands op other at_once.first n in
                let same : Some other ≡ Some why = sym at_once.first ∙ first_refused why none refused in
                true≢false (sym (only none) ∙ ap (λ (o : Option Refusal). ends_a_run (unwrap_or o why)) (sym same) ∙ at_once.no_end),
          )

      ends_answer_err : done < n → (e : ExecErr) → Ran (Some e) → ((why : Refusal) → e ≡ Refused why → (done ≡ 0) × (ends_a_run why ≡ false)) → HasAnswer p commands op n (Err e)
      ends_answer_err more (Refused why) ran so =
          record { some = λ none. absurd (omega (arith, more, none)); first = first_refused why (so why refl).0 (ran.answers p (after p commands op n done) holds_now); no_end = (so why refl).1 }
      ends_answer_err more (LogFull used need limit) ran so = tt
      ends_answer_err more (LsnEnd number) ran so = tt
      ends_answer_err more DiskFault ran so = tt
      ends_answer_err more (Damaged file place) ran so = tt
      ends_answer_err more Memory ran so = tt

      pub ends_answer : done < n → (e : ExecErr) → Ran (Some e) → (r : Result ℕ ExecErr) → EndsSo done e r → HasAnswer p commands op n r
      ends_answer more e ran (Ok k) so =
          subst (λ (i : ℕ). HasAnswer p commands op n (Ok i)) (sym so.0)
          (answers_refused so.1.0 (subst (λ (f : ExecErr). Ran (Some f)) so.1.1 ran) so.1.2)
      ends_answer more e ran (Err f) so =
          subst (λ (g : ExecErr). HasAnswer p commands op n (Err g)) (sym so.0) (ends_answer_err more e ran so.1)

  -- all steps that were asked for are done
  module _ (p : Params) (old now : Disk) (before between : S) (op : AllOps) (n : ℕ) (commands : List AllOps) (done : ℕ) (whole : done ≡ n) (made : IsMade p old now before between commands op n done) where
    count : steps_accepted p commands op n ≡ done
    count = all_done p commands op n (subst (λ (k : ℕ). IsUnderWay p commands op n k) whole made.counts) ∙ sym whole

    pub all_front : view.adds p old now before between commands (steps p commands op n) Done
    all_front = subst (λ (k : ℕ). view.adds p old now before between commands (replicate k op) Done) (sym count) made.front

    -- the first was accepted, where one was asked for
    pub all_answer : HasAnswer p commands op n (Ok n)
    all_answer = (sym whole ∙ sym count, λ other at_once. at_once.some (sym whole ∙ sym count ∙ none_count p commands op other at_once.first n))
