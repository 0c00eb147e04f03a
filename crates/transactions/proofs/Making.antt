-- Commands are run one after the other: what is made so far, and where the next one is not done.
use Rattle.std.proofs.Common.{◌≡◌, ◌∙◌, sym, subst, ap, ℕ, List, [], ◌∷◌, ◌++◌, length, drop, arith, refl, inr, None, Some, append_assoc}
use Rattle.std.specs.Prelude.{Ok, Err}
use Rattle.std.proofs.lemmas.List.{append-nil}
use Rattle.std.proofs.lemmas.List.Sums.{fold-append}
use Rattle.disk_model.specs.Disk.{Disk}
use Rattle.oper_core.specs.State.{State, start}
use Rattle.oper_core.specs.Meaning.{Accepts, Meaning, after}
use Rattle.oper_core.specs.declared.bounds.Bounds.{Bounds}
use Rattle.oper_core.specs.declared.refusal.Refusal.{Refusal}
use Rattle.formats.specs.declared.params.Params.{Params}
use Rattle.running_store.specs.Courses.{Stop}
use Rattle.running_store.specs.Courses.Stop.{Full, At_end}
use Rattle.running_store.specs.Taking.Ending.{Done, Stopped}
use Rattle.execution.specs.declared.exec_err.ExecErr.{ExecErr}
use Rattle.execution.specs.declared.exec_err.ExecErr.TheVariants.{Refused, LogFull, LsnEnd, DiskFault, Damaged, Memory}
use Rattle.store_engine.specs.Engine.{EngineView, Holds}
use Rattle.store_engine.specs.Store.{meaning_in, refusal_after, state_of}
use Rattle.store_engine.specs.ListSteps.{ExecDone, ExecFailed, ExecStopped}
use Rattle.store_engine.specs.Lists.{AddsFront, IsCutOff, ending_of}
use Rattle.store_engine.specs.ListLaws.{all_hold}
use Rattle.store_engine.specs.Commands.{HasRun}
use Rattle.transactions.specs.Accepted.{AreAccepted, IsNoRefusal}

-- what is made so far of the commands: the first ones are added, and the others are accepted on what these make
pub record IsUnderWay {O : Type 0} (meaning : Bounds → Meaning O) (p : Params) (old now : Disk) (before between : EngineView) (commands : List O) (holds : Holds meaning p old before commands) (ops left : List O) : Type 0 where
  pub done : List O
  pub all : ops ≡ done ++ left
  pub front : AddsFront meaning p old now before between holds.world commands done Done
  pub accepted : AreAccepted (meaning_in meaning p) (state_of meaning p (commands ++ done)) left

module _ {O : Type 0} (meaning : Bounds → Meaning O) (p : Params) (commands : List O) where
  -- the state after one command more
  pub state_behind : (done : List O) (op : O) → state_of meaning p (commands ++ (done ++ op ∷ [])) ≡ after (meaning_in meaning p) (state_of meaning p (commands ++ done)) op
  state_behind done op =
      ap (λ (l : List O). state_of meaning p l) (sym (append_assoc commands done (op ∷ []))) ∙ fold-append (after (meaning_in meaning p)) start (commands ++ done) (op ∷ [])

  pub none_made : (old : Disk) (before : EngineView) (holds : Holds meaning p old before commands) (ops : List O) → AddsFront meaning p old old before before holds.world commands [] Done
      → AreAccepted (meaning_in meaning p) (state_of meaning p commands) ops → IsUnderWay meaning p old old before before commands holds ops ops
  none_made old before holds ops front accepted = record {
    done = [];
    all = refl;
    front = front;
    accepted = subst (λ (l : List O). AreAccepted (meaning_in meaning p) (state_of meaning p l) ops) (sym (append-nil commands)) accepted;
  }

  -- all of them
  pub all_made : (old now : Disk) (before between : EngineView) (holds : Holds meaning p old before commands) (ops left : List O) → IsUnderWay meaning p old now before between commands holds ops left → left ≡ []
      → AddsFront meaning p old now before between holds.world commands ops Done
  all_made old now before between holds ops left way none =
      subst (λ (l : List O). AddsFront meaning p old now before between holds.world commands l Done) (sym (way.all ∙ ap (λ (l : List O). way.done ++ l) none ∙ append-nil way.done)) way.front

  module _ {T : Type 0} (disk : T → Disk) (old mid new : T) (before between now : EngineView) (holds : Holds meaning p (disk old) before commands) (ops left : List O) (op : O) (rest : List O)
      (way : IsUnderWay meaning p (disk old) (disk mid) before between commands holds ops left) (next : left ≡ op ∷ rest) where
    abbrev m : Meaning O
    m = meaning_in meaning p

    there : Holds meaning p (disk mid) between (commands ++ way.done)
    there = all_hold meaning (disk old) (disk mid) before between p holds.world commands way.done way.front

    fine : Accepts m (state_of meaning p (commands ++ way.done)) op × AreAccepted m (after m (state_of meaning p (commands ++ way.done)) op) rest
    fine = subst (λ (l : List O). AreAccepted m (state_of meaning p (commands ++ way.done)) l) next way.accepted

    are_all : way.done ++ op ∷ rest ≡ ops
    are_all = ap (λ (l : List O). way.done ++ l) (sym next) ∙ sym way.all

    pub one_more : ExecDone meaning disk → (n : ℕ) → HasRun meaning (disk mid) (disk new) between now op (Ok n) → IsUnderWay meaning p (disk old) (disk new) before now commands holds ops rest
    one_more goes n ran = record {
      done = way.done ++ op ∷ [];
      all = sym are_all ∙ sym (append_assoc way.done (op ∷ []) rest);
      front = goes old mid new before between now p holds.world commands way.done op n way.front ran;
      accepted = subst (λ (s : State). AreAccepted m s rest) (sym (state_behind way.done op)) fine.1;
    }

    unrefused : (refusal : Refusal) → HasRun meaning (disk mid) (disk new) between now op (Err (Refused refusal)) → ⊥
    unrefused refusal ran =
        let refused : refusal_after meaning p (commands ++ way.done) op ≡ Some refusal = ran.on_map p (commands ++ way.done) there in
        let accepted : refusal_after meaning p (commands ++ way.done) op ≡ None = fine.0 in cc (refused, accepted)

    pub no_refusal : (e : ExecErr) → HasRun meaning (disk mid) (disk new) between now op (Err e) → IsNoRefusal (Some e)
    no_refusal (Refused refusal) ran = unrefused refusal ran
    no_refusal (LogFull used need limit) ran = tt
    no_refusal (LsnEnd lsn) ran = tt
    no_refusal DiskFault ran = tt
    no_refusal (Damaged file place) ran = tt
    no_refusal Memory ran = tt

    stopped_front : ExecStopped meaning disk → (e : ExecErr) (stop : Stop) → ending_of (Some e) ≡ Stopped stop → HasRun meaning (disk mid) (disk new) between now op (Err e)
        → AddsFront meaning p (disk old) (disk new) before now holds.world commands ops (Stopped stop)
    stopped_front stops e stop is ran =
        subst (λ (l : List O). AddsFront meaning p (disk old) (disk new) before now holds.world commands l (Stopped stop)) are_all
        (stops old mid new before between now p holds.world commands way.done op rest e stop way.front ran is)

    failed_front : ExecFailed meaning disk → (e : ExecErr) → IsCutOff (ending_of (Some e)) → HasRun meaning (disk mid) (disk new) between now op (Err e)
        → AddsFront meaning p (disk old) (disk new) before now holds.world commands ops (ending_of (Some e))
    failed_front fails e off ran =
        subst (λ (l : List O). AddsFront meaning p (disk old) (disk new) before now holds.world commands l (ending_of (Some e))) are_all
        (fails old mid new before between now p holds.world commands way.done op (op ∷ rest) e way.front ran (inr (rest, refl)) off)

    pub ends_by : ExecStopped meaning disk → ExecFailed meaning disk → (e : ExecErr) → HasRun meaning (disk mid) (disk new) between now op (Err e)
        → AddsFront meaning p (disk old) (disk new) before now holds.world commands ops (ending_of (Some e))
    ends_by stops fails (Refused refusal) ran = absurd (unrefused refusal ran)
    ends_by stops fails (LogFull used need limit) ran = stopped_front stops (LogFull used need limit) (Full used need limit) refl ran
    ends_by stops fails (LsnEnd lsn) ran = stopped_front stops (LsnEnd lsn) (At_end lsn) refl ran
    ends_by stops fails DiskFault ran = failed_front fails DiskFault tt ran
    ends_by stops fails (Damaged file place) ran = failed_front fails (Damaged file place) tt ran
    ends_by stops fails Memory ran = failed_front fails Memory tt ran

-- a list that is as long without its first item has none
pub none_left : {A : Type 0} (xs : List A) → xs ≡ drop 1 xs → xs ≡ []
none_left [] same = refl
none_left {A} (x ∷ xs) same = absurd (omega (arith, ap (λ (l : List A). length l) same))
