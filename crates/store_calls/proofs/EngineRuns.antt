-- What an engine's calls make, where it is a store.
use Rattle.std.proofs.Common.{◌≡◌, refl, sym, subst, ap, ◌∙◌, ◌⊎◌, ⊎_elim, inl, inr, ℕ, Option, None, Some, Result, Ok, Err, List, [], ◌∷◌, ◌++◌, length, length-drop, arith}
use Rattle.std.specs.Prelude.{IfOk}
use Rattle.std.specs.Result.{result_err}
use Rattle.std.proofs.lemmas.Bool.{false_from_ne_true}
use Rattle.std.proofs.lemmas.List.{append-nil}
use Rattle.disk_model.specs.Disk.{Disk}
use Rattle.oper_core.specs.Meaning.{Meaning}
use Rattle.oper_core.specs.declared.bounds.Bounds.{Bounds}
use Rattle.oper_core.specs.declared.refusal.Refusal.{Refusal}
use Rattle.formats.specs.declared.params.Params.{Params}
use Rattle.formats.specs.declared.read_err.ReadErr.{ReadErr}
use Rattle.explain_core.specs.World.{World}
use Rattle.running_store.specs.Calls.{IsFailed}
use Rattle.running_store.specs.Courses.{Stop}
use Rattle.running_store.specs.Courses.Stop.{Full, At_end}
use Rattle.running_store.specs.Taking.{Ending}
use Rattle.running_store.specs.Taking.Ending.{Done, Stopped}
use Rattle.execution.specs.declared.exec_err.ExecErr.{ExecErr}
use Rattle.execution.specs.declared.exec_err.ExecErr.TheVariants.{Refused, LogFull, LsnEnd, DiskFault, Damaged, Memory}
use Rattle.store_engine.specs.Engine.{EngineView, Holds, KeepsCommands}
use Rattle.store_engine.specs.Store.{refusal_after}
use Rattle.store_engine.specs.Lists.{AddsFront, AreCalls, ComesNext, IsCutOff, as_exec, ending_of}
use Rattle.store_engine.specs.ListSteps.{ExecDone, ExecRefused, ExecStopped, ExecFailed, FetchDone, FetchFailed}
use Rattle.store_engine.specs.Commands.{HasRun, HasFetched}
use Rattle.store_calls.specs.Making.{Adds, Answers, Calls, HasFront, Reads, one_accepted}
use Rattle.store_calls.specs.OfEngine.{AddsInWorlds, engine_view}

module _ {O : Type 0} (meaning : Bounds → Meaning O) {old new : Disk} {before after : EngineView} where
  -- what an engine says of calls is what is said of those on a store
  pub engine_calls : {error : Option ExecErr} → AreCalls meaning old new before after error → Calls (engine_view meaning) old new before after error
  engine_calls calls = record {
    own = calls;
    params = calls.call.params;
    unbroken = λ fine. false_from_ne_true after.broken (λ broken. fine (calls.call.broken.0 broken));
  }

  -- after calls memory runs out
  pub calls_short : AreCalls meaning old new before after None → AreCalls meaning old new before after (Some Memory)
  calls_short calls = record {
    call = record {
      time = calls.call.time;
      quiet = calls.call.quiet;
      params = calls.call.params;
      group = calls.call.group;
      copied = calls.call.copied;
      attached = calls.call.attached;
      identities = calls.call.identities;
      stopped = λ stop is. cc;
      broken = calls.call.broken;
      fault = calls.call.fault;
    };
    undamaged = λ told attached. tt;
    damaged = tt;
  }

  -- a command that is not done leaves what engine and files stand for
  pub run_keeps : (op : O) (e : ExecErr) → HasRun meaning old new before after op (Err e) → KeepsCommands meaning old new before after (ending_of (Some e))
  run_keeps op e ran = record {
    holds = λ p commands holds. ⊎_elim (λ is. inl (subst (λ (r : Result ℕ ExecErr). IsFailed (ending_of (result_err r))) (sym is) tt)) (λ kept. inr kept) (ran.err p commands holds);
    images = ran.images;
  }

  -- where calls add commands, engine and files stand for a front of these too
  pub has_front : (p : Params) (commands ops : List O) (ending : Ending) (w : World O) → AddsFront meaning p old new before after w commands ops ending → IsFailed ending ⊎ HasFront (engine_view meaning) p new after commands ops ending
  has_front p commands ops ending w adds = ⊎_elim (λ failed. inl failed) (λ reached. inr (record {
    done = adds.done;
    front = adds.front;
    all = adds.all;
    stopped = λ stop is. omega (arith, length-drop adds.done ops, ap (λ (l : List O). length l) (adds.stopped stop is).here);
    holds = record { world = reached.world; shows = reached.shows; commands_are = reached.commands_are };
  })) adds.kept

module _ {O T : Type 0} (meaning : Bounds → Meaning O) (disk : T → Disk) (old : T) (before : EngineView) where
  -- before the first call
  abbrev pub IsBegin : Type 0
  IsBegin = (p : Params) (commands : List O) → (holds : Holds meaning p (disk old) before commands) → AddsFront meaning p (disk old) (disk old) before before holds.world commands [] Done

  pub starts : IsBegin → (p : Params) (commands : List O) → AddsInWorlds meaning p (disk old) (disk old) before before commands [] Done
  starts begin p commands w shows are = begin p commands (record { world = w; shows = shows; commands_are = are })

  module _ (new : T) (after : EngineView) (begin : IsBegin) where
    pub fetch_reads : FetchDone meaning disk → FetchFailed meaning disk → (object : ℕ) (error : Option ReadErr) → AreCalls meaning (disk old) (disk new) before after (as_exec error)
        → HasFetched meaning (disk old) (disk new) before after object error → Reads (engine_view meaning) (disk old) (disk new) before after (as_exec error)
    fetch_reads done failed object error calls fetch = record { calls = engine_calls meaning calls; adds = λ p commands holds. by_error p commands error fetch }
      where
        by_error : (p : Params) (commands : List O) (e : Option ReadErr) → HasFetched meaning (disk old) (disk new) before after object e → Adds (engine_view meaning) (disk old) (disk new) before after p commands [] (as_exec e)
        by_error p commands None fetch rest ended w shows are =
            subst (λ (l : List O). AddsFront meaning p (disk old) (disk new) before after w commands l Done) (sym (ended refl))
            (done old old new before before after p w commands [] object (starts begin p commands w shows are) fetch)
        by_error p commands (Some e) fetch rest ended w shows are = failed old old new before before after p w commands [] rest object e (starts begin p commands w shows are) fetch

    module _ (op : O) (done : ExecDone meaning disk) (refused : ExecRefused meaning disk) (stopped : ExecStopped meaning disk) (failed : ExecFailed meaning disk) (p : Params) (commands : List O) (holds : Holds meaning p (disk old) before commands) where
      abbrev Ran : Result ℕ ExecErr → Type 0
      Ran result = HasRun meaning (disk old) (disk new) before after op result

      abbrev refusal : Option Refusal
      refusal = refusal_after meaning p commands op

      abbrev Added : List O → Ending → Type 0
      Added ops ending = AddsInWorlds meaning p (disk old) (disk new) before after commands ops ending

      pub adds_done : (n : ℕ) → Ran (Ok n) → (rest : List O) → rest ≡ [] → Added (one_accepted op refusal ++ rest) Done
      adds_done n ran rest none =
          subst (λ (o : Option Refusal). Added (one_accepted op o ++ rest) Done) (sym (ran.on_map p commands holds).0)
          (subst (λ (r : List O). Added ((op ∷ []) ++ r) Done) (sym none)
          (λ w shows are. done old old new before before after p w commands [] op n (starts begin p commands w shows are) ran))

      adds_refused : (r : Refusal) → Ran (Err (Refused r)) → (rest : List O) → rest ≡ [] → Added (one_accepted op refusal ++ rest) Done
      adds_refused r ran rest none =
          subst (λ (o : Option Refusal). Added (one_accepted op o ++ rest) Done) (sym (ran.on_map p commands holds))
          (subst (λ (l : List O). Added l Done) (sym none)
          (λ w shows are. refused old old new before before after p w commands [] op r (starts begin p commands w shows are) ran))

      adds_stopped : (e : ExecErr) (stop : Stop) → Ran (Err e) → ending_of (Some e) ≡ Stopped stop → refusal ≡ None → (rest : List O) → Added (one_accepted op refusal ++ rest) (Stopped stop)
      adds_stopped e stop ran is none rest =
          subst (λ (o : Option Refusal). Added (one_accepted op o ++ rest) (Stopped stop)) (sym none)
          (λ w shows are. stopped old old new before before after p w commands [] op rest e stop (starts begin p commands w shows are) ran is)

      -- it is the first that is to come, or it is refused
      comes_next : (rest : List O) → ComesNext meaning p (commands ++ []) op (one_accepted op refusal ++ rest)
      comes_next rest = by_refusal refusal refl
        where
          by_refusal : (o : Option Refusal) → refusal ≡ o → ComesNext meaning p (commands ++ []) op (one_accepted op refusal ++ rest)
          by_refusal None is = inr (rest, ap (λ (q : Option Refusal). one_accepted op q ++ rest) is)
          by_refusal (Some r) is = inl (r, ap (λ (l : List O). refusal_after meaning p l op) (append-nil commands) ∙ is)

      adds_cut : (e : ExecErr) → Ran (Err e) → IsCutOff (ending_of (Some e)) → (rest : List O) → Added (one_accepted op refusal ++ rest) (ending_of (Some e))
      adds_cut e ran is rest w shows are =
          failed old old new before before after p w commands [] op (one_accepted op refusal ++ rest) e (starts begin p commands w shows are) ran (comes_next rest) is

      pub adds_err : (e : ExecErr) → Ran (Err e) → Adds (engine_view meaning) (disk old) (disk new) before after p commands (one_accepted op refusal) (Some e)
      adds_err (Refused r) ran rest ended = adds_refused r ran rest (ended refl)
      adds_err (LogFull used need limit) ran rest ended = adds_stopped (LogFull used need limit) (Full used need limit) ran refl (ran.on_map p commands holds).0 rest
      adds_err (LsnEnd number) ran rest ended = adds_stopped (LsnEnd number) (At_end number) ran refl (ran.on_map p commands holds) rest
      adds_err DiskFault ran rest ended = adds_cut DiskFault ran tt rest
      adds_err (Damaged file place) ran rest ended = adds_cut (Damaged file place) ran tt rest
      adds_err Memory ran rest ended = adds_cut Memory ran tt rest

      pub answers_err : (e : ExecErr) → Ran (Err e) → Answers refusal (Some e)
      answers_err (Refused r) ran = ran.on_map p commands holds
      answers_err (LogFull used need limit) ran = (ran.on_map p commands holds).0
      answers_err (LsnEnd number) ran = ran.on_map p commands holds
      answers_err DiskFault ran = tt
      answers_err (Damaged file place) ran = tt
      answers_err Memory ran = tt

-- what is said of an answer
pub if_ok : {A E : Type 0} (r : Result A E) (P Q : A → Type 0) → ((a : A) → P a → Q a) → IfOk r P → IfOk r Q
if_ok (Ok a) P Q on is = on a is
if_ok (Err e) P Q on is = tt
