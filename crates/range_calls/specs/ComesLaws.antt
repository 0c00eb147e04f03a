-- What comes of calls, one after the other.
use Rattle.std.proofs.Common.{◌≡◌, refl, sym, ap, ◌∙◌, subst, Option, None, Some, Result, Ok, Err, List, [], ◌++◌, append-nil, append_assoc}
use Rattle.std.proofs.lemmas.List.Sums.{fold-append}
use Rattle.disk_model.specs.Disk.{Disk}
use Rattle.oper_core.specs.State.{State, start}
use Rattle.oper_core.specs.Meaning.{after as after_op}
use Rattle.formats.specs.declared.params.Params.{Params}
use Rattle.running_store.specs.Taking.Ending.{Done}
use Rattle.store_engine.specs.Lists.{ending_of}
use Rattle.store_calls.specs.Laws.{GoOn}
use Rattle.store_calls.specs.Making.{Adds, Reads}
use Rattle.store_calls.specs.View.{View}
use Rattle.call_plans.specs.Laws.{after_all}
use Rattle.call_plans.specs.Plan.{Plan, refused_by}
use Rattle.range_calls.specs.Answers.{cause_in, cause_of}
use Rattle.range_calls.specs.JoinLaws.{adds_on, holds_behind, reads_behind}
use Rattle.range_calls.specs.ReadLaws.{makes_err, refuses_passed}
use Rattle.range_calls.specs.RoundLaws.{and_then, begins_behind, tried_append, unless_ended}
use Rattle.range_calls.specs.Rounds.{Comes, behind, no_plan, tried_all}
use Rattle.range_calls.specs.Store.{Command, meaning_in, state_of}
use Rattle.range_calls.specs.declared.call_err.CallErr.{CallErr}

pub then_nothing : {O R : Type 0} (first : Plan O R) → and_then first no_plan ≡ first
then_nothing {O} {R} first = by_refusal first.refusal
  where
    by_refusal : (o : Option R) → unless_ended first.commands no_plan o ≡ record { commands = first.commands; refusal = o }
    by_refusal None = λ i. record { commands = append-nil first.commands i; refusal = None }
    by_refusal (Some r) = refl

-- the state after commands more
pub state_behind : (p : Params) (commands more : List Command) → state_of p (commands ++ more) ≡ after_all (meaning_in p) (state_of p commands) more
state_behind p commands more = fold-append (after_op (meaning_in p)) start commands more

-- a plan for a store with some commands
abbrev pub Plans : Type 0 → Type 0
Plans R = Params → List Command → Plan Command (CallErr R)

abbrev pub failed : {R : Type 0} (U : Type 0) → CallErr R → Result U (CallErr R)
failed U e = Err e

-- what comes of commands
abbrev pub ran : {R : Type 0} → List Command → Plans R
ran ops p commands = tried_all p (state_of p commands) ops None

module _ {R S : Type 0} (view : View Command S) where
  module _ {U : Type 0} {old new : Disk} {before after : S} (plan all : Plans R) where
    -- the same plan where the store stands for commands
    pub comes_as : (r : Result U (CallErr R)) → ((p : Params) (commands : List Command) → view.holds p old before commands → plan p commands ≡ all p commands)
        → Comes view old new before after plan r → Comes view old new before after all r
    comes_as r same comes = record {
      makes = record {
        calls = comes.makes.calls;
        adds = λ p commands holds. subst (λ (q : Plan Command (CallErr R)). Adds view old new before after p commands q.commands (cause_in r)) (same p commands holds) (comes.makes.adds p commands holds);
      };
      answer = λ p commands holds done. comes.answer p commands holds done ∙ ap (λ (q : Plan Command (CallErr R)). q.refusal) (same p commands holds);
    }

  module _ {U V : Type 0} {old new : Disk} {before after : S} (plan all : Plans R) where
    -- where a call ends early, or is refused, nothing of what would come behind it is made
    pub comes_ended : (e : CallErr R) (rest_of : Plans R) → ((p : Params) (commands : List Command) → view.holds p old before commands → and_then (plan p commands) (rest_of p commands) ≡ all p commands)
        → Comes view old new before after plan (failed U e) → Comes view old new before after all (failed V e)
    comes_ended e rest_of same comes = record {
      makes = record { calls = comes.makes.calls; adds = λ p commands holds rest ended. adds p commands holds rest ended (plan p commands).refusal refl };
      answer = λ p commands holds done.
          ap (λ (o : Option (CallErr R)). (unless_ended (plan p commands).commands (rest_of p commands) o).refusal) (comes.answer p commands holds done)
          ∙ ap (λ (x : Plan Command (CallErr R)). x.refusal) (same p commands holds);
    }
      where
        adds : (p : Params) (commands : List Command) → view.holds p old before commands → (rest : List Command) → (ending_of (cause_of e) ≡ Done → rest ≡ []) → (o : Option (CallErr R)) → (plan p commands).refusal ≡ o
            → view.adds p old new before after commands ((all p commands).commands ++ rest) (ending_of (cause_of e))
        adds p commands holds rest ended None is =
            let q = plan p commands in
            let more = rest_of p commands in
            subst (λ (l : List Command). view.adds p old new before after commands l (ending_of (cause_of e)))
            (sym (append_assoc q.commands more.commands rest) ∙ ap (λ (x : Plan Command (CallErr R)). x.commands ++ rest) (sym (ap (unless_ended q.commands more) is) ∙ same p commands holds))
            (comes.makes.adds p commands holds (more.commands ++ rest) (λ done. absurd (cc (comes.answer p commands holds done, is))))
        adds p commands holds rest ended (Some f) is =
            let q = plan p commands in
            let more = rest_of p commands in
            subst (λ (l : List Command). view.adds p old new before after commands l (ending_of (cause_of e)))
            (ap (λ (x : Plan Command (CallErr R)). x.commands ++ rest) (sym (ap (unless_ended q.commands more) is) ∙ same p commands holds))
            (comes.makes.adds p commands holds rest ended)

  -- an error that is passed on
  pub comes_passed : {U V : Type 0} {old new : Disk} {before after : S} {plan : Plans R} (r : Result U (CallErr R)) (e : CallErr R) → r ≡ Err e
      → Comes view old new before after plan (failed V e) → Comes view old new before after plan r
  comes_passed {plan = plan} r e is comes = record {
    makes = makes_err r e is comes.makes;
    answer = λ p commands holds. refuses_passed r e (plan p commands).refusal is (comes.answer p commands holds);
  }

  -- a call that only reads, and is refused
  pub comes_refused : {U : Type 0} {old new : Disk} {before after : S} (plan : Plans R) (r : Result U (CallErr R)) (e : CallErr R) → r ≡ Err e → Reads view old new before after (cause_of e)
      → ((p : Params) (commands : List Command) → view.holds p old before commands → ending_of (cause_of e) ≡ Done → plan p commands ≡ refused_by e) → Comes view old new before after plan r
  comes_refused {U} plan r e is reads refused = comes_passed {V = U} r e is (record {
    makes = record {
      calls = reads.calls;
      adds = λ p commands holds rest ended. reads.adds p commands holds ((plan p commands).commands ++ rest)
          (λ done. ap (λ (q : Plan Command (CallErr R)). q.commands ++ rest) (refused p commands holds done) ∙ ended done);
    };
    answer = λ p commands holds done. sym (ap (λ (q : Plan Command (CallErr R)). q.refusal) (refused p commands holds done));
  })

  -- a value beside what is made
  pub comes_ok : {U V : Type 0} {old new : Disk} {before after : S} {plan : Plans R} {done : U} (value : V) → Comes view old new before after plan (Ok done) → Comes view old new before after plan (Ok value)
  comes_ok value comes = record { makes = record { calls = comes.makes.calls; adds = comes.makes.adds }; answer = comes.answer }

  module _ {T : Type 0} (disk : T → Disk) (laws : GoOn view disk) (old mid new : T) (before between after : S) where
    -- a call behind calls that only read
    pub comes_read : {U : Type 0} (plan all : Plans R) (r : Result U (CallErr R)) → Reads view (disk old) (disk mid) before between None
        → ((p : Params) (commands : List Command) → view.holds p (disk old) before commands → plan p commands ≡ all p commands)
        → Comes view (disk mid) (disk new) between after plan r → Comes view (disk old) (disk new) before after all r
    comes_read plan all r reads same comes = comes_as plan all r same (record {
      makes = reads_behind view disk laws old mid new before between after (λ p commands. (plan p commands).commands) (cause_in r) reads comes.makes;
      answer = λ p commands holds done. comes.answer p commands (holds_behind view disk laws p old mid before between commands reads holds) done;
    })

    -- a call behind one that is done
    pub comes_on : {U V : Type 0} (first second all : Plans R) (value : U) (r : Result V (CallErr R))
        → ((p : Params) (commands : List Command) → view.holds p (disk old) before commands → let q = first p commands in and_then q (second p (commands ++ q.commands)) ≡ all p commands)
        → Comes view (disk old) (disk mid) before between first (Ok value) → Comes view (disk mid) (disk new) between after second r → Comes view (disk old) (disk new) before after all r
    comes_on first second all value r same done more = record {
      makes = record {
        calls = laws.calls old mid new before between after (cause_in r) done.makes.calls more.makes.calls;
        adds = λ p commands holds rest ended.
            let q = first p commands in
            let ops = (second p (commands ++ q.commands)).commands in
            subst (λ (l : List Command). view.adds p (disk old) (disk new) before after commands l (ending_of (cause_in r)))
            (sym (append_assoc q.commands ops rest) ∙ ap (λ (x : Plan Command (CallErr R)). x.commands ++ rest) (whole p commands holds))
            (adds_on view disk laws old mid new before between after (cause_in r) p commands q.commands ops rest (fronted p commands holds) (more.makes.adds p (commands ++ q.commands) (there p commands holds)) ended);
      };
      answer = λ p commands holds ends.
          more.answer p (commands ++ (first p commands).commands) (there p commands holds) ends ∙ ap (λ (x : Plan Command (CallErr R)). x.refusal) (whole p commands holds);
    }
      where
        fronted : (p : Params) (commands : List Command) → view.holds p (disk old) before commands → view.adds p (disk old) (disk mid) before between commands (first p commands).commands Done
        fronted p commands holds =
            subst (λ (l : List Command). view.adds p (disk old) (disk mid) before between commands l Done) (append-nil (first p commands).commands) (done.makes.adds p commands holds [] (λ d. refl))

        there : (p : Params) (commands : List Command) → view.holds p (disk old) before commands → view.holds p (disk mid) between (commands ++ (first p commands).commands)
        there p commands holds = laws.holds old mid before between p commands (first p commands).commands holds (fronted p commands holds)

        whole : (p : Params) (commands : List Command) → view.holds p (disk old) before commands
            → (let q = first p commands in behind q.commands (second p (commands ++ q.commands)) ≡ all p commands)
        whole p commands holds =
            let q = first p commands in
            ap (unless_ended q.commands (second p (commands ++ q.commands))) (done.answer p commands holds refl) ∙ same p commands holds

    -- commands behind others
    pub ran_on : {U V : Type 0} (ops more : List Command) (value : U) (r : Result V (CallErr R))
        → Comes view (disk old) (disk mid) before between (ran {R = R} ops) (Ok value) → Comes view (disk mid) (disk new) between after (ran more) r → Comes view (disk old) (disk new) before after (ran (ops ++ more)) r
    ran_on ops more value r = comes_on (ran ops) (ran more) (ran (ops ++ more)) value r
        (λ p commands holds.
        let q = ran ops p commands in
        ap (λ (s : State). and_then q (tried_all p s more None)) (state_behind p commands q.commands)
        ∙ begins_behind p (state_of p commands) ops (λ s. tried_all p s more None) ∙ tried_append p (state_of p commands) ops more None)

  pub ran_short : {U : Type 0} {old new : Disk} {before after : S} (ops more : List Command) (e : CallErr R)
      → Comes view old new before after (ran ops) (failed U e) → Comes view old new before after (ran (ops ++ more)) (failed U e)
  ran_short {U} ops more e = comes_ended {U = U} {V = U} (ran ops) (ran (ops ++ more)) e (λ p commands. tried_all p (after_all (meaning_in p) (state_of p commands) ops) more None)
      (λ p commands holds. tried_append p (state_of p commands) ops more None)

  -- nothing is made
  pub comes_none : (d : Disk) (store : S) {U : Type 0} (value : U) → Reads view d d store store None → (let done : Result U (CallErr R) = Ok value in Comes view d d store store (λ p commands. no_plan) done)
  comes_none d store value reads = record { makes = reads; answer = λ p commands holds done. refl }

  -- what public calls say
  pub adds_of : {U : Type 0} {old new : Disk} {before after : S} (plan : Plans R) (r : Result U (CallErr R)) → Comes view old new before after plan r
      → (p : Params) (commands : List Command) → view.holds p old before commands → view.adds p old new before after commands (plan p commands).commands (ending_of (cause_in r))
  adds_of {U} {old} {new} {before} {after} plan r comes p commands holds =
      subst (λ (l : List Command). view.adds p old new before after commands l (ending_of (cause_in r))) (append-nil (plan p commands).commands) (comes.makes.adds p commands holds [] (λ done. refl))
