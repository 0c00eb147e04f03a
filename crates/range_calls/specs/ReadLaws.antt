-- What public calls say, from what they are made of.
use Rattle.std.proofs.Common.{◌≡◌, sym, ap, ◌∙◌, subst, refl, Option, None, Some, List, [], ◌∷◌, ◌++◌, append-nil}
use Rattle.std.specs.Result.{result_err}
use Rattle.std.specs.Prelude.{Result, Err, IsErrAnd, IfErr, IfOk}
use Rattle.std.proofs.lemmas.Result.{err_from_is_err_and}
use Rattle.disk_model.specs.Disk.{Disk}
use Rattle.formats.specs.declared.params.Params.{Params}
use Rattle.running_store.specs.Taking.Ending.{Done}
use Rattle.execution.specs.declared.exec_err.ExecErr.{ExecErr}
use Rattle.store_engine.specs.Lists.{ending_of}
use Rattle.store_calls.specs.Laws.{GoOn}
use Rattle.store_calls.specs.Making.{Adds, Calls, Makes, Reads}
use Rattle.store_calls.specs.View.{View}
use Rattle.range_calls.specs.Answers.{cause_in, cause_of, made_of}
use Rattle.range_calls.specs.JoinLaws.{adds_on}
use Rattle.range_calls.specs.Store.{Command}
use Rattle.range_calls.specs.declared.call_err.CallErr.{CallErr}

module _ {S T : Type 0} (view : View Command S) (disk : T → Disk) (laws : GoOn view disk) (old mid new : T) (before between after : S) (error : Option ExecErr) (p : Params) (commands : List Command)
    (reads : Reads view (disk old) (disk mid) before between None) (holds : view.holds p (disk old) before commands) where
  -- commands after calls that only read
  pub adds_behind : (ops rest : List Command) → Adds view (disk mid) (disk new) between after p commands ops error → (ending_of error ≡ Done → rest ≡ [])
      → view.adds p (disk old) (disk new) before after commands (ops ++ rest) (ending_of error)
  adds_behind ops rest adds ended =
      adds_on view disk laws old mid new before between after error p commands [] ops rest (reads.adds p commands holds [] (λ done. refl))
      (subst (λ (l : List Command). Adds view (disk mid) (disk new) between after p l ops error) (sym (append-nil commands)) adds) ended

  pub one_behind : (ops all : List Command) → ops ≡ all → Adds view (disk mid) (disk new) between after p commands ops error → view.adds p (disk old) (disk new) before after commands all (ending_of error)
  one_behind ops all same adds =
      subst (λ (l : List Command). view.adds p (disk old) (disk new) before after commands l (ending_of error)) (append-nil ops ∙ same) (adds_behind ops [] adds (λ done. refl))

  -- what a turn makes: a command that is due, after calls that only read
  pub turn_adds : (op : Command) (ops : List Command) → ops ≡ op ∷ [] → Adds view (disk mid) (disk new) between after p commands (made_of p.cap (op ∷ [])) error
      → Adds view (disk old) (disk new) before after p commands (made_of p.cap ops) error
  turn_adds op ops is adds rest ended =
      subst (λ (l : List Command). view.adds p (disk old) (disk new) before after commands (l ++ rest) (ending_of error)) (sym (ap (made_of p.cap) is)) (adds_behind (made_of p.cap (op ∷ [])) rest adds ended)

-- an error that is passed on
pub passed : {R U : Type 0} (r : Result U (CallErr R)) (e : CallErr R) → IsErrAnd r (λ x. x ≡ e) → r ≡ Err e
passed {R} {U} r e is = let found = err_from_is_err_and r is in found.1 ∙ (λ i. Err (found.2 i))

pub makes_err : {R S U : Type 0} {view : View Command S} {old new : Disk} {before after : S} {ops : Params → List Command → List Command} (r : Result U (CallErr R)) (e : CallErr R) → r ≡ Err e
    → Makes view old new before after ops (cause_of e) → Makes view old new before after ops (cause_in r)
makes_err {R} {S} {U} {view} {old} {new} {before} {after} {ops} r e is makes = subst (λ (q : Result U (CallErr R)). Makes view old new before after ops (cause_in q)) (sym is) makes

pub answers_passed : {R U : Type 0} (r : Result U (CallErr R)) (e : CallErr R) (x : Result U (CallErr R)) → r ≡ Err e → (ending_of (cause_of e) ≡ Done → Err e ≡ x) → ending_of (cause_in r) ≡ Done → r ≡ x
answers_passed {R} {U} r e x is answer done = is ∙ answer (subst (λ (q : Result U (CallErr R)). ending_of (cause_in q) ≡ Done) is done)

pub adds_passed : {R S U : Type 0} (view : View Command S) {p : Params} {old new : Disk} {before after : S} {commands ops : List Command} (r : Result U (CallErr R)) (e : CallErr R) → r ≡ Err e
    → view.adds p old new before after commands ops (ending_of (cause_of e)) → view.adds p old new before after commands ops (ending_of (cause_in r))
adds_passed {R} {S} {U} view {p} {old} {new} {before} {after} {commands} {ops} r e is adds =
    subst (λ (q : Result U (CallErr R)). view.adds p old new before after commands ops (ending_of (cause_in q))) (sym is) adds

pub calls_passed : {R S U : Type 0} (view : View Command S) {old new : Disk} {before after : S} (r : Result U (CallErr R)) (e : CallErr R) → r ≡ Err e
    → Calls view old new before after (cause_of e) → Calls view old new before after (cause_in r)
calls_passed {R} {S} {U} view {old} {new} {before} {after} r e is calls = subst (λ (q : Result U (CallErr R)). Calls view old new before after (cause_in q)) (sym is) calls

pub refused_passed : {R U : Type 0} (r : Result U (CallErr R)) (e : CallErr R) (P : CallErr R → Type 0) → r ≡ Err e → P e → IfErr r P
refused_passed {R} {U} r e P is holds = subst (λ (q : Result U (CallErr R)). IfErr q P) (sym is) holds

pub refuses_passed : {R U : Type 0} (r : Result U (CallErr R)) (e : CallErr R) (x : Option (CallErr R)) → r ≡ Err e → (ending_of (cause_of e) ≡ Done → Some e ≡ x) → ending_of (cause_in r) ≡ Done → result_err r ≡ x
refuses_passed {R} {U} r e x is answer done = ap (λ (q : Result U (CallErr R)). result_err q) is ∙ answer (subst (λ (q : Result U (CallErr R)). ending_of (cause_in q) ≡ Done) is done)

-- where no value is passed on, nothing is said of one
pub nothing_passed : {R U : Type 0} (r : Result U (CallErr R)) (e : CallErr R) (P : U → Type 0) → r ≡ Err e → IfOk r P
nothing_passed {R} {U} r e P is = subst (λ (q : Result U (CallErr R)). IfOk q P) (sym is) tt
