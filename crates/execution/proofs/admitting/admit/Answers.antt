use Rattle.std.proofs.Common.{◌≡◌, ◌∙◌, ℕ, List, ap, sym, subst, refl, false, true, inr, rules, Option, None, Some}
use Rattle.std.specs.Prelude.{IfErr}
use Rattle.std.proofs.lemmas.Bool.{both_ways}
use Rattle.disk_model.specs.Disk.{Disk}
use Rattle.disk_model.specs.declared.machine.FileNo.TheVariants.{Objects}
use Rattle.formats.specs.Objects.{bounds_of}
use Rattle.formats.specs.declared.params.Params.{Params}
use Rattle.dirty_cache.specs.Contents.{Contents}
use Rattle.oper_core.specs.Meaning.{FitsReads, IsInGrammar, read_values}
use Rattle.oper_core.specs.declared.bounds.Bounds.{Bounds}
use Rattle.oper_core.specs.declared.refusal.Refusal.{Refusal}
use Rattle.stable_objects.specs.SlotsView.{SlotsView}
use Rattle.running_store.specs.Calls.AfterReads.{fetch_as, fetch_left, fetch_unbroken}
use Rattle.running_store.specs.Calls.Commands.{IsLeft, IsReady}
use Rattle.running_store.specs.Laid.Lent.{inputs_in}
use Rattle.running_store.specs.Parts.{meaning_in}
use Rattle.running_store.specs.Calls.Fetches.{IsFetch}
use Rattle.running_store.specs.Calls.{IsFailed}
use Rattle.running_store.specs.Laid.{IsLaidOn, Laid, values_in}
use Rattle.running_store.specs.StoreView.{StoreView, store_params}
use Rattle.execution.specs.Answers.{ending_of_exec}
use Rattle.execution.specs.Endings.{fetched_ends}
use Rattle.execution.specs.Failures.{IsAdmitFailure, exec_from_read}
use Rattle.execution.specs.declared.exec_err.ExecErr.TheVariants.{Memory}
use Rattle.execution.proofs.Admitted.{own_read, refused_by_check, values_fit}
use Rattle.cache_manager.specs.Endings.{at_err}
use Rattle.execution.proofs.Unadmitted.{unread}
use Rattle.execution.proofs.admitting.admit.Given.{Over}
use Rattle.execution.proofs.admitting.admit.Goals.{In_ok-copies}
use Rattle.execution.proofs.admitting.admit.Goals as goal

pub returns-in_err-copies-clause-call : goal.returns-in_err-copies-clause-call
returns-in_err-copies-clause-call g c =
    let old = g.M.Machine.disk c.args.machine.now in
    let new = g.M.Machine.disk c.inputs_of.new.machine in
    let before : StoreView = c.args.store.now in
    let after : StoreView = c.inputs_of.new.self in
    let e = c.in_err-copies.field-0.0 in
    at_err (λ r. IsFetch old new before after (IsFailed (ending_of_exec r))) c.from_residual.result (exec_from_read e) c.from_residual.ensures.1 (fetch_as old new before after _ _ (fetched_ends e) c.in_err-copies.ensures.call)

pub returns-in_err-copies-clause-fault : goal.returns-in_err-copies-clause-fault
returns-in_err-copies-clause-fault g c = search rules

pub returns-in_err-copies-clause-cause : goal.returns-in_err-copies-clause-cause
returns-in_err-copies-clause-cause g c =
    let old = g.M.Machine.disk c.args.machine.now in
    let new = g.M.Machine.disk c.inputs_of.new.machine in
    let p = store_params c.args.store.now in
    let e = c.in_err-copies.field-0.0 in
    at_err (λ r. IfErr r (IsAdmitFailure g.O.Oper.meaning p c.args.op.now old new c.args.store.now.parts.volatile.objects)) c.from_residual.result (exec_from_read e) c.from_residual.ensures.1
    (unread g.O.Oper.meaning p c.args.op.now old new c.args.store.now.parts.volatile.objects c.as_slice.result.now e (c.as_slice.ensures.value ∙ c.reads.ensures (bounds_of p)) c.in_err-copies.ensures.some c.in_err-copies.ensures.cause)

-- what it reads is fetched
module _ (g : Over) (c : In_ok-copies g) where
  abbrev old : Disk
  old = g.M.Machine.disk c.args.machine.now

  abbrev new : Disk
  new = g.M.Machine.disk c.inputs_of.new.machine

  abbrev p : Params
  p = store_params c.args.store.now

  abbrev q : Params
  q = store_params c.inputs_of.new.self

  same : q ≡ p
  same = ap (λ (s : SlotsView). s.params) c.in_ok-copies.ensures.call.read.fetched.slots

  fetched : IsFetch old new c.args.store.now c.inputs_of.new.self ⊥
  fetched = fetch_as old new c.args.store.now c.inputs_of.new.self (false ≡ true) ⊥ (λ failed. both_ways false refl failed, λ none. absurd none) c.in_ok-copies.ensures.call

  grammar : IsInGrammar (meaning_in g.O.Oper.meaning p) c.args.op.now
  grammar = sym (c.in_default.ensures ∙ ap (λ (b : Bounds). (g.O.Oper.meaning b).shape c.args.op.now) (c.bounds-bounds.ensures ∙ ap (λ (o : Laid). bounds_of o.slots.params) c.objects.ensures))

  reads_are : c.as_slice.result.now ≡ (meaning_in g.O.Oper.meaning p).reads c.args.op.now
  reads_are = c.as_slice.ensures.value ∙ c.reads.ensures (bounds_of p)

  abbrev cache : Contents
  cache = c.inputs_of.new.self.parts.volatile.objects.cache

  abbrev values : List (List ℕ)
  values = inputs_in cache c.as_slice.result.now c.in_ok-copies.copies

  fits : FitsReads (meaning_in g.O.Oper.meaning p) c.args.op.now values
  fits = values_fit g.O.Oper.meaning g.met.O.Oper.bounded g.met.O.Oper.lawful p c.params-params.ensures.range c.args.op.now grammar c.as_slice.result.now values reads_are c.in_ok-copies.ensures.count c.in_ok-copies.ensures.short

  -- the values are those of what it reads, whichever LSNs say what that is
  own_values : (k : Params) → values ≡ inputs_in cache ((meaning_in g.O.Oper.meaning k).reads c.args.op.now) c.in_ok-copies.copies
  own_values k = ap (λ (l : List ℕ). inputs_in cache l c.in_ok-copies.copies) (c.as_slice.ensures.value ∙ c.reads.ensures (bounds_of k))

  read : old.tells_files → IsLaidOn c.args.store.now.parts.volatile.objects (old.reads Objects) → values ≡ read_values (meaning_in g.O.Oper.meaning p) (values_in c.args.store.now.parts.volatile.objects (old.reads Objects)) c.args.op.now
  read told laid = own_read g.O.Oper.meaning p c.args.op.now (old.reads Objects) c.args.store.now.parts.volatile.objects c.as_slice.result.now values reads_are (c.in_ok-copies.ensures.values told laid)

  -- and it is checked on that, which changes nothing
  looked : (after : StoreView) → IsLeft c.inputs_of.new.self after → after.parts.log ≡ c.inputs_of.new.self.parts.log → IsFetch old new c.args.store.now after ⊥
  looked after left log = fetch_left old new c.args.store.now c.inputs_of.new.self after ⊥ fetched left log

  said : (answer : Option Refusal) → answer ≡ (meaning_in g.O.Oper.meaning q).check c.args.op.now (inputs_in cache ((meaning_in g.O.Oper.meaning q).reads c.args.op.now) c.in_ok-copies.copies)
      → answer ≡ (meaning_in g.O.Oper.meaning p).check c.args.op.now values
  said answer is = is ∙ ap (λ (vs : List (List ℕ)). (meaning_in g.O.Oper.meaning q).check c.args.op.now vs) (sym (own_values q)) ∙ ap (λ (k : Params). (meaning_in g.O.Oper.meaning k).check c.args.op.now values) same

pub check_command-requires-clause-unbroken : goal.check_command-requires-clause-unbroken
check_command-requires-clause-unbroken g c =
    let at = (goal.at.check_command-requires-clause-unbroken g c).In_ok-copies in
    fetch_unbroken (old g at) (new g at) c.args.store.now c.inputs_of.new.self (fetched g at)

pub check_command-requires-clause-grammar : goal.check_command-requires-clause-grammar
check_command-requires-clause-grammar g c =
    let at = (goal.at.check_command-requires-clause-grammar g c).In_ok-copies in
    subst (λ (k : Params). IsInGrammar (meaning_in g.O.Oper.meaning k) c.args.op.now) (sym (same g at)) (grammar g at)

pub check_command-requires-clause-fits : goal.check_command-requires-clause-fits
check_command-requires-clause-fits g c =
    let at = (goal.at.check_command-requires-clause-fits g c).In_ok-copies in
    subst (λ (vs : List (List ℕ)). FitsReads (meaning_in g.O.Oper.meaning (q g at)) c.args.op.now vs) (own_values g at (q g at))
    (subst (λ (k : Params). FitsReads (meaning_in g.O.Oper.meaning k) c.args.op.now (values g at)) (sym (same g at)) (fits g at))

pub returns-in-Err-check_command-clause-call : goal.returns-in-Err-check_command-clause-call
returns-in-Err-check_command-clause-call g c =
    let at = (goal.at.returns-in-Err-check_command-clause-call g c).In_ok-copies in
    looked g at c.check_command.new.self c.in-Err-check_command.ensures.left c.in-Err-check_command.ensures.log

pub returns-in-Err-check_command-clause-shown : goal.returns-in-Err-check_command-clause-shown
returns-in-Err-check_command-clause-shown g c told laid =
    let at = (goal.at.returns-in-Err-check_command-clause-shown g c).In_ok-copies in
    refused_by_check g.O.Oper.meaning (p g at) c.args.op.now (bounds_of (p g at)) refl (values_in c.args.store.now.parts.volatile.objects ((old g at).reads Objects)) (values g at) (Some c.in-Err-check_command.refusal) (sym (grammar g at)) (read g at told laid)
    (said g at (Some c.in-Err-check_command.refusal) c.in-Err-check_command.ensures.answer)

pub returns-in-Err-check_command-clause-cause : goal.returns-in-Err-check_command-clause-cause
returns-in-Err-check_command-clause-cause g c =
    let at = (goal.at.returns-in-Err-check_command-clause-cause g c).In_ok-copies in
    inr (values g at, grammar g at, fits g at, sym (said g at (Some c.in-Err-check_command.refusal) c.in-Err-check_command.ensures.answer))

pub returns-in_err-length-clause-call : goal.returns-in_err-length-clause-call
returns-in_err-length-clause-call g c =
    let at = (goal.at.returns-in_err-length-clause-call g c).In_ok-copies in
    at_err (λ r. IsFetch (old g at) (new g at) c.args.store.now c.check_command.new.self (IsFailed (ending_of_exec r))) c.from_residual-in_err-length.result Memory c.from_residual-in_err-length.ensures.1
    (looked g at c.check_command.new.self c.check_command.ensures.left c.check_command.ensures.log)

pub returns-clause-call : goal.returns-clause-call
returns-clause-call g c =
    let at = (goal.at.returns-clause-call g c).In_ok-copies in
    looked g at c.check_command.new.self c.check_command.ensures.left c.check_command.ensures.log

pub returns-clause-ready : goal.returns-clause-ready
returns-clause-ready g c =
    let at = (goal.at.returns-clause-ready g c).In_ok-copies in
    subst (λ (vs : List (List ℕ)). IsReady g.O.Oper.meaning (p g at) c.args.op.now vs) (own_values g at (p g at) ∙ sym (c.check_command.ensures.same ((meaning_in g.O.Oper.meaning (p g at)).reads c.args.op.now)))
    (record { shape = grammar g at; fits = fits g at; check = sym (said g at None c.in_default-check_command.ensures.answer) })

pub returns-clause-read : goal.returns-clause-read
returns-clause-read g c told laid =
    let at = (goal.at.returns-clause-read g c).In_ok-copies in
    c.check_command.ensures.same ((meaning_in g.O.Oper.meaning (p g at)).reads c.args.op.now) ∙ sym (own_values g at (p g at)) ∙ read g at told laid
