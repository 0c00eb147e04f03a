use Rattle.std.proofs.Common.{◌≡◌, ◌∙◌, ◌<◌, ◌≤◌, All, sym, subst, length, map, false, true, refl, ℕ}
use Rattle.std.proofs.lemmas.Bool.{both_ways}
use Rattle.std.proofs.lemmas.List.{length-map}
use Rattle.std.proofs.lemmas.Result.{err_from_is_err_and}
use Rattle.disk_model.specs.declared.machine.FileNo.TheVariants.{Objects}
use Rattle.stable_objects.specs.SlotsView.{SlotsView, lsn_in}
use Rattle.running_store.specs.Calls.AfterReads.{fetch_as, fetch_unbroken}
use Rattle.running_store.specs.Laid.{Laid}
use Rattle.running_store.specs.Laid.Lent.{cached_values}
use Rattle.running_store.specs.StoreView.{StoreView}
use Rattle.running_store.proofs.FetchLemmas.{fetch_twice, handed_on, later_fails, read_later}
use Rattle.running_store.proofs.LentLemmas.{cached_short, values_cached, values_kept}
use Rattle.running_store.proofs.store.Store.inputs_of.Given.{Over}
use Rattle.running_store.proofs.store.Store.inputs_of.Goals.{In_ok-fetch_all}
use Rattle.running_store.proofs.store.Store.inputs_of.Goals as goal

pub returns-in_err-fetch_all-clause-call : goal.returns-in_err-fetch_all-clause-call
returns-in_err-fetch_all-clause-call g c =
    handed_on (g.M.Machine.disk c.args.machine.now) (g.M.Machine.disk c.fetch_all.new.machine) c.args.self.now c.fetch_all.new.self c.from_residual.result _ c.from_residual.ensures.1 c.in_err-fetch_all.ensures.call

pub returns-in_err-fetch_all-clause-cause : goal.returns-in_err-fetch_all-clause-cause
returns-in_err-fetch_all-clause-cause g c =
    let e = err_from_is_err_and c.from_residual.result c.from_residual.ensures.1 in
    rw (e.1, e.2) c.in_err-fetch_all.ensures.cause

-- where the cache has all
pub returns-then-branch-clause-values : goal.returns-then-branch-clause-values
returns-then-branch-clause-values g c told laid =
    let file = (g.M.Machine.disk c.args.machine.now).reads Objects in
    let before = c.args.self.now.parts.volatile.objects in
    let after = c.fetch_all.new.self.parts.volatile.objects in
    let kept = c.in_ok-fetch_all.ensures.call.read.cells told laid in
    values_cached file after c.args.objects.now (c.in_ok-fetch_all.ensures.held c.if-branch.true) ∙ values_kept file before after c.args.objects.now c.requires.below kept.0

pub returns-then-branch-clause-count : goal.returns-then-branch-clause-count
returns-then-branch-clause-count g c = length-map c.args.objects.now (cached_values c.fetch_all.new.self.parts.volatile.objects.cache)

pub returns-then-branch-clause-short : goal.returns-then-branch-clause-short
returns-then-branch-clause-short g c =
    let after = c.fetch_all.new.self.parts.volatile.objects in
    let short = subst (λ (l : Laid). (x : ℕ) → length (cached_values l.cache x) ≤ l.slots.params.cap) c.objects.ensures c.longest-longest.ensures in
    subst (λ (s : SlotsView). All (λ v. length v ≤ s.params.cap) (map (cached_values after.cache) c.args.objects.now)) c.in_ok-fetch_all.ensures.call.read.fetched.slots (cached_short after.slots.params.cap after.cache c.args.objects.now short)

-- where it may not have all
module _ (g : Over) (c : In_ok-fetch_all g) where
  abbrev mid : StoreView
  mid = c.fetch_all.new.self

  slots : mid.parts.volatile.objects.slots ≡ c.args.self.now.parts.volatile.objects.slots
  slots = c.in_ok-fetch_all.ensures.call.read.fetched.slots

  none_there : All (λ x. lsn_in c.args.self.now.parts.volatile.objects.slots x ≡ 0) c.args.objects.now → All (λ x. lsn_in mid.parts.volatile.objects.slots x ≡ 0) c.args.objects.now
  none_there all = subst (λ (s : SlotsView). All (λ x. lsn_in s x ≡ 0) c.args.objects.now) (sym slots) all

pub values_of-requires-clause-unbroken : goal.values_of-requires-clause-unbroken
values_of-requires-clause-unbroken g c =
    let old = g.M.Machine.disk c.args.machine.now in
    let new = g.M.Machine.disk c.fetch_all.new.machine in
    fetch_unbroken old new c.args.self.now c.fetch_all.new.self (fetch_as old new c.args.self.now c.fetch_all.new.self (false ≡ true) ⊥ (λ failed. both_ways false refl failed, λ none. absurd none) c.in_ok-fetch_all.ensures.call)

pub values_of-requires-clause-below : goal.values_of-requires-clause-below
values_of-requires-clause-below g c =
    subst (λ (s : SlotsView). All (λ x. x < s.params.objects) c.args.objects.now) (sym (slots g (goal.at.values_of-requires-clause-below g c).In_ok-fetch_all)) c.requires.below

pub returns-in_err-copies-clause-call : goal.returns-in_err-copies-clause-call
returns-in_err-copies-clause-call g c =
    let old = g.M.Machine.disk c.args.machine.now in
    let mid = g.M.Machine.disk c.fetch_all.new.machine in
    let new = g.M.Machine.disk c.values_of.new.machine in
    handed_on old new c.args.self.now c.values_of.new.self c.from_residual-in_err-copies.result _ c.from_residual-in_err-copies.ensures.1
    (fetch_twice old mid new c.args.self.now c.fetch_all.new.self c.values_of.new.self _ c.in_ok-fetch_all.ensures.call c.in_err-copies.ensures.call)

pub returns-in_err-copies-clause-none : goal.returns-in_err-copies-clause-none
returns-in_err-copies-clause-none g c = λ all.
    let at = (goal.at.returns-in_err-copies-clause-none g c).In_ok-fetch_all in
    let second = c.in_err-copies.ensures.none (none_there g at all) in
    let e = err_from_is_err_and c.from_residual-in_err-copies.result c.from_residual-in_err-copies.ensures.1 in
    (second.0 ∙ (c.in_ok-fetch_all.ensures.none all).0, rw (e.1, e.2) second.1)

pub returns-in_err-copies-clause-cause : goal.returns-in_err-copies-clause-cause
returns-in_err-copies-clause-cause g c =
    let at = (goal.at.returns-in_err-copies-clause-cause g c).In_ok-fetch_all in
    let e = err_from_is_err_and c.from_residual-in_err-copies.result c.from_residual-in_err-copies.ensures.1 in
    rw (e.1, e.2) (later_fails (g.M.Machine.disk c.args.machine.now) (g.M.Machine.disk c.fetch_all.new.machine) (g.M.Machine.disk c.values_of.new.machine) c.args.self.now.parts.volatile.objects.slots c.fetch_all.new.self.parts.volatile.objects.slots
    c.args.objects.now _ c.in_ok-fetch_all.ensures.call.read.stays (slots g at) c.in_err-copies.ensures.cause)

pub returns-clause-call : goal.returns-clause-call
returns-clause-call g c =
    fetch_twice (g.M.Machine.disk c.args.machine.now) (g.M.Machine.disk c.fetch_all.new.machine) (g.M.Machine.disk c.values_of.new.machine) c.args.self.now c.fetch_all.new.self c.values_of.new.self _ c.in_ok-fetch_all.ensures.call c.in_ok-copies.ensures.call

pub returns-clause-values : goal.returns-clause-values
returns-clause-values g c =
    read_later (g.M.Machine.disk c.args.machine.now) (g.M.Machine.disk c.fetch_all.new.machine) c.args.self.now.parts.volatile.objects c.fetch_all.new.self.parts.volatile.objects c.args.objects.now c.in_ok-copies.copies
    c.in_ok-fetch_all.ensures.call.read c.requires.below c.in_ok-copies.ensures.values

pub returns-clause-count : goal.returns-clause-count
returns-clause-count g c = c.in_ok-copies.ensures.shape.0

pub returns-clause-short : goal.returns-clause-short
returns-clause-short g c =
    let at = (goal.at.returns-clause-short g c).In_ok-fetch_all in
    subst (λ (s : SlotsView). All (λ v. length v ≤ s.params.cap) c.in_ok-copies.copies) (slots g at) c.in_ok-copies.ensures.shape.1

pub returns-clause-none : goal.returns-clause-none
returns-clause-none g c = λ all.
    let at = (goal.at.returns-clause-none g c).In_ok-fetch_all in
    ((c.in_ok-copies.ensures.none (none_there g at all)).0 ∙ (c.in_ok-fetch_all.ensures.none all).0, tt)
