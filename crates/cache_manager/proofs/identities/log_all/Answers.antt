use Rattle.std.proofs.Common.{◌≡◌, ◌∙◌, sym, subst, ap, ℕ, ◌+◌, suc, List, [], ◌∷◌, ◌++◌, append_assoc, drop, slice_index, length, refl, arith}
use Rattle.std.proofs.lemmas.List.{append-nil, drop_all}
use Rattle.install_order.specs.declared.entry.Entry.{Entry}
use Rattle.running_store.specs.Calls.Laws.{IsLogging, logging_none, logging_twice, unbroken_after}
use Rattle.running_store.specs.Calls.{Never, call_none}
use Rattle.cache_manager.specs.InstallCourses.{identities, identity_course}
use Rattle.cache_manager.specs.LogsDirty.{identity_entries}
use Rattle.running_store.specs.Kept.Keeping.{longer_here, longer_twice}
use Rattle.running_store.specs.Kept.{IsLonger, StopsAt}
use Rattle.formats.specs.Limits.{log_limit}
use Rattle.running_store.specs.Taking.Rests.{IsRest, rest_next}
use Rattle.running_store.specs.StoreView.{logged_since, next_of}
use Rattle.running_store.specs.Taking.{Ending, Takes}
use Rattle.running_store.specs.Taking.Ending.{Done}
use Rattle.running_store.specs.Taking.Laws.{takes_first, takes_none}
use Rattle.cache_manager.specs.Endings.{err_cuts, same_ends}
use Rattle.cache_manager.proofs.Lists.{first_left}
use Rattle.cache_manager.proofs.identities.log_all.Goals as goal

-- its entry is the next
entries_on : (all here after : List Entry) (n k x : ℕ) (xs rest : List ℕ) → xs ≡ x ∷ rest → after ≡ here ++ identity_entries n (x ∷ []) → k ≡ n + 1 → here ++ identity_entries n xs ≡ all → after ++ identity_entries k rest ≡ all
entries_on all here after n k x xs rest split more next so_far =
    let up : k ≡ suc n = omega (arith, next) in
    (λ i. more i ++ identity_entries (up i) rest) ∙ append_assoc here (identity_entries n (x ∷ [])) (identity_entries (suc n) rest) ∙ ap (λ (l : List ℕ). here ++ identity_entries n l) (sym split) ∙ so_far

pub loop-x-init : goal.loop-x-init
loop-x-init g c =
    let d = g.M.Machine.disk c.args.machine.now in
    let it = c.args.store.now in
    record {
      call = logging_none g.O.Oper.meaning d d it it (StopsAt log_limit) Done refl (call_none g.O.Oper.meaning d it Never (g.met.M.Machine.lawful c.args.machine.now) c.requires.unbroken);
      logged = longer_here it.parts;
      entries = refl;
      rest = λ new after ending takes. takes;
    }

pub log_identity-requires-clause-unbroken : goal.log_identity-requires-clause-unbroken
log_identity-requires-clause-unbroken g c =
    unbroken_after g.O.Oper.meaning _ _ c.args.store.now c.loop-x.store (logged_since c.args.store.now c.loop-x.store) (StopsAt log_limit) c.loop-x.invariant.call

pub log_identity-requires-clause-dirty : goal.log_identity-requires-clause-dirty
log_identity-requires-clause-dirty g c = c.loop-x.invariant.logged.dirty _ ∙ c.requires.dirty c.loop-x.x-index 0 c.loop-x-test.true

pub loop-x-preserved : goal.loop-x-preserved
loop-x-preserved g c =
    let meaning = g.O.Oper.meaning in
    let disk = g.M.Machine.disk in
    let so_far = c.loop-x.invariant in
    let done = c.in_ok-log_identity.ensures in
    let before = c.args.store.now in
    let here = c.loop-x.store in
    let after = c.log_identity.new.store in
    let xs = c.args.xs.now in
    let i = c.loop-x.x-index in
    let x = slice_index xs i in
    record {
      call = logging_twice meaning (disk c.args.machine.now) (disk c.loop-x.machine) (disk c.log_identity.new.machine) before here after (StopsAt log_limit) Done so_far.call done.call;
      logged = longer_twice i 1 before.parts here.parts after.parts so_far.logged done.logged;
      entries = entries_on (before.parts.volatile.entries ++ identity_entries (next_of before) xs) here.parts.volatile.entries after.parts.volatile.entries (next_of here) (next_of after) x (drop i xs) (drop (i + 1) xs) (first_left xs i c.loop-x-test.true) done.entries done.logged.next so_far.entries;
      rest = rest_next disk meaning c.args.machine.now c.loop-x.machine before.parts here.parts (λ m w used. identities m xs w used) (λ m v used. identity_course m x v used) (λ m v used. identities m (drop (i + 1) xs) v used)
          c.log_identity.new.machine after.parts done.call.quiet done.takes
          (subst (λ (l : List ℕ). IsRest disk meaning c.args.machine.now before.parts (λ m w used. identities m xs w used) c.loop-x.machine here.parts (λ m v used. identities m l v used)) (first_left xs i c.loop-x-test.true) so_far.rest);
    }

pub returns-in_err-log_identity-clause-call : goal.returns-in_err-log_identity-clause-call
returns-in_err-log_identity-clause-call g c =
    let meaning = g.O.Oper.meaning in
    let disk = g.M.Machine.disk in
    let before = c.args.store.now in
    let after = c.log_identity.new.store in
    let e = c.in_err-log_identity.field-0.0 in
    subst (λ (k : Ending). IsLogging meaning (disk c.args.machine.now) (disk c.log_identity.new.machine) before after (StopsAt log_limit) k) (same_ends c.from_residual.result e c.from_residual.ensures.1)
    (logging_twice meaning (disk c.args.machine.now) (disk c.loop-x.machine) (disk c.log_identity.new.machine) before c.loop-x.store after (StopsAt log_limit) _ c.loop-x.invariant.call c.in_err-log_identity.ensures.call)

pub returns-in_err-log_identity-clause-takes : goal.returns-in_err-log_identity-clause-takes
returns-in_err-log_identity-clause-takes g c =
    let meaning = g.O.Oper.meaning in
    let disk = g.M.Machine.disk in
    let before = c.args.store.now.parts in
    let here = c.loop-x.store.parts in
    let after = c.log_identity.new.store.parts in
    let xs = c.args.xs.now in
    let i = c.loop-x.x-index in
    let x = slice_index xs i in
    let e = c.in_err-log_identity.field-0.0 in
    subst (λ (k : Ending). Takes meaning (disk c.args.machine.now) (disk c.log_identity.new.machine) before after (λ m w used. identities m xs w used) k) (same_ends c.from_residual.result e c.from_residual.ensures.1)
    (subst (λ (l : List ℕ). IsRest disk meaning c.args.machine.now before (λ m w used. identities m xs w used) c.loop-x.machine here (λ m v used. identities m l v used)) (first_left xs i c.loop-x-test.true) c.loop-x.invariant.rest
    c.log_identity.new.machine after _
    (takes_first meaning (λ m v used. identity_course m x v used) (λ m v used. identities m (drop (i + 1) xs) v used) (disk c.loop-x.machine) (disk c.log_identity.new.machine) here after _ (err_cuts e) c.in_err-log_identity.ensures.takes))

pub returns-clause-takes : goal.returns-clause-takes
returns-clause-takes g c =
    let meaning = g.O.Oper.meaning in
    let disk = g.M.Machine.disk in
    let here = c.loop-x.store.parts in
    let xs = c.args.xs.now in
    c.loop-x.invariant.rest c.loop-x.machine here Done
    (subst (λ (l : List ℕ). Takes meaning (disk c.loop-x.machine) (disk c.loop-x.machine) here here (λ m v used. identities m l v used) Done) (sym (drop_all c.loop-x.x-index xs c.loop-x-test.false))
    (takes_none meaning (disk c.loop-x.machine) here (g.met.M.Machine.lawful c.loop-x.machine)))

pub returns-clause-logged : goal.returns-clause-logged
returns-clause-logged g c =
    let all : c.loop-x.x-index ≡ length c.args.xs.now = omega arith in
    subst (λ (k : ℕ). IsLonger k c.args.store.now.parts c.loop-x.store.parts) all c.loop-x.invariant.logged

pub returns-clause-entries : goal.returns-clause-entries
returns-clause-entries g c =
    let here = c.loop-x.store in
    let entries = here.parts.volatile.entries in
    sym (append-nil entries) ∙ ap (λ (l : List ℕ). entries ++ identity_entries (next_of here) l) (sym (drop_all c.loop-x.x-index c.args.xs.now c.loop-x-test.false)) ∙ c.loop-x.invariant.entries
