use Rattle.std.proofs.Common.{◌≡◌, ◌∙◌, sym, subst, ap, ℕ, ◌<◌, ◌++◌, true, List, [], length, map, refl, arith, Option, None, Some}
use Rattle.std.specs.Prelude.{◌↔◌, ◌==◌, not, All, IfSome, IsNone, IsTrue, OnOk, Result, Ok, Err}
use Rattle.std.specs.List.Sorted.{IsStrictlyIncreasing}
use Rattle.std.proofs.lemmas.List.{length-map}
use Rattle.std.proofs.lemmas.List.Kept.{IsStrictlyIncreasing-filter}
use Rattle.oper_core.specs.State.{is_among}
use Rattle.disk_model.specs.declared.machine.FileNo.TheVariants.{Objects}
use Rattle.identity_writes.specs.Plan.{IsKeptBeside, but_kept}
use Rattle.log_blocks.specs.LogView.{used_of}
use Rattle.dirty_cache.specs.Contents.{is_dirty}
use Rattle.running_store.specs.Calls.Laws.{IsLogging, call_short, logging_none}
use Rattle.running_store.specs.Calls.{Never, call_none}
use Rattle.running_store.specs.Courses.{cached_length}
use Rattle.cache_manager.specs.InstallCourses.{but_longest, identities}
use Rattle.cache_manager.specs.LogsDirty.{HasLogged, identity_entries}
use Rattle.cache_manager.proofs.Lists.{kept_among}
use Rattle.running_store.specs.Kept.{IsLonger, StopsAt}
use Rattle.running_store.specs.Laid.{Laid, values_in}
use Rattle.formats.specs.Limits.{log_limit}
use Rattle.running_store.specs.Parts.{Parts, meaning_in}
use Rattle.running_store.specs.Taking.{Ending, Takes}
use Rattle.running_store.specs.Taking.Ending.{Short}
use Rattle.running_store.specs.Taking.Laws.{takes_nothing, takes_same}
use Rattle.cache_manager.specs.Endings.{ending_of, short_ends}
use Rattle.cache_manager.proofs.NextNode.Planned.{planned_others, logged_some, others_all, lengths_shown}
use Rattle.cache_manager.proofs.identities.log_others.Goals as goal

pub lengths_of-requires : goal.lengths_of-requires
lengths_of-requires g c = record { dirty = subst (λ (l : Laid). All (λ x. is_dirty l.cache x ≡ true) c.args.work.now) (sym c.objects.ensures) c.requires.dirty }

pub plan-requires-clause-beside : goal.plan-requires-clause-beside
plan-requires-clause-beside g c = ap length (c.as_slice.ensures.value ∙ c.in_ok-lengths.ensures []) ∙ length-map c.args.work.now (λ (x : ℕ). length (values_in c.objects.result.now [] x))

pub log_all-requires-clause-dirty : goal.log_all-requires-clause-dirty
log_all-requires-clause-dirty g c =
    let P : ℕ → Type 0 = λ x. is_dirty c.args.store.now.parts.volatile.objects.cache x ≡ true in
    subst (λ (l : List ℕ). All P l) (sym c.as_slice-2.ensures) (others_all P c.args.work.now c.in_ok-planned.planned.log c.in_ok-planned.planned.keep c.in_ok-planned.ensures.others c.requires.dirty)

-- what the plan logs
logged : (copied : ℕ) (lengths : ℕ → ℕ) (work items given others result : List ℕ) (keep : Option ℕ) → IsStrictlyIncreasing work → given ≡ items → result ≡ others → IsNone keep ↔ All (λ x. x < copied) work → IfSome keep (IsKeptBeside copied work given)
    → others ≡ but_kept keep work → items ≡ map lengths work → result ≡ but_longest copied lengths work
logged copied lengths work items given others result keep up read same none kept are is =
    same ∙ planned_others lengths copied work others keep up (subst (λ (l : List ℕ). IfSome keep (IsKeptBeside copied work l)) (read ∙ is) kept) none.0 are

some_more : {T E : Type 0} (r : Result T E) (n : ℕ) (before after : Parts) → 0 < n → OnOk r (IsLonger n before after) → OnOk r ((k : ℕ) × (0 < k) × IsLonger k before after)
some_more (Ok value) n before after some longer = (n, some, longer)
some_more (Err e) n before after some longer = tt

pub returns-in_err-lengths-clause-call : goal.returns-in_err-lengths-clause-call
returns-in_err-lengths-clause-call g c =
    let d = g.M.Machine.disk c.args.machine.now in
    let it = c.args.store.now in
    subst (λ (k : Ending). IsLogging g.O.Oper.meaning d d it it (StopsAt log_limit) k) (short_ends c.from_residual.result c.from_residual.ensures.1)
    (logging_none g.O.Oper.meaning d d it it (StopsAt log_limit) Short refl (call_short g.O.Oper.meaning d d it it 0 Never (call_none g.O.Oper.meaning d it Never (g.met.M.Machine.lawful c.args.machine.now) c.requires.unbroken)))

pub returns-in_err-lengths-clause-takes : goal.returns-in_err-lengths-clause-takes
returns-in_err-lengths-clause-takes g c =
    let d = g.M.Machine.disk c.args.machine.now in
    let it = c.args.store.now.parts in
    let work = c.args.work.now in
    subst (λ (k : Ending). Takes g.O.Oper.meaning d d it it (λ m w used. identities m (but_longest c.args.copied (cached_length m w) work) w used) k) (short_ends c.from_residual.result c.from_residual.ensures.1)
    (takes_nothing g.O.Oper.meaning d it (g.met.M.Machine.lawful c.args.machine.now) (λ m w used. identities m (but_longest c.args.copied (cached_length m w) work) w used))

pub returns-in_err-planned-clause-call : goal.returns-in_err-planned-clause-call
returns-in_err-planned-clause-call g c =
    let d = g.M.Machine.disk c.args.machine.now in
    let it = c.args.store.now in
    subst (λ (k : Ending). IsLogging g.O.Oper.meaning d d it it (StopsAt log_limit) k) (short_ends c.from_residual-in_err-planned.result c.from_residual-in_err-planned.ensures.1)
    (logging_none g.O.Oper.meaning d d it it (StopsAt log_limit) Short refl (call_short g.O.Oper.meaning d d it it 0 Never (call_none g.O.Oper.meaning d it Never (g.met.M.Machine.lawful c.args.machine.now) c.requires.unbroken)))

pub returns-in_err-planned-clause-takes : goal.returns-in_err-planned-clause-takes
returns-in_err-planned-clause-takes g c =
    let d = g.M.Machine.disk c.args.machine.now in
    let it = c.args.store.now.parts in
    let work = c.args.work.now in
    subst (λ (k : Ending). Takes g.O.Oper.meaning d d it it (λ m w used. identities m (but_longest c.args.copied (cached_length m w) work) w used) k) (short_ends c.from_residual-in_err-planned.result c.from_residual-in_err-planned.ensures.1)
    (takes_nothing g.O.Oper.meaning d it (g.met.M.Machine.lawful c.args.machine.now) (λ m w used. identities m (but_longest c.args.copied (cached_length m w) work) w used))

pub returns-clause-takes : goal.returns-clause-takes
returns-clause-takes g c =
    let meaning = g.O.Oper.meaning in
    let d = g.M.Machine.disk c.args.machine.now in
    let new = g.M.Machine.disk c.log_all.new.machine in
    let before = c.args.store.now.parts in
    let after = c.log_all.new.store.parts in
    let work = c.args.work.now in
    takes_same meaning d new before after (λ m w used. identities m c.as_slice-2.result.now w used) (λ m w used. identities m (but_longest c.args.copied (cached_length m w) work) w used) (ending_of c.log_all.result)
    (λ p w shows.
    let m = meaning_in meaning p in
    ap (λ (l : List ℕ). identities m l w (used_of before.log.log)) (logged c.args.copied (cached_length m w) c.args.work.now c.in_ok-lengths.lengths.items c.as_slice.result.now c.in_ok-planned.planned.log c.as_slice-2.result.now c.in_ok-planned.planned.keep c.requires.rising c.as_slice.ensures.value c.as_slice-2.ensures
    c.in_ok-planned.ensures.none c.in_ok-planned.ensures.keep c.in_ok-planned.ensures.others
    (c.in_ok-lengths.ensures (d.reads Objects) ∙ ap (λ (l : Laid). map (λ x. length (values_in l (d.reads Objects) x)) work) c.objects.ensures ∙ lengths_shown m p d before w shows work c.requires.dirty)))
    c.log_all.ensures.takes

pub returns-clause-logged : goal.returns-clause-logged
returns-clause-logged g c =
    let lengths : ℕ → ℕ = λ x. length (values_in c.objects.result.now [] x) in
    let some = logged_some c.args.copied lengths c.args.work.now c.as_slice-2.result.now c.requires.rising c.requires.some (logged c.args.copied lengths c.args.work.now c.in_ok-lengths.lengths.items c.as_slice.result.now c.in_ok-planned.planned.log c.as_slice-2.result.now c.in_ok-planned.planned.keep c.requires.rising c.as_slice.ensures.value c.as_slice-2.ensures
    c.in_ok-planned.ensures.none c.in_ok-planned.ensures.keep c.in_ok-planned.ensures.others (c.in_ok-lengths.ensures [])) in
    some_more c.log_all.result (length c.as_slice-2.result.now) c.args.store.now.parts c.log_all.new.store.parts (omega (arith, some)) c.log_all.ensures.logged

-- what is logged is of the work
rising_kept : (keep : Option ℕ) (work : List ℕ) → IsStrictlyIncreasing work → IsStrictlyIncreasing (but_kept keep work)
rising_kept None work up = up
rising_kept (Some x) work up = IsStrictlyIncreasing-filter (λ y. not (y == x)) work up

of_work : {T E : Type 0} (r : Result T E) (work logs : List ℕ) (keep : Option ℕ) (before after : Parts) → IsStrictlyIncreasing work → logs ≡ but_kept keep work → OnOk r (IsLonger (length logs) before after)
    → OnOk r (after.volatile.entries ≡ before.volatile.entries ++ identity_entries before.log.next logs) → OnOk r (HasLogged work before after)
of_work (Ok value) work logs keep before after up is longer entries = record {
  objects = logs;
  rising = subst IsStrictlyIncreasing (sym is) (rising_kept keep work up);
  among = λ x there. kept_among keep work x (subst (λ (l : List ℕ). IsTrue (is_among x l)) is there);
  entries = entries;
  next = longer.next;
}
of_work (Err e) work logs keep before after up is longer entries = tt

pub returns-clause-objects : goal.returns-clause-objects
returns-clause-objects g c =
    of_work c.log_all.result c.args.work.now c.as_slice-2.result.now c.in_ok-planned.planned.keep c.args.store.now.parts c.log_all.new.store.parts c.requires.rising (c.as_slice-2.ensures ∙ c.in_ok-planned.ensures.others) c.log_all.ensures.logged c.log_all.ensures.entries
