use Rattle.std.proofs.Common.{◌≡◌, ◌∙◌, sym, subst, ap, ℕ, ◌+◌, ◌<◌, ◌^◌, ◌++◌, true, List, [], length, refl, arith}
use Rattle.std.specs.Prelude.{All, IfNone, IfSome, OnOk, Result, Ok, Err}
use Rattle.std.proofs.lemmas.Bool.{both_ways}
use Rattle.std.proofs.lemmas.List.Elements.{All-weaker}
use Rattle.oper_core.specs.Meaning.{IsSmall}
use Rattle.oper_core.specs.State.{is_among}
use Rattle.oper_core.specs.declared.bounds.Bounds.{Bounds}
use Rattle.formats.specs.Limits.{log_limit}
use Rattle.formats.specs.Objects.{bounds_of}
use Rattle.install_order.specs.declared.entry.Entry.{Entry}
use Rattle.write_graph.specs.Graph.{lsns}
use Rattle.dirty_cache.specs.Contents.{is_dirty}
use Rattle.disk_model.specs.declared.machine.FileNo.TheVariants.{Objects}
use Rattle.running_store.specs.Calls.Laws.{IsLogging, call_short, logging_none}
use Rattle.running_store.specs.Calls.{Never, call_none}
use Rattle.running_store.specs.Kept.Keeping.{longer_here}
use Rattle.running_store.specs.Kept.{IsLonger, StopsAt}
use Rattle.running_store.specs.Laid.{Laid}
use Rattle.running_store.specs.Parts.{Parts, Volatile, meaning_in, volatile}
use Rattle.running_store.specs.Running.{KeepsSound}
use Rattle.running_store.specs.StoreView.{log_length}
use Rattle.running_store.specs.Taking.{Ending, Takes}
use Rattle.running_store.specs.Taking.Ending.{Done, Short}
use Rattle.running_store.specs.Taking.Laws.{takes_none, takes_nothing, takes_same}
use Rattle.cache_manager.specs.Endings.{ending_of, short_ends}
use Rattle.cache_manager.specs.InstallCourses.{identities, readied}
use Rattle.cache_manager.specs.LogsDirty.{LogsDirty, identity_entries}
use Rattle.cache_manager.specs.ReadyNodes.{AreLoggedFirst, IsNextReady}
use Rattle.cache_manager.proofs.MadeReady.Stored.{logs_dirty, logs_ready}
use Rattle.cache_manager.proofs.MadeReady.Worlds.{first_is, none_is}
use Rattle.cache_manager.proofs.NextNode.WorkOf.{AreAlone}
use Rattle.cache_manager.proofs.ThinNode.Worlds.{store_small}
use Rattle.cache_manager.proofs.ToLog.DirtyLogs.{logs_none}
use Rattle.cache_manager.proofs.readying.make_ready.Given.{Over}
use Rattle.cache_manager.proofs.readying.make_ready.Goals.{In-Some, In_ok-logs}
use Rattle.cache_manager.proofs.readying.make_ready.Goals as goal

-- what is said of the objects and the entries of a store, as its methods answer them
first_here : (laid : Laid) (es : List Entry) (it : Volatile) (copied most : ℕ) (logs : List ℕ) → laid ≡ it.objects → es ≡ it.entries → AreLoggedFirst (volatile laid es) copied most logs → AreLoggedFirst it copied most logs
first_here laid es it copied most logs objects entries is = subst (λ (k : Volatile). AreLoggedFirst k copied most logs) (λ i. volatile (objects i) (entries i)) is

ready_here : (laid : Laid) (es : List Entry) (it : Volatile) (copied : ℕ) → laid ≡ it.objects → es ≡ it.entries → IsNextReady (volatile laid es) copied → IsNextReady it copied
ready_here laid es it copied objects entries is = subst (λ (k : Volatile). IsNextReady k copied) (λ i. volatile (objects i) (entries i)) is

-- there is a node, so there is an entry
some_entry : (it : Volatile) (copied most : ℕ) (logs : List ℕ) → AreLoggedFirst it copied most logs → it.entries ≡ [] → ⊥
some_entry it copied most logs first none = both_ways _ (ap (λ (es : List Entry). is_among first.0 (lsns es)) none) first.1.0.1.held

logged_of : {T E : Type 0} (r : Result T E) (n : ℕ) (before after : Parts) → OnOk r (IsLonger n before after) → OnOk r ((k : ℕ) × IsLonger k before after)
logged_of (Ok value) n before after longer = (n, longer)
logged_of (Err e) n before after longer = tt

logs_of : {T E : Type 0} (r : Result T E) → AreAlone → (before after : Parts) (copied most : ℕ) (logs : List ℕ) → AreLoggedFirst before.volatile copied most logs → All (λ k. k < before.log.next) (lsns before.volatile.entries) → OnOk r (IsLonger (length logs) before after)
    → OnOk r (after.volatile.entries ≡ before.volatile.entries ++ identity_entries before.log.next logs) → OnOk r (LogsDirty before after)
logs_of (Ok value) alone before after copied most logs first above longer entries = logs_ready alone before after copied most 0 first.3.0 logs first.3.1 above (λ x is. sym (longer.dirty x) ∙ is) entries longer.next
logs_of (Err e) alone before after copied most logs first above longer entries = tt

nothing_on : {T E : Type 0} (r : Result T E) (P : Type 0) → ⊥ → OnOk r P
nothing_on r P none = absurd none

module _ (g : Over) (c : In_ok-logs g) where
  keep : (b : Bounds) → IsSmall b → KeepsSound (g.O.Oper.meaning b)
  keep b small v taken sound may = c.every_run_keeps.ensures.from_sound b v taken small sound may

  used : All (λ n. n < c.args.store.now.parts.log.next) (lsns c.args.store.now.parts.volatile.entries)
  used = (c.params-params.ensures.in_use c.requires.unbroken).store.above

pub logged_first-requires : goal.logged_first-requires
logged_first-requires g c =
    let it = c.args.store.now in
    let used = (c.params-params.ensures.in_use c.requires.unbroken).store in
    record { low = subst (λ (es : List Entry). All (λ n. n < 2 ^ 62) (lsns es)) (sym c.graph.ensures) (All-weaker (λ n. n < it.parts.log.next) (λ n. n < 2 ^ 62) (λ n lt. omega (arith, lt, used.low)) (lsns it.parts.volatile.entries) used.above) }

-- there is no memory
pub returns-in_err-logs-clause-call : goal.returns-in_err-logs-clause-call
returns-in_err-logs-clause-call g c =
    let d = g.M.Machine.disk c.args.machine.now in
    let it = c.args.store.now in
    subst (λ (k : Ending). IsLogging g.O.Oper.meaning d d it it (StopsAt log_limit) k) (short_ends c.from_residual.result c.from_residual.ensures.1)
    (logging_none g.O.Oper.meaning d d it it (StopsAt log_limit) Short refl (call_short g.O.Oper.meaning d d it it 0 Never (call_none g.O.Oper.meaning d it Never (g.met.M.Machine.lawful c.args.machine.now) c.requires.unbroken)))

pub returns-in_err-logs-clause-takes : goal.returns-in_err-logs-clause-takes
returns-in_err-logs-clause-takes g c =
    let d = g.M.Machine.disk c.args.machine.now in
    let it = c.args.store.now.parts in
    subst (λ (k : Ending). Takes g.O.Oper.meaning d d it it (λ m w used. identities m (readied m c.args.copied c.args.most w) w used) k) (short_ends c.from_residual.result c.from_residual.ensures.1)
    (takes_nothing g.O.Oper.meaning d it (g.met.M.Machine.lawful c.args.machine.now) (λ m w used. identities m (readied m c.args.copied c.args.most w) w used))

-- nothing is logged
pub returns-in_default-clause-call : goal.returns-in_default-clause-call
returns-in_default-clause-call g c =
    let d = g.M.Machine.disk c.args.machine.now in
    let it = c.args.store.now in
    logging_none g.O.Oper.meaning d d it it (StopsAt log_limit) Done refl (call_none g.O.Oper.meaning d it Never (g.met.M.Machine.lawful c.args.machine.now) c.requires.unbroken)

pub returns-in_default-clause-takes : goal.returns-in_default-clause-takes
returns-in_default-clause-takes g c =
    let at = (goal.at.returns-in_default-clause-takes g c).In_ok-logs in
    let meaning = g.O.Oper.meaning in
    let d = g.M.Machine.disk c.args.machine.now in
    let it = c.args.store.now.parts in
    let copied = c.args.copied in
    let most = c.args.most in
    let ready = ready_here c.objects.result.now c.graph.result.now.entries it.volatile copied c.objects.ensures c.graph.ensures
    (subst (λ (o : _). IfNone o (IsNextReady (volatile c.objects.result.now c.graph.result.now.entries) copied)) c.in_default.is c.in_ok-logs.ensures.none) in
    takes_same meaning d d it it (λ m w used. identities m [] w used) (λ m w used. identities m (readied m copied most w) w used) Done
    (λ p w shows.
    let m = meaning_in meaning p in
    let small = store_small m p (d.reads Objects) it.volatile w shows.store in
    ap (λ (l : List ℕ). identities m l w (log_length c.args.store.now)) (sym (none_is m (g.met.O.Oper.lawful (bounds_of p) small) (keep g at (bounds_of p) small) c.last_blind_write_is_alone.ensures p d it w shows copied most ready)))
    (takes_none meaning d it (g.met.M.Machine.lawful c.args.machine.now))

pub returns-in_default-clause-logged : goal.returns-in_default-clause-logged
returns-in_default-clause-logged g c = (0, longer_here c.args.store.now.parts)

pub returns-in_default-clause-logs : goal.returns-in_default-clause-logs
returns-in_default-clause-logs g c = logs_none c.args.store.now.parts

-- it is
first : (g : Over) (c : In-Some g) → AreLoggedFirst c.args.store.now.parts.volatile c.args.copied c.args.most c.in-Some.logs.items
first g c =
    first_here c.objects.result.now c.graph.result.now.entries c.args.store.now.parts.volatile c.args.copied c.args.most c.in-Some.logs.items c.objects.ensures c.graph.ensures
    (subst (λ (o : _). IfSome o (λ logs. AreLoggedFirst (volatile c.objects.result.now c.graph.result.now.entries) c.args.copied c.args.most logs.items)) c.in-Some.is c.in_ok-logs.ensures.some)

pub log_all-requires-clause-dirty : goal.log_all-requires-clause-dirty
log_all-requires-clause-dirty g c =
    let it = c.args.store.now.parts.volatile in
    let is = first g (goal.at.log_all-requires-clause-dirty g c).In-Some in
    subst (λ (l : List ℕ). All (λ x. is_dirty it.objects.cache x ≡ true) l) (sym c.as_slice.ensures.value) (logs_dirty it c.args.copied c.args.most 0 is.3.0 c.in-Some.logs.items is.3.1)

pub returns-clause-takes : goal.returns-clause-takes
returns-clause-takes g c =
    let at = (goal.at.returns-clause-takes g c).In_ok-logs in
    let meaning = g.O.Oper.meaning in
    let d = g.M.Machine.disk c.args.machine.now in
    let new = g.M.Machine.disk c.log_all.new.machine in
    let it = c.args.store.now.parts in
    let copied = c.args.copied in
    let most = c.args.most in
    let is = first g (goal.at.returns-clause-takes g c).In-Some in
    takes_same meaning d new it c.log_all.new.store.parts (λ m w used. identities m c.as_slice.result.now w used) (λ m w used. identities m (readied m copied most w) w used) (ending_of c.log_all.result)
    (λ p w shows.
    let m = meaning_in meaning p in
    let small = store_small m p (d.reads Objects) it.volatile w shows.store in
    ap (λ (l : List ℕ). identities m l w (log_length c.args.store.now))
    (c.as_slice.ensures.value ∙ sym (first_is m (g.met.O.Oper.lawful (bounds_of p) small) (keep g at (bounds_of p) small) c.last_blind_write_is_alone.ensures p d it w shows copied most c.in-Some.logs.items is)))
    c.log_all.ensures.takes

pub returns-clause-logged : goal.returns-clause-logged
returns-clause-logged g c = logged_of c.log_all.result (length c.as_slice.result.now) c.args.store.now.parts c.log_all.new.store.parts c.log_all.ensures.logged

pub returns-clause-none : goal.returns-clause-none
returns-clause-none g c = λ none.
    nothing_on c.log_all.result _ (some_entry c.args.store.now.parts.volatile c.args.copied c.args.most c.in-Some.logs.items (first g (goal.at.returns-clause-none g c).In-Some) none)

pub returns-clause-logs : goal.returns-clause-logs
returns-clause-logs g c =
    let at = goal.at.returns-clause-logs g c in
    let before = c.args.store.now.parts in
    let logs = c.in-Some.logs.items in
    let after = c.log_all.new.store.parts in
    let same = c.as_slice.ensures.value in
    logs_of c.log_all.result c.last_blind_write_is_alone.ensures before after c.args.copied c.args.most logs (first g at.In-Some) (used g at.In_ok-logs)
    (subst (λ (l : List ℕ). OnOk c.log_all.result (IsLonger (length l) before after)) same c.log_all.ensures.logged)
    (subst (λ (l : List ℕ). OnOk c.log_all.result (after.volatile.entries ≡ before.volatile.entries ++ identity_entries before.log.next l)) same c.log_all.ensures.entries)
