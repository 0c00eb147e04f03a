-- What is logged from one state of a store to another, over the calls of an install.
use Rattle.std.proofs.Common.{◌≡◌, ◌∙◌, sym, subst, ap, ℕ, ◌+◌, ◌<◌, ◌≤◌, ◌⊎◌, Bool, List, length, refl, arith, inl, inr}
use Rattle.std.specs.Prelude.{All, IsTrue, ◌==◌, ◌&&◌, not}
use Rattle.std.specs.List.{filter, list_any}
use Rattle.std.proofs.lemmas.Bool.{and_parts, both_ways, cases_Bool, eqb-true, false_from_ne_true}
use Rattle.std.proofs.lemmas.List.Filters.{length-filter_both}
use Rattle.oper_core.specs.State.{is_among}
use Rattle.install_order.specs.Entries.{accesses}
use Rattle.install_order.specs.Order.{NoEdgeInto}
use Rattle.install_order.specs.declared.entry.Entry.{Entry}
use Rattle.write_graph.specs.Graph.{IsNodeNamed, lsns}
use Rattle.dirty_cache.specs.Contents.{AreDirty}
use Rattle.running_store.specs.Laid.Among.{all_among}
use Rattle.running_store.specs.Laid.Flushed.{DirtiesNone}
use Rattle.running_store.specs.Parts.{Parts}
use Rattle.running_store.specs.Calls.RoundCalls.{AreFlushed}
use Rattle.cache_manager.specs.Beside.{HasCopied}
use Rattle.cache_manager.specs.LogsDirty.{AreIdentitiesFrom, HasLogged, LogsDirty, count_older, is_older}
use Rattle.cache_manager.specs.Thin.{IsWork}
use Rattle.cache_manager.proofs.ToLog.Older.{all_logged, fewer_pass, found, left_identities, left_older}
use Rattle.cache_manager.proofs.ToLog.OlderWork.{work_older}
use Rattle.cache_manager.proofs.NextNode.Planned.{rises_apart, rises_from_increasing}
use Rattle.cache_manager.proofs.NextNode.WorkOf.{AreAlone}

pub logs_none : (it : Parts) → LogsDirty it it
logs_none it = record {
  rising = omega arith;
  dirty = λ x is. is;
  identities = λ first from are. are;
  older = λ first objects from are all. omega arith;
}

pub logs_twice : (before here after : Parts) → LogsDirty before here → LogsDirty here after → LogsDirty before after
logs_twice before here after one two = record {
  rising = omega (arith, one.rising, two.rising);
  dirty = λ x is. one.dirty x (two.dirty x is);
  identities = λ first from are. two.identities first (omega (arith, from, one.rising)) (one.identities first from are);
  older = λ first objects from are all.
      let a = one.older first objects from are all in
      let b = two.older first objects (omega (arith, from, one.rising)) (one.identities first from are) (λ x is. all x (one.dirty x is)) in
      omega (arith, a, b);
}

-- objects were flushed
pub logs_flushed : (before after : Parts) (objects : List ℕ) → after.log.next ≡ before.log.next → after.volatile.entries ≡ before.volatile.entries → AreFlushed before.volatile.objects after.volatile.objects objects → LogsDirty before after
logs_flushed before after objects next entries flushed = record {
  rising = omega (arith, next);
  dirty = λ x is. elim (cases_Bool (is_among x objects)) [ inl there ↦ absurd (both_ways _ (flushed.clean x there) is) | inr off ↦ sym (flushed.others x off).dirty ∙ is ];
  identities = λ first from are. subst (λ (es : List Entry). AreIdentitiesFrom first es) (sym entries) are;
  older = λ first objects from are all. let same = ap (λ (es : List Entry). count_older first es objects) entries in omega (arith, next, same);
}

-- a minimal node was taken out
pub logs_removal : (before after : Parts) (node : ℕ → Bool) → NoEdgeInto (accesses before.volatile.entries) node → after.volatile.entries ≡ filter (λ e. not (node e.lsn)) before.volatile.entries → after.log.next ≡ before.log.next
    → DirtiesNone before.volatile.objects after.volatile.objects → LogsDirty before after
logs_removal before after node no_edge entries next dirty = record {
  rising = omega (arith, next);
  dirty = dirty;
  identities = λ first from are. subst (λ (es : List Entry). AreIdentitiesFrom first es) (sym entries) (left_identities before.volatile.entries node first are);
  older = λ first objects from are all.
      let same = ap (λ (es : List Entry). count_older first es objects) entries in
      let fewer = fewer_pass (is_older first (filter (λ e. not (node e.lsn)) before.volatile.entries)) (is_older first before.volatile.entries) objects (left_older before.volatile.entries node no_edge first) in
      omega (arith, next, same, fewer);
}

-- some of what a node has to flush was logged that may not be finished yet
pub logs_round : AreAlone → (before after : Parts) (n copied : ℕ) (node : ℕ → Bool) → IsNodeNamed before.volatile.entries n node → (work : List ℕ) → IsWork before.volatile node work
    → (1 < length work) ⊎ HasCopied before.volatile.entries n copied work → All (λ k. k < before.log.next) (lsns before.volatile.entries) → DirtiesNone before.volatile.objects after.volatile.objects
    → HasLogged work before after → LogsDirty before after
logs_round alone before after n copied node named work is must above dirty logged =
    let entries = before.volatile.entries in
    let below : (k : ℕ) → IsTrue (is_among k (lsns entries)) → k < before.log.next = λ k there. all_among (λ k. k < before.log.next) (lsns entries) k above there in
    let apart = rises_apart logged.objects (rises_from_increasing logged.objects logged.rising) in
    let next = logged.next in
    record {
      rising = omega (arith, next);
      dirty = dirty;
      identities = λ first from are. subst (λ (es : List Entry). AreIdentitiesFrom first es) (sym logged.entries)
          (all_logged logged.objects logged.objects first before.log.next entries from below are apart
          (λ x there. (work_older alone before.volatile first n copied are node named work is must x (logged.among x there), there))).0;
      older = λ first objects from are every.
          let all = all_logged objects logged.objects first before.log.next entries from below are apart
          (λ x there. (work_older alone before.volatile first n copied are node named work is must x (logged.among x there), every x ((is.exactly x).0 (logged.among x there)).1)) in
          let fewer = all.1 in
          let same = ap (λ (es : List Entry). count_older first es objects) logged.entries in
          omega (arith, next, fewer, same);
    }

-- so at most as many are logged as were dirty
pub logs_few : (before after : Parts) → LogsDirty before after → All (λ k. k < before.log.next) (lsns before.volatile.entries) → (objects : List ℕ) → AreDirty before.volatile.objects.cache objects → after.log.next ≤ before.log.next + length objects
logs_few before after logs above objects dirty =
    let first = before.log.next in
    let entries = before.volatile.entries in
    let none : (n : ℕ) → first ≤ n → (p : Entry → Bool) → IsTrue (list_any (λ e. (e.lsn == n) && p e) entries) → ⊥ = λ n from p there.
    let f = found (λ e. (e.lsn == n) && p e) entries there in
    let same = eqb-true f.0.lsn n (and_parts (f.0.lsn == n) (p f.0) f.1).0 in
    let low = all_among (λ k. k < first) (lsns entries) f.0.lsn above f.3 in
    omega (arith, from, same, low) in
    let are : AreIdentitiesFrom first entries = λ n from. record {
      blind = λ x. false_from_ne_true _ (none n from (λ e. is_among x e.reads));
      one = λ x y wrote also. absurd (none n from (λ e. is_among x e.writes) wrote);
      flag = λ x wrote. absurd (none n from (λ e. is_among x e.writes) wrote);
    } in
    let fewer = logs.older first objects (omega arith) are (λ x is. dirty.exactly x ∙ is) in
    let within = length-filter_both (is_older first entries) (λ x. not (is_older first entries x)) (λ x. refl) objects in
    omega (arith, fewer, within)
