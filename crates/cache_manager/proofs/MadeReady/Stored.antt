-- What is logged before a turn, as the parts of a store tell it: different dirty objects that older entries write.
use Rattle.std.proofs.Common.{◌≡◌, sym, subst, ap, ℕ, zero, suc, ◌+◌, ◌<◌, ◌≤◌, true, List, [], ◌∷◌, ◌++◌, length, refl, arith, inl, inr}
use Rattle.std.specs.Prelude.{All, IsTrue}
use Rattle.std.proofs.lemmas.Bool.{both_ways}
use Rattle.oper_core.specs.State.{is_among}
use Rattle.install_order.specs.Entries.{accesses}
use Rattle.install_order.specs.declared.entry.Entry.{Entry}
use Rattle.write_graph.specs.Graph.{lsns}
use Rattle.dirty_cache.specs.Contents.{is_dirty}
use Rattle.running_store.specs.Laid.Among.{all_among}
use Rattle.running_store.specs.Laid.Flushed.{DirtiesNone}
use Rattle.running_store.specs.Laid.{values_in}
use Rattle.running_store.specs.Parts.{Parts, Volatile}
use Rattle.cache_manager.specs.InstallCourses.{but_longest}
use Rattle.cache_manager.specs.LogsDirty.{AreIdentitiesFrom, LogsDirty, count_older, identity_entries, is_older}
use Rattle.cache_manager.specs.ReadyNodes.{AreOthers, IsReadyFrom, IsUnreadyFor}
use Rattle.cache_manager.proofs.Lists.{AreApart, but_longest_among, but_longest_apart}
use Rattle.cache_manager.proofs.NextNode.Planned.{rises_apart, rises_from_increasing}
use Rattle.cache_manager.proofs.NextNode.WorkOf.{AreAlone}
use Rattle.cache_manager.proofs.MadeReady.Nodes.{one_name}
use Rattle.cache_manager.proofs.ThinNode.Nodes.{among_all}
use Rattle.cache_manager.proofs.ToLog.Older.{all_logged}
use Rattle.cache_manager.proofs.ToLog.OlderWork.{work_older}
use Rattle.cache_manager.proofs.ToLog.Tally.{among_append, apart_append}

module _ (it : Volatile) (copied : ℕ) where
  -- what is logged of a node is of its work
  others_are : (work others : List ℕ) → AreOthers it.objects copied work others → others ≡ but_longest copied (λ x. length (values_in it.objects [] x)) work
  others_are work others are = are [] (λ x. length (values_in it.objects [] x)) refl

  others_work : (work others : List ℕ) → AreOthers it.objects copied work others → (x : ℕ) → IsTrue (is_among x others) → IsTrue (is_among x work)
  others_work work others are x there = but_longest_among copied (λ x. length (values_in it.objects [] x)) work x (subst (λ (l : List ℕ). IsTrue (is_among x l)) (others_are work others are) there)

  -- an object that is logged is of the work of one of the nodes
  abbrev pub OfNode : ℕ → ℕ → Type 0
  OfNode from x = (k : ℕ) × (work : List ℕ) × (from ≤ k) × IsUnreadyFor it copied k work × IsTrue (is_among x work)

  pub of_node : (most from : ℕ) (names logs : List ℕ) → IsReadyFrom it copied most from names logs → (x : ℕ) → IsTrue (is_among x logs) → OfNode from x
  of_node most from [] logs is x there = absurd (both_ways _ refl (subst (λ (l : List ℕ). IsTrue (is_among x l)) is.0 there))
  of_node zero from (n ∷ names) logs is x there = absurd is
  of_node (suc most) from (n ∷ names) logs is x there = elim (among_append x is.1 is.2 (subst (λ (l : List ℕ). IsTrue (is_among x l)) is.3 there)) [
    | inl here ↦ (n, is.0, is.4, is.5, others_work is.0 is.1 is.6 x here)
    | inr later ↦ let r = of_node most (suc n) names is.2 is.8 x later in (r.0, r.1, omega (arith, is.4, r.2), r.3, r.4)
  ]

  one_node_of : (n k x : ℕ) (work other : List ℕ) → IsUnreadyFor it copied n work → IsUnreadyFor it copied k other → IsTrue (is_among x work) → IsTrue (is_among x other) → n ≡ k
  one_node_of n k x work other is also there here =
      let f = is.minimal in
      let g = also.minimal in
      one_name (accesses it.entries) f.0 g.0 n k x f.1.is_node g.1.is_node f.1.is_name g.1.is_name (((is.is_work f.0 f.1).exactly x).0 there).0 (((also.is_work g.0 g.1).exactly x).0 here).0

  -- they are different
  pub logs_apart : (most from : ℕ) (names logs : List ℕ) → IsReadyFrom it copied most from names logs → AreApart logs
  logs_apart most from [] logs is = subst AreApart (sym is.0) tt
  logs_apart zero from (n ∷ names) logs is = absurd is
  logs_apart (suc most) from (n ∷ names) logs is =
      let f = is.5.minimal in
      let rises = rises_from_increasing is.0 (is.5.is_work f.0 f.1).rising in
      let first : AreApart is.1 = subst AreApart (sym (others_are is.0 is.1 is.6)) (but_longest_apart copied (λ x. length (values_in it.objects [] x)) is.0 (rises_apart is.0 rises)) in
      subst AreApart (sym is.3) (apart_append is.1 is.2 first (logs_apart most (suc n) names is.2 is.8) (λ x here later.
      let r = of_node most (suc n) names is.2 is.8 x later in
      let same = one_node_of n r.0 x is.0 r.1 is.5 r.3 (others_work is.0 is.1 is.6 x here) r.4 in
      absurd (omega (arith, same, r.2))))

  -- and dirty
  one_dirty : (from x : ℕ) → OfNode from x → is_dirty it.objects.cache x ≡ true
  one_dirty from x of = let f = of.3.minimal in (((of.3.is_work f.0 f.1).exactly x).0 of.4).1

  pub logs_dirty : (most from : ℕ) (names logs : List ℕ) → IsReadyFrom it copied most from names logs → All (λ x. is_dirty it.objects.cache x ≡ true) logs
  logs_dirty most from names logs is = among_all (λ x. is_dirty it.objects.cache x ≡ true) logs (λ x there. one_dirty from x (of_node most from names logs is x there))

-- so much is logged of dirty objects
pub logs_ready : AreAlone → (before after : Parts) (copied most from : ℕ) (names logs : List ℕ) → IsReadyFrom before.volatile copied most from names logs → All (λ k. k < before.log.next) (lsns before.volatile.entries)
    → DirtiesNone before.volatile.objects after.volatile.objects → after.volatile.entries ≡ before.volatile.entries ++ identity_entries before.log.next logs → after.log.next ≡ before.log.next + length logs → LogsDirty before after
logs_ready alone before after copied most from names logs is above dirty added next =
    let it = before.volatile in
    let below : (k : ℕ) → IsTrue (is_among k (lsns it.entries)) → k < before.log.next = λ k there. all_among (λ k. k < before.log.next) (lsns it.entries) k above there in
    let apart = logs_apart it copied most from names logs is in
    let older : (first : ℕ) → AreIdentitiesFrom first it.entries → (x : ℕ) → IsTrue (is_among x logs) → IsTrue (is_older first it.entries x) = λ first are x there.
    let of = of_node it copied most from names logs is x there in
    let f = of.3.minimal in
    work_older alone it first of.0 copied are f.0 f.1 of.1 (of.3.is_work f.0 f.1) of.3.must x of.4 in
    record {
      rising = omega (arith, next);
      dirty = dirty;
      identities = λ first low are. subst (λ (es : List Entry). AreIdentitiesFrom first es) (sym added) (all_logged logs logs first before.log.next it.entries low below are apart (λ x there. (older first are x there, there))).0;
      older = λ first objects low are every.
          let all = all_logged objects logs first before.log.next it.entries low below are apart (λ x there. (older first are x there, every x (one_dirty it copied from x (of_node it copied most from names logs is x there)))) in
          let fewer = all.1 in
          let same = ap (λ (es : List Entry). count_older first es objects) added in
          omega (arith, next, fewer, same);
    }
