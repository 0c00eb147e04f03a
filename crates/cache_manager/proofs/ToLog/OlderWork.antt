-- What a node has to flush that may not be finished yet: older entries alone write it.
use Rattle.std.proofs.Common.{◌≡◌, ◌∙◌, sym, subst, refl, ℕ, ◌<◌, ◌≤◌, ◌⊎◌, Bool, List, length, arith, inl, inr}
use Rattle.std.specs.Prelude.{IsTrue, ◌==◌, ◌&&◌, nat_le}
use Rattle.std.specs.List.{list_any}
use Rattle.std.proofs.lemmas.Bool.{and_from, and_parts, both_ways, cases_lt, eq-eqb, false_from_ne_true, leb-true, not_from_false}
use Rattle.oper_core.specs.State.{is_among}
use Rattle.install_order.specs.Entries.{accesses}
use Rattle.install_order.specs.Order.{IsLastBlindWrite}
use Rattle.write_graph.specs.Graph.{IsNodeNamed}
use Rattle.running_store.specs.Parts.{Volatile}
use Rattle.cache_manager.specs.Beside.{HasCopied}
use Rattle.cache_manager.specs.LogsDirty.{AreIdentitiesFrom, is_older}
use Rattle.cache_manager.specs.Thin.{HasToFlush, IsWork}
use Rattle.cache_manager.proofs.ToLog.Older.{found, writes, writes_late}
use Rattle.cache_manager.proofs.ThinNode.Nodes.{few_listed}
use Rattle.cache_manager.proofs.NextNode.WorkOf.{AreAlone}

module _ (alone : AreAlone) (it : Volatile) (first n copied : ℕ) (are : AreIdentitiesFrom first it.entries) (node : ℕ → Bool) (named : IsNodeNamed it.entries n node) (work : List ℕ) (is : IsWork it node work)
    (must : (1 < length work) ⊎ HasCopied it.entries n copied work) where
  -- an object that a late entry writes is all that its node writes
  module _ (x : ℕ) (due : HasToFlush it node x) (late : IsTrue (list_any (writes_late first x) it.entries)) where
    abbrev writer : ℕ
    writer = due.0.0

    from : first ≤ writer
    from =
        let f = found (writes_late first x) it.entries late in
        let v = and_parts (nat_le first f.0.lsn) (is_among x f.0.writes) f.1 in
        let low = leb-true first f.0.lsn v.0 in
        elim (cases_lt writer f.0.lsn) [
          | inl lt ↦ absurd (both_ways _ (due.0.2.1 f.0.lsn lt) (f.2 (λ k. (k.lsn == f.0.lsn) && is_among x k.writes) (and_from (f.0.lsn == f.0.lsn) (is_among x f.0.writes) (eq-eqb f.0.lsn f.0.lsn refl) v.1)))
          | inr ge ↦ omega (arith, low, ge)
        ]

    blind : IsLastBlindWrite (accesses it.entries) x writer
    blind = record {
      reads = (are writer from).blind;
      only = λ y wrote. (are writer from).one x y due.0.2.0 wrote;
      last = due.0.2.1;
    }

    all_of_it : (p : ℕ) → IsTrue (node p) → p ≡ writer
    all_of_it p there = alone (accesses it.entries) x writer p node blind named.is_node due.0.1 there

    same_object : (y : ℕ) → HasToFlush it node y → y ≡ x
    same_object y also = (are writer from).one x y due.0.2.0 (subst (λ (k : ℕ). IsTrue ((accesses it.entries).writes k y)) (all_of_it also.0.0 also.0.1) also.0.2.0)

    not_late : ⊥
    not_late = elim must [
      | inl many ↦ let few = few_listed (HasToFlush it node) work is (λ y z one two. same_object y one ∙ sym (same_object z two)) in omega (arith, many, few)
      | inr has ↦
          let here : n ≡ writer = all_of_it n named.is_name.0 in
          has.3 node named (subst (λ (k : ℕ). IsTrue (list_any (λ e. (e.lsn == k) && e.identity) it.entries)) (sym here) ((are writer from).flag x due.0.2.0), λ p there. all_of_it p there ∙ sym here)
    ]

  pub work_older : (x : ℕ) → IsTrue (is_among x work) → IsTrue (is_older first it.entries x)
  work_older x there =
      let due = (is.exactly x).0 there in
      let f = found (λ e. (e.lsn == due.0.0) && is_among x e.writes) it.entries due.0.2.0 in
      and_from (list_any (writes x) it.entries) _ (f.2 (writes x) (and_parts (f.0.lsn == due.0.0) (is_among x f.0.writes) f.1).1) (not_from_false _ (false_from_ne_true _ (not_late x due)))
