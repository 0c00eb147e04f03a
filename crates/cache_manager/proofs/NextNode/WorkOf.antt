-- What a node has to flush, as it is computed; and where it has two objects or more, an install may log each of them: an
-- object that an identity write was the last to write is all that its node has to flush.
use Rattle.std.proofs.Common.{◌≡◌, ◌∙◌, sym, subst, ℕ, ◌<◌, Bool, false, refl, arith, inl, inr, Option, Some, None}
use Rattle.std.specs.Prelude.{IsTrue, IsFalse, ◌==◌, ◌||◌, nat_lt}
use Rattle.std.proofs.lemmas.Bool.{cases_lt, both_ways, or_cases, and_parts, and_from, and_right, eqb-true, eq-eqb, ne_eqb, not-true, not_from_false, false_from_ne_true}
use Rattle.oper_core.specs.State.{is_among}
use Rattle.oper_core.specs.Meaning.{Meaning, IsLawful}
use Rattle.install_order.specs.Order.{Access, IsNode, IsLastBlindWrite}
use Rattle.install_order.specs.Computed.{IsWithin, is_flushed}
use Rattle.install_order.specs.NodeLaws.{flushed-iff}
use Rattle.explain_core.specs.GraphLaws.{graph-within}
use Rattle.explain_core.specs.History.{Member, with_lsn, reads_some, writes_some, accesses_of}
use Rattle.explain_core.specs.History.Member.{Command, Identity}
use Rattle.explain_core.specs.Sound.{IsSound}
use Rattle.explain_core.specs.Turns.{is_dirty_in, has_work}
use Rattle.explain_core.specs.World.{World, graph_access, end_of, work_of}
use Rattle.running_store.specs.Courses.{is_identity_some}
use Rattle.cache_manager.specs.InstallCourses.{counted, is_stale, next_node, work, work_in}
use Rattle.cache_manager.proofs.Lists.{AreApart, among_filter, filter_among, counted_among, apart_counted, apart_filter}
use Rattle.cache_manager.proofs.Plain.{is_plain}

-- the last write of an object is a node of its own where it reads nothing and writes nothing else
abbrev pub AreAlone : Type 0
AreAlone = (a : Access) (x n p : ℕ) (node : ℕ → Bool) → IsLastBlindWrite a x n → IsNode a node → IsTrue (node n) → IsTrue (node p) → p ≡ n

-- an identity write reads nothing, and writes one object
reads_none : {O : Type 0} (m : Meaning O) (o : Option (Member O)) → IsTrue (is_identity_some o) → (y : ℕ) → IsFalse (reads_some m o y)
reads_none m None is y = refl
reads_none m (Some (Command op)) is y = absurd (both_ways _ refl is)
reads_none m (Some (Identity x value)) is y = refl

writes_one : {O : Type 0} (m : Meaning O) (o : Option (Member O)) → IsTrue (is_identity_some o) → (x y : ℕ) → IsTrue (writes_some m o x) → IsTrue (writes_some m o y) → y ≡ x
writes_one m None is x y wrote also = absurd (both_ways _ refl is)
writes_one m (Some (Command op)) is x y wrote also = absurd (both_ways _ refl is)
writes_one m (Some (Identity z value)) is x y wrote also = only y also ∙ sym (only x wrote)
  where
    only : (k : ℕ) → IsTrue ((k == z) || false) → k ≡ z
    only k e = elim (or_cases (k == z) false e) [ inl here ↦ eqb-true k z here | inr none ↦ absurd (both_ways _ refl none) ]

module _ {O : Type 0} (m : Meaning O) (lawful : IsLawful m) (w : World O) (sound : IsSound m w) where
  abbrev a : Access
  a = graph_access m w

  is_within : IsWithin a m.objects (end_of w)
  is_within = graph-within m lawful w sound

  pub work_from : (node : ℕ → Bool) (x : ℕ) → IsTrue (has_work m w node x) → work_of m w node x
  work_from node x is =
      let p = and_parts (is_flushed a (end_of w) node x) _ is in
      ((flushed-iff a m.objects (end_of w) node x is_within).0 p.0, λ same. both_ways _ (not-true _ p.1) (eq-eqb _ _ same))

  pub work_gives : (node : ℕ → Bool) (x : ℕ) → work_of m w node x → IsTrue (has_work m w node x)
  work_gives node x due = and_from (is_flushed a (end_of w) node x) _ ((flushed-iff a m.objects (end_of w) node x is_within).1 due.0) (not_from_false _ (ne_eqb _ _ due.1))

  pub work_there : (node : ℕ → Bool) (x : ℕ) → work_of m w node x → x < m.objects
  work_there node x due = is_within.writes_object due.0.0 x due.0.2.0

  -- the listed work is the work of the node
  module _ (node : ℕ → Bool) where
    pub in_work : (x : ℕ) → IsTrue (is_among x (work_in m w node)) → work_of m w node x
    in_work x there = work_from node x (among_filter (has_work m w node) (counted 0 m.objects) x there).1

    pub work_in_it : (x : ℕ) → work_of m w node x → IsTrue (is_among x (work_in m w node))
    work_in_it x due = filter_among (has_work m w node) (counted 0 m.objects) x (counted_among 0 m.objects x (omega arith) (omega (arith, work_there node x due))) (work_gives node x due)

    pub work_apart : AreApart (work_in m w node)
    work_apart = apart_filter (has_work m w node) (counted 0 m.objects) (apart_counted 0 m.objects)

  -- and so that of the next node
  pub listed_is : (x : ℕ) → IsTrue (is_among x (work m w)) → work_of m w (next_node m w) x
  listed_is x there = in_work (next_node m w) x there

  pub is_listed : (x : ℕ) → work_of m w (next_node m w) x → IsTrue (is_among x (work m w))
  is_listed x due = work_in_it (next_node m w) x due

  pub listed_apart : AreApart (work m w)
  listed_apart = work_apart (next_node m w)

  -- the version in the cache of a dirty object is the last that the graph's members write
  module _ (x : ℕ) (dirty : (w.slots x).lsn ≡ (w.cache x).lsn → ⊥) where
    abbrev n : ℕ
    n = (w.cache x).lsn

    wrote : IsTrue ((accesses_of m w.history).writes n x)
    wrote = elim (sound.cache.origin x) [
      | inl none ↦ absurd (omega (arith, none.0, (sound.dirty x dirty).0))
      | inr made ↦ made.1
    ]

    writes : IsTrue (a.writes n x)
    writes = and_from (w.graph n) _ (sound.dirty x dirty).1 wrote

    blind : IsTrue (is_identity_some (with_lsn w.history n)) → IsLastBlindWrite a x n
    blind is = record {
      reads = λ y. and_right (w.graph n) _ (reads_none m (with_lsn w.history n) is y);
      only = λ y also. writes_one m (with_lsn w.history n) is x y wrote (and_parts (w.graph n) _ also).1;
      last = λ p later. false_from_ne_true _ (λ also. let u = and_parts (w.graph p) _ also in absurd (omega (arith, later, (sound.dirty x dirty).2 p u.0 u.1)));
    }

    -- the last of the graph's members to write a dirty object made its version in the cache
    pub cached_is_last : (node : ℕ → Bool) → (due : work_of m w node x) → due.0.0 ≡ n
    cached_is_last node due = elim (cases_lt due.0.0 n) [
      | inl before ↦ absurd (both_ways _ (due.0.2.1 n before) writes)
      | inr from ↦
          let u = and_parts (w.graph due.0.0) _ due.0.2.0 in
          let low = (sound.dirty x dirty).2 due.0.0 u.0 u.1 in
          omega (arith, from, low)
    ]

    pub all_the_work : (node : ℕ → Bool) → AreAlone → IsNode a node → IsTrue (is_identity_some (with_lsn w.history n)) → work_of m w node x → (y : ℕ) → work_of m w node y → y ≡ x
    all_the_work node alone is_node is due y other =
        let here : IsTrue (node n) = subst (λ (k : ℕ). IsTrue (node k)) (cached_is_last node due) due.0.1 in
        let same : other.0.0 ≡ n = alone a x n other.0.0 node (blind is) is_node here other.0.1 in
        (blind is).only y (subst (λ (k : ℕ). IsTrue (a.writes k y)) same other.0.2.0)

    -- where an identity write made it, that is all of the node
    pub all_the_node : (node : ℕ → Bool) → AreAlone → IsNode a node → IsTrue (is_identity_some (with_lsn w.history n)) → work_of m w node x → (p : ℕ) → IsTrue (node p) → p ≡ n
    all_the_node node alone is_node is due p there =
        let here : IsTrue (node n) = subst (λ (k : ℕ). IsTrue (node k)) (cached_is_last node due) due.0.1 in
        alone a x n p node (blind is) is_node here there

  -- a copied object whose version is of a command
  pub stale_is_plain : (copied : ℕ) (node : ℕ → Bool) (x : ℕ) → work_of m w node x → IsTrue (is_stale m copied w x) → IsTrue (is_plain w x)
  stale_is_plain copied node x due stale = and_from (is_dirty_in w x) _ (not_from_false _ (ne_eqb _ _ due.1)) (and_parts (nat_lt x copied) _ stale).1

  -- where a node has to flush another object too, the last to write x is no identity write
  pub work_is_plain : (node : ℕ → Bool) → AreAlone → IsNode a node → (x y : ℕ) → work_of m w node x → work_of m w node y → (y ≡ x → ⊥) → IsTrue (is_plain w x)
  work_is_plain node alone is_node x y due also other =
      and_from (is_dirty_in w x) _ (not_from_false _ (ne_eqb _ _ due.1)) (not_from_false _ (false_from_ne_true _ (λ is. other (all_the_work x due.1 node alone is_node is due y also))))
