-- A checkpoint and a header's gate keep a world sound.
use Rattle.std.proofs.Common.{◌≡◌, refl, sym, subst, ℕ, ◌+◌, ◌≤◌, Bool, length, arith, inl, inr}
use Rattle.std.specs.Prelude.{IsTrue, ◌&&◌}
use Rattle.std.proofs.lemmas.Bool.{cases_lt, both_ways, true_from_ne_false, and_parts, and_from}
use Rattle.oper_core.specs.Meaning.{Meaning}
use Rattle.explain_core.specs.History.{accesses_of}
use Rattle.install_order.specs.Computed.{least_below}
use Rattle.install_order.specs.NodeLaws.{least-is}
use Rattle.explain_core.specs.World.{World, step, IsLive, end_of, table_now}
use Rattle.explain_core.specs.World.Step.{Checkpoint, Header_gate}
use Rattle.explain_core.specs.Sound.{IsSound, SkipsNothing}
use Rattle.explain_core.specs.GraphLaws.{no-writes}

-- a checkpoint taken now skips nothing, from any base that is at most each member of the graph
now-fits : {O : Type 0} (m : Meaning O) (w : World O) (base : ℕ) → IsLive w → base ≤ end_of w → ((n : ℕ) → IsTrue (w.graph n) → base ≤ n) → IsSound m w → SkipsNothing (accesses_of m w.history) w.installed base (end_of w) (table_now m w)
now-fits m w base live le each s =
    let a = accesses_of m w.history in
    let q : (x : ℕ) → ℕ → Bool = λ x n. w.graph n && a.writes n x in
    record {
      before = λ n x out wr. elim (cases_lt n (end_of w)) [
        | inl lt ↦ (least-is (q x) (end_of w)).2 n lt (and_from (w.graph n) (a.writes n x) (s.passed n (omega arith) out) wr)
        | inr ge ↦ absurd (both_ways _ (no-writes m w.history n x (omega arith)) wr)
      ];
      start = λ x. (least-is (q x) (end_of w)).0;
      from_base = λ x. elim (cases_lt (least_below (end_of w) (q x)) (end_of w)) [
        | inl lt ↦ each _ (and_parts (w.graph (least_below (end_of w) (q x))) _ ((least-is (q x) (end_of w)).1 lt)).0
        | inr ge ↦ omega arith
      ];
      next_from_base = le;
      next_within = omega arith;
    }

pub checkpoint_sound : {O : Type 0} (m : Meaning O) (w : World O) → IsLive w → IsSound m w → IsSound m (step m w Checkpoint)
unfolding step
checkpoint_sound m w live s = record {
  history = s.history;
  forced = s.forced;
  installed = s.installed;
  slots = s.slots;
  tables = s.tables;
  pending = (now-fits m w w.base live (omega (arith, s.next.0, s.next.1)) (λ n e. (s.graph n e).0) s, s.pending);
  base = s.base;
  below_base = s.below_base;
  counted = s.counted;
  all_stable = s.all_stable;
  graph = s.graph;
  next = s.next;
  passed = s.passed;
  cache = s.cache;
  cache_right = s.cache_right;
  cache_late = s.cache_late;
  dirty = s.dirty;
  group = s.group;
}

pub header_sound : {O : Type 0} (m : Meaning O) (w : World O) (base : ℕ) → IsLive w → w.forced ≡ length w.history → w.base ≤ base → base ≤ w.next → ((n : ℕ) → IsTrue (w.graph n) → base ≤ n) → IsSound m w → IsSound m (step m w (Header_gate base))
unfolding step
header_sound m w base live all up le each s =
    let fits : SkipsNothing (accesses_of m w.history) w.installed base (end_of w) (table_now m w) = now-fits m w base live (omega (arith, s.next.1)) each s in
    record {
      history = s.history;
      forced = s.forced;
      installed = s.installed;
      slots = s.slots;
      tables = (subst (λ (n : ℕ). SkipsNothing (accesses_of m w.history) w.installed base (n + 1) (table_now m w)) (sym all) fits, tt);
      pending = tt;
      base = omega (arith, s.base);
      below_base = λ n lt. true_from_ne_false _ (λ out. absurd (omega (arith, each n (s.passed n (omega arith) out))));
      counted = refl;
      all_stable = s.all_stable;
      graph = λ n e. (each n e, (s.graph n e).1);
      next = (le, s.next.1);
      passed = s.passed;
      cache = s.cache;
      cache_right = s.cache_right;
      cache_late = s.cache_late;
      dirty = λ x ne. let d = s.dirty x ne in (d.0, d.1, d.2, λ old. absurd (omega arith));
      group = s.group;
    }
