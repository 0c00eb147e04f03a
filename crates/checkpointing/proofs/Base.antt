-- The least of a checkpoint's starts and of its next LSN is where a trim lets the log begin.
use Rattle.std.proofs.Common.{◌≡◌, sym, subst, ℕ, zero, suc, ◌<◌, ◌≤◌, List, [], ◌∷◌, length, map, refl, arith, inl, inr, Option, Some}
use Rattle.std.specs.Prelude.{All, IsTrue, IfSome, ◌==◌, slice_get}
use Rattle.std.proofs.lemmas.Bool.{both_ways, cases_lt, and_parts, and_from, or_cases, or_left, eqb-true, eq-eqb}
use Rattle.std.proofs.lemmas.List.Elements.{All-head, All-tail, All-weaker}
use Rattle.oper_core.specs.Meaning.{Meaning, IsLawful}
use Rattle.oper_core.specs.State.{State, is_among}
use Rattle.install_order.specs.Entries.{accesses}
use Rattle.install_order.specs.NodeLaws.{least-is}
use Rattle.install_order.specs.Order.{Access}
use Rattle.install_order.specs.declared.entry.Entry.{Entry}
use Rattle.write_graph.specs.Graph.{Lists, IsLeast}
use Rattle.write_graph.specs.Objects.{IsWriter, IsWritten}
use Rattle.explain_core.specs.GraphLaws.{accepted-in_grammar}
use Rattle.explain_core.specs.History.{Member, IsMember, value_at, writes_some}
use Rattle.explain_core.specs.History.Member.{Command, Identity}
use Rattle.explain_core.specs.Sound.{IsSound}
use Rattle.explain_core.specs.World.{World, end_of, graph_access}
use Rattle.running_store.specs.Calls.Rewrites.{new_base}

-- the member at a place
member_at : {X : Type 0} (h : List X) (k : ℕ) → k < length h → (x : X) × (slice_get h k ≡ Some x)
member_at [] k lt = absurd (omega (arith, lt))
member_at (x ∷ h) zero lt = (x, refl)
member_at (x ∷ h) (suc k) lt = member_at h k (omega (arith, lt))

first_among : (xs : List ℕ) → 0 < length xs → (x : ℕ) × IsTrue (is_among x xs)
first_among [] some = absurd (omega (arith, some))
first_among (x ∷ xs) some = (x, or_left (x == x) (is_among x xs) (eq-eqb x x refl))

-- a member writes some object
writes_one : {O : Type 0} (m : Meaning O) → IsLawful m → (before : State) (member : Member O) → IsMember m before member → (x : ℕ) × IsTrue (writes_some m (Some member) x)
writes_one m law before (Command op) is = first_among (m.writes op) (law.writes_some op (accepted-in_grammar m before op is))
writes_one m law before (Identity x v) is = first_among (x ∷ []) (omega arith)

module _ {O : Type 0} (m : Meaning O) (law : IsLawful m) (w : World O) (sound : IsSound m w) where
  -- a member of the graph writes some object
  graph_writes : (n : ℕ) → IsTrue (w.graph n) → (x : ℕ) × IsTrue ((graph_access m w).writes n x)
  graph_writes zero there = absurd (omega (arith, sound.base, (sound.graph 0 there).0))
  graph_writes (suc n) there =
      let found = member_at w.history n (omega (arith, (sound.graph (suc n) there).1, sound.next.1)) in
      let is : IsMember m (λ y. value_at m w.history n y) found.0 = subst (λ (o : Option (Member O)). IfSome o (λ member. IsMember m (λ y. value_at m w.history n y) member)) found.1 (sound.history n) in
      let one = writes_one m law (λ y. value_at m w.history n y) found.0 is in
      (one.0, and_from (w.graph (suc n)) _ there (subst (λ (o : Option (Member O)). IsTrue (writes_some m o one.0)) (sym found.1) one.1))

  module _ (entries : List Entry) (same : accesses entries ≡ graph_access m w) (starts : List (ℕ × ℕ)) (objects : Lists (IsWritten (accesses entries)) (map (λ s. s.0) starts))
      (least : All (λ s. IsLeast (IsWriter (accesses entries) s.0) s.1) starts) (base : ℕ) (each : All (λ s. base ≤ s.1) starts) where
    -- no member that writes an object with a start is below the base
    start_low : (starts : List (ℕ × ℕ)) (x k : ℕ) → IsTrue (is_among x (map (λ s. s.0) starts)) → All (λ s. IsLeast (IsWriter (accesses entries) s.0) s.1) starts → All (λ s. base ≤ s.1) starts
        → IsTrue ((accesses entries).writes k x) → base ≤ k
    start_low [] x k among least each writes = absurd (both_ways _ refl among)
    start_low (s ∷ starts) x k among least each writes = elim (or_cases (x == s.0) (is_among x (map (λ s. s.0) starts)) among) [
      | inl here ↦
          let first = All-head (λ (s : ℕ × ℕ). IsLeast (IsWriter (accesses entries) s.0) s.1) s starts least in
          let low = first.1 k (subst (λ (y : ℕ). IsTrue ((accesses entries).writes k y)) (eqb-true x s.0 here) writes) in
          omega (arith, low, All-head (λ (s : ℕ × ℕ). base ≤ s.1) s starts each)
      | inr more ↦ start_low starts x k more (All-tail (λ (s : ℕ × ℕ). IsLeast (IsWriter (accesses entries) s.0) s.1) s starts least) (All-tail (λ (s : ℕ × ℕ). base ≤ s.1) s starts each) writes
    ]

    pub base_low : (n : ℕ) → IsTrue (w.graph n) → base ≤ n
    base_low n there =
        let one = graph_writes n there in
        let writes : IsTrue ((accesses entries).writes n one.0) = subst (λ (a : Access). IsTrue (a.writes n one.0)) (sym same) one.1 in
        start_low starts one.0 n ((objects.exactly one.0).1 (n, writes)) least each writes

    -- the base is that of the course
    pub base_is : base ≤ end_of w → ((k : ℕ) → k ≤ end_of w → All (λ s. k ≤ s.1) starts → k ≤ base) → base ≡ new_base m w
    base_is next greatest =
        let low = least-is w.graph (end_of w) in
        let under : base ≤ new_base m w = elim (cases_lt (new_base m w) (end_of w)) [
          | inl below ↦ base_low (new_base m w) (low.1 below)
          | inr past ↦ omega (arith, past, next)
        ] in
        let over = greatest (new_base m w) low.0
        (All-weaker (λ (s : ℕ × ℕ). IsLeast (IsWriter (accesses entries) s.0) s.1) (λ (s : ℕ × ℕ). new_base m w ≤ s.1)
        (λ s is.
        let there = (and_parts (w.graph s.1) _ (subst (λ (a : Access). IsTrue (a.writes s.1 s.0)) same is.0)).0 in
        low.2 s.1 (omega (arith, (sound.graph s.1 there).1, sound.next.1)) there) starts least) in
        omega (arith, under, over)
