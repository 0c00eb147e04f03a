-- The minimal nodes of a world that may not be finished yet, and what is logged of them: different objects that may be logged, and where
-- nothing is copied not all of those.
use Rattle.std.proofs.Common.{◌≡◌, sym, subst, ℕ, zero, suc, ◌<◌, ◌≤◌, Bool, List, [], ◌∷◌, refl, arith, inl, inr}
use Rattle.std.specs.Prelude.{IsTrue, IsFalse, ◌==◌, not}
use Rattle.std.proofs.lemmas.Bool.{and_from, and_parts, both_ways, cases_Bool, cases_order, cond-false, cond-true, eq-eqb, eqb-true, false_from_ne_true, or_cases, or_left, or_right}
use Rattle.oper_core.specs.Meaning.{Meaning, IsLawful}
use Rattle.oper_core.specs.State.{is_among}
use Rattle.install_order.specs.Computed.{IsWithin, least_below}
use Rattle.install_order.specs.NodeLaws.{name-is, node-is}
use Rattle.install_order.specs.Order.{Access, IsLastWriter, IsMinimal, IsName, IsNode, flush_set_of}
use Rattle.explain_core.specs.RoundGates.{one_node}
use Rattle.explain_core.specs.Sound.{IsSound}
use Rattle.explain_core.specs.Turns.{is_entered}
use Rattle.explain_core.specs.World.{World, end_of, graph_access, node_named}
use Rattle.running_store.specs.Courses.{cached_length}
use Rattle.running_store.specs.Running.{KeepsSound}
use Rattle.cache_manager.specs.InstallCourses.{is_unready, must_log_in, others_in, others_of, unready_from, work_in}
use Rattle.cache_manager.proofs.Lists.{AreApart, but_longest_among, but_longest_apart, one_kept, some_among}
use Rattle.cache_manager.proofs.NextNode.Least.{below, is_within, none_enters, test_none}
use Rattle.cache_manager.proofs.NextNode.WorkOf.{AreAlone, in_work, work_apart}
use Rattle.cache_manager.proofs.OneInstall.Goes.{node_may_be_logged, some_work_in}
use Rattle.cache_manager.proofs.Plain.{is_plain}
use Rattle.cache_manager.proofs.ToLog.Tally.{among_append, apart_append}

one_writer : (a : Access) (x n k : ℕ) → IsLastWriter a x n → IsLastWriter a x k → n ≡ k
one_writer a x n k last later = elim (cases_order n k) [
  | inl same ↦ same
  | inr other ↦ elim other [ inl before ↦ absurd (both_ways _ (last.1 k before) later.0) | inr after ↦ absurd (both_ways _ (later.1 n after) last.0) ]
]

-- nodes that have an object to flush in common have one name
pub one_name : (a : Access) (f g : ℕ → Bool) (n k x : ℕ) → IsNode a f → IsNode a g → IsName f n → IsName g k → flush_set_of a f x → flush_set_of a g x → n ≡ k
one_name a f g n k x is_f is_g name_f name_g in_f in_g =
    let c = in_g.0 in
    let both : IsTrue (f c) = subst (λ (j : ℕ). IsTrue (f j)) (one_writer a x in_f.0 c in_f.2 in_g.2) in_f.1 in
    let low = name_f.1 k (one_node a g f c is_g is_f in_g.1 both k name_g.0) in
    let high = name_g.1 n (one_node a f g c is_f is_g both in_g.1 n name_f.0) in
    omega (arith, low, high)

module _ {O : Type 0} (m : Meaning O) (copied : ℕ) (lawful : IsLawful m) (keeps : KeepsSound m) (alone : AreAlone) (w : World O) (sound : IsSound m w) where
  abbrev a : Access
  a = graph_access m w

  abbrev end : ℕ
  end = end_of w

  abbrev node : ℕ → ℕ → Bool
  node n = node_named m w n

  within : IsWithin a m.objects end
  within = is_within m lawful w sound

  -- n is the least of its node, which is minimal and may not be finished yet
  pub record IsUnreadyNode (n : ℕ) : Type 0 where
    pub member : IsTrue (w.graph n)
    pub is_name : IsName (node n) n
    pub minimal : IsMinimal a (node n)
    pub must : IsTrue (must_log_in m copied w (node n))

  pub unready_passes : (n : ℕ) → IsUnreadyNode n → IsTrue (is_unready m copied w n)
  unready_passes n is =
      let named = name-is (node n) end n is.is_name.0 (below m lawful w sound n is.member) in
      let least : least_below end (node n) ≡ n = omega (arith, named.1 n is.is_name.0, is.is_name.1 (least_below end (node n)) named.0) in
      and_from (w.graph n) _ is.member (and_from (least_below end (node n) == n) _ (eq-eqb _ _ least) (and_from (not (is_entered m w (node n))) _ (test_none m lawful w sound (node n) is.minimal.1) is.must))

  pub passes_unready : (n : ℕ) → IsTrue (is_unready m copied w n) → IsUnreadyNode n
  passes_unready n is =
      let first = and_parts (w.graph n) _ is in
      let second = and_parts (least_below end (node n) == n) _ first.1 in
      let third = and_parts (not (is_entered m w (node n))) _ second.1 in
      let computed = node-is a m.objects end n within in
      record {
        member = first.0;
        is_name = subst (λ (k : ℕ). IsName (node n) k) (eqb-true _ _ second.0) (name-is (node n) end n computed.1 (below m lawful w sound n first.0));
        minimal = (computed.0, none_enters m lawful w sound (node n) third.0);
        must = third.1;
      }

  -- their work has no object in common
  same_name : (n k x : ℕ) → IsUnreadyNode n → IsUnreadyNode k → IsTrue (is_among x (work_in m w (node n))) → IsTrue (is_among x (work_in m w (node k))) → n ≡ k
  same_name n k x is other one two = one_name a (node n) (node k) n k x is.minimal.0 other.minimal.0 is.is_name other.is_name (in_work m lawful w sound (node n) x one).0 (in_work m lawful w sound (node k) x two).0

  among_work : (n x : ℕ) → IsTrue (is_among x (others_in m copied w (node n))) → IsTrue (is_among x (work_in m w (node n)))
  among_work n x there = but_longest_among copied (cached_length m w) (work_in m w (node n)) x there

  -- what is logged is of one of the nodes
  of_one : (names : List ℕ) (x : ℕ) → IsTrue (is_among x (others_of m copied w names)) → (n : ℕ) × IsTrue (is_among n names) × IsTrue (is_among x (work_in m w (node n)))
  of_one [] x there = absurd (both_ways _ refl there)
  of_one (n ∷ names) x there = elim (among_append x (others_in m copied w (node n)) (others_of m copied w names) there) [
    | inl here ↦ (n, or_left (n == n) (is_among n names) (eq-eqb n n refl), among_work n x here)
    | inr later ↦ let r = of_one names x later in (r.0, or_right (r.0 == n) (is_among r.0 names) r.1, r.2)
  ]

  abbrev pub AreUnready : List ℕ → Type 0
  AreUnready names = (n : ℕ) → IsTrue (is_among n names) → IsUnreadyNode n

  first_unready : (n : ℕ) (names : List ℕ) → AreUnready (n ∷ names) → IsUnreadyNode n
  first_unready n names are = are n (or_left (n == n) (is_among n names) (eq-eqb n n refl))

  rest_unready : (n : ℕ) (names : List ℕ) → AreUnready (n ∷ names) → AreUnready names
  rest_unready n names are k there = are k (or_right (k == n) (is_among k names) there)

  -- no object of the first node is logged of the others
  none_later : (n : ℕ) (names : List ℕ) (x : ℕ) → AreApart (n ∷ names) → AreUnready (n ∷ names) → IsTrue (is_among x (work_in m w (node n))) → IsTrue (is_among x (others_of m copied w names)) → ⊥
  none_later n names x apart are here there =
      let r = of_one names x there in
      let same = same_name n r.0 x (first_unready n names are) (rest_unready n names are r.0 r.1) here r.2 in
      both_ways _ apart.0 (subst (λ (k : ℕ). IsTrue (is_among k names)) (sym same) r.1)

  pub others_apart : (names : List ℕ) → AreApart names → AreUnready names → AreApart (others_of m copied w names)
  others_apart [] apart are = tt
  others_apart (n ∷ names) apart are =
      apart_append (others_in m copied w (node n)) (others_of m copied w names) (but_longest_apart copied (cached_length m w) (work_in m w (node n)) (work_apart m lawful w sound (node n)))
      (others_apart names apart.1 (rest_unready n names are)) (λ x first later. none_later n names x apart are (among_work n x first) later)

  -- each may be logged
  pub others_plain : (names : List ℕ) → AreUnready names → (x : ℕ) → IsTrue (is_among x (others_of m copied w names)) → (x < m.objects) × IsTrue (is_plain w x)
  others_plain names are x there =
      let r = of_one names x there in
      let is = are r.0 r.1 in
      node_may_be_logged m copied lawful keeps alone w sound (node r.0) is.minimal.0 is.must x r.2

  -- where nothing is copied, one that may be is not, if there is a node
  pub one_left : (n : ℕ) (names : List ℕ) → AreApart (n ∷ names) → AreUnready (n ∷ names) → copied ≡ 0 → (x : ℕ) × ((x < m.objects) × IsTrue (is_plain w x)) × IsFalse (is_among x (others_of m copied w (n ∷ names)))
  one_left n names apart are none =
      let is = first_unready n names are in
      let one = some_work_in m copied lawful keeps alone w (node n) is.must in
      let kept = one_kept copied (cached_length m w) (work_in m w (node n)) none (some_among one.0 (work_in m w (node n)) one.1) in (
        kept.0,
        node_may_be_logged m copied lawful keeps alone w sound (node n) is.minimal.0 is.must kept.0 kept.1,
        false_from_ne_true _ (λ there. elim (among_append kept.0 (others_in m copied w (node n)) (others_of m copied w names) there) [
          | inl here ↦ both_ways _ kept.2 here
          | inr later ↦ none_later n names kept.0 apart are kept.1 later
        ]),
      )

  -- the names rise, and are of such nodes
  from_on : (most fuel k n : ℕ) → IsTrue (is_among n (unready_from m copied most fuel k w)) → (k ≤ n) × IsTrue (is_unready m copied w n)
  from_on most zero k n there = absurd (both_ways _ refl there)
  from_on zero (suc fuel) k n there = absurd (both_ways _ refl there)
  from_on (suc most) (suc fuel) k n there = elim (cases_Bool (is_unready m copied w k)) [
    | inl is ↦ elim (or_cases (n == k) (is_among n (unready_from m copied most fuel (suc k) w)) (subst (λ (l : List ℕ). IsTrue (is_among n l)) (cond-true (is_unready m copied w k) (k ∷ unready_from m copied most fuel (suc k) w) (unready_from m copied (suc most) fuel (suc k) w) is) there)) [
      | inl here ↦ let same = eqb-true n k here in (omega (arith, same), subst (λ (j : ℕ). IsTrue (is_unready m copied w j)) (sym same) is)
      | inr later ↦ let r = from_on most fuel (suc k) n later in (omega (arith, r.0), r.1)
    ]
    | inr off ↦
        let r = from_on (suc most) fuel (suc k) n (subst (λ (l : List ℕ). IsTrue (is_among n l)) (cond-false (is_unready m copied w k) (k ∷ unready_from m copied most fuel (suc k) w) (unready_from m copied (suc most) fuel (suc k) w) off) there) in
        (omega (arith, r.0), r.1)
  ]

  pub names_apart : (most fuel k : ℕ) → AreApart (unready_from m copied most fuel k w)
  names_apart most zero k = tt
  names_apart zero (suc fuel) k = tt
  names_apart (suc most) (suc fuel) k =
      let taken = k ∷ unready_from m copied most fuel (suc k) w in
      let left = unready_from m copied (suc most) fuel (suc k) w in
      elim (cases_Bool (is_unready m copied w k)) [
        | inl is ↦ subst AreApart (sym (cond-true (is_unready m copied w k) taken left is))
            (false_from_ne_true _ (λ there. let r = from_on most fuel (suc k) k there in absurd (omega (arith, r.0))), names_apart most fuel (suc k))
        | inr off ↦ subst AreApart (sym (cond-false (is_unready m copied w k) taken left off)) (names_apart (suc most) fuel (suc k))
      ]

  pub names_unready : (most fuel k : ℕ) → AreUnready (unready_from m copied most fuel k w)
  names_unready most fuel k n there = passes_unready n (from_on most fuel k n there).1
