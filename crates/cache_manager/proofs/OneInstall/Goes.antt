-- An install may be taken from every world in which calls are made, and leaves less to do.
use Rattle.std.specs.List.{list_any}
use Rattle.std.proofs.Common.{◌≡◌, sym, subst, ℕ, Bool, false, zero, suc, ◌<◌, ◌≤◌, List, [], ◌∷◌, length, refl, arith, inl, inr}
use Rattle.std.specs.Prelude.{⊤, IsTrue, IsFalse, nat_lt, ◌==◌}
use Rattle.std.proofs.lemmas.Bool.{cases_eq, cases_Bool, both_ways, false_from_ne_true, or_cases, or_left, or_right, or_parts, and_parts, eq-eqb, eqb-true, ltb-true, ltb-false, cond_both}
use Rattle.oper_core.specs.State.{is_among}
use Rattle.oper_core.specs.Meaning.{Meaning, IsLawful}
use Rattle.install_order.specs.NodeLaws.{some-from, some-gives}
use Rattle.install_order.specs.Order.{IsNode}
use Rattle.explain_core.specs.Sound.{IsSound}
use Rattle.explain_core.specs.World.{World, end_of, graph_access, AreAllowed}
use Rattle.running_store.specs.Courses.{Course, course, and_then, cached_length}
use Rattle.cache_manager.specs.InstallCourses.{identities, next_node, work, work_in, is_stale, must_log, must_log_in, others, but_longest, finish_steps, rounds, has_members, install_course}
use Rattle.running_store.specs.Courses.Stop.{Through}
use Rattle.running_store.specs.Running.{IsRunning, IsDrained, KeepsSound}
use Rattle.cache_manager.proofs.Counts.{count_one, count_at_most}
use Rattle.cache_manager.proofs.NextNode.Finishing.{IsInstalled, finish_goes}
use Rattle.cache_manager.proofs.Goes.{Goes, goes_then, goes_weaker, goes_if, goes_none}
use Rattle.cache_manager.proofs.Lists.{AreApart, other_among, but_longest_among, but_longest_apart, but_longest_some, copied_some}
use Rattle.cache_manager.proofs.IdentityWrite.Logging.{AreLogged, identities_goes}
use Rattle.cache_manager.proofs.NextNode.Least.{next_is, below}
use Rattle.cache_manager.proofs.Plain.{is_plain, plain_in}
use Rattle.cache_manager.proofs.NextNode.WorkOf.{AreAlone, in_work, listed_apart, work_apart, work_there, work_is_plain, stale_is_plain}

-- of two objects or more each has another one beside it
each_beside : (P : ℕ → Type 0) (objects : List ℕ) → AreApart objects → IsTrue (nat_lt 1 (length objects)) → ((x y : ℕ) → IsTrue (is_among x objects) → IsTrue (is_among y objects) → (y ≡ x → ⊥) → P x)
    → (x : ℕ) → IsTrue (is_among x objects) → P x
each_beside P [] apart many so x there = absurd (both_ways _ refl many)
each_beside P (a ∷ []) apart many so x there = absurd (both_ways _ refl many)
each_beside P (a ∷ b ∷ objects) apart many so x there = let u = other_among a b x objects apart in so x u.0 there u.1 u.2

-- so one of them at least is not the longest
pub many_logged : (copied : ℕ) (lengths : ℕ → ℕ) (objects : List ℕ) → AreApart objects → IsTrue (nat_lt 1 (length objects)) → 1 ≤ length (but_longest copied lengths objects)
many_logged copied lengths [] apart many = absurd (both_ways _ refl many)
many_logged copied lengths (a ∷ []) apart many = absurd (both_ways _ refl many)
many_logged copied lengths (a ∷ b ∷ objects) apart many = but_longest_some copied lengths a b objects apart

-- some object passes, and where there is one at most each does
some_passes : (p : ℕ → Bool) (objects : List ℕ) → IsTrue (list_any p objects) → (x : ℕ) × IsTrue (is_among x objects) × IsTrue (p x)
some_passes p [] some = absurd (both_ways _ refl some)
some_passes p (a ∷ objects) some = elim (or_cases (p a) (list_any p objects) some) [
  | inl here ↦ (a, or_left (a == a) (is_among a objects) (eq-eqb a a refl), here)
  | inr later ↦ let r = some_passes p objects later in (r.0, or_right (r.0 == a) (is_among r.0 objects) r.1, r.2)
]

one_passes : (p : ℕ → Bool) (objects : List ℕ) → IsFalse (nat_lt 1 (length objects)) → IsTrue (list_any p objects) → (x : ℕ) → IsTrue (is_among x objects) → IsTrue (p x)
one_passes p [] few some x there = absurd (both_ways _ refl there)
one_passes p (a ∷ []) few some x there = elim (or_cases (x == a) false there) [
  | inl here ↦ elim (or_cases (p a) false some) [
    | inl passes ↦ subst (λ (z : ℕ). IsTrue (p z)) (sym (eqb-true x a here)) passes
    | inr none ↦ absurd (both_ways _ refl none)
  ]
  | inr none ↦ absurd (both_ways _ refl none)
]
one_passes p (a ∷ b ∷ objects) few some x there = absurd (omega (arith, ltb-false 1 (length (a ∷ b ∷ objects)) few))

module _ {O : Type 0} (m : Meaning O) (copied : ℕ) (lawful : IsLawful m) (keeps : KeepsSound m) (alone : AreAlone) where
  -- where a node may not be finished, each object that it has to flush may be logged
  pub node_may_be_logged : (w : World O) → IsSound m w → (node : ℕ → Bool) → IsNode (graph_access m w) node → IsTrue (must_log_in m copied w node) → (x : ℕ) → IsTrue (is_among x (work_in m w node)) → (x < m.objects) × IsTrue (is_plain w x)
  node_may_be_logged w sound node is_node must =
      let due = in_work m lawful w sound node in
      elim (cases_Bool (nat_lt 1 (length (work_in m w node)))) [
        | inl many ↦ each_beside (λ x. (x < m.objects) × IsTrue (is_plain w x)) (work_in m w node) (work_apart m lawful w sound node) many
            (λ x y one other apart. (work_there m lawful w sound node x (due x one), work_is_plain m lawful w sound node alone is_node x y (due x one) (due y other) apart))
        | inr few ↦ elim (or_cases (nat_lt 1 (length (work_in m w node))) (list_any (is_stale m copied w) (work_in m w node)) must) [
          | inl many ↦ absurd (both_ways _ few many)
          | inr stale ↦ λ x one. (work_there m lawful w sound node x (due x one), stale_is_plain m lawful w sound copied node x (due x one) (one_passes (is_stale m copied w) (work_in m w node) few stale x one))
        ]
      ]

  pub work_may_be_logged : (w : World O) (c : ℕ) → IsRunning m w → IsTrue (w.graph c) → IsTrue (must_log m copied w) → (x : ℕ) → IsTrue (is_among x (work m w)) → (x < m.objects) × IsTrue (is_plain w x)
  work_may_be_logged w c is there must = node_may_be_logged w is.sound (next_node m w) (next_is m lawful w is.sound c there).minimal.0 must

  -- and one at least is logged
  pub some_logged : (w : World O) → IsRunning m w → IsTrue (must_log m copied w) → 1 ≤ length (others m copied w)
  some_logged w is must = elim (or_cases (nat_lt 1 (length (work m w))) (list_any (is_stale m copied w) (work m w)) must) [
    | inl many ↦ many_logged copied (cached_length m w) (work m w) (listed_apart m lawful w is.sound) many
    | inr stale ↦
        let one = some_passes (is_stale m copied w) (work m w) stale in
        copied_some copied (cached_length m w) (work m w) one.0 one.1 (ltb-true one.0 copied (and_parts (nat_lt one.0 copied) _ one.2).0)
  ]

  pub some_work_in : (w : World O) (node : ℕ → Bool) → IsTrue (must_log_in m copied w node) → (x : ℕ) × IsTrue (is_among x (work_in m w node))
  some_work_in w node must = elim (or_cases (nat_lt 1 (length (work_in m w node))) (list_any (is_stale m copied w) (work_in m w node)) must) [
    | inl many ↦ first (work_in m w node) many
    | inr stale ↦ let one = some_passes (is_stale m copied w) (work_in m w node) stale in (one.0, one.1)
  ]
    where
      first : (objects : List ℕ) → IsTrue (nat_lt 1 (length objects)) → (x : ℕ) × IsTrue (is_among x objects)
      first [] many = absurd (both_ways _ refl many)
      first (x ∷ objects) many = (x, or_left (x == x) (is_among x objects) (eq-eqb x x refl))

  pub some_work : (w : World O) → IsTrue (must_log m copied w) → (x : ℕ) × IsTrue (is_among x (work m w))
  some_work w must = some_work_in w (next_node m w) must

  -- a node that may be finished has one object to flush at most
  pub finished_few : (w : World O) → IsFalse (must_log m copied w) → IsFalse (nat_lt 1 (length (work m w)))
  finished_few w may = (or_parts (nat_lt 1 (length (work m w))) (list_any (is_stale m copied w) (work m w)) may).0

  pub others_go : (w : World O) (used c : ℕ) → IsRunning m w → IsTrue (w.graph c) → IsTrue (must_log m copied w) → Goes m w (identities m (others m copied w) w used) (AreLogged m w (length (others m copied w)))
  others_go w used c is there must =
      identities_goes m keeps (others m copied w) w used is (but_longest_apart copied (cached_length m w) (work m w) (listed_apart m lawful w is.sound))
      (λ y among. work_may_be_logged w c is there must y (but_longest_among copied (cached_length m w) (work m w) y among))

  -- with no object left that may be logged, the node may be finished
  pub few_left : (w : World O) (c : ℕ) → IsRunning m w → IsTrue (w.graph c) → plain_in m w ≤ 0 → IsFalse (must_log m copied w)
  few_left w c is there none = false_from_ne_true _ (λ must.
      let one = some_work w must in
      let here = work_may_be_logged w c is there must one.0 one.1 in
      absurd (omega (arith, none, count_one m.objects (is_plain w) one.0 here.0 here.1)))

  -- as many rounds as there are objects that may be logged are enough
  pub rounds_go : (n : ℕ) (w : World O) (used c : ℕ) → IsRunning m w → IsTrue (w.graph c) → plain_in m w ≤ n → Goes m w (rounds m copied n w used) (IsInstalled m w)
  rounds_go zero w used c is there few = finish_goes m lawful keeps w used c is there (finished_few w (few_left w c is there few))
  rounds_go (suc n) w used c is there few =
      let logging = identities m (others m copied w) w used in
      goes_if m w (must_log m copied w) (and_then m w logging (λ v used. rounds m copied n v used)) (course (finish_steps m w) used Through) (IsInstalled m w)
      (λ must. goes_then m w logging (λ v used. rounds m copied n v used) (AreLogged m w (length (others m copied w))) (IsInstalled m w) (others_go w used c is there must)
      (λ v logged.
      let some = some_logged w is must in
      goes_weaker m v (rounds m copied n v logging.used) (IsInstalled m v) (IsInstalled m w) (λ u done. record { running = done.running; less = omega (arith, done.less, logged.left) })
      (rounds_go n v logging.used c logged.running (logged.members c there) (omega (arith, some, logged.plain, few)))))
      (λ may. finish_goes m lawful keeps w used c is there (finished_few w may))

  pub install_goes : (w : World O) (used : ℕ) → IsRunning m w → IsTrue (has_members m w) → Goes m w (rounds m copied m.objects w used) (IsInstalled m w)
  install_goes w used is some =
      let one = some-gives (end_of w) w.graph some in
      rounds_go m.objects w used one.0 is one.2 (count_at_most m.objects (is_plain w))

  pub none_left : (w : World O) → IsRunning m w → IsFalse (has_members m w) → IsDrained w
  none_left w is none =
      let empty : (n : ℕ) → IsFalse (w.graph n) = λ n. false_from_ne_true _ (λ there. both_ways _ none (some-from (end_of w) w.graph n (below m lawful w is.sound n there) there)) in
      record {
        empty = empty;
        clean = λ x. elim (cases_eq (w.slots x).lsn (w.cache x).lsn) [
          | inl same ↦ same
          | inr dirty ↦ absurd (both_ways _ (empty (w.cache x).lsn) (is.sound.dirty x dirty).1)
        ];
      }

  pub install_allowed : (w : World O) (used : ℕ) → IsRunning m w → AreAllowed m w (install_course m copied w used).steps
  install_allowed w used is =
      (goes_if m w (has_members m w) (rounds m copied m.objects w used) (course [] used Through) (λ v. ⊤)
      (λ some. goes_weaker m w (rounds m copied m.objects w used) (IsInstalled m w) (λ v. ⊤) (λ v done. tt) (install_goes w used is some))
      (λ none. goes_none m w used (λ v. ⊤) tt)).allowed

  -- What holds of each course of a kind, from a world in which calls are made, holds of an install: of none, of a node's last
  -- steps, of the identity writes before them, and of one such course after the other.
  module _ (Q : World O → Course O → Type 0) (none : (w : World O) (used : ℕ) → Q w (course [] used Through))
      (finish : (w : World O) (used c : ℕ) → IsRunning m w → IsTrue (w.graph c) → IsFalse (must_log m copied w) → Q w (course (finish_steps m w) used Through))
      (log : (w : World O) (used c : ℕ) → IsRunning m w → IsTrue (w.graph c) → IsTrue (must_log m copied w) → Q w (identities m (others m copied w) w used))
      (then : (w : World O) (first : Course O) (next : World O → ℕ → Course O) (P : World O → Type 0) → Goes m w first P → Q w first → ((v : World O) → P v → Q v (next v first.used)) → Q w (and_then m w first next)) where
    by_rounds : (n : ℕ) (w : World O) (used c : ℕ) → IsRunning m w → IsTrue (w.graph c) → plain_in m w ≤ n → Q w (rounds m copied n w used)
    by_rounds zero w used c is there few = finish w used c is there (few_left w c is there few)
    by_rounds (suc n) w used c is there few =
        let logging = identities m (others m copied w) w used in
        cond_both (must_log m copied w) (and_then m w logging (λ v used. rounds m copied n v used)) (course (finish_steps m w) used Through) (Q w)
        (λ must. then w logging (λ v used. rounds m copied n v used) (AreLogged m w (length (others m copied w))) (others_go w used c is there must) (log w used c is there must)
        (λ v logged. let some = some_logged w is must in by_rounds n v logging.used c logged.running (logged.members c there) (omega (arith, some, logged.plain, few))))
        (λ may. finish w used c is there may)

    pub by_some : (w : World O) (used : ℕ) → IsRunning m w → IsTrue (has_members m w) → Q w (rounds m copied m.objects w used)
    by_some w used is some = let one = some-gives (end_of w) w.graph some in by_rounds m.objects w used one.0 is one.2 (count_at_most m.objects (is_plain w))

    pub by_install : (w : World O) (used : ℕ) → IsRunning m w → Q w (install_course m copied w used)
    by_install w used is = cond_both (has_members m w) (rounds m copied m.objects w used) (course [] used Through) (Q w) (by_some w used is) (λ empty. none w used)
