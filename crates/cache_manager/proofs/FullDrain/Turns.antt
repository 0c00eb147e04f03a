-- All turns are a turn, and all turns again. Each turn leaves less to do, so all of them leave nothing.
use Rattle.std.proofs.Common.{◌≡◌, ◌∙◌, sym, subst, ap, ℕ, zero, suc, ◌+◌, ◌-◌, ◌<◌, ◌≤◌, List, [], length, refl, arith, inl, inr}
use Rattle.std.specs.Prelude.{IsTrue, IsFalse}
use Rattle.std.proofs.lemmas.Bool.{both_ways, cases_Bool, cond-false, cond-true, cond_both, false_from_ne_true}
use Rattle.oper_core.specs.Meaning.{Meaning, IsLawful}
use Rattle.install_order.specs.NodeLaws.{some-from, some-gives}
use Rattle.explain_core.specs.Turns.{count_below, dirty_in, round_gates}
use Rattle.explain_core.specs.World.{World, end_of, run}
use Rattle.running_store.specs.Courses.Laws.{behind_both, behind_through, through_is}
use Rattle.running_store.specs.Courses.{Course, and_then, course, is_through}
use Rattle.running_store.specs.Courses.Stop.{Through}
use Rattle.running_store.specs.Running.{IsDrained, IsRunning, KeepsSound}
use Rattle.cache_manager.specs.InstallCourses.{all_turns, finish_steps, first_course, has_members, identities, install_course, is_next_due, may_flush, must_log, others, readied, ready_turn, removals, round_course, rounds, turn_course, turns, workless_nodes}
use Rattle.cache_manager.proofs.Counts.{count_one}
use Rattle.cache_manager.proofs.NextNode.Finishing.{IsInstalled}
use Rattle.cache_manager.proofs.Goes.{Goes, goes_if, goes_next, goes_none, goes_then, goes_weaker}
use Rattle.cache_manager.proofs.OneInstall.Goes.{by_install, install_goes, none_left}
use Rattle.cache_manager.proofs.OneInstall.Loops.{then_same}
use Rattle.cache_manager.proofs.OneRound.NextDue.{round_some}
use Rattle.cache_manager.proofs.Plain.{left_in, plain_below}
use Rattle.cache_manager.proofs.MadeReady.Goes.{readied_goes, readied_none, readied_rounds}
use Rattle.cache_manager.proofs.Removal.Members.{install_removes, install_removes_one, none_identities, removals-append, round_removes}
use Rattle.cache_manager.proofs.OneRound.Goes.{IsRounded, MayRound, round_goes}
use Rattle.cache_manager.proofs.NextNode.Least.{below}
use Rattle.cache_manager.proofs.NextNode.WorkOf.{AreAlone}
use Rattle.cache_manager.proofs.NextWorkless.{by_nodes, nodes_go, nodes_through}

module _ {O : Type 0} (m : Meaning O) (copied : ℕ) (lawful : IsLawful m) (keeps : KeepsSound m) (alone : AreAlone) (rounds_may : MayRound m) (most : ℕ) where
  -- courses one after the other leave so many nodes less as they remove
  rounded_then : (w : World O) (first : Course O) (next : World O → ℕ → Course O) → Goes m w first (λ v. IsRounded m w v (removals first.steps))
      → ((v : World O) → IsRunning m v → Goes m v (next v first.used) (λ u. IsRounded m v u (removals (next v first.used).steps))) → Goes m w (and_then m w first next) (λ u. IsRounded m w u (removals (and_then m w first next).steps))
  rounded_then w first next goes more =
      let v = run m w first.steps in
      let second = next v first.used in
      let Q : World O → Type 0 = λ u. IsRounded m w u (removals (and_then m w first next).steps) in
      goes_next m w first next (λ v. IsRounded m w v (removals first.steps)) Q goes
      (λ through here.
      let count : removals (and_then m w first next).steps ≡ removals first.steps + removals second.steps = ap (λ (c : Course O). removals c.steps) (behind_through first second first.stop (ap is_through through)) ∙ removals-append first.steps second.steps in
      goes_weaker m v second (λ u. IsRounded m v u (removals second.steps)) Q (λ u done. record { running = done.running; less = omega (arith, here.less, done.less, count) }) (more v here.running))

  -- a round or an install
  first_goes : (w : World O) (used : ℕ) → IsRunning m w → IsTrue (has_members m w) → Goes m w (first_course m copied most w used) (λ v. IsRounded m w v (removals (first_course m copied most w used).steps))
  first_goes w used is some =
      let round = round_course m copied most w used in
      let one = install_course m copied w used in
      cond_both (is_next_due m copied w) round one (λ (c : Course O). Goes m w c (λ v. IsRounded m w v (removals c.steps)))
      (λ due.
      let count = round_removes m copied most w in
      goes_weaker m w round (λ u. IsRounded m w u (length (round_gates m (may_flush m copied) most w))) (λ u. IsRounded m w u (removals round.steps)) (λ u done. record { running = done.running; less = omega (arith, done.less, count) }) (round_goes m keeps rounds_may copied most w used is))
      (λ off.
      let few = (install_removes m copied w used).0 in
      goes_weaker m w one (IsInstalled m w) (λ u. IsRounded m w u (removals one.steps)) (λ u done. record { running = done.running; less = omega (arith, done.less, few) })
      (subst (λ (c : Course O). Goes m w c (IsInstalled m w)) (sym (cond-true (has_members m w) (rounds m copied m.objects w used) (course [] used Through) some)) (install_goes m copied lawful keeps alone w used is some)))

  abbrev behind_first : World O → ℕ → World O → ℕ → Course O
  behind_first w used v left = workless_nodes m (most - removals (first_course m copied most w used).steps) v left

  ready_goes : (w : World O) (used : ℕ) → IsRunning m w → Goes m w (ready_turn m copied most w used) (λ v. IsRounded m w v (removals (ready_turn m copied most w used).steps))
  ready_goes w used is =
      let first = first_course m copied most w used in
      cond_both (has_members m w) (and_then m w first (behind_first w used)) (course [] used Through) (λ (c : Course O). Goes m w c (λ v. IsRounded m w v (removals c.steps)))
      (λ some. rounded_then w first (behind_first w used) (first_goes w used is some) (λ v running. nodes_go m lawful keeps (most - removals first.steps) v first.used running))
      (λ empty. goes_none m w used (λ v. IsRounded m w v 0) (record { running = is; less = omega arith }))

  abbrev logging : World O → ℕ → Course O
  logging w used = identities m (readied m copied most w) w used

  turn_rounds : (w : World O) (used : ℕ) → IsRunning m w → Goes m w (turn_course m copied most w used) (λ v. IsRounded m w v (removals (turn_course m copied most w used).steps))
  turn_rounds w used is =
      let none = (none_identities m (readied m copied most w) w used).removed in
      rounded_then w (logging w used) (λ v used. ready_turn m copied most v used)
      (goes_weaker m w (logging w used) (λ v. IsRounded m w v 0) (λ v. IsRounded m w v (removals (logging w used).steps)) (λ v done. record { running = done.running; less = omega (arith, done.less, none) }) (readied_rounds m copied lawful keeps alone most w used is))
      (λ v running. ready_goes v (logging w used).used running)

  -- a turn may be taken
  pub turn_goes : (w : World O) (used : ℕ) → IsRunning m w → Goes m w (turn_course m copied most w used) (IsRunning m)
  turn_goes w used is = goes_weaker m w (turn_course m copied most w used) (λ v. IsRounded m w v (removals (turn_course m copied most w used).steps)) (IsRunning m) (λ v done. done.running) (turn_rounds w used is)

  -- a turn leaves less to do, and removes no more than that
  record IsTurned (w : World O) (count : ℕ) (v : World O) : Type 0 where
    running : IsRunning m v
    less : left_in m v < left_in m w
    removed : left_in m v + count ≤ left_in m w

  module _ (some_in : 0 < most) where
    -- where nothing stops it some node is removed
    abbrev RemovesSome : Course O → Type 0
    RemovesSome c = c.stop ≡ Through → 1 ≤ removals c.steps

    first_some : (w : World O) (used : ℕ) → IsRunning m w → IsTrue (has_members m w) → RemovesSome (first_course m copied most w used)
    first_some w used is some =
        cond_both (is_next_due m copied w) (round_course m copied most w used) (install_course m copied w used) RemovesSome
        (λ due through. let many = round_some m lawful w is.sound copied due most some_in in omega (arith, many, round_removes m copied most w))
        (λ off through. let one = install_removes_one m copied w used some through in omega (arith, one))

    ready_some : (w : World O) (used : ℕ) → IsRunning m w → IsTrue (has_members m w) → RemovesSome (ready_turn m copied most w used)
    ready_some w used is some =
        let first = first_course m copied most w used in
        let rest = behind_first w used (run m w first.steps) first.used in
        subst RemovesSome (sym (cond-true (has_members m w) (and_then m w first (behind_first w used)) (course [] used Through) some))
        (behind_both RemovesSome first rest first.stop
        (λ on through. let one = first_some w used is some (through_is first.stop on) in omega (arith, one, removals-append first.steps rest.steps))
        (λ ends through. absurd (both_ways _ ends (ap is_through through))))

    -- what is logged leaves the members
    still_some : (w : World O) (used : ℕ) → IsRunning m w → IsTrue (has_members m w) → (logging w used).stop ≡ Through → IsTrue (has_members m (run m w (logging w used).steps))
    still_some w used is some through =
        let logged = (readied_goes m copied lawful keeps alone most w used is).through through in
        let one = some-gives (end_of w) w.graph some in
        let v = run m w (logging w used).steps in
        let there = logged.members one.0 one.2 in
        some-from (end_of v) v.graph one.0 (below m lawful v logged.running.sound one.0 there) there

    turn_some : (w : World O) (used : ℕ) → IsRunning m w → IsTrue (has_members m w) → RemovesSome (turn_course m copied most w used)
    turn_some w used is some =
        let first = logging w used in
        let v = run m w first.steps in
        let rest = ready_turn m copied most v first.used in
        behind_both RemovesSome first rest first.stop
        (λ on through.
        let first_through = through_is first.stop on in
        let logged = (readied_goes m copied lawful keeps alone most w used is).through first_through in
        let one = ready_some v first.used logged.running (still_some w used is some first_through) through in
        omega (arith, one, removals-append first.steps rest.steps))
        (λ ends through. absurd (both_ways _ ends (ap is_through through)))

    next_goes : (w : World O) (used : ℕ) → IsRunning m w → IsTrue (has_members m w) → Goes m w (turn_course m copied most w used) (IsTurned w (removals (turn_course m copied most w used).steps))
    next_goes w used is some =
        let turn = turn_course m copied most w used in
        let goes = turn_rounds w used is in
        record {
          allowed = goes.allowed;
          through = λ through.
              let done = goes.through through in
              let one = turn_some w used is some through in
              record { running = done.running; less = omega (arith, done.less, one); removed = done.less };
        }

    nothing_left : (w : World O) → left_in m w ≤ 0 → IsFalse (has_members m w)
    nothing_left w few = false_from_ne_true _ (λ some. let one = some-gives (end_of w) w.graph some in absurd (omega (arith, few, count_one (end_of w) w.graph one.0 one.1 one.2)))

    -- as many turns as there is left to do are enough
    turns_go : (n : ℕ) (w : World O) (used : ℕ) → IsRunning m w → left_in m w ≤ n → Goes m w (turns m copied most n w used) IsDrained
    turns_go zero w used is few = goes_none m w used IsDrained (none_left m copied lawful keeps alone w is (nothing_left w few))
    turns_go (suc n) w used is few =
        let first = turn_course m copied most w used in
        goes_if m w (has_members m w) (and_then m w first (λ v used. turns m copied most n v used)) (course [] used Through) IsDrained
        (λ some. goes_then m w first (λ v used. turns m copied most n v used) (IsTurned w (removals first.steps)) IsDrained (next_goes w used is some)
        (λ v done. turns_go n v first.used done.running (omega (arith, done.less, few))))
        (λ none. goes_none m w used IsDrained (none_left m copied lawful keeps alone w is none))

    abbrev most_left : World O → ℕ
    most_left w = count_below (end_of w) w.graph + dirty_in m w

    left_low : (w : World O) → left_in m w ≤ most_left w
    left_low w = omega (arith, plain_below m w)

    pub all_turns_go : (w : World O) (used : ℕ) → IsRunning m w → Goes m w (all_turns m copied most w used) IsDrained
    all_turns_go w used is = turns_go (most_left w) w used is (left_low w)

    -- a turn that is cut removes one node at most
    abbrev RemovesFew : Course O → Type 0
    RemovesFew c = IsFalse (is_through c.stop) → removals c.steps ≤ 1

    first_cut : (w : World O) (used : ℕ) → RemovesFew (first_course m copied most w used)
    first_cut w used = cond_both (is_next_due m copied w) (round_course m copied most w used) (install_course m copied w used) RemovesFew (λ due cut. absurd (both_ways _ cut refl)) (λ off cut. (install_removes m copied w used).0)

    ready_cut : (w : World O) (used : ℕ) → RemovesFew (ready_turn m copied most w used)
    ready_cut w used =
        let first = first_course m copied most w used in
        let v = run m w first.steps in
        let n = most - removals first.steps in
        cond_both (has_members m w) (and_then m w first (behind_first w used)) (course [] used Through) RemovesFew
        (λ some. behind_both RemovesFew first (workless_nodes m n v first.used) first.stop (λ on cut. absurd (both_ways _ cut (ap is_through (nodes_through m n v first.used)))) (λ ends cut. first_cut w used ends))
        (λ empty cut. absurd (both_ways _ cut refl))

    cut_removes : (w : World O) (used : ℕ) → RemovesFew (turn_course m copied most w used)
    cut_removes w used =
        let first = logging w used in
        let rest = ready_turn m copied most (run m w first.steps) first.used in
        let none = (none_identities m (readied m copied most w) w used).removed in
        behind_both RemovesFew first rest first.stop
        (λ on cut. let few = ready_cut (run m w first.steps) first.used cut in omega (arith, few, none, removals-append first.steps rest.steps))
        (λ ends cut. omega (arith, none))

    -- turns remove no more nodes than there is left to do
    turns_remove : (n : ℕ) (w : World O) (used : ℕ) → IsRunning m w → removals (turns m copied most n w used).steps ≤ left_in m w
    turns_remove zero w used is = omega arith
    turns_remove (suc n) w used is =
        let first = turn_course m copied most w used in
        let v = run m w first.steps in
        cond_both (has_members m w) (and_then m w first (λ v used. turns m copied most n v used)) (course [] used Through) (λ (c : Course O). removals c.steps ≤ left_in m w)
        (λ some. behind_both (λ (c : Course O). removals c.steps ≤ left_in m w) first (turns m copied most n v first.used) first.stop
        (λ on.
        let done = (next_goes w used is some).through (through_is first.stop on) in
        omega (arith, removals-append first.steps (turns m copied most n v first.used).steps, done.removed, turns_remove n v first.used done.running))
        (λ ends.
        let one = some-gives (end_of w) w.graph some in
        omega (arith, cut_removes w used ends, count_one (end_of w) w.graph one.0 one.1 one.2)))
        (λ none. omega arith)

    pub all_turns_remove : (w : World O) (used : ℕ) → IsRunning m w → removals (all_turns m copied most w used).steps ≤ count_below (end_of w) w.graph + dirty_in m w
    all_turns_remove w used is = omega (arith, turns_remove (most_left w) w used is, left_low w)

    turns_on : (n : ℕ) (w : World O) (used : ℕ) → IsTrue (has_members m w) → turns m copied most (suc n) w used ≡ and_then m w (turn_course m copied most w used) (λ v used. turns m copied most n v used)
    turns_on n w used some = cond-true (has_members m w) (and_then m w (turn_course m copied most w used) (λ v used. turns m copied most n v used)) (course [] used Through) some

    turns_end : (n : ℕ) (w : World O) (used : ℕ) → IsFalse (has_members m w) → turns m copied most n w used ≡ course [] used Through
    turns_end zero w used none = refl
    turns_end (suc n) w used none = cond-false (has_members m w) (and_then m w (turn_course m copied most w used) (λ v used. turns m copied most n v used)) (course [] used Through) none

    -- so many turns and more are the same course
    turns_same : (n k : ℕ) (w : World O) (used : ℕ) → IsRunning m w → left_in m w ≤ n → left_in m w ≤ k → turns m copied most n w used ≡ turns m copied most k w used
    turns_same zero k w used is few enough = sym (turns_end k w used (nothing_left w few))
    turns_same (suc n) zero w used is enough few = turns_end (suc n) w used (nothing_left w few)
    turns_same (suc n) (suc k) w used is enough also = elim (cases_Bool (has_members m w)) [
      | inl some ↦
          let first = turn_course m copied most w used in
          turns_on n w used some
          ∙ then_same m w first (λ v used. turns m copied most n v used) (λ v used. turns m copied most k v used) (λ through.
          let done = (next_goes w used is some).through through in
          turns_same n k (run m w first.steps) first.used done.running (omega (arith, enough, done.less)) (omega (arith, also, done.less)))
          ∙ sym (turns_on k w used some)
      | inr none ↦ turns_end (suc n) w used none ∙ sym (turns_end (suc k) w used none)
    ]

    -- where there is none
    pub all_turns_none : (w : World O) (used : ℕ) → IsFalse (has_members m w) → all_turns m copied most w used ≡ course [] used Through
    all_turns_none w used none = turns_end (most_left w) w used none

    none_first : (w : World O) (used : ℕ) (next : World O → ℕ → Course O) → and_then m w (course [] used Through) next ≡ next w used
    unfolding run
    none_first w used next = refl

    -- a turn where there is none
    turn_empty : (w : World O) (used : ℕ) → IsRunning m w → IsFalse (has_members m w) → turn_course m copied most w used ≡ course [] used Through
    turn_empty w used is none =
        let off : (n : ℕ) → IsTrue (w.graph n) → ⊥ = λ n there. both_ways _ none (some-from (end_of w) w.graph n (below m lawful w is.sound n there) there) in
        ap (λ (l : List ℕ). and_then m w (identities m l w used) (λ v used. ready_turn m copied most v used)) (readied_none m copied most w off)
        ∙ none_first w used (λ v used. ready_turn m copied most v used)
        ∙ cond-false (has_members m w) (and_then m w (first_course m copied most w used) (behind_first w used)) (course [] used Through) none

    -- all turns are one, and all turns again
    pub all_turns_again : (w : World O) (used : ℕ) → IsRunning m w → all_turns m copied most w used ≡ and_then m w (turn_course m copied most w used) (λ v used. all_turns m copied most v used)
    all_turns_again w used is = elim (cases_Bool (has_members m w)) [
      | inl some ↦
          let n = most_left w in
          let low = left_low w in
          let first = turn_course m copied most w used in
          turns_same n (suc n) w used is low (omega (arith, low))
          ∙ turns_on n w used some
          ∙ then_same m w first (λ v used. turns m copied most n v used) (λ v used. all_turns m copied most v used) (λ through.
          let v = run m w first.steps in
          let done = (next_goes w used is some).through through in
          turns_same n (most_left v) v first.used done.running (omega (arith, done.less, low)) (left_low v))
      | inr none ↦
          turns_end (most_left w) w used none ∙ sym (turns_end (most_left w) w used none) ∙ sym (none_first w used (λ v used. all_turns m copied most v used))
          ∙ ap (λ (c : Course O). and_then m w c (λ v used. all_turns m copied most v used)) (sym (turn_empty w used is none))
    ]

  -- What holds of each course of a kind, from a world in which calls are made, holds of a turn and of all turns: of none, of a node's
  -- last steps, of the identity writes before them, of a round, of what is logged before a turn, and of one such course after the other.
  module _ (Q : World O → Course O → Type 0) (none : (w : World O) (used : ℕ) → Q w (course [] used Through))
      (finish : (w : World O) (used c : ℕ) → IsRunning m w → IsTrue (w.graph c) → IsFalse (must_log m copied w) → Q w (course (finish_steps m w) used Through))
      (log : (w : World O) (used c : ℕ) → IsRunning m w → IsTrue (w.graph c) → IsTrue (must_log m copied w) → Q w (identities m (others m copied w) w used))
      (then : (w : World O) (first : Course O) (next : World O → ℕ → Course O) (P : World O → Type 0) → Goes m w first P → Q w first → ((v : World O) → P v → Q v (next v first.used)) → Q w (and_then m w first next))
      (round : (w : World O) (used : ℕ) → IsRunning m w → Q w (round_course m copied most w used))
      (ready : (w : World O) (used : ℕ) → IsRunning m w → Q w (logging w used)) where
    by_first : (w : World O) (used : ℕ) → IsRunning m w → Q w (first_course m copied most w used)
    by_first w used is =
        cond_both (is_next_due m copied w) (round_course m copied most w used) (install_course m copied w used) (Q w) (λ due. round w used is) (λ off. by_install m copied lawful keeps alone Q none finish log then w used is)

    by_ready : (w : World O) (used : ℕ) → IsRunning m w → Q w (ready_turn m copied most w used)
    by_ready w used is =
        let first = first_course m copied most w used in
        cond_both (has_members m w) (and_then m w first (behind_first w used)) (course [] used Through) (Q w)
        (λ some. then w first (behind_first w used) (λ v. IsRounded m w v (removals first.steps)) (first_goes w used is some) (by_first w used is)
        (λ v done. by_nodes m lawful keeps copied Q none finish then (most - removals first.steps) v first.used done.running))
        (λ empty. none w used)

    pub by_turn : (w : World O) (used : ℕ) → IsRunning m w → Q w (turn_course m copied most w used)
    by_turn w used is =
        then w (logging w used) (λ v used. ready_turn m copied most v used) (λ v. IsRounded m w v 0) (readied_rounds m copied lawful keeps alone most w used is) (ready w used is) (λ v done. by_ready v (logging w used).used done.running)

    by_turns : 0 < most → (n : ℕ) (w : World O) (used : ℕ) → IsRunning m w → Q w (turns m copied most n w used)
    by_turns some_in zero w used is = none w used
    by_turns some_in (suc n) w used is =
        let first = turn_course m copied most w used in
        cond_both (has_members m w) (and_then m w first (λ v used. turns m copied most n v used)) (course [] used Through) (Q w)
        (λ some. then w first (λ v used. turns m copied most n v used) (IsTurned w (removals first.steps)) (next_goes some_in w used is some) (by_turn w used is) (λ v done. by_turns some_in n v first.used done.running))
        (λ empty. none w used)

    pub by_all_turns : 0 < most → (w : World O) (used : ℕ) → IsRunning m w → Q w (all_turns m copied most w used)
    by_all_turns some_in w used is = by_turns some_in (most_left some_in w) w used is
