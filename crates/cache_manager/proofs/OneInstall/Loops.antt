-- An install logs and is an install again, or it is a node's last steps.
use Rattle.std.proofs.Common.{◌≡◌, ◌∙◌, sym, ap, ℕ, zero, suc, ◌≤◌, [], refl, arith, inl, inr}
use Rattle.std.specs.Prelude.{IsTrue, IsFalse}
use Rattle.std.proofs.lemmas.Bool.{cases_Bool, cond-true, cond-false}
use Rattle.oper_core.specs.Meaning.{Meaning, IsLawful}
use Rattle.install_order.specs.NodeLaws.{some-from}
use Rattle.explain_core.specs.World.{World, run, end_of}
use Rattle.running_store.specs.Courses.Laws.{behind_stopped, through_is}
use Rattle.running_store.specs.Courses.{Course, and_then, behind, course, is_through}
use Rattle.cache_manager.specs.InstallCourses.{finish_steps, has_members, identities, install_course, must_log, others, rounds}
use Rattle.running_store.specs.Courses.Stop.{Through}
use Rattle.running_store.specs.Running.{IsRunning, KeepsSound}
use Rattle.cache_manager.proofs.Counts.{count_at_most}
use Rattle.cache_manager.proofs.OneInstall.Goes.{few_left, others_go, some_logged}
use Rattle.cache_manager.proofs.NextNode.Least.{below}
use Rattle.cache_manager.proofs.Plain.{is_plain, plain_in}
use Rattle.cache_manager.proofs.NextNode.WorkOf.{AreAlone}

-- two courses after a third are one if they are where that is not stopped
pub then_same : {O : Type 0} (m : Meaning O) (w : World O) (first : Course O) (next other : World O → ℕ → Course O)
    → (first.stop ≡ Through → next (run m w first.steps) first.used ≡ other (run m w first.steps) first.used) → and_then m w first next ≡ and_then m w first other
then_same {O} m w first next other same = elim (cases_Bool (is_through first.stop)) [
  | inl through ↦ ap (λ (c : Course O). behind first c first.stop) (same (through_is first.stop through))
  | inr stopped ↦ behind_stopped first (next (run m w first.steps) first.used) first.stop stopped ∙ sym (behind_stopped first (other (run m w first.steps) first.used) first.stop stopped)
]

module _ {O : Type 0} (m : Meaning O) (copied : ℕ) (lawful : IsLawful m) (keeps : KeepsSound m) (alone : AreAlone) where
  abbrev logging : World O → ℕ → Course O
  logging w used = identities m (others m copied w) w used

  -- a round that logs
  rounds_log : (n : ℕ) (w : World O) (used : ℕ) → IsTrue (must_log m copied w) → rounds m copied (suc n) w used ≡ and_then m w (logging w used) (λ v used. rounds m copied n v used)
  rounds_log n w used must = cond-true (must_log m copied w) (and_then m w (logging w used) (λ v used. rounds m copied n v used)) (course (finish_steps m w) used Through) must

  -- the last one
  rounds_finish : (n : ℕ) (w : World O) (used : ℕ) → IsFalse (must_log m copied w) → rounds m copied n w used ≡ course (finish_steps m w) used Through
  rounds_finish zero w used may = refl
  rounds_finish (suc n) w used may = cond-false (must_log m copied w) (and_then m w (logging w used) (λ v used. rounds m copied n v used)) (course (finish_steps m w) used Through) may

  -- it is the same course for each number of rounds that is enough
  rounds_same : (n k : ℕ) (w : World O) (used c : ℕ) → IsRunning m w → IsTrue (w.graph c) → plain_in m w ≤ n → plain_in m w ≤ k → rounds m copied n w used ≡ rounds m copied k w used
  rounds_same zero k w used c is there few enough = sym (rounds_finish k w used (few_left m copied lawful keeps alone w c is there few))
  rounds_same (suc n) zero w used c is there enough few = rounds_finish (suc n) w used (few_left m copied lawful keeps alone w c is there few)
  rounds_same (suc n) (suc k) w used c is there enough also = elim (cases_Bool (must_log m copied w)) [
    | inl must ↦ rounds_log n w used must
        ∙ then_same m w (logging w used) (λ v used. rounds m copied n v used) (λ v used. rounds m copied k v used) (λ through.
        let logged = (others_go m copied lawful keeps alone w used c is there must).through through in
        let some = some_logged m copied lawful keeps alone w is must in
        rounds_same n k (run m w (logging w used).steps) (logging w used).used c logged.running (logged.members c there) (omega (arith, enough, some, logged.plain)) (omega (arith, also, some, logged.plain)))
        ∙ sym (rounds_log k w used must)
    | inr may ↦ rounds_finish (suc n) w used may ∙ sym (rounds_finish (suc k) w used may)
  ]

  has_some : (w : World O) (c : ℕ) → IsRunning m w → IsTrue (w.graph c) → IsTrue (has_members m w)
  has_some w c is there = some-from (end_of w) w.graph c (below m lawful w is.sound c there) there

  install_is : (w : World O) (used : ℕ) → IsTrue (has_members m w) → install_course m copied w used ≡ rounds m copied m.objects w used
  install_is w used some = cond-true (has_members m w) (rounds m copied m.objects w used) (course [] used Through) some

  -- the next node may not be finished: an install logs, and begins again
  pub install_logs : (w : World O) (used c : ℕ) → IsRunning m w → IsTrue (w.graph c) → IsTrue (must_log m copied w)
      → install_course m copied w used ≡ and_then m w (identities m (others m copied w) w used) (λ v used. install_course m copied v used)
  install_logs w used c is there must =
      let most = count_at_most m.objects (is_plain w) in
      install_is w used (has_some w c is there)
      ∙ rounds_same m.objects (suc m.objects) w used c is there most (omega (arith, most))
      ∙ rounds_log m.objects w used must
      ∙ then_same m w (logging w used) (λ v used. rounds m copied m.objects v used) (λ v used. install_course m copied v used) (λ through.
      let logged = (others_go m copied lawful keeps alone w used c is there must).through through in
      sym (install_is (run m w (logging w used).steps) (logging w used).used (has_some (run m w (logging w used).steps) c logged.running (logged.members c there))))

  -- it may
  pub install_finishes : (w : World O) (used c : ℕ) → IsRunning m w → IsTrue (w.graph c) → IsFalse (must_log m copied w) → install_course m copied w used ≡ course (finish_steps m w) used Through
  install_finishes w used c is there may = install_is w used (has_some w c is there) ∙ rounds_finish m.objects w used may

  -- there is none
  pub install_none : (w : World O) (used : ℕ) → IsFalse (has_members m w) → install_course m copied w used ≡ course [] used Through
  install_none w used none = cond-false (has_members m w) (rounds m copied m.objects w used) (course [] used Through) none
