-- The steps of installs, turns and drains beside a copy of the slots may be taken while it is made.
use Rattle.std.proofs.Common.{◌≡◌, sym, subst, ℕ, ◌+◌, ◌<◌, Bool, true, false, List, [], ◌∷◌, ◌++◌, length, refl, arith, inl, inr, Option, None, Some}
use Rattle.std.specs.Prelude.{◌==◌, IsTrue, IsFalse, nat_lt, if◌then◌else◌}
use Rattle.std.specs.List.{AllByRecursion, list_any}
use Rattle.std.proofs.lemmas.Bool.{both_ways, or_left, or_parts, and_from, eq-eqb, lt-ltb, cases_Bool, not-true, not_from_false}
use Rattle.oper_core.specs.Meaning.{Meaning, IsLawful}
use Rattle.install_order.specs.Order.{IsNode}
use Rattle.oper_core.specs.State.{is_among}
use Rattle.explain_core.specs.Backup.{AreBeside, IsIdentityAt, IsOneIdentity}
use Rattle.explain_core.specs.History.{Member, with_lsn}
use Rattle.explain_core.specs.History.Member.{Command, Identity}
use Rattle.explain_core.specs.RoundGates.{Gate, gate_step, gates_of, removals_of}
use Rattle.explain_core.specs.Turns.{object_at, round_gates}
use Rattle.explain_core.specs.Sound.{IsSound}
use Rattle.explain_core.specs.World.{World, Step, end_of, graph_access, node_named, step, run, work_of}
use Rattle.explain_core.specs.World.Step.{Block_gate, Removal}
use Rattle.running_store.specs.Courses.Laws.{behind_both, through_is}
use Rattle.running_store.specs.Courses.{Course, and_then, waits, force_steps, is_identity_at, is_identity_some, removal_steps}
use Rattle.cache_manager.specs.EachStep.{each_force, each_identities}
use Rattle.cache_manager.specs.FreeSteps.{IsFree, free_beside}
use Rattle.cache_manager.specs.InstallCourses.{identities, is_stale, may_flush, must_log, others, next_node, readied, round_limit, round_steps, work, finish_steps, install_course, drain_course, turn_course}
use Rattle.running_store.specs.Running.{IsRunning, KeepsSound}
use Rattle.cache_manager.proofs.Goes.{Goes}
use Rattle.cache_manager.proofs.OneRound.DueWorlds.{passes_due}
use Rattle.cache_manager.proofs.OneInstall.Goes.{by_install}
use Rattle.cache_manager.proofs.Lists.{none_passes}
use Rattle.cache_manager.proofs.NextNode.Least.{next_is}
use Rattle.cache_manager.proofs.OneRound.NextDue.{each_gate}
use Rattle.cache_manager.proofs.OneRound.Goes.{MayRound}
use Rattle.cache_manager.proofs.FullDrain.Turns.{by_all_turns, by_turn}
use Rattle.cache_manager.proofs.NextNode.WorkOf.{AreAlone, all_the_node, listed_is}

module _ {O : Type 0} (m : Meaning O) (copied : ℕ) where
  beside_append : (w : World O) (xs ys : List (Step O)) → AreBeside m copied w xs → AreBeside m copied (run m w xs) ys → AreBeside m copied w (xs ++ ys)
  unfolding run
  beside_append w [] ys a b = b
  beside_append w (s ∷ xs) ys a b = (a.0, beside_append (step m w s) xs ys a.1 b)

  beside_then : (w : World O) (first : Course O) (next : World O → ℕ → Course O) (P : World O → Type 0) → Goes m w first P → AreBeside m copied w first.steps → ((v : World O) → P v → AreBeside m copied v (next v first.used).steps)
      → AreBeside m copied w (and_then m w first next).steps
  beside_then w first next P goes a b =
      let second = next (run m w first.steps) first.used in
      behind_both (λ (c : Course O). AreBeside m copied w c.steps) first second first.stop
      (λ on. beside_append w first.steps second.steps a (b (run m w first.steps) (goes.through (through_is first.stop on)))) (λ ends. a)

  -- an identity write
  identity_gives : (o : Option (Member O)) → IsTrue (is_identity_some o) → (y : ℕ) × (v : List ℕ) × (o ≡ Some (Identity y v))
  identity_gives None is = absurd (both_ways _ refl is)
  identity_gives (Some (Command op)) is = absurd (both_ways _ refl is)
  identity_gives (Some (Identity y v)) is = (y, v, refl)

  -- a force leaves the history
  force_history : (w : World O) → (run m w (force_steps m w)).history ≡ w.history
  unfolding run step
  force_history w = either (waits m w)
    where
      either : (b : Bool) → (run m w (if b then Block_gate ∷ [] else [])).history ≡ w.history
      either true = refl
      either false = refl

  module _ (lawful : IsLawful m) (keeps : KeepsSound m) (alone : AreAlone) where
    -- a node that flushes a copied object which is not stale is one identity write
    fresh_identity : (w : World O) → IsSound m w → (node : ℕ → Bool) → IsNode (graph_access m w) node → (x : ℕ) → work_of m w node x → IsFalse (is_stale m copied w x) → x < copied → IsOneIdentity w node
    fresh_identity w sound node is_node x due fresh low =
        let made : IsTrue (is_identity_at w.history (w.cache x).lsn) = elim (cases_Bool (is_identity_at w.history (w.cache x).lsn)) [
          | inl yes_made ↦ yes_made
          | inr none ↦ absurd (both_ways _ fresh (and_from (nat_lt x copied) _ (lt-ltb x copied low) (not_from_false _ none)))
        ] in
        let one = identity_gives (with_lsn w.history (w.cache x).lsn) made in
        ((w.cache x).lsn, one.0, all_the_node m lawful w sound x due.1 node alone is_node made due, (one.1, one.2))

    -- so is one that may be finished
    one_identity : (w : World O) (c : ℕ) → IsRunning m w → IsTrue (w.graph c) → IsFalse (must_log m copied w) → (x : ℕ) → IsTrue (is_among x (work m w)) → x < copied → IsOneIdentity w (next_node m w)
    one_identity w c is there may x among low =
        let fresh = none_passes (is_stale m copied w) (work m w) (or_parts (nat_lt 1 (length (work m w))) (list_any (is_stale m copied w) (work m w)) may).1 x among in
        fresh_identity w is.sound (next_node m w) (next_is m lawful w is.sound c there).minimal.0 x (listed_is m lawful w is.sound x among) fresh low

    same_identity : (w v : World O) (node : ℕ → Bool) → v.history ≡ w.history → IsOneIdentity w node → IsOneIdentity v node
    same_identity w v node same one = (one.0, one.1, one.2, subst (λ (h : List (Member O)). IsIdentityAt h one.0 one.1) (sym same) one.3)

    removal_beside : (w : World O) (node : ℕ → Bool) (objects : List ℕ) → ((x : ℕ) → IsTrue (is_among x objects) → x < copied → IsOneIdentity w node) → AreBeside m copied w (removal_steps m node objects)
    removal_beside w node [] each = (tt, tt)
    removal_beside w node (x ∷ objects) each = (each x (or_left (x == x) (is_among x objects) (eq-eqb x x refl)), (tt, tt))

    finish_beside : (w : World O) (c : ℕ) → IsRunning m w → IsTrue (w.graph c) → IsFalse (must_log m copied w) → AreBeside m copied w (finish_steps m w)
    finish_beside w c is there may =
        let v = run m w (force_steps m w) in
        beside_append w (force_steps m w) (removal_steps m (next_node m w) (work m w)) (free_beside m copied w (force_steps m w) (each_force m (IsFree copied) (λ v. tt) w))
        (removal_beside v (next_node m w) (work m w) (λ x among low. same_identity w v (next_node m w) (force_history w) (one_identity w c is there may x among low)))

    -- the gates of a round, and its removals
    beside_gates : (w v : World O) (gates : List Gate) → v.history ≡ w.history → AllByRecursion (λ g. g.object < copied → IsOneIdentity w g.node) gates → AreBeside m copied v (gates_of gates)
    unfolding step
    beside_gates w v [] same are = tt
    beside_gates w v (g ∷ gates) same are = ((λ low. same_identity w v g.node same (are.0 low)), beside_gates w (step m v (gate_step g)) gates same are.1)

    beside_removals : (v : World O) (gates : List Gate) → AreBeside m copied v (removals_of gates)
    beside_removals v [] = tt
    beside_removals v (g ∷ gates) = (tt, beside_removals (step m v (Removal g.node)) gates)

    round_beside : (most : ℕ) (w : World O) → IsRunning m w → AreBeside m copied w (round_steps m copied most w)
    round_beside most w is =
        let gates = round_gates m (may_flush m copied) most w in
        let v = run m w (force_steps m w) in
        let each = each_gate m (may_flush m copied) w (λ g. g.object < copied → IsOneIdentity w g.node)
        (λ n passes low.
        let due = passes_due m lawful w is.sound (may_flush m copied) n passes in
        fresh_identity w is.sound (node_named m w n) due.minimal.0 (object_at m w n) due.work (not-true _ due.flushes) low) most (end_of w) 0 in
        beside_append w (force_steps m w) (gates_of gates ++ removals_of gates) (free_beside m copied w (force_steps m w) (each_force m (IsFree copied) (λ v. tt) w))
        (beside_append v (gates_of gates) (removals_of gates) (beside_gates w v gates (force_history w) each) (beside_removals (run m v (gates_of gates)) gates))

    finishing : (w : World O) (used c : ℕ) → IsRunning m w → IsTrue (w.graph c) → IsFalse (must_log m copied w) → AreBeside m copied w (finish_steps m w)
    finishing w used c is there may = finish_beside w c is there may

    -- identity writes
    logged_beside : (objects : List ℕ) (w : World O) (used : ℕ) → AreBeside m copied w (identities m objects w used).steps
    logged_beside objects w used = free_beside m copied w (identities m objects w used).steps (each_identities m (IsFree copied) (λ v. tt) objects (λ x there value v. tt) w used)

    logging : (w : World O) (used c : ℕ) → IsRunning m w → IsTrue (w.graph c) → IsTrue (must_log m copied w) → AreBeside m copied w (identities m (others m copied w) w used).steps
    logging w used c is there must = logged_beside (others m copied w) w used

    readied_beside : (most : ℕ) (w : World O) (used : ℕ) → AreBeside m copied w (identities m (readied m copied most w) w used).steps
    readied_beside most w used = logged_beside (readied m copied most w) w used

    pub install_beside : (w : World O) (used : ℕ) → IsRunning m w → AreBeside m copied w (install_course m copied w used).steps
    install_beside w used is = by_install m copied lawful keeps alone (λ w c. AreBeside m copied w c.steps) (λ w used. tt) finishing logging beside_then w used is

    pub drain_beside : MayRound m → (w : World O) (used : ℕ) → IsRunning m w → AreBeside m copied w (drain_course m copied w used).steps
    drain_beside rounds_may w used is =
        by_all_turns m copied lawful keeps alone rounds_may (round_limit m) (λ w c. AreBeside m copied w c.steps) (λ w used. tt) finishing logging beside_then (λ w used is. round_beside (round_limit m) w is) (λ w used is. readied_beside (round_limit m) w used) (omega arith) w used is

    pub turn_beside : MayRound m → (most : ℕ) (w : World O) (used : ℕ) → IsRunning m w → AreBeside m copied w (turn_course m copied most w used).steps
    turn_beside rounds_may most w used is =
        by_turn m copied lawful keeps alone rounds_may most (λ w c. AreBeside m copied w c.steps) (λ w used. tt) finishing logging beside_then (λ w used is. round_beside most w is) (λ w used is. readied_beside most w used) w used is
