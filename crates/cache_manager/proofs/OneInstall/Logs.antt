-- An install and all turns log different objects that could be logged, and where nothing is copied fewer than those.
use Rattle.std.proofs.Common.{◌≡◌, ◌<◌, ℕ, false, List, [], ◌∷◌, refl, arith, inl, inr}
use Rattle.std.specs.Prelude.{All, IsTrue, IsFalse, nat_eq, ◌==◌}
use Rattle.std.specs.List.{AllByRecursion, IsDistinct}
use Rattle.std.proofs.lemmas.Bool.{or_left, or_right, or_parts, and_parts, eq-eqb}
use Rattle.std.proofs.lemmas.List.Elements.{All-nil, All-cons}
use Rattle.oper_core.specs.State.{is_among}
use Rattle.oper_core.specs.Meaning.{Meaning, IsLawful}
use Rattle.explain_core.specs.Turns.{is_dirty_in}
use Rattle.explain_core.specs.World.{World, Step}
use Rattle.running_store.specs.Courses.{Course, and_then, cached_length}
use Rattle.cache_manager.specs.InstallCourses.{identities, work, others, finish_steps, must_log, install_course, all_turns, logged_in, readied, round_steps}
use Rattle.cache_manager.specs.FewLogged.{AreFewLogged}
use Rattle.running_store.specs.Running.{IsRunning, KeepsSound}
use Rattle.cache_manager.proofs.ToLog.FewLogged.{tally_finish, none_finish, none_round, tally_none_here, tally_round, tally_identities, fewer_others}
use Rattle.cache_manager.proofs.Goes.{Goes}
use Rattle.cache_manager.proofs.OneInstall.Goes.{by_install, some_work, work_may_be_logged}
use Rattle.cache_manager.proofs.Lists.{AreApart, some_among as listed_some, but_longest_among, but_longest_apart}
use Rattle.cache_manager.proofs.Plain.{is_plain, plain_below}
use Rattle.cache_manager.proofs.OneRound.Goes.{MayRound}
use Rattle.cache_manager.proofs.MadeReady.Goes.{readied_fewer, readied_tally}
use Rattle.cache_manager.proofs.ToLog.Tally.{Tally, IsFewer, tally_then, tally_count, fewer_then}
use Rattle.cache_manager.proofs.FullDrain.Turns.{by_all_turns}
use Rattle.cache_manager.proofs.NextNode.WorkOf.{AreAlone, listed_apart}

-- what the steps log are few
pub record LogsFew {O : Type 0} (m : Meaning O) (copied : ℕ) (w : World O) (steps : List (Step O)) : Type 0 where
  pub tally : Tally m w steps
  pub fewer : copied ≡ 0 → IsFewer m w steps

module _ {O : Type 0} (m : Meaning O) (copied : ℕ) where
  few_none : (w : World O) → LogsFew m copied w []
  few_none w = record { tally = tally_none_here m w; fewer = λ none. inl refl }

  few_then : (w : World O) (first : Course O) (next : World O → ℕ → Course O) (P : World O → Type 0) → Goes m w first P → LogsFew m copied w first.steps → ((v : World O) → P v → LogsFew m copied v (next v first.used).steps) → LogsFew m copied w (and_then m w first next).steps
  few_then w first next P goes few more = record {
    tally = tally_then m w first next P goes few.tally (λ v there. (more v there).tally);
    fewer = λ none. fewer_then m w first next P goes few.tally (few.fewer none) (λ v there. (more v there).fewer none);
  }

  few_finish : (w : World O) → LogsFew m copied w (finish_steps m w)
  few_finish w = record { tally = tally_finish m w; fewer = λ none. inl (none_finish m w) }

  few_round : (most : ℕ) (w : World O) → LogsFew m copied w (round_steps m copied most w)
  few_round most w = record { tally = tally_round m copied most w; fewer = λ none. inl (none_round m copied most w) }

  module _ (lawful : IsLawful m) (keeps : KeepsSound m) (alone : AreAlone) where
    few_others : (w : World O) (used c : ℕ) → IsRunning m w → IsTrue (w.graph c) → IsTrue (must_log m copied w) → LogsFew m copied w (identities m (others m copied w) w used).steps
    few_others w used c is there must =
        let apart = listed_apart m lawful w is.sound in
        let each = work_may_be_logged m copied lawful keeps alone w c is there must in
        record {
          tally = tally_identities m keeps (others m copied w) w used is (but_longest_apart copied (cached_length m w) (work m w) apart) (λ y among. each y (but_longest_among copied (cached_length m w) (work m w) y among));
          fewer = λ none. fewer_others m keeps copied w used (work m w) none is apart (let one = some_work m copied lawful keeps alone w must in listed_some one.0 (work m w) one.1) each;
        }

    few_readied : (most : ℕ) (w : World O) (used : ℕ) → IsRunning m w → LogsFew m copied w (identities m (readied m copied most w) w used).steps
    few_readied most w used is = record { tally = readied_tally m copied lawful keeps alone most w used is; fewer = readied_fewer m copied lawful keeps alone most w used is }

    -- in the terms of the contracts
    distinct : (objects : List ℕ) → AreApart objects → IsDistinct nat_eq objects
    unfolding IsDistinct
    distinct [] apart = tt
    distinct (x ∷ objects) apart = (others_differ objects apart.0, distinct objects apart.1)
      where
        others_differ : (ys : List ℕ) → IsFalse (is_among x ys) → AllByRecursion (λ y. nat_eq x y ≡ false) ys
        others_differ [] none = tt
        others_differ (y ∷ ys) none = let parts = or_parts (x == y) (is_among x ys) none in (parts.0, others_differ ys parts.1)

    all_dirty : (w : World O) (objects : List ℕ) → ((x : ℕ) → IsTrue (is_among x objects) → IsTrue (is_plain w x)) → All (λ x. IsTrue (is_dirty_in w x)) objects
    all_dirty w [] each = All-nil (λ x. IsTrue (is_dirty_in w x))
    all_dirty w (x ∷ objects) each = All-cons (λ x. IsTrue (is_dirty_in w x)) x objects (and_parts (is_dirty_in w x) _ (each x (or_left (x == x) (is_among x objects) (eq-eqb x x refl)))).0
        (all_dirty w objects (λ y there. each y (or_right (y == x) (is_among y objects) there)))

    are_few : (w : World O) (steps : List (Step O)) → LogsFew m copied w steps → AreFewLogged m copied w (logged_in steps)
    are_few w steps few = record {
      apart = distinct (logged_in steps) few.tally.apart;
      dirty = all_dirty w (logged_in steps) (λ x there. (few.tally.logged x there).2);
      few = let most = tally_count m w steps few.tally in omega (arith, most, plain_below m w);
      fewer = λ none. elim (few.fewer none) [ inl nothing ↦ inl nothing | inr less ↦ inr (omega (arith, less, plain_below m w)) ];
    }

    pub install_logging : (w : World O) (used : ℕ) → IsRunning m w → AreFewLogged m copied w (logged_in (install_course m copied w used).steps)
    install_logging w used is =
        are_few w (install_course m copied w used).steps (by_install m copied lawful keeps alone (λ w c. LogsFew m copied w c.steps) (λ w used. few_none w) (λ w used c is there may. few_finish w) few_others few_then w used is)

    pub turns_logging : MayRound m → (most : ℕ) → 0 < most → (w : World O) (used : ℕ) → IsRunning m w → AreFewLogged m copied w (logged_in (all_turns m copied most w used).steps)
    turns_logging rounds_may most some_in w used is =
        are_few w (all_turns m copied most w used).steps
        (by_all_turns m copied lawful keeps alone rounds_may most (λ w c. LogsFew m copied w c.steps) (λ w used. few_none w) (λ w used c is there may. few_finish w) few_others few_then (λ w used is. few_round most w) (few_readied most) some_in w used is)
