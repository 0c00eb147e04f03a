-- What is logged before a turn may be logged, and it leaves as much to do.
use Rattle.std.proofs.Common.{◌≡◌, ap, ℕ, ◌<◌, List, [], ◌∷◌, length, refl, arith, inl}
use Rattle.std.specs.Prelude.{IsTrue, IsFalse}
use Rattle.std.proofs.lemmas.Bool.{both_ways, cond_both, cond-false, and_parts, false_from_ne_true}
use Rattle.oper_core.specs.Meaning.{Meaning, IsLawful}
use Rattle.oper_core.specs.State.{is_among}
use Rattle.explain_core.specs.World.{World, end_of}
use Rattle.running_store.specs.Running.{IsRunning, KeepsSound}
use Rattle.cache_manager.specs.InstallCourses.{identities, must_log, others_of, readied, unready_nodes}
use Rattle.cache_manager.proofs.Goes.{Goes, goes_weaker}
use Rattle.cache_manager.proofs.IdentityWrite.Logging.{AreLogged, identities_goes}
use Rattle.cache_manager.proofs.Lists.{AreApart}
use Rattle.cache_manager.proofs.NextNode.WorkOf.{AreAlone}
use Rattle.cache_manager.proofs.OneRound.Goes.{IsRounded}
use Rattle.cache_manager.proofs.Plain.{is_plain}
use Rattle.cache_manager.proofs.MadeReady.Full.{none_unready}
use Rattle.cache_manager.proofs.MadeReady.Nodes.{AreUnready, names_apart, names_unready, one_left, others_apart, others_plain}
use Rattle.cache_manager.proofs.ToLog.FewLogged.{fewer_kept, tally_identities}
use Rattle.cache_manager.proofs.ToLog.Tally.{IsFewer, Tally}

module _ {O : Type 0} (m : Meaning O) (copied : ℕ) (lawful : IsLawful m) (keeps : KeepsSound m) (alone : AreAlone) (most : ℕ) where
  module _ (w : World O) (is : IsRunning m w) where
    abbrev names : List ℕ
    names = unready_nodes m copied most w

    apart : AreApart names
    apart = names_apart m copied lawful keeps alone w is.sound most (end_of w) 0

    unready : AreUnready m copied lawful keeps alone w is.sound names
    unready = names_unready m copied lawful keeps alone w is.sound most (end_of w) 0

    readied_apart : AreApart (readied m copied most w)
    readied_apart = cond_both (must_log m copied w) (others_of m copied w names) [] AreApart (λ must. others_apart m copied lawful keeps alone w is.sound names apart unready) (λ may. tt)

    readied_plain : (x : ℕ) → IsTrue (is_among x (readied m copied most w)) → (x < m.objects) × IsTrue (is_plain w x)
    readied_plain x = cond_both (must_log m copied w) (others_of m copied w names) [] (λ (l : List ℕ). IsTrue (is_among x l) → (x < m.objects) × IsTrue (is_plain w x))
        (λ must. others_plain m copied lawful keeps alone w is.sound names unready x) (λ may there. absurd (both_ways _ refl there))

  pub readied_goes : (w : World O) (used : ℕ) → IsRunning m w → Goes m w (identities m (readied m copied most w) w used) (AreLogged m w (length (readied m copied most w)))
  readied_goes w used is = identities_goes m keeps (readied m copied most w) w used is (readied_apart w is) (readied_plain w is)

  -- no node is removed
  pub readied_rounds : (w : World O) (used : ℕ) → IsRunning m w → let logging = identities m (readied m copied most w) w used in Goes m w logging (λ v. IsRounded m w v 0)
  readied_rounds w used is =
      goes_weaker m w (identities m (readied m copied most w) w used) (AreLogged m w (length (readied m copied most w))) (λ v. IsRounded m w v 0)
      (λ v logged. record { running = logged.running; less = omega (arith, logged.left) }) (readied_goes w used is)

  -- what is logged, in the terms of the bounds
  pub readied_tally : (w : World O) (used : ℕ) → IsRunning m w → Tally m w (identities m (readied m copied most w) w used).steps
  readied_tally w used is = tally_identities m keeps (readied m copied most w) w used is (readied_apart w is) (readied_plain w is)

  pub readied_fewer : (w : World O) (used : ℕ) → IsRunning m w → copied ≡ 0 → IsFewer m w (identities m (readied m copied most w) w used).steps
  readied_fewer w used is none =
      cond_both (must_log m copied w) (others_of m copied w (names w is)) [] (λ (l : List ℕ). IsFewer m w (identities m l w used).steps)
      (λ must. some (names w is) (apart w is) (unready w is)) (λ may. inl refl)
    where
      some : (ns : List ℕ) → AreApart ns → AreUnready m copied lawful keeps alone w is.sound ns → IsFewer m w (identities m (others_of m copied w ns) w used).steps
      some [] differ are = inl refl
      some (n ∷ ns) differ are =
          let left = one_left m copied lawful keeps alone w is.sound n ns differ are none in
          fewer_kept m keeps w used (others_of m copied w (n ∷ ns)) left.0 is (others_apart m copied lawful keeps alone w is.sound (n ∷ ns) differ are) (others_plain m copied lawful keeps alone w is.sound (n ∷ ns) are) left.1 left.2

module _ {O : Type 0} (m : Meaning O) (copied most : ℕ) (w : World O) where
  -- where the next node may be finished, nothing is logged first
  pub readied_may : IsFalse (must_log m copied w) → readied m copied most w ≡ []
  readied_may may = cond-false (must_log m copied w) (others_of m copied w (unready_nodes m copied most w)) [] may

  -- nor where there is none
  pub readied_none : ((n : ℕ) → IsTrue (w.graph n) → ⊥) → readied m copied most w ≡ []
  readied_none none =
      cond_both (must_log m copied w) (others_of m copied w (unready_nodes m copied most w)) [] (λ (l : List ℕ). l ≡ [])
      (λ must. ap (others_of m copied w) (none_unready m copied w (λ n. false_from_ne_true _ (λ is. none n (and_parts (w.graph n) _ is).0)) most (end_of w) 0)) (λ may. refl)
