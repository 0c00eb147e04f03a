-- A turn where nothing may be logged, as calls on parts that show a world take it.
use Rattle.std.proofs.Common.{◌≡◌, ◌∙◌, sym, subst, ap, ℕ, ◌<◌, ◌≤◌, Bool, true, false, List, [], ◌∷◌, length, refl, arith, nat_lt}
use Rattle.std.specs.Prelude.{IfOk, IsTrue, IsFalse, Ok, Err, OnOk, Result, max}
use Rattle.std.proofs.lemmas.Bool.{cond-false, lt-ltb}
use Rattle.disk_model.specs.Disk.{Disk}
use Rattle.disk_model.specs.declared.machine.FileNo.TheVariants.{Objects}
use Rattle.oper_core.specs.Meaning.{Meaning, IsLawful}
use Rattle.formats.specs.declared.params.Params.{Params}
use Rattle.write_graph.specs.Graph.{IsNodeNamed}
use Rattle.explain_core.specs.Turns.{free_gates, free_round, has_thin, thin_turn}
use Rattle.explain_core.specs.World.{AreAllowed, IsAllStable, Step, World, run}
use Rattle.standing.specs.Moments.{TakesSome}
use Rattle.running_store.specs.Courses.{removal_steps}
use Rattle.running_store.specs.Parts.{Volatile, VolatileShows}
use Rattle.running_store.specs.declared.store_err.StoreErr.{StoreErr}
use Rattle.cache_manager.specs.DueNodes.{NamesDue}
use Rattle.cache_manager.specs.InstallCourses.{removals}
use Rattle.cache_manager.specs.Thin.{IsLeastThin, IsWork, NamesThin}
use Rattle.cache_manager.proofs.Removal.Members.{free_removes}
use Rattle.cache_manager.proofs.ThinNode.Worlds.{has_one, no_thin, none_shown, removal_may, turn_removes, turn_rounds}

-- a list of no item, and one of one
pub none_in : (xs : List ℕ) → length xs ≡ 0 → xs ≡ []
none_in [] e = refl
none_in (x ∷ xs) e = absurd (omega (arith, e))

pub one_in : (xs : List ℕ) → 0 < length xs → length xs ≤ 1 → (x : ℕ) × (xs ≡ x ∷ [])
one_in [] some few = absurd (omega (arith, some))
one_in (x ∷ []) some few = (x, refl)
one_in (x ∷ y ∷ xs) some few = absurd (omega (arith, few))

pub max_left : (a b : ℕ) → a ≤ max a b
max_left a b = omega arith

-- a thin node that has an object to flush is due
pub thin_is_due : (it : Volatile) (n x : ℕ) (work : List ℕ) → IsLeastThin it n work → work ≡ x ∷ [] → NamesDue it 0 n
thin_is_due it n x work least is =
    let thin = least.least.0 in (
      x,
      record {
        minimal = (thin.0, thin.1.named, thin.1.no_edge);
        work = λ node named. subst (λ (l : List ℕ). IsWork it node l) is (least.is_work node named);
        fresh = λ y first lt. absurd (omega (arith, lt));
      },
    )

module _ {O : Type 0} (m : Meaning O) (lawful : IsLawful m) (p : Params) (d : Disk) (it : Volatile) (w : World O) (shows : VolatileShows m p d it w) (stable : IsAllStable w) (n : ℕ) (work : List ℕ)
    (least : IsLeastThin it n work) (most : ℕ) where
  some_thin : IsTrue (has_thin m w)
  some_thin = has_one m lawful p (d.reads Objects) it w shows.store shows.sound stable n work least

  -- it has nothing to flush
  module _ (none : work ≡ []) where
    abbrev node : ℕ → Bool
    node = least.least.0.0

    is_removal : thin_turn m most w ≡ removal_steps m node []
    is_removal = turn_removes m lawful p (d.reads Objects) it w shows.store shows.sound stable n work least most none node least.least.0.1.named

    pub removal_moments : (new : Disk) → ((s : ℕ → Bool) → TakesSome m p d new w (removal_steps m s [])) → TakesSome m p d new w (thin_turn m most w)
    removal_moments new each = subst (λ (l : List (Step O)). TakesSome m p d new w l) (sym is_removal) (each node)

    pub removal_shown : (new : Disk) (after : Volatile) → ((s : ℕ → Bool) → IsNodeNamed it.entries n s → AreAllowed m w (removal_steps m s []) → VolatileShows m p new after (run m w (removal_steps m s [])))
        → VolatileShows m p new after (run m w (thin_turn m most w))
    removal_shown new after done = subst (λ (l : List (Step O)). VolatileShows m p new after (run m w l)) (sym is_removal)
        (done node least.least.0.1.named (removal_may m lawful p (d.reads Objects) it w shows.store shows.sound stable n work least none node least.least.0.1.named))

    pub removal_count : (true ≡ has_thin m w) × (1 ≡ removals (thin_turn m most w))
    removal_count = (sym some_thin, ap (λ (l : List (Step O)). removals l) (sym is_removal))

  -- it has one object to flush
  module _ (x : ℕ) (one : work ≡ x ∷ []) (k : ℕ) (many : k ≡ max 1 most) where
    is_round : thin_turn m most w ≡ free_round m k w
    is_round = turn_rounds m lawful p (d.reads Objects) it w shows.store shows.sound stable n work least most x [] one ∙ ap (λ (j : ℕ). free_round m j w) (sym many)

    pub round_moments : (new : Disk) → TakesSome m p d new w (free_round m k w) → TakesSome m p d new w (thin_turn m most w)
    round_moments new some = subst (λ (l : List (Step O)). TakesSome m p d new w l) (sym is_round) some

    pub round_shown : (r : Result ℕ StoreErr) (new : Disk) (after : Volatile) → OnOk r (VolatileShows m p new after (run m w (free_round m k w))) → OnOk r (VolatileShows m p new after (run m w (thin_turn m most w)))
    round_shown r new after done = subst (λ (l : List (Step O)). OnOk r (VolatileShows m p new after (run m w l))) (sym is_round) done

    pub round_count : (r : Result ℕ StoreErr) → IfOk r (λ n. n ≡ length (free_gates m k w)) → IfOk r (λ n. 0 < n) → IfOk r (λ n. (nat_lt 0 n ≡ has_thin m w) × (n ≡ removals (thin_turn m most w)))
    round_count (Ok n) count some = (lt-ltb 0 n some ∙ sym some_thin, count ∙ sym (free_removes m k w) ∙ ap (λ (l : List (Step O)). removals l) (sym is_round))
    round_count (Err e) count some = tt

-- where the store has no thin node, a turn takes no step
module _ {O : Type 0} (m : Meaning O) (lawful : IsLawful m) (p : Params) (d : Disk) (it : Volatile) (w : World O) (shows : VolatileShows m p d it w) (stable : IsAllStable w) (none : (n : ℕ) → NamesThin it n → ⊥) (most : ℕ) where
  off : IsFalse (has_thin m w)
  off = no_thin m lawful p d it w shows stable none

  no_steps : thin_turn m most w ≡ []
  no_steps = cond-false (has_thin m w) _ _ off

  pub no_turn : VolatileShows m p d it (run m w (thin_turn m most w))
  no_turn = subst (λ (l : List (Step O)). VolatileShows m p d it (run m w l)) (sym no_steps) (none_shown m p d it w shows)

  pub no_count : (false ≡ has_thin m w) × (0 ≡ removals (thin_turn m most w))
  no_count = (sym off, ap (λ (l : List (Step O)). removals l) (sym no_steps))
