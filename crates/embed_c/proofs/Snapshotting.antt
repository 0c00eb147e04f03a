-- A session with a snapshot, and without.
use Rattle.std.proofs.Common.{◌≡◌, ℕ, List, Option, None, Some, subst, sym}
use Rattle.transactions.specs.declared.snapshot.Snapshot.{Snapshot}
use Rattle.embed_c.specs.Answers.{alone}
use Rattle.embed_c.specs.Calls.{DoesNothing, IsCalled, TellsLength}
use Rattle.embed_c.specs.Snapshots.{DoesRecall, HasKept, KeepsFor, RecallsFor, told_recalled}
use Rattle.embed_c.specs.declared.session.Session.{Session}

module _ (old new : Session) (answer : ℕ) where
  module _ (covers : Snapshot → Type 0) where
    pub keeps_none : (o : Option Snapshot) → o ≡ None → DoesNothing (alone 26) old new answer → KeepsFor covers o old new answer
    keeps_none o none done = subst (λ (q : Option Snapshot). KeepsFor covers q old new answer) (sym none) done

    pub keeps : (o : Option Snapshot) (s : Snapshot) → o ≡ Some s → HasKept covers s old new answer → KeepsFor covers o old new answer
    keeps o s some kept = subst (λ (q : Option Snapshot). KeepsFor covers q old new answer) (sym some) kept

  module _ (object : ℕ) (before after : List ℕ) (long : ℕ) where
    pub recalls_none : (o : Option Snapshot) → o ≡ None → DoesNothing (alone 26) old new answer → RecallsFor object before after long o old new answer
    recalls_none o none done = subst (λ (q : Option Snapshot). RecallsFor object before after long q old new answer) (sym none) done

    pub recalls : (o : Option Snapshot) (s : Snapshot) → o ≡ Some s → IsCalled told_recalled (λ old new made. DoesRecall s object before after old new made × TellsLength made long) old new answer → RecallsFor object before after long o old new answer
    recalls o s some called = subst (λ (q : Option Snapshot). RecallsFor object before after long q old new answer) (sym some) called
