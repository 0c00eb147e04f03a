-- Numbers are moved from list to list.
use Rattle.std.proofs.Common.{◌≡◌, ℕ}
use Rattle.std.specs.Prelude.{IsTrue, ◌↔◌, ◌⊎◌}
use Rattle.oper_core.specs.State.{is_among}
use Rattle.number_lists.specs.Lists.{Lists, list_at, AreAsMany}

-- what was in the two lists is in them, and no other list has changed
pub record IsPouring (old : Lists) (from to : ℕ) (now : Lists) : Type 0 where
  pub all : (k : ℕ) → (IsTrue (is_among k (list_at now.lists to)) ⊎ IsTrue (is_among k (list_at now.lists from))) ↔ (IsTrue (is_among k (list_at old.lists to)) ⊎ IsTrue (is_among k (list_at old.lists from)))
  pub others : (j : ℕ) → (j ≡ from → ⊥) → (j ≡ to → ⊥) → list_at now.lists j ≡ list_at old.lists j
  pub same : AreAsMany old now
