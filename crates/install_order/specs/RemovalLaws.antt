-- The nodes that are left where a set without an arc into it is taken out.
use Rattle.std.specs.Prelude.{◌≡◌, ℕ, Bool, IsTrue, IsFalse, ◌↔◌}
use Rattle.std.proofs.lemmas.Bool.{both_ways, false_from_ne_true}
use Rattle.install_order.specs.Digraph.{Walk, Joined, AreNodes, outside}
use Rattle.install_order.specs.Digraph.Walk.{Here, Then}

-- what leads into the set by a walk is in it
pub walk-in : (E : ℕ → ℕ → Type 0) (gone : ℕ → Bool) (o p : ℕ) → ((o p : ℕ) → E o p → IsTrue (gone p) → IsTrue (gone o)) → Walk E o p → IsTrue (gone p) → IsTrue (gone o)
walk-in E gone o p closed Here there = there
walk-in E gone o p closed (Then m q walk arc) there = walk-in E gone o m closed walk (closed m q arc there)

pub walk-outside : (E : ℕ → ℕ → Type 0) (gone : ℕ → Bool) (o p : ℕ) → ((o p : ℕ) → E o p → IsTrue (gone p) → IsTrue (gone o)) → IsFalse (gone o) → Walk E o p → Walk (outside gone E) o p
walk-outside E gone o p closed out Here = Here
walk-outside E gone o p closed out (Then m q walk arc) =
    let off : IsFalse (gone m) = false_from_ne_true _ (λ there. both_ways _ out (walk-in E gone o m closed walk there)) in
    Then m q (walk-outside E gone o m closed out walk) (off, arc)

walk-inside : (E : ℕ → ℕ → Type 0) (gone : ℕ → Bool) (o p : ℕ) → Walk (outside gone E) o p → Walk E o p
walk-inside E gone o p Here = Here
walk-inside E gone o p (Then m q walk arc) = Then m q (walk-inside E gone o m walk) arc.1

pub nodes-left : (E : ℕ → ℕ → Type 0) (node : ℕ → ℕ) (gone : ℕ → Bool) (i j : ℕ) → AreNodes E node → ((o p : ℕ) → E o p → IsTrue (gone p) → IsTrue (gone o)) → IsFalse (gone i) → IsFalse (gone j) → (node i ≡ node j) ↔ Joined (outside gone E) i j
nodes-left E node gone i j are closed off_i off_j = (
  (λ e. let both = (are i j).0 e in (walk-outside E gone i j closed off_i both.0, walk-outside E gone j i closed off_j both.1)),
  (λ joined. (are i j).1 (walk-inside E gone i j joined.0, walk-inside E gone j i joined.1)),
)
