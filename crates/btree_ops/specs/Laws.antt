-- What splits, puts and deletes keep.
use Rattle.std.specs.Prelude.{◌≡◌, ◌≢◌, ◌≤◌, ℕ, List, ◌∷◌, ◌++◌, All, length}
use Rattle.std.proofs.Common.{Less}
use Rattle.key_entries.specs.Entries.{byte_order, short_field, AreEntries}
use Rattle.btree_ops.specs.Node.{leaf, inner, IsNode}
use Rattle.btree_ops.specs.declared.halves.Halves.{Halves}

-- the keys of the first are below the key, and those of the others are not
pub record StandApart {X : Type 0} (lower : List (List ℕ × X)) (key : List ℕ) (upper : List (List ℕ × X)) : Type 0 where
  pub below : All (λ e. byte_order e.0 key ≡ Less) lower
  pub above : All (λ e. byte_order e.0 key ≢ Less) upper

-- the first of the entries has this key
pub record StartAt {X : Type 0} (key : List ℕ) (entries : List (List ℕ × X)) : Type 0 where
  pub beside : X
  pub others : List (List ℕ × X)
  pub is : entries ≡ (key, beside) ∷ others

-- the halves of a leaf are leaves, neither of them empty, that together have its pairs, and the separator is the first key of the upper one
pub record SplitsLeaf (pairs : List (List ℕ × List ℕ)) (h : Halves) : Type 0 where
  pub lower : List (List ℕ × List ℕ)
  pub upper : List (List ℕ × List ℕ)
  pub left : h.left ≡ leaf lower
  pub right : h.right ≡ leaf upper
  pub all : pairs ≡ lower ++ upper
  pub some : (1 ≤ length lower) × (1 ≤ length upper)
  pub separator : StartAt h.separator upper
  pub apart : StandApart lower h.separator upper
  pub left_entries : AreEntries short_field lower
  pub right_entries : AreEntries short_field upper

-- the halves of an inner node are inner nodes, neither of them empty, that have its children in their order, and its
-- separators but the one between them, which is the separator of the halves
pub record SplitsInner (first : ℕ) (branches : List (List ℕ × ℕ)) (h : Halves) : Type 0 where
  pub lower : List (List ℕ × ℕ)
  pub middle : ℕ
  pub upper : List (List ℕ × ℕ)
  pub left : h.left ≡ inner first lower
  pub right : h.right ≡ inner middle upper
  pub all : branches ≡ lower ++ (h.separator, middle) ∷ upper
  pub some : (1 ≤ length lower) × (1 ≤ length upper)
  pub apart : StandApart lower h.separator upper
  pub left_node : IsNode (inner first lower)
  pub right_node : IsNode (inner middle upper)

-- the branches with one more, directly after the first that leads to the child
pub record IsBehindBranch (child : ℕ) (new : List ℕ × ℕ) (branches after : List (List ℕ × ℕ)) : Type 0 where
  pub before : List (List ℕ × ℕ)
  pub key : List ℕ
  pub behind : List (List ℕ × ℕ)
  pub old : branches ≡ before ++ (key, child) ∷ behind
  pub others : All (λ b. b.1 ≢ child) before
  pub more : after ≡ before ++ (key, child) ∷ new ∷ behind
