-- What is reached in one state and in another.
use Rattle.std.proofs.Common.{◌≡◌, ◌≢◌, ◌⊎◌, inl, inr, ℕ, zero, suc, ◌+◌, ◌==◌, Option, None, Some, is_some, List, [], ◌∷◌, ◌++◌, refl, sym, ap, ◌∙◌, arith, append_assoc, true≢false}
use Rattle.std.specs.Prelude.{IsTrue}
use Rattle.std.proofs.lemmas.Bool.Decides.{eqb_tells}
use Rattle.oper_core.specs.State.{State}
use Rattle.key_entries.specs.EntryLaws.{if_some, if_true, same_some}
use Rattle.btree_ops.specs.Node.{leaf, inner}
use Rattle.btree_ops.specs.declared.node.Node.{Node}
use Rattle.btree_ops.specs.declared.node.Node.TheVariants.{Leaf, Inner}
use Rattle.logical_btree.specs.Walk.{Pair, Span, node_at}
use Rattle.logical_btree.specs.Tree.{Reach, with_object, both_reach, all_within, reach_children, reach_at, reach_from, times, one_if}

pub times_append : (x : ℕ) (a b : List ℕ) → times x (a ++ b) ≡ times x a + times x b
times_append x [] b = omega arith
times_append x (y ∷ a) b = omega (arith, times_append x a b)

abbrev pub joined : Reach → Reach → Reach
joined a b = record { objects = a.objects ++ b.objects; pairs = a.pairs ++ b.pairs }

abbrev pub headed : ℕ → Reach → Reach
headed x below = record { objects = x ∷ below.objects; pairs = below.pairs }

pub none_some : {X : Type 0} (x : X) → None ≡ Some x → ⊥
none_some x e = true≢false (sym (ap is_some e))

-- both were reached
pub record Both (a b : Option Reach) (r : Reach) : Type 0 where
  pub left : Reach
  pub right : Reach
  pub left_is : a ≡ Some left
  pub right_is : b ≡ Some right
  pub all : joined left right ≡ r

pub both_are : (a b : Option Reach) (r : Reach) → both_reach a b ≡ Some r → Both a b r
both_are None b r e = absurd (none_some r e)
both_are (Some a) None r e = absurd (none_some r e)
both_are (Some a) (Some b) r e = record { left = a; right = b; left_is = refl; right_is = refl; all = same_some (joined a b) r e }

pub both_made : (a b : Option Reach) (x y : Reach) → a ≡ Some x → b ≡ Some y → both_reach a b ≡ Some (joined x y)
both_made a b x y e f = ap (λ (o : Option Reach). both_reach o b) e ∙ ap (λ (o : Option Reach). both_reach (Some x) o) f

pub joined_assoc : (a b c : Reach) → joined (joined a b) c ≡ joined a (joined b c)
joined_assoc a b c = λ i. record { objects = append_assoc a.objects b.objects c.objects i; pairs = append_assoc a.pairs b.pairs c.pairs i }

pub both_assoc : (a b c : Option Reach) → both_reach (both_reach a b) c ≡ both_reach a (both_reach b c)
both_assoc None b c = refl
both_assoc (Some a) None c = refl
both_assoc (Some a) (Some b) None = refl
both_assoc (Some a) (Some b) (Some c) = ap (λ (r : Reach). Some r) (joined_assoc a b c)

-- what was reached at a leaf, and at an inner node
pub record AtLeaf (span : Span) (x : ℕ) (node : Option Node) (r : Reach) : Type 0 where
  pub pairs : List Pair
  pub node_is : node ≡ Some (leaf pairs)
  pub within : IsTrue (all_within span pairs)
  pub all : record { objects = x ∷ []; pairs = pairs } ≡ r

pub record AtInner (on : ℕ → Span → Option Reach) (span : Span) (x : ℕ) (node : Option Node) (r : Reach) : Type 0 where
  pub first : ℕ
  pub branches : List (List ℕ × ℕ)
  pub below : Reach
  pub node_is : node ≡ Some (inner first branches)
  pub within : IsTrue (all_within span branches)
  pub children : reach_children on span first branches ≡ Some below
  pub all : headed x below ≡ r

pub at_node : (on : ℕ → Span → Option Reach) (span : Span) (x : ℕ) (node : Option Node) (r : Reach) → reach_at on span x node ≡ Some r → AtLeaf span x node r ⊎ AtInner on span x node r
at_node on span x None r e = absurd (none_some r e)
at_node on span x (Some (Leaf pairs)) r e =
    let tests = if_some (all_within span pairs.items) (Some (record { objects = x ∷ []; pairs = pairs.items })) r e in
    inl (record { pairs = pairs.items; node_is = refl; within = tests.0; all = same_some (record { objects = x ∷ []; pairs = pairs.items }) r tests.1 })
at_node on span x (Some (Inner first branches)) r e =
    let tests = if_some (all_within span branches.items) (with_object x (reach_children on span first branches.items)) r e in
    inr (elim (reach_children on span first branches.items) as (λ o. reach_children on span first branches.items ≡ o → with_object x o ≡ Some r → AtInner on span x (Some (Inner first branches)) r) [
      | None ↦ λ is e. absurd (none_some r e)
      | Some below ↦ λ is e. record { first = first; branches = branches.items; below = below; node_is = refl; within = tests.0; children = is; all = same_some (headed x below) r e }
    ] refl tests.1)

-- the same, of a node that is known
pub record IsLeaf (span : Span) (x : ℕ) (pairs : List Pair) (r : Reach) : Type 0 where
  pub within : IsTrue (all_within span pairs)
  pub all : record { objects = x ∷ []; pairs = pairs } ≡ r

pub record IsInner (on : ℕ → Span → Option Reach) (span : Span) (x : ℕ) (first : ℕ) (branches : List (List ℕ × ℕ)) (r : Reach) : Type 0 where
  pub below : Reach
  pub within : IsTrue (all_within span branches)
  pub children : reach_children on span first branches ≡ Some below
  pub all : headed x below ≡ r

pub leaf_is : (on : ℕ → Span → Option Reach) (span : Span) (x : ℕ) (pairs : List Pair) (r : Reach) → reach_at on span x (Some (leaf pairs)) ≡ Some r → IsLeaf span x pairs r
leaf_is on span x pairs r e =
    let tests = if_some (all_within span pairs) (Some (record { objects = x ∷ []; pairs = pairs })) r e in
    record { within = tests.0; all = same_some (record { objects = x ∷ []; pairs = pairs }) r tests.1 }

pub inner_is : (on : ℕ → Span → Option Reach) (span : Span) (x : ℕ) (first : ℕ) (branches : List (List ℕ × ℕ)) (r : Reach) → reach_at on span x (Some (inner first branches)) ≡ Some r
    → IsInner on span x first branches r
inner_is on span x first branches r e =
    let tests = if_some (all_within span branches) (with_object x (reach_children on span first branches)) r e in
    elim (reach_children on span first branches) as (λ o. reach_children on span first branches ≡ o → with_object x o ≡ Some r → IsInner on span x first branches r) [
      | None ↦ λ is e. absurd (none_some r e)
      | Some below ↦ λ is e. record { below = below; within = tests.0; children = is; all = same_some (headed x below) r e }
    ] refl tests.1

pub leaf_made : (on : ℕ → Span → Option Reach) (span : Span) (x : ℕ) (node : Option Node) (pairs : List Pair) → node ≡ Some (leaf pairs) → IsTrue (all_within span pairs)
    → reach_at on span x node ≡ Some (record { objects = x ∷ []; pairs = pairs })
leaf_made on span x node pairs is within =
    ap (λ (o : Option Node). reach_at on span x o) is ∙ if_true (all_within span pairs) (Some (record { objects = x ∷ []; pairs = pairs })) None within

pub inner_made : (on : ℕ → Span → Option Reach) (span : Span) (x : ℕ) (node : Option Node) (first : ℕ) (branches : List (List ℕ × ℕ)) (below : Reach)
    → node ≡ Some (inner first branches) → IsTrue (all_within span branches) → reach_children on span first branches ≡ Some below
    → reach_at on span x node ≡ Some (headed x below)
inner_made on span x node first branches below is within children =
    ap (λ (o : Option Node). reach_at on span x o) is
    ∙ if_true (all_within span branches) (with_object x (reach_children on span first branches)) None within
    ∙ ap (λ (o : Option Reach). with_object x o) children

-- a node's children, cut at one of its separators
pub middle : (on : ℕ → Span → Option Reach) (span : Span) (first : ℕ) (before : List (List ℕ × ℕ)) (key : List ℕ) (child : ℕ) (behind : List (List ℕ × ℕ))
    → reach_children on span first (before ++ (key, child) ∷ behind)
    ≡ both_reach (reach_children on (record { from = span.from; to = Some key }) first before) (reach_children on (record { from = key; to = span.to }) child behind)
middle on span first [] key child behind = refl
middle on span first (b ∷ before) key child behind =
    ap (λ (o : Option Reach). both_reach (on first (record { from = span.from; to = Some b.0 })) o) (middle on (record { from = b.0; to = span.to }) b.1 before key child behind)
    ∙ sym (both_assoc (on first (record { from = span.from; to = Some b.0 })) (reach_children on (record { from = b.0; to = Some key }) b.1 before) (reach_children on (record { from = key; to = span.to }) child behind))

-- two states with the same sound nodes, but for two objects
abbrev pub SameBut : (lo hi : ℕ) → State → State → ℕ → ℕ → Type 0
SameBut lo hi s t p c = (y : ℕ) (node : Node) → y ≢ p → y ≢ c → node_at lo hi s y ≡ Some node → node_at lo hi t y ≡ Some node

-- neither of them is among these
abbrev pub Spares : ℕ → ℕ → Reach → Type 0
Spares p c r = (times p r.objects ≡ 0) × (times c r.objects ≡ 0)

spares_left : (p c : ℕ) (a b r : Reach) → joined a b ≡ r → Spares p c r → Spares p c a
spares_left p c a b r all none =
    let same = ap (λ (r : Reach). times p r.objects) all in let same_c = ap (λ (r : Reach). times c r.objects) all in
    (omega (arith, times_append p a.objects b.objects, same, none.0), omega (arith, times_append c a.objects b.objects, same_c, none.1))

spares_right : (p c : ℕ) (a b r : Reach) → joined a b ≡ r → Spares p c r → Spares p c b
spares_right p c a b r all none =
    let same = ap (λ (r : Reach). times p r.objects) all in let same_c = ap (λ (r : Reach). times c r.objects) all in
    (omega (arith, times_append p a.objects b.objects, same, none.0), omega (arith, times_append c a.objects b.objects, same_c, none.1))

abbrev pub Keeps : ℕ → ℕ → (ℕ → Span → Option Reach) → (ℕ → Span → Option Reach) → Type 0
Keeps p c on into = (x : ℕ) (span : Span) (r : Reach) → on x span ≡ Some r → Spares p c r → into x span ≡ Some r

pub keeps_children : (p c : ℕ) (on into : ℕ → Span → Option Reach) → Keeps p c on into → (branches : List (List ℕ × ℕ)) (child : ℕ) (span : Span) (r : Reach)
    → reach_children on span child branches ≡ Some r → Spares p c r → reach_children into span child branches ≡ Some r
keeps_children p c on into keeps [] child span r is none = keeps child span r is none
keeps_children p c on into keeps (b ∷ branches) child span r is none =
    let first : Span = record { from = span.from; to = Some b.0 } in
    let others : Span = record { from = b.0; to = span.to } in
    let two = both_are (on child first) (reach_children on others b.1 branches) r is in
    both_made (into child first) (reach_children into others b.1 branches) two.left two.right
    (keeps child first two.left two.left_is (spares_left p c two.left two.right r two.all none))
    (keeps_children p c on into keeps branches b.1 others two.right two.right_is (spares_right p c two.left two.right r two.all none))
    ∙ ap (λ (r : Reach). Some r) two.all

pub head_differs : (x p : ℕ) (xs : List ℕ) → times p (x ∷ xs) ≡ 0 → (x ≢ p) × (times p xs ≡ 0)
head_differs x p xs none =
    elim (eqb_tells x p) [
      | inl same ↦ absurd (let one : one_if (x == p) ≡ 1 = ap one_if same.0 in omega (arith, none, one))
      | inr other ↦ (other.1, omega (arith, none))
    ]

module _ (lo hi : ℕ) (s t : State) (p c : ℕ) (same : SameBut lo hi s t p c) where
  -- what spares the two objects is reached in the other state too
  pub keeps_from : (n : ℕ) → Keeps p c (λ x span. reach_from lo hi s n span x) (λ x span. reach_from lo hi t n span x)
  keeps_from zero x span r is none = absurd (none_some r is)
  keeps_from (suc n) x span r is none =
      let on : ℕ → Span → Option Reach = λ y part. reach_from lo hi s n part y in
      let into : ℕ → Span → Option Reach = λ y part. reach_from lo hi t n part y in
      elim (at_node on span x (node_at lo hi s x) r is) [
        | inl there ↦
            let objects = ap (λ (r : Reach). r.objects) there.all in
            let not_p = head_differs x p [] (ap (λ (l : List ℕ). times p l) objects ∙ none.0) in
            let not_c = head_differs x c [] (ap (λ (l : List ℕ). times c l) objects ∙ none.1) in
            leaf_made into span x (node_at lo hi t x) there.pairs (same x (leaf there.pairs) not_p.0 not_c.0 there.node_is) there.within ∙ ap (λ (r : Reach). Some r) there.all
        | inr there ↦
            let objects = ap (λ (r : Reach). r.objects) there.all in
            let not_p = head_differs x p there.below.objects (ap (λ (l : List ℕ). times p l) objects ∙ none.0) in
            let not_c = head_differs x c there.below.objects (ap (λ (l : List ℕ). times c l) objects ∙ none.1) in
            inner_made into span x (node_at lo hi t x) there.first there.branches there.below (same x (inner there.first there.branches) not_p.0 not_c.0 there.node_is) there.within
            (keeps_children p c on into (keeps_from n) there.branches there.first span there.below there.children (not_p.1, not_c.1))
            ∙ ap (λ (r : Reach). Some r) there.all
      ]
