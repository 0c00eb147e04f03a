-- The laws on nodes.
use Rattle.std.proofs.Common.{◌≡◌, ◌≢◌, ◌≤◌, ◌⊎◌, inl, inr, ℕ, suc, ◌+◌, ◌*◌, ◌^◌, Bool, true, false, if◌then◌else◌, T, Option, None, Some, is_some, List, [], ◌∷◌, ◌++◌, All, length, get_or, refl, sym, ap, ◌∙◌, subst, arith, IfSome, IfNone, option_map, length-append, Less, Greater, is_lt, true≢false, mul-suc}
use Rattle.std.specs.Prelude.{IsTrue, nat_lt}
use Rattle.std.specs.Ordering.{ordering_reverse}
use Rattle.std.specs.Cmp.Lexicographic.{nat_list_cmp_total}
use Rattle.std.specs.FinMap.Entries.{is_sorted, below_all}
use Rattle.std.proofs.lemmas.List.Elements.{All-cons, All-nil, All-head, All-tail, All-take, All-drop}
use Rattle.std.proofs.lemmas.Bool.{ltb-true}
use Rattle.std.proofs.lemmas.Bool.Decides.{eqb_tells}
use Rattle.byteorder.specs.Endian.{little_bytes}
use Rattle.oper_core.specs.LittleEndian.{length-little_bytes}
use Rattle.key_entries.specs.Short.{is_short, short_code}
use Rattle.key_entries.specs.KeyLaws.{both, first, second, less_if}
use Rattle.key_entries.specs.Entries.{Field, byte_order, short_field, child_field, entry_code, entries_code}
use Rattle.key_entries.specs.EntryLaws.{AreBytes, short_bounds, same_some, map_some}
use Rattle.btree_ops.specs.Node.{leaf, inner, node_code, node_in, IsNode}
use Rattle.btree_ops.specs.NodeLaws.{IsNodeOf, node_found, node_is}
use Rattle.btree_ops.specs.Effects.{leaf_halves, inner_halves, behind_branch, behind_child}
use Rattle.btree_ops.specs.Laws.{SplitsLeaf, SplitsInner, IsBehindBranch}
use Rattle.btree_ops.specs.declared.halves.Halves.{Halves}
use Rattle.btree_ops.specs.declared.node.Node.{Node}

-- what a reader of nodes answers
pub read_some : (bytes : List ℕ) (r : Option Node) → AreBytes bytes → r ≡ node_in bytes → IfSome r (λ node. IsNodeOf bytes node)
read_some bytes None are is = tt
read_some bytes (Some node) are is = node_is bytes node are (sym is)

pub read_none : (bytes : List ℕ) (r : Option Node) → r ≡ node_in bytes → IfNone r ((node : Node) → IsNode node → bytes ≡ node_code node → ⊥)
read_none bytes None is = λ node good same. let found : None ≡ Some node = is ∙ ap node_in same ∙ node_found node good in true≢false (ap is_some (sym found))
read_none bytes (Some node) is = tt

-- the sizes of nodes

module _ {X : Type 0} (field : Field X) where
  entries_size : (most : ℕ) (es : List (List ℕ × X)) → All (λ e. length (entry_code field e) ≤ most) es → length (entries_code field es) ≤ most * length es
  entries_size most [] all = omega arith
  entries_size most (e ∷ es) all =
      let one = All-head (λ e. length (entry_code field e) ≤ most) e es all in
      let rest = entries_size most es (All-tail (λ e. length (entry_code field e) ≤ most) e es all) in
      let product : most * suc (length es) ≡ most * length es + most = mul-suc most (length es) in
      omega (arith, length-append (entry_code field e) (entries_code field es), one, rest, product)

pub leaf_size : (pairs : List (List ℕ × List ℕ)) → IsNode (leaf pairs) → length (node_code (leaf pairs)) ≤ 464
leaf_size pairs node =
    let each : All (λ e. length (entry_code short_field e) ≤ 66) pairs =
    λ k d within. let e : List ℕ × List ℕ = get_or pairs k d in let key = short_bounds e.0 (node.short k d within) in let value = short_bounds e.1 (node.fit k d within) in omega (arith, length-append (short_code e.0) (short_code e.1), key.1, value.1) in
    omega (arith, entries_size short_field 66 pairs each, node.few)

pub inner_size : (first : ℕ) (branches : List (List ℕ × ℕ)) → IsNode (inner first branches) → length (node_code (inner first branches)) ≤ 265
inner_size start branches node =
    let each : All (λ e. length (entry_code child_field e) ≤ 37) branches =
    λ k d within. let e : List ℕ × ℕ = get_or branches k d in let key = short_bounds e.0 (node.2.short k d within) in omega (arith, length-append (short_code e.0) (little_bytes 4 e.1), length-little_bytes 4 e.1, key.1) in
    omega (arith, entries_size child_field 37 branches each, node.2.few, length-append (little_bytes 4 start) (entries_code child_field branches), length-little_bytes 4 start)

-- splits

not_less : (x y : List ℕ) → byte_order y x ≡ Less → byte_order x y ≢ Less
not_less x y less is = let e : Less ≡ Greater = sym is ∙ nat_list_cmp_total.antisymm x y ∙ ap ordering_reverse less in true≢false (ap is_lt e)

module _ {X : Type 0} where
  front_below : (x : List ℕ) (xs ys : List (List ℕ × X)) → T (below_all byte_order x (xs ++ ys)) → T (below_all byte_order x xs)
  front_below x [] ys below = tt
  front_below x (e ∷ xs) ys below =
      both (is_lt (byte_order x e.0)) (below_all byte_order x xs) (first (is_lt (byte_order x e.0)) (below_all byte_order x (xs ++ ys)) below)
      (front_below x xs ys (second (is_lt (byte_order x e.0)) (below_all byte_order x (xs ++ ys)) below))

  front_rises : (xs ys : List (List ℕ × X)) → T (is_sorted byte_order (xs ++ ys)) → T (is_sorted byte_order xs)
  front_rises [] ys rise = tt
  front_rises (e ∷ xs) ys rise =
      both (below_all byte_order e.0 xs) (is_sorted byte_order xs)
      (front_below e.0 xs ys (first (below_all byte_order e.0 (xs ++ ys)) (is_sorted byte_order (xs ++ ys)) rise))
      (front_rises xs ys (second (below_all byte_order e.0 (xs ++ ys)) (is_sorted byte_order (xs ++ ys)) rise))

  back_rises : (xs ys : List (List ℕ × X)) → T (is_sorted byte_order (xs ++ ys)) → T (is_sorted byte_order ys)
  back_rises [] ys rise = rise
  back_rises (e ∷ xs) ys rise = back_rises xs ys (second (below_all byte_order e.0 (xs ++ ys)) (is_sorted byte_order (xs ++ ys)) rise)

  below_at : (x : List ℕ) (xs : List (List ℕ × X)) (d : List ℕ × X) (ys : List (List ℕ × X)) → T (below_all byte_order x (xs ++ d ∷ ys)) → byte_order x d.0 ≡ Less
  below_at x [] d ys below = less_if (byte_order x d.0) (first (is_lt (byte_order x d.0)) (below_all byte_order x ys) below)
  below_at x (e ∷ xs) d ys below = below_at x xs d ys (second (is_lt (byte_order x e.0)) (below_all byte_order x (xs ++ d ∷ ys)) below)

  all_below : (xs : List (List ℕ × X)) (d : List ℕ × X) (ys : List (List ℕ × X)) → T (is_sorted byte_order (xs ++ d ∷ ys)) → All (λ e. byte_order e.0 d.0 ≡ Less) xs
  all_below [] d ys rise = All-nil (λ e. byte_order e.0 d.0 ≡ Less)
  all_below (e ∷ xs) d ys rise =
      All-cons (λ e. byte_order e.0 d.0 ≡ Less) e xs (below_at e.0 xs d ys (first (below_all byte_order e.0 (xs ++ d ∷ ys)) (is_sorted byte_order (xs ++ d ∷ ys)) rise))
      (all_below xs d ys (second (below_all byte_order e.0 (xs ++ d ∷ ys)) (is_sorted byte_order (xs ++ d ∷ ys)) rise))

  all_above : (d : List ℕ) (ys : List (List ℕ × X)) → T (below_all byte_order d ys) → All (λ e. byte_order e.0 d ≢ Less) ys
  all_above d [] below = All-nil (λ e. byte_order e.0 d ≢ Less)
  all_above d (e ∷ ys) below =
      All-cons (λ e. byte_order e.0 d ≢ Less) e ys (not_less e.0 d (less_if (byte_order d e.0) (first (is_lt (byte_order d e.0)) (below_all byte_order d ys) below)))
      (all_above d ys (second (is_lt (byte_order d e.0)) (below_all byte_order d ys) below))

-- a key is not below itself
not_below_itself : (x : List ℕ) → byte_order x x ≢ Less
not_below_itself x less = not_less x x less less

pub leaf_splits : (pairs : List (List ℕ × List ℕ)) (h : Halves) → IsNode (leaf pairs) → leaf_halves pairs ≡ Some h → SplitsLeaf pairs h
leaf_splits (a ∷ b ∷ c ∷ d ∷ e ∷ f ∷ g ∷ []) h node is =
    let pairs : List (List ℕ × List ℕ) = a ∷ b ∷ c ∷ d ∷ e ∷ f ∷ g ∷ [] in
    let lower : List (List ℕ × List ℕ) = a ∷ b ∷ c ∷ [] in
    let upper : List (List ℕ × List ℕ) = d ∷ e ∷ f ∷ g ∷ [] in
    let above : T (is_sorted byte_order upper) = back_rises lower upper node.rise in
    let halves : Halves = record { left = leaf lower; separator = d.0; right = leaf upper } in
    subst (λ (h : Halves). SplitsLeaf pairs h) (same_some halves h is)
    (record {
      lower = lower;
      upper = upper;
      left = refl;
      right = refl;
      all = refl;
      some = (omega arith, omega arith);
      separator = record { beside = d.1; others = e ∷ f ∷ g ∷ []; is = refl };
      apart = record {
        below = all_below lower d (e ∷ f ∷ g ∷ []) node.rise;
        above = All-cons (λ e. byte_order e.0 d.0 ≢ Less) d (e ∷ f ∷ g ∷ []) (not_below_itself d.0)
            (all_above d.0 (e ∷ f ∷ g ∷ []) (first (below_all byte_order d.0 (e ∷ f ∷ g ∷ [])) (is_sorted byte_order (e ∷ f ∷ g ∷ [])) above));
      };
      left_entries = record {
        few = omega arith;
        short = All-take (λ e. IsTrue (is_short e.0)) 3 pairs node.short;
        fit = All-take (λ e. IsTrue (is_short e.1)) 3 pairs node.fit;
        rise = front_rises lower upper node.rise;
      };
      right_entries = record {
        few = omega arith;
        short = All-drop (λ e. IsTrue (is_short e.0)) 3 pairs node.short;
        fit = All-drop (λ e. IsTrue (is_short e.1)) 3 pairs node.fit;
        rise = above;
      };
    })
leaf_splits others h node is = cc

pub inner_splits : (start : ℕ) (branches : List (List ℕ × ℕ)) (h : Halves) → IsNode (inner start branches) → inner_halves start branches ≡ Some h → SplitsInner start branches h
inner_splits start (a ∷ b ∷ c ∷ d ∷ e ∷ f ∷ g ∷ []) h node is =
    let branches : List (List ℕ × ℕ) = a ∷ b ∷ c ∷ d ∷ e ∷ f ∷ g ∷ [] in
    let lower : List (List ℕ × ℕ) = a ∷ b ∷ c ∷ [] in
    let upper : List (List ℕ × ℕ) = e ∷ f ∷ g ∷ [] in
    let above : T (is_sorted byte_order (d ∷ upper)) = back_rises lower (d ∷ upper) node.2.rise in
    let halves : Halves = record { left = inner start lower; separator = d.0; right = inner d.1 upper } in
    subst (λ (h : Halves). SplitsInner start branches h) (same_some halves h is)
    (record {
      lower = lower;
      middle = d.1;
      upper = upper;
      left = refl;
      right = refl;
      all = refl;
      some = (omega arith, omega arith);
      apart = record {
        below = all_below lower d upper node.2.rise;
        above = all_above d.0 upper (first (below_all byte_order d.0 upper) (is_sorted byte_order upper) above);
      };
      left_node = (
        node.0,
        omega arith,
        record {
          few = omega arith;
          short = All-take (λ e. IsTrue (is_short e.0)) 3 branches node.2.short;
          fit = All-take (λ e. IsTrue (nat_lt e.1 (2 ^ 32))) 3 branches node.2.fit;
          rise = front_rises lower (d ∷ upper) node.2.rise;
        },
      );
      right_node = (
        ltb-true d.1 (2 ^ 32) (node.2.fit 3 d (omega arith)),
        omega arith,
        record {
          few = omega arith;
          short = All-drop (λ e. IsTrue (is_short e.0)) 4 branches node.2.short;
          fit = All-drop (λ e. IsTrue (nat_lt e.1 (2 ^ 32))) 4 branches node.2.fit;
          rise = back_rises (d ∷ []) upper above;
        },
      );
    })
inner_splits start others h node is = cc

-- a node of seven entries has halves
pub leaf_cut : (pairs : List (List ℕ × List ℕ)) → length pairs ≡ 7 → (h : Halves) × (leaf_halves pairs ≡ Some h)
leaf_cut (a ∷ b ∷ c ∷ d ∷ e ∷ f ∷ g ∷ []) full =
    (record { left = leaf (a ∷ b ∷ c ∷ []); separator = d.0; right = leaf (d ∷ e ∷ f ∷ g ∷ []) }, refl)
leaf_cut others full = cc

pub inner_cut : (start : ℕ) (branches : List (List ℕ × ℕ)) → length branches ≡ 7 → (h : Halves) × (inner_halves start branches ≡ Some h)
inner_cut start (a ∷ b ∷ c ∷ d ∷ e ∷ f ∷ g ∷ []) full =
    (record { left = inner start (a ∷ b ∷ c ∷ []); separator = d.0; right = inner d.1 (e ∷ f ∷ g ∷ []) }, refl)
inner_cut start others full = cc

-- the place of a new child

behind_is : (child : ℕ) (new : List ℕ × ℕ) (branches after : List (List ℕ × ℕ)) → behind_branch child new branches ≡ Some after → IsBehindBranch child new branches after
behind_is child new [] after is = cc
behind_is child new (b ∷ branches) after is =
    elim (eqb_tells b.1 child) [
      | inl here ↦
          let same : b ∷ new ∷ branches ≡ after =
          same_some (b ∷ new ∷ branches) after (sym (ap (λ (t : Bool). if t then Some (b ∷ new ∷ branches) else option_map (λ (bs : List (List ℕ × ℕ)). b ∷ bs) (behind_branch child new branches)) here.0) ∙ is) in
          record {
            before = [];
            key = b.0;
            behind = branches;
            old = λ i. (b.0, here.1 i) ∷ branches;
            others = All-nil (λ b. b.1 ≢ child);
            more = sym same ∙ (λ i. (b.0, here.1 i) ∷ new ∷ branches);
          }
      | inr other ↦
          let found = map_some (λ (bs : List (List ℕ × ℕ)). b ∷ bs) (behind_branch child new branches) after
          (sym (ap (λ (t : Bool). if t then Some (b ∷ new ∷ branches) else option_map (λ (bs : List (List ℕ × ℕ)). b ∷ bs) (behind_branch child new branches)) other.0) ∙ is) in
          let rest = behind_is child new branches found.0 found.1 in
          record {
            before = b ∷ rest.before;
            key = rest.key;
            behind = rest.behind;
            old = ap (λ (l : List (List ℕ × ℕ)). b ∷ l) rest.old;
            others = All-cons (λ b. b.1 ≢ child) b rest.before other.1 rest.others;
            more = sym found.2 ∙ ap (λ (l : List (List ℕ × ℕ)). b ∷ l) rest.more;
          }
    ]

pub stands_behind : (child start : ℕ) (new : List ℕ × ℕ) (branches after : List (List ℕ × ℕ)) → behind_child child new start branches ≡ Some after
    → ((start ≡ child) × (after ≡ new ∷ branches)) ⊎ ((start ≢ child) × IsBehindBranch child new branches after)
stands_behind child start new branches after is =
    elim (eqb_tells start child) [
      | inl here ↦ inl (here.1, sym (same_some (new ∷ branches) after (sym (ap (λ (t : Bool). if t then Some (new ∷ branches) else behind_branch child new branches) here.0) ∙ is)))
      | inr other ↦ inr (other.1, behind_is child new branches after (sym (ap (λ (t : Bool). if t then Some (new ∷ branches) else behind_branch child new branches) other.0) ∙ is))
    ]
