-- The commands that a call makes of any state: nothing but too short values stands against them.
use Rattle.std.proofs.Common.{◌≡◌, ◌≢◌, ◌≤◌, ◌<◌, ◌⊎◌, inl, inr, ℕ, suc, ◌+◌, ◌==◌, Bool, true, false, not, ◌&&◌, if◌then◌else◌, Option, None, Some, Result, Ok, Err, List, [], ◌∷◌, length, is_lt, refl, sym, ap, ◌∙◌, subst, arith, true≢false, option_map}
use Rattle.std.specs.Prelude.{IsTrue, nat_lt, nat_le, ⊤}
use Rattle.std.specs.List.{list_all}
use Rattle.std.specs.Result.{result_err}
use Rattle.std.proofs.lemmas.Bool.{lt-ltb}
use Rattle.std.proofs.lemmas.Bool.Decides.{eqb_tells}
use Rattle.oper_core.specs.State.{State}
use Rattle.oper_core.specs.Meaning.{Accepts, refusal_of, read_values, or_else, unless}
use Rattle.oper_core.specs.declared.bounds.Bounds.{Bounds}
use Rattle.oper_core.specs.declared.refusal.Refusal.{Refusal}
use Rattle.oper_core.specs.declared.refusal.Refusal.TheVariants.{NoObject, Same, TooLarge, NodeFull, NoKey}
use Rattle.key_entries.specs.Short.{is_short}
use Rattle.key_entries.specs.Entries.{byte_order}
use Rattle.key_entries.specs.EntryLaws.{true_both, same_some, and_then_some, if_some}
use Rattle.btree_ops.specs.Node.{leaf, inner, node_in}
use Rattle.key_entries.specs.Pairs.{has, without}
use Rattle.key_entries.specs.Objects.{where_roomy}
use Rattle.btree_ops.specs.Effects.{halves_of, halves_in, behind_branch, behind_child, split_child_with as child_split_with, split_child_made, split_root_made, put_made, delete_made, made_by}
use Rattle.key_entries.specs.Objects.{are_apart}
use Rattle.btree_ops.specs.Operation.{node_meaning, shape_of}
use Rattle.btree_ops.specs.declared.halves.Halves.{Halves}
use Rattle.btree_ops.specs.declared.made.Made.{Made}
use Rattle.btree_ops.specs.declared.made.Made.TheVariants.{One, Three}
use Rattle.btree_ops.specs.declared.node.Node.{Node}
use Rattle.btree_ops.specs.declared.node.Node.TheVariants.{Leaf, Inner}
use Rattle.btree_ops.specs.declared.node_op.NodeOp.{NodeOp}
use Rattle.btree_ops.specs.declared.node_op.NodeOp.TheVariants.{Put, Delete, SplitChild, SplitRoot}
use Rattle.btree_ops.specs.MapLaws.{leaf_cut, inner_cut}
use Rattle.std.specs.FinMap.Entries.{put}
use Rattle.call_plans.specs.Plan.{goes_on, ends, refuses}
use Rattle.logical_btree.specs.Walk.{Pair, Way, root_in, children_of, is_child, if_sound, node_at, size, child_for, walk}
use Rattle.logical_btree.specs.Plan.{Full, TreeNext, first_full, is_full, steps_of, free_in, split_root_with, split_child_with, split_with, next_with, next_on, insert_next}
use Rattle.logical_btree.proofs.CommandLemmas.{at_fills}
use Rattle.logical_btree.proofs.DeleteLaws.{to_delete}
use Rattle.call_plans.specs.FreeLaws.{first_free}
use Rattle.logical_btree.proofs.InsertLaws.{leaf_room}
use Rattle.logical_btree.proofs.PlaceOfFull.{HeadFull, Place, place_of_full}
use Rattle.logical_btree.proofs.PutLaws.{ends_at_leaf, leaf_not_inner}
use Rattle.logical_btree.proofs.ReachLemmas.{none_some}
use Rattle.key_entries.specs.ValueLaws.{same_test, other_test, three_apart}
use Rattle.logical_btree.proofs.WayLemmas.{child_range, leaf_range}

-- values that are not empty

held_value : (root : Bool) (v : List ℕ) (node : Node) → is_full node ≡ true → (if root then root_in v else node_in v) ≡ Some node → node_in v ≡ Some node
held_value true [] node full e = absurd (true≢false (sym full ∙ ap is_full (sym (same_some (leaf []) node e))))
held_value true (b ∷ bytes) node full e = e
held_value false v node full e = e

inner_value : (root : Bool) (v : List ℕ) (first : ℕ) (branches : List (List ℕ × ℕ)) → (if root then root_in v else node_in v) ≡ Some (inner first branches) → node_in v ≡ Some (inner first branches)
inner_value true [] first branches e = absurd (leaf_not_inner [] first branches e)
inner_value true (b ∷ bytes) first branches e = e
inner_value false v first branches e = e

read_at : (lo hi : ℕ) (s : State) (x : ℕ) (node : Node) → node_at lo hi s x ≡ Some node → (if x == lo then root_in (s x) else node_in (s x)) ≡ Some node
read_at lo hi s x node e =
    let read = and_then_some (if_sound lo hi) (if x == lo then root_in (s x) else node_in (s x)) node e in
    let tests = if_some (list_all (is_child lo hi) (children_of read.0)) (Some read.0) node read.2 in
    read.1 ∙ tests.1

pub full_value : (lo hi : ℕ) (s : State) (x : ℕ) (node : Node) → node_at lo hi s x ≡ Some node → is_full node ≡ true → node_in (s x) ≡ Some node
full_value lo hi s x node e full = held_value (x == lo) (s x) node full (read_at lo hi s x node e)

pub inner_at_value : (lo hi : ℕ) (s : State) (x first : ℕ) (branches : List (List ℕ × ℕ)) → node_at lo hi s x ≡ Some (inner first branches) → node_in (s x) ≡ Some (inner first branches)
inner_at_value lo hi s x first branches e = inner_value (x == lo) (s x) first branches (read_at lo hi s x (inner first branches) e)

-- an object with a node is not one that is empty
pub apart_from : (s : State) (x y : ℕ) (node : Node) → node_in (s x) ≡ Some node → s y ≡ [] → x ≢ y
apart_from s x y node is empty same = none_some node (sym (ap node_in (ap s same ∙ empty)) ∙ is)

-- a full node has halves
seven : (n : ℕ) → (n == 7) ≡ true → n ≡ 7
seven n e = elim (eqb_tells n 7) [ inl same ↦ same.1 | inr other ↦ absurd (true≢false (sym e ∙ other.0)) ]

pub full_halves : (node : Node) → is_full node ≡ true → (h : Halves) × (halves_of node ≡ Some h)
full_halves (Leaf pairs) e = leaf_cut pairs.items (seven (length pairs.items) e)
full_halves (Inner first branches) e = inner_cut first branches.items (seven (length branches.items) e)

-- where a key leads to a child, a new one follows it
behind : (key : List ℕ) (child : ℕ) (new : List ℕ × ℕ) (first : ℕ) (branches : List (List ℕ × ℕ)) → child_for key first branches ≡ child
    → (more : List (List ℕ × ℕ)) × (behind_child child new first branches ≡ Some more)
behind key child new first [] is = (new ∷ [], ap (λ (t : Bool). if t then Some (new ∷ []) else None) (ap (λ (z : ℕ). first == z) (sym is) ∙ same_test first))
behind key child new first (b ∷ branches) is =
    elim (first == child) as (λ c. (first == child) ≡ c → (more : List (List ℕ × ℕ)) × ((if c then Some (new ∷ b ∷ branches) else behind_branch child new (b ∷ branches)) ≡ Some more)) [
      | true ↦ λ here. (new ∷ b ∷ branches, refl)
      | false ↦ λ other. later (λ there. behind key child new b.1 branches there) (is_lt (byte_order key b.0)) other is
    ] refl
  where
    onward : (more : List (List ℕ × ℕ)) × ((if b.1 == child then Some (new ∷ branches) else behind_branch child new branches) ≡ Some more)
        → (more : List (List ℕ × ℕ)) × (behind_branch child new (b ∷ branches) ≡ Some more)
    onward found =
        elim (b.1 == child) as (λ c. (if c then Some (new ∷ branches) else behind_branch child new branches) ≡ Some found.0
        → (more : List (List ℕ × ℕ)) × ((if c then Some (b ∷ new ∷ branches) else option_map (λ (bs : List (List ℕ × ℕ)). b ∷ bs) (behind_branch child new branches)) ≡ Some more)) [
          | true ↦ λ e. (b ∷ new ∷ branches, refl)
          | false ↦ λ e. (b ∷ found.0, ap (option_map (λ (bs : List (List ℕ × ℕ)). b ∷ bs)) e)
        ] found.1

    later : (child_for key b.1 branches ≡ child → (more : List (List ℕ × ℕ)) × (behind_child child new b.1 branches ≡ Some more)) → (t : Bool) → (first == child) ≡ false
        → (if t then first else child_for key b.1 branches) ≡ child → (more : List (List ℕ × ℕ)) × (behind_branch child new (b ∷ branches) ≡ Some more)
    later rest true other same = absurd (true≢false (sym (ap (λ (z : ℕ). first == z) (sym same) ∙ same_test first) ∙ other))
    later rest false other there = onward (rest there)

-- nothing but the size of values stands against the command
module _ (b : Bounds) where
  pub record IsDue (s : State) (op : NodeOp) : Type 0 where
    pub shape : shape_of b.objects op ≡ None
    pub made : Made
    pub is : made_by op (read_values (node_meaning b) s op) ≡ Ok made

  due_refusal : (s : State) (op : NodeOp) (due : IsDue s op) → refusal_of (node_meaning b) s op ≡ result_err (if nat_le 1024 b.cap then Ok due.made else Err TooLarge)
  due_refusal s op due =
      ap (λ (o : Option Refusal). or_else o (result_err (where_roomy b.cap (made_by op (read_values (node_meaning b) s op))))) due.shape
      ∙ ap (λ (r : Result Made Refusal). result_err (where_roomy b.cap r)) due.is

  pub due_accepted : (s : State) (op : NodeOp) → IsTrue (nat_le 1024 b.cap) → IsDue s op → Accepts (node_meaning b) s op
  due_accepted s op wide due = due_refusal s op due ∙ ap (λ (t : Bool). result_err (if t then Ok due.made else Err TooLarge)) wide

  pub due_too_large : (s : State) (op : NodeOp) → nat_le 1024 b.cap ≡ false → IsDue s op → refusal_of (node_meaning b) s op ≡ Some TooLarge
  due_too_large s op narrow due = due_refusal s op due ∙ ap (λ (t : Bool). result_err (if t then Ok due.made else Err TooLarge)) narrow

no_shape : (p q r : Bool) → IsTrue p → IsTrue q → IsTrue r → or_else (unless p NoObject) (or_else (unless q Same) (unless r TooLarge)) ≡ None
no_shape true true true e f g = refl
no_shape true true false e f g = absurd (true≢false (sym g))
no_shape true false r e f g = absurd (true≢false (sym f))
no_shape false q r e f g = absurd (true≢false (sym e))

three_below : (most a b c : ℕ) → a < most → b < most → c < most → IsTrue (list_all (λ x. nat_lt x most) (a ∷ b ∷ c ∷ []))
three_below most a b c x y z =
    true_both (nat_lt a most) (list_all (λ x. nat_lt x most) (b ∷ c ∷ [])) (lt-ltb a most x)
    (true_both (nat_lt b most) (list_all (λ x. nat_lt x most) (c ∷ [])) (lt-ltb b most y) (true_both (nat_lt c most) true (lt-ltb c most z) refl))

one_below : (most a : ℕ) → a < most → IsTrue (list_all (λ x. nat_lt x most) (a ∷ []))
one_below most a x = true_both (nat_lt a most) true (lt-ltb a most x) refl

module _ (lo hi : ℕ) (key value : List ℕ) where
  -- the root is full, and two objects are free
  pub record SplitsRoot (s : State) (op : NodeOp) : Type 0 where
    pub left : ℕ
    pub right : ℕ
    pub op_is : op ≡ SplitRoot lo left right
    pub node : Node
    pub at : node_at lo hi s lo ≡ Some node
    pub full : is_full node ≡ true
    pub left_empty : s left ≡ []
    pub right_empty : s right ≡ []
    pub above : lo ≤ left
    pub rising : suc left ≤ right
    pub below : right ≤ hi
    pub rest : List ℕ
    pub free : free_in s lo hi ≡ left ∷ rest

  -- a child is full, and one object is free
  pub record SplitsNode (s : State) (op : NodeOp) : Type 0 where
    pub found : Full
    pub new : ℕ
    pub place : Place lo hi s key found
    pub op_is : op ≡ SplitChild place.parent found.child new
    pub way : Way
    pub goes : walk lo hi s key ≡ Ok way
    pub is_first : first_full None (steps_of way) ≡ Some found
    pub empty : s new ≡ []
    pub above : lo ≤ new
    pub below : new ≤ hi
    pub rest : List ℕ
    pub free : free_in s lo hi ≡ new ∷ rest

  -- no node on the way is full, or the key is there
  pub record PutsPair (s : State) (op : NodeOp) : Type 0 where
    pub way : Way
    pub goes : walk lo hi s key ≡ Ok way
    pub room : IsTrue (has key way.pairs) ⊎ (length way.pairs ≢ 7)
    pub op_is : op ≡ Put way.object key value

  abbrev pub Tells : State → TreeNext → Type 0
  Tells s (goes_on op) = SplitsRoot s op ⊎ SplitsNode s op
  Tells s (ends op) = PutsPair s op
  Tells s (refuses r) = ⊤

  module _ (s : State) (order : lo ≤ hi) where
    ends_at : size lo hi + lo ≡ suc hi
    ends_at = omega (arith, order)

    tells_root : (full : Full) → HeadFull lo hi s key None lo full → (free : List ℕ) → free_in s lo hi ≡ free → Tells s (split_root_with lo free)
    tells_root full head [] is = tt
    tells_root full head (one ∷ []) is = tt
    tells_root full head (left ∷ right ∷ rest) is =
        let a = first_free s (size lo hi) lo left (right ∷ rest) is in
        let b = first_free s a.others (suc left) right rest a.rest_is in
        inl (record {
          left = left;
          right = right;
          op_is = refl;
          node = head.node;
          at = head.at;
          full = head.full_node;
          left_empty = a.empty;
          right_empty = b.empty;
          above = a.above;
          rising = b.above;
          below = omega (arith, a.ends, b.ends, ends_at);
          rest = right ∷ rest;
          free = is;
        })

    tells_node : (full : Full) (w : Way) (place : Place lo hi s key full) → walk lo hi s key ≡ Ok w → first_full None (steps_of w) ≡ Some full → (free : List ℕ) → free_in s lo hi ≡ free
        → Tells s (split_child_with place.parent full.child free)
    tells_node full w place goes first [] is = tt
    tells_node full w place goes first (new ∷ rest) is =
        let a = first_free s (size lo hi) lo new rest is in
        inr (record {
          found = full;
          new = new;
          place = place;
          op_is = refl;
          way = w;
          goes = goes;
          is_first = first;
          empty = a.empty;
          above = a.above;
          below = omega (arith, a.ends, ends_at);
          rest = rest;
          free = is;
        })

    tells_split : (full : Full) (w : Way) → walk lo hi s key ≡ Ok w → first_full None (steps_of w) ≡ Some full → Tells s (split_with (free_in s lo hi) full.child full.parent)
    tells_split full w goes first =
        elim (place_of_full lo hi s key order w full goes first) [
          | inl head ↦
              subst (λ (p : Option ℕ). Tells s (split_with (free_in s lo hi) full.child p)) (sym head.parent)
              (subst (λ (x : ℕ). Tells s (split_root_with x (free_in s lo hi))) (sym head.child) (tells_root full head (free_in s lo hi) refl))
          | inr place ↦
              subst (λ (p : Option ℕ). Tells s (split_with (free_in s lo hi) full.child p)) (sym place.is) (tells_node full w place goes first (free_in s lo hi) refl)
        ]

    by_way : (r : Result Way ℕ) → walk lo hi s key ≡ r → Tells s (next_on key value (free_in s lo hi) r)
    by_way (Err bad) goes = tt
    by_way (Ok w) goes =
        let op : NodeOp = Put w.object key value in
        elim (has key w.pairs) as (λ t. has key w.pairs ≡ t → Tells s (if t then ends op else next_with op (free_in s lo hi) (first_full None (steps_of w)))) [
          | true ↦ λ e. record { way = w; goes = goes; room = inl e; op_is = refl }
          | false ↦ λ e.
              elim (first_full None (steps_of w)) as (λ o. first_full None (steps_of w) ≡ o → Tells s (next_with op (free_in s lo hi) o)) [
                | None ↦ λ none. record { way = w; goes = goes; room = inr (leaf_room None w.inner w.object w.pairs none); op_is = refl }
                | Some full ↦ λ some. tells_split full w goes some
              ] refl
        ] refl

    -- what stands after each step of an insert, on any state
    pub insert_tells : (b : Bounds) → Tells s (insert_next b lo hi s key value)
    insert_tells b = by_way (walk lo hi s key) refl

  -- so each is due

  module _ (b : Bounds) (order : lo ≤ hi) (inside : hi < b.objects) where
    pub record RootMade (s : State) (left right : ℕ) (node : Node) : Type 0 where
      pub halves : Halves
      pub are : halves_of node ≡ Some halves
      pub made : made_by (SplitRoot lo left right) (s lo ∷ []) ≡ Ok (Three (inner left ((halves.separator, right) ∷ [])) halves.left halves.right)

    pub root_made : (s : State) (op : NodeOp) (r : SplitsRoot s op) → RootMade s r.left r.right r.node
    root_made s op r =
        let h = full_halves r.node r.full in
        record {
          halves = h.0;
          are = h.1;
          made = ap (λ (o : Option Node). split_root_made r.left r.right (halves_in o)) (full_value lo hi s lo r.node r.at r.full) ∙ ap (split_root_made r.left r.right) h.1;
        }

    pub record NodeMade (s : State) (parent child new first : ℕ) (branches : List (List ℕ × ℕ)) (node : Node) : Type 0 where
      pub halves : Halves
      pub are : halves_of node ≡ Some halves
      pub more : List (List ℕ × ℕ)
      pub stands : behind_child child (halves.separator, new) first branches ≡ Some more
      pub made : made_by (SplitChild parent child new) (s parent ∷ s child ∷ []) ≡ Ok (Three (inner first more) halves.left halves.right)

    pub node_made : (s : State) (op : NodeOp) (r : SplitsNode s op) → NodeMade s r.place.parent r.found.child r.new r.place.first r.place.branches r.place.child_node
    node_made s op r =
        let p = r.place in
        let child : ℕ = r.found.child in
        let h = full_halves p.child_node p.full_node in
        let more = behind key child (h.0.separator, r.new) p.first p.branches p.taken in
        let three : Made = Three (inner p.first more.0) h.0.left h.0.right in
        record {
          halves = h.0;
          are = h.1;
          more = more.0;
          stands = more.1;
          made = ap (λ (o : Option Node). split_child_made child r.new o (halves_in (node_in (s child)))) (inner_at_value lo hi s p.parent p.first p.branches p.node)
              ∙ ap (λ (o : Option Node). split_child_made child r.new (Some (inner p.first p.branches)) (halves_in o)) (full_value lo hi s child p.child_node p.child_at p.full_node)
              ∙ ap (λ (o : Option Halves). split_child_made child r.new (Some (inner p.first p.branches)) o) h.1
              ∙ ap (λ (o : Option (List (List ℕ × ℕ))). child_split_with p.first p.branches h.0 o) more.1
              ∙ ap (λ (t : Bool). if t then Err NodeFull else Ok three) p.room;
        }

    pub root_apart : (s : State) (op : NodeOp) (r : SplitsRoot s op) → (lo ≢ r.left) × (lo ≢ r.right) × (r.left ≢ r.right)
    root_apart s op r =
        let value = full_value lo hi s lo r.node r.at r.full in
        (apart_from s lo r.left r.node value r.left_empty, apart_from s lo r.right r.node value r.right_empty, λ same. absurd (omega (arith, r.rising, same)))

    pub node_apart : (s : State) (op : NodeOp) (r : SplitsNode s op) → (r.place.parent ≢ r.found.child) × (r.place.parent ≢ r.new) × (r.found.child ≢ r.new)
    node_apart s op r = (
      r.place.apart,
      apart_from s r.place.parent r.new (inner r.place.first r.place.branches) (inner_at_value lo hi s r.place.parent r.place.first r.place.branches r.place.node) r.empty,
      apart_from s r.found.child r.new r.place.child_node (full_value lo hi s r.found.child r.place.child_node r.place.child_at r.place.full_node) r.empty,
    )

    root_due : (s : State) (op : NodeOp) → SplitsRoot s op → IsDue b s op
    root_due s op r =
        let apart = root_apart s op r in
        let m = root_made s op r in
        subst (λ (op : NodeOp). IsDue b s op) (sym r.op_is)
        (record {
          shape = no_shape (list_all (λ x. nat_lt x b.objects) (lo ∷ r.left ∷ r.right ∷ [])) (are_apart (lo ∷ r.left ∷ r.right ∷ [])) true
              (three_below b.objects lo r.left r.right (omega (arith, order, inside)) (omega (arith, r.rising, r.below, inside)) (omega (arith, r.below, inside)))
              (three_apart lo r.left r.right apart.0 apart.1 apart.2) refl;
          made = Three (inner r.left ((m.halves.separator, r.right) ∷ [])) m.halves.left m.halves.right;
          is = m.made;
        })

    node_due : (s : State) (op : NodeOp) → SplitsNode s op → IsDue b s op
    node_due s op r =
        let p = r.place in
        let child : ℕ = r.found.child in
        let apart = node_apart s op r in
        let range = child_range lo hi s key p.parent p.first p.branches p.node in
        let m = node_made s op r in
        subst (λ (op : NodeOp). IsDue b s op) (sym r.op_is)
        (record {
          shape = no_shape (list_all (λ x. nat_lt x b.objects) (p.parent ∷ child ∷ r.new ∷ [])) (are_apart (p.parent ∷ child ∷ r.new ∷ [])) true
              (three_below b.objects p.parent child r.new (omega (arith, p.range.1, inside)) (omega (arith, range.1, p.taken, inside)) (omega (arith, r.below, inside)))
              (three_apart p.parent child r.new apart.0 apart.1 apart.2) refl;
          made = Three (inner p.first m.more) m.halves.left m.halves.right;
          is = m.made;
        })

    not_full : (h f : Bool) → IsTrue h ⊎ (f ≡ false) → (not h && f) ≡ false
    not_full true f r = refl
    not_full false f (inl e) = absurd (true≢false (sym e))
    not_full false f (inr e) = e

    has_room : (pairs : List Pair) → IsTrue (has key pairs) ⊎ (length pairs ≢ 7) → IsTrue (has key pairs) ⊎ ((length pairs == 7) ≡ false)
    has_room pairs (inl there) = inl there
    has_room pairs (inr other) = inr (other_test (length pairs) 7 other)

    module _ (short : IsTrue (is_short key)) where
      put_due : IsTrue (is_short value) → (s : State) (op : NodeOp) → PutsPair s op → IsDue b s op
      put_due fits s op r =
          let w = r.way in
          let at = at_fills lo hi s w.object w.pairs (ends_at_leaf lo hi s key (size lo hi) lo w r.goes) in
          let range = leaf_range lo hi s key order w r.goes in
          let made : Made = One (leaf (put byte_order key value w.pairs)) in
          subst (λ (op : NodeOp). IsDue b s op) (sym r.op_is)
          (record {
            shape = no_shape (list_all (λ x. nat_lt x b.objects) (w.object ∷ [])) true (is_short key && is_short value)
                (one_below b.objects w.object (omega (arith, range.1, inside))) refl (true_both (is_short key) (is_short value) short fits);
            made = made;
            is = ap (λ (o : Option (List Pair)). put_made key value o) at.fills
                ∙ ap (λ (t : Bool). if t then Err NodeFull else Ok made) (not_full (has key w.pairs) (length w.pairs == 7) (has_room w.pairs r.room));
          })

      pub delete_due : (s : State) (w : Way) → walk lo hi s key ≡ Ok w → IsTrue (has key w.pairs) → IsDue b s (Delete w.object key)
      delete_due s w goes there =
          let at = at_fills lo hi s w.object w.pairs (ends_at_leaf lo hi s key (size lo hi) lo w goes) in
          let range = leaf_range lo hi s key order w goes in
          let made : Made = One (leaf (without key w.pairs)) in
          record {
            shape = no_shape (list_all (λ x. nat_lt x b.objects) (w.object ∷ [])) true (is_short key)
                (one_below b.objects w.object (omega (arith, range.1, inside))) refl short;
            made = made;
            is = ap (λ (o : Option (List Pair)). delete_made key o) (to_delete key (s w.object) w.pairs there at.fills)
                ∙ ap (λ (t : Bool). if t then Ok made else Err NoKey) there;
          }

      abbrev pub IsDueNext : State → TreeNext → Type 0
      IsDueNext s (goes_on op) = IsDue b s op
      IsDueNext s (ends op) = IsDue b s op
      IsDueNext s (refuses r) = ⊤

      due_told : IsTrue (is_short value) → (s : State) (next : TreeNext) → Tells s next → IsDueNext s next
      due_told fits s (goes_on op) (inl root) = root_due s op root
      due_told fits s (goes_on op) (inr node) = node_due s op node
      due_told fits s (ends op) told = put_due fits s op told
      due_told fits s (refuses r) told = tt

      -- on any state the next command of an insert is due
      pub insert_due : IsTrue (is_short value) → (s : State) → IsDueNext s (insert_next b lo hi s key value)
      insert_due fits s = due_told fits s (insert_next b lo hi s key value) (insert_tells s order b)
