-- Each split of an insert keeps the tree and its content, and takes a free object.
use Rattle.std.proofs.Common.{◌≡◌, ◌≢◌, ◌≤◌, ◌<◌, ◌⊎◌, inl, inr, ℕ, suc, ◌^◌, ◌==◌, Bool, true, false, if◌then◌else◌, Option, None, Some, Result, Ok, Err, List, [], ◌∷◌, ◌++◌, All, length, map, refl, sym, ap, ◌∙◌, subst, arith, true≢false, append_assoc, length-append, option_and_then}
use Rattle.std.specs.Prelude.{IsTrue, nat_lt, nat_le}
use Rattle.std.specs.List.{list_all}
use Rattle.std.proofs.lemmas.List.Elements.{All-cons, All-nil, All-head, All-tail}
use Rattle.std.proofs.lemmas.Bool.{lt-ltb, le-leb}
use Rattle.std.proofs.lemmas.Bool.Decides.{eqb_tells}
use Rattle.oper_core.specs.State.{State, with_values}
use Rattle.oper_core.specs.Meaning.{after, read_values}
use Rattle.oper_core.specs.declared.bounds.Bounds.{Bounds}
use Rattle.oper_core.specs.declared.refusal.Refusal.{Refusal}
use Rattle.oper_core.specs.declared.refusal.Refusal.TheVariants.{TooLarge}
use Rattle.key_entries.specs.Short.{is_short}
use Rattle.key_entries.specs.EntryLaws.{both_true, true_both, if_true}
use Rattle.btree_ops.specs.Node.{inner, node_in, node_code}
use Rattle.key_entries.specs.Objects.{where_roomy}
use Rattle.btree_ops.specs.Effects.{made_by}
use Rattle.btree_ops.specs.Laws.{IsBehindBranch}
use Rattle.key_entries.specs.Objects.{values_of}
use Rattle.btree_ops.specs.Operation.{node_meaning, objects_of, bytes_of}
use Rattle.btree_ops.specs.declared.halves.Halves.{Halves}
use Rattle.btree_ops.specs.declared.made.Made.{Made}
use Rattle.btree_ops.specs.declared.made.Made.TheVariants.{Three}
use Rattle.btree_ops.specs.declared.node.Node.{Node}
use Rattle.btree_ops.specs.declared.node.Node.TheVariants.{Leaf, Inner}
use Rattle.btree_ops.specs.declared.node_op.NodeOp.{NodeOp}
use Rattle.btree_ops.specs.declared.node_op.NodeOp.TheVariants.{SplitChild, SplitRoot}
use Rattle.btree_ops.specs.MapLaws.{stands_behind}
use Rattle.call_plans.specs.Free.{is_empty, objects_from}
use Rattle.call_plans.specs.Plan.{goes_on}
use Rattle.logical_btree.specs.Walk.{Span, Way, root_in, is_child, if_sound, node_at, size}
use Rattle.logical_btree.specs.Tree.{Reach, reach_at, reach_from, times, all_keys, IsTree}
use Rattle.logical_btree.specs.Plan.{TreeNext, free_in, insert_next}
use Rattle.logical_btree.specs.Laws.{SplitKeeps}
use Rattle.logical_btree.proofs.CommandLemmas.{leaf_at}
use Rattle.logical_btree.proofs.CutLemmas.{LeafParts, InnerParts, parts, placed, separator_short, start_held}
use Rattle.logical_btree.proofs.DueLemmas.{RootMade, NodeMade, SplitsRoot, SplitsNode, Tells, insert_tells, root_made, node_made, root_apart, node_apart}
use Rattle.call_plans.specs.FreeLaws.{none_freed, one_taken}
use Rattle.logical_btree.proofs.GoesLemmas.{objects_of as way_objects, tree_goes}
use Rattle.logical_btree.proofs.GrownLemmas.{LeafCut, InnerCut, ParentCut}
use Rattle.logical_btree.proofs.MovedLemmas.{same_ok}
use Rattle.logical_btree.proofs.NodeFacts.{SoundInner, inner_node, inner_at}
use Rattle.logical_btree.proofs.ParentLemmas.{leads_from, more_rise}
use Rattle.logical_btree.proofs.ReachLemmas.{none_some, inner_is, SameBut}
use Rattle.logical_btree.proofs.RootLaws.{LeafRootCut, InnerRootCut, split_root_keeps}
use Rattle.logical_btree.proofs.SplitLaws.{split_child_keeps}
use Rattle.key_entries.specs.ValueLaws.{HasThree, has_three, other_test}
use Rattle.logical_btree.proofs.WayLemmas.{parent_on_way, root_held}

flip : {x y : ℕ} → x ≢ y → y ≢ x
flip apart same = apart (sym same)

code_some : (node : Node) → is_empty (node_code node) ≡ false
code_some (Leaf pairs) = refl
code_some (Inner first branches) = refl

-- an accepted command writes what it makes
written : (b : Bounds) (s : State) (op : NodeOp) (made : Made) → IsTrue (nat_le 1024 b.cap) → made_by op (read_values (node_meaning b) s op) ≡ Ok made
    → after (node_meaning b) s op ≡ with_values s (objects_of op) (bytes_of made)
written b s op made wide is =
    ap (λ (r : Result Made Refusal). with_values s (objects_of op) (values_of bytes_of (objects_of op) r))
    (ap (where_roomy b.cap) is ∙ if_true (nat_le 1024 b.cap) (Ok made) (Err TooLarge) wide)

-- three nodes that are written leave no more objects free
three_written : (s t : State) (a c d : ℕ) (u v w : Node) → HasThree s t a c d (node_code u) (node_code v) (node_code w) → (z : ℕ) → is_empty (t z) ≡ true → is_empty (s z) ≡ true
three_written s t a c d u v w has z =
    none_freed s t z (a ∷ c ∷ d ∷ []) (ap is_empty has.first ∙ code_some u, (ap is_empty has.second ∙ code_some v, (ap is_empty has.third ∙ code_some w, tt)))
    (λ apart. has.others z apart.0 apart.1.0 apart.1.1.0)

-- one list is the other with one entry more
record Added (new : List ℕ × ℕ) (branches more : List (List ℕ × ℕ)) : Type 0 where
  front : List (List ℕ × ℕ)
  back : List (List ℕ × ℕ)
  old : branches ≡ front ++ back
  now : more ≡ front ++ new ∷ back

added : (child first : ℕ) (new : List ℕ × ℕ) (branches more : List (List ℕ × ℕ))
    → ((first ≡ child) × (more ≡ new ∷ branches)) ⊎ ((first ≢ child) × IsBehindBranch child new branches more) → Added new branches more
added child first new branches more (inl here) = record { front = []; back = branches; old = refl; now = here.1 }
added child first new branches more (inr (other, st)) = record {
  front = st.before ++ (st.key, child) ∷ [];
  back = st.behind;
  old = st.old ∙ sym (append_assoc st.before ((st.key, child) ∷ []) st.behind);
  now = st.more ∙ sym (append_assoc st.before ((st.key, child) ∷ []) (new ∷ st.behind));
}

all_with : (P : List ℕ × ℕ → Type 0) (new : List ℕ × ℕ) → P new → (front back : List (List ℕ × ℕ)) → All P (front ++ back) → All P (front ++ new ∷ back)
all_with P new holds [] back all = All-cons P new back holds all
all_with P new holds (e ∷ front) back all = All-cons P e (front ++ new ∷ back) (All-head P e (front ++ back) all) (all_with P new holds front back (All-tail P e (front ++ back) all))

children_with : (p : ℕ → Bool) (new : List ℕ × ℕ) → IsTrue (p new.1) → (front back : List (List ℕ × ℕ)) → IsTrue (list_all p (map (λ b. b.1) (front ++ back)))
    → IsTrue (list_all p (map (λ b. b.1) (front ++ new ∷ back)))
children_with p new holds [] back all = true_both (p new.1) (list_all p (map (λ b. b.1) back)) holds all
children_with p new holds (e ∷ front) back all =
    let both = both_true (p e.1) (list_all p (map (λ b. b.1) (front ++ back))) all in
    true_both (p e.1) (list_all p (map (λ b. b.1) (front ++ new ∷ back))) both.0 (children_with p new holds front back both.1)

module _ {new : List ℕ × ℕ} {branches more : List (List ℕ × ℕ)} (a : Added new branches more) where
  all_more : (P : List ℕ × ℕ → Type 0) → P new → All P branches → All P more
  all_more P holds all =
      subst (λ (l : List (List ℕ × ℕ)). All P l) (sym a.now) (all_with P new holds a.front a.back (subst (λ (l : List (List ℕ × ℕ)). All P l) a.old all))

  children_more : (p : ℕ → Bool) → IsTrue (p new.1) → IsTrue (list_all p (map (λ b. b.1) branches)) → IsTrue (list_all p (map (λ b. b.1) more))
  children_more p holds all =
      subst (λ (l : List (List ℕ × ℕ)). IsTrue (list_all p (map (λ b. b.1) l))) (sym a.now)
      (children_with p new holds a.front a.back (subst (λ (l : List (List ℕ × ℕ)). IsTrue (list_all p (map (λ b. b.1) l))) a.old all))

  one_more : length more ≡ suc (length branches)
  one_more =
      let o : length branches ≡ length (a.front ++ a.back) = ap length a.old in
      let n : length more ≡ length (a.front ++ new ∷ a.back) = ap length a.now in
      omega (arith, o, n, length-append a.front a.back, length-append a.front (new ∷ a.back))

module _ (lo hi : ℕ) where
  child_here : (x : ℕ) → lo ≤ x → x ≢ lo → x ≤ hi → IsTrue (is_child lo hi x)
  child_here x above other below = true_both (nat_lt lo x) (nat_le x hi) (lt-ltb lo x (omega (arith, above, other))) (le-leb x hi below)

  same_node : (s t : State) (y : ℕ) → t y ≡ s y → node_at lo hi t y ≡ node_at lo hi s y
  same_node s t y same = ap (λ (v : List ℕ). option_and_then (if_sound lo hi) (if y == lo then root_in v else node_in v)) same

  -- an empty object below the root has no node
  no_node : (s : State) (y : ℕ) → y ≢ lo → s y ≡ [] → node_at lo hi s y ≡ None
  no_node s y other empty =
      ap (λ (v : List ℕ). option_and_then (if_sound lo hi) (if y == lo then root_in v else node_in v)) empty
      ∙ ap (λ (c : Bool). option_and_then (if_sound lo hi) (if c then root_in [] else node_in [])) (other_test y lo other)

  not_free : (s : State) (y z : ℕ) (node : Node) → y ≢ lo → s y ≡ [] → node_at lo hi s z ≡ Some node → z ≢ y
  not_free s y z node other empty has same = none_some node (sym (no_node s y other empty) ∙ ap (λ (x : ℕ). node_at lo hi s x) (sym same) ∙ has)

module _ (b : Bounds) (lo hi : ℕ) (key value : List ℕ) (wide : IsTrue (nat_le 1024 b.cap))
    (order : lo ≤ hi) (inside : hi < b.objects) (small : hi < 2 ^ 32) where
  module _ (s : State) (op : NodeOp) (r : SplitsRoot lo hi key value s op) where
    abbrev root_new : RootMade lo hi key value b order inside s r.left r.right r.node
    root_new = root_made lo hi key value b order inside s op r

    abbrev new_root : Node
    new_root = inner r.left ((root_new.halves.separator, r.right) ∷ [])

    root_has : HasThree s (after (node_meaning b) s (SplitRoot lo r.left r.right)) lo r.left r.right (node_code new_root) (node_code root_new.halves.left) (node_code root_new.halves.right)
    root_has =
        let apart = root_apart lo hi key value b order inside s op r in
        let h : Halves = root_new.halves in
        subst (λ (u : State). HasThree s u lo r.left r.right (node_code new_root) (node_code h.left) (node_code h.right))
        (sym (written b s (SplitRoot lo r.left r.right) (Three new_root h.left h.right) wide root_new.made))
        (has_three s lo r.left r.right (node_code new_root) (node_code h.left) (node_code h.right) (flip apart.0) (flip apart.1) (flip apart.2))

    root_taken : length (free_in (after (node_meaning b) s (SplitRoot lo r.left r.right)) lo hi) < length (free_in s lo hi)
    root_taken =
        let h : Halves = root_new.halves in
        one_taken s (after (node_meaning b) s (SplitRoot lo r.left r.right)) (three_written s (after (node_meaning b) s (SplitRoot lo r.left r.right)) lo r.left r.right new_root h.left h.right root_has)
        (objects_from lo (size lo hi)) r.left r.rest r.free (ap is_empty root_has.second ∙ code_some h.left)

    root_keeps : IsTree lo hi s → SplitKeeps b lo hi s op
    root_keeps tree =
        let m = root_new in
        let apart = root_apart lo hi key value b order inside s op r in
        let h : Halves = m.halves in
        let separator : List ℕ = h.separator in
        let t : State = after (node_meaning b) s (SplitRoot lo r.left r.right) in
        let branches : List (List ℕ × ℕ) = (separator, r.right) ∷ [] in
        let has : HasThree s t lo r.left r.right (node_code (inner r.left branches)) (node_code h.left) (node_code h.right) = root_has in
        let cut = parts lo hi small s lo r.node h r.at m.are in
        let right_above : lo ≤ r.right = omega (arith, r.above, r.rising) in
        let left_below : r.left ≤ hi = omega (arith, r.rising, r.below) in
        let sound : SoundInner lo hi r.left branches = record {
          node = (
            omega (arith, left_below, small),
            omega arith,
            record {
              few = omega arith;
              short = All-cons (λ (e : List ℕ × ℕ). IsTrue (is_short e.0)) (separator, r.right) [] (separator_short lo hi small s lo h cut) (All-nil (λ (e : List ℕ × ℕ). IsTrue (is_short e.0)));
              fit = All-cons (λ (e : List ℕ × ℕ). IsTrue (nat_lt e.1 (2 ^ 32))) (separator, r.right) [] (lt-ltb r.right (2 ^ 32) (omega (arith, r.below, small))) (All-nil (λ (e : List ℕ × ℕ). IsTrue (nat_lt e.1 (2 ^ 32))));
              rise = tt;
            },
          );
          sound = true_both (is_child lo hi r.left) (list_all (is_child lo hi) (r.right ∷ [])) (child_here lo hi r.left r.above (flip apart.0) left_below)
              (true_both (is_child lo hi r.right) true (child_here lo hi r.right right_above (flip apart.1) r.below) refl);
        } in
        let same : SameBut lo hi s t lo lo = λ y node other again is.
        same_node lo hi s t y (has.others y other (not_free lo hi s r.left y node (flip apart.0) r.left_empty is) (not_free lo hi s r.right y node (flip apart.1) r.right_empty is)) ∙ is in
        let both = split_root_keeps lo hi s t r.left r.right separator same (inner_at lo hi t lo r.left branches has.first sound) (root_cut t has.second has.third cut)
        (no_node lo hi s r.left (flip apart.0) r.left_empty) (no_node lo hi s r.right (flip apart.1) r.right_empty) apart.2 order tree in
        let keeps : SplitKeeps b lo hi s (SplitRoot lo r.left r.right) = record {
          tree = both.0;
          content = both.1;
          taken = root_taken;
        } in
        subst (λ (op : NodeOp). SplitKeeps b lo hi s op) (sym r.op_is) keeps
      where
        root_cut : {h : Halves} (t : State) → t r.left ≡ node_code h.left → t r.right ≡ node_code h.right → LeafParts lo hi small s lo h ⊎ InnerParts lo hi small s lo h
            → LeafRootCut lo hi s t r.left r.right h.separator ⊎ InnerRootCut lo hi s t r.left r.right h.separator
        root_cut {h} t low high (inl c) = inl (record {
          lower = c.lower;
          upper = c.upper;
          old = c.old;
          low = leaf_at lo hi t r.left c.lower (low ∙ ap node_code c.low) c.low_node;
          high = leaf_at lo hi t r.right c.upper (high ∙ ap node_code c.high) c.high_node;
          apart = c.apart;
          held = λ span all. start_held h.separator c.upper c.start span all;
        })
        root_cut {h} t low high (inr c) = inr (record {
          first = c.first;
          lower = c.lower;
          center = c.center;
          upper = c.upper;
          old = c.old;
          low = inner_at lo hi t r.left c.first c.lower (low ∙ ap node_code c.low) c.low_sound;
          high = inner_at lo hi t r.right c.center c.upper (high ∙ ap node_code c.high) c.high_sound;
          apart = c.apart;
        })

  module _ (s : State) (op : NodeOp) (r : SplitsNode lo hi key value s op) where
    abbrev node_new : NodeMade lo hi key value b order inside s r.place.parent r.found.child r.new r.place.first r.place.branches r.place.child_node
    node_new = node_made lo hi key value b order inside s op r

    abbrev new_parent : Node
    new_parent = inner r.place.first node_new.more

    abbrev after_node : State
    after_node = after (node_meaning b) s (SplitChild r.place.parent r.found.child r.new)

    node_has : HasThree s after_node r.place.parent r.found.child r.new (node_code new_parent) (node_code node_new.halves.left) (node_code node_new.halves.right)
    node_has =
        let apart = node_apart lo hi key value b order inside s op r in
        let h : Halves = node_new.halves in
        subst (λ (u : State). HasThree s u r.place.parent r.found.child r.new (node_code new_parent) (node_code h.left) (node_code h.right))
        (sym (written b s (SplitChild r.place.parent r.found.child r.new) (Three new_parent h.left h.right) wide node_new.made))
        (has_three s r.place.parent r.found.child r.new (node_code new_parent) (node_code h.left) (node_code h.right) (flip apart.0) (flip apart.1) (flip apart.2))

    node_taken : length (free_in after_node lo hi) < length (free_in s lo hi)
    node_taken =
        let h : Halves = node_new.halves in
        one_taken s after_node (three_written s after_node r.place.parent r.found.child r.new new_parent h.left h.right node_has) (objects_from lo (size lo hi)) r.new r.rest r.free
        (ap is_empty node_has.third ∙ code_some h.right)

    node_keeps : IsTree lo hi s → SplitKeeps b lo hi s op
    node_keeps tree =
        let m = node_new in
        let p = r.place in
        let parent : ℕ = p.parent in
        let child : ℕ = r.found.child in
        let new : ℕ = r.new in
        let h : Halves = m.halves in
        let separator : List ℕ = h.separator in
        let t : State = after (node_meaning b) s (SplitChild parent child new) in
        let has : HasThree s t parent child new (node_code (inner p.first m.more)) (node_code h.left) (node_code h.right) = node_has in
        let cut = parts lo hi small s child p.child_node h p.child_at m.are in
        let new_other : new ≢ lo = λ same. root_other same in
        let same : SameBut lo hi s t parent child = λ y node first second is.
        same_node lo hi s t y (has.others y first second (not_free lo hi s new y node new_other r.empty is)) ∙ is in
        let stands = stands_behind child p.first (separator, new) p.branches m.more m.stands in
        let there : 1 ≤ times parent tree.reached.objects = on_tree tree in
        let above : ParentCut lo hi s t parent child new separator same = record {
          first = p.first;
          branches = p.branches;
          more = m.more;
          old = p.node;
          now = inner_at lo hi t parent p.first m.more has.first (sound_more tree there h cut m.more stands new_other);
          stands = stands;
        } in
        let both = split_child_keeps lo hi s t parent child new separator same (node_cut t has.second has.third cut) above (no_node lo hi s new new_other r.empty) tree there in
        let keeps : SplitKeeps b lo hi s (SplitChild parent child new) = record {
          tree = both.0;
          content = both.1;
          taken = node_taken;
        } in
        subst (λ (op : NodeOp). SplitKeeps b lo hi s op) (sym r.op_is) keeps
      where
        root_other : r.new ≡ lo → ⊥
        root_other same = root_held lo hi s key (size lo hi) r.way r.found r.goes r.is_first (ap s (sym same) ∙ r.empty)

        on_tree : (tree : IsTree lo hi s) → 1 ≤ times r.place.parent tree.reached.objects
        on_tree tree =
            let g = tree_goes key lo hi s tree in
            let way : g.way ≡ r.way = same_ok g.way r.way (sym g.is ∙ r.goes) in
            let same : times r.place.parent (way_objects g.way) ≡ times r.place.parent (way_objects r.way) = ap (λ (w : Way). times r.place.parent (way_objects w)) way in
            omega (arith, same, g.reached r.place.parent, parent_on_way r.way r.found r.place.parent r.is_first r.place.is)

        sound_more : (tree : IsTree lo hi s) → 1 ≤ times r.place.parent tree.reached.objects → (h : Halves) → LeafParts lo hi small s r.found.child h ⊎ InnerParts lo hi small s r.found.child h
            → (more : List (List ℕ × ℕ))
            → ((r.place.first ≡ r.found.child) × (more ≡ (h.separator, r.new) ∷ r.place.branches)) ⊎ ((r.place.first ≢ r.found.child) × IsBehindBranch r.found.child (h.separator, r.new) r.place.branches more)
            → r.new ≢ lo → SoundInner lo hi r.place.first more
        sound_more tree there h cut more stands other =
            let p = r.place in
            let old = inner_node lo hi small s p.parent p.first p.branches p.node in
            let a = added r.found.child p.first (h.separator, r.new) p.branches more stands in
            let one = one_more a in
            let reached = leads_from lo hi s p.parent (size lo hi) lo all_keys tree.reached tree.is there in
            let on : ℕ → Span → Option Reach = λ y part. reach_from lo hi s reached.count part y in
            let at = inner_is on reached.span p.parent p.first p.branches reached.reached (sym (ap (λ (o : Option Node). reach_at on reached.span p.parent o) p.node) ∙ reached.is) in
            let children = both_true (is_child lo hi p.first) (list_all (is_child lo hi) (map (λ b. b.1) p.branches)) old.sound in
            record {
              node = (
                old.node.0,
                omega (arith, one),
                record {
                  few = room (length p.branches) (length more) p.room old.node.2.few one;
                  short = all_more a (λ (e : List ℕ × ℕ). IsTrue (is_short e.0)) (separator_short lo hi small s r.found.child h cut) old.node.2.short;
                  fit = all_more a (λ (e : List ℕ × ℕ). IsTrue (nat_lt e.1 (2 ^ 32))) (lt-ltb r.new (2 ^ 32) (omega (arith, r.below, small))) old.node.2.fit;
                  rise = more_rise on r.found.child r.new h.separator (placed lo hi small s r.found.child h cut reached.count) reached.span p.first p.branches more at.below at.children old.node.2.rise stands;
                },
              );
              sound = true_both (is_child lo hi p.first) (list_all (is_child lo hi) (map (λ b. b.1) more)) children.0
                  (children_more a (is_child lo hi) (child_here lo hi r.new r.above other r.below) children.1);
            }
          where
            room : (n k : ℕ) → (n == 7) ≡ false → n ≤ 7 → k ≡ suc n → k ≤ 7
            room n k not_seven few one =
                elim (eqb_tells n 7) [
                  | inl same ↦ absurd (true≢false (sym same.0 ∙ not_seven))
                  | inr apart ↦ omega (arith, apart.1, few, one)
                ]

        node_cut : {h : Halves} (t : State) → t r.found.child ≡ node_code h.left → t r.new ≡ node_code h.right → LeafParts lo hi small s r.found.child h ⊎ InnerParts lo hi small s r.found.child h
            → LeafCut lo hi s t r.place.parent r.found.child r.new h.separator ⊎ InnerCut lo hi s t r.place.parent r.found.child r.new h.separator
        node_cut {h} t low high (inl c) = inl (record {
          lower = c.lower;
          upper = c.upper;
          old = c.old;
          low = leaf_at lo hi t r.found.child c.lower (low ∙ ap node_code c.low) c.low_node;
          high = leaf_at lo hi t r.new c.upper (high ∙ ap node_code c.high) c.high_node;
          apart = c.apart;
          held = λ span all. start_held h.separator c.upper c.start span all;
        })
        node_cut {h} t low high (inr c) = inr (record {
          first = c.first;
          lower = c.lower;
          center = c.center;
          upper = c.upper;
          old = c.old;
          low = inner_at lo hi t r.found.child c.first c.lower (low ∙ ap node_code c.low) c.low_sound;
          high = inner_at lo hi t r.new c.center c.upper (high ∙ ap node_code c.high) c.high_sound;
          apart = c.apart;
        })

  -- what was asked of splits
  pub splits_keep : (s : State) (op : NodeOp) → IsTree lo hi s → insert_next b lo hi s key value ≡ goes_on op → SplitKeeps b lo hi s op
  splits_keep s op tree is =
      elim (subst (λ (next : TreeNext). Tells lo hi key value s next) is (insert_tells lo hi key value s order b)) [
        | inl root ↦ root_keeps s op root tree
        | inr node ↦ node_keeps s op node tree
      ]

  -- on any state a split takes a free object
  pub split_takes : (s : State) (op : NodeOp) → SplitsRoot lo hi key value s op ⊎ SplitsNode lo hi key value s op → length (free_in (after (node_meaning b) s op) lo hi) < length (free_in s lo hi)
  split_takes s op (inl r) = subst (λ (op : NodeOp). length (free_in (after (node_meaning b) s op) lo hi) < length (free_in s lo hi)) (sym r.op_is) (root_taken s op r)
  split_takes s op (inr r) = subst (λ (op : NodeOp). length (free_in (after (node_meaning b) s op) lo hi) < length (free_in s lo hi)) (sym r.op_is) (node_taken s op r)
