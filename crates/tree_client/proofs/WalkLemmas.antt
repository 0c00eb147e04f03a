-- The way to a leaf, one node after the other.
use Rattle.std.proofs.Common.{◌≡◌, ◌≤◌, ◌<◌, refl, sym, ap, ◌∙◌, subst, ℕ, suc, ◌+◌, ◌-◌, Bool, true, false, Option, None, Some, Result, Ok, Err, List, [], ◌∷◌, if◌then◌else◌, map, arith}
use Rattle.std.specs.Prelude.{IsTrue, nat_lt, nat_le}
use Rattle.std.specs.List.{list_all}
use Rattle.std.specs.Ordering.{is_lt}
use Rattle.std.proofs.lemmas.Bool.{leb-true}
use Rattle.oper_core.specs.State.{State}
use Rattle.key_entries.specs.Entries.{byte_order}
use Rattle.key_entries.specs.EntryLaws.{and_then_some, if_some, same_some, both_true}
use Rattle.btree_ops.specs.declared.node.Node.{Node}
use Rattle.btree_ops.specs.declared.node.Node.TheVariants.{Leaf, Inner}
use Rattle.arrayvec.specs.ArrayVec.{ArrayVec}
use Rattle.logical_btree.specs.Walk.{Way, children_of, child_for, if_sound, is_child, node_at, read_as, size, walk_at, walk_from, with_met}
use Rattle.logical_btree.specs.Plan.{Full, first_full, is_full, steps_of}
use Rattle.logical_btree.specs.Below.{below_in}
use Rattle.logical_btree.specs.declared.below.Below.{Below}
use Rattle.tree_client.specs.Finding.{first_of, full_at, full_here, leaf_end, node_answer, way_end}
use Rattle.tree_client.specs.declared.walking.WayEnd.{WayEnd}
use Rattle.tree_client.specs.Answers.{TreeErr}
use Rattle.tree_client.specs.Answers.{bad_tree}

-- the objects that a sound node names are children
pub sound_children : (lo hi : ℕ) (s : State) (x : ℕ) (node : Node) → node_at lo hi s x ≡ Some node → IsTrue (list_all (is_child lo hi) (children_of node))
sound_children lo hi s x node is =
    let read = and_then_some (if_sound lo hi) (read_as lo x (s x)) node is in
    let sound = if_some (list_all (is_child lo hi) (children_of read.0)) (Some read.0) node read.2 in
    subst (λ (n : Node). IsTrue (list_all (is_child lo hi) (children_of n))) (same_some read.0 node sound.1) sound.0

-- one of them stands above the key
one_passes : (test : ℕ → Bool) (key : List ℕ) (first : ℕ) (branches : List (List ℕ × ℕ)) → IsTrue (list_all test (first ∷ map (λ b. b.1) branches)) → IsTrue (test (child_for key first branches))
one_passes test key first [] all = (both_true (test first) true all).0
one_passes test key first (b ∷ branches) all =
    let parts = both_true (test first) (list_all test (b.1 ∷ map (λ c. c.1) branches)) all in
    by_order (is_lt (byte_order key b.0)) parts.0 (one_passes test key b.1 branches parts.1)
  where
    by_order : (less : Bool) → IsTrue (test first) → IsTrue (test (child_for key b.1 branches)) → IsTrue (test (if less then first else child_for key b.1 branches))
    by_order true here there = here
    by_order false here there = there

-- the child that the way goes on to stands in the range
pub child_within : (lo hi : ℕ) (s : State) (key : List ℕ) (x first : ℕ) (branches : List (List ℕ × ℕ)) → node_at lo hi s x ≡ Some (Inner first (record { items = branches })) → child_for key first branches ≤ hi
child_within lo hi s key x first branches is =
    let child = child_for key first branches in
    let within = one_passes (is_child lo hi) key first branches (sound_children lo hi s x (Inner first (record { items = branches })) is) in
    leb-true child hi (both_true (nat_lt lo child) (nat_le child hi) within).1

full_goes_on : (seen : Option Full) (b : Bool) (f : Full) (rest : Option Full) → first_of seen (if b then Some f else rest) ≡ first_of (first_of seen (if b then Some f else None)) rest
full_goes_on None true f rest = refl
full_goes_on None false f rest = refl
full_goes_on (Some g) b f rest = refl

-- a way goes on below an inner node
met_goes_on : (seen : Option Full) (parent : Option ℕ) (x : ℕ) (node : Node) (below : Result Way ℕ)
    → way_end seen parent (with_met (record { object = x; node = node }) below) ≡ way_end (first_of seen (full_here parent x node)) (Some x) below
met_goes_on seen parent x node (Err bad) = refl
met_goes_on seen parent x node (Ok way) =
    ap (λ (f : Option Full). Ok (record { leaf = way.object; pairs = record { items = way.pairs }; full = f }))
    (full_goes_on seen (is_full node) (record { parent = parent; child = x }) (first_full (Some x) (steps_of way)))

pub goes_below : (lo hi : ℕ) (s : State) (key : List ℕ) (n x first : ℕ) (branches : List (List ℕ × ℕ)) (seen : Option Full) (parent : Option ℕ)
    → node_at lo hi s x ≡ Some (Inner first (record { items = branches }))
    → way_end seen parent (walk_from lo hi s key (suc n) x)
    ≡ way_end (first_of seen (full_here parent x (Inner first (record { items = branches })))) (Some x) (walk_from lo hi s key n (child_for key first branches))
goes_below lo hi s key n x first branches seen parent is =
    ap (λ (o : Option Node). way_end seen parent (walk_at (λ y. walk_from lo hi s key n y) key x o)) is
    ∙ met_goes_on seen parent x (Inner first (record { items = branches })) (walk_from lo hi s key n (child_for key first branches))

-- what a node that was read says of the state
pub node_found : (x : ℕ) (o : Option Node) (node : Node) → Ok node ≡ node_answer x o → o ≡ Some node
node_found x None node is = cc
node_found x (Some n) node is = cc is

pub node_bad : (x : ℕ) (o : Option Node) (e : TreeErr) → Err e ≡ node_answer x o → (o ≡ None) × (e ≡ bad_tree x)
node_bad x None e is = (refl, cc is)
node_bad x (Some n) e is = cc

-- one object less is left of the way
pub one_less : (all step : ℕ) → step < all → all - step ≡ suc (all - (step + 1))
one_less all step below = omega (arith, below)

-- what the code has found of a node
below_is : (key : List ℕ) (o : Option Node) (b : Below) → Some b ≡ below_in key o
    → (first : ℕ) × (branches : List (List ℕ × ℕ)) × (o ≡ Some (Inner first (record { items = branches }))) × (b.child ≡ child_for key first branches) × (b.full ≡ is_full (Inner first (record { items = branches })))
below_is key None b is = cc
below_is key (Some (Leaf pairs)) b is = cc
below_is key (Some (Inner first branches)) b is =
    let same = same_some b (record { child = child_for key first branches.items; full = is_full (Inner first branches) }) is in
    (first, branches.items, refl, ap (λ (c : Below). c.child) same, ap (λ (c : Below). c.full) same)

pub below_within : (lo hi : ℕ) (s : State) (key : List ℕ) (x : ℕ) (b : Below) → Some b ≡ below_in key (node_at lo hi s x) → b.child ≤ hi
below_within lo hi s key x b is =
    let found = below_is key (node_at lo hi s x) b is in
    subst (λ (y : ℕ). y ≤ hi) (sym found.3) (child_within lo hi s key x found.0 found.1 found.2)

pub goes_on_below : (lo hi : ℕ) (s : State) (key : List ℕ) (step x : ℕ) (seen : Option Full) (parent : Option ℕ) (b : Below) (full : Option Full) → step < size lo hi
    → Some b ≡ below_in key (node_at lo hi s x) → full ≡ first_of seen (full_at parent x b.full)
    → way_end seen parent (walk_from lo hi s key (size lo hi - step) x) ≡ way_end full (Some x) (walk_from lo hi s key (size lo hi - (step + 1)) b.child)
goes_on_below lo hi s key step x seen parent b full turn is noted =
    let found = below_is key (node_at lo hi s x) b is in
    let first = found.0 in
    let branches = found.1 in
    let rest = size lo hi - (step + 1) in
    let same : full ≡ first_of seen (full_here parent x (Inner first (record { items = branches }))) = noted ∙ ap (λ (f : Bool). first_of seen (full_at parent x f)) found.4 in
    ap (λ (n : ℕ). way_end seen parent (walk_from lo hi s key n x)) (one_less (size lo hi) step turn)
    ∙ goes_below lo hi s key rest x first branches seen parent found.2
    ∙ ap (λ (f : Option Full). way_end f (Some x) (walk_from lo hi s key rest (child_for key first branches))) (sym same)
    ∙ ap (λ (y : ℕ). way_end full (Some x) (walk_from lo hi s key rest y)) (sym found.3)

ends_at_no_inner : (on : ℕ → Result Way ℕ) (key : List ℕ) (x : ℕ) (seen : Option Full) (parent : Option ℕ) (o : Option Node) → None ≡ below_in key o
    → leaf_end seen parent x o ≡ way_end seen parent (walk_at on key x o)
ends_at_no_inner on key x seen parent None none = refl
ends_at_no_inner on key x seen parent (Some (Leaf pairs)) none = refl
ends_at_no_inner on key x seen parent (Some (Inner first branches)) none = cc

pub ends_here : (lo hi : ℕ) (s : State) (key : List ℕ) (step x : ℕ) (seen : Option Full) (parent : Option ℕ) → step < size lo hi → None ≡ below_in key (node_at lo hi s x)
    → leaf_end seen parent x (node_at lo hi s x) ≡ way_end seen parent (walk_from lo hi s key (size lo hi - step) x)
ends_here lo hi s key step x seen parent turn none =
    ends_at_no_inner (λ y. walk_from lo hi s key (size lo hi - (step + 1)) y) key x seen parent (node_at lo hi s x) none
    ∙ sym (ap (λ (n : ℕ). way_end seen parent (walk_from lo hi s key n x)) (one_less (size lo hi) step turn))

-- where a node was read, a leaf ends the way, and what is no node is bad
pub leaf_ends : (o : Option Node) (x : ℕ) (node : Node) (pairs : ArrayVec (List ℕ × List ℕ)) (full seen : Option Full) (parent : Option ℕ) (is : Bool) → Ok node ≡ node_answer x o → node ≡ Leaf pairs
    → is ≡ is_full node → full ≡ first_of seen (full_at parent x is) → Ok (record { leaf = x; pairs = pairs; full = full }) ≡ leaf_end seen parent x o
leaf_ends o x node pairs full seen parent is read leaf told noted =
    let found : o ≡ Some (Leaf pairs) = node_found x o node read ∙ ap (λ (n : Node). Some n) leaf in
    ap (λ (f : Option Full). Ok (record { leaf = x; pairs = pairs; full = f })) (noted ∙ ap (λ (f : Bool). first_of seen (full_at parent x f)) (told ∙ ap (λ (n : Node). is_full n) leaf))
    ∙ ap (λ (q : Option Node). leaf_end seen parent x q) (sym found)

pub inner_ends_not : (o : Option Node) (x : ℕ) (node : Node) (first : ℕ) (branches : ArrayVec (List ℕ × ℕ)) (seen : Option Full) (parent : Option ℕ) → Ok node ≡ node_answer x o → node ≡ Inner first branches
    → Err (bad_tree x) ≡ leaf_end seen parent x o
inner_ends_not o x node first branches seen parent read inner =
    ap (λ (q : Option Node). leaf_end seen parent x q) (sym (node_found x o node read ∙ ap (λ (n : Node). Some n) inner))

pub bad_ends : (o : Option Node) (x : ℕ) (e : TreeErr) (seen : Option Full) (parent : Option ℕ) → Err e ≡ node_answer x o → Err e ≡ leaf_end seen parent x o
bad_ends o x e seen parent read =
    let bad = node_bad x o e read in
    ap (λ (c : TreeErr). Err c) bad.1 ∙ ap (λ (q : Option Node). leaf_end seen parent x q) (sym bad.0)

-- what was answered, by cases
pub no_below : (found o : Option Below) → ◌≡◌ {A = Result (Option Below) TreeErr} (Ok found) (Ok o) → found ≡ None → None ≡ o
no_below found o told is = cc

pub some_below : (found : Option Below) (b : Below) (o : Option Below) → ◌≡◌ {A = Result (Option Below) TreeErr} (Ok found) (Ok o) → found ≡ Some b → Some b ≡ o
some_below found b o told is = cc

pub told_no_error : (e : TreeErr) (o : Option Below) (x : Result WayEnd TreeErr) → ◌≡◌ {A = Result (Option Below) TreeErr} (Err e) (Ok o) → Err e ≡ x
told_no_error e o x is = cc

pub at_end : (lo hi : ℕ) (s : State) (key : List ℕ) (n x : ℕ) (seen : Option Full) (parent : Option ℕ) → n ≡ 0 → way_end seen parent (walk_from lo hi s key n x) ≡ Err (bad_tree x)
at_end lo hi s key n x seen parent none = ap (λ (k : ℕ). way_end seen parent (walk_from lo hi s key k x)) none
