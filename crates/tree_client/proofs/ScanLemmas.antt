-- A scan, one object after the other.
use Rattle.std.proofs.Common.{◌≡◌, ◌≤◌, ◌<◌, refl, sym, ap, ◌∙◌, subst, ℕ, zero, suc, ◌+◌, ◌-◌, ◌*◌, ◌^◌, Bool, true, false, Option, None, Some, Result, Ok, Err, List, [], ◌∷◌, ◌++◌, if◌then◌else◌, length, map, filter, fold, append-nil, append_assoc, arith}
use Rattle.std.proofs.Common.{lit<, get_or, drop, drop-cons}
use Rattle.std.specs.Prelude.{cond}
use Rattle.std.proofs.lemmas.List.{drop_all}
use Rattle.std.proofs.Math.Nat.{mul-le-mul_right, pow-succ', one-mul, suc-mul}
use Rattle.std.specs.Prelude.{IsTrue, nat_le, nat_lt, ◌==◌, OnOk, IfErr, slice_index_or}
use Rattle.std.specs.List.{remove}
use Rattle.std.specs.List.{list_all}
use Rattle.std.specs.Ordering.{is_lt}
use Rattle.std.proofs.lemmas.Bool.{cond-true, cond-false, leb-true, ne_eqb}
use Rattle.arrayvec.specs.ArrayVec.{ArrayVec}
use Rattle.oper_core.specs.State.{State}
use Rattle.key_entries.specs.Entries.{byte_order}
use Rattle.key_entries.specs.EntryLaws.{both_true, true_both}
use Rattle.btree_ops.specs.declared.node.Node.{Node}
use Rattle.btree_ops.specs.declared.node.Node.TheVariants.{Leaf, Inner}
use Rattle.logical_btree.specs.Walk.{Pair, Span, both_pairs, is_child, is_within, node_at, scan, scan_at, scan_child, scan_children, scan_from}
use Rattle.oper_core.specs.declared.bounds.Bounds.{Bounds}
use Rattle.logical_btree.specs.Plan.{is_there, range_answer, range_on}
use Rattle.logical_btree.specs.declared.refusal.TreeRefusal.TheVariants as refusals
use Rattle.tree_client.specs.Answers.{told}
use Rattle.tree_client.specs.Finding.{node_answer}
use Rattle.tree_client.specs.Scanning.{AreWithin, GoesOn, IsBad, child_scan, objects_in, part_scan, span, stack_scan, weight, weight_of}
use Rattle.tree_client.specs.declared.part.Part.{Part}
use Rattle.tree_client.specs.Answers.{TreeErr}
use Rattle.tree_client.specs.Answers.{bad_tree}
use Rattle.tree_client.proofs.PlanLemmas.{is_past}
use Rattle.tree_client.proofs.WalkLemmas.{node_bad, sound_children}

Scanned : Type 0
Scanned = Result (List Pair) ℕ

both_assoc : (a b c : Result (List Pair) ℕ) → both_pairs (both_pairs a b) c ≡ both_pairs a (both_pairs b c)
both_assoc (Err x) b c = refl
both_assoc (Ok x) (Err y) c = refl
both_assoc (Ok x) (Ok y) (Err z) = refl
both_assoc (Ok x) (Ok y) (Ok z) = ap (λ (l : List Pair). Ok l) (append_assoc x y z)

both_none : (r : Result (List Pair) ℕ) → both_pairs (Ok []) r ≡ r
both_none (Err x) = refl
both_none (Ok x) = refl

all_append : {X : Type 0} (test : X → Bool) (xs ys : List X) → IsTrue (list_all test xs) → IsTrue (list_all test ys) → IsTrue (list_all test (xs ++ ys))
all_append test [] ys a b = b
all_append test (x ∷ xs) ys a b =
    let parts = both_true (test x) (list_all test xs) a in true_both (test x) (list_all test (xs ++ ys)) parts.0 (all_append test xs ys parts.1 b)

pub all_front : {X : Type 0} (test : X → Bool) (xs ys : List X) → IsTrue (list_all test (xs ++ ys)) → IsTrue (list_all test xs)
all_front test [] ys a = refl
all_front test (x ∷ xs) ys a =
    let parts = both_true (test x) (list_all test (xs ++ ys)) a in true_both (test x) (list_all test xs) parts.0 (all_front test xs ys parts.1)

pub all_behind : {X : Type 0} (test : X → Bool) (xs ys : List X) → IsTrue (list_all test (xs ++ ys)) → IsTrue (list_all test ys)
all_behind test [] ys a = a
all_behind test (x ∷ xs) ys a = all_behind test xs ys (both_true (test x) (list_all test (xs ++ ys)) a).1

fold_more : {X Y : Type 0} (f : Y → X → Y) (y : Y) (l : List X) (x : X) → fold f y (l ++ x ∷ []) ≡ f (fold f y l) x
fold_more f y [] x = refl
fold_more f y (z ∷ l) x = fold_more f (f y z) l x

weight_more : (parts : List Part) (part : Part) → weight (parts ++ part ∷ []) ≡ weight parts + weight_of part
weight_more [] part = omega arith
weight_more (x ∷ parts) part = let rest = weight_more parts part in omega (arith, rest)

-- ---- the pairs of a leaf

filter_one : {X : Type 0} (test : X → Bool) (x : X) (rest : List X) → filter test (x ∷ []) ++ filter test rest ≡ filter test (x ∷ rest)
filter_one test x rest = by_test (test x)
  where
    by_test : (b : Bool) → cond b (x ∷ []) [] ++ filter test rest ≡ cond b (x ∷ filter test rest) (filter test rest)
    by_test true = refl
    by_test false = refl

-- one pair more is looked at
pub pair_taken : (test : Pair → Bool) (leaf : List Pair) (i : ℕ) (x : Pair) (pairs more old : List Pair) → i < length leaf → x ≡ get_or leaf i x → more ≡ pairs ++ filter test (x ∷ [])
    → pairs ++ filter test (drop i leaf) ≡ old ++ filter test leaf → more ++ filter test (drop (i + 1) leaf) ≡ old ++ filter test leaf
pair_taken test leaf i x pairs more old below is kept so_far =
    let one : suc i ≡ i + 1 = omega arith in
    let front : drop i leaf ≡ x ∷ drop (i + 1) leaf = drop-cons leaf i x below ∙ ap (λ (y : Pair). y ∷ drop (suc i) leaf) (sym is) ∙ ap (λ (n : ℕ). x ∷ drop n leaf) one in
    ap (λ (l : List Pair). l ++ filter test (drop (i + 1) leaf)) kept
    ∙ append_assoc pairs (filter test (x ∷ [])) (filter test (drop (i + 1) leaf))
    ∙ ap (λ (l : List Pair). pairs ++ l) (filter_one test x (drop (i + 1) leaf) ∙ ap (filter test) (sym front))
    ∙ so_far

pub pairs_all : (test : Pair → Bool) (leaf : List Pair) (i : ℕ) (pairs old : List Pair) → length leaf ≤ i → pairs ++ filter test (drop i leaf) ≡ old ++ filter test leaf → pairs ≡ old ++ filter test leaf
pairs_all test leaf i pairs old past so_far =
    let none : drop i leaf ≡ [] = drop_all i leaf past in sym (append-nil pairs) ∙ ap (λ (l : List Pair). pairs ++ filter test l) (sym none) ∙ so_far

-- ---- what is left to be met

some_power : (d : ℕ) → 0 < 9 ^ d
some_power zero = lit< tt
some_power (suc d) = let more = pow-succ' 9 d in let rest = some_power d in omega (arith, more, rest)

-- at most 8 children weigh less than the one above them
lighter_children : (n d : ℕ) → n ≤ 7 → suc n * 9 ^ d < 9 ^ suc d
lighter_children n d few =
    let more = pow-succ' 9 d in
    let some = some_power d in
    let all : suc n * 9 ^ d ≤ 8 * 9 ^ d = mul-le-mul_right (9 ^ d) (omega (arith, few)) in
    omega (arith, more, some, all)

-- an inner node is put on the stack
pub lighter_with : (parts : List Part) (part : Part) (d : ℕ) → length part.branches.items ≤ 7 → d ≡ suc part.depth → weight (parts ++ part ∷ []) < weight parts + 9 ^ d
lighter_with parts part d few is =
    let all = weight_more parts part in
    let less = lighter_children (length part.branches.items) part.depth few in
    subst (λ (n : ℕ). weight (parts ++ part ∷ []) < weight parts + 9 ^ n) (sym is) (omega (arith, all, less))

-- nothing is
pub lighter_without : (parts : List Part) (d : ℕ) → weight parts < weight parts + 9 ^ d
lighter_without parts d = let some = some_power d in omega (arith, some)

-- the first child of a part is taken off, and the others are put back
pub weight_split : (parts : List Part) (part other : Part) (b : List ℕ × ℕ) (branches : List (List ℕ × ℕ)) → part.branches.items ≡ b ∷ branches → other.branches.items ≡ branches → other.depth ≡ part.depth
    → weight (parts ++ other ∷ []) + 9 ^ part.depth ≡ weight parts + weight_of part
weight_split parts part other b branches is rest depth =
    let all = weight_more parts other in
    let one : weight_of other ≡ suc (length branches) * 9 ^ part.depth = ap (λ (l : List (List ℕ × ℕ)). suc (length l) * 9 ^ other.depth) rest ∙ ap (λ (d : ℕ). suc (length branches) * 9 ^ d) depth in
    let two : weight_of part ≡ suc (suc (length branches)) * 9 ^ part.depth = ap (λ (l : List (List ℕ × ℕ)). suc (length l) * 9 ^ part.depth) is in
    let step : suc (suc (length branches)) * 9 ^ part.depth ≡ suc (length branches) * 9 ^ part.depth + 9 ^ part.depth = suc-mul (suc (length branches)) (9 ^ part.depth) in
    omega (arith, all, one, two, step)

-- a part without branches weighs one child
pub weight_last : (part : Part) → part.branches.items ≡ [] → weight_of part ≡ 9 ^ part.depth
weight_last part none = ap (λ (l : List (List ℕ × ℕ)). suc (length l) * 9 ^ part.depth) none ∙ one-mul (9 ^ part.depth)

module _ (lo hi : ℕ) (s : State) where
  abbrev st : List Part → Result (List Pair) ℕ
  st parts = stack_scan lo hi s parts

  stack_more : (parts : List Part) (part : Part) → stack_scan lo hi s (parts ++ part ∷ []) ≡ both_pairs (part_scan lo hi s part) (stack_scan lo hi s parts)
  stack_more parts part = fold_more (λ rest part. both_pairs (part_scan lo hi s part) rest) (Ok []) parts part

  -- a leaf is met
  pub leaf_goes : (d x : ℕ) (keys : Span) (leaf : List Pair) (parts : List Part) (pairs more : List Pair) → node_at lo hi s x ≡ Some (Leaf (record { items = leaf }))
      → more ≡ pairs ++ filter (λ e. is_within e.0 keys) leaf → AreWithin lo hi parts → GoesOn lo hi s (scan_from lo hi s (suc d) keys x) parts pairs parts more
  leaf_goes d x keys leaf parts pairs more node is within =
      let found = filter (λ e. is_within e.0 keys) leaf in
      let now : scan_from lo hi s (suc d) keys x ≡ Ok found = ap (λ (o : Option Node). scan_at (λ y part. scan_from lo hi s d part y) keys x o) node in
      record {
        same =
            ap (λ (r : Result (List Pair) ℕ). both_pairs (Ok pairs) (both_pairs r (stack_scan lo hi s parts))) now
            ∙ sym (both_assoc (Ok pairs) (Ok found) (stack_scan lo hi s parts))
            ∙ ap (λ (l : List Pair). both_pairs (Ok l) (stack_scan lo hi s parts)) (sym is);
        within = within;
      }

  -- an inner node is met
  pub inner_goes : (d x child : ℕ) (branches : List (List ℕ × ℕ)) (from to : List ℕ) (parts : List Part) (pairs : List Pair) → node_at lo hi s x ≡ Some (Inner child (record { items = branches }))
      → AreWithin lo hi parts
      → GoesOn lo hi s (scan_from lo hi s (suc d) (span from to) x) parts pairs (parts ++ record { child = child; branches = record { items = branches }; depth = d; from = from; to = to } ∷ []) pairs
  inner_goes d x child branches from to parts pairs node within =
      let part : Part = record { child = child; branches = record { items = branches }; depth = d; from = from; to = to } in
      let now : scan_from lo hi s (suc d) (span from to) x ≡ part_scan lo hi s part = ap (λ (o : Option Node). scan_at (λ y keys. scan_from lo hi s d keys y) (span from to) x o) node in
      record {
        same = ap (λ (r : Result (List Pair) ℕ). both_pairs (Ok pairs) (both_pairs r (stack_scan lo hi s parts))) now ∙ ap (λ (r : Result (List Pair) ℕ). both_pairs (Ok pairs) r) (sym (stack_more parts part));
        within = all_append (λ part. list_all (is_child lo hi) (objects_in part)) parts (part ∷ []) within (true_both _ _ (sound_children lo hi s x (Inner child (record { items = branches })) node) refl);
      }

  -- a bad object is met
  pub bad_goes : (d x : ℕ) (keys : Span) → node_at lo hi s x ≡ None → scan_from lo hi s (suc d) keys x ≡ Err x
  bad_goes d x keys node = ap (λ (o : Option Node). scan_at (λ y part. scan_from lo hi s d part y) keys x o) node

  -- the last child of a part
  pub last_child : (part : Part) → part.branches.items ≡ [] → part_scan lo hi s part ≡ scan_child (λ y keys. scan_from lo hi s part.depth keys y) (span part.from part.to) part.child
  last_child part none = ap (λ (l : List (List ℕ × ℕ)). scan_children (λ y keys. scan_from lo hi s part.depth keys y) (span part.from part.to) part.child l) none

  -- a child whose keys can be among those asked for
  pub child_asked : (depth child : ℕ) (from to : List ℕ) → is_lt (byte_order from to) ≡ true → scan_child (λ y keys. scan_from lo hi s depth keys y) (span from to) child ≡ scan_from lo hi s depth (span from to) child
  child_asked depth child from to is = cond-true (is_lt (byte_order from to)) (scan_from lo hi s depth (span from to) child) (Ok []) is

  pub child_passed : (depth child : ℕ) (from to : List ℕ) → is_lt (byte_order from to) ≡ false → scan_child (λ y keys. scan_from lo hi s depth keys y) (span from to) child ≡ Ok []
  child_passed depth child from to is = cond-false (is_lt (byte_order from to)) (scan_from lo hi s depth (span from to) child) (Ok []) is

  -- the rest of a part, its first child taken off
  pub first_child : (part : Part) (b : List ℕ × ℕ) (branches : List (List ℕ × ℕ)) → part.branches.items ≡ b ∷ branches → (other : Part) → other.child ≡ b.1 → other.branches.items ≡ branches → other.depth ≡ part.depth
      → other.from ≡ (if is_lt (byte_order part.from b.0) then b.0 else part.from) → other.to ≡ part.to
      → part_scan lo hi s part
      ≡ both_pairs (scan_child (λ y keys. scan_from lo hi s part.depth keys y) (span part.from (if is_lt (byte_order b.0 part.to) then b.0 else part.to)) part.child) (part_scan lo hi s other)
  first_child part b branches is other child rest depth from to =
      ap (λ (l : List (List ℕ × ℕ)). scan_children (λ y keys. scan_from lo hi s part.depth keys y) (span part.from part.to) part.child l) is
      ∙ ap (λ (r : Result (List Pair) ℕ). both_pairs (scan_child (λ y keys. scan_from lo hi s part.depth keys y) (span part.from (if is_lt (byte_order b.0 part.to) then b.0 else part.to)) part.child) r)
      (sym (
      ap (λ (d : ℕ). scan_children (λ y keys. scan_from lo hi s d keys y) (span other.from other.to) other.child other.branches.items) depth
      ∙ ap (λ (k : List ℕ). scan_children (λ y keys. scan_from lo hi s part.depth keys y) (span k other.to) other.child other.branches.items) from
      ∙ ap (λ (k : List ℕ). scan_children (λ y keys. scan_from lo hi s part.depth keys y) (span (if is_lt (byte_order part.from b.0) then b.0 else part.from) k) other.child other.branches.items) to
      ∙ ap (λ (x : ℕ). scan_children (λ y keys. scan_from lo hi s part.depth keys y) (span (if is_lt (byte_order part.from b.0) then b.0 else part.from) part.to) x other.branches.items) child
      ∙ ap (λ (l : List (List ℕ × ℕ)). scan_children (λ y keys. scan_from lo hi s part.depth keys y) (span (if is_lt (byte_order part.from b.0) then b.0 else part.from) part.to) b.1 l) rest
      ))

  -- what is met now comes to the first child, where the others are on the stack
  pub goes_behind : (now : Result (List Pair) ℕ) (part other : Part) (parts : List Part) (pairs : List Pair) (after : List Part) (more : List Pair) → part_scan lo hi s part ≡ both_pairs now (part_scan lo hi s other)
      → GoesOn lo hi s now (parts ++ other ∷ []) pairs after more → GoesOn lo hi s (part_scan lo hi s part) parts pairs after more
  goes_behind now part other parts pairs after more is goes = record {
    same =
        ap (λ (r : Result (List Pair) ℕ). both_pairs (Ok pairs) (both_pairs r (stack_scan lo hi s parts))) is
        ∙ ap (λ (r : Result (List Pair) ℕ). both_pairs (Ok pairs) r) (both_assoc now (part_scan lo hi s other) (stack_scan lo hi s parts))
        ∙ ap (λ (r : Result (List Pair) ℕ). both_pairs (Ok pairs) (both_pairs now r)) (sym (stack_more parts other))
        ∙ goes.same;
    within = goes.within;
  }

  -- nothing is met
  pub passes : (parts : List Part) (pairs : List Pair) → AreWithin lo hi parts → GoesOn lo hi s (Ok []) parts pairs parts pairs
  passes parts pairs within = record { same = ap (λ (r : Result (List Pair) ℕ). both_pairs (Ok pairs) r) (both_none (stack_scan lo hi s parts)); within = within }

  pub goes_as : (now as_one : Result (List Pair) ℕ) (parts : List Part) (pairs : List Pair) (after : List Part) (more : List Pair) → now ≡ as_one → GoesOn lo hi s as_one parts pairs after more → GoesOn lo hi s now parts pairs after more
  goes_as now as_one parts pairs after more is goes = subst (λ (r : Result (List Pair) ℕ). GoesOn lo hi s r parts pairs after more) (sym is) goes

  -- ---- the same with what the code has found

  pub leaf_met : (depth x : ℕ) (from to : List ℕ) (leaf : ArrayVec Pair) (parts : List Part) (pairs more : List Pair) → 0 < depth → node_at lo hi s x ≡ Some (Leaf leaf)
      → more ≡ pairs ++ filter (λ e. is_within e.0 (span from to)) leaf.items → AreWithin lo hi parts → GoesOn lo hi s (scan_from lo hi s depth (span from to) x) parts pairs parts more
  leaf_met depth x from to leaf parts pairs more some node is within =
      let below : suc (depth - 1) ≡ depth = omega (arith, some) in
      subst (λ (d : ℕ). GoesOn lo hi s (scan_from lo hi s d (span from to) x) parts pairs parts more) below (leaf_goes (depth - 1) x (span from to) leaf.items parts pairs more node is within)

  pub inner_met : (depth x : ℕ) (part : Part) (parts after : List Part) (pairs : List Pair) → 0 < depth → node_at lo hi s x ≡ Some (Inner part.child part.branches) → part.depth ≡ depth - 1
      → after ≡ parts ++ part ∷ [] → AreWithin lo hi parts → GoesOn lo hi s (scan_from lo hi s depth (span part.from part.to) x) parts pairs after pairs
  inner_met depth x part parts after pairs some node is pushed within =
      let below : suc part.depth ≡ depth = omega (arith, some, is) in
      subst (λ (l : List Part). GoesOn lo hi s (scan_from lo hi s depth (span part.from part.to) x) parts pairs l pairs) (sym pushed)
      (subst (λ (d : ℕ). GoesOn lo hi s (scan_from lo hi s d (span part.from part.to) x) parts pairs (parts ++ part ∷ []) pairs) below
      (inner_goes part.depth x part.child part.branches.items part.from part.to parts pairs node within))

  pub out_of_depth : (depth x : ℕ) (keys : Span) → depth ≡ 0 → IsBad (scan_from lo hi s depth keys x) (bad_tree x)
  out_of_depth depth x keys none = (x, ap (λ (d : ℕ). scan_from lo hi s d keys x) none, refl)

  pub bad_met : (depth x : ℕ) (keys : Span) (e : TreeErr) → 0 < depth → Err e ≡ node_answer x (node_at lo hi s x) → IsBad (scan_from lo hi s depth keys x) e
  bad_met depth x keys e some is =
      let bad = node_bad x (node_at lo hi s x) e is in
      let below : suc (depth - 1) ≡ depth = omega (arith, some) in (x, ap (λ (d : ℕ). scan_from lo hi s d keys x) (sym below) ∙ bad_goes (depth - 1) x keys bad.0, bad.1)

  -- a child whose keys are asked for comes to what is below it, another to nothing
  pub asked_goes : (depth child : ℕ) (from to : List ℕ) (parts : List Part) (pairs : List Pair) (after : List Part) (more : List Pair) → true ≡ is_lt (byte_order from to)
      → GoesOn lo hi s (scan_from lo hi s depth (span from to) child) parts pairs after more → GoesOn lo hi s (child_scan lo hi s depth from to child) parts pairs after more
  asked_goes depth child from to parts pairs after more is goes = goes_as _ _ parts pairs after more (child_asked depth child from to (sym is)) goes

  pub asked_bad : (depth child : ℕ) (from to : List ℕ) (e : TreeErr) → true ≡ is_lt (byte_order from to) → IsBad (scan_from lo hi s depth (span from to) child) e → IsBad (child_scan lo hi s depth from to child) e
  asked_bad depth child from to e is bad = (bad.0, child_asked depth child from to (sym is) ∙ bad.1, bad.2)

  pub passed_goes : (depth child : ℕ) (from to : List ℕ) (parts : List Part) (pairs : List Pair) → false ≡ is_lt (byte_order from to) → AreWithin lo hi parts → GoesOn lo hi s (child_scan lo hi s depth from to child) parts pairs parts pairs
  passed_goes depth child from to parts pairs is within = goes_as _ _ parts pairs parts pairs (child_passed depth child from to (sym is)) (passes parts pairs within)

  -- the last child of a part is met
  pub last_goes : (part : Part) (parts : List Part) (pairs : List Pair) (after : List Part) (more : List Pair) → part.branches.items ≡ []
      → GoesOn lo hi s (child_scan lo hi s part.depth part.from part.to part.child) parts pairs after more → GoesOn lo hi s (part_scan lo hi s part) parts pairs after more
  last_goes part parts pairs after more none goes = goes_as _ _ parts pairs after more (last_child part none) goes

  pub last_bad : (part : Part) (e : TreeErr) → part.branches.items ≡ [] → IsBad (child_scan lo hi s part.depth part.from part.to part.child) e → IsBad (part_scan lo hi s part) e
  last_bad part e none bad = (bad.0, last_child part none ∙ bad.1, bad.2)

-- the objects of a part stand in the range
pub part_within : (lo hi : ℕ) (parts : List Part) (part : Part) → AreWithin lo hi (parts ++ part ∷ []) → part.child ≤ hi
part_within lo hi parts part within =
    let own = both_true (list_all (is_child lo hi) (objects_in part)) true (all_behind (λ part. list_all (is_child lo hi) (objects_in part)) parts (part ∷ []) within) in
    let first = both_true (is_child lo hi part.child) (list_all (is_child lo hi) (map (λ b. b.1) part.branches.items)) own.0 in
    leb-true part.child hi (both_true (nat_lt lo part.child) (nat_le part.child hi) first.0).1

pub parts_within : (lo hi : ℕ) (parts : List Part) (part : Part) → AreWithin lo hi (parts ++ part ∷ []) → AreWithin lo hi parts
parts_within lo hi parts part within = all_front (λ part. list_all (is_child lo hi) (objects_in part)) parts (part ∷ []) within

-- what follows where a call is done, or where it is refused
pub on_ok : {T E P Q : Type 0} (r : Result T E) → (P → Q) → OnOk r P → OnOk r Q
on_ok (Ok value) f is = f is
on_ok (Err e) f is = tt

pub if_err : {T : Type 0} {P Q : TreeErr → Type 0} (r : Result T TreeErr) → ((e : TreeErr) → P e → Q e) → IfErr r P → IfErr r Q
if_err (Ok value) f is = tt
if_err (Err e) f is = f e is

-- no branch is left, or a first one is taken off
pub no_branch : {X : Type 0} (l : List X) → true ≡ (length l == 0) → l ≡ []
no_branch [] is = refl
no_branch (x ∷ l) is = absurd (cc (is, ne_eqb (length (x ∷ l)) 0 (λ e. omega (arith, e))))

pub first_taken : {X : Type 0} (l rest : List X) (b : X) → false ≡ (length l == 0) → b ≡ slice_index_or l 0 b → rest ≡ remove l 0 → l ≡ b ∷ rest
first_taken [] rest b is first others = absurd (cc is)
first_taken (x ∷ l) rest b is first others = λ i. sym first i ∷ sym others i

module _ (lo hi : ℕ) (s : State) (part other : Part) (b : List ℕ × ℕ) (rest : List (List ℕ × ℕ)) (is : part.branches.items ≡ b ∷ rest) (child : other.child ≡ b.1) (others : other.branches.items ≡ rest) (depth : other.depth ≡ part.depth)
    (from : other.from ≡ (if is_lt (byte_order part.from b.0) then b.0 else part.from)) (to : other.to ≡ part.to) (end : List ℕ) (ends : end ≡ (if is_lt (byte_order b.0 part.to) then b.0 else part.to)) where
  split_part : part_scan lo hi s part ≡ both_pairs (child_scan lo hi s part.depth part.from end part.child) (part_scan lo hi s other)
  split_part =
      first_child lo hi s part b rest is other child others depth from to
      ∙ ap (λ (k : List ℕ). both_pairs (child_scan lo hi s part.depth part.from k part.child) (part_scan lo hi s other)) (sym ends)

  pub rest_goes : (parts pushed after : List Part) (pairs more : List Pair) → pushed ≡ parts ++ other ∷ [] → GoesOn lo hi s (child_scan lo hi s part.depth part.from end part.child) pushed pairs after more
      → GoesOn lo hi s (part_scan lo hi s part) parts pairs after more
  rest_goes parts pushed after pairs more put goes =
      goes_behind lo hi s (child_scan lo hi s part.depth part.from end part.child) part other parts pairs after more split_part
      (subst (λ (l : List Part). GoesOn lo hi s (child_scan lo hi s part.depth part.from end part.child) l pairs after more) put goes)

  pub rest_bad : (e : TreeErr) → IsBad (child_scan lo hi s part.depth part.from end part.child) e → IsBad (part_scan lo hi s part) e
  rest_bad e bad = (bad.0, split_part ∙ ap (λ (r : Result (List Pair) ℕ). both_pairs r (part_scan lo hi s other)) bad.1, bad.2)

  pub rest_within : (parts pushed : List Part) → pushed ≡ parts ++ other ∷ [] → AreWithin lo hi (parts ++ part ∷ []) → AreWithin lo hi pushed
  rest_within parts pushed put within =
      let test : Part → Bool = λ part. list_all (is_child lo hi) (objects_in part) in
      let own = both_true (test part) true (all_behind test parts (part ∷ []) within) in
      let named = both_true (is_child lo hi part.child) (list_all (is_child lo hi) (map (λ b. b.1) part.branches.items)) own.0 in
      let both = both_true (is_child lo hi b.1) (list_all (is_child lo hi) (map (λ b. b.1) rest)) (subst (λ (l : List (List ℕ × ℕ)). IsTrue (list_all (is_child lo hi) (map (λ b. b.1) l))) is named.1) in
      let one : IsTrue (test other) = true_both (is_child lo hi other.child) (list_all (is_child lo hi) (map (λ b. b.1) other.branches.items))
      (subst (λ (x : ℕ). IsTrue (is_child lo hi x)) (sym child) both.0) (subst (λ (l : List (List ℕ × ℕ)). IsTrue (list_all (is_child lo hi) (map (λ b. b.1) l))) (sym others) both.1) in
      subst (λ (l : List Part). AreWithin lo hi l) (sym put) (all_append test parts (other ∷ []) (all_front test parts (part ∷ []) within) (true_both (test other) true one refl))

  pub rest_lighter : (parts pushed after : List Part) → pushed ≡ parts ++ other ∷ [] → weight after < weight pushed + 9 ^ part.depth → weight after < weight parts + weight_of part
  rest_lighter parts pushed after put less =
      let all = weight_split parts part other b rest is others depth in
      let same = ap weight put in
      omega (arith, all, same, less)

-- ---- the whole scan

both_end : (r : Result (List Pair) ℕ) → both_pairs r (Ok []) ≡ r
both_end (Err x) = refl
both_end (Ok x) = ap (λ (l : List Pair). Ok l) (append-nil x)

module _ (b : Bounds) (lo hi : ℕ) (s : State) (from to : List ℕ) where
  abbrev scanned : Result (List Pair) ℕ
  scanned = scan lo hi s (span from to)

  pub range_past : b.objects ≤ hi → range_answer b lo hi s from to ≡ Err refusals.NoObject
  range_past past = cond-false (is_there b lo hi) (range_on (scan lo hi s (span from to))) (Err refusals.NoObject) (is_past b lo hi past)

  range_there : is_there b lo hi ≡ true → range_answer b lo hi s from to ≡ range_on (scan lo hi s (span from to))
  range_there there = cond-true (is_there b lo hi) (range_on (scan lo hi s (span from to))) (Err refusals.NoObject) there

  pub range_bad : is_there b lo hi ≡ true → (e : TreeErr) → IsBad (scan lo hi s (span from to)) e → told (range_answer b lo hi s from to) ≡ Err e
  range_bad there e bad = ap told (range_there there ∙ ap range_on bad.1) ∙ ap (λ (x : TreeErr). Err x) (sym bad.2)

  pub range_found : is_there b lo hi ≡ true → (pairs : List Pair) (parts : List Part) → parts ≡ [] → scan lo hi s (span from to) ≡ both_pairs (Ok pairs) (stack_scan lo hi s parts) → range_answer b lo hi s from to ≡ Ok pairs
  range_found there pairs parts none is =
      range_there there ∙ ap range_on (is ∙ ap (λ (l : List Part). both_pairs (Ok pairs) (stack_scan lo hi s l)) none ∙ both_end (Ok pairs))

  -- the root is met first
  pub begins_scan : (now : Result (List Pair) ℕ) (none after : List Part) (nothing more : List Pair) → none ≡ [] → nothing ≡ [] → scan lo hi s (span from to) ≡ now → GoesOn lo hi s now none nothing after more
      → scan lo hi s (span from to) ≡ both_pairs (Ok more) (stack_scan lo hi s after)
  begins_scan now none after nothing more is_none is_nothing is goes =
      is ∙ sym (both_end now) ∙ ap (λ (l : List Part). both_pairs now (stack_scan lo hi s l)) (sym is_none) ∙ sym (both_none (both_pairs now (stack_scan lo hi s none)))
      ∙ ap (λ (l : List Pair). both_pairs (Ok l) (both_pairs now (stack_scan lo hi s none))) (sym is_nothing) ∙ goes.same

  -- a part is met
  pub scan_goes_on : (part : Part) (parts popped after : List Part) (pairs more : List Pair) → parts ≡ popped ++ part ∷ [] → scan lo hi s (span from to) ≡ both_pairs (Ok pairs) (stack_scan lo hi s parts)
      → GoesOn lo hi s (part_scan lo hi s part) popped pairs after more → scan lo hi s (span from to) ≡ both_pairs (Ok more) (stack_scan lo hi s after)
  scan_goes_on part parts popped after pairs more is so_far goes =
      so_far ∙ ap (λ (l : List Part). both_pairs (Ok pairs) (stack_scan lo hi s l)) is ∙ ap (λ (r : Result (List Pair) ℕ). both_pairs (Ok pairs) r) (stack_more lo hi s popped part) ∙ goes.same

  -- a bad object is met
  pub scan_is_bad : (part : Part) (parts popped : List Part) (pairs : List Pair) (e : TreeErr) → parts ≡ popped ++ part ∷ [] → scan lo hi s (span from to) ≡ both_pairs (Ok pairs) (stack_scan lo hi s parts)
      → IsBad (part_scan lo hi s part) e → IsBad (scan lo hi s (span from to)) e
  scan_is_bad part parts popped pairs e is so_far bad = (
    bad.0,
    so_far ∙ ap (λ (l : List Part). both_pairs (Ok pairs) (stack_scan lo hi s l)) is ∙ ap (λ (r : Result (List Pair) ℕ). both_pairs (Ok pairs) r) (stack_more lo hi s popped part)
        ∙ ap (λ (r : Result (List Pair) ℕ). both_pairs (Ok pairs) (both_pairs r (stack_scan lo hi s popped))) bad.1,
    bad.2,
  )

-- with each part that is met less is left
pub less_left : (parts popped after : List Part) (part : Part) → parts ≡ popped ++ part ∷ [] → weight after < weight popped + weight_of part → weight after < weight parts
less_left parts popped after part is less = let all = weight_more popped part in let same = ap weight is in omega (arith, all, same, less)

pub none_left : (parts : List Part) → length parts ≡ 0 → parts ≡ []
none_left [] none = refl
none_left (part ∷ parts) none = absurd (omega (arith, none))
