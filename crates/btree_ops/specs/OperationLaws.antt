-- What every operation of the grammar meets.
use Rattle.std.proofs.Common.{◌≡◌, ◌≤◌, ◌<◌, ℕ, ◌+◌, ◌^◌, ◌==◌, Bool, true, not, ◌&&◌, if◌then◌else◌, Option, None, Some, Result, Ok, Err, List, [], ◌∷◌, ◌++◌, All, length, drop, slice_index_or, refl, sym, ap, ◌∙◌, subst, arith, option_map, length-append, inl, inr}
use Rattle.std.specs.Prelude.{⊤, IsTrue, nat_eq, nat_lt}
use Rattle.std.specs.Result.{result_err}
use Rattle.std.specs.List.{IsDistinct, list_all}
use Rattle.std.specs.Ordering.{eq_by_cmp}
use Rattle.std.specs.FinMap.Entries.{put}
use Rattle.std.proofs.lemmas.List.Elements.{All-cons, All-nil}
use Rattle.std.proofs.lemmas.Bool.{ltb-true}
use Rattle.std.proofs.lemmas.Bool.Decides.{eqb_tells}
use Rattle.byteorder.specs.Endian.{little_bytes}
use Rattle.oper_core.specs.LittleEndian.{length-little_bytes}
use Rattle.oper_core.specs.Meaning.{HasBounds, AreWithin, IsInGrammar, IsLawful, IsSmall, Widens}
use Rattle.oper_core.specs.Family.{IsTagged}
use Rattle.oper_core.specs.declared.bounds.Bounds.{Bounds}
use Rattle.oper_core.specs.declared.refusal.Refusal.{Refusal}
use Rattle.oper_core.specs.declared.refusal.Refusal.TheVariants.{NoKey, NodeFull}
use Rattle.key_entries.specs.Short.{is_short, short_code}
use Rattle.key_entries.specs.Entries.{Field, byte_order, short_field, child_field, entry_code, entries_code}
use Rattle.key_entries.specs.EntryLaws.{AreBytes, bytes_behind, both_true, true_both, map_some, same_some, short_bounds}
use Rattle.btree_ops.specs.Node.{leaf, inner, node_code, node_in}
use Rattle.btree_ops.specs.NodeLaws.{node_small}
use Rattle.key_entries.specs.Pairs.{has, without}
use Rattle.btree_ops.specs.Effects.{pairs_of, pairs_to_fill, put_made, delete_made, leaf_halves, inner_halves, halves_in, behind_branch, behind_child, split_child_with, split_child_made, split_root_made, made_by}
use Rattle.key_entries.specs.Codes.{put_in, delete_in, three_in}
use Rattle.key_entries.specs.Objects.{are_apart, values_of}
use Rattle.key_entries.specs.ObjectLaws.{named_tells, named_wider, below_all, distinct, first_two_apart, first_two_below, weaker, values_fit, roomy_wider, FitIn, either_fits, one_fits, three_fit}
use Rattle.key_entries.specs.PairLaws.{put_small, kept_small}
use Rattle.key_entries.specs.CodeLaws.{put_found, delete_found, three_found, put_begins, delete_begins, three_begin, chosen, IsPutAt, IsDeleteAt, AreThreeAt}
use Rattle.btree_ops.specs.Operation.{objects_of, read_by, has_keys, op_code, op_in, bytes_of, node_meaning, is_node_tag}
use Rattle.btree_ops.specs.declared.halves.Halves.{Halves}
use Rattle.btree_ops.specs.declared.made.Made.{Made}
use Rattle.btree_ops.specs.declared.made.Made.TheVariants.{One, Three}
use Rattle.btree_ops.specs.declared.node.Node.{Node}
use Rattle.btree_ops.specs.declared.node.Node.TheVariants.{Leaf, Inner}
use Rattle.btree_ops.specs.declared.node_op.NodeOp.{NodeOp}
use Rattle.btree_ops.specs.declared.node_op.NodeOp.TheVariants.{Put, Delete, SplitChild, SplitRoot}

reads_below : (n : ℕ) (op : NodeOp) → IsTrue (list_all (λ x. nat_lt x n) (objects_of op)) → All (λ x. x < n) (read_by op)
reads_below n (Put object key value) e = below_all n (object ∷ []) e
reads_below n (Delete object key) e = below_all n (object ∷ []) e
reads_below n (SplitChild parent child new) e = first_two_below n parent child new e
reads_below n (SplitRoot root left right) e =
    All-cons (λ x. x < n) root [] (ltb-true root n (both_true (nat_lt root n) (list_all (λ x. nat_lt x n) (left ∷ right ∷ [])) e).0) (All-nil (λ x. x < n))

reads_apart : (op : NodeOp) → IsTrue (are_apart (objects_of op)) → IsDistinct nat_eq (read_by op)
reads_apart (Put object key value) e = distinct (object ∷ []) e
reads_apart (Delete object key) e = distinct (object ∷ []) e
reads_apart (SplitChild parent child new) e = distinct (parent ∷ child ∷ []) (first_two_apart parent child new e)
reads_apart (SplitRoot root left right) e = distinct (root ∷ []) refl

-- how many nodes are made, and how long their bytes are

-- the pairs of a value are few bytes
ArePairsSmall : Option (List (List ℕ × List ℕ)) → Type 0
ArePairsSmall None = ⊤
ArePairsSmall (Some pairs) = length (entries_code short_field pairs) ≤ 466

pairs_small : (o : Option Node) → ((n : Node) → o ≡ Some n → length (node_code n) ≤ 468) → ArePairsSmall (pairs_of o)
unfolding ArePairsSmall
pairs_small None small = tt
pairs_small (Some (Inner first branches)) small = tt
pairs_small (Some (Leaf pairs)) small = omega (arith, small (Leaf pairs) refl)

fill_small : (bytes : List ℕ) → ArePairsSmall (pairs_to_fill bytes)
unfolding ArePairsSmall
fill_small [] = omega arith
fill_small (b ∷ bytes) = pairs_small (node_in (b ∷ bytes)) (λ n is. node_small (b ∷ bytes) n is)

put_fits : (key value : List ℕ) (o : Option (List (List ℕ × List ℕ))) → IsTrue (is_short key) → IsTrue (is_short value) → ArePairsSmall o → FitIn bytes_of 1 (put_made key value o)
unfolding ArePairsSmall
put_fits key value None short fits small = tt
put_fits key value (Some pairs) short fits small =
    let k = short_bounds key short in
    let v = short_bounds value fits in
    either_fits bytes_of 1 (not (has key pairs) && length pairs == 7) (Err NodeFull) (Ok (One (leaf (put byte_order key value pairs)))) tt
    (refl, one_fits 1024 (node_code (leaf (put byte_order key value pairs))) (omega (arith, put_small key value pairs, length-append (short_code key) (short_code value), k.1, v.1, small)))

delete_fits : (key : List ℕ) (o : Option (List (List ℕ × List ℕ))) → ArePairsSmall o → FitIn bytes_of 1 (delete_made key o)
unfolding ArePairsSmall
delete_fits key None small = tt
delete_fits key (Some pairs) small =
    either_fits bytes_of 1 (has key pairs) (Ok (One (leaf (without key pairs)))) (Err NoKey) (refl, one_fits 1024 (node_code (leaf (without key pairs))) (omega (arith, kept_small (λ e. not (eq_by_cmp byte_order key e.0)) pairs, small))) tt

-- halves are no longer than the whole
record AreHalvesSmall (h : Halves) : Type 0 where
  left : length (node_code h.left) ≤ 468
  right : length (node_code h.right) ≤ 468
  separator : length h.separator ≤ 468

module _ {X : Type 0} (field : Field X) where
  -- the bytes of entries, one more
  more : (e : List ℕ × X) (es : List (List ℕ × X)) → length (entries_code field (e ∷ es)) ≡ length (entry_code field e) + length (entries_code field es)
  more e es = length-append (entry_code field e) (entries_code field es)

  -- seven entries, cut before the fourth, and after it
  record AreParts (a b c d e f g : List ℕ × X) (n : ℕ) : Type 0 where
    lower : length (entries_code field (a ∷ b ∷ c ∷ [])) ≤ n
    upper : length (entries_code field (d ∷ e ∷ f ∷ g ∷ [])) ≤ n
    above : length (entries_code field (e ∷ f ∷ g ∷ [])) ≤ n
    middle : length d.0 ≤ n

  parts : (a b c d e f g : List ℕ × X) (n : ℕ) → length (entries_code field (a ∷ b ∷ c ∷ d ∷ e ∷ f ∷ g ∷ [])) ≤ n → AreParts a b c d e f g n
  parts a b c d e f g n few =
      let a' = more a (b ∷ c ∷ d ∷ e ∷ f ∷ g ∷ []) in
      let b' = more b (c ∷ d ∷ e ∷ f ∷ g ∷ []) in
      let c' = more c (d ∷ e ∷ f ∷ g ∷ []) in
      let d' = more d (e ∷ f ∷ g ∷ []) in
      let low = more a (b ∷ c ∷ []) in
      let low' = more b (c ∷ []) in
      let low'' = more c [] in
      let mid = length-append (short_code d.0) (field.code d.1) in
      record {
        lower = omega (arith, few, a', b', c', low, low', low'');
        upper = omega (arith, few, a', b', c');
        above = omega (arith, few, a', b', c', d');
        middle = omega (arith, few, a', b', c', d', mid);
      }

leaf_halves_small : (pairs : List (List ℕ × List ℕ)) (h : Halves) → length (entries_code short_field pairs) ≤ 466 → leaf_halves pairs ≡ Some h → AreHalvesSmall h
leaf_halves_small (a ∷ b ∷ c ∷ d ∷ e ∷ f ∷ g ∷ []) h few is =
    let p = parts short_field a b c d e f g 466 few in
    subst AreHalvesSmall (same_some (record { left = leaf (a ∷ b ∷ c ∷ []); separator = d.0; right = leaf (d ∷ e ∷ f ∷ g ∷ []) }) h is)
    (record { left = omega (arith, p.lower); right = omega (arith, p.upper); separator = omega (arith, p.middle) })
leaf_halves_small others h few is = cc

inner_halves_small : (first : ℕ) (branches : List (List ℕ × ℕ)) (h : Halves) → length (entries_code child_field branches) ≤ 462 → inner_halves first branches ≡ Some h → AreHalvesSmall h
inner_halves_small first (a ∷ b ∷ c ∷ d ∷ e ∷ f ∷ g ∷ []) h few is =
    let p = parts child_field a b c d e f g 462 few in
    subst AreHalvesSmall (same_some (record { left = inner first (a ∷ b ∷ c ∷ []); separator = d.0; right = inner d.1 (e ∷ f ∷ g ∷ []) }) h is)
    (record {
      left = omega (arith, p.lower, length-append (little_bytes 4 first) (entries_code child_field (a ∷ b ∷ c ∷ [])), length-little_bytes 4 first);
      right = omega (arith, p.above, length-append (little_bytes 4 d.1) (entries_code child_field (e ∷ f ∷ g ∷ [])), length-little_bytes 4 d.1);
      separator = omega (arith, p.middle);
    })
inner_halves_small first others h few is = cc

halves_small : (bytes : List ℕ) (o : Option Node) (h : Halves) → node_in bytes ≡ o → halves_in o ≡ Some h → AreHalvesSmall h
halves_small bytes None h from is = cc
halves_small bytes (Some (Leaf pairs)) h from is = leaf_halves_small pairs.items h (omega (arith, node_small bytes (Leaf pairs) from)) is
halves_small bytes (Some (Inner first branches)) h from is =
    inner_halves_small first branches.items h
    (omega (arith, node_small bytes (Inner first branches) from, length-append (little_bytes 4 first) (entries_code child_field branches.items), length-little_bytes 4 first)) is

-- one branch more
branch_small : (child : ℕ) (new : List ℕ × ℕ) (branches more : List (List ℕ × ℕ)) → behind_branch child new branches ≡ Some more
    → length (entries_code child_field more) ≡ length (entries_code child_field branches) + length (entry_code child_field new)
branch_small child new [] more is = cc
branch_small child new (b ∷ branches) more' is =
    elim (eqb_tells b.1 child) [
      | inl here ↦
          let same : b ∷ new ∷ branches ≡ more' =
          same_some (b ∷ new ∷ branches) more' (sym (ap (λ (t : Bool). if t then Some (b ∷ new ∷ branches) else option_map (λ (bs : List (List ℕ × ℕ)). b ∷ bs) (behind_branch child new branches)) here.0) ∙ is) in
          subst (λ (l : List (List ℕ × ℕ)). length (entries_code child_field l) ≡ length (entries_code child_field (b ∷ branches)) + length (entry_code child_field new)) same
          (omega (arith, more child_field b (new ∷ branches), more child_field new branches, more child_field b branches))
      | inr other ↦
          let found = map_some (λ (bs : List (List ℕ × ℕ)). b ∷ bs) (behind_branch child new branches) more'
          (sym (ap (λ (t : Bool). if t then Some (b ∷ new ∷ branches) else option_map (λ (bs : List (List ℕ × ℕ)). b ∷ bs) (behind_branch child new branches)) other.0) ∙ is) in
          let rest = branch_small child new branches found.0 found.1 in
          subst (λ (l : List (List ℕ × ℕ)). length (entries_code child_field l) ≡ length (entries_code child_field (b ∷ branches)) + length (entry_code child_field new)) found.2
          (omega (arith, more child_field b found.0, more child_field b branches, rest))
    ]

child_small : (child : ℕ) (new : List ℕ × ℕ) (first : ℕ) (branches after : List (List ℕ × ℕ)) → behind_child child new first branches ≡ Some after
    → length (entries_code child_field after) ≡ length (entries_code child_field branches) + length (entry_code child_field new)
child_small child new first branches after is =
    elim (eqb_tells first child) [
      | inl here ↦
          let same : new ∷ branches ≡ after = same_some (new ∷ branches) after (sym (ap (λ (t : Bool). if t then Some (new ∷ branches) else behind_branch child new branches) here.0) ∙ is) in
          subst (λ (l : List (List ℕ × ℕ)). length (entries_code child_field l) ≡ length (entries_code child_field branches) + length (entry_code child_field new)) same
          (omega (arith, more child_field new branches))
      | inr other ↦ branch_small child new branches after (sym (ap (λ (t : Bool). if t then Some (new ∷ branches) else behind_branch child new branches) other.0) ∙ is)
    ]

split_with_fits : (first : ℕ) (branches : List (List ℕ × ℕ)) (h : Halves) (new child : ℕ) (o : Option (List (List ℕ × ℕ)))
    → behind_child child (h.separator, new) first branches ≡ o → AreHalvesSmall h → length (entries_code child_field branches) ≤ 462 → FitIn bytes_of 3 (split_child_with first branches h o)
split_with_fits first branches h new child None from small few = tt
split_with_fits first branches h new child (Some after) from small few =
    either_fits bytes_of 3 (length branches == 7) (Err NodeFull) (Ok (Three (inner first after) h.left h.right)) tt (
      refl,
      three_fit 1024 (node_code (inner first after)) (node_code h.left) (node_code h.right) (omega (
        arith,
        child_small child (h.separator, new) first branches after from,
        few,
        small.separator,
        length-append (short_code h.separator) (little_bytes 4 new),
        length-little_bytes 4 new,
        length-append (little_bytes 4 first) (entries_code child_field after),
        length-little_bytes 4 first,
      )) (omega (arith, small.left)) (omega (arith, small.right)),
    )

split_child_fits : (child new : ℕ) (parent node : List ℕ) (o : Option Node) (h : Option Halves) → node_in parent ≡ o → halves_in (node_in node) ≡ h → FitIn bytes_of 3 (split_child_made child new o h)
split_child_fits child new parent node (Some (Inner first branches)) (Some h) from halves =
    split_with_fits first branches.items h new child (behind_child child (h.separator, new) first branches.items) refl (halves_small node (node_in node) h refl halves)
    (omega (arith, node_small parent (Inner first branches) from, length-append (little_bytes 4 first) (entries_code child_field branches.items), length-little_bytes 4 first))
split_child_fits child new parent node (Some (Inner first branches)) None from halves = tt
split_child_fits child new parent node (Some (Leaf pairs)) h from halves = tt
split_child_fits child new parent node None h from halves = tt

split_root_fits : (left right : ℕ) (root : List ℕ) (h : Option Halves) → halves_in (node_in root) ≡ h → FitIn bytes_of 3 (split_root_made left right h)
split_root_fits left right root None halves = tt
split_root_fits left right root (Some h) halves =
    let small = halves_small root (node_in root) h refl halves in (
      refl,
      three_fit 1024 (node_code (inner left ((h.separator, right) ∷ []))) (node_code h.left) (node_code h.right) (omega (
        arith,
        small.separator,
        length-append (short_code h.separator) (little_bytes 4 right),
        length-little_bytes 4 right,
        more child_field (h.separator, right) [],
        length-append (little_bytes 4 left) (entries_code child_field ((h.separator, right) ∷ [])),
        length-little_bytes 4 left,
      )) (omega (arith, small.left)) (omega (arith, small.right)),
    )

made_fits : (op : NodeOp) (values : List (List ℕ)) → IsTrue (has_keys op) → FitIn bytes_of (length (objects_of op)) (made_by op values)
made_fits (Put object key value) values keys =
    let both = both_true (is_short key) (is_short value) keys in
    put_fits key value (pairs_to_fill (slice_index_or values 0 [])) both.0 both.1 (fill_small (slice_index_or values 0 []))
made_fits (Delete object key) values keys =
    delete_fits key (pairs_of (node_in (slice_index_or values 0 []))) (pairs_small (node_in (slice_index_or values 0 [])) (λ n is. node_small (slice_index_or values 0 []) n is))
made_fits (SplitChild parent child new) values keys =
    split_child_fits child new (slice_index_or values 0 []) (slice_index_or values 1 []) (node_in (slice_index_or values 0 [])) (halves_in (node_in (slice_index_or values 1 []))) refl refl
made_fits (SplitRoot root left right) values keys = split_root_fits left right (slice_index_or values 0 []) (halves_in (node_in (slice_index_or values 0 []))) refl

-- codes

-- its objects have four bytes each
abbrev pub HasSmallObjects : NodeOp → Type 0
HasSmallObjects op = IsTrue (list_all (λ x. nat_lt x (2 ^ 32)) (objects_of op))

-- an operation of the grammar is read back
pub op_found : (op : NodeOp) (rest : List ℕ) → HasSmallObjects op → IsTrue (has_keys op) → op_in (op_code op ++ rest) ≡ Some op
op_found (Put object key value) rest small keys =
    let both = both_true (is_short key) (is_short value) keys in
    put_found Put object key value rest (both_true (nat_lt object (2 ^ 32)) true small).0 both.0 both.1
op_found (Delete object key) rest small keys = delete_found Delete object key rest (both_true (nat_lt object (2 ^ 32)) true small).0 keys
op_found (SplitChild parent child new) rest small keys = three_found SplitChild parent child new rest small
op_found (SplitRoot root left right) rest small keys = three_found SplitRoot root left right rest small

-- the operation that is read is there
pub record IsOpAt (bytes : List ℕ) (op : NodeOp) : Type 0 where
  pub split : bytes ≡ op_code op ++ drop (length (op_code op)) bytes
  pub keys : IsTrue (has_keys op)

put_at : (body : List ℕ) (op : NodeOp) → IsPutAt Put 10 body op → IsOpAt (10 ∷ body) op
put_at body op at =
    subst (λ (op : NodeOp). IsOpAt (10 ∷ body) op) at.is (record { split = at.split; keys = true_both (is_short at.key) (is_short at.value) at.short at.fits })

delete_at : (body : List ℕ) (op : NodeOp) → IsDeleteAt Delete 11 body op → IsOpAt (11 ∷ body) op
delete_at body op at = subst (λ (op : NodeOp). IsOpAt (11 ∷ body) op) at.is (record { split = at.split; keys = at.short })

child_split_at : (body : List ℕ) (op : NodeOp) → AreThreeAt SplitChild 12 body op → IsOpAt (12 ∷ body) op
child_split_at body op at = subst (λ (op : NodeOp). IsOpAt (12 ∷ body) op) at.is (record { split = at.split; keys = refl })

root_split_at : (body : List ℕ) (op : NodeOp) → AreThreeAt SplitRoot 13 body op → IsOpAt (13 ∷ body) op
root_split_at body op at = subst (λ (op : NodeOp). IsOpAt (13 ∷ body) op) at.is (record { split = at.split; keys = refl })

pub op_begins : (bytes : List ℕ) (op : NodeOp) → AreBytes bytes → op_in bytes ≡ Some op → IsOpAt bytes op
op_begins [] op are is = cc
op_begins (tag ∷ body) op are is =
    let inside : AreBytes body = bytes_behind 1 (tag ∷ body) are in
    chosen IsOpAt tag 10 body (put_in Put body) _ op is (λ e. put_at body op (put_begins Put 10 body op inside e))
    (λ e. chosen IsOpAt tag 11 body (delete_in Delete body) _ op e (λ e. delete_at body op (delete_begins Delete 11 body op inside e))
    (λ e. chosen IsOpAt tag 12 body (three_in SplitChild body) _ op e (λ e. child_split_at body op (three_begin SplitChild 12 body op inside e))
    (λ e. chosen IsOpAt tag 13 body (three_in SplitRoot body) None op e (λ e. root_split_at body op (three_begin SplitRoot 13 body op inside e)) (λ e. cc))))

-- an operation of the grammar whose code bytes begin with is the one that is read
pub only_op : (b : Bounds) (bytes rest : List ℕ) (op : NodeOp) → b.objects < 2 ^ 32 → bytes ≡ op_code op ++ rest → IsInGrammar (node_meaning b) op → op_in bytes ≡ Some op
only_op b bytes rest op small split grammar =
    let good = named_tells b.objects (objects_of op) (has_keys op) grammar in
    ap op_in split ∙ op_found op rest (weaker b.objects (2 ^ 32) (objects_of op) (omega (arith, small)) good.below) good.keys

pub node_bounded : (b : Bounds) → HasBounds b (node_meaning b)
node_bounded b = record { objects = refl; cap = refl }

some_object : (op : NodeOp) → 0 < length (objects_of op)
some_object (Put object key value) = omega arith
some_object (Delete object key) = omega arith
some_object (SplitChild parent child new) = omega arith
some_object (SplitRoot root left right) = omega arith

pub node_lawful : (b : Bounds) → IsSmall b → IsLawful (node_meaning b)
node_lawful b small = record {
  writes_some = λ op e. some_object op;
  reads_below = λ op e. reads_below b.objects op (named_tells b.objects (objects_of op) (has_keys op) e).below;
  reads_apart = λ op e. reads_apart op (named_tells b.objects (objects_of op) (has_keys op) e).apart;
  writes_below = λ op e. below_all b.objects (objects_of op) (named_tells b.objects (objects_of op) (has_keys op) e).below;
  writes_apart = λ op e. distinct (objects_of op) (named_tells b.objects (objects_of op) (has_keys op) e).apart;
  made = λ op values e fits. values_fit bytes_of b.cap (objects_of op) (made_by op values) (made_fits op values (named_tells b.objects (objects_of op) (has_keys op) e).keys);
  encodable = λ op e. refl;
  one_code = λ first second bytes one two.
      same_some first second (sym (only_op b bytes one.rest first small.objects one.split one.in_grammar) ∙ only_op b bytes two.rest second small.objects two.split two.in_grammar);
}

pub node_widens : (b c : Bounds) → AreWithin b c → Widens (node_meaning b) (node_meaning c)
node_widens b c within = record {
  reads = λ op. refl;
  writes = λ op. refl;
  code = λ op. refl;
  in_grammar = λ op e. named_wider b.objects c.objects (objects_of op) (has_keys op) within.objects e;
  accepted = λ op values grammar fits e. ap result_err (roomy_wider b.cap c.cap (made_by op values) within.cap e) ∙ e;
  effect = λ op values grammar fits e. ap (λ (r : Result Made Refusal). values_of bytes_of (objects_of op) r) (roomy_wider b.cap c.cap (made_by op values) within.cap e);
}

-- each code begins with a tag of the family
pub node_tagged : (b : Bounds) → IsTagged is_node_tag (node_meaning b)
node_tagged b (Put object key value) = refl
node_tagged b (Delete object key) = refl
node_tagged b (SplitChild parent child new) = refl
node_tagged b (SplitRoot root left right) = refl
