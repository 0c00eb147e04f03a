-- Why a call on a tree is refused: an insert for lack of free objects alone, a delete exactly where the map lacks the key.
use Rattle.std.proofs.Common.{◌≡◌, ℕ, suc, Bool, true, false, if◌then◌else◌, Option, None, Some, is_some, Ok, List, [], ◌∷◌, refl, sym, ap, ◌∙◌, subst, arith}
use Rattle.std.specs.Prelude.{IsTrue, ⊤}
use Rattle.std.specs.FinMap.{get}
use Rattle.oper_core.specs.State.{State}
use Rattle.oper_core.specs.declared.bounds.Bounds.{Bounds}
use Rattle.key_entries.specs.Pairs.{has}
use Rattle.btree_ops.specs.Operation.{node_meaning}
use Rattle.btree_ops.specs.declared.node_op.NodeOp.{NodeOp}
use Rattle.btree_ops.specs.declared.node_op.NodeOp.TheVariants.{Put, Delete}
use Rattle.call_plans.specs.Plan.{goes_on, ends, refuses, refused_by, one_command}
use Rattle.call_plans.specs.PlanLaws.{plan_refuses}
use Rattle.logical_btree.specs.Walk.{Way, size, walk, found}
use Rattle.logical_btree.specs.Tree.{IsTree, content_of}
use Rattle.logical_btree.specs.Plan.{TreePlan, TreeNext, Full, first_full, steps_of, free_in, split_root_with, split_child_with, split_with, next_with, next_on, insert_next, insert_from, insert_plan, delete_on, delete_plan, is_there}
use Rattle.logical_btree.specs.Laws.{IsRange, IsTreeFull}
use Rattle.logical_btree.specs.declared.refusal.TreeRefusal.{TreeRefusal}
use Rattle.logical_btree.specs.declared.refusal.TreeRefusal.TheVariants.{NoObject, NoKey}
use Rattle.logical_btree.proofs.FoundLemmas.{content_found}
use Rattle.logical_btree.proofs.GoesLemmas.{tree_goes}
use Rattle.logical_btree.proofs.TopLaws.{keeps_in_range}

abbrev RefusesFull : TreeNext → Type 0
RefusesFull (goes_on op) = ⊤
RefusesFull (ends op) = ⊤
RefusesFull (refuses r) = IsTreeFull r

full_root : (x : ℕ) (free : List ℕ) → RefusesFull (split_root_with x free)
full_root x [] = omega arith
full_root x (one ∷ []) = omega arith
full_root x (left ∷ right ∷ rest) = tt

full_child : (parent child : ℕ) (free : List ℕ) → RefusesFull (split_child_with parent child free)
full_child parent child [] = omega arith
full_child parent child (new ∷ rest) = tt

full_split : (free : List ℕ) (child : ℕ) (parent : Option ℕ) → RefusesFull (split_with free child parent)
full_split free child None = full_root child free
full_split free child (Some parent) = full_child parent child free

full_next : (op : NodeOp) (free : List ℕ) (full : Option Full) → RefusesFull (next_with op free full)
full_next op free None = tt
full_next op free (Some full) = full_split free full.child full.parent

full_on : (key value : List ℕ) (free : List ℕ) (w : Way) → RefusesFull (next_on key value free (Ok w))
full_on key value free w =
    let op : NodeOp = Put w.object key value in
    elim (has key w.pairs) as (λ t. RefusesFull (if t then ends op else next_with op free (first_full None (steps_of w)))) [
      | true ↦ tt
      | false ↦ full_next op free (first_full None (steps_of w))
    ]

module _ (b : Bounds) (lo hi : ℕ) (range : IsRange b lo hi) (key value : List ℕ) where
  why : (s : State) (r : TreeRefusal) → IsTree lo hi s → insert_next b lo hi s key value ≡ refuses r → IsTreeFull r
  why s r tree is =
      let g = tree_goes key lo hi s tree in
      subst RefusesFull (ap (next_on key value (free_in s lo hi)) (sym g.is) ∙ is) (full_on key value (free_in s lo hi) g.way)

  pub insert_refusals : (s : State) → IsTree lo hi s → (r : TreeRefusal) → (insert_plan b lo hi s key value).refusal ≡ Some r → IsTreeFull r
  insert_refusals s tree r e =
      let plan : TreePlan = insert_from b lo hi key value (suc (size lo hi)) s in
      plan_refuses (node_meaning b) (λ s. insert_next b lo hi s key value) (IsTree lo hi) IsTreeFull (λ s op tree is. (keeps_in_range b lo hi range s key value op tree is).tree) why (suc (size lo hi)) s tree r
      (ap (λ (t : Bool). (if t then plan else refused_by NoObject).refusal) (sym range.there) ∙ e)

pub delete_refusals : (b : Bounds) (lo hi : ℕ) (s : State) (key : List ℕ) → IsTrue (is_there b lo hi) → IsTree lo hi s
    → (delete_plan b lo hi s key).refusal ≡ (if is_some (get (content_of lo hi s) key) then None else Some NoKey)
delete_refusals b lo hi s key there tree =
    let g = tree_goes key lo hi s tree in
    let map_has : is_some (get (content_of lo hi s) key) ≡ has key g.way.pairs = ap is_some (content_found key lo hi s tree ∙ ap (found key) g.is) in
    let plan : delete_plan b lo hi s key ≡ delete_on key (Ok g.way) =
    ap (λ (t : Bool). if t then delete_on key (walk lo hi s key) else refused_by NoObject) there ∙ ap (delete_on key) g.is in
    ap (λ (p : TreePlan). p.refusal) plan ∙ by_test g.way (has key g.way.pairs)
    ∙ ap (λ (t : Bool). if t then None else Some NoKey) (sym map_has)
  where
    by_test : (w : Way) (t : Bool) → (if◌then◌else◌ {A = TreePlan} t (one_command (Delete w.object key)) (refused_by NoKey)).refusal ≡ (if t then None else Some NoKey)
    by_test w true = refl
    by_test w false = refl
