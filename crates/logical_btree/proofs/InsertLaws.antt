-- An insert call: its plan acts on the content as on a map, where each split keeps the tree and the content.
use Rattle.std.proofs.Common.{◌≡◌, ◌≢◌, ◌<◌, ◌⊎◌, inl, inr, ℕ, zero, suc, ◌==◌, Bool, true, false, if◌then◌else◌, Option, None, Some, Result, Ok, Err, List, [], ◌∷◌, ◌++◌, length, refl, sym, ap, ◌∙◌, subst, arith}
use Rattle.std.specs.Prelude.{IsTrue, nat_le}
use Rattle.std.specs.FinMap.{FinMap, insert}
use Rattle.oper_core.specs.State.{State}
use Rattle.oper_core.specs.Meaning.{after}
use Rattle.oper_core.specs.declared.bounds.Bounds.{Bounds}
use Rattle.key_entries.specs.Short.{is_short}
use Rattle.key_entries.specs.Entries.{byte_order}
use Rattle.btree_ops.specs.Node.{leaf}
use Rattle.key_entries.specs.Pairs.{has}
use Rattle.btree_ops.specs.Operation.{node_meaning}
use Rattle.btree_ops.specs.declared.node_op.NodeOp.{NodeOp}
use Rattle.btree_ops.specs.declared.node_op.NodeOp.TheVariants.{Put}
use Rattle.key_entries.specs.PairLaws.{fewer}
use Rattle.call_plans.specs.Free.{is_empty, objects_from}
use Rattle.call_plans.specs.Plan.{goes_on, ends, refuses, refused_by}
use Rattle.call_plans.specs.PlanLaws.{StepKeeps, StepEnds, plan_acts}
use Rattle.logical_btree.specs.Walk.{Pair, Met, Way, walk, size}
use Rattle.logical_btree.specs.Tree.{IsTree, content_of}
use Rattle.logical_btree.specs.Plan.{TreeNext, first_full, is_full, steps_of, free_in, next_on, next_with, split_with, insert_next, insert_from, is_there}
use Rattle.logical_btree.specs.Laws.{CallActs, InsertActs, SplitKeeps}
use Rattle.logical_btree.specs.declared.refusal.TreeRefusal.TheVariants.{NoObject}
use Rattle.logical_btree.proofs.ReachLemmas.{none_some}
use Rattle.logical_btree.proofs.CommandLemmas.{put_acts}

-- with no full node on a way its leaf has room
pub leaf_room : (parent : Option ℕ) (inner : List Met) (x : ℕ) (pairs : List Pair) → first_full parent (inner ++ record { object = x; node = leaf pairs } ∷ []) ≡ None → length pairs ≢ 7
leaf_room parent [] x pairs e full =
    let is : (length pairs == 7) ≡ true = ap (λ (n : ℕ). n == 7) full in
    none_some (record { parent = parent; child = x }) (sym e ∙ ap (λ (t : Bool). if t then Some (record { parent = parent; child = x }) else None) is)
leaf_room parent (m ∷ inner) x pairs e full =
    elim (is_full m.node) as (λ t. (if t then Some (record { parent = parent; child = m.object }) else first_full (Some m.object) (inner ++ record { object = x; node = leaf pairs } ∷ [])) ≡ None → ⊥) [
      | true ↦ λ e. none_some (record { parent = parent; child = m.object }) (sym e)
      | false ↦ λ e. leaf_room (Some m.object) inner x pairs e full
    ] e

abbrev op_of : NodeOp → TreeNext → NodeOp
op_of d (goes_on op) = op
op_of d (ends op) = op
op_of d (refuses r) = d

pub as_many : (n x : ℕ) → length (objects_from x n) ≡ n
as_many zero x = refl
as_many (suc n) x = ap suc (as_many n (suc x))

module _ (b : Bounds) (lo hi : ℕ) (key value : List ℕ) (wide : IsTrue (nat_le 1024 b.cap)) (short : IsTrue (is_short key)) (fits : IsTrue (is_short value)) where
  -- what is asked of splits
  abbrev pub SplitsKeep : Type 0
  SplitsKeep = (s : State) (op : NodeOp) → IsTree lo hi s → insert_next b lo hi s key value ≡ goes_on op → SplitKeeps b lo hi s op

  no_end : (free : List ℕ) (child : ℕ) (parent : Option ℕ) (op : NodeOp) → split_with free child parent ≡ ends op → ⊥
  no_end [] child None op e = cc
  no_end (l ∷ []) child None op e = cc
  no_end (l ∷ n ∷ free) child None op e = cc
  no_end [] child (Some p) op e = cc
  no_end (n ∷ free) child (Some p) op e = cc

  abbrev with_key : FinMap byte_order (List ℕ) → FinMap byte_order (List ℕ)
  with_key m = insert m key value

  abbrev Puts : State → NodeOp → Type 0
  Puts s op = StepEnds (node_meaning b) (IsTree lo hi) (content_of lo hi) with_key s op

  put_is : (s : State) (w : Way) → walk lo hi s key ≡ Ok w → IsTree lo hi s → IsTrue (has key w.pairs) ⊎ (length w.pairs ≢ 7) → Puts s (Put w.object key value)
  put_is s w goes tree room = let both = put_acts b lo hi s key value w goes wide short fits room tree in record { kept = both.0; changed = both.1 }

  by_way : (s : State) → IsTree lo hi s → (r : Result Way ℕ) → walk lo hi s key ≡ r → (op : NodeOp) → next_on key value (free_in s lo hi) r ≡ ends op → Puts s op
  by_way s tree (Err bad) goes op e = cc
  by_way s tree (Ok w) goes op e =
      let put : NodeOp = Put w.object key value in
      elim (has key w.pairs) as (λ t. has key w.pairs ≡ t → (if t then ends put else next_with put (free_in s lo hi) (first_full None (steps_of w))) ≡ ends op → Puts s op) [
        | true ↦ λ there e. subst (λ (op : NodeOp). Puts s op) (ap (op_of put) e) (put_is s w goes tree (inl there))
        | false ↦ λ absent e.
            elim (first_full None (steps_of w)) as (λ o. first_full None (steps_of w) ≡ o → next_with put (free_in s lo hi) o ≡ ends op → Puts s op) [
              | None ↦ λ none e. subst (λ (op : NodeOp). Puts s op) (ap (op_of put) e) (put_is s w goes tree (inr (leaf_room None w.inner w.object w.pairs none)))
              | Some full ↦ λ some e. absurd (no_end (free_in s lo hi) full.child full.parent op e)
            ] refl e
      ] refl e

  module _ (keeps : SplitsKeep) where
    goes : (s : State) (op : NodeOp) → IsTree lo hi s → insert_next b lo hi s key value ≡ goes_on op
        → StepKeeps (node_meaning b) (IsTree lo hi) (content_of lo hi) with_key s op × (length (free_in (after (node_meaning b) s op) lo hi) < length (free_in s lo hi))
    goes s op tree is = let k = keeps s op tree is in (record { kept = k.tree; same = k.content }, k.taken)

    -- on a tree an insert acts as on a map
    pub insert_acts : (s : State) → IsTrue (is_there b lo hi) → IsTree lo hi s → InsertActs b lo hi s key value
    insert_acts s inside tree =
        let few : length (free_in s lo hi) < suc (size lo hi) = omega (arith, fewer (λ x. is_empty (s x)) (objects_from lo (size lo hi)), as_many (size lo hi) lo) in
        subst (λ (t : Bool). CallActs b lo hi s with_key (if t then insert_from b lo hi key value (suc (size lo hi)) s else refused_by NoObject)) (sym inside)
        (plan_acts (node_meaning b) (IsTree lo hi) (content_of lo hi) with_key (λ s. insert_next b lo hi s key value) (λ s. length (free_in s lo hi)) goes
        (λ s op tree is. by_way s tree (walk lo hi s key) refl op is) (suc (size lo hi)) s tree few)
