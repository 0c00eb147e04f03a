-- The commands of a call are accepted one after the other on any state, or the first of them is refused as too large.
use Rattle.std.proofs.Common.{◌≡◌, ◌≤◌, ◌<◌, ℕ, suc, Bool, true, false, if◌then◌else◌, Result, Ok, Err, List, [], ◌∷◌, refl, subst, inl, inr}
use Rattle.std.specs.Prelude.{IsTrue, nat_lt, nat_le}
use Rattle.std.proofs.lemmas.Bool.{leb-true, ltb-true}
use Rattle.oper_core.specs.State.{State}
use Rattle.oper_core.specs.declared.bounds.Bounds.{Bounds}
use Rattle.key_entries.specs.Short.{is_short}
use Rattle.key_entries.specs.EntryLaws.{both_true}
use Rattle.key_entries.specs.Pairs.{has}
use Rattle.btree_ops.specs.Operation.{node_meaning}
use Rattle.btree_ops.specs.declared.node_op.NodeOp.{NodeOp}
use Rattle.btree_ops.specs.declared.node_op.NodeOp.TheVariants.{Delete}
use Rattle.call_plans.specs.Plan.{IsNext, refused_by, one_command}
use Rattle.call_plans.specs.Laws.{AllAccepted, FirstTooLarge}
use Rattle.call_plans.specs.PlanLaws.{all_accepted, first_too_large}
use Rattle.logical_btree.specs.Walk.{Way, size, walk}
use Rattle.logical_btree.specs.Plan.{TreePlan, TreeNext, insert_next, insert_from, insert_plan, delete_on, delete_plan, is_there}
use Rattle.logical_btree.specs.declared.refusal.TreeRefusal.TheVariants.{NoObject, NoKey}
use Rattle.logical_btree.proofs.DueLemmas.{IsDue, IsDueNext, due_accepted, due_too_large, insert_due, delete_due}

abbrev either : Bool → TreePlan → TreePlan → TreePlan
either t p q = if t then p else q

-- the range is there
pub in_order : (b : Bounds) (lo hi : ℕ) → IsTrue (is_there b lo hi) → lo ≤ hi
in_order b lo hi there = leb-true lo hi (both_true (nat_le lo hi) (nat_lt hi b.objects) there).0

pub in_store : (b : Bounds) (lo hi : ℕ) → IsTrue (is_there b lo hi) → hi < b.objects
in_store b lo hi there = ltb-true hi b.objects (both_true (nat_le lo hi) (nat_lt hi b.objects) there).1

module _ (b : Bounds) (lo hi : ℕ) (s : State) (key : List ℕ) (short : IsTrue (is_short key)) where
  -- what holds of the commands where the range is there, and of none
  where_it_is : (P : List NodeOp → Type 0) → P [] → (plan : TreePlan) → (lo ≤ hi → hi < b.objects → P plan.commands)
      → P (if is_there b lo hi then plan else refused_by NoObject).commands
  where_it_is P none plan some =
      elim (is_there b lo hi) as (λ t. is_there b lo hi ≡ t → P (if t then plan else refused_by NoObject).commands) [
        | true ↦ λ there. some (in_order b lo hi there) (in_store b lo hi there)
        | false ↦ λ there. none
      ] refl

  by_delete : (P : List NodeOp → Type 0) → P [] → ((op : NodeOp) → IsDue b s op → P (op ∷ [])) → lo ≤ hi → hi < b.objects → (r : Result Way ℕ) → walk lo hi s key ≡ r → P (delete_on key r).commands
  by_delete P none one order inside (Err bad) goes = none
  by_delete P none one order inside (Ok w) goes =
      elim (has key w.pairs) as (λ t. has key w.pairs ≡ t → P (either t (one_command (Delete w.object key)) (refused_by NoKey)).commands) [
        | true ↦ λ there. one (Delete w.object key) (delete_due lo hi key [] b order inside short s w goes there)
        | false ↦ λ absent. none
      ] refl

  pub delete_accepted : IsTrue (nat_le 1024 b.cap) → AllAccepted (node_meaning b) s (delete_plan b lo hi s key).commands
  delete_accepted wide =
      where_it_is (λ ops. AllAccepted (node_meaning b) s ops) tt (delete_on key (walk lo hi s key))
      (λ order inside. by_delete (λ ops. AllAccepted (node_meaning b) s ops) tt (λ op due. (due_accepted b s op wide due, tt)) order inside (walk lo hi s key) refl)

  pub delete_too_large : nat_le 1024 b.cap ≡ false → FirstTooLarge (node_meaning b) s (delete_plan b lo hi s key).commands
  delete_too_large narrow =
      where_it_is (λ ops. FirstTooLarge (node_meaning b) s ops) tt (delete_on key (walk lo hi s key))
      (λ order inside. by_delete (λ ops. FirstTooLarge (node_meaning b) s ops) tt (λ op due. due_too_large b s op narrow due) order inside (walk lo hi s key) refl)

module _ (b : Bounds) (lo hi : ℕ) (key value : List ℕ) (short : IsTrue (is_short key)) (fits : IsTrue (is_short value)) where
  abbrev next_of : State → TreeNext
  next_of s = insert_next b lo hi s key value

  -- whatever comes next is due
  module _ (order : lo ≤ hi) (inside : hi < b.objects) where
    next_due : (s : State) (op : NodeOp) → IsNext next_of s op → IsDue b s op
    next_due s op (inl is) = subst (λ (next : TreeNext). IsDueNext lo hi key value b order inside short s next) is (insert_due lo hi key value b order inside short fits s)
    next_due s op (inr is) = subst (λ (next : TreeNext). IsDueNext lo hi key value b order inside short s next) is (insert_due lo hi key value b order inside short fits s)

  module _ (s : State) where
    pub insert_accepted : IsTrue (nat_le 1024 b.cap) → AllAccepted (node_meaning b) s (insert_plan b lo hi s key value).commands
    insert_accepted wide =
        where_it_is b lo hi s key short (λ ops. AllAccepted (node_meaning b) s ops) tt (insert_from b lo hi key value (suc (size lo hi)) s)
        (λ order inside. all_accepted (node_meaning b) next_of (λ t op next. due_accepted b t op wide (next_due order inside t op next)) (suc (size lo hi)) s)

    pub insert_too_large : nat_le 1024 b.cap ≡ false → FirstTooLarge (node_meaning b) s (insert_plan b lo hi s key value).commands
    insert_too_large narrow =
        where_it_is b lo hi s key short (λ ops. FirstTooLarge (node_meaning b) s ops) tt (insert_from b lo hi key value (suc (size lo hi)) s)
        (λ order inside. first_too_large (node_meaning b) next_of (λ t op next. due_too_large b t op narrow (next_due order inside t op next)) (suc (size lo hi)) s)
