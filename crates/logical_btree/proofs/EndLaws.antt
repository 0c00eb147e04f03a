-- An insert that is not refused ends with its put, on any state.
use Rattle.std.proofs.Common.{◌≡◌, ◌≤◌, ◌<◌, ℕ, suc, ◌^◌, Bool, if◌then◌else◌, List, length, sym, subst, arith}
use Rattle.std.specs.Prelude.{IsTrue, nat_le}
use Rattle.oper_core.specs.State.{State}
use Rattle.oper_core.specs.Meaning.{after}
use Rattle.oper_core.specs.declared.bounds.Bounds.{Bounds}
use Rattle.btree_ops.specs.Operation.{node_meaning}
use Rattle.btree_ops.specs.declared.node_op.NodeOp.{NodeOp}
use Rattle.btree_ops.specs.declared.node_op.NodeOp.TheVariants.{Put}
use Rattle.key_entries.specs.PairLaws.{fewer}
use Rattle.call_plans.specs.Free.{is_empty, objects_from}
use Rattle.call_plans.specs.Plan.{goes_on, ends, refused_by}
use Rattle.call_plans.specs.Laws.{EndsWith}
use Rattle.call_plans.specs.PlanLaws.{plan_ends}
use Rattle.logical_btree.specs.Walk.{size}
use Rattle.logical_btree.specs.Plan.{TreeNext, free_in, insert_next, insert_from, insert_plan}
use Rattle.logical_btree.specs.Laws.{IsRange}
use Rattle.logical_btree.specs.declared.refusal.TreeRefusal.TheVariants.{NoObject}
use Rattle.logical_btree.proofs.AcceptedLaws.{in_order, in_store}
use Rattle.logical_btree.proofs.DueLemmas.{Tells, insert_tells}
use Rattle.logical_btree.proofs.InsertLaws.{as_many}
use Rattle.logical_btree.proofs.SplitsKeepLaws.{split_takes}
use Rattle.logical_btree.proofs.TopLaws.{wide_enough}

module _ (b : Bounds) (lo hi : ℕ) (key value : List ℕ) (wide : IsTrue (nat_le 1024 b.cap)) (order : lo ≤ hi) (inside : hi < b.objects) (small : hi < 2 ^ 32) where
  abbrev pub IsPut : NodeOp → Type 0
  IsPut op = (x : ℕ) × (op ≡ Put x key value)

  takes : (s : State) (op : NodeOp) → insert_next b lo hi s key value ≡ goes_on op → length (free_in (after (node_meaning b) s op) lo hi) < length (free_in s lo hi)
  takes s op is = split_takes b lo hi key value wide order inside small s op (subst (λ (next : TreeNext). Tells lo hi key value s next) is (insert_tells lo hi key value s order b))

  puts : (s : State) (op : NodeOp) → insert_next b lo hi s key value ≡ ends op → IsPut op
  puts s op is = let told = subst (λ (next : TreeNext). Tells lo hi key value s next) is (insert_tells lo hi key value s order b) in (told.way.object, told.op_is)

  pub ends_from : (n : ℕ) (s : State) → length (free_in s lo hi) < n → EndsWith IsPut (insert_from b lo hi key value n s)
  ends_from n s few = plan_ends (node_meaning b) (λ s. insert_next b lo hi s key value) IsPut (λ s. length (free_in s lo hi)) takes puts n s few

pub insert_ends : (b : Bounds) (lo hi : ℕ) (s : State) (key value : List ℕ) → IsRange b lo hi → EndsWith (λ op. (x : ℕ) × (op ≡ Put x key value)) (insert_plan b lo hi s key value)
insert_ends b lo hi s key value range =
    let inside : hi < b.objects = in_store b lo hi range.there in
    let below : b.objects < 2 ^ 32 = range.small.objects in
    let few : length (free_in s lo hi) < suc (size lo hi) = omega (arith, fewer (λ x. is_empty (s x)) (objects_from lo (size lo hi)), as_many (size lo hi) lo) in
    subst (λ (t : Bool). EndsWith (λ op. (x : ℕ) × (op ≡ Put x key value)) (if t then insert_from b lo hi key value (suc (size lo hi)) s else refused_by NoObject)) (sym range.there)
    (ends_from b lo hi key value (wide_enough b.cap range.wide) (in_order b lo hi range.there) inside (omega (arith, inside, below)) (suc (size lo hi)) s few)
