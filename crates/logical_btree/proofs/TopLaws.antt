-- The laws of the calls, on the range of a store.
use Rattle.std.proofs.Common.{◌≡◌, ◌≤◌, ◌<◌, ℕ, ◌^◌, true, false, List, refl, arith}
use Rattle.std.specs.Prelude.{IsTrue, nat_le}
use Rattle.std.proofs.lemmas.Bool.{leb-true, le-leb}
use Rattle.oper_core.specs.State.{State}
use Rattle.oper_core.specs.declared.bounds.Bounds.{Bounds}
use Rattle.key_entries.specs.Short.{is_short}
use Rattle.btree_ops.specs.declared.node_op.NodeOp.{NodeOp}
use Rattle.call_plans.specs.Plan.{goes_on}
use Rattle.logical_btree.specs.Tree.{IsTree}
use Rattle.logical_btree.specs.Plan.{insert_next}
use Rattle.logical_btree.specs.Laws.{IsRange, SplitKeeps, InsertActs, DeleteActs}
use Rattle.logical_btree.proofs.AcceptedLaws.{in_order, in_store}
use Rattle.logical_btree.proofs.DeleteLaws.{delete_acts}
use Rattle.logical_btree.proofs.InsertLaws.{insert_acts}
use Rattle.logical_btree.proofs.SplitsKeepLaws.{splits_keep}

pub wide_enough : (cap : ℕ) → 1024 ≤ cap → IsTrue (nat_le 1024 cap)
wide_enough cap wide = le-leb 1024 cap wide

pub too_narrow : (cap : ℕ) → cap < 1024 → nat_le 1024 cap ≡ false
too_narrow cap narrow =
    elim (nat_le 1024 cap) as (λ t. nat_le 1024 cap ≡ t → t ≡ false) [
      | true ↦ λ e. absurd (omega (arith, leb-true 1024 cap e, narrow))
      | false ↦ λ e. refl
    ] refl

module _ (b : Bounds) (lo hi : ℕ) (range : IsRange b lo hi) where
  pub keeps_in_range : (s : State) (key value : List ℕ) (op : NodeOp) → IsTree lo hi s → insert_next b lo hi s key value ≡ goes_on op → SplitKeeps b lo hi s op
  keeps_in_range s key value op tree is =
      let inside : hi < b.objects = in_store b lo hi range.there in
      let few : b.objects < 2 ^ 32 = range.small.objects in
      splits_keep b lo hi key value (wide_enough b.cap range.wide) (in_order b lo hi range.there) inside (omega (arith, inside, few)) s op tree is

  pub insert_in_range : (s : State) (key value : List ℕ) → IsTrue (is_short key) → IsTrue (is_short value) → IsTree lo hi s → InsertActs b lo hi s key value
  insert_in_range s key value short fits tree =
      insert_acts b lo hi key value (wide_enough b.cap range.wide) short fits (λ s op tree is. keeps_in_range s key value op tree is) s range.there tree

  pub delete_in_range : (s : State) (key : List ℕ) → IsTree lo hi s → DeleteActs b lo hi s key
  delete_in_range s key tree = delete_acts b lo hi s key (wide_enough b.cap range.wide) range.there tree
