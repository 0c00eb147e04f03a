-- What a way, or a turn, says of the plan of a call.
use Rattle.std.proofs.Common.{◌≡◌, ◌≤◌, ◌<◌, refl, sym, ap, ◌∙◌, ℕ, Bool, true, false, None, Some, Result, Ok, Err, List, [], ◌∷◌, if◌then◌else◌}
use Rattle.std.specs.Prelude.{nat_le, nat_lt, ◌&&◌}
use Rattle.std.specs.FinMap.Entries.{find}
use Rattle.std.proofs.lemmas.Bool.{cond-true, cond-false, le-leb, lt-ltb, le-ltb}
use Rattle.oper_core.specs.State.{State}
use Rattle.oper_core.specs.declared.bounds.Bounds.{Bounds}
use Rattle.key_entries.specs.Entries.{byte_order}
use Rattle.key_entries.specs.EntryLaws.{true_both}
use Rattle.key_entries.specs.Pairs.{has}
use Rattle.btree_ops.specs.declared.node_op.NodeOp.TheVariants.{Delete}
use Rattle.logical_btree.specs.Walk.{Pair, Way, walk}
use Rattle.logical_btree.specs.Plan.{delete_on, delete_plan, first_full, get_answer, get_on, is_there, steps_of}
use Rattle.logical_btree.specs.declared.refusal.TreeRefusal.TheVariants as refusals
use Rattle.tree_client.specs.Finding.{way_end}
use Rattle.tree_client.specs.Answers.{TreeErr, bad_tree}
use Rattle.tree_client.specs.declared.walking.WayEnd.{WayEnd}

-- the range ends below the last object of the store, or not
pub is_within : (b : Bounds) (lo hi : ℕ) → lo ≤ hi → hi < b.objects → is_there b lo hi ≡ true
is_within b lo hi order below = true_both (nat_le lo hi) (nat_lt hi b.objects) (le-leb lo hi order) (lt-ltb hi b.objects below)

pub is_past : (b : Bounds) (lo hi : ℕ) → b.objects ≤ hi → is_there b lo hi ≡ false
is_past b lo hi past = both (nat_le lo hi) (nat_lt hi b.objects) (le-ltb hi b.objects past)
  where
    both : (x y : Bool) → y ≡ false → (x && y) ≡ false
    both true y is = is
    both false y is = refl

-- a way that met a bad object
pub record IsBad (r : Result Way ℕ) (e : TreeErr) : Type 0 where
  pub bad : ℕ
  pub way : r ≡ Err bad
  pub error : e ≡ bad_tree bad

pub bad_way : (r : Result Way ℕ) (e : TreeErr) → Err e ≡ way_end None None r → IsBad r e
bad_way (Err bad) e is = record { bad = bad; way = refl; error = same_err e (bad_tree bad) is }
  where
    same_err : (a b : TreeErr) → (let x : Result WayEnd TreeErr = Err a in let y : Result WayEnd TreeErr = Err b in x ≡ y) → a ≡ b
    same_err a b same = cc same
bad_way (Ok way) e is = cc

-- a way that ended at a leaf
pub record IsEnd (r : Result Way ℕ) (end : WayEnd) : Type 0 where
  pub way : Way
  pub is : r ≡ Ok way
  pub leaf : end.leaf ≡ way.object
  pub pairs : end.pairs.items ≡ way.pairs
  pub full : end.full ≡ first_full None (steps_of way)

pub end_of_way : (r : Result Way ℕ) (end : WayEnd) → Ok end ≡ way_end None None r → IsEnd r end
end_of_way (Err bad) end is = cc
end_of_way (Ok way) end is =
    let found : WayEnd = record { leaf = way.object; pairs = record { items = way.pairs }; full = first_full None (steps_of way) } in
    let same : end ≡ found = same_ok end found is in
    record { way = way; is = refl; leaf = ap (λ (e : WayEnd). e.leaf) same; pairs = ap (λ (e : WayEnd). e.pairs.items) same; full = ap (λ (e : WayEnd). e.full) same }
  where
    same_ok : (a b : WayEnd) → (let x : Result WayEnd TreeErr = Ok a in let y : Result WayEnd TreeErr = Ok b in x ≡ y) → a ≡ b
    same_ok a b same = cc same

module _ (b : Bounds) (lo hi : ℕ) (s : State) (key : List ℕ) where
  -- what a get answers
  pub get_past : b.objects ≤ hi → get_answer b lo hi s key ≡ Err refusals.NoObject
  get_past past = cond-false (is_there b lo hi) (get_on key (walk lo hi s key)) (Err refusals.NoObject) (is_past b lo hi past)

  get_there : is_there b lo hi ≡ true → get_answer b lo hi s key ≡ get_on key (walk lo hi s key)
  get_there there = cond-true (is_there b lo hi) (get_on key (walk lo hi s key)) (Err refusals.NoObject) there

  pub get_bad : is_there b lo hi ≡ true → (e : TreeErr) → (bad : IsBad (walk lo hi s key) e) → get_answer b lo hi s key ≡ Err (refusals.BadTree bad.bad)
  get_bad there e bad = get_there there ∙ ap (get_on key) bad.way

  pub get_found : is_there b lo hi ≡ true → (end : WayEnd) → IsEnd (walk lo hi s key) end → get_answer b lo hi s key ≡ Ok (find byte_order key end.pairs.items)
  get_found there end found = get_there there ∙ ap (get_on key) found.is ∙ ap (λ (l : List Pair). Ok (find byte_order key l)) (sym found.pairs)

  -- the plan of a delete
  delete_there : is_there b lo hi ≡ true → delete_plan b lo hi s key ≡ delete_on key (walk lo hi s key)
  delete_there there = cond-true (is_there b lo hi) (delete_on key (walk lo hi s key)) (record { commands = []; refusal = Some refusals.NoObject }) there

  pub delete_past : b.objects ≤ hi → delete_plan b lo hi s key ≡ record { commands = []; refusal = Some refusals.NoObject }
  delete_past past = cond-false (is_there b lo hi) (delete_on key (walk lo hi s key)) (record { commands = []; refusal = Some refusals.NoObject }) (is_past b lo hi past)

  pub delete_bad : is_there b lo hi ≡ true → (e : TreeErr) → (bad : IsBad (walk lo hi s key) e) → delete_plan b lo hi s key ≡ record { commands = []; refusal = Some (refusals.BadTree bad.bad) }
  delete_bad there e bad = delete_there there ∙ ap (delete_on key) bad.way

  delete_found : is_there b lo hi ≡ true → (end : WayEnd) → IsEnd (walk lo hi s key) end
      → delete_plan b lo hi s key ≡ (if has key end.pairs.items then record { commands = Delete end.leaf key ∷ []; refusal = None } else record { commands = []; refusal = Some refusals.NoKey })
  delete_found there end found =
      delete_there there ∙ ap (delete_on key) found.is
      ∙ ap (λ (l : List Pair). (if has key l then record { commands = Delete found.way.object key ∷ []; refusal = None } else record { commands = []; refusal = Some refusals.NoKey })) (sym found.pairs)
      ∙ ap (λ (x : ℕ). (if has key end.pairs.items then record { commands = Delete x key ∷ []; refusal = None } else record { commands = []; refusal = Some refusals.NoKey })) (sym found.leaf)

  pub delete_absent : is_there b lo hi ≡ true → (end : WayEnd) → IsEnd (walk lo hi s key) end → has key end.pairs.items ≡ false → delete_plan b lo hi s key ≡ record { commands = []; refusal = Some refusals.NoKey }
  delete_absent there end found absent =
      delete_found there end found
      ∙ cond-false (has key end.pairs.items) (record { commands = Delete end.leaf key ∷ []; refusal = None }) (record { commands = []; refusal = Some refusals.NoKey }) absent

  pub delete_present : is_there b lo hi ≡ true → (end : WayEnd) → IsEnd (walk lo hi s key) end → has key end.pairs.items ≡ true → delete_plan b lo hi s key ≡ record { commands = Delete end.leaf key ∷ []; refusal = None }
  delete_present there end found here =
      delete_found there end found
      ∙ cond-true (has key end.pairs.items) (record { commands = Delete end.leaf key ∷ []; refusal = None }) (record { commands = []; refusal = Some refusals.NoKey }) here
