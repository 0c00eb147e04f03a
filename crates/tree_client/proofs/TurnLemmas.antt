-- The command that comes next in an insert.
use Rattle.std.proofs.Common.{◌≡◌, ◌≤◌, ◌<◌, refl, sym, ap, ◌∙◌, subst, ℕ, suc, true, false, Option, None, Some, Result, Ok, Err, List, [], ◌∷◌, if◌then◌else◌}
use Rattle.std.proofs.lemmas.Bool.{cond-true, cond-false}
use Rattle.oper_core.specs.State.{State}
use Rattle.oper_core.specs.declared.bounds.Bounds.{Bounds}
use Rattle.formats.specs.Objects.{bounds_of}
use Rattle.formats.specs.declared.params.Params.{Params}
use Rattle.key_entries.specs.Pairs.{has}
use Rattle.btree_ops.specs.Operation.{node_meaning}
use Rattle.btree_ops.specs.declared.node_op.NodeOp.{NodeOp}
use Rattle.btree_ops.specs.declared.node_op.NodeOp.TheVariants.{Put}
use Rattle.op_codec.specs.AllOps.{node}
use Rattle.call_plans.specs.Laws.{AllAccepted, FirstTooLarge}
use Rattle.call_plans.specs.Plan.{IsNext, ends, refuses, refused_by}
use Rattle.logical_btree.specs.Walk.{Pair, walk, size}
use Rattle.logical_btree.specs.Plan.{Full, TreePlan, first_full, free_in, insert_from, insert_next, insert_plan, is_there, next_on, next_with, split_with, steps_of}
use Rattle.logical_btree.specs.declared.refusal.TreeRefusal.TheVariants as refusals
use Rattle.range_calls.specs.Due.{IsDue}
use Rattle.range_calls.specs.DueLaws.{next_due}
use Rattle.range_calls.specs.Turns.{turn_answer}
use Rattle.range_calls.specs.declared.turn.Turn.{Turn}
use Rattle.tree_client.specs.Answers.{TreeErr}
use Rattle.tree_client.specs.Finding.{split_answer}
use Rattle.tree_client.specs.declared.walking.WayEnd.{WayEnd}
use Rattle.tree_client.proofs.PlanLemmas.{IsBad, IsEnd, is_past}

module _ (b : Bounds) (lo hi : ℕ) (s : State) (key value : List ℕ) where
  abbrev free : List ℕ
  free = free_in s lo hi

  pub next_bad : (e : TreeErr) → (bad : IsBad (walk lo hi s key) e) → insert_next b lo hi s key value ≡ refuses (refusals.BadTree bad.bad)
  next_bad e bad = ap (next_on key value free) bad.way

  next_found : (end : WayEnd) → IsEnd (walk lo hi s key) end
      → insert_next b lo hi s key value ≡ (if has key end.pairs.items then ends (Put end.leaf key value) else next_with (Put end.leaf key value) free end.full)
  next_found end found =
      ap (next_on key value free) found.is
      ∙ ap (λ (x : ℕ). (if has key found.way.pairs then ends (Put x key value) else next_with (Put x key value) free (first_full None (steps_of found.way)))) (sym found.leaf)
      ∙ ap (λ (l : List Pair). (if has key l then ends (Put end.leaf key value) else next_with (Put end.leaf key value) free (first_full None (steps_of found.way)))) (sym found.pairs)
      ∙ ap (λ (f : Option Full). (if has key end.pairs.items then ends (Put end.leaf key value) else next_with (Put end.leaf key value) free f)) (sym found.full)

  -- the key is there
  pub next_present : (end : WayEnd) → IsEnd (walk lo hi s key) end → has key end.pairs.items ≡ true → insert_next b lo hi s key value ≡ ends (Put end.leaf key value)
  next_present end found here =
      next_found end found ∙ cond-true (has key end.pairs.items) (ends (Put end.leaf key value)) (next_with (Put end.leaf key value) free end.full) here

  next_absent : (end : WayEnd) → IsEnd (walk lo hi s key) end → has key end.pairs.items ≡ false → insert_next b lo hi s key value ≡ next_with (Put end.leaf key value) free end.full
  next_absent end found absent =
      next_found end found ∙ cond-false (has key end.pairs.items) (ends (Put end.leaf key value)) (next_with (Put end.leaf key value) free end.full) absent

  -- no node on the way is full
  pub next_put : (end : WayEnd) → IsEnd (walk lo hi s key) end → has key end.pairs.items ≡ false → end.full ≡ None → insert_next b lo hi s key value ≡ ends (Put end.leaf key value)
  next_put end found absent none = next_absent end found absent ∙ ap (next_with (Put end.leaf key value) free) none

  -- one is
  pub next_split : (end : WayEnd) → IsEnd (walk lo hi s key) end → has key end.pairs.items ≡ false → (full : Full) → end.full ≡ Some full → insert_next b lo hi s key value ≡ split_with free full.child full.parent
  next_split end found absent full is = next_absent end found absent ∙ ap (next_with (Put end.leaf key value) free) is

-- a split that is found is the next turn
pub split_turn : (free : List ℕ) (child : ℕ) (parent : Option ℕ) (op : NodeOp) → Ok op ≡ split_answer (split_with free child parent)
    → Ok (record { op = node op; last = false }) ≡ turn_answer node (split_with free child parent)
split_turn [] child None op is = cc
split_turn (x ∷ []) child None op is = cc
split_turn (x ∷ y ∷ free) child None op is = ap (λ (o : NodeOp). (let r : Result Turn TreeErr = Ok (record { op = node o; last = false }) in r)) (cc is)
split_turn [] child (Some parent) op is = cc
split_turn (x ∷ free) child (Some parent) op is = ap (λ (o : NodeOp). (let r : Result Turn TreeErr = Ok (record { op = node o; last = false }) in r)) (cc is)

-- one that is not is refused by it
pub split_refused : (free : List ℕ) (child : ℕ) (parent : Option ℕ) (e : TreeErr) → Err e ≡ split_answer (split_with free child parent) → Err e ≡ turn_answer node (split_with free child parent)
split_refused [] child None e is = cc is
split_refused (x ∷ []) child None e is = cc is
split_refused (x ∷ y ∷ free) child None e is = cc
split_refused [] child (Some parent) e is = cc is
split_refused (x ∷ free) child (Some parent) e is = cc

-- ---- the plan of an insert

module _ (b : Bounds) (lo hi : ℕ) (key value : List ℕ) (s : State) where
  -- in a range that is there
  pub plan_there : is_there b lo hi ≡ true → insert_plan b lo hi s key value ≡ insert_from b lo hi key value (suc (size lo hi)) s
  plan_there there = cond-true (is_there b lo hi) (insert_from b lo hi key value (suc (size lo hi)) s) (refused_by refusals.NoObject) there

  -- in one that is not
  pub plan_past : b.objects ≤ hi → insert_plan b lo hi s key value ≡ refused_by refusals.NoObject
  plan_past past = cond-false (is_there b lo hi) (insert_from b lo hi key value (suc (size lo hi)) s) (refused_by refusals.NoObject) (is_past b lo hi past)

-- a command that comes next is due
pub insert_due : (p : Params) (lo hi : ℕ) (s : State) (key value : List ℕ) → is_there (bounds_of p) lo hi ≡ true
    → (1024 ≤ p.cap → AllAccepted (node_meaning (bounds_of p)) s (insert_plan (bounds_of p) lo hi s key value).commands)
    → (p.cap < 1024 → FirstTooLarge (node_meaning (bounds_of p)) s (insert_plan (bounds_of p) lo hi s key value).commands)
    → (op : NodeOp) → IsNext (λ t. insert_next (bounds_of p) lo hi t key value) s op → IsDue p s (node op)
insert_due p lo hi s key value there accepted large =
    let b = bounds_of p in
    let whole = plan_there b lo hi key value s there in
    next_due node (node_meaning b) (λ t. insert_next b lo hi t key value) p (size lo hi) s (λ op. refl)
    (λ wide. subst (λ (q : TreePlan). AllAccepted (node_meaning b) s q.commands) whole (accepted wide))
    (λ narrow. subst (λ (q : TreePlan). FirstTooLarge (node_meaning b) s q.commands) whole (large narrow))
