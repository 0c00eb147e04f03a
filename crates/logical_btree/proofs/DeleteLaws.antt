-- A delete call: its plan acts on the content as on a map.
use Rattle.std.proofs.Common.{◌≡◌, inl, inr, ℕ, ◌==◌, Bool, true, false, not, ◌||◌, if◌then◌else◌, Option, None, Some, Result, Ok, Err, List, [], ◌∷◌, refl, sym, ap, ◌∙◌, subst, true≢false, option_and_then}
use Rattle.std.specs.Prelude.{IsTrue, nat_le}
use Rattle.std.proofs.lemmas.Bool.Decides.{eqb_tells}
use Rattle.std.specs.FinMap.{remove}
use Rattle.oper_core.specs.State.{State, with_values}
use Rattle.oper_core.specs.Meaning.{after}
use Rattle.oper_core.specs.declared.bounds.Bounds.{Bounds}
use Rattle.oper_core.specs.declared.refusal.Refusal.{Refusal}
use Rattle.oper_core.specs.declared.refusal.Refusal.TheVariants.{NoKey, TooLarge}
use Rattle.key_entries.specs.Entries.{byte_order}
use Rattle.key_entries.specs.EntryLaws.{both_true, true_both, if_true, same_some}
use Rattle.btree_ops.specs.Node.{leaf, node_in, node_code}
use Rattle.key_entries.specs.Pairs.{has, without}
use Rattle.key_entries.specs.Objects.{where_roomy}
use Rattle.btree_ops.specs.Effects.{pairs_of, pairs_to_fill, delete_made}
use Rattle.key_entries.specs.Objects.{values_of}
use Rattle.btree_ops.specs.Operation.{node_meaning, bytes_of}
use Rattle.btree_ops.specs.declared.made.Made.{Made}
use Rattle.btree_ops.specs.declared.made.Made.TheVariants.{One}
use Rattle.btree_ops.specs.declared.node_op.NodeOp.TheVariants.{Delete}
use Rattle.key_entries.specs.PairLaws.{delete_updates, delete_keeps}
use Rattle.logical_btree.specs.Walk.{Pair, Span, Way, is_within, root_in, if_sound, size, walk}
use Rattle.call_plans.specs.Plan.{refused_by, one_command}
use Rattle.call_plans.specs.PlanLaws.{the_last, no_command}
use Rattle.logical_btree.specs.Tree.{all_within, IsTree, content_of}
use Rattle.std.specs.Ordering.{eq_by_cmp}
use Rattle.logical_btree.specs.Plan.{TreePlan, delete_on, is_there, delete_plan}
use Rattle.logical_btree.specs.Laws.{CallActs, DeleteActs}
use Rattle.logical_btree.specs.declared.refusal.TreeRefusal.TheVariants.{NoObject, NoKey as TreeNoKey}
use Rattle.logical_btree.proofs.GoesLemmas.{tree_goes}
use Rattle.logical_btree.proofs.CommandLemmas.{at_fills, leaf_at}
use Rattle.logical_btree.proofs.PutLaws.{Rewritten, ends_at_leaf, delete_removes}

filter_within : (key : List ℕ) (span : Span) (es : List Pair) → IsTrue (all_within span es) → IsTrue (all_within span (without key es))
filter_within key span [] all = refl
filter_within key span (e ∷ es) all =
    let both = both_true (is_within e.0 span) (all_within span es) all in
    let rest = filter_within key span es both.1 in
    elim (eq_by_cmp byte_order key e.0) as (λ t. IsTrue (all_within span (if not t then e ∷ without key es else without key es))) [
      | true ↦ rest
      | false ↦ true_both (is_within e.0 span) (all_within span (without key es)) both.0 rest
    ]

-- a leaf with the key is not the empty value
pub to_delete : (key v : List ℕ) (pairs : List Pair) → IsTrue (has key pairs) → pairs_to_fill v ≡ Some pairs → pairs_of (node_in v) ≡ Some pairs
to_delete key [] pairs has_it e = absurd (true≢false (sym has_it ∙ ap (λ (l : List Pair). has key l) (sym (same_some [] pairs e))))
to_delete key (x ∷ bytes) pairs has_it e = e

module _ (b : Bounds) (lo hi : ℕ) (s : State) (key : List ℕ) (w : Way) (goes : walk lo hi s key ≡ Ok w) (wide : IsTrue (nat_le 1024 b.cap)) (there : IsTrue (has key w.pairs)) where
  made : where_roomy b.cap (delete_made key (pairs_of (node_in (s w.object)))) ≡ Ok (One (leaf (without key w.pairs)))
  made =
      let at = at_fills lo hi s w.object w.pairs (ends_at_leaf lo hi s key (size lo hi) lo w goes) in
      ap (λ (o : Option (List Pair)). where_roomy b.cap (delete_made key o)) (to_delete key (s w.object) w.pairs there at.fills)
      ∙ ap (λ (t : Bool). where_roomy b.cap (if t then Ok (One (leaf (without key w.pairs))) else Err NoKey)) there
      ∙ if_true (nat_le 1024 b.cap) (Ok (One (leaf (without key w.pairs)))) (Err TooLarge) wide

  pub delete_rewrites : Rewritten lo hi s (after (node_meaning b) s (Delete w.object key)) key None w
  delete_rewrites =
      let now : List Pair = without key w.pairs in
      let at = at_fills lo hi s w.object w.pairs (ends_at_leaf lo hi s key (size lo hi) lo w goes) in
      let t : State = after (node_meaning b) s (Delete w.object key) in
      let values : t ≡ with_values s (w.object ∷ []) (node_code (leaf now) ∷ []) = ap (λ (r : Result Made Refusal). with_values s (w.object ∷ []) (values_of bytes_of (w.object ∷ []) r)) made in
      let itself : (w.object == w.object) ≡ true = elim (eqb_tells w.object w.object) [ inl same ↦ same.0 | inr other ↦ absurd (other.1 refl) ] in
      let here : t w.object ≡ node_code (leaf now) =
      ap (λ (u : State). u w.object) values
      ∙ ap (λ (c : Bool). if c || false then (if c then node_code (leaf now) else []) else s w.object) itself in
      record {
        now = now;
        becomes = leaf_at lo hi t w.object now here (delete_keeps key w.pairs at.node);
        others = λ y other. elim (eqb_tells y w.object) [
          | inl same ↦ absurd (other same.1)
          | inr differs ↦
              let same_value : t y ≡ s y = ap (λ (u : State). u y) values ∙ ap (λ (c : Bool). if c || false then (if c then node_code (leaf now) else []) else s y) differs.0 in
              ap (λ (v : List ℕ). option_and_then (if_sound lo hi) (if y == lo then root_in v else node_in v)) same_value
        ];
        update = delete_updates key w.pairs;
        held = λ span all is. filter_within key span w.pairs all;
      }

-- on a tree a delete acts as on a map
pub delete_acts : (b : Bounds) (lo hi : ℕ) (s : State) (key : List ℕ) → IsTrue (nat_le 1024 b.cap) → IsTrue (is_there b lo hi) → IsTree lo hi s → DeleteActs b lo hi s key
delete_acts b lo hi s key wide inside tree =
    let g = tree_goes key lo hi s tree in
    let plan : delete_plan b lo hi s key ≡ delete_on key (Ok g.way) = ap (λ (t : Bool). if t then delete_on key (walk lo hi s key) else refused_by NoObject) inside ∙ ap (delete_on key) g.is in
    subst (λ (p : TreePlan). CallActs b lo hi s (λ m. remove m key) p) (sym plan) (by_key g.way g.is (has key g.way.pairs) refl)
  where
    by_key : (w : Way) → walk lo hi s key ≡ Ok w → (h : Bool) → has key w.pairs ≡ h → CallActs b lo hi s (λ m. remove m key) (if h then one_command (Delete w.object key) else refused_by TreeNoKey)
    by_key w goes false e = no_command (node_meaning b) (IsTree lo hi) (content_of lo hi) (λ m. remove m key) s TreeNoKey tree
    by_key w goes true e =
        let new = delete_removes lo hi s (after (node_meaning b) s (Delete w.object key)) key w goes (delete_rewrites b lo hi s key w goes wide e) tree in
        the_last (node_meaning b) (IsTree lo hi) (content_of lo hi) (λ m. remove m key) s (Delete w.object key) (record { kept = new.0; changed = new.1 }) tree
