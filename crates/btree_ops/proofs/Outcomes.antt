-- Results, and the values of what is made.
use Rattle.std.proofs.Common.{◌≡◌, ◌<◌, ◌≤◌, ℕ, Bool, true, false, if◌then◌else◌, None, Some, List, [], ◌∷◌, map, Result, Ok, Err, refl, sym, ap, ◌∙◌, true≢false, arith}
use Rattle.std.specs.Prelude.{slice_get, slice_index_or}
use Rattle.std.specs.Result.{result_err, is_err}
use Rattle.std.proofs.lemmas.Bool.{lt-leb, le-leb}
use Rattle.std.proofs.lemmas.Option.{get_or_from_slice_get}
use Rattle.oper_core.specs.declared.refusal.Refusal.{Refusal}
use Rattle.oper_core.specs.declared.refusal.Refusal.TheVariants.{TooLarge}
use Rattle.key_entries.specs.Objects.{where_roomy, values_of}
use Rattle.btree_ops.specs.Node.{node_in}
use Rattle.btree_ops.specs.Effects.{pairs_of, pairs_to_fill, put_made, delete_made, halves_in, split_child_made, split_root_made, made_by}
use Rattle.btree_ops.specs.Operation.{bytes_of, objects_of}
use Rattle.btree_ops.specs.declared.made.Made.{Made}
use Rattle.btree_ops.specs.declared.node_op.NodeOp.{NodeOp}
use Rattle.btree_ops.specs.declared.node_op.NodeOp.TheVariants.{Put, Delete, SplitChild, SplitRoot}

-- what is no error has none
pub no_error : {A E : Type 0} (r : Result A E) → false ≡ is_err r → result_err r ≡ None
no_error (Ok x) e = refl
no_error (Err x) e = absurd (true≢false (sym e))

-- where values are short nothing is made, else all
pub no_values_made : (objects : List ℕ) (cap : ℕ) (r : Result Made Refusal) → cap < 1024 → map (λ x. []) objects ≡ values_of bytes_of objects (where_roomy cap r)
no_values_made objects cap (Err e) low = refl
no_values_made objects cap (Ok made) low = ap (λ (b : Bool). values_of bytes_of objects (if b then Ok made else Err TooLarge)) (sym (lt-leb 1024 cap (omega (arith, low))))

pub all_made : (objects : List ℕ) (cap : ℕ) (r : Result Made Refusal) → 1024 ≤ cap → values_of bytes_of objects r ≡ values_of bytes_of objects (where_roomy cap r)
all_made objects cap (Err e) room = refl
all_made objects cap (Ok made) room = ap (λ (b : Bool). values_of bytes_of objects (if b then Ok made else Err TooLarge)) (sym (le-leb 1024 cap (omega (arith, room))))

-- what an operation makes, from the values that it gets
module _ (op : NodeOp) (values : List (List ℕ)) (v : List ℕ) (got : slice_get values 0 ≡ Some v) where
  same : {A : Type 0} (f : List ℕ → A) → f v ≡ f (slice_index_or values 0 [])
  same f = ap f (sym (get_or_from_slice_get values 0 v [] got))

  pub put_by : (object : ℕ) (key new : List ℕ) → op ≡ Put object key new
      → values_of bytes_of (object ∷ []) (put_made key new (pairs_to_fill v)) ≡ values_of bytes_of (objects_of op) (made_by op values)
  put_by object key new is =
      same (λ l. values_of bytes_of (object ∷ []) (put_made key new (pairs_to_fill l))) ∙ ap (λ (op : NodeOp). values_of bytes_of (objects_of op) (made_by op values)) (sym is)

  pub delete_by : (object : ℕ) (key : List ℕ) → op ≡ Delete object key
      → values_of bytes_of (object ∷ []) (delete_made key (pairs_of (node_in v))) ≡ values_of bytes_of (objects_of op) (made_by op values)
  delete_by object key is =
      same (λ l. values_of bytes_of (object ∷ []) (delete_made key (pairs_of (node_in l)))) ∙ ap (λ (op : NodeOp). values_of bytes_of (objects_of op) (made_by op values)) (sym is)

  pub split_child_by : (parent child new : ℕ) (w : List ℕ) (r : Result Made Refusal) → op ≡ SplitChild parent child new → slice_get values 1 ≡ Some w
      → r ≡ split_child_made child new (node_in v) (halves_in (node_in w)) → values_of bytes_of (parent ∷ child ∷ new ∷ []) r ≡ values_of bytes_of (objects_of op) (made_by op values)
  split_child_by parent child new w r is second made =
      ap (values_of bytes_of (parent ∷ child ∷ new ∷ [])) made
      ∙ same (λ l. values_of bytes_of (parent ∷ child ∷ new ∷ []) (split_child_made child new (node_in l) (halves_in (node_in w))))
      ∙ ap (λ (l : List ℕ). values_of bytes_of (parent ∷ child ∷ new ∷ []) (split_child_made child new (node_in (slice_index_or values 0 [])) (halves_in (node_in l)))) (sym (get_or_from_slice_get values 1 w [] second))
      ∙ ap (λ (op : NodeOp). values_of bytes_of (objects_of op) (made_by op values)) (sym is)

  pub split_root_by : (root left right : ℕ) (r : Result Made Refusal) → op ≡ SplitRoot root left right
      → r ≡ split_root_made left right (halves_in (node_in v)) → values_of bytes_of (root ∷ left ∷ right ∷ []) r ≡ values_of bytes_of (objects_of op) (made_by op values)
  split_root_by root left right r is made =
      ap (values_of bytes_of (root ∷ left ∷ right ∷ [])) made
      ∙ same (λ l. values_of bytes_of (root ∷ left ∷ right ∷ []) (split_root_made left right (halves_in (node_in l))))
      ∙ ap (λ (op : NodeOp). values_of bytes_of (objects_of op) (made_by op values)) (sym is)
