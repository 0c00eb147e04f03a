use Rattle.std.proofs.Common.{◌≡◌, ℕ, List, [], ◌∷◌, Result, Ok, Err, Some, map, refl}
use Rattle.std.specs.Result.{result_err}
use Rattle.oper_core.specs.declared.bounds.Bounds.{Bounds}
use Rattle.oper_core.specs.declared.refusal.Refusal.{Refusal}
use Rattle.op_rows.specs.RowLaws.{rows_refused}
use Rattle.op_meaning.specs.Table.{plain_row}
use Rattle.op_meaning.specs.TableLaws.{are_plain_rows}
use Rattle.app_program.specs.Table.{program_row}
use Rattle.app_program.specs.TableLaws.{are_program_rows}
use Rattle.key_entries.specs.Objects.{where_roomy, values_of}
use Rattle.btree_ops.specs.Effects.{made_by}
use Rattle.btree_ops.specs.Operation as nodes
use Rattle.hash_ops.specs.Operation as hashes
use Rattle.hash_ops.specs.Effects as hash_effects
use Rattle.page_ops.specs.Effects as page_effects
use Rattle.page_ops.specs.Operation as pages
use Rattle.op_codec.specs.AllOps.{AllOps, all_meaning}
use Rattle.op_codec.specs.declared.sum.Sum.TheVariants.{First, Second}
use Rattle.op_codec.proofs.refused_laws.refused_makes_empty.Goals as goal

-- where nothing is made, no object gets a value
none_made : {M : Type 0} (bytes_of : M → List (List ℕ)) (objects : List ℕ) (made : Result M Refusal) (r : Refusal) → result_err made ≡ Some r
    → values_of bytes_of objects made ≡ map (λ x. []) objects
none_made bytes_of objects (Ok made) r e = cc
none_made bytes_of objects (Err cause) r e = refl

no_page : (made : page_effects.Made) (r : Refusal) → result_err made ≡ Some r → pages.value_made made ∷ [] ≡ [] ∷ []
no_page (Ok made) r e = cc
no_page (Err cause) r e = refl

empty : (b : Bounds) (op : AllOps) (values : List (List ℕ)) (r : Refusal) → (all_meaning b).check op values ≡ Some r
    → (all_meaning b).effect op values ≡ map (λ x. []) ((all_meaning b).writes op)
empty b (First op) values r e = rows_refused plain_row are_plain_rows b op values r e
empty b (Second (First op)) values r e = none_made nodes.bytes_of (nodes.objects_of op) (where_roomy b.cap (made_by op values)) r e
empty b (Second (Second (First op))) values r e = rows_refused program_row are_program_rows b op values r e
empty b (Second (Second (Second (First op)))) values r e = none_made hashes.bytes_of (hashes.objects_of op) (where_roomy b.cap (hash_effects.made_by op values)) r e
empty b (Second (Second (Second (Second op)))) values r e = no_page (page_effects.where_short b.cap (page_effects.made_by op values)) r e

pub returns : goal.returns
returns c = empty
