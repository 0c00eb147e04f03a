use Rattle.std.proofs.Common.{◌≡◌, ℕ, List, [], map, ap, ◌∙◌, subst, IfOk, Result}
use Rattle.oper_core.specs.declared.refusal.Refusal.{Refusal}
use Rattle.key_entries.specs.Objects.{where_roomy, values_of}
use Rattle.hash_ops.specs.Effects.{made_by}
use Rattle.hash_ops.specs.Operation.{objects_of, bytes_of}
use Rattle.hash_ops.specs.declared.made.Made.{Made}
use Rattle.hash_ops.proofs.hash_op.HashOpOper.apply.Goals as goal

pub returns-in-Err : goal.returns-in-Err
returns-in-Err c =
    let objects : List ℕ = objects_of c.args.self.now in
    let same : c.as_slice.result.now ≡ objects = c.as_slice.ensures.value ∙ c.writes.ensures c.args.b in
    let empty : map (λ x. []) c.as_slice.result.now ≡ values_of bytes_of objects (where_roomy c.args.b.cap (made_by c.args.self.now c.args.values.now)) =
    ap (λ (l : List ℕ). map (λ x. []) l) same ∙ ap (λ (r : Result Made Refusal). values_of bytes_of objects r) c.in-Err.ensures in
    subst (λ (v : List (List ℕ)). IfOk c.no_values.result (λ made. made ≡ v)) empty c.no_values.ensures
